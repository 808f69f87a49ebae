-- Past the end there is no character, an ASCII byte is one, and four bytes decide any other.
use Rattle.std.proofs.Common.{sym, ◌∙◌, arith}
use Rattle.utf8.specs.Laws.{front_end, front_at, front_ascii}
use Rattle.utf8.proofs.char_at.Goals as goal

pub returns-in_err-a : goal.returns-in_err-a
returns-in_err-a c = c.from_residual.ensures ∙ sym (front_end c.args.s.now c.args.at c.in_err-a.ensures.lookup.3)

pub returns-then-a-le127 : goal.returns-then-a-le127
returns-then-a-le127 c =
    let a = c.args in
    let read = c.in_ok-a.ensures.lookup.3 in
    rw (front_ascii a.s.now a.at read.0 (omega (arith, read.1 0)), ← read.1 0)

pub returns : goal.returns
returns c =
    let a = c.args in
    let read = c.in_ok-a.ensures.lookup.3 in
    rw (front_at a.s.now a.at read.0, ← read.1 0, ← c.byte.ensures, ← c.byte-2.ensures, ← c.byte-3.ensures) c.decode.ensures
