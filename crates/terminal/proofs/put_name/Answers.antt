-- The name, where it has room.
use mathlib.Core.Path.{sym, ap, ◌∙◌}
use native.Mathlib.Omega.{arith}
use Rattle.names.specs.Layout.{name_at}
use Rattle.packed.specs.Packed.{answered_as, small_as}
use Rattle.terminal.proofs.NameLaws.{name_fits, name_small}
use Rattle.terminal.proofs.put_name.Goals as goal

pub returns-then-out-n : goal.returns-then-out-n
returns-then-out-n c =
    let a = c.args in
    let l = c.name_len-n.ensures in
    let f = name_small (name_at a.k) a.out.now (omega (arith, l, c.if-out-n.true)) in
    (c.small.ensures ∙ ap small_as l ∙ sym f.0, sym f.1)

pub returns : goal.returns
returns c =
    let a = c.args in
    let l = c.name_len-n.ensures in
    let f = name_fits (name_at a.k) a.out.now (omega (arith, l, c.if-out-n.false)) in
    (c.answered.ensures ∙ ap (answered_as 0) l ∙ sym f.0, c.put_name.ensures.1 ∙ sym f.1)
