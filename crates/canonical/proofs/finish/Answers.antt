-- By the comparison with the text, and by the buffer's size.
use Rattle.std.proofs.Common.{sym, ◌∙◌, arith, take}
use Rattle.canonical.specs.AnswerLaws.{answer_same, finish_short, finish_written}
use Rattle.canonical.proofs.finish.Goals as goal

pub returns-then-equal : goal.returns-then-equal
returns-then-equal c =
    let a = c.args in
    answer_same a.s.now a.out.now (take a.n a.draft.now) (sym c.equal.ensures ∙ c.if-equal.true)

pub returns-then-out-n : goal.returns-then-out-n
returns-then-out-n c =
    let a = c.args in
    finish_short a.s.now a.out.now a.draft.now a.n c.requires (sym c.equal.ensures ∙ c.if-equal.false) (omega arith)

pub returns : goal.returns
returns c =
    let a = c.args in
    let w = finish_written a.s.now a.out.now a.draft.now a.n c.requires (sym c.equal.ensures ∙ c.if-equal.false) (omega arith) in
    (w.0, c.put.ensures.1 ∙ w.1)
