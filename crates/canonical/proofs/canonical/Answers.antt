-- What the check refuses is refused.
use Rattle.std.proofs.Common.{sym, ◌∙◌}
use Rattle.refusal.proofs.Passed.{passed}
use Rattle.canonical.specs.Canonical.{canonical_of}
use Rattle.canonical.specs.AnswerLaws.{refused_answer, canonical_bad}
use Rattle.canonical.proofs.canonical.Goals as goal

pub returns-in_err-check : goal.returns-in_err-check
returns-in_err-check c =
    let a = c.args in
    let p = passed c.from_residual.result c.from_residual.ensures.1 in
    let w = refused_answer a.s.now a.out.now (canonical_of a.s.now) _ (canonical_bad a.s.now _ (sym c.check.ensures ∙ c.in_err-check.was)) in
    (p ∙ w.0, w.1)
