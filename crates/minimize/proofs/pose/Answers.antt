-- A text that is refused is the problem's refusal; one that reads has a tree's nodes.
use Rattle.std.proofs.Common.{sym, subst, ◌∙◌, Result}
use Rattle.refusal.proofs.Passed.{passed}
use Rattle.refusal.specs.declared.Refusal.{Refusal}
use Rattle.minimize.specs.declared.Posed.{Posed}
use Rattle.minimize.specs.Minimize.{problem_of, places_of}
use Rattle.minimize.specs.Posed.{Poses}
use Rattle.minimize.proofs.ProblemLaws.{text_refused, text_reads}
use Rattle.minimize.proofs.pose.Goals as goal

pub returns-in_err-p : goal.returns-in_err-p
returns-in_err-p c =
    let a = c.args in
    let p = passed c.from_residual.result c.from_residual.ensures.1 in
    let w = text_refused a.s.now a.m a.file.now a.to.now a.places.now _ (sym c.parse.ensures ∙ c.in_err-p.was) in
    subst (λ (x : Result Posed Refusal). Poses x (problem_of a.s.now a.m a.file.now) (places_of a.s.now a.m a.file.now) a.to.now a.places.now)
    (sym (p)) w

pub returns : goal.returns
returns c = text_reads _ _ _ _ _ _ (sym c.parse.ensures ∙ c.in_ok-p.was) _ c.pose_nodes.ensures
