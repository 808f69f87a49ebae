-- A list that is refused is the problem's refusal; one that is valid has licensees.
use Rattle.std.proofs.Common.{sym, subst, ◌∙◌, Result}
use Rattle.refusal.proofs.Passed.{passed}
use Rattle.refusal.specs.declared.Refusal.{Refusal}
use Rattle.minimize.specs.declared.Posed.{Posed}
use Rattle.minimize.specs.Posed.{PosesNodes}
use Rattle.minimize.proofs.ProblemLaws.{list_refused, list_reads}
use Rattle.minimize.proofs.Sources.pose_nodes.Goals as goal

pub returns-in_err-a : goal.returns-in_err-a
returns-in_err-a c =
    let a = c.args in
    let p = passed c.from_residual.result c.from_residual.ensures.1 in
    let w = list_refused a.self.now.file.now a.self.now.text.now a.nodes.now a.to.now a.places.now _ (sym c.read.ensures.0 ∙ c.in_err-a.was) in
    subst (λ (x : Result Posed Refusal). PosesNodes x a.self.now.file.now a.self.now.text.now a.nodes.now a.to.now a.places.now)
    (sym (p)) w

pub returns : goal.returns
returns c = list_reads _ _ _ _ _ _ (sym c.read.ensures.0 ∙ c.in_ok-a.was) c.read.ensures.1 _ c.pose_list.ensures
