-- A refusal that is passed on by `?` is the refusal that came.
use Rattle.std.specs.Prelude.{◌≡◌, Result, Err}
use Rattle.std.specs.Result.{IsErrAnd}
use Rattle.std.proofs.Common.{ap, ◌∙◌}
use Rattle.std.proofs.lemmas.Result.{err_from_is_err_and}
use Rattle.refusal.specs.declared.Refusal.{Refusal}

pub passed : {T : Type 0} {x : Refusal} (r : Result T Refusal) → IsErrAnd r (λ y. y ≡ x) → r ≡ Err x
passed r h = let p = err_from_is_err_and r h in p.1 ∙ ap Err p.2
