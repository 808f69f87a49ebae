-- Where the first answer holds, one of the two does; where it fails, one of the two holds where the second does.
use Rattle.std.proofs.Common.{◌≡◌, ℕ, ◌+◌, ◌*◌, ◌/◌, ◌%◌, Bool, true, false, not, eqb, refl, arith, eqb-true}
use Rattle.std.proofs.lemmas.Bool.{eqb-false}
use Rattle.masks.specs.Value.{step, digit}
use Rattle.masks.proofs.either.Goals as goal

holds : (st : ℕ) (b : Bool) → eqb (st % 4) 0 ≡ b → st % 2 ≡ 1 → st / 4 * 2 + 1 ≡ st / 4 * 2 + digit (not b)
holds st true e h = let p : st % 4 ≡ 0 = eqb-true (st % 4) 0 e in absurd (omega arith)
holds st false e h = refl

fails : (st : ℕ) (b : Bool) → eqb (st % 4) 0 ≡ b → (st % 2 ≡ 1 → ⊥) → st / 2 ≡ st / 4 * 2 + digit (not b)
fails st true e h = let p : st % 4 ≡ 0 = eqb-true (st % 4) 0 e in omega arith
fails st false e h = let p : st % 4 ≡ 0 → ⊥ = eqb-false (st % 4) 0 e in omega arith

pub returns-then-st-eq1 : goal.returns-then-st-eq1
unfolding step
returns-then-st-eq1 c = holds c.args.st (eqb (c.args.st % 4) 0) refl (omega arith)

pub returns-else-st-eq1 : goal.returns-else-st-eq1
unfolding step
returns-else-st-eq1 c = fails c.args.st (eqb (c.args.st % 4) 0) refl (λ e. absurd (omega arith))
