-- The product of two answers is 1 where both are: where the stack ends in 3.
use Rattle.std.proofs.Common.{◌≡◌, ℕ, ◌+◌, ◌*◌, ◌/◌, ◌%◌, ◌<◌, Bool, true, false, eqb, refl, ap, arith, eqb-true}
use Rattle.std.proofs.lemmas.Bool.{eqb-false}
use Rattle.std.proofs.Math.Decide.{dec_lt}
use Rattle.masks.specs.Value.{step, digit}
use Rattle.masks.proofs.both.Goals as goal

product : (st : ℕ) (b : Bool) → eqb (st % 4) 3 ≡ b → st / 2 % 2 * (st % 2) ≡ digit b
product st true e =
    let p : st % 4 ≡ 3 = eqb-true (st % 4) 3 e in
    let x : st % 2 ≡ 1 = omega arith in
    let y : st / 2 % 2 ≡ 1 = omega arith in
    rw (x, y) refl
product st false e = go (dec_lt (st % 2) 1)
  where
    go : Dec (st % 2 < 1) → st / 2 % 2 * (st % 2) ≡ 0
    go (yes l) = let x : st % 2 ≡ 0 = omega arith in rw x (omega arith)
    go (no l) =
        let p : st % 4 ≡ 3 → ⊥ = eqb-false (st % 4) 3 e in
        let y : st / 2 % 2 ≡ 0 = omega arith in
        rw y (omega arith)

pub returns : goal.returns
unfolding step
returns c = ap (λ (n : ℕ). c.args.st / 4 * 2 + n) (product c.args.st (eqb (c.args.st % 4) 3) refl)
