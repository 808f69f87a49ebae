-- What the test for minimal sets says: it decides `Minimal` below 2^k, and the least set that satisfies is minimal.
use Rattle.std.specs.Prelude.{ℕ, suc, ◌-◌, ◌/◌, ◌%◌, ◌^◌, ◌≤◌, ◌<◌, ◌≡◌, Bool, ◌&&◌, eqb}
use Rattle.std.proofs.Math.Path.{refl}
use Rattle.std.proofs.Common.{sym, ◌∙◌, true≢false, arith, pow_pos, pow_mono, eqb-true, eq-eqb}
use Rattle.std.proofs.Math.Bool.{true, false}
use Rattle.std.proofs.Math.Decide.{dec_lt}
use Rattle.text.specs.First.{first}
use Rattle.text.specs.FirstLaws.{Stop, first_stop, first_unique}
use Rattle.text.specs.Tests.{both}
use Rattle.masks.specs.Bits.{bit_le}
use Rattle.masks.specs.Masks.{has, spare, minimal}
use Rattle.masks.specs.Promise.{Minimal}

has_le : (m i : ℕ) → has m i ≡ true → 2 ^ i ≤ m
unfolding has
has_le m i e = bit_le m i (eqb-true (m / 2 ^ i % 2) 1 e)

module _ (sat : ℕ → Bool) where
  module _ (k m : ℕ) where
    -- no bit from k on is set, so that the k that are looked at are all
    pub minimal_is : m < 2 ^ k → minimal sat k m ≡ true → Minimal sat m
    unfolding minimal spare
    minimal_is l e = record { satisfies = t.0; needs = λ i g. go i g (dec_lt i k) }
      where
        t : (sat m ≡ true) × (eqb (first (spare sat m) k 0) k ≡ true)
        t = both _ _ e

        go : (i : ℕ) → has m i ≡ true → Dec (i < k) → sat (m - 2 ^ i) ≡ false
        go i g (yes h) =
            let q : first (spare sat m) k 0 ≡ k = eqb-true _ _ t.1 in
            rw g at ((first_stop (spare sat m) k 0).before i (omega arith) (omega arith))
        go i g (no h) = absurd (omega (arith, has_le m i g, pow_mono {i = k} {j = i} (omega arith)))

    pub minimal_when : Minimal sat m → minimal sat k m ≡ true
    unfolding minimal spare
    minimal_when w = rw w.satisfies (eq-eqb _ _ (sym (first_unique (spare sat m) k 0 k s)))
      where
        none : (i : ℕ) (b : Bool) → has m i ≡ b → (b && sat (m - 2 ^ i)) ≡ false
        none i true q = w.needs i q
        none i false q = refl

        s : Stop (spare sat m) k 0 k
        s = record { from = omega arith; upto = omega arith; before = λ j a b. none j (has m j) refl; here = λ h. absurd (omega arith) }

  -- a member taken out makes the mask less
  pub least_minimal : (x : ℕ) → sat x ≡ true → ((j : ℕ) → j < x → sat j ≡ false) → Minimal sat x
  least_minimal x e f =
      record { satisfies = e; needs = λ i g. f (x - 2 ^ i) (omega (arith, has_le x i g, pow_pos i)) }

  -- at or below a set that satisfies stands one that is minimal
  pub minimal_below : (x : ℕ) → sat x ≡ true → (y : ℕ) × (y ≤ x) × Minimal sat y
  minimal_below x e = go (dec_lt y (suc x))
    where
      y : ℕ
      y = first sat (suc x) 0

      s : Stop sat (suc x) 0 y
      s = first_stop sat (suc x) 0

      go : Dec (y < suc x) → (y : ℕ) × (y ≤ x) × Minimal sat y
      go (yes h) = (y, omega arith, least_minimal y (s.here (omega arith)) (λ j l. s.before j (omega arith) l))
      go (no h) = absurd (true≢false (sym e ∙ s.before x (omega arith) (omega arith)))
