-- The bytes of a run as a table: a bit for each of n bytes from b on. The code's own machinery, nothing to believe.
use Rattle.std.specs.Prelude.{ℕ, zero, suc, ◌+◌, ◌<◌, ◌≡◌, refl, Bool, true, false, cond, List, [], ◌∷◌, eqb, get_or}
use Rattle.std.proofs.Common.{ap, ◌∙◌, arith}
use Rattle.text.specs.Runs.{run_byte}

abbrev pub run_bit : ℕ → ℕ
run_bit b = cond (run_byte b) 1 0

unfoldable pub run_bits : ℕ → ℕ → List ℕ
run_bits b zero = []
run_bits b (suc n) = run_bit b ∷ run_bits (b + 1) n

bit_says : (x : Bool) → eqb (cond {A = ℕ} x 1 0) 1 ≡ x
bit_says true = refl
bit_says false = refl

bit_at : (b n i : ℕ) → i < n → get_or (run_bits b n) i 0 ≡ run_bit (b + i)
unfolding run_bits
bit_at b zero i h = absurd (omega arith)
bit_at b (suc n) zero h = ap run_bit (let e : b ≡ b + 0 = omega arith in e)
bit_at b (suc n) (suc i) h = bit_at (b + 1) n i (omega arith) ∙ ap run_bit (let e : b + 1 + i ≡ b + suc i = omega arith in e)

-- a byte's bit says whether it may stand in a run
pub run_bit_says : (b : ℕ) → b < 256 → eqb (get_or (run_bits 0 256) b 0) 1 ≡ run_byte b
run_bit_says b h = ap (λ (x : ℕ). eqb x 1) (bit_at 0 256 b h ∙ ap run_bit (let e : 0 + b ≡ b = omega arith in e)) ∙ bit_says (run_byte b)
