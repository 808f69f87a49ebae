-- Laws of single bits, as the code shifts them and as the definitions divide.
use Rattle.std.specs.Prelude.{ℕ, ◌*◌, ◌/◌, ◌%◌, ◌^◌, ◌≤◌, ◌<◌, ◌≡◌}
use Rattle.std.proofs.Common.{◌∙◌, arith, one-mul, shl_exact, lit<}
use Rattle.std.proofs.Math.Nat.{div-eq_of_lt}
use Rattle.std.proofs.Math.Decide.{dec_le}

-- one bit, shifted to place i
pub shl_one : (i : ℕ) → i < 64 → (1 * 2 ^ i) % 2 ^ 64 ≡ 2 ^ i
shl_one i h = shl_exact {a = 1} 1 i 64 (lit< tt) (omega arith) ∙ one-mul (2 ^ i)

-- a set that has member i is no less than that member alone
pub bit_le : (m i : ℕ) → m / 2 ^ i % 2 ≡ 1 → 2 ^ i ≤ m
bit_le m i e = go (dec_le (2 ^ i) m)
  where
    go : Dec (2 ^ i ≤ m) → 2 ^ i ≤ m
    go (yes h) = h
    go (no h) =
        let l : m < 2 ^ i = omega arith in
        let z : m / 2 ^ i ≡ 0 = div-eq_of_lt l in
        absurd (omega arith)
