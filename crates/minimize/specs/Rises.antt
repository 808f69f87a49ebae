-- A larger set satisfies what a smaller one does: what that says.
use Rattle.std.specs.Prelude.{ℕ, ◌/◌, ◌%◌, ◌^◌, ◌≤◌, ◌≡◌, Bool, true}

-- every member of x is one of y
unfoldable pub Sub : ℕ → ℕ → Type 0
Sub x y = (i : ℕ) → x / 2 ^ i % 2 ≤ y / 2 ^ i % 2

unfoldable pub Rises : (ℕ → Bool) → Type 0
Rises sat = (x y : ℕ) → Sub x y → sat x ≡ true → sat y ≡ true
