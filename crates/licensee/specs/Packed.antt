-- The list file of given bodies, for tables of worked questions.
use Rattle.std.specs.Prelude.{ℕ, ◌+◌, ◌*◌, ◌/◌, ◌%◌, List, [], ◌∷◌, ◌++◌, length}

-- "16 bits each, low byte first"
unfoldable pub word : ℕ → List ℕ
word n = n % 256 ∷ n / 256 ∷ []

-- the offsets and lengths of bodies, of which the first is due at a
unfoldable pub directory : ℕ → List (List ℕ) → List ℕ
directory a [] = []
directory a (b ∷ bs) = word a ++ (word (length b) ++ directory (a + length b) bs)

unfoldable pub joint : List (List ℕ) → List ℕ
joint [] = []
joint (b ∷ bs) = b ++ joint bs

unfoldable pub file : List (List ℕ) → List ℕ
file bs = length bs ∷ directory (1 + 4 * length bs) bs ++ joint bs
