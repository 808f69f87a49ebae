-- No second answer fits the contract of a public function of this crate.
use Rattle.std.specs.Prelude.{ℕ, List, drop}
use Rattle.text.specs.One.{One, one}
use Rattle.utf8.specs.Utf8.{front, first_ill, inside_of, white_of, past_white}

is_white_one : (c : ℕ) → One (white_of c)
is_white_one c = one (white_of c)

char_at_one : (s : List ℕ) (at : ℕ) → One (front (drop at s))
char_at_one s at = one (front (drop at s))

first_ill_one : (s : List ℕ) → One (first_ill s)
first_ill_one s = one (first_ill s)

inside_one : (s : List ℕ) (at : ℕ) → One (inside_of s at)
inside_one s at = one (inside_of s at)

past_white_one : (s : List ℕ) (from : ℕ) → One (past_white s from)
past_white_one s from = one (past_white s from)
