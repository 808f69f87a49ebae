-- The boundaries between the characters of a text: where it starts, and behind each character that starts on one.
use Rattle.std.specs.Prelude.{ℕ, ◌+◌, ◌<◌, ◌≡◌, List, length, drop}
use Rattle.utf8.specs.Utf8.{char_width, first_ill}

pub data Boundary (s : List ℕ) : ℕ → Type 0 where
  start : Boundary s 0
  behind : {at : ℕ} → Boundary s at → 0 < char_width (drop at s) → Boundary s (at + char_width (drop at s))

-- no sequence is ill-formed
abbrev pub WellFormed : List ℕ → Type 0
WellFormed s = first_ill s ≡ length s
