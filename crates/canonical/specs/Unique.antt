-- No second answer fits the contract of the public function of this crate, and no second content of the lent buffer: the text and the buffer as it
-- was lent decide both.
use Rattle.std.specs.Prelude.{ℕ, List}
use Rattle.text.specs.One.{One, one}
use Rattle.canonical.specs.Canonical.{canonical_of, answer_of, buffer_of}

canonical_one : (s b : List ℕ) → One (answer_of s b (canonical_of s))
canonical_one s b = one (answer_of s b (canonical_of s))

buffer_one : (s b : List ℕ) → One (buffer_of s b (canonical_of s))
buffer_one s b = one (buffer_of s b (canonical_of s))
