-- No second answer fits the contract of a public function of this crate: text, mode, list file, cursor and budget decide it, and with the lent buffer
-- what that holds.
use Rattle.std.specs.Prelude.{ℕ, List}
use Rattle.text.specs.One.{One, one}
use Rattle.mode.specs.declared.Mode.{Mode}
use Rattle.minimize.specs.Minimize.{places_of, choice_of, listing_of, found_answer, found_buffer}

choice_one : (s : List ℕ) (m : Mode) (f : List ℕ) (b : ℕ) → One (choice_of s m f b)
choice_one s m f b = one (choice_of s m f b)

listing_one : (s : List ℕ) (m : Mode) (f : List ℕ) (c b : ℕ) → One (listing_of s m f c b)
listing_one s m f c b = one (listing_of s m f c b)

found_one : (s : List ℕ) (m : Mode) (f : List ℕ) → One (found_answer (places_of s m f))
found_one s m f = one (found_answer (places_of s m f))

found_buffer_one : (s : List ℕ) (m : Mode) (f out : List ℕ) → One (found_buffer (places_of s m f) out)
found_buffer_one s m f out = one (found_buffer (places_of s m f) out)
