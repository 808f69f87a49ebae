-- No second answer fits the contract of a public function of this crate.
use Rattle.std.specs.Prelude.{ℕ, ◌+◌, List, length, get_or, drop}
use Rattle.text.specs.Overlay.{overlay}
use Rattle.text.specs.One.{One, one}
use Rattle.names.specs.Layout.{words, name_at}
use Rattle.names.specs.Lookup.{licence_of, exception_of, imprecise_of, deprecated_of, gnu_of, is_later, later_of, only_of}

table_one : One words
table_one = one words

licence_one : (run : List ℕ) → One (licence_of run)
licence_one run = one (licence_of run)

exception_one : (run : List ℕ) → One (exception_of run)
exception_one run = one (exception_of run)

imprecise_one : (s : List ℕ) (at : ℕ) → One (imprecise_of (drop at s))
imprecise_one s at = one (imprecise_of (drop at s))

deprecated_one : (k : ℕ) → One (deprecated_of k)
deprecated_one k = one (deprecated_of k)

gnu_one : (k : ℕ) → One (gnu_of k)
gnu_one k = one (gnu_of k)

is_later_one : (k : ℕ) → One (is_later k)
is_later_one k = one (is_later k)

later_one : (k : ℕ) → One (later_of k)
later_one k = one (later_of k)

only_one : (k : ℕ) → One (only_of k)
only_one k = one (only_of k)

name_len_one : (k : ℕ) → One (length (name_at k))
name_len_one k = one (length (name_at k))

name_byte_one : (k i : ℕ) → One (get_or (name_at k) i 0)
name_byte_one k i = one (get_or (name_at k) i 0)

put_name_one : (k at : ℕ) → One (at + length (name_at k))
put_name_one k at = one (at + length (name_at k))

put_name_buffer_one : (k at : ℕ) (b : List ℕ) → One (overlay at (name_at k) b)
put_name_buffer_one k at b = one (overlay at (name_at k) b)
