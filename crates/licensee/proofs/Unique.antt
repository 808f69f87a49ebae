-- No second answer fits the contract of a public function of this crate. An entry is decided by its bytes and by its memory, block and place.
use Rattle.std.specs.Prelude.{ℕ, ◌+◌, List}
use Rattle.text.specs.One.{One, one}
use Rattle.grammar.specs.declared.Licence.{Licence}
use Rattle.grammar.specs.declared.Addition.{Addition}
use Rattle.licensee.specs.declared.Terms.{Terms}
use Rattle.licensee.specs.Offers.{list_of, checked_of, entry_of, entry_at, place_of}
use Rattle.licensee.specs.Terms.{terms_of, same_terms, meets, accepted_of}

check_one : (f : List ℕ) → One (checked_of (list_of f))
check_one f = one (checked_of (list_of f))

entry_one : (f : List ℕ) (i : ℕ) → One (entry_of f i)
entry_one f i = one (entry_of f i)

entry_block_one : (block : ℕ) → One block
entry_block_one block = one block

entry_place_one : (f : List ℕ) (i at : ℕ) → One (entry_at f i + at)
entry_place_one f i at = one (entry_at f i + at)

place_one : (f : List ℕ) (i : ℕ) → One (place_of f i)
place_one f i = one (place_of f i)

terms_of_one : (l : Licence) (a : Addition) → One (terms_of l a)
terms_of_one l a = one (terms_of l a)

satisfies_one : (f s : List ℕ) (a b : Terms) → One (meets f s a b)
satisfies_one f s a b = one (meets f s a b)

equals_one : (f : List ℕ) (a b : Terms) → One (same_terms f f a b)
equals_one f a b = one (same_terms f f a b)

read_one : (f : List ℕ) → One (accepted_of (list_of f))
read_one f = one (accepted_of (list_of f))
