-- No second answer fits the contract of an exported function, and no second content of what it is lent.
use Rattle.std.specs.Prelude.{ℕ, List}
use Rattle.text.specs.One.{One, one}
use Rattle.mode.specs.Modes.{mode_of}
use Rattle.lexer.specs.Lex.{step_of}
use Rattle.grammar.specs.Grammar.{parse_of, answer_of}
use Rattle.canonical.specs.Canonical as Canonical
use Rattle.licensee.specs.Offers.{list_of, checked_of, place_of}
use Rattle.minimize.specs.Minimize.{choice_of, listing_of, places_of, found_answer, found_buffer}
use Rattle.packed.specs.Packed.{parse_as, parse_cells}
use Rattle.terminal.specs.Answers.{step_as, step_record, canonical_as, list_as, entry_as, choice_as, choice_number, listing_as, listing_numbers, found_as, name_in, name_as, name_bytes}

module _ (s : List ℕ) (mode : ℕ) where
  step_one : (at : ℕ) → One (step_as (step_of s (mode_of mode) at))
  step_one at = one (step_as (step_of s (mode_of mode) at))

  step_record_one : (at : ℕ) (b : List ℕ) → One (step_record (step_of s (mode_of mode) at) b)
  step_record_one at b = one (step_record (step_of s (mode_of mode) at) b)

  parse_one : (b : List ℕ) → One (parse_as (answer_of (parse_of s (mode_of mode))) b)
  parse_one b = one (parse_as (answer_of (parse_of s (mode_of mode))) b)

  parse_cells_one : (b : List ℕ) → One (parse_cells (answer_of (parse_of s (mode_of mode))) b)
  parse_cells_one b = one (parse_cells (answer_of (parse_of s (mode_of mode))) b)

  choice_one : (f : List ℕ) (budget : ℕ) → One (choice_as (choice_of s (mode_of mode) f budget))
  choice_one f budget = one (choice_as (choice_of s (mode_of mode) f budget))

  choice_number_one : (f : List ℕ) (budget x : ℕ) → One (choice_number (choice_of s (mode_of mode) f budget) x)
  choice_number_one f budget x = one (choice_number (choice_of s (mode_of mode) f budget) x)

  listing_one : (f : List ℕ) (cursor budget : ℕ) → One (listing_as (listing_of s (mode_of mode) f cursor budget))
  listing_one f cursor budget = one (listing_as (listing_of s (mode_of mode) f cursor budget))

  listing_numbers_one : (f : List ℕ) (cursor budget : ℕ) (b : List ℕ) → One (listing_numbers (listing_of s (mode_of mode) f cursor budget) b)
  listing_numbers_one f cursor budget b = one (listing_numbers (listing_of s (mode_of mode) f cursor budget) b)

  found_one : (f : List ℕ) → One (found_as (found_answer (places_of s (mode_of mode) f)))
  found_one f = one (found_as (found_answer (places_of s (mode_of mode) f)))

  found_bytes_one : (f b : List ℕ) → One (found_buffer (places_of s (mode_of mode) f) b)
  found_bytes_one f b = one (found_buffer (places_of s (mode_of mode) f) b)

canonical_one : (s b : List ℕ) → One (canonical_as (Canonical.answer_of s b (Canonical.canonical_of s)))
canonical_one s b = one (canonical_as (Canonical.answer_of s b (Canonical.canonical_of s)))

canonical_bytes_one : (s b : List ℕ) → One (Canonical.buffer_of s b (Canonical.canonical_of s))
canonical_bytes_one s b = one (Canonical.buffer_of s b (Canonical.canonical_of s))

list_one : (f : List ℕ) → One (list_as (checked_of (list_of f)))
list_one f = one (list_as (checked_of (list_of f)))

entry_one : (f : List ℕ) (i : ℕ) → One (entry_as (place_of f i))
entry_one f i = one (entry_as (place_of f i))

name_one : (part place : ℕ) (b : List ℕ) → One (name_as (name_in part place) b)
name_one part place b = one (name_as (name_in part place) b)

name_bytes_one : (part place : ℕ) (b : List ℕ) → One (name_bytes (name_in part place) b)
name_bytes_one part place b = one (name_bytes (name_in part place) b)
