-- The one number that an exported function answers, and what it leaves in what it is lent: the numbers are those of `packed`. Whatever is not answered leaves all as it was.
use Rattle.lexer.specs.Step.{Step}
use Rattle.std.specs.Prelude.{ℕ, ◌+◌, ◌-◌, cond, List, [], ◌∷◌, eqb, leb, length, Some, None, Result, Ok, Err}
use Rattle.text.specs.Overlay.{overlay}
use Rattle.names.specs.Lookup.{licence_name, exception_name}
use Rattle.refusal.specs.declared.Span.{Span}
use Rattle.refusal.specs.declared.Refusal.{Refusal}
use Rattle.canonical.specs.declared.Answer.{Answer}
use Rattle.canonical.specs.declared.Answer.TheVariants as A
use Rattle.masks.specs.declared.Choice.{Choice}
use Rattle.masks.specs.declared.Choice.TheVariants as C
use Rattle.masks.specs.declared.Listing.{Listing}
use Rattle.masks.specs.declared.Listing.TheVariants as M
use Rattle.packed.specs.Records.{token_cells}
use Rattle.packed.specs.Packed.{places, refused_as, answered_as, small_as}

-- a step: a token, or done; and the record then
abbrev pub step_as : Step → ℕ
step_as (Ok (Some g)) = answered_as 1 0
step_as (Ok None) = answered_as 0 0
step_as (Err r) = refused_as r

abbrev pub step_record : Step → List ℕ → List ℕ
step_record (Ok (Some g)) b = token_cells g.token g.span g.next.at
step_record (Ok None) b = b
step_record (Err r) b = b

-- a canonical text: unchanged, or written, with its length
abbrev pub canonical_as : Result Answer Refusal → ℕ
canonical_as (Ok A.Unchanged) = answered_as 0 0
canonical_as (Ok (A.Written n)) = answered_as 1 n
canonical_as (Err r) = refused_as r

-- a list file: how many entries
abbrev pub list_as : Result ℕ Refusal → ℕ
list_as (Ok n) = answered_as 0 n
list_as (Err r) = refused_as r

-- an entry: none, or a part, its place in the file and its length
unfoldable pub entry_as : Span → ℕ
entry_as p = cond (eqb (p.end - p.start) 0) 0 (0x100 + places p.start (p.end - p.start))

-- a choice: a mask, or paused; and the number then
abbrev pub choice_as : Result Choice Refusal → ℕ
choice_as (Ok (C.Mask m)) = answered_as 0 0
choice_as (Ok (C.Paused p)) = answered_as 1 0
choice_as (Err r) = refused_as r

abbrev pub choice_number : Result Choice Refusal → ℕ → ℕ
choice_number (Ok (C.Mask m)) x = m
choice_number (Ok (C.Paused p)) x = p
choice_number (Err r) x = x

-- a call of the listing: found, paused or finished; and mask and next cursor then
abbrev pub listing_as : Result Listing Refusal → ℕ
listing_as (Ok (M.Found m n)) = answered_as 0 0
listing_as (Ok (M.Paused n)) = answered_as 1 0
listing_as (Ok (M.Finished n)) = answered_as 2 0
listing_as (Err r) = refused_as r

abbrev pub listing_numbers : Result Listing Refusal → List ℕ → List ℕ
listing_numbers (Ok (M.Found m n)) b = m ∷ n ∷ []
listing_numbers (Ok (M.Paused n)) b = 0 ∷ n ∷ []
listing_numbers (Ok (M.Finished n)) b = 0 ∷ n ∷ []
listing_numbers (Err r) b = b

-- the found licensees: how many
abbrev pub found_as : Result ℕ Refusal → ℕ
found_as (Ok k) = answered_as 0 k
found_as (Err r) = refused_as r

-- a listed name: of the licences, or of the exceptions
unfoldable pub name_in : ℕ → ℕ → List ℕ
name_in k i = cond (eqb k 0) (licence_name i) (exception_name i)

unfoldable pub name_as : List ℕ → List ℕ → ℕ
name_as n b = cond (leb (length n) (length b)) (answered_as 0 (length n)) (small_as (length n))

unfoldable pub name_bytes : List ℕ → List ℕ → List ℕ
name_bytes n b = cond (leb (length n) (length b)) (overlay 0 n b) b
