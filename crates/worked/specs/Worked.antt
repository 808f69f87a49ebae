-- Document 01's worked texts that are marked P, all of them and no others: one table, computed, under one claim. Answers are in document 01's words: a
-- listed name is its bytes, a reference its ranges, a refusal its number and last column. A text for which document 01 names no mode is asked in STRICT
-- and in LAX. The worked texts without a P, and questions at the edges of the rules, stand in the tables of the crates below.
use Rattle.grammar.specs.declared.Range.{Range}
use Rattle.std.specs.Prelude.{ℕ, Bool, false, List, [], ◌∷◌, ◌++◌, map, replicate, Option, None, Ok, Err}
use Rattle.std.specs.Prelude as Std
use Prim.Native.String.{String}
use Rattle.text.specs.Text.{ascii}
use Rattle.names.specs.Lookup.{licence_name, exception_name}
use Rattle.refusal.specs.Refused.{span, number_of, column_of}
use Rattle.refusal.specs.declared.Expected.{Expected}
use Rattle.refusal.specs.declared.Expected.TheVariants as E
use Rattle.refusal.specs.declared.Refusal.{Refusal}
use Rattle.refusal.specs.declared.Column.{Column}
use Rattle.refusal.specs.declared.Column.TheVariants.{Place, PlaceAndSet}
use Rattle.mode.specs.declared.Mode.{Mode}
use Rattle.mode.specs.Modes.{strict, lax}
use Rattle.grammar.specs.declared.Licence.{Licence}
use Rattle.grammar.specs.declared.Licence.TheVariants as L
use Rattle.grammar.specs.declared.Addition.{Addition}
use Rattle.grammar.specs.declared.Addition.TheVariants as A
use Rattle.grammar.specs.declared.Node.TheVariants as K
use Rattle.grammar.specs.declared.Node.{Node}
use Rattle.grammar.specs.Grammar.{Result, got, refused, parse_of}
use Rattle.canonical.specs.declared.Answer.{Answer}
use Rattle.canonical.specs.declared.Answer.TheVariants as W
use Rattle.canonical.specs.Canonical.{canonical_of, answer_of, buffer_of}
use Rattle.masks.specs.declared.Choice.{Choice}
use Rattle.masks.specs.declared.Choice.TheVariants as C
use Rattle.masks.specs.declared.Listing.{Listing}
use Rattle.masks.specs.declared.Listing.TheVariants as M
use Rattle.minimize.specs.Minimize.{choice_of, listing_of}

-- a text in a mode; the size of a lent buffer and a text; mode, text, list file and budget, or cursor and budget
pub data Question : Type 0 where
  parse : Mode → List ℕ → Question
  canonical : ℕ → List ℕ → Question
  choice : Mode → List ℕ → List ℕ → ℕ → Question
  listing : Mode → List ℕ → List ℕ → ℕ → ℕ → Question

-- a name: listed, by its bytes, or a reference, by its ranges; or none
pub data Name : Type 0 where
  none : Name
  listed_as : List ℕ → Name
  ref : Option Range → ℕ → ℕ → Name

-- a node: a leaf by its licence, its plus flag, its addition and its span
pub data Shown : Type 0 where
  leaf : Name → Bool → Name → ℕ → ℕ → Shown
  and : Shown
  or : Shown
  blank : Shown

-- nodes in postfix; of a canonical text what became of it, with the whole of the lent buffer; a mask, or found with mask and next cursor; paused, or
-- finished, with the cursor; or a refusal
pub data Reply : Type 0 where
  read : List Shown → Reply
  unchanged : List ℕ → Reply
  written : ℕ → List ℕ → Reply
  kept : ℕ → Column → List ℕ → Reply
  mask : ℕ → Reply
  found : ℕ → ℕ → Reply
  paused : ℕ → Reply
  finished : ℕ → Reply
  no : ℕ → Column → Reply

unfoldable pub name_of : Licence → Name
name_of (L.Listed k) = listed_as (licence_name k)
name_of (L.Reference d n) = ref d n.start n.end

unfoldable pub added_of : Addition → Name
added_of A.Nothing = none
added_of (A.Listed k) = listed_as (exception_name k)
added_of (A.Reference d n) = ref d n.start n.end

unfoldable pub shown : Node → Shown
shown K.Blank = blank
shown (K.Leaf l) = leaf (name_of l.licence) l.plus (added_of l.addition) l.span.start l.span.end
shown K.And = and
shown K.Or = or

unfoldable pub of_result : Result → Reply
of_result (got q b ts) = read (map shown q)
of_result (refused r) = no (number_of r) (column_of r)

unfoldable pub of_answer : Std.Result Answer Refusal → List ℕ → Reply
of_answer (Ok W.Unchanged) b = unchanged b
of_answer (Ok (W.Written n)) b = written n b
of_answer (Err r) b = kept (number_of r) (column_of r) b

unfoldable pub of_choice : Std.Result Choice Refusal → Reply
of_choice (Ok (C.Mask m)) = mask m
of_choice (Ok (C.Paused n)) = paused n
of_choice (Err r) = no (number_of r) (column_of r)

unfoldable pub of_listing : Std.Result Listing Refusal → Reply
of_listing (Ok (M.Found m n)) = found m n
of_listing (Ok (M.Paused n)) = paused n
of_listing (Ok (M.Finished n)) = finished n
of_listing (Err r) = no (number_of r) (column_of r)

-- a lent buffer of n bytes, each 0xAA
unfoldable pub lent : ℕ → List ℕ
lent n = replicate n 0xAA

-- what the contracts of `parse`, `canonical`, `choice` and `listing` say
unfoldable pub answer : Question → Reply
answer (parse m s) = of_result (parse_of s m)
answer (canonical n s) = of_answer (answer_of s (lent n) (canonical_of s)) (buffer_of s (lent n) (canonical_of s))
answer (choice m s f b) = of_choice (choice_of s m f b)
answer (listing m s f c b) = of_listing (listing_of s m f c b)

-- short forms for the table: a listed licence with nothing more, from a to b; refusals with a place, and 6 with its set
unfoldable pub lic : String → ℕ → ℕ → Shown
lic n a b = leaf (listed_as (ascii n)) false none a b

unfoldable pub at : ℕ → ℕ → ℕ → Reply
at n a b = no n (Place (span a b))

unfoldable pub six : ℕ → ℕ → Expected → Reply
six a b e = no 6 (PlaceAndSet (span a b) e)

-- the same answer in STRICT and in LAX, in front of the rest of the table
unfoldable pub either_way : List ℕ → Reply → List (Question × Reply) → List (Question × Reply)
either_way s a rest = (parse strict s, a) ∷ (parse lax s, a) ∷ rest

-- the text of the last row, and the list file of MIT, ISC and 0BSD
unfoldable pub doc : List ℕ
doc = ascii "(MIT AND ISC) OR 0BSD"

unfoldable pub bodies : List ℕ
bodies = 3 ∷ 13 ∷ 0 ∷ 3 ∷ 0 ∷ 16 ∷ 0 ∷ 3 ∷ 0 ∷ 19 ∷ 0 ∷ 4 ∷ 0 ∷ ascii "MITISC0BSD"

unfoldable pub table : List (Question × Reply)
table =
    -- P STRICT `MIT OR ISC OR 0BSD`: MIT ISC 0BSD OR OR
    (parse strict (ascii "MIT OR ISC OR 0BSD"), read (lic "MIT" 0 3 ∷ lic "ISC" 7 10 ∷ lic "0BSD" 14 18 ∷ or ∷ or ∷ []))
    -- P STRICT `MIT OR ISC AND 0BSD OR MPL-2.0`: MIT ISC 0BSD AND MPL-2.0 OR OR
    ∷ (
      parse strict (ascii "MIT OR ISC AND 0BSD OR MPL-2.0"),
      read (lic "MIT" 0 3 ∷ lic "ISC" 7 10 ∷ lic "0BSD" 15 19 ∷ and ∷ lic "MPL-2.0" 23 30 ∷ or ∷ or ∷ []),
    )
    -- P LAX, mit and MIT with nothing between: 6 at 3..6
    ∷ (parse lax (ascii "mitMIT"), six 3 6 E.Name)
    -- P canonical `GPL-3.0-or-later+`: `GPL-3.0-or-later-or-later` (recorded difference); later bytes stay
    ∷ (canonical 27 (ascii "GPL-3.0-or-later+"), written 25 (ascii "GPL-3.0-or-later-or-later" ++ (0xAA ∷ 0xAA ∷ [])))
    -- P `(MIT AND ISC) OR 0BSD`, list MIT, ISC, 0BSD: budget 8: choice 3; listing 3 (next 4), 4 (next 5), finished at 8
    ∷ (choice strict doc bodies 8, mask 3)
    ∷ (listing strict doc bodies 1 8, found 3 4)
    ∷ (listing strict doc bodies 4 8, found 4 5)
    ∷ (listing strict doc bodies 5 8, finished 8)
    -- P `MIT +`: 5 at 3..4. P `+`: 6 at 0..1
    ∷ either_way (ascii "MIT +") (at 5 3 4)
    (either_way (ascii "+") (six 0 1 E.Term)
    -- P empty: 9 at 0..0. P `((MIT`: 8 at 1..2
    (either_way [] (at 9 0 0)
    (either_way (ascii "((MIT") (at 8 1 2)
    -- P `LicenseRef-`: one leaf, empty name, 0..11
    (either_way (ascii "LicenseRef-") (read (leaf (ref None 11 11) false none 0 11 ∷ []))
    -- P `MIT é`: 3 at 4..6. With lone byte E9: 1 at 4..5
    (either_way (ascii "MIT " ++ (0xC3 ∷ 0xA9 ∷ [])) (at 3 4 6)
    (either_way (ascii "MIT " ++ (0xE9 ∷ [])) (at 1 4 5)
    []))))))
