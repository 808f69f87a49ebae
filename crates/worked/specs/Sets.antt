-- The worked text of document 01 that speaks of choice and listing, and questions at the edges of its rules: one table, computed, under one claim.
-- A question is mode, text, list file, and the budget, or the cursor and the budget, or neither; a refusal is its number and last column.
use Rattle.std.specs.Prelude.{ℕ, ◌^◌, ◌≡◌, refl, List, [], ◌∷◌, ◌++◌, map, Ok, Err}
use Rattle.std.specs.Prelude as Std
use Rattle.refusal.specs.declared.Refusal.{Refusal}
use Prim.Native.String.{String}
use Rattle.text.specs.Text.{ascii, begins, same, ends, within, part}
use Rattle.text.specs.Overlay.{overlay}
use Rattle.text.specs.Walk.{over, reach, one}
use Rattle.text.specs.First.{first}
use Rattle.text.specs.Runs.{ref_byte, run_byte}
use Rattle.utf8.specs.Utf8.{lowest, highest, two, three, four, decoded, front, char_width, first_ill, white_of, white_width, past_white}
use Rattle.names.specs.Listed.{listed, exceptions, imprecise}
use Rattle.names.specs.Lookup.{
  seek,
  lookup,
  licence_texts,
  imprecise_texts,
  licence_of,
  exception_of,
  bytes_at,
  licence_name,
  deprecated_of,
  gnu_of,
  is_later,
  stem,
  later_of,
  stands_for,
  longest,
  imprecise_of,
}
use Rattle.refusal.specs.Refused.{span, number_of, column_of}
use Rattle.refusal.specs.declared.Column.{Column}
use Rattle.refusal.specs.declared.Column.TheVariants.{Nothing, Place, Number}
use Rattle.mode.specs.declared.Mode.{Mode}
use Rattle.mode.specs.Modes.{strict, lax, mode_of}
use Rattle.lexer.specs.Lex.{run_end, ref_end, operator_of, ref_of, documented, imprecise_at, unknown_of, word_of, run_of, mark_of, scan_of, check_of}
use Rattle.lexer.specs.Tokens.{walked, tokens_of}
use Rattle.grammar.specs.Leaves.{name_start, gnu_move, plus_move, move_of, tail_of}
use Rattle.grammar.specs.Grammar.{and_level, parse_of}
use Rattle.licensee.specs.Offers.{name_in, body_of, at16, offset, size, placed, offer_of, entries_from, contents, list_of}
use Rattle.licensee.specs.Packed.{word, directory, joint, file}
use Rattle.licensee.specs.Satisfies.{same_range, satisfies, equals}
use Rattle.masks.specs.Masks as Masks
use Rattle.masks.specs.Masks.{has, spare, minimal, examined, stopped, searched, settled, chosen}
use Rattle.masks.specs.declared.Choice.{Choice}
use Rattle.masks.specs.declared.Choice.TheVariants as C
use Rattle.masks.specs.declared.Listing.{Listing}
use Rattle.masks.specs.declared.Listing.TheVariants as L
use Rattle.std.specs.List.{list_any}
use Rattle.minimize.specs.Minimize.{
  found_after,
  found_at,
  member,
  tree_of,
  wanted,
  found_of,
  places_in,
  satisfied,
  limited,
  problem_of,
  choice_of,
  listing_of,
  Places,
  few_places,
  places_of,
  found_answer,
  found_buffer,
}

data Question : Type 0 where
  choice : Mode → List ℕ → List ℕ → ℕ → Question
  listing : Mode → List ℕ → List ℕ → ℕ → ℕ → Question
  which : Mode → List ℕ → List ℕ → Question

-- an answer in document 01's words: a mask, or found with mask and next cursor; paused, or finished, with the cursor; how many are found, and what was
-- a buffer of four 255s; or a refusal
data Answer : Type 0 where
  mask : ℕ → Answer
  found : ℕ → ℕ → Answer
  paused : ℕ → Answer
  finished : ℕ → Answer
  places : ℕ → List ℕ → Answer
  no : ℕ → Column → Answer

of_choice : Std.Result Choice Refusal → Answer
of_choice (Ok (C.Mask m)) = mask m
of_choice (Ok (C.Paused n)) = paused n
of_choice (Err r) = no (number_of r) (column_of r)

of_listing : Std.Result Listing Refusal → Answer
of_listing (Ok (L.Found m n)) = found m n
of_listing (Ok (L.Paused n)) = paused n
of_listing (Ok (L.Finished n)) = finished n
of_listing (Err r) = no (number_of r) (column_of r)

of_finding : Std.Result ℕ Refusal → List ℕ → Answer
of_finding (Ok k) out = places k out
of_finding (Err r) out = no (number_of r) (column_of r)

of_places : Places → Answer
of_places p = of_finding (found_answer p) (found_buffer p (255 ∷ 255 ∷ 255 ∷ 255 ∷ []))

answer : Question → Answer
answer (choice m s f b) = of_choice (choice_of s m f b)
answer (listing m s f c b) = of_listing (listing_of s m f c b)
answer (which m s f) = of_places (places_of s m f)

-- short forms for the table: the choice and the listing of document 01's text and list
doc : List ℕ
doc = ascii "(MIT AND ISC) OR 0BSD"

three_bodies : List ℕ
three_bodies = 3 ∷ 13 ∷ 0 ∷ 3 ∷ 0 ∷ 16 ∷ 0 ∷ 3 ∷ 0 ∷ 19 ∷ 0 ∷ 4 ∷ 0 ∷ ascii "MITISC0BSD"

pick : ℕ → Question
pick b = choice strict doc three_bodies b

go : ℕ → ℕ → Question
go c b = listing strict doc three_bodies c b

mit : List ℕ
mit = 1 ∷ 5 ∷ 0 ∷ 3 ∷ 0 ∷ 0x4D ∷ 0x49 ∷ 0x54 ∷ []

-- a text in a mode, and a list of one body; budget 2
alone : Mode → String → String → Question
alone m s b = choice m (ascii s) (file (ascii b ∷ [])) 2

unmet : Answer
unmet = no 19 Nothing

-- six licences, each with each of the five exceptions, as bodies; and a text with these thirty and MIT
with_all : String → List (List ℕ) → List (List ℕ)
with_all l bs =
    map (λ (e : String). ascii l ++ (ascii " WITH " ++ ascii e))
    ("Bison-exception-2.2" ∷ "Classpath-exception-2.0" ∷ "Font-exception-2.0" ∷ "GCC-exception-3.1" ∷ "LLVM-exception" ∷ [])
    ++ bs

thirty : List (List ℕ)
thirty = with_all "MIT" (with_all "ISC" (with_all "0BSD" (with_all "MPL-1.1" (with_all "MPL-2.0" (with_all "OFL-1.1" [])))))

any : List ℕ
any = joint (map (λ (b : List ℕ). b ++ ascii "/") thirty) ++ ascii "MIT"

table : List (Question × Answer)
table =
    -- document 01
    (pick 8, mask 3)
    ∷ (go 1 8, found 3 4)
    ∷ (go 4 8, found 4 5)
    ∷ (go 5 8, finished 8)
    -- the same by smaller budgets: paused where the budget ends, finished at the end
    ∷ (pick 3, mask 3)
    ∷ (pick 2, paused 3)
    ∷ (go 1 2, paused 3)
    ∷ (go 3 1, found 3 4)
    ∷ (go 5 2, paused 7)
    ∷ (go 5 3, finished 8)
    ∷ (go 8 1, finished 8)
    -- 20, and behind it 21
    ∷ (go 0 8, no 20 (Number 0))
    ∷ (go 9 8, no 20 (Number 9))
    ∷ (go 9 0, no 20 (Number 9))
    ∷ (go 1 0, no 21 Nothing)
    ∷ (go 8 0, no 21 Nothing)
    ∷ (pick 0, no 21 Nothing)
    -- 19, of the choice only, and before 21
    ∷ (choice strict doc mit 8, unmet)
    ∷ (choice strict doc mit 0, unmet)
    ∷ (listing strict doc mit 1 8, finished 2)
    -- the empty list
    ∷ (choice strict doc (0 ∷ []) 8, unmet)
    ∷ (listing strict doc (0 ∷ []) 1 8, finished 1)
    ∷ (listing strict doc (0 ∷ []) 2 8, no 20 (Number 2))
    -- the text's refusals, then 17, then the others
    ∷ (choice strict (ascii "MIT +") [] 0, no 5 (Place (span 3 4)))
    ∷ (listing strict (ascii "MIT +") [] 0 0, no 5 (Place (span 3 4)))
    ∷ (choice strict (ascii "MIT") [] 0, no 17 (Number 255))
    ∷ (listing strict (ascii "MIT") [] 0 0, no 17 (Number 255))
    ∷ (choice strict (ascii "MIT") (mit ++ (0x20 ∷ [])) 8, no 17 (Number 254))
    ∷ (choice strict (ascii "MIT") (file (ascii "MIT" ∷ ascii "MIT+" ∷ [])) 8, no 17 (Number 1))
    -- bits are in list order; equal ones and those that satisfy no leaf have none
    ∷ (choice strict doc (file (ascii "0BSD" ∷ ascii "ISC" ∷ ascii "MIT" ∷ [])) 8, mask 1)
    ∷ (listing strict doc (file (ascii "0BSD" ∷ ascii "ISC" ∷ ascii "MIT" ∷ [])) 2 8, found 6 7)
    ∷ (choice strict (ascii "ISC") (file (ascii "MIT" ∷ ascii "ISC" ∷ ascii " ISC" ∷ [])) 8, mask 1)
    ∷ (listing strict (ascii "ISC") (file (ascii "MIT" ∷ ascii "ISC" ∷ ascii " ISC" ∷ [])) 2 8, finished 2)
    -- licence and addition, but not the plus flag
    ∷ (alone strict "MIT+" "MIT", mask 1)
    ∷ (alone strict "MIT WITH LLVM-exception" "MIT", unmet)
    ∷ (alone strict "MIT" "MIT WITH LLVM-exception", unmet)
    ∷ (alone strict "MIT WITH LLVM-exception" "MIT WITH Font-exception-2.0", unmet)
    ∷ (alone strict "MIT WITH LLVM-exception" "MIT WITH LLVM-exception", mask 1)
    ∷ (alone lax "GPL-2.0" "GPL-2.0-only", unmet)
    ∷ (alone lax "GPL-2.0+" "GPL-2.0-or-later", mask 1)
    -- references by their bytes, where an absent document part is not an empty one
    ∷ (alone strict "DocumentRef-:LicenseRef-a" "LicenseRef-a", unmet)
    ∷ (alone strict "LicenseRef-a" "DocumentRef-:LicenseRef-a", unmet)
    ∷ (alone strict "DocumentRef-:LicenseRef-a" " DocumentRef-:LicenseRef-a", mask 1)
    ∷ (alone strict "DocumentRef-d:LicenseRef-a" "DocumentRef-e:LicenseRef-a", unmet)
    ∷ (alone strict "LicenseRef-a" "LicenseRef-", unmet)
    ∷ (alone strict "MIT WITH DocumentRef-:AdditionRef-a" "MIT WITH AdditionRef-a", unmet)
    ∷ (alone strict "MIT WITH AdditionRef-a" "MIT WITH AdditionRef-a", mask 1)
    ∷ (alone (mode_of 16) "foo" "LicenseRef-foo", mask 1)
    -- 18: 30 are found, and 31
    ∷ (choice lax any (file thirty) 1, mask 1)
    ∷ (listing lax any (file thirty) (2 ^ 30) 8, finished (2 ^ 30))
    ∷ (choice lax any (file (ascii "MIT" ∷ thirty)) 0, no 18 (Number 31))
    ∷ (listing lax any (file (ascii "MIT" ∷ thirty)) 0 0, no 18 (Number 31))
    -- the places of the found: of document 01's text; without those that satisfy no leaf or equal an earlier one; none
    ∷ (which strict doc three_bodies, places 3 (0 ∷ 1 ∷ 2 ∷ 255 ∷ []))
    ∷ (which strict doc (file (ascii "0BSD" ∷ ascii "MPL-2.0" ∷ ascii " 0BSD" ∷ ascii "ISC" ∷ [])), places 2 (0 ∷ 3 ∷ 255 ∷ 255 ∷ []))
    ∷ (which strict (ascii "ISC") (file (ascii "MIT" ∷ ascii "ISC" ∷ ascii " ISC" ∷ [])), places 1 (1 ∷ 255 ∷ 255 ∷ 255 ∷ []))
    ∷ (which strict doc mit, places 1 (0 ∷ 255 ∷ 255 ∷ 255 ∷ []))
    ∷ (which strict (ascii "ISC") mit, places 0 (255 ∷ 255 ∷ 255 ∷ 255 ∷ []))
    ∷ (which strict doc (0 ∷ []), places 0 (255 ∷ 255 ∷ 255 ∷ 255 ∷ []))
    -- the text's refusals, then 17 (18 is the choice's, by `places-alike`: more of these texts is more than one claim can compute)
    ∷ (which strict (ascii "MIT +") [], no 5 (Place (span 3 4)))
    ∷ (which strict (ascii "MIT") [], no 17 (Number 255))
    ∷ []

worked : map (λ (w : Question × Answer). answer w.0) table ≡ map (λ (w : Question × Answer). w.1) table
unfolding
    table answer of_choice of_listing of_finding of_places overlay word directory joint file doc three_bodies pick go mit alone unmet with_all thirty any mode_of within lowest
    highest two three four decoded front char_width first_ill white_of white_width past_white over reach one first begins same ends part ref_byte run_byte
    seek lookup licence_texts imprecise_texts licence_of exception_of bytes_at licence_name deprecated_of gnu_of is_later stem later_of stands_for longest
    imprecise_of listed exceptions imprecise run_end ref_end operator_of ref_of documented imprecise_at unknown_of word_of run_of mark_of scan_of check_of
    walked tokens_of name_start gnu_move plus_move move_of tail_of and_level parse_of name_in body_of at16 offset size placed offer_of entries_from contents
    list_of same_range satisfies equals has spare minimal examined stopped searched settled chosen Masks.listed found_after found_at member tree_of wanted
    found_of places_in satisfied limited problem_of choice_of listing_of few_places places_of found_answer found_buffer
worked = refl
