-- List files, valid and wrong in every way that document 01 names, and their entries: one table, computed, under one claim. Answers are in document
-- 01's words: a listed name is its bytes, a reference its ranges in the file, a refusal its number and last column.
use Rattle.grammar.specs.declared.Range.{Range}
use Rattle.std.specs.Prelude.{ℕ, ◌≡◌, refl, List, [], ◌∷◌, ◌++◌, map, replicate, Option, Some, None}
use Prim.Native.String.{String}
use Rattle.text.specs.Text.{ascii, begins, same, within, part}
use Rattle.text.specs.Walk.{over, reach, one}
use Rattle.text.specs.Runs.{ref_byte, run_byte}
use Rattle.utf8.specs.Utf8.{lowest, highest, two, three, four, decoded, front, char_width, first_ill, white_of, white_width, past_white}
use Rattle.names.specs.Listed.{listed, exceptions}
use Rattle.names.specs.Lookup.{
  seek,
  lookup,
  licence_texts,
  licence_of,
  exception_of,
  bytes_at,
  licence_name,
  exception_name,
  deprecated_of,
}
use Rattle.refusal.specs.Refused.{number_of, column_of}
use Rattle.refusal.specs.declared.Column.{Column}
use Rattle.refusal.specs.declared.Column.TheVariants.{Number}
use Rattle.lexer.specs.Lex.{run_end, ref_end, operator_of, ref_of, documented, imprecise_at, unknown_of, word_of, run_of, mark_of, scan_of, check_of}
use Rattle.lexer.specs.Tokens.{walked, tokens_of}
use Rattle.grammar.specs.declared.Licence.{Licence}
use Rattle.grammar.specs.declared.Licence.TheVariants as L
use Rattle.grammar.specs.declared.Addition.{Addition}
use Rattle.grammar.specs.declared.Addition.TheVariants as A
use Rattle.licensee.specs.declared.Licensee.{Licensee}
use Rattle.licensee.specs.Offers.{
  name_in,
  body_of,
  at16,
  offset,
  size,
  placed,
  offer_of,
  Accepts,
  good,
  wrong,
  entries_from,
  contents,
  list_of,
  entry_of,
  entry_at,
}
use Rattle.licensee.specs.Packed.{word, directory, joint, file}

-- a name: listed, by its bytes, or a reference, by its ranges; or none
data Name : Type 0 where
  none : Name
  listed_as : List ℕ → Name
  ref : Option Range → ℕ → ℕ → Name

-- of a file, what it offers; of an entry of it, the bytes and their place
data Question : Type 0 where
  list : List ℕ → Question
  entry : ℕ → List ℕ → Question

data Answer : Type 0 where
  valid : List (Name × Name) → Answer
  no : ℕ → Column → Answer
  at : ℕ → List ℕ → Answer

name_of : Licence → Name
name_of (L.Listed k) = listed_as (licence_name k)
name_of (L.Reference d n) = ref d n.start n.end

added_of : Addition → Name
added_of A.Nothing = none
added_of (A.Listed k) = listed_as (exception_name k)
added_of (A.Reference d n) = ref d n.start n.end

shown : Accepts → Answer
shown (good ls) = valid (map (λ (l : Licensee). (name_of l.licence, added_of l.addition)) ls)
shown (wrong r) = no (number_of r) (column_of r)

answer : Question → Answer
answer (list f) = shown (list_of f)
answer (entry i f) = at (entry_at f i) (entry_of f i)

-- short forms for the table: a file of one entry, by offset, length and what follows
only : ℕ → ℕ → List ℕ → Question
only o n b = list (1 ∷ word o ++ (word n ++ b))

-- a file of one body, which starts at 5
body : List ℕ → Question
body b = list (file (b ∷ []))

-- 17, and what is wrong: an entry, 254 or 255
bad : ℕ → Answer
bad n = no 17 (Number n)

-- a listed licence with nothing more
lic : String → Name × Name
lic n = (listed_as (ascii n), none)

mit : List ℕ
mit = 1 ∷ 5 ∷ 0 ∷ 3 ∷ 0 ∷ 0x4D ∷ 0x49 ∷ 0x54 ∷ []

table : List (Question × Answer)
table =
    -- document 01's whole file for MIT, and its entries
    (list mit, valid (lic "MIT" ∷ []))
    ∷ (entry 0 mit, at 5 (ascii "MIT"))
    ∷ (entry 1 mit, at 0 [])
    -- valid ones: none, three, two alike, 64; a length of 200
    ∷ (list (0 ∷ []), valid [])
    ∷ (entry 0 (0 ∷ []), at 0 [])
    ∷ (list (file (ascii "MIT" ∷ ascii "ISC" ∷ ascii "0BSD" ∷ [])), valid (lic "MIT" ∷ lic "ISC" ∷ lic "0BSD" ∷ []))
    ∷ (entry 2 (file (ascii "MIT" ∷ ascii "ISC" ∷ ascii "0BSD" ∷ [])), at 19 (ascii "0BSD"))
    ∷ (entry 3 (file (ascii "MIT" ∷ ascii "ISC" ∷ ascii "0BSD" ∷ [])), at 0 [])
    ∷ (list (file (ascii "MIT" ∷ ascii "MIT" ∷ [])), valid (lic "MIT" ∷ lic "MIT" ∷ []))
    ∷ (list (file (replicate 64 (ascii "MIT"))), valid (replicate 64 (lic "MIT")))
    ∷ (body (replicate 197 0x20 ++ ascii "MIT"), valid (lic "MIT" ∷ []))
    -- an addition, references with their places in the file, white space as in any text
    ∷ (body (ascii "MIT WITH LLVM-exception"), valid ((listed_as (ascii "MIT"), listed_as (ascii "LLVM-exception")) ∷ []))
    ∷ (body (ascii "LicenseRef-"), valid ((ref None 16 16, none) ∷ []))
    ∷ (
      body (ascii "DocumentRef-d:LicenseRef-a WITH DocumentRef-:AdditionRef-b"),
      valid ((ref (Some (record { start = 17; end = 18 })) 30 31, ref (Some (record { start = 49; end = 49 })) 62 63) ∷ []),
    )
    ∷ (body (ascii "\tMIT" ++ (0xC2 ∷ 0xA0 ∷ [])), valid (lic "MIT" ∷ []))
    -- 255: no count, a count of 65, contents that are cut
    ∷ (list [], bad 255)
    ∷ (entry 0 [], at 0 [])
    ∷ (list (65 ∷ replicate 260 0), bad 255)
    ∷ (list (1 ∷ 5 ∷ 0 ∷ 3 ∷ []), bad 255)
    -- an entry: its offset, its length, its end
    ∷ (only 6 3 (ascii "MIT"), bad 0)
    ∷ (only 4 3 (ascii "MIT"), bad 0)
    ∷ (only 261 3 (ascii "MIT"), bad 0)
    ∷ (only 5 0 [], bad 0)
    ∷ (only 5 201 (replicate 198 0x20 ++ ascii "MIT"), bad 0)
    ∷ (only 5 4 (ascii "MIT"), bad 0)
    ∷ (only 5 3 [], bad 0)
    -- its body: one licence, optionally WITH an addition
    ∷ (body (ascii " "), bad 0)
    ∷ (body (ascii "MIT+"), bad 0)
    ∷ (body (ascii "MIT +"), bad 0)
    ∷ (body (ascii "(MIT)"), bad 0)
    ∷ (body (ascii "MIT ISC"), bad 0)
    ∷ (body (ascii "MIT WITH"), bad 0)
    ∷ (body (ascii "MIT WITH ISC"), bad 0)
    ∷ (body (ascii "MIT WITH LLVM-exception )"), bad 0)
    ∷ (body (ascii "MIT LLVM-exception"), bad 0)
    ∷ (body (ascii "LLVM-exception"), bad 0)
    -- STRICT: no deprecated, imprecise or unknown name, and no `:` behind a reference's name
    ∷ (body (ascii "GPL-2.0"), bad 0)
    ∷ (body (ascii "mit"), bad 0)
    ∷ (body (ascii "foo"), bad 0)
    ∷ (body (ascii "LicenseRef-a:b"), bad 0)
    ∷ (body (0xFF ∷ []), bad 0)
    ∷ (body (ascii "MIT" ++ (0xFF ∷ [])), bad 0)
    -- 254, behind the entries; the second entry, by a gap and by its body; the first of two
    ∷ (list (mit ++ (0x20 ∷ [])), bad 254)
    ∷ (entry 0 (mit ++ (0x20 ∷ [])), at 0 [])
    ∷ (list (0 ∷ 0 ∷ []), bad 254)
    ∷ (list (2 ∷ 9 ∷ 0 ∷ 3 ∷ 0 ∷ 13 ∷ 0 ∷ 3 ∷ 0 ∷ ascii "MIT ISC"), bad 1)
    ∷ (list (file (ascii "MIT" ∷ ascii "MIT+" ∷ []) ++ (0x20 ∷ [])), bad 1)
    ∷ (list (file (ascii "MIT+" ∷ ascii "foo" ∷ [])), bad 0)
    ∷ []

worked : map (λ (w : Question × Answer). answer w.0) table ≡ map (λ (w : Question × Answer). w.1) table
unfolding
    table answer shown added_of name_of word directory joint file only body bad lic mit within lowest highest two three four decoded front char_width
    first_ill white_of white_width past_white over reach one begins same part ref_byte run_byte seek lookup licence_texts licence_of exception_of
    bytes_at licence_name exception_name deprecated_of listed exceptions run_end ref_end operator_of ref_of documented imprecise_at unknown_of
    word_of run_of mark_of scan_of check_of walked tokens_of name_in body_of at16 offset size placed offer_of entries_from contents list_of entry_of entry_at
worked = refl
