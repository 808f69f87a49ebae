-- The worked texts of document 01 that speak of canonical text, and texts at the edges of its rules: one table, computed, under one claim. A
-- question is the size of the lent buffer and the text; a refusal is its number and last column.
use Rattle.std.specs.Prelude.{ℕ, zero, suc, ◌≡◌, refl, List, [], ◌∷◌, ◌++◌, map, replicate, Result, Ok, Err}
use Prim.Native.String.{String}
use Rattle.text.specs.Text.{ascii, begins, same, ends, within, part}
use Rattle.text.specs.Overlay.{overlay}
use Rattle.text.specs.Walk.{over, reach, one}
use Rattle.text.specs.Runs.{ref_byte, run_byte}
use Rattle.utf8.specs.Utf8.{lowest, highest, two, three, four, decoded, front, char_width, first_ill, white_of, white_width, past_white}
use Rattle.names.specs.Listed.{listed, exceptions, imprecise}
use Rattle.names.specs.Lookup.{seek, lookup, licence_texts, imprecise_texts, licence_of, exception_of, bytes_at, licence_name, exception_name, gnu_of, is_bare, stem, stands_for, longest, imprecise_of}
use Rattle.refusal.specs.Refused.{span, number_of, column_of}
use Rattle.refusal.specs.declared.Expected.TheVariants as E
use Rattle.refusal.specs.declared.Refusal.{Refusal}
use Rattle.refusal.specs.declared.Column.{Column}
use Rattle.refusal.specs.declared.Column.TheVariants.{Place, PlaceAndSet, Number}
use Rattle.lexer.specs.Lex.{run_end, ref_end, operator_of, ref_of, documented, imprecise_at, unknown_of, word_of, run_of, mark_of, scan_of, check_of}
use Rattle.lexer.specs.Tokens.{walked, tokens_of}
use Rattle.canonical.specs.declared.Answer.{Answer}
use Rattle.canonical.specs.declared.Answer.TheVariants.{Unchanged, Written}
use Rattle.canonical.specs.Canonical.{alone, plussed, canon_from, canonical_of, answer_of, buffer_of}

-- an answer in document 01's words, with the whole of the lent buffer
data Shown : Type 0 where
  unchanged : List ℕ → Shown
  written : ℕ → List ℕ → Shown
  no : ℕ → Column → List ℕ → Shown

shown : Result Answer Refusal → List ℕ → Shown
shown (Ok Unchanged) b = unchanged b
shown (Ok (Written n)) b = written n b
shown (Err r) b = no (number_of r) (column_of r) b

-- a lent buffer of n bytes, each 0xAA
lent : ℕ → List ℕ
lent n = replicate n 0xAA

answer : ℕ × List ℕ → Shown
answer w = shown (answer_of w.1 (lent w.0) (canonical_of w.1)) (buffer_of w.1 (lent w.0) (canonical_of w.1))

-- short forms for the table: n bytes written, none of the buffer's own left; a refusal with a place, and 6; 16 and its length
fills : ℕ → String → Shown
fills n c = written n (ascii c)

at : ℕ → ℕ → ℕ → ℕ → Shown
at r a e n = no r (Place (span a e)) (lent n)

six : ℕ → ℕ → ℕ → Shown
six a e n = no 6 (PlaceAndSet (span a e) E.Licence) (lent n)

short : ℕ → ℕ → Shown
short c n = no 16 (Number c) (lent n)

times : ℕ → List ℕ → List ℕ
times zero s = []
times (suc n) s = s ++ times n s

table : List ((ℕ × List ℕ) × Shown)
table =
    -- document 01
    ((25, ascii "GPL-3.0-or-later+"), fills 25 "GPL-3.0-or-later-or-later")
    ∷ (
      (67, ascii "apache with LLVM-exception/gpl-3.0+ and gplv2"),
      fills 67 "Apache-2.0 WITH LLVM-exception OR GPL-3.0-or-later AND GPL-2.0-only",
    )
    ∷ ((6, ascii "MIT MIT"), fills 6 "MITMIT")
    ∷ ((0, ascii " "), written 0 [])
    -- unchanged, whatever the buffer's size
    ∷ ((0, ascii "MIT OR ISC"), unchanged [])
    ∷ ((2, []), unchanged (lent 2))
    -- later bytes stay; one short, exact, one more
    ∷ ((2, ascii "mit"), short 3 2)
    ∷ ((3, ascii "mit"), fills 3 "MIT")
    ∷ ((4, ascii "mit"), written 3 (ascii "MIT" ++ (0xAA ∷ [])))
    ∷ ((5, ascii "apache2"), short 10 5)
    -- GNU names: bare, with "-only", with "-or-later", each with a `+` and without
    ∷ ((12, ascii "GPL-2.0"), fills 12 "GPL-2.0-only")
    ∷ ((16, ascii "GPL-2.0+"), fills 16 "GPL-2.0-or-later")
    ∷ ((0, ascii "GPL-2.0-only"), unchanged [])
    ∷ ((16, ascii "GPL-2.0-only+"), fills 16 "GPL-2.0-or-later")
    ∷ ((0, ascii "LGPL-2.1-or-later"), unchanged [])
    ∷ ((0, ascii "MIT+"), unchanged [])
    ∷ ((4, ascii "mit+"), fills 4 "MIT+")
    -- operators, parentheses and references
    ∷ ((4, ascii "/"), fills 4 " OR ")
    ∷ ((23, ascii "( MIT and(ISC)or 0BSD )"), fills 23 "(MIT AND (ISC) OR 0BSD)")
    ∷ ((13, ascii "MITandISC/mitANDISC"), at 4 0 9 13)
    ∷ ((11, ascii "mitand ISC"), fills 11 "MIT AND ISC")
    ∷ ((0, ascii "DocumentRef-d:LicenseRef-a WITH DocumentRef-:AdditionRef-b"), unchanged [])
    ∷ ((12, ascii "\tLicenseRef-a"), fills 12 "LicenseRef-a")
    ∷ ((3, 0x4D ∷ 0x49 ∷ 0x54 ∷ 0xC2 ∷ 0xA0 ∷ []), fills 3 "MIT")
    -- 6 with the set licence; 5 comes from the lexer, before it
    ∷ ((3, ascii "+"), six 0 1 3)
    ∷ ((3, ascii "MIT++"), six 4 5 3)
    ∷ ((3, ascii "LicenseRef-a+"), six 12 13 3)
    ∷ ((3, ascii "mit +"), at 5 3 4 3)
    ∷ ((3, ascii "mit foo"), at 4 4 7 3)
    -- 2, then 1, then the tokens
    ∷ ((1, replicate 1025 0x20), at 2 0 0 1)
    ∷ ((1, ascii "+" ++ (0xE9 ∷ [])), at 1 1 2 1)
    -- four times the text is tight
    ∷ ((0, times 1024 (ascii "/")), short 4096 0)
    ∷ []

worked : map (λ (w : (ℕ × List ℕ) × Shown). answer w.0) table ≡ map (λ (w : (ℕ × List ℕ) × Shown). w.1) table
unfolding
    table answer shown lent fills at six short times within lowest highest two three four decoded front char_width first_ill white_of white_width
    past_white over reach one begins same ends part overlay ref_byte run_byte seek lookup licence_texts imprecise_texts licence_of exception_of
    bytes_at licence_name exception_name gnu_of is_bare stem stands_for longest imprecise_of listed exceptions imprecise run_end ref_end operator_of
    ref_of documented imprecise_at unknown_of word_of run_of mark_of scan_of check_of walked tokens_of alone plussed canon_from canonical_of answer_of
    buffer_of
worked = refl
