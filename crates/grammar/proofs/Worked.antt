-- The worked texts of document 01 that speak of parsing, and texts at the edges of its rules: one table, computed, under one claim.
-- Answers are in document 01's words: a listed name is its bytes, a refusal its number and last column.
use Rattle.grammar.specs.declared.Range.{Range}
use Rattle.std.specs.Prelude.{ℕ, zero, suc, ◌+◌, ◌≡◌, refl, Bool, true, false, List, [], ◌∷◌, ◌++◌, map, replicate, Option, Some, None}
use Prim.Native.String.{String}
use Rattle.text.specs.Text.{ascii, begins, same, ends, within, part}
use Rattle.text.specs.Walk.{over, reach, one}
use Rattle.text.specs.Runs.{ref_byte, run_byte}
use Rattle.utf8.specs.Utf8.{lowest, highest, two, three, four, decoded, front, char_width, first_ill, white_of, white_width, past_white}
use Rattle.names.specs.Listed.{listed, exceptions, imprecise}
use Rattle.names.specs.Lookup.{
  seek,
  lookup,
  licence_texts,
  imprecise_texts,
  licence_of,
  exception_of,
  bytes_at,
  licence_name,
  exception_name,
  deprecated_of,
  gnu_of,
  is_later,
  stem,
  later_of,
  stands_for,
  longest,
  imprecise_of,
}
use Rattle.refusal.specs.Refused.{span, number_of, column_of}
use Rattle.refusal.specs.declared.Expected.{Expected}
use Rattle.refusal.specs.declared.Expected.TheVariants as E
use Rattle.refusal.specs.declared.Column.{Column}
use Rattle.refusal.specs.declared.Column.TheVariants.{Place, PlaceAndSet}
use Rattle.mode.specs.declared.Mode.{Mode}
use Rattle.mode.specs.Modes.{strict, lax, mode_of}
use Rattle.lexer.specs.Lex.{run_end, ref_end, operator_of, ref_of, documented, imprecise_at, unknown_of, word_of, run_of, mark_of, scan_of, check_of}
use Rattle.lexer.specs.Tokens.{walked, tokens_of}
use Rattle.grammar.specs.declared.Licence.{Licence}
use Rattle.grammar.specs.declared.Licence.TheVariants as L
use Rattle.grammar.specs.declared.Addition.{Addition}
use Rattle.grammar.specs.declared.Addition.TheVariants as A
use Rattle.grammar.specs.declared.Node.TheVariants as K
use Rattle.grammar.specs.declared.Node.{Node}
use Rattle.grammar.specs.Leaves.{name_start, gnu_move, plus_move, move_of, tail_of}
use Rattle.grammar.specs.Grammar.{Result, got, refused, and_level, parse_of}

-- a name in document 01's words: listed, by its bytes, or a reference, by its ranges; or none
data Name : Type 0 where
  none : Name
  listed_as : List ℕ → Name
  ref : Option Range → ℕ → ℕ → Name

-- a node: a leaf by its licence, its plus flag, its addition and its span
data Shown : Type 0 where
  leaf : Name → Bool → Name → ℕ → ℕ → Shown
  and : Shown
  or : Shown
  blank : Shown

data Answer : Type 0 where
  read : List Shown → Answer
  no : ℕ → Column → Answer

name_of : Licence → Name
name_of (L.Listed k) = listed_as (licence_name k)
name_of (L.Reference d n) = ref d n.start n.end

added_of : Addition → Name
added_of A.Nothing = none
added_of (A.Listed k) = listed_as (exception_name k)
added_of (A.Reference d n) = ref d n.start n.end

shown : Node → Shown
shown K.Blank = blank
shown (K.Leaf l) = leaf (name_of l.licence) l.plus (added_of l.addition) l.span.start l.span.end
shown K.And = and
shown K.Or = or

of_result : Result → Answer
of_result (got q b ts) = read (map (λ (n : Node). shown n) q)
of_result (refused r) = no (number_of r) (column_of r)

answer : Mode × List ℕ → Answer
answer w = of_result (parse_of w.1 w.0)

-- short forms for the table: a listed licence with nothing more, from a to b; refusals with a place, and 6 with its set
lic : String → ℕ → ℕ → Shown
lic n a b = leaf (listed_as (ascii n)) false none a b

at : ℕ → ℕ → ℕ → Answer
at n a b = no n (Place (span a b))

six : ℕ → ℕ → Expected → Answer
six a b e = no 6 (PlaceAndSet (span a b) e)

-- mode 16, unknown terms alone
terms : Mode
terms = mode_of 16

-- n times a text
times : ℕ → List ℕ → List ℕ
times zero w = []
times (suc n) w = w ++ times n w

-- n times MIT, the first from a on, and a byte between two
mits : ℕ → ℕ → List Shown
mits zero a = []
mits (suc n) a = lic "MIT" a (a + 3) ∷ mits n (a + 4)

table : List ((Mode × List ℕ) × Answer)
table =
    -- document 01's worked texts
    ((strict, ascii "MIT OR ISC OR 0BSD"), read (lic "MIT" 0 3 ∷ lic "ISC" 7 10 ∷ lic "0BSD" 14 18 ∷ or ∷ or ∷ []))
    ∷ (
      (strict, ascii "MIT OR ISC AND 0BSD OR MPL-2.0"),
      read (lic "MIT" 0 3 ∷ lic "ISC" 7 10 ∷ lic "0BSD" 15 19 ∷ and ∷ lic "MPL-2.0" 23 30 ∷ or ∷ or ∷ []),
    )
    ∷ ((strict, ascii "MIT +"), at 5 3 4)
    ∷ ((strict, ascii "+"), six 0 1 E.Term)
    ∷ ((strict, []), at 9 0 0)
    ∷ ((strict, ascii "((MIT"), at 8 1 2)
    ∷ ((strict, ascii "LicenseRef-"), read (leaf (ref None 11 11) false none 0 11 ∷ []))
    ∷ ((lax, ascii "mitMIT"), six 3 6 E.Name)
    ∷ ((strict, ascii "MIT " ++ (0xC3 ∷ 0xA9 ∷ [])), at 3 4 6)
    ∷ ((strict, ascii "MIT " ++ (0xE9 ∷ [])), at 1 4 5)
    ∷ (
      (strict, ascii "(MIT AND ISC) OR 0BSD"),
      read (lic "MIT" 1 4 ∷ lic "ISC" 9 12 ∷ and ∷ lic "0BSD" 17 21 ∷ or ∷ []),
    )
    -- AND nests to the right too; parentheses override
    ∷ ((strict, ascii "MIT AND ISC AND 0BSD"), read (lic "MIT" 0 3 ∷ lic "ISC" 8 11 ∷ lic "0BSD" 16 20 ∷ and ∷ and ∷ []))
    ∷ (
      (strict, ascii "(MIT OR ISC) AND 0BSD"),
      read (lic "MIT" 1 4 ∷ lic "ISC" 8 11 ∷ or ∷ lic "0BSD" 17 21 ∷ and ∷ []),
    )
    ∷ (
      (lax, ascii "apache with LLVM-exception/gpl-3.0+ and gplv2"),
      read (leaf (listed_as (ascii "Apache-2.0")) false (listed_as (ascii "LLVM-exception")) 0 6
          ∷ lic "GPL-3.0-or-later" 27 34 ∷ lic "GPL-2.0" 40 45 ∷ and ∷ or ∷ []),
    )
    -- the sets for 6, by the token before
    ∷ ((strict, ascii "MIT AND AND"), six 8 11 E.Term)
    ∷ ((strict, ascii "("), six 1 1 E.Term)
    ∷ ((strict, ascii ")"), six 0 1 E.Term)
    ∷ ((strict, ascii "MIT AND"), six 7 7 E.Term)
    ∷ ((strict, ascii "(MIT)MIT"), six 5 8 E.Joint)
    ∷ ((strict, ascii "(MIT) WITH LLVM-exception"), six 6 10 E.Joint)
    ∷ ((strict, ascii "MIT WITH LLVM-exception MIT"), six 24 27 E.Tail)
    ∷ ((strict, ascii "MIT WITH AdditionRef-a WITH AdditionRef-b"), six 23 27 E.Tail)
    ∷ ((strict, ascii "MIT MIT"), six 4 7 E.Name)
    ∷ ((strict, ascii "LicenseRef-a MIT"), six 13 16 E.Suffixed)
    ∷ ((strict, ascii "MIT++"), six 4 5 E.Suffixed)
    ∷ ((strict, ascii "MIT WITH MIT"), six 9 12 E.Addition)
    ∷ ((strict, ascii "MIT WITH"), six 8 8 E.Addition)
    -- 7 and 8, behind 6
    ∷ ((strict, ascii "MIT)"), at 7 3 4)
    ∷ ((strict, ascii "(MIT))"), at 7 5 6)
    ∷ ((strict, ascii "(MIT AND"), six 8 8 E.Term)
    ∷ ((strict, ascii "(MIT) AND (ISC"), at 8 10 11)
    -- 9: the whole text
    ∷ ((strict, ascii "  "), at 9 0 2)
    -- deprecated names by mode, behind 6; `+` on GNU names
    ∷ ((strict, ascii "GPL-2.0"), at 10 0 7)
    ∷ ((strict, ascii "MIT GPL-2.0"), six 4 11 E.Name)
    ∷ ((strict, ascii "GPL-2.0-only+"), at 11 12 13)
    ∷ ((lax, ascii "GPL-2.0-or-later+"), at 12 16 17)
    ∷ ((lax, ascii "GPL-2.0+"), read (lic "GPL-2.0-or-later" 0 7 ∷ []))
    ∷ ((lax, ascii "GPL-2.0-only+"), read (lic "GPL-2.0-or-later" 0 12 ∷ []))
    ∷ ((strict, ascii "MPL-1.1+"), read (leaf (listed_as (ascii "MPL-1.1")) true none 0 7 ∷ []))
    -- references and unknown terms; the last addition wins
    ∷ (
      (strict, ascii "DocumentRef-d:LicenseRef-a WITH DocumentRef-:AdditionRef-b"),
      read (leaf (ref (Some (record { start = 12; end = 13 })) 25 26) false (ref (Some (record { start = 44; end = 44 })) 57 58) 0 26 ∷ []),
    )
    ∷ ((terms, ascii "foo"), read (leaf (ref None 0 3) false none 0 3 ∷ []))
    ∷ ((terms, ascii "foo+"), six 3 4 E.Name)
    ∷ ((terms, ascii "MIT+ WITH foo WITH bar"), read (leaf (listed_as (ascii "MIT")) true (ref None 19 22) 0 3 ∷ []))
    ∷ (
      (terms, ascii "foo WITH b WITH LLVM-exception"),
      read (leaf (ref None 0 3) false (listed_as (ascii "LLVM-exception")) 0 3 ∷ []),
    )
    ∷ ((terms, ascii "MIT WITH foo+"), six 12 13 E.Name)
    -- the limits: 32 parentheses and 33, 64 leaves and 65, and 10 before 14
    ∷ ((strict, times 32 (ascii "(") ++ ascii "ISC" ++ times 32 (ascii ")")), read (lic "ISC" 32 35 ∷ []))
    ∷ ((strict, times 33 (ascii "(")), at 15 32 33)
    ∷ ((lax, times 63 (ascii "mit/") ++ ascii "mit"), read (mits 64 0 ++ replicate 63 or))
    ∷ ((lax, times 64 (ascii "mit/") ++ ascii "mit"), at 14 256 259)
    ∷ ((mode_of 3, times 64 (ascii "mit/") ++ ascii "GPL-2.0"), at 10 256 263)
    ∷ ((strict, replicate 1025 0x20), at 2 0 0)
    ∷ []

worked : map (λ (w : (Mode × List ℕ) × Answer). answer w.0) table ≡ map (λ (w : (Mode × List ℕ) × Answer). w.1) table
unfolding
    table answer of_result shown added_of name_of lic at six terms times mits mode_of within lowest highest two three four decoded front char_width
    first_ill white_of white_width past_white over reach one begins same ends part ref_byte run_byte seek lookup licence_texts imprecise_texts
    licence_of exception_of bytes_at licence_name exception_name deprecated_of gnu_of is_later stem later_of stands_for longest imprecise_of listed
    exceptions imprecise run_end ref_end operator_of ref_of documented imprecise_at unknown_of word_of run_of mark_of scan_of check_of walked
    tokens_of name_start gnu_move plus_move move_of tail_of and_level parse_of
worked = refl
