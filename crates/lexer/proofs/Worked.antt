-- The worked texts of document 01 that speak of tokens, and texts at the edges of its rules: one table, computed, under one claim.
-- Answers are in document 01's words: a listed name is its bytes, a refusal its number and last column.
use Rattle.lexer.specs.Step.{Step}
use Rattle.std.specs.Prelude.{ℕ, ◌≡◌, refl, List, [], ◌∷◌, ◌++◌, map, replicate, Option, Some, None, Ok, Err}
use Prim.Native.String.{String}
use Rattle.text.specs.Text.{ascii, begins, same, within, part}
use Rattle.text.specs.Walk.{over, reach, one}
use Rattle.text.specs.Runs.{ref_byte, run_byte}
use Rattle.utf8.specs.Utf8.{lowest, highest, two, three, four, decoded, front, char_width, first_ill, inside_of, white_of, white_width, past_white}
use Rattle.names.specs.Listed.{listed, exceptions, imprecise}
use Rattle.names.specs.Lookup.{
  seek,
  lookup,
  licence_texts,
  imprecise_texts,
  licence_of,
  exception_of,
  bytes_at,
  licence_name,
  exception_name,
  stands_for,
  longest,
  imprecise_of,
}
use Rattle.refusal.specs.Refused.{span, number_of, column_of}
use Rattle.refusal.specs.declared.Span.{Span}
use Rattle.refusal.specs.declared.Column.{Column}
use Rattle.refusal.specs.declared.Column.TheVariants.{Place, Number}
use Rattle.mode.specs.declared.Mode.{Mode}
use Rattle.lexer.specs.declared.Token.{Token}
use Rattle.lexer.specs.declared.Token.TheVariants.{And, Or, With, Plus, Open, Close, Licence, Exception, LicenseRef, AdditionRef, Unknown}
use Rattle.mode.specs.Modes.{strict, lax, mode_of}
use Rattle.lexer.specs.Lex.{
  run_end,
  ref_end,
  operator_of,
  ref_of,
  documented,
  imprecise_at,
  unknown_of,
  word_of,
  run_of,
  mark_of,
  scan_of,
  check_of,
  from_of,
  step_of,
}
use Rattle.lexer.specs.Tokens.{Tokens, done, refused, token, walked, steps_of}

-- a token in document 01's words
data Kind : Type 0 where
  and : Kind
  or : Kind
  with : Kind
  plus : Kind
  opens : Kind
  closes : Kind
  licence : List ℕ → Kind
  exception : List ℕ → Kind
  license_ref : Option Span → Span → Kind
  addition_ref : Option Span → Span → Kind
  unknown : Span → Kind

kind_of : Token → Kind
kind_of And = and
kind_of Or = or
kind_of With = with
kind_of Plus = plus
kind_of Open = opens
kind_of Close = closes
kind_of (Licence k) = licence (licence_name k)
kind_of (Exception k) = exception (exception_name k)
kind_of (LicenseRef d n) = license_ref d n
kind_of (AdditionRef d n) = addition_ref d n
kind_of (Unknown n) = unknown n

-- the step from a place; all tokens of a text, by the public step
data Question : Type 0 where
  step : Mode → ℕ → List ℕ → Question
  steps : Mode → List ℕ → Question

-- tokens with their spans, and how they end: with a next cursor, at the end of the text, or refused
data Answer : Type 0 where
  tok : Kind → ℕ → ℕ → Answer → Answer
  next : ℕ → Answer
  end : Answer
  no : ℕ → Column → Answer

of_step : Step → Answer
of_step (Ok (Some g)) = tok (kind_of g.token) g.span.start g.span.end (next g.next.at)
of_step (Ok None) = end
of_step (Err r) = no (number_of r) (column_of r)

of_tokens : Tokens → Answer
of_tokens done = end
of_tokens (refused r) = no (number_of r) (column_of r)
of_tokens (token t sp ts) = tok (kind_of t) sp.start sp.end (of_tokens ts)

answer : Question → Answer
answer (step m at s) = of_step (step_of s m at)
answer (steps m s) = of_tokens (steps_of s m 0)

-- short forms for the table: a listed licence from a to b; refusals with a place and with a number; é
lic : String → ℕ → ℕ → Answer → Answer
lic n a b rest = tok (licence (ascii n)) a b rest

at : ℕ → ℕ → ℕ → Answer
at n a b = no n (Place (span a b))

é : List ℕ
é = 0xC3 ∷ 0xA9 ∷ []

-- mode 16, unknown terms alone, and all flags
only_unknown : Mode
only_unknown = mode_of 16

every : Mode
every = mode_of 31

table : List (Question × Answer)
table =
    -- document 01's worked texts
    (steps strict (ascii "MIT OR ISC OR 0BSD"), lic "MIT" 0 3 (tok or 4 6 (lic "ISC" 7 10 (tok or 11 13 (lic "0BSD" 14 18 end)))))
    ∷ (
      steps strict (ascii "MIT OR ISC AND 0BSD OR MPL-2.0"),
      lic "MIT" 0 3 (tok or 4 6 (lic "ISC" 7 10 (tok and 11 14 (lic "0BSD" 15 19 (tok or 20 22 (lic "MPL-2.0" 23 30 end)))))),
    )
    ∷ (steps strict (ascii "MIT +"), lic "MIT" 0 3 (at 5 3 4))
    ∷ (steps strict (ascii "+"), tok plus 0 1 end)
    ∷ (steps strict [], end)
    ∷ (steps strict (ascii "((MIT"), tok opens 0 1 (tok opens 1 2 (lic "MIT" 2 5 end)))
    ∷ (steps strict (ascii "LicenseRef-"), tok (license_ref None (span 11 11)) 0 11 end)
    ∷ (steps lax (ascii "mitMIT"), lic "MIT" 0 3 (lic "MIT" 3 6 end))
    ∷ (steps strict (ascii "MIT " ++ é), lic "MIT" 0 3 (at 3 4 6))
    ∷ (steps strict (ascii "MIT " ++ (0xE9 ∷ [])), at 1 4 5)
    ∷ (steps strict (ascii "GPL-3.0-or-later+"), lic "GPL-3.0-or-later" 0 16 (tok plus 16 17 end))
    ∷ (
      steps strict (ascii "(MIT AND ISC) OR 0BSD"),
      tok opens 0 1 (lic "MIT" 1 4 (tok and 5 8 (lic "ISC" 9 12 (tok closes 12 13 (tok or 14 16 (lic "0BSD" 17 21 end)))))),
    )
    ∷ (
      steps lax (ascii "apache with LLVM-exception/gpl-3.0+ and gplv2"),
      lic "Apache-2.0" 0 6 (tok with 7 11 (tok (exception (ascii "LLVM-exception")) 12 26 (tok or 26 27
          (lic "GPL-3.0" 27 34 (tok plus 34 35 (tok and 36 39 (lic "GPL-2.0" 40 45 end))))))),
    )
    ∷ (steps strict (ascii "MIT MIT"), lic "MIT" 0 3 (lic "MIT" 4 7 end))
    ∷ (steps strict (ascii " "), end)
    ∷ (steps strict (replicate 1024 0x20), end)
    ∷ (steps strict (replicate 1025 0x20), at 2 0 0)
    -- the order 2, 1, 20
    ∷ (step strict 2000 (0xE9 ∷ replicate 1024 0x20), at 2 0 0)
    ∷ (step strict 9 (0xE9 ∷ []), at 1 0 1)
    ∷ (step strict 4 (ascii "MIT"), no 20 (Number 4))
    ∷ (step strict 3 (ascii "MIT"), end)
    ∷ (step strict 5 (ascii "MIT " ++ é), no 20 (Number 5))
    -- white space: not only ASCII, and 5 names what this step skipped
    ∷ (
      steps strict (ascii "MIT" ++ (0xE3 ∷ 0x80 ∷ 0x80 ∷ []) ++ ascii "OR" ++ (0xC2 ∷ 0xA0 ∷ []) ++ ascii "ISC"),
      lic "MIT" 0 3 (tok or 6 8 (lic "ISC" 10 13 end)),
    )
    ∷ (step strict 3 (ascii "MIT  +"), at 5 3 5)
    ∷ (step strict 4 (ascii "MIT  +"), at 5 4 5)
    ∷ (step strict 5 (ascii "MIT  +"), tok plus 5 6 (next 6))
    ∷ (steps strict (ascii " +"), at 5 0 1)
    -- operators have two spellings, names one
    ∷ (steps strict (ascii "MIT Or ISC"), lic "MIT" 0 3 (at 4 4 6))
    ∷ (steps strict (ascii "and or with"), tok and 0 3 (tok or 4 6 (tok with 7 11 end)))
    ∷ (steps strict (ascii "AND OR WITH"), tok and 0 3 (tok or 4 6 (tok with 7 11 end)))
    ∷ (steps lax (ascii "Mit"), at 4 0 3)
    -- `/` and imprecise names, if allowed; the longest imprecise name
    ∷ (steps strict (ascii "MIT/ISC"), lic "MIT" 0 3 (at 3 3 7))
    ∷ (steps lax (ascii "MIT/ISC"), lic "MIT" 0 3 (tok or 3 4 (lic "ISC" 4 7 end)))
    ∷ (steps strict (ascii "mit"), at 4 0 3)
    ∷ (steps lax (ascii "apache2x"), lic "Apache-2.0" 0 7 (at 4 7 8))
    -- unknown terms, if allowed
    ∷ (steps strict (ascii "foo:b"), at 4 0 5)
    ∷ (steps only_unknown (ascii "foo:b"), tok (unknown (span 0 5)) 0 5 end)
    ∷ (steps every (ascii "mit-x"), lic "MIT" 0 3 (tok (unknown (span 3 5)) 3 5 end))
    -- references: split at the first `:`, ended at the next one, with names that may be empty
    ∷ (steps strict (ascii "LicenseRef-a:b"), tok (license_ref None (span 11 12)) 0 12 (at 4 12 14))
    ∷ (steps strict (ascii "AdditionRef-"), tok (addition_ref None (span 12 12)) 0 12 end)
    ∷ (steps strict (ascii "DocumentRef-a:LicenseRef-b"), tok (license_ref (Some (span 12 13)) (span 25 26)) 0 26 end)
    ∷ (steps strict (ascii "DocumentRef-:LicenseRef-"), tok (license_ref (Some (span 12 12)) (span 24 24)) 0 24 end)
    ∷ (steps strict (ascii "DocumentRef-a:AdditionRef-b:c"), tok (addition_ref (Some (span 12 13)) (span 26 27)) 0 27 (at 4 27 29))
    ∷ (steps strict (ascii "DocumentRef-a"), at 4 0 13)
    ∷ (steps strict (ascii "DocumentRef-a:MIT"), at 4 0 17)
    ∷ (steps strict (ascii "DocumentRef-a:b:LicenseRef-c"), at 4 0 28)
    ∷ (steps strict (ascii "licenseref-a"), at 4 0 12)
    ∷ []

worked : map (λ w. answer w.0) table ≡ map (λ w. w.1) table
unfolding
    table answer of_step of_tokens kind_of lic at é only_unknown every mode_of within lowest highest two three four decoded front char_width
    first_ill inside_of white_of white_width past_white over reach one begins same part ref_byte run_byte seek lookup licence_texts
    imprecise_texts licence_of exception_of bytes_at licence_name exception_name stands_for longest imprecise_of listed exceptions imprecise
    run_end ref_end operator_of ref_of documented imprecise_at unknown_of word_of run_of mark_of scan_of check_of from_of step_of walked steps_of
worked = refl
