-- A text's tokens by their bytes, with no place of any, and how each is written. Document 01: "Trees compare references by their bytes";
-- "Canonical text: by the rules of `canonicalize`": operators in upper case with a space on each side, names as they are listed, parentheses
-- and references as they are.
use Rattle.std.specs.Prelude.{ℕ, List, [], ◌∷◌, ◌++◌, Some, None, Option}
use Rattle.text.specs.Text.{ascii, part}
use Rattle.names.specs.Lookup.{licence_name, exception_name}
use Rattle.refusal.specs.declared.Span.{Span}
use Rattle.mode.specs.declared.Mode.{Mode}
use Rattle.lexer.specs.declared.Token.{Token}
use Rattle.lexer.specs.declared.Token.TheVariants as T
use Rattle.lexer.specs.Tokens.{Tokens, done, refused, token, tokens_of}
use Rattle.lexer.specs.Sign.{Sign, name, reference, unknown, exception, addition, plus, WITH, AND, OR, LP, RP, bad}

-- a reference: its document part, if it has one, and its name
abbrev pub Naming : Type 0
Naming = Option (List ℕ) × List ℕ

-- a token by its bytes
abbrev pub Spoken : Type 0
Spoken = Sign Naming (Unit {0})

abbrev pub bytes_of : List ℕ → Span → List ℕ
bytes_of s sp = part sp.start sp.end s

abbrev pub doc_bytes : List ℕ → Option Span → Option (List ℕ)
doc_bytes s None = None
doc_bytes s (Some d) = Some (bytes_of s d)

abbrev pub said : List ℕ → Token → Spoken
said s T.And = AND
said s T.Or = OR
said s T.With = WITH
said s T.Plus = plus
said s T.Open = LP
said s T.Close = RP
said s (T.Licence k) = name k tt
said s (T.Exception k) = exception k
said s (T.LicenseRef d n) = reference (doc_bytes s d, bytes_of s n) tt
said s (T.AdditionRef d n) = addition (doc_bytes s d, bytes_of s n)
said s (T.Unknown n) = unknown (None, bytes_of s n) tt

abbrev pub said_of : List ℕ → Tokens → List Spoken
said_of s done = []
said_of s (refused r) = bad ∷ []
said_of s (token t sp ts) = said s t ∷ said_of s ts

-- the tokens of a text from a place on
unfoldable pub heard : List ℕ → Mode → ℕ → List Spoken
heard s m at = said_of s (tokens_of s m at)

-- a reference w, behind its document part
abbrev pub behind_doc : Option (List ℕ) → List ℕ → List ℕ
behind_doc None w = w
behind_doc (Some d) w = ascii "DocumentRef-" ++ (d ++ (ascii ":" ++ w))

-- how a token is written
abbrev pub spell : Spoken → List ℕ
spell AND = ascii " AND "
spell OR = ascii " OR "
spell WITH = ascii " WITH "
spell plus = ascii "+"
spell LP = ascii "("
spell RP = ascii ")"
spell (name k p) = licence_name k
spell (exception k) = exception_name k
spell (reference r p) = behind_doc r.0 (ascii "LicenseRef-" ++ r.1)
spell (addition r) = behind_doc r.0 (ascii "AdditionRef-" ++ r.1)
spell (unknown r p) = r.1
spell bad = []

-- one behind the other
unfoldable pub spell_all : List Spoken → List ℕ
spell_all [] = []
spell_all (x ∷ w) = spell x ++ spell_all w
