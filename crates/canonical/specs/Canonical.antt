-- The canonical text, by the tokens of a text. Document 01: "Always LAX, by the rules of `canonicalize`. A GNU name and its `+` are written as
-- the name without "-only", then "-or-later"", and a bare GNU name with "-only"; "If equal to the text the answer is "unchanged" and nothing is
-- written. Otherwise it fills the front of the lent buffer; later bytes stay"; "Canonical `+` with no listed licence just before: licence";
-- "Canonical: 2, 1, tokens with their 6, then 16".
use Rattle.std.specs.Prelude.{ℕ, Bool, true, false, cond, not, ◌&&◌, List, [], ◌++◌, length, ltb, Result, Ok, Err, ⊤}
use Rattle.text.specs.Text.{ascii, same}
use Rattle.text.specs.Overlay.{overlay}
use Rattle.names.specs.Lookup.{licence_name, gnu_of, is_bare, stem}
use Rattle.refusal.specs.declared.Expected.TheVariants as E
use Rattle.refusal.specs.declared.Refusal.{Refusal}
use Rattle.refusal.specs.declared.Refusal.TheVariants.{Unexpected, NoRoom}
use Rattle.mode.specs.Modes.{lax}
use Rattle.lexer.specs.declared.Token.{Token}
use Rattle.lexer.specs.declared.Token.TheVariants as T
use Rattle.lexer.specs.Lex.{check_of}
use Rattle.lexer.specs.Tokens.{Tokens, done, refused, token, tokens_of}
use Rattle.lexer.specs.Sign.{name, reference, unknown, exception, addition, plus, WITH, AND, OR, LP, RP, bad}
use Rattle.lexer.specs.Spelling.{Spoken, said, spell}
use Rattle.canonical.specs.declared.Answer.{Answer}
use Rattle.canonical.specs.declared.Answer.TheVariants.{Unchanged, Written}

-- a listed licence alone, and with its `+`
unfoldable pub alone : ℕ → List ℕ
alone k = licence_name k ++ cond (is_bare k) (ascii "-only") []

unfoldable pub plussed : ℕ → List ℕ
plussed k = cond (gnu_of k) (stem (licence_name k) ++ ascii "-or-later") (licence_name k ++ ascii "+")

-- what a token is written as; b says if a `+` stands behind it, which is written with its licence
abbrev pub written : Spoken → Bool → List ℕ
written (name k p) b = cond b (plussed k) (alone k)
written plus b = []
written (reference r p) b = spell (reference r p)
written (unknown r p) b = spell (unknown r p)
written (exception k) b = spell (exception k)
written (addition r) b = spell (addition r)
written WITH b = spell WITH
written AND b = spell AND
written OR b = spell OR
written LP b = spell LP
written RP b = spell RP
written bad b = spell bad

abbrev pub is_plus : Token → Bool
is_plus T.And = false
is_plus T.Or = false
is_plus T.With = false
is_plus T.Plus = true
is_plus T.Open = false
is_plus T.Close = false
is_plus (T.Licence k) = false
is_plus (T.Exception k) = false
is_plus (T.LicenseRef d n) = false
is_plus (T.AdditionRef d n) = false
is_plus (T.Unknown n) = false

abbrev pub is_listed : Token → Bool
is_listed T.And = false
is_listed T.Or = false
is_listed T.With = false
is_listed T.Plus = false
is_listed T.Open = false
is_listed T.Close = false
is_listed (T.Licence k) = true
is_listed (T.Exception k) = false
is_listed (T.LicenseRef d n) = false
is_listed (T.AdditionRef d n) = false
is_listed (T.Unknown n) = false

-- is a `+` the first of them
abbrev pub plus_next : Tokens → Bool
plus_next done = false
plus_next (refused r) = false
plus_next (token t sp ts) = is_plus t

-- a text, or why there is none
pub data Text : Type 0 where
  text : List ℕ → Text
  refuse : Refusal → Text

-- these bytes, then that text
abbrev pub behind : List ℕ → Text → Text
behind p (text c) = text (p ++ c)
behind p (refuse r) = refuse r

-- the tokens ts of the text s; b says if a listed licence stands just before them
unfoldable pub canon_from : List ℕ → Bool → Tokens → Text
canon_from s b done = text []
canon_from s b (refused r) = refuse r
canon_from s b (token t sp ts) =
    cond (is_plus t && not b) (refuse (Unexpected sp E.Licence)) (behind (written (said s t) (plus_next ts)) (canon_from s (is_listed t) ts))

-- 2 and 1 come before the tokens
abbrev pub canon_if : List ℕ → Result ⊤ Refusal → Text
canon_if s (Ok tt) = canon_from s false (tokens_of s lax 0)
canon_if s (Err r) = refuse r

unfoldable pub canonical_of : List ℕ → Text
canonical_of s = canon_if s (check_of s)

-- the answer, where the buffer b is lent; 16, "canonical text differs from the text and is longer than the buffer: its length"
unfoldable pub answer_of : List ℕ → List ℕ → Text → Result Answer Refusal
answer_of s b (refuse r) = Err r
answer_of s b (text c) = cond (same c s) (Ok Unchanged) (cond (ltb (length b) (length c)) (Err (NoRoom (length c))) (Ok (Written (length c))))

-- and what the buffer holds then
unfoldable pub buffer_of : List ℕ → List ℕ → Text → List ℕ
buffer_of s b (refuse r) = b
buffer_of s b (text c) = cond (same c s) b (cond (ltb (length b) (length c)) b (overlay 0 c b))
