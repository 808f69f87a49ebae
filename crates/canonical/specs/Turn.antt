-- Nothing to believe: what one turn of the code does with a step of the lexer.
use Rattle.lexer.specs.Step.{Step}
use Rattle.std.specs.Prelude.{ℕ, ◌+◌, ◌≤◌, ◌≡◌, Bool, cond, List, [], length, take, get_or, eqb, Option, Some, None, Result, Ok, Err}
use Rattle.refusal.specs.declared.Span.{Span}
use Rattle.refusal.specs.declared.Expected.TheVariants as E
use Rattle.refusal.specs.declared.Refusal.{Refusal}
use Rattle.refusal.specs.declared.Refusal.TheVariants.{Unexpected}
use Rattle.lexer.specs.declared.Token.{Token}
use Rattle.lexer.specs.declared.Token.TheVariants as T
use Rattle.lexer.specs.Spelling.{said, spell}
use Rattle.canonical.specs.declared.Place.{Place}
use Rattle.canonical.specs.Canonical.{alone, plussed, Text, text, refuse}

-- the next token is looked for at a place, and so many bytes are written
abbrev pub goes : ℕ → ℕ → Place
goes at len = record { at = at; len = len }

-- does a `+` stand at a place
unfoldable pub plus_at : List ℕ → ℕ → Bool
plus_at s at = eqb (get_or s at 0) 0x2B

-- the listed licence k that ends at e: what it is written as with a `+` that follows at once, and where the next token is looked for
unfoldable pub licence_piece : List ℕ → ℕ → ℕ → List ℕ
licence_piece s k e = cond (plus_at s e) (plussed k) (alone k)

unfoldable pub licence_next : List ℕ → ℕ → ℕ
licence_next s e = cond (plus_at s e) (e + 1) e

-- what a token that ends at e is written as, and where the next one is looked for
abbrev pub piece : List ℕ → Token → ℕ → List ℕ
piece s T.And e = spell (said s T.And)
piece s T.Or e = spell (said s T.Or)
piece s T.With e = spell (said s T.With)
piece s T.Plus e = []
piece s T.Open e = spell (said s T.Open)
piece s T.Close e = spell (said s T.Close)
piece s (T.Licence k) e = licence_piece s k e
piece s (T.Exception k) e = spell (said s (T.Exception k))
piece s (T.LicenseRef d n) e = spell (said s (T.LicenseRef d n))
piece s (T.AdditionRef d n) e = spell (said s (T.AdditionRef d n))
piece s (T.Unknown n) e = spell (said s (T.Unknown n))

abbrev pub next : List ℕ → Token → ℕ → ℕ
next s T.And e = e
next s T.Or e = e
next s T.With e = e
next s T.Plus e = e
next s T.Open e = e
next s T.Close e = e
next s (T.Licence k) e = licence_next s e
next s (T.Exception k) e = e
next s (T.LicenseRef d n) e = e
next s (T.AdditionRef d n) e = e
next s (T.Unknown n) e = e

-- what a token is to the code: a `+` here stands behind no listed licence
abbrev pub token_turn : List ℕ → ℕ → Token → Span → ℕ → Result Place Refusal
token_turn s n T.And sp e = Ok (goes e (n + length (piece s T.And e)))
token_turn s n T.Or sp e = Ok (goes e (n + length (piece s T.Or e)))
token_turn s n T.With sp e = Ok (goes e (n + length (piece s T.With e)))
token_turn s n T.Plus sp e = Err (Unexpected sp E.Licence)
token_turn s n T.Open sp e = Ok (goes e (n + length (piece s T.Open e)))
token_turn s n T.Close sp e = Ok (goes e (n + length (piece s T.Close e)))
token_turn s n (T.Licence k) sp e = Ok (goes (licence_next s e) (n + length (licence_piece s k e)))
token_turn s n (T.Exception k) sp e = Ok (goes e (n + length (piece s (T.Exception k) e)))
token_turn s n (T.LicenseRef d x) sp e = Ok (goes e (n + length (piece s (T.LicenseRef d x) e)))
token_turn s n (T.AdditionRef d x) sp e = Ok (goes e (n + length (piece s (T.AdditionRef d x) e)))
token_turn s n (T.Unknown x) sp e = Ok (goes e (n + length (piece s (T.Unknown x) e)))

-- what a turn answers: how far the draft has come, nothing where the text has ended, or a refusal
abbrev pub Turn : Type 0
Turn = Result (Option Place) Refusal

abbrev pub goes_on : Result Place Refusal → Turn
goes_on (Ok p) = Ok (Some p)
goes_on (Err r) = Err r

-- a step, with n bytes written before it
abbrev pub turn_of : List ℕ → ℕ → Step → Turn
turn_of s n (Ok (Some g)) = goes_on (token_turn s n g.token g.span g.next.at)
turn_of s n (Ok None) = Ok None
turn_of s n (Err r) = Err r

abbrev pub step_piece : List ℕ → Step → List ℕ
step_piece s (Ok (Some g)) = piece s g.token g.next.at
step_piece s (Ok None) = []
step_piece s (Err r) = []

-- what a draft says of the canonical text x, where its buffer has become c
abbrev pub Drafted : Text → Result ℕ Refusal → List ℕ → Type 0
Drafted x (Ok n) c = (x ≡ text (take n c)) × (n ≤ length c)
Drafted x (Err r) c = x ≡ refuse r
