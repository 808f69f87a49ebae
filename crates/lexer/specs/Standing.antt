-- What the token of a step is to the text that it stands in: a name is listed, a reference stands there as it is written, and how long a token is
-- told from how long it is written.
use Rattle.lexer.specs.Step.{Step}
use Rattle.std.specs.Prelude.{ℕ, ◌+◌, ◌-◌, ◌*◌, ◌<◌, ◌≤◌, ◌≡◌, List, length, Some, None, Ok, Err}
use Rattle.names.specs.Listed.{listed, exceptions}
use Rattle.names.specs.Lookup.{licence_name}
use Rattle.refusal.specs.declared.Span.{Span}
use Rattle.lexer.specs.declared.Token.{Token}
use Rattle.lexer.specs.declared.Token.TheVariants.{And, Or, With, Plus, Open, Close, Licence, Exception, LicenseRef, AdditionRef, Unknown}
use Rattle.lexer.specs.Spelling.{bytes_of, said, spell}

-- a name, for which an imprecise one may stand
pub record NameStands (k : ℕ) (sp : Span) : Type 0 where
  pub known : k < length listed
  pub room : length (licence_name k) + 5 ≤ 4 * (sp.end - sp.start)

-- a token that is written as it stands
abbrev pub AsItStands : List ℕ → Token → Span → Type 0
AsItStands s t sp = bytes_of s sp ≡ spell (said s t)

-- the token t of the text s, at sp
abbrev pub Standing : List ℕ → Token → Span → Type 0
Standing s And sp = sp.end ≡ sp.start + 3
Standing s Or sp = sp.start < sp.end
Standing s With sp = sp.end ≡ sp.start + 4
Standing s Plus sp = sp.end ≡ sp.start + 1
Standing s Open sp = sp.end ≡ sp.start + 1
Standing s Close sp = sp.end ≡ sp.start + 1
Standing s (Licence k) sp = NameStands k sp
Standing s (Exception k) sp = (k < length exceptions) × AsItStands s (Exception k) sp
Standing s (LicenseRef d n) sp = AsItStands s (LicenseRef d n) sp
Standing s (AdditionRef d n) sp = AsItStands s (AdditionRef d n) sp
Standing s (Unknown n) sp = AsItStands s (Unknown n) sp

abbrev pub StandingStep : List ℕ → Step → Type 0
StandingStep s (Ok (Some g)) = Standing s g.token g.span
StandingStep s (Ok None) = Unit {0}
StandingStep s (Err r) = Unit {0}
