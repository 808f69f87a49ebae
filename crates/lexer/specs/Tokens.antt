-- All tokens of a text, ended by done or by a refusal. Document 01: "tokens left to right"; "At the end a step answers done; a lexer
-- refusal gives no next cursor".
use Rattle.lexer.specs.Step.{Step}
use Rattle.std.specs.Prelude.{ℕ, zero, suc, ◌-◌, List, length, Some, None, Ok, Err}
use Rattle.refusal.specs.declared.Span.{Span}
use Rattle.refusal.specs.declared.Refusal.{Refusal}
use Rattle.mode.specs.declared.Mode.{Mode}
use Rattle.lexer.specs.declared.Token.{Token}
use Rattle.lexer.specs.Lex.{scan_of, step_of}

pub data Tokens : Type 0 where
  done : Tokens
  refused : Refusal → Tokens
  token : Token → Span → Tokens → Tokens

-- a step's answer, and what `go` gives from the next cursor on
abbrev pub and_then : Step → (ℕ → Tokens) → Tokens
and_then (Ok (Some g)) go = token g.token g.span (go g.next.at)
and_then (Ok None) go = done
and_then (Err r) go = refused r

-- what a step gives, begun at a place and resumed from its own next cursor, in n steps at most
unfoldable pub walked : (ℕ → Step) → ℕ → ℕ → Tokens
walked f zero at = done
walked f (suc n) at = and_then (f at) (walked f n)

-- a step goes ahead, so one more than the bytes that are left is enough (TokensLaws.antt): from a place of a text that was checked
unfoldable pub tokens_of : List ℕ → Mode → ℕ → Tokens
tokens_of s m at = walked (scan_of s m) (suc (length s - at)) at

-- and from a place of any bytes, by the public step
unfoldable pub steps_of : List ℕ → Mode → ℕ → Tokens
steps_of s m at = walked (step_of s m) (suc (length s - at)) at
