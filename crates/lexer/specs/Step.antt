-- What a step answers: a token with the next cursor, nothing where the text has ended, or a refusal.
-- Document 01: "a cursor by value whose step method hands the next cursor back".
use Rattle.std.specs.Prelude.{Option, Result}
use Rattle.refusal.specs.declared.Refusal.{Refusal}
use Rattle.lexer.specs.declared.Got.{Got}

abbrev pub Step : Type 0
Step = Result (Option Got) Refusal
