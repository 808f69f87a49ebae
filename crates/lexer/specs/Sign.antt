-- A token as the floors above see it. Document 01: a token is `+`, `(`, `)`, an operator, a licence, an exception, a reference of one of two
-- kinds, or an unknown term.
use Rattle.std.specs.Prelude.{ℕ}

-- R is what a reference is: the ranges of its names, or their bytes. S is what a licence keeps of its place: its span, or nothing. `bad` is
-- what the lexer refuses.
pub data Sign (R S : Type 0) : Type 0 where
  name : ℕ → S → Sign R S
  reference : R → S → Sign R S
  unknown : R → S → Sign R S
  exception : ℕ → Sign R S
  addition : R → Sign R S
  plus : Sign R S
  WITH : Sign R S
  AND : Sign R S
  OR : Sign R S
  LP : Sign R S
  RP : Sign R S
  bad : Sign R S
