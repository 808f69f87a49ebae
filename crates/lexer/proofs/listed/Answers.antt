use Rattle.lexer.specs.Shape.{listed_of}
use Rattle.lexer.proofs.listed.Goals as goal

pub returns-in-Some : goal.returns-in-Some
unfolding listed_of
returns-in-Some c = simp (← c.licence.ensures, c.in-Some.is)

pub returns-in-Some-exception : goal.returns-in-Some-exception
unfolding listed_of
returns-in-Some-exception c =
    simp (← c.licence.ensures, c.in_default.is, ← c.exception.ensures, c.in-Some-exception.is)

pub returns : goal.returns
unfolding listed_of
returns c =
    simp (← c.licence.ensures, c.in_default.is, ← c.exception.ensures, c.in_default-exception.is)
