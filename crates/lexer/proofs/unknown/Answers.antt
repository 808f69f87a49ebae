use Rattle.text.specs.Tests.{tests}
use Rattle.lexer.specs.Lex.{unknown_of}
use Rattle.lexer.proofs.unknown.Goals as goal

pub returns-then-m : goal.returns-then-m
unfolding unknown_of
returns-then-m c = search tests

pub returns-else-m : goal.returns-else-m
unfolding unknown_of
returns-else-m c = search tests
