use Rattle.std.proofs.Common.{of_calls}
use Rattle.lexer.specs.Shape.{named_of}
use Rattle.lexer.proofs.LexLaws.{or_said}
use Rattle.lexer.proofs.named.Goals as goal

pub returns : goal.returns
unfolding named_of
returns c = or_said _ _ _ _ c.operator.ensures (λ p. search of_calls) c.or_else.ensures
