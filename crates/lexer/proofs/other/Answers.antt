use Rattle.std.proofs.Common.{of_calls}
use Rattle.lexer.specs.Shape.{other_of}
use Rattle.lexer.proofs.LexLaws.{or_said}
use Rattle.lexer.proofs.other.Goals as goal

pub returns : goal.returns
unfolding other_of
returns c = or_said _ _ _ _ c.reference.ensures (λ p. search of_calls) c.or_else.ensures
