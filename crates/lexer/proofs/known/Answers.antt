-- The code tries in groups: `grouped`.
use Rattle.std.proofs.Common.{of_calls}
use Rattle.text.specs.Text.{part}
use Rattle.lexer.specs.Shape.{other_of, grouped}
use Rattle.lexer.proofs.LexLaws.{or_said}
use Rattle.lexer.proofs.known.Goals as goal

pub returns : goal.returns
unfolding part
returns c =
    let a = c.args in
    rw (grouped a.s.now a.m a.p a.e) (or_said _ _ (other_of a.s.now a.m a.p a.e) _ c.named.ensures (λ p. search of_calls) c.or_else.ensures)
