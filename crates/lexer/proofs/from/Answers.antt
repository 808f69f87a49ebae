use Rattle.std.proofs.Common.{◌∙◌}
use Rattle.lexer.proofs.LexLaws.{from_out, from_in}
use Rattle.lexer.proofs.from.Goals as goal

pub returns-then-s-at : goal.returns-then-s-at
returns-then-s-at c = from_out _ _ _ _ c.inside.ensures c.if-s-at.true

pub returns : goal.returns
returns c = c.scan.ensures ∙ from_in _ _ _ _ c.inside.ensures c.if-s-at.false
