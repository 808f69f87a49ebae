use Rattle.std.proofs.Common.{◌∙◌}
use Rattle.lexer.specs.Lex.{scan_of}
use Rattle.lexer.proofs.scan.Goals as goal

pub returns : goal.returns
unfolding scan_of
returns c = c.mark.ensures ∙ simp c.past_white.ensures
