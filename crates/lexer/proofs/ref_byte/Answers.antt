use Rattle.text.specs.Text.{within}
use Rattle.text.specs.Runs.{ref_byte}
use Rattle.lexer.proofs.ref_byte.Goals as goal

pub returns : goal.returns
unfolding ref_byte within
returns c = cc (c.is_ascii_alphanumeric.ensures.value)
