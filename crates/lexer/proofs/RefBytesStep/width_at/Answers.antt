use Rattle.std.proofs.Common.{ap, ◌∙◌}
use Rattle.text.specs.Runs.{ref_byte}
use Rattle.text.specs.RunLaws.{ref_zero}
use Rattle.lexer.proofs.LexLaws.{width_said}
use Rattle.lexer.proofs.RefBytesStep.width_at.Goals as goal

pub returns : goal.returns
returns c =
    let a = c.args in
    c.from.ensures ∙ width_said ref_byte ref_zero a.s.now a.at _ (c.ref_byte.ensures ∙ ap ref_byte c.byte.ensures)
