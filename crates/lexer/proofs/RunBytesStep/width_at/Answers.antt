use Rattle.std.proofs.Common.{ap, ◌∙◌}
use Rattle.text.specs.Runs.{run_byte}
use Rattle.text.specs.RunLaws.{run_zero}
use Rattle.lexer.proofs.LexLaws.{width_said}
use Rattle.lexer.proofs.RunBytesStep.width_at.Goals as goal

pub returns : goal.returns
returns c =
    let a = c.args in
    c.from.ensures ∙ width_said run_byte run_zero a.s.now a.at _ (c.run_byte.ensures ∙ ap run_byte c.byte.ensures)
