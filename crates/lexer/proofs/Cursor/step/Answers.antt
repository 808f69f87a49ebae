use Rattle.std.proofs.Common.{◌∙◌}
use Rattle.refusal.proofs.Passed.{passed}
use Rattle.lexer.specs.Lex.{step_of}
use Rattle.lexer.proofs.Cursor.step.Goals as goal

pub returns-in_err-check : goal.returns-in_err-check
unfolding step_of
returns-in_err-check c =
    let p = passed c.from_residual.result c.from_residual.ensures.1 in
    p ∙ simp (← c.check.ensures, c.in_err-check.was)

pub returns : goal.returns
unfolding step_of
returns c = c.from.ensures ∙ simp (← c.check.ensures, c.in_ok-check.was)
