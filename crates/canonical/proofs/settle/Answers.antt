-- By what the draft says.
use Rattle.std.proofs.Common.{◌∙◌, arith}
use Rattle.refusal.proofs.Passed.{passed}
use Rattle.lexer.proofs.Agree.{fine_short}
use Rattle.canonical.specs.Canonical.{canonical_of}
use Rattle.canonical.specs.AnswerLaws.{refused_answer}
use Rattle.canonical.proofs.settle.Goals as goal

pub compose-requires : goal.compose-requires
compose-requires c = (c.requires, omega (arith, fine_short c.args.s.now c.requires))

pub returns-in_err-n : goal.returns-in_err-n
returns-in_err-n c =
    let a = c.args in
    let p = passed c.from_residual.result c.from_residual.ensures.1 in
    let w = refused_answer a.s.now a.out.now (canonical_of a.s.now) _ c.in_err-n.ensures in
    (p ∙ w.0, w.1)
