-- What is posed is the problem, and the choice by the evaluator is the choice.
use Rattle.std.proofs.Common.{sym, ap, ◌∙◌, arith}
use Rattle.refusal.proofs.Passed.{passed}
use Rattle.minimize.specs.Minimize.{Problem, chosen_in, choice_of}
use Rattle.minimize.proofs.ProblemLaws.{call_refused, call_read, posed_empty}
use Rattle.minimize.proofs.choice.Goals as goal

pub returns-in_err-p : goal.returns-in_err-p
unfolding choice_of
returns-in_err-p c =
    let p = passed c.from_residual.result c.from_residual.ensures.1 in
    let e = (call_refused c.args.s.now c.args.m c.args.file.now _ _ _ c.pose.ensures _ c.in_err-p.was).0 in
    p ∙ sym (ap (λ (x : Problem). chosen_in x c.args.budget) e)

pub choose-requires : goal.choose-requires
choose-requires c =
    let w = call_read c.args.s.now c.args.m c.args.file.now _ _ _ c.pose.ensures _ c.in_ok-p.was in
    (omega (arith, w.few), posed_empty _ _ _ _ _ _ _ w)

pub returns : goal.returns
unfolding choice_of
returns c = rw (call_read c.args.s.now c.args.m c.args.file.now _ _ _ c.pose.ensures _ c.in_ok-p.was).problem c.choose.ensures
