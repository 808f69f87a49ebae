-- What is posed is the problem, and the listing by the evaluator is the listing.
use Rattle.std.proofs.Common.{sym, ap, ◌∙◌}
use Rattle.refusal.proofs.Passed.{passed}
use Rattle.minimize.specs.Minimize.{Problem, listed_in, listing_of}
use Rattle.minimize.proofs.ProblemLaws.{call_refused, call_read}
use Rattle.minimize.proofs.listing.Goals as goal

pub returns-in_err-p : goal.returns-in_err-p
unfolding listing_of
returns-in_err-p c =
    let p = passed c.from_residual.result c.from_residual.ensures.1 in
    let e = (call_refused c.args.s.now c.args.m c.args.file.now _ _ _ c.pose.ensures _ c.in_err-p.was).0 in
    p ∙ sym (ap (λ (x : Problem). listed_in x c.args.cursor c.args.budget) e)

pub returns : goal.returns
unfolding listing_of
returns c = rw (call_read c.args.s.now c.args.m c.args.file.now _ _ _ c.pose.ensures _ c.in_ok-p.was).problem c.list.ensures
