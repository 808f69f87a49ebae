-- What is posed is refused, or the places of the found stand in the array, and are written.
use Rattle.std.proofs.Common.{refl, sym, ap, Ok}
use Rattle.refusal.proofs.Passed.{passed}
use Rattle.minimize.specs.Minimize.{found_answer, found_buffer}
use Rattle.minimize.proofs.ProblemLaws.{call_refused, call_read}
use Rattle.minimize.proofs.found.Goals as goal

pub returns-in_err-p : goal.returns-in_err-p
unfolding found_answer found_buffer
returns-in_err-p c =
    let p = passed c.from_residual.result c.from_residual.ensures.1 in
    let e = (call_refused c.args.s.now c.args.m c.args.file.now _ _ _ c.pose.ensures _ c.in_err-p.was).1 in
    rw e (p, refl)

pub returns : goal.returns
unfolding found_answer found_buffer
returns c =
    let w = call_read c.args.s.now c.args.m c.args.file.now _ _ _ c.pose.ensures _ c.in_ok-p.was in
    rw w.places (ap Ok (sym w.many), c.put.ensures.1)
