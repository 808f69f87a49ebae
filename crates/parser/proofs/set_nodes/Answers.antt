use Rattle.std.proofs.Common.{◌∙◌, sym, ap, arith, Ok}
use Rattle.refusal.proofs.Passed.{passed}
use Rattle.parser.specs.Arrays.{
  begins,
  taken,
  refuses,
  mid_sizes,
  mid_small,
  pop_room,
  pop_next,
  turned,
  put_next,
  push_next,
  go_next,
  ends,
  fails,
}
use Rattle.parser.proofs.set_nodes.Goals as goal

pub loop-step-init : goal.loop-step-init
loop-step-init c = rw c.requires.1 (begins c.args.s.now c.args.m _)

pub returns-in_err-step : goal.returns-in_err-step
returns-in_err-step c =
    let p = passed c.from_residual.result c.from_residual.ensures.1 in
    rw p (refuses _ _ _ (sym c.in_err-step.was ∙ c.scan.ensures) c.loop-step.invariant)

pub loop-ends-init : goal.loop-ends-init
loop-ends-init c = taken _ _ _ _ (sym c.in_ok-step.was ∙ c.scan.ensures) c.rank-ends.ensures c.loop-step.invariant

pub bounds-stack-sp : goal.bounds-stack-sp
bounds-stack-sp c = (mid_sizes _ _ c.loop-ends.invariant).0

pub bounds-stack-sp-in-loop-ends : goal.bounds-stack-sp-in-loop-ends
bounds-stack-sp-in-loop-ends c = (mid_sizes _ _ c.loop-ends.invariant).0

pub bounds-nodes-count : goal.bounds-nodes-count
bounds-nodes-count c = (pop_room _ _ c.loop-ends.invariant _ c.pops.ensures c.loop-ends-test.true).0

pub overflow_sub-sp : goal.overflow_sub-sp
overflow_sub-sp c = omega (arith, (pop_room _ _ c.loop-ends.invariant _ c.pops.ensures c.loop-ends-test.true).1)

pub loop-ends-smaller : goal.loop-ends-smaller
loop-ends-smaller c = omega (arith, (pop_room _ _ c.loop-ends.invariant _ c.pops.ensures c.loop-ends-test.true).1)

pub loop-ends-preserved : goal.loop-ends-preserved
loop-ends-preserved c = pop_next _ _ c.loop-ends.invariant _ c.pops.ensures c.loop-ends-test.true _ c.operator.ensures

pub bounds-stack-sp-in-loop-step : goal.bounds-stack-sp-in-loop-step
bounds-stack-sp-in-loop-step c = (mid_sizes _ _ c.loop-ends.invariant).0

pub turn-requires : goal.turn-requires
turn-requires c =
    let i = c.loop-ends.invariant in
    (mid_small _ _ i c.requires.0, omega (arith, (mid_sizes _ _ i).0), omega (arith, (mid_sizes _ _ i).1))

pub returns-in_err-l : goal.returns-in_err-l
returns-in_err-l c =
    let p = passed c.from_residual-in_err-l.result c.from_residual-in_err-l.ensures.1 in
    rw p (fails _ _ c.loop-ends.invariant _
    (turned _ _ c.loop-ends.invariant _ c.pops.ensures c.loop-ends-test.false _ _ c.turn.ensures c.in_err-l.was))

pub overflow_sub-next : goal.overflow_sub-next
overflow_sub-next c = omega (arith, (turned _ _ c.loop-ends.invariant _ c.pops.ensures c.loop-ends-test.false _ _ c.turn.ensures (c.in_ok-l.was ∙ ap Ok c.in-Put.is)).some)

pub offset_bounds-nodes-next : goal.offset_bounds-nodes-next
offset_bounds-nodes-next c = omega (arith, (turned _ _ c.loop-ends.invariant _ c.pops.ensures c.loop-ends-test.false _ _ c.turn.ensures (c.in_ok-l.was ∙ ap Ok c.in-Put.is)).room)

pub bounds-nodes-next : goal.bounds-nodes-next
bounds-nodes-next c = (turned _ _ c.loop-ends.invariant _ c.pops.ensures c.loop-ends-test.false _ _ c.turn.ensures (c.in_ok-l.was ∙ ap Ok c.in-Put.is)).room

pub loop-step-smaller-in-Put : goal.loop-step-smaller-in-Put
loop-step-smaller-in-Put c =
    let d = turned _ _ c.loop-ends.invariant _ c.pops.ensures c.loop-ends-test.false _ _ c.turn.ensures (c.in_ok-l.was ∙ ap Ok c.in-Put.is) in omega (arith, d.ahead, d.stands.good.place)

pub loop-step-preserved-in-Put : goal.loop-step-preserved-in-Put
loop-step-preserved-in-Put c = put_next _ _ c.loop-ends.invariant _ _ (turned _ _ c.loop-ends.invariant _ c.pops.ensures c.loop-ends-test.false _ _ c.turn.ensures (c.in_ok-l.was ∙ ap Ok c.in-Put.is))

pub offset_bounds-stack-next : goal.offset_bounds-stack-next
offset_bounds-stack-next c = omega (arith, (turned _ _ c.loop-ends.invariant _ c.pops.ensures c.loop-ends-test.false _ _ c.turn.ensures (c.in_ok-l.was ∙ ap Ok c.in-Push.is)).room)

pub bounds-stack-next : goal.bounds-stack-next
bounds-stack-next c = (turned _ _ c.loop-ends.invariant _ c.pops.ensures c.loop-ends-test.false _ _ c.turn.ensures (c.in_ok-l.was ∙ ap Ok c.in-Push.is)).room

pub loop-step-smaller-in-Push : goal.loop-step-smaller-in-Push
loop-step-smaller-in-Push c =
    let d = turned _ _ c.loop-ends.invariant _ c.pops.ensures c.loop-ends-test.false _ _ c.turn.ensures (c.in_ok-l.was ∙ ap Ok c.in-Push.is) in omega (arith, d.ahead, d.stands.good.place)

pub loop-step-preserved-in-Push : goal.loop-step-preserved-in-Push
loop-step-preserved-in-Push c = push_next _ _ c.loop-ends.invariant _ _ (turned _ _ c.loop-ends.invariant _ c.pops.ensures c.loop-ends-test.false _ _ c.turn.ensures (c.in_ok-l.was ∙ ap Ok c.in-Push.is))

pub loop-step-smaller : goal.loop-step-smaller
loop-step-smaller c =
    let d = turned _ _ c.loop-ends.invariant _ c.pops.ensures c.loop-ends-test.false _ _ c.turn.ensures (c.in_ok-l.was ∙ ap Ok c.in-Go.is) in omega (arith, d.ahead, d.stands.good.place)

pub loop-step-preserved : goal.loop-step-preserved
loop-step-preserved c = go_next _ _ c.loop-ends.invariant _ (turned _ _ c.loop-ends.invariant _ c.pops.ensures c.loop-ends-test.false _ _ c.turn.ensures (c.in_ok-l.was ∙ ap Ok c.in-Go.is))

pub returns-in-Done : goal.returns-in-Done
returns-in-Done c = ends _ _ c.loop-ends.invariant (turned _ _ c.loop-ends.invariant _ c.pops.ensures c.loop-ends-test.false _ _ c.turn.ensures (c.in_ok-l.was ∙ ap Ok c.in-Done.is))
