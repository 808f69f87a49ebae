-- A step of width 0 ends the walk; any other ends inside the text, and the walk goes on behind it.
use Rattle.std.proofs.Common.{◌∙◌, ◌+◌, ◌≤◌, sym, arith, length}
use Rattle.text.specs.WalkLaws.{turn_end, turn_in, turn_on}
use Rattle.text.proofs.walk.Goals as goal

pub returns-then-w-eq0 : goal.returns-then-w-eq0
returns-then-w-eq0 g c =
    sym (c.loop-from.invariant ∙ turn_end g.S.Step.width g.met.S.Step.fits _ _ _ c.width_at-w.ensures c.if-w-eq0.true)

pub overflow_add-at : goal.overflow_add-at
overflow_add-at g c =
    let inside : c.loop-from.at + c.width_at-w.result ≤ length c.args.s.now = turn_in g.S.Step.width g.met.S.Step.fits _ _ _ c.width_at-w.ensures (omega arith) in
    omega arith

pub loop-from-smaller : goal.loop-from-smaller
loop-from-smaller g c =
    let inside : c.loop-from.at + c.width_at-w.result ≤ length c.args.s.now = turn_in g.S.Step.width g.met.S.Step.fits _ _ _ c.width_at-w.ensures (omega arith) in
    omega arith

pub loop-from-preserved : goal.loop-from-preserved
loop-from-preserved g c =
    c.loop-from.invariant ∙ turn_on g.S.Step.width g.met.S.Step.fits _ _ _ c.width_at-w.ensures (omega arith)
