-- What is left of the run stands to what is left of the name as the whole run to the whole name.
use Rattle.std.proofs.Common.{◌∙◌, arith}
use Rattle.names.specs.Layout.{name_at}
use Rattle.names.specs.OrderLaws.{run_ends, name_ends, both_end, less_here, greater_here, same_here}
use Rattle.names.proofs.LayoutLaws.{body_fits, byte_at}
use Rattle.names.proofs.compare.Goals as goal

pub returns-then-run-i : goal.returns-then-run-i
returns-then-run-i c =
    run_ends c.args.run.now (name_at c.args.k) c.loop-i.i c.loop-i.invariant.1 (omega arith) (omega arith)

pub overflow_add-at : goal.overflow_add-at
overflow_add-at c = omega (arith, body_fits c.args.k c.requires)

pub cell-x-requires : goal.cell-x-requires
cell-x-requires c = omega (arith, body_fits c.args.k c.requires)

pub returns-then-b-x : goal.returns-then-b-x
returns-then-b-x c =
    let x = c.cell-x.ensures ∙ byte_at c.args.k c.requires c.start-at.result c.loop-i.i c.start-at.ensures (omega arith) in
    less_here c.args.run.now (name_at c.args.k) c.loop-i.i c.loop-i.invariant.1 (omega arith) (omega arith) (omega arith)

pub returns-then-x-b : goal.returns-then-x-b
returns-then-x-b c =
    let x = c.cell-x.ensures ∙ byte_at c.args.k c.requires c.start-at.result c.loop-i.i c.start-at.ensures (omega arith) in
    greater_here c.args.run.now (name_at c.args.k) c.loop-i.i c.loop-i.invariant.1 (omega arith) (omega arith) (omega arith)

pub loop-i-preserved : goal.loop-i-preserved
loop-i-preserved c =
    let x = c.cell-x.ensures ∙ byte_at c.args.k c.requires c.start-at.result c.loop-i.i c.start-at.ensures (omega arith) in
    (omega arith, same_here c.args.run.now (name_at c.args.k) c.loop-i.i c.loop-i.invariant.1 (omega arith) (omega arith) (omega arith))

pub returns-then-n-run : goal.returns-then-n-run
returns-then-n-run c =
    name_ends c.args.run.now (name_at c.args.k) c.loop-i.i c.loop-i.invariant.1 (omega arith) (omega arith)

pub returns-else-n-run : goal.returns-else-n-run
returns-else-n-run c =
    both_end c.args.run.now (name_at c.args.k) c.loop-i.i c.loop-i.invariant.1 (omega arith) (omega arith)
