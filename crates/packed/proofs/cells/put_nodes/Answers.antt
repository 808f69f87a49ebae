use Rattle.std.proofs.Common.{arith}
use Rattle.packed.specs.RecordLaws.{recorded_start, recorded_on}
use Rattle.packed.proofs.cells.put_nodes.Goals as goal

pub loop-i-init : goal.loop-i-init
loop-i-init c = recorded_start c.args.nodes.now c.args.out.now

pub loop-i-preserved : goal.loop-i-preserved
loop-i-preserved c = recorded_on c.args.nodes.now c.args.out.now _ _ c.loop-i.i _ (omega arith) (omega arith) c.put_node.ensures c.loop-i.invariant
