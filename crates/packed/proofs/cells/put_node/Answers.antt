use Rattle.std.proofs.Common.{refl, arith}
use Rattle.text.proofs.OverlayLaws.{writing_start, writing_on}
use Rattle.packed.proofs.cells.put_node.Goals as goal

pub loop-i-init : goal.loop-i-init
loop-i-init c = writing_start c.args.at c.of_node-p.result c.args.out.now

pub loop-i-preserved : goal.loop-i-preserved
loop-i-preserved c =
    writing_on c.args.at c.of_node-p.result c.args.out.now c.loop-i.out c.loop-i.i _ (omega arith) (omega arith) refl c.loop-i.invariant
