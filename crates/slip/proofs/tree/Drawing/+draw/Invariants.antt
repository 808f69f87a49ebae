-- The measure is how many nodes the part has.
use Rattle.std.proofs.Common.{length}
use Rattle.slip.proofs.tree.Drawing.+draw.Given as goal

abbrev pub decreases-draw : goal.decreases-draw
decreases-draw l = length l.nodes.now
