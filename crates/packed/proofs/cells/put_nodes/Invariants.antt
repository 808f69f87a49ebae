-- At the loop's head the cells of the first i nodes are written.
use Rattle.packed.specs.RecordLaws.{Recorded}
use Rattle.packed.proofs.cells.put_nodes.Given as goal

abbrev pub invariant-loop-i : goal.invariant-loop-i
invariant-loop-i l = Recorded l.nodes l.initial.out l.out l.i
