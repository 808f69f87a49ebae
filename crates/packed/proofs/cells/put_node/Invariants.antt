-- At the loop's head the first i cells are written.
use Rattle.text.proofs.OverlayLaws.{Writing}
use Rattle.packed.proofs.cells.put_node.Given as goal

abbrev pub invariant-loop-i : goal.invariant-loop-i
invariant-loop-i l = Writing l.at l.p l.initial.out l.out l.i
