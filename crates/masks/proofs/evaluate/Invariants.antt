-- What is left of the nodes, on the answers so far, comes to what all of them come to.
use Rattle.std.proofs.Common.{◌≡◌, drop}
use Rattle.masks.specs.Value.{run}
use Rattle.masks.proofs.evaluate.Given as goal

abbrev pub invariant-loop-x : goal.invariant-loop-x
invariant-loop-x l = run (drop l.x-index l.nodes) l.mask l.st ≡ run l.nodes l.mask 0
