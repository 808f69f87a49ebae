-- The terms stored so far are those of the leaves passed, and the nodes passed are small.
use Rattle.std.proofs.Common.{◌≡◌, ◌≤◌, length, take}
use Rattle.minimize.specs.Posed.{leaf_terms, SmallNodes}
use Rattle.minimize.proofs.put_leaves.Given as goal

abbrev pub invariant-loop-x : goal.invariant-loop-x
invariant-loop-x l =
    (l.n ≤ l.x-index) × (length l.leaves ≡ 127) × (take l.n l.leaves ≡ leaf_terms (take l.x-index l.nodes))
    × SmallNodes (take l.x-index l.nodes)
