-- A leaf pushes whether the masks share a licensee.
use Rattle.masks.specs.Value.{step, push, shares}
use Rattle.masks.proofs.next.Goals as goal

pub returns-in-Leaf : goal.returns-in-Leaf
unfolding step push shares
returns-in-Leaf c = rw (c.in-Leaf.is, c.from.ensures)
