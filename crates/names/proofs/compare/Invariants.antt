-- What is left of the run stands to what is left of the name as the whole run to the whole name.
use Rattle.std.proofs.Common.{◌≡◌, ◌≤◌, length, drop}
use Rattle.names.specs.Order.{order}
use Rattle.names.specs.Layout.{name_at}
use Rattle.names.proofs.compare.Given as goal

abbrev pub invariant-loop-i : goal.invariant-loop-i
invariant-loop-i l = (l.i ≤ length l.run) × (order (drop l.i l.run) (drop l.i (name_at l.k)) ≡ order l.run (name_at l.k))
