-- No more bytes are read than there is room for.
use Rattle.std.proofs.Common.{◌≤◌, length}
use Rattle.slip.proofs.input.read.Given as goal

abbrev pub invariant-loop : goal.invariant-loop
invariant-loop l = l.n ≤ length l.asked
