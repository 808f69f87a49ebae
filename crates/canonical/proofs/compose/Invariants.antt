use Rattle.std.proofs.Common.{length, ◌-◌}
use Rattle.canonical.specs.Drafting.{Drafting}
use Rattle.canonical.proofs.compose.Given as goal

abbrev pub invariant-loop-got : goal.invariant-loop-got
invariant-loop-got l = Drafting l.s l.initial.out l.place.at l.place.len l.out

-- what is left of the text
abbrev pub decreases-loop-got : goal.decreases-loop-got
decreases-loop-got l = length l.s - l.place.at
