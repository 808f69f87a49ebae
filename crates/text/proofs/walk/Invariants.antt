-- The walk from the place where the loop stands ends where the whole walk ends.
use Rattle.std.proofs.Common.{◌≡◌, ◌-◌, length}
use Rattle.text.specs.Walk.{reach}
use Rattle.text.proofs.walk.Given as goal

abbrev pub invariant-loop-from : goal.invariant-loop-from
invariant-loop-from g l = reach g.S.Step.width l.s l.initial.at ≡ reach g.S.Step.width l.s l.at

abbrev pub decreases-loop-from : goal.decreases-loop-from
decreases-loop-from g l = length l.s - l.at
