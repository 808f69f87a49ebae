-- What is left of the stack, the nodes and the tokens is read as the whole text is. In the inner loop the step has been taken: where it
-- ends operators, an operand has ended. The measures are what is left of the text, and the stack.
use Rattle.std.proofs.Common.{length, ◌-◌}
use Rattle.parser.specs.Turn.{state, level}
use Rattle.parser.specs.Arrays.{Inv, Mid}
use Rattle.parser.proofs.set_nodes.Given as goal

abbrev pub invariant-loop-step : goal.invariant-loop-step
invariant-loop-step l = Inv l.s l.m l.nodes l.stack l.leaf l.st

abbrev pub decreases-loop-step : goal.decreases-loop-step
decreases-loop-step l = length l.s - l.st.at

abbrev pub invariant-loop-ends : goal.invariant-loop-ends
invariant-loop-ends l =
    Mid l.s l.m l.nodes l.stack l.leaf (state l.st.at l.sp l.count l.st.leaves l.st.opens l.st.before) l.step (level l.ends)

abbrev pub decreases-loop-ends : goal.decreases-loop-ends
decreases-loop-ends l = l.sp
