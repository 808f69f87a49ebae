-- What a token is behind the tokens of a leaf: one more of them, which makes the leaf another; none of them; or it is refused there.
use Rattle.std.specs.Prelude.{Option, Result}
use Rattle.refusal.specs.declared.Refusal.{Refusal}
use Rattle.grammar.specs.declared.Leaf.{Leaf}
use Rattle.grammar.specs.declared.Before.{Before}

abbrev pub Move : Type 0
Move = Result (Option (Leaf × Before)) Refusal
