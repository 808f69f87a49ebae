-- What a reader answers: the nodes in postfix with their count, or a refusal. Document 01: "A refused parse returns zero nodes".
use Rattle.std.specs.Prelude.{Result}
use Rattle.refusal.specs.declared.Refusal.{Refusal}
use Rattle.grammar.specs.declared.Nodes.{Nodes}

abbrev pub Parsed : Type 0
Parsed = Result Nodes Refusal
