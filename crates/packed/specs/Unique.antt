-- No second answer fits the contract of a public function of this crate.
use Rattle.std.specs.Prelude.{ℕ, List}
use Rattle.text.specs.One.{One, one}
use Rattle.text.specs.Overlay.{overlay}
use Rattle.refusal.specs.declared.Span.{Span}
use Rattle.refusal.specs.declared.Refusal.{Refusal}
use Rattle.lexer.specs.declared.Token.{Token}
use Rattle.grammar.specs.declared.Node.{Node}
use Rattle.packed.specs.Records.{token_cells, node_cells, records_of}
use Rattle.packed.specs.Packed.{places, refused_as, answered_as, small_as}

two_places_one : (a b : ℕ) → One (places a b)
two_places_one a b = one (places a b)

refused_one : (r : Refusal) → One (refused_as r)
refused_one r = one (refused_as r)

answered_one : (form value : ℕ) → One (answered_as form value)
answered_one form value = one (answered_as form value)

small_one : (n : ℕ) → One (small_as n)
small_one n = one (small_as n)

of_token_one : (t : Token) (sp : Span) (n : ℕ) → One (token_cells t sp n)
of_token_one t sp n = one (token_cells t sp n)

of_node_one : (x : Node) → One (node_cells x)
of_node_one x = one (node_cells x)

put_nodes_one : (q : List Node) (b : List ℕ) → One (overlay 0 (records_of q) b)
put_nodes_one q b = one (overlay 0 (records_of q) b)
