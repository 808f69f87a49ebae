-- No second answer fits the contract of a public function of this crate: nodes, how many licensees there are, cursor and budget decide it.
use Rattle.std.specs.Prelude.{ℕ, List}
use Rattle.text.specs.One.{One, one}
use Rattle.masks.specs.declared.Node.{Node}
use Rattle.masks.specs.Masks.{listed, chosen}
use Rattle.masks.specs.Value.{value}

list_one : (nodes : List Node) (k c b : ℕ) → One (listed (value nodes) k c b)
list_one nodes k c b = one (listed (value nodes) k c b)

choose_one : (nodes : List Node) (k b : ℕ) → One (chosen (value nodes) k b)
choose_one nodes k b = one (chosen (value nodes) k b)
