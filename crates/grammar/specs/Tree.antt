-- Trees, their nodes in postfix, and what a machine with a stack makes of the nodes. Document 01: "Nodes are the tree in postfix. At most
-- 64 leaves".
use Rattle.std.specs.Prelude.{◌≡◌, List, [], ◌∷◌, ◌++◌, ℕ, suc, ◌+◌, ◌≤◌}
use Rattle.grammar.specs.declared.Leaf.{Leaf}
use Rattle.grammar.specs.declared.Node.TheVariants as K
use Rattle.grammar.specs.declared.Node.{Node}

-- a tree over leaves of any kind: the nodes' own, or with the bytes of their texts in place of ranges
pub data Tree (L : Type 0) : Type 0 where
  just : L → Tree L
  both : Tree L → Tree L → Tree L
  either : Tree L → Tree L → Tree L

-- the tree's nodes: the left side's, the right side's, the operator
abbrev pub postfix : Tree Leaf → List Node
postfix (just l) = K.Leaf l ∷ []
postfix (both t u) = postfix t ++ (postfix u ++ (K.And ∷ []))
postfix (either t u) = postfix t ++ (postfix u ++ (K.Or ∷ []))

-- how many leaves a tree has
abbrev pub size : {L : Type 0} → Tree L → ℕ
size (just l) = 1
size (both t u) = size t + size u
size (either t u) = size t + size u

-- the same tree with each leaf seen otherwise
abbrev pub seen : {L M : Type 0} → (L → M) → Tree L → Tree M
seen f (just l) = just (f l)
seen f (both t u) = both (seen f t) (seen f u)
seen f (either t u) = either (seen f t) (seen f u)

-- nodes that are a tree's, of at most 64 leaves
pub record IsTree (q : List Node) : Type 0 where
  pub tree : Tree Leaf
  pub nodes : q ≡ postfix tree
  pub few : size tree ≤ 64

abbrev pub is_leaf : Node → ℕ → ℕ
is_leaf K.Blank n = n
is_leaf (K.Leaf l) n = suc n
is_leaf K.And n = n
is_leaf K.Or n = n

-- how many of the nodes are leaves
abbrev pub leaves : List Node → ℕ
leaves [] = 0
leaves (x ∷ q) = is_leaf x (leaves q)

-- a meaning of trees, by a meaning of leaves, of AND and of OR; and the same by a stack, node after node
module _ {L A : Type 0} (l : L → A) (a o : A → A → A) where
  abbrev pub meaning : Tree L → A
  meaning (just x) = l x
  meaning (both t u) = a (meaning t) (meaning u)
  meaning (either t u) = o (meaning t) (meaning u)

-- the two on top become one; the top is the right side
abbrev pub apply : {A : Type 0} → (A → A → A) → List A → List A
apply f [] = []
apply f (y ∷ []) = y ∷ []
apply f (y ∷ x ∷ k) = f x y ∷ k

module _ {A : Type 0} (l : Leaf → A) (a o : A → A → A) where
  abbrev pub turn : Node → List A → List A
  turn K.Blank k = k
  turn (K.Leaf x) k = l x ∷ k
  turn K.And k = apply a k
  turn K.Or k = apply o k

  abbrev pub run : List Node → List A → List A
  run [] k = k
  run (x ∷ q) k = run q (turn x k)
