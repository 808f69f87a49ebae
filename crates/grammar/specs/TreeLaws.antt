-- Laws of trees and their nodes in postfix: the machine with a stack makes a tree's meaning of its nodes, no two trees have the same nodes,
-- and how many nodes and leaves there are.
use Rattle.std.specs.Prelude.{◌≡◌, refl, List, [], ◌∷◌, ◌++◌, ℕ, ◌+◌, ◌≤◌, length}
use Rattle.std.proofs.Common.{sym, ap, ◌∙◌, append_assoc, append-nil, arith, length-append}
use Rattle.grammar.specs.declared.Leaf.{Leaf}
use Rattle.grammar.specs.declared.Node.TheVariants as K
use Rattle.grammar.specs.declared.Node.{Node}
use Rattle.grammar.specs.Tree.{
  Tree,
  just,
  both,
  either,
  postfix,
  size,
  seen,
  IsTree,
  is_leaf,
  leaves,
  meaning,
  run,
}

-- two sides, their operator and what follows
grouped : (a b : List Node) (k : Node) (q : List Node) → (a ++ (b ++ (k ∷ []))) ++ q ≡ a ++ (b ++ (k ∷ q))
grouped a b k q = simp append_assoc

module _ {A : Type 0} (l : Leaf → A) (a o : A → A → A) where
  -- the machine makes a tree's meaning of its nodes, whatever stands on the stack and whatever follows
  pub run_tree : (t : Tree Leaf) (q : List Node) (k : List A) → run l a o (postfix t ++ q) k ≡ run l a o q (meaning l a o t ∷ k)
  run_tree (just x) q k = refl
  run_tree (both t u) q k =
      ap (λ (z : List Node). run l a o z k) (grouped (postfix t) (postfix u) K.And q)
      ∙ run_tree t (postfix u ++ (K.And ∷ q)) k ∙ run_tree u (K.And ∷ q) (meaning l a o t ∷ k)
  run_tree (either t u) q k =
      ap (λ (z : List Node). run l a o z k) (grouped (postfix t) (postfix u) K.Or q)
      ∙ run_tree t (postfix u ++ (K.Or ∷ q)) k ∙ run_tree u (K.Or ∷ q) (meaning l a o t ∷ k)

  -- all of a tree's nodes leave its meaning alone on the stack
  pub run_postfix : (t : Tree Leaf) → run l a o (postfix t) [] ≡ meaning l a o t ∷ []
  run_postfix t = ap (λ (z : List Node). run l a o z []) (sym (append-nil (postfix t))) ∙ run_tree t [] []

-- the meaning of a tree by trees is the tree
pub rebuilt : {L : Type 0} (t : Tree L) → meaning just both either t ≡ t
rebuilt (just l) = refl
rebuilt (both t u) = cc (rebuilt t, rebuilt u)
rebuilt (either t u) = cc (rebuilt t, rebuilt u)

-- no two trees have the same nodes
pub postfix_one : (t u : Tree Leaf) → postfix t ≡ postfix u → t ≡ u
postfix_one t u p =
    let e : meaning just both either t ∷ [] ≡ meaning just both either u ∷ [] =
    sym (run_postfix just both either t) ∙ ap (λ (z : List Node). run just both either z []) p ∙ run_postfix just both either u in
    cc (rebuilt t, rebuilt u)

-- the leaves of two lists of nodes
pub leaves_append : (q r : List Node) → leaves (q ++ r) ≡ leaves q + leaves r
leaves_append [] r = omega arith
leaves_append (x ∷ q) r = more x (leaves q) (leaves_append q r)
  where
    more : (k : Node) {n : ℕ} (m : ℕ) → n ≡ m + leaves r → is_leaf k n ≡ is_leaf k m + leaves r
    more K.Blank m h = h
    more (K.Leaf l) m h = omega arith
    more K.And m h = h
    more K.Or m h = h

-- a tree's nodes have as many leaves as the tree
pub leaves_postfix : (t : Tree Leaf) → leaves (postfix t) ≡ size t
leaves_postfix (just l) = refl
leaves_postfix (both t u) = simp (leaves_append, leaves_postfix t, leaves_postfix u) (omega arith)
leaves_postfix (either t u) = simp (leaves_append, leaves_postfix t, leaves_postfix u) (omega arith)

-- a tree has one operator less than leaves
pub length_postfix : (t : Tree Leaf) → length (postfix t) + 1 ≡ size t + size t
length_postfix (just l) = refl
length_postfix (both t u) = simp length-append (omega (arith, length_postfix t, length_postfix u))
length_postfix (either t u) = simp length-append (omega (arith, length_postfix t, length_postfix u))

-- a tree has a leaf
pub some_leaf : {L : Type 0} (t : Tree L) → 1 ≤ size t
some_leaf (just l) = omega arith
some_leaf (both t u) = omega (arith, some_leaf t)
some_leaf (either t u) = omega (arith, some_leaf t)

-- the nodes of a tree of at most 64 leaves fit 127 places, and are one at least
pub tree_length : (q : List Node) → IsTree q → (1 ≤ length q) × (length q ≤ 127)
tree_length q h =
    let n = ap length h.nodes in
    let l = length_postfix h.tree in
    (omega (arith, some_leaf h.tree), omega arith)

module _ {L M : Type 0} (f : L → M) where
  -- a tree seen otherwise has as many leaves
  pub size_seen : (t : Tree L) → size (seen f t) ≡ size t
  size_seen (just l) = refl
  size_seen (both t u) = cc (size_seen t, size_seen u)
  size_seen (either t u) = cc (size_seen t, size_seen u)

  -- the meaning of a tree seen otherwise is one of the tree, by what each leaf is seen as
  pub meaning_seen : {A : Type 0} (l : M → A) (a o : A → A → A) (t : Tree L)
      → meaning l a o (seen f t) ≡ meaning (λ (x : L). l (f x)) a o t
  meaning_seen l a o (just x) = refl
  meaning_seen l a o (both t u) = simp (meaning_seen l a o t, meaning_seen l a o u)
  meaning_seen l a o (either t u) = simp (meaning_seen l a o t, meaning_seen l a o u)
