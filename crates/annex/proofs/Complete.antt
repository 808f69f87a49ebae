-- What derives reads: a level that stands before signs that derive a tree answers the tree's nodes, or that a limit is passed.
use Rattle.std.specs.Prelude.{◌≡◌, refl, Bool, true, false, List, [], ◌∷◌, ◌++◌, ℕ, suc, ◌+◌, ◌≤◌, max, ltb, None}
use Rattle.std.proofs.Common.{sym, ap, subst, ◌∙◌, append_assoc, inl, inr, arith, ltb-false}
use Rattle.refusal.specs.Refused.{number_of}
use Rattle.refusal.specs.declared.Span.{Span}
use Rattle.refusal.specs.declared.Refusal.TheVariants.{TooManyLeaves, TooDeep}
use Rattle.mode.specs.declared.Mode.{Mode}
use Rattle.lexer.specs.declared.Token.TheVariants as T
use Rattle.lexer.specs.Tokens.{Tokens}
use Rattle.lexer.specs.Sign.{Sign, AND, OR, LP, RP}
use Rattle.grammar.specs.declared.Leaf.{Leaf}
use Rattle.grammar.specs.declared.Node.TheVariants as K
use Rattle.grammar.specs.declared.Node.{Node}
use Rattle.grammar.specs.Tree.{Tree, just, both, either, postfix, size, seen, leaves}
use Rattle.grammar.specs.Grammar.{Result, got, refused, Reader, pick, emit, close, count, atom_at, and_level, or_level}
use Rattle.grammar.proofs.Levels.{and_eq, or_eq}
use Rattle.annex.specs.Annex.{Item, Level, Atom, AndLevel, OrLevel, Derives, leaf, group, alone, joined, one, choice, depth}
use Rattle.annex.specs.Signs.{View, signs_of, item_of, Over}
use Rattle.annex.proofs.Unique.{Head, NoAnd, NoOr, Stops}
use Rattle.annex.proofs.Ahead.{Then, ahead, Op, by_and, by_or, of, node, tail_refused, tail_met, tail_unmet, Meets, met, unmet, meets, leaves_behind}
use Rattle.annex.proofs.LeafLaws.{Leafed, leafed}

over_more : (r m k n l : ℕ) → m ≤ n → k ≤ l → Over r m k → Over r n l
over_more r m k n l a b (inl h) = inl (h.0, omega arith)
over_more r m k n l a b (inr h) = inr (h.0, omega arith)

-- what a reader answers that stands before the signs of t, with the signs `rest` behind them: nodes of t, and at most c tokens behind; or that
-- a limit is passed, with the leaves of the nodes q and d open parentheses before
abbrev pub Answers : {R S : Type 0} → View R S → ℕ → Tree (Item R S) → ℕ → List Node → ℕ → List (Sign R S) → Result → Type 0
Answers v c t k q d rest (got p b ts) = (u : Tree Leaf) × (p ≡ q ++ postfix u) × (seen (item_of v) u ≡ t) × (count ts ≤ c) × (signs_of v ts ≡ rest)
Answers v c t k q d rest (refused r) = Over (number_of r) (leaves q + size t) (d + k)

module _ {R S : Type 0} (v : View R S) (m : Mode) (e c : ℕ) where
  abbrev or! : Reader
  or! = or_level m e (suc c)

  -- the reader of a level
  abbrev pub level : Level → Reader
  level Atom d q ts = atom_at m e or! d q ts
  level AndLevel d q ts = and_level m e (suc c) d q ts
  level OrLevel d q ts = or! d q ts

  -- no such operator
  abbrev No : Op → Sign R S → Type 0
  No by_and x = NoAnd x
  No by_or x = NoOr x

  no_next : (w : Op) {ts : Tokens} → Meets w ts → Head (No w) (signs_of v ts) → (of w).next ts ≡ None
  no_next by_and met h = absurd h
  no_next by_or met h = absurd h
  no_next w (unmet x) h = x

  on_leaf : (i : Item R S) (d : ℕ) (q : List Node) (ts : Tokens) (rest : List (Sign R S)) → count ts ≤ c → Leafed v m e ts i rest
      → Answers v c (just i) 0 q d rest (atom_at m e or! d q ts)
  on_leaf i d q ts rest b x = rw x.at (rw x.starts (rw x.ends (go (ltb (leaves q) 64) refl)))
    where
      go : (z : Bool) → ltb (leaves q) 64 ≡ z
          → Answers v c (just i) 0 q d rest (pick z (got (q ++ (K.Leaf x.leaf ∷ [])) x.before x.rest) (refused (TooManyLeaves x.span)))
      go true h = (just x.leaf, refl, ap just x.same, omega (arith, x.fewer), x.then)
      go false h = inl (refl, omega (arith, ltb-false (leaves q) 64 h))

  on_close : (t : Tree (Item R S)) (k d : ℕ) (q : List Node) (o : Span) (rest : List (Sign R S)) (r : Result)
      → Answers v c t k q (d + 1) (RP ∷ rest) r → Answers v c t (suc k) q d rest (close o r)
  on_close t k d q o rest (refused r) h =
      over_more (number_of r) (leaves q + size t) (d + 1 + k) (leaves q + size t) (d + suc k) (omega arith) (omega arith) h
  on_close t k d q o rest (got p b ts) h =
      let n : Then v T.Close ts rest = ahead v ts h.4 in
      rw n.2 (h.0, h.1, h.2, omega (arith, h.3, ap count n.2), n.3)

  on_group : (t : Tree (Item R S)) (k d : ℕ) (q : List Node) (sp : Span) (ts : Tokens) (rest : List (Sign R S))
      → Answers v c t k q (d + 1) (RP ∷ rest) (or! (d + 1) q ts) → (z : Bool) → ltb d 32 ≡ z
      → Answers v c t (suc k) q d rest (pick z (close sp (or! (d + 1) q ts)) (refused (TooDeep sp)))
  on_group t k d q sp ts rest h true x = on_close t k d q sp rest (or! (d + 1) q ts) h
  on_group t k d q sp ts rest h false x = inr (refl, omega (arith, ltb-false d 32 x))

  -- no operator behind a level
  on_lower : (w : Op) (t : Tree (Item R S)) (k d : ℕ) (q : List Node) (rest : List (Sign R S)) → Head (No w) rest → (r : Result)
      → Answers v c t k q d rest r → Answers v c t k q d rest ((of w).tail (level (of w).upper) d r)
  on_lower w t k d q rest s (refused r) h = rw (tail_refused (level (of w).upper) d w r) h
  on_lower w t k d q rest s (got p b ts) h =
      rw (tail_unmet (level (of w).upper) d w p b ts (no_next w (meets w ts) (subst (Head (No w)) (sym h.4) s))) h

  size_node : (w : Op) (t u : Tree (Item R S)) → size (node w t u) ≡ size t + size u
  size_node by_and t u = refl
  size_node by_or t u = refl

  -- an operator's node behind two trees
  on_node : (w : Op) (o : Tree Leaf) (t u : Tree (Item R S)) (k j d : ℕ) (q p : List Node) (rest : List (Sign R S)) → p ≡ q ++ postfix o
      → seen (item_of v) o ≡ t → (r : Result) → Answers v c u j p d rest r → Answers v c (node w t u) (max k j) q d rest (emit (of w).kind r)
  on_node w o t u k j d q p rest x y (refused r) h =
      over_more (number_of r) (leaves p + size u) (d + j) (leaves q + size (node w t u)) (d + max k j)
      (omega (arith, leaves_behind v o q p x, ap size y, size_node w t u)) (omega arith) h
  on_node by_and o t u k j d q p rest x y (got z b ts) h = (both o h.0, simp (h.1, x, append_assoc), cc (y, h.2), h.3, h.4)
  on_node by_or o t u k j d q p rest x y (got z b ts) h = (either o h.0, simp (h.1, x, append_assoc), cc (y, h.2), h.3, h.4)

  -- an operator, whose sign is x, behind a level
  on_upper : (w : Op) (t u : Tree (Item R S)) (k j d : ℕ) (q : List Node) (x : Sign R S) (z rest : List (Sign R S))
      → ((ts : Tokens) → signs_of v ts ≡ x ∷ (z ++ rest) → Then v (of w).token ts (z ++ rest))
      → ((p : List Node) (ts : Tokens) → count ts ≤ c → signs_of v ts ≡ z ++ rest → Answers v c u j p d rest (level (of w).upper d p ts))
      → (r : Result) → Answers v c t k q d (x ∷ (z ++ rest)) r → Answers v c (node w t u) (max k j) q d rest ((of w).tail (level (of w).upper) d r)
  on_upper w t u k j d q x z rest a g (refused r) h =
      rw (tail_refused (level (of w).upper) d w r)
      (over_more (number_of r) (leaves q + size t) (d + k) (leaves q + size (node w t u)) (d + max k j) (omega (arith, size_node w t u)) (omega arith) h)
  on_upper w t u k j d q x z rest a g (got p b ts) h =
      let n : Then v (of w).token ts (z ++ rest) = a ts h.4 in
      rw n.2 (rw (tail_met (level (of w).upper) d w p b n.0 n.1) (on_node w h.0 t u k j d q p rest h.1 h.2 (level (of w).upper d p n.1)
      (g p n.1 (omega (arith, h.3, ap count n.2)) n.3)))

  -- a level before the signs of a derivation, behind which it ends
  pub answers : {y : Level} {s : List (Sign R S)} {t : Tree (Item R S)} (x : Derives m y s t) (d : ℕ) (q : List Node) (ts : Tokens)
      (rest : List (Sign R S)) → count ts ≤ c → signs_of v ts ≡ s ++ rest → Stops y rest → Answers v c t (depth x) q d rest (level y d q ts)
  answers (leaf {s} {l} x) d q ts rest b h w = on_leaf l d q ts rest b (leafed v m e x ts rest h w)
  answers (group {s} {t} x) d q ts rest b h w =
      let n : Then v T.Open ts (s ++ (RP ∷ rest)) =
      ahead v ts (h ∙ ap {B = List (Sign R S)} (λ (z : List (Sign R S)). LP ∷ z) (append_assoc s (RP ∷ []) rest)) in
      rw n.2 (on_group t (depth x) d q n.0 n.1 rest
      (answers x (d + 1) q n.1 (RP ∷ rest) (omega (arith, ap count n.2)) n.3 (tt, tt, tt)) (ltb d 32) refl)
  answers (alone {s} {t} x) d q ts rest b h w =
      rw (and_eq m e c d q ts b) (on_lower by_and t (depth x) d q rest w.1 (level Atom d q ts) (answers x d q ts rest b h w.0))
  answers (joined {s} {z} {t} {u} x y) d q ts rest b h w =
      rw (and_eq m e c d q ts b) (on_upper by_and t u (depth x) (depth y) d q AND z rest (λ n i. ahead v n i) (λ p n l i. answers y d p n rest l i w)
      (level Atom d q ts) (answers x d q ts (AND ∷ (z ++ rest)) b (h ∙ append_assoc s (AND ∷ z) rest) tt))
  answers (one {s} {t} x) d q ts rest b h w =
      rw (or_eq m e c d q ts b) (on_lower by_or t (depth x) d q rest w.2 (level AndLevel d q ts) (answers x d q ts rest b h (w.0, w.1)))
  answers (choice {s} {z} {t} {u} x y) d q ts rest b h w =
      rw (or_eq m e c d q ts b) (on_upper by_or t u (depth x) (depth y) d q OR z rest (λ n i. ahead v n i) (λ p n l i. answers y d p n rest l i w)
      (level AndLevel d q ts) (answers x d q ts (OR ∷ (z ++ rest)) b (h ∙ append_assoc s (OR ∷ z) rest) (tt, tt)))
