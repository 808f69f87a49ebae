-- The annex's own grammar against the levels: with its precedence and document 01's nesting it is the levels, which lose none of its
-- expressions; and how equal operators nest never changes a meaning in which AND and OR are associative.
use Rattle.std.specs.Prelude.{◌≡◌, refl, Bool, ◌&&◌, ◌||◌, List, ◌∷◌, ◌++◌, ◌↔◌, ℕ, ◌≤◌}
use Rattle.std.proofs.Common.{sym, ap, ◌∙◌, append_assoc, arith}
use Rattle.std.proofs.Math.Bool.{and_assoc, or_assoc}
use Rattle.mode.specs.declared.Mode.{Mode}
use Rattle.lexer.specs.Sign.{Sign, AND, OR}
use Rattle.grammar.specs.Tree.{Tree, both, either, meaning}
use Rattle.annex.specs.Annex.{Item, Level, Atom, AndLevel, OrLevel, Derives, leaf, group, alone, joined, one, choice, Expression, Compound, simple, conj, disj, paren, looseness, Precedence, Rightward}
use Rattle.annex.proofs.Unique.{one_tree}

-- how loose a level may be
abbrev most : Level → ℕ
most Atom = 0
most AndLevel = 1
most OrLevel = 2

-- the signs derive some tree
abbrev Some : {R S : Type 0} → Mode → Level → List (Sign R S) → Type 0
Some {R} {S} m v s = (t : Tree (Item R S)) × Derives m v s t

module _ {R S A : Type 0} (l : Item R S → A) (a o : A → A → A) where
  -- the signs derive a tree that means x
  record Like (m : Mode) (v : Level) (s : List (Sign R S)) (x : A) : Type 0 where
    tree : Tree (Item R S)
    derives : Derives m v s tree
    means : meaning l a o tree ≡ x

module _ {R S : Type 0} {m : Mode} where
  -- a level is in every looser one
  raise : {s : List (Sign R S)} {t : Tree (Item R S)} (v w : Level) → most v ≤ most w → Derives m v s t → Derives m w s t
  raise Atom Atom h d = d
  raise Atom AndLevel h d = alone d
  raise Atom OrLevel h d = one (alone d)
  raise AndLevel Atom h d = absurd (omega arith)
  raise AndLevel AndLevel h d = d
  raise AndLevel OrLevel h d = one d
  raise OrLevel Atom h d = absurd (omega arith)
  raise OrLevel AndLevel h d = absurd (omega arith)
  raise OrLevel OrLevel h d = d

  loosest : {s : List (Sign R S)} {t : Tree (Item R S)} (c : Compound m s t) → looseness c ≤ 2
  loosest (simple x) = omega arith
  loosest (conj c d) = omega arith
  loosest (disj c d) = omega arith
  loosest (paren c) = omega arith

  -- a derivation by levels is one of the annex that keeps to its precedence and to document 01's nesting
  nests : {v : Level} {s : List (Sign R S)} {t : Tree (Item R S)} → Derives m v s t
      → (c : Compound m s t) × (looseness c ≤ most v) × Precedence c × Rightward c
  nests (leaf x) = (simple x, omega arith, tt, tt)
  nests (group d) = let i : _ = nests d in (paren i.0, omega arith, i.2, i.3)
  nests (alone d) = let i : _ = nests d in (i.0, omega (arith, i.1), i.2, i.3)
  nests (joined d e) =
      let i : _ = nests d in
      let j : _ = nests e in
      (conj i.0 j.0, omega arith, (omega (arith, i.1), omega (arith, j.1), i.2, j.2), (omega (arith, i.1), i.3, j.3))
  nests (one d) = let i : _ = nests d in (i.0, omega (arith, i.1), i.2, i.3)
  nests (choice d e) =
      let i : _ = nests d in
      let j : _ = nests e in
      (disj i.0 j.0, omega arith, (i.2, j.2), (omega (arith, i.1), i.3, j.3))

  -- and each such one is a derivation by levels
  levels : {s : List (Sign R S)} {t : Tree (Item R S)} (c : Compound m s t) → Precedence c → Rightward c
      → (v : Level) → looseness c ≤ most v → Derives m v s t
  levels (simple x) p r v h = raise Atom v h (leaf x)
  levels (paren c) p r v h = raise Atom v h (group (levels c p r OrLevel (loosest c)))
  levels (conj c d) p r v h =
      raise AndLevel v h (joined (levels c p.2 r.1 Atom (omega (arith, r.0))) (levels d p.3 r.2 AndLevel p.1))
  levels (disj c d) p r v h =
      raise OrLevel v h (choice (levels c p.0 r.1 AndLevel (omega (arith, r.0))) (levels d p.1 r.2 OrLevel (loosest d)))

  -- the annex's grammar, with its precedence and with document 01's nesting, is the grammar by levels
  pub annex : (s : List (Sign R S)) (t : Tree (Item R S)) → Expression m s t ↔ ((c : Compound m s t) × Precedence c × Rightward c)
  annex s t = ((λ x. let i : _ = nests x in (i.0, i.2, i.3)), (λ w. levels w.0 w.1 w.2 OrLevel (loosest w.0)))

module _ {R S A : Type 0} {m : Mode} (l : Item R S → A) (a o : A → A → A)
    (a-assoc : (x y z : A) → a (a x y) z ≡ a x (a y z)) (o-assoc : (x y z : A) → o (o x y) z ≡ o x (o y z)) where
  -- two and-levels with AND between them are an and-level, that nests to the right
  join_and : {s z : List (Sign R S)} {t u : Tree (Item R S)} → Derives m AndLevel s t → Derives m AndLevel z u
      → Like l a o m AndLevel (s ++ (AND ∷ z)) (a (meaning l a o t) (meaning l a o u))
  join_and (alone d) e = record { tree = _; derives = joined d e; means = refl }
  join_and {u} (joined {t} {u = w} d f) e =
      let i : _ = join_and f e in
      let g : _ = a-assoc (meaning l a o t) (meaning l a o w) (meaning l a o u) in
      rw append_assoc (record { tree = both t i.tree; derives = joined d i.derives; means = cc (i.means, g) })

  join_or : {s z : List (Sign R S)} {t u : Tree (Item R S)} → Derives m OrLevel s t → Derives m OrLevel z u
      → Like l a o m OrLevel (s ++ (OR ∷ z)) (o (meaning l a o t) (meaning l a o u))
  join_or (one d) e = record { tree = _; derives = choice d e; means = refl }
  join_or {u} (choice {t} {u = w} d f) e =
      let i : _ = join_or f e in
      let g : _ = o-assoc (meaning l a o t) (meaning l a o w) (meaning l a o u) in
      rw append_assoc (record { tree = either t i.tree; derives = choice d i.derives; means = cc (i.means, g) })

  -- what keeps to the annex's precedence is by levels a tree of the same meaning
  normal : {s : List (Sign R S)} {t : Tree (Item R S)} (c : Compound m s t) → Precedence c
      → (v : Level) → looseness c ≤ most v → Like l a o m v s (meaning l a o t)
  normal (simple x) p v h = record { tree = _; derives = raise Atom v h (leaf x); means = refl }
  normal (paren c) p v h =
      let i : _ = normal c p OrLevel (loosest c) in
      record { tree = i.tree; derives = raise Atom v h (group i.derives); means = i.means }
  normal (conj c d) p v h =
      let i : _ = normal c p.2 AndLevel p.0 in
      let j : _ = normal d p.3 AndLevel p.1 in
      let k : _ = join_and i.derives j.derives in
      record { tree = k.tree; derives = raise AndLevel v h k.derives; means = cc (k.means, i.means, j.means) }
  normal (disj c d) p v h =
      let i : _ = normal c p.0 OrLevel (loosest c) in
      let j : _ = normal d p.1 OrLevel (loosest d) in
      let k : _ = join_or i.derives j.derives in
      record { tree = k.tree; derives = raise OrLevel v h k.derives; means = cc (k.means, i.means, j.means) }

  -- the annex gives no meaning to the way that equal operators nest, and needs none: two derivations that keep to its precedence mean the same
  pub nesting_free : {s : List (Sign R S)} {t u : Tree (Item R S)} (c : Compound m s t) (d : Compound m s u) → Precedence c → Precedence d
      → meaning l a o t ≡ meaning l a o u
  nesting_free c d p q =
      let i : _ = normal c p OrLevel (loosest c) in
      let j : _ = normal d q OrLevel (loosest d) in
      sym i.means ∙ ap (meaning l a o) (one_tree i.derives j.derives) ∙ j.means

module _ {R S : Type 0} {m : Mode} where
  -- which way equal operators nest never changes what a set of licences satisfies
  pub same_sets : (sat : Item R S → Bool) {s : List (Sign R S)} {t u : Tree (Item R S)} (c : Compound m s t) (d : Compound m s u)
      → Precedence c → Precedence d → meaning sat ◌&&◌ ◌||◌ t ≡ meaning sat ◌&&◌ ◌||◌ u
  same_sets sat c d p q = nesting_free sat ◌&&◌ ◌||◌ and_assoc or_assoc c d p q

  some_and : {s z : List (Sign R S)} {t u : Tree (Item R S)} → Derives m AndLevel s t → Derives m AndLevel z u → Some m AndLevel (s ++ (AND ∷ z))
  some_and d e =
      let i : _ = join_and {A = Unit {0}} (λ x. tt) (λ x y. tt) (λ x y. tt) (λ x y z. refl) (λ x y z. refl) d e in
      (i.tree, i.derives)

  -- an AND between or-levels joins the last and-level before it to the first behind it
  mixed : {s z : List (Sign R S)} {t u : Tree (Item R S)} → Derives m OrLevel s t → Derives m OrLevel z u → Some m OrLevel (s ++ (AND ∷ z))
  mixed (one d) (one e) = let w : _ = some_and d e in (w.0, one w.1)
  mixed (one d) (choice {u} e f) = let w : _ = some_and d e in (either w.0 u, rw append_assoc at (choice w.1 f))
  mixed (choice {t} d f) e = let w : _ = mixed f e in (either t w.0, rw append_assoc (choice d w.1))

  -- the levels lose no expression of the annex: what it derives in any way is derived by levels
  pub no_less : {s : List (Sign R S)} {t : Tree (Item R S)} → Compound m s t → (u : Tree (Item R S)) × Expression m s u
  no_less (simple x) = (_, one (alone (leaf x)))
  no_less (paren c) = let i : _ = no_less c in (i.0, one (alone (group i.1)))
  no_less (conj c d) = mixed (no_less c).1 (no_less d).1
  no_less (disj c d) =
      let i : _ = join_or {A = Unit {0}} (λ x. tt) (λ x y. tt) (λ x y. tt) (λ x y z. refl) (λ x y z. refl) (no_less c).1 (no_less d).1 in
      (i.tree, i.derives)
