-- A list of signs derives at most one tree, at one depth.
use Rattle.std.specs.Prelude.{◌≡◌, refl, List, [], ◌∷◌, ◌++◌, ℕ}
use Rattle.std.proofs.Common.{sym, ap, subst, ◌∙◌, append_assoc, arith}
use Rattle.mode.specs.declared.Mode.{Mode}
use Rattle.lexer.specs.Sign.{Sign, name, reference, unknown, exception, addition, plus, WITH, AND, OR, LP, RP, bad}
use Rattle.grammar.specs.Tree.{Tree, just}
use Rattle.annex.specs.Annex.{Named, Item, Simple, id, id_later, ref, gnu_later, term, Additions, listed_one, ref_one, term_one, term_more, Operand, bare, with, Level, Atom, AndLevel, OrLevel, Derives, leaf, group, alone, joined, one, choice, depth, Expression}

-- what is asked of a `+` or WITH, of AND and of OR; nothing is asked of another sign
abbrev pub Asked : {R S : Type 0} → Type 0 → Type 0 → Type 0 → Sign R S → Type 0
Asked t a o (name k x) = Unit {0}
Asked t a o (reference r x) = Unit {0}
Asked t a o (unknown r x) = Unit {0}
Asked t a o (exception k) = Unit {0}
Asked t a o (addition r) = Unit {0}
Asked t a o plus = t
Asked t a o WITH = t
Asked t a o AND = a
Asked t a o OR = o
Asked t a o LP = Unit {0}
Asked t a o RP = Unit {0}
Asked t a o bad = Unit {0}

-- neither `+` nor WITH
abbrev pub NoTail : {R S : Type 0} → Sign R S → Type 0
NoTail x = Asked ⊥ (Unit {0}) (Unit {0}) x

-- no AND
abbrev pub NoAnd : {R S : Type 0} → Sign R S → Type 0
NoAnd x = Asked (Unit {0}) ⊥ (Unit {0}) x

-- no OR
abbrev pub NoOr : {R S : Type 0} → Sign R S → Type 0
NoOr x = Asked (Unit {0}) (Unit {0}) ⊥ x

-- the first sign, if there is one, is such a sign
abbrev pub Head : {R S : Type 0} → (Sign R S → Type 0) → List (Sign R S) → Type 0
Head P [] = Unit {0}
Head P (x ∷ r) = P x

-- what may stand after a level, so that the level ends there
abbrev pub Stops : {R S : Type 0} → Level → List (Sign R S) → Type 0
Stops Atom r = Head NoTail r
Stops AndLevel r = Head NoTail r × Head NoAnd r
Stops OrLevel r = Head NoTail r × Head NoAnd r × Head NoOr r

-- the first sign is not x
abbrev Without : {R S : Type 0} → Sign R S → List (Sign R S) → Type 0
Without {R} {S} x r = (w : List (Sign R S)) → r ≡ x ∷ w → ⊥

-- two constructors are never equal
pub clash : {A : Type 0} → ◌≡◌ {A = ℕ} 0 1 → A
clash h = absurd (omega arith)

module _ {R S : Type 0} where
  -- two derivations, of trees t and u, of depths k and n, with r and q after them, agree
  record Same (t u : Tree (Item R S)) (k n : ℕ) (r q : List (Sign R S)) : Type 0 where
    tree : t ≡ u
    deep : k ≡ n
    rest : r ≡ q

  -- additions begin with WITH
  begun : {z : List (Sign R S)} {a : Named R} → Additions z a → (r : List (Sign R S))
      → (w : List (Sign R S)) × (z ++ r ≡ WITH ∷ w)
  begun listed_one r = (_, refl)
  begun ref_one r = (_, refl)
  begun term_one r = (_, refl)
  begun (term_more d) r = (_, refl)

  -- a WITH is taken by the unknown addition before it
  one_addition : {s z : List (Sign R S)} {c e : Named R} → Additions s c → Additions z e → (r q : List (Sign R S))
      → s ++ r ≡ z ++ q → Without WITH r → Without WITH q → (c ≡ e) × (r ≡ q)
  one_addition listed_one listed_one r q h a b = (cc, cc)
  one_addition listed_one ref_one r q h a b = clash (cc)
  one_addition listed_one term_one r q h a b = clash (cc)
  one_addition listed_one (term_more d) r q h a b = clash (cc)
  one_addition ref_one listed_one r q h a b = clash (cc)
  one_addition ref_one ref_one r q h a b = (cc, cc)
  one_addition ref_one term_one r q h a b = clash (cc)
  one_addition ref_one (term_more d) r q h a b = clash (cc)
  one_addition term_one listed_one r q h a b = clash (cc)
  one_addition term_one ref_one r q h a b = clash (cc)
  one_addition term_one term_one r q h a b = (cc, cc)
  one_addition term_one (term_more d) r q h a b = let w : _ = begun d q in absurd (a w.0 (cc))
  one_addition (term_more d) listed_one r q h a b = clash (cc)
  one_addition (term_more d) ref_one r q h a b = clash (cc)
  one_addition (term_more d) term_one r q h a b = let w : _ = begun d r in absurd (b w.0 (cc))
  one_addition (term_more d) (term_more e) r q h a b = let w : _ = one_addition d e r q (cc) a b in (cc, w.1)

module _ {R S : Type 0} {m : Mode} where
  -- a `+` is taken by the name before it, which is a GNU name or not
  one_simple : {s z : List (Sign R S)} {l n : Item R S} → Simple m s l → Simple m z n → (r q : List (Sign R S))
      → s ++ r ≡ z ++ q → Without plus r → Without plus q → (l ≡ n) × (r ≡ q)
  one_simple (id x) (id y) r q h a b = (cc, cc)
  one_simple (id x) (id_later y g) r q h a b = absurd (a q (cc))
  one_simple (id x) ref r q h a b = clash (cc)
  one_simple (id x) (gnu_later y g o f e) r q h a b = absurd (a q (cc))
  one_simple (id x) term r q h a b = clash (cc)
  one_simple (id_later x g) (id y) r q h a b = absurd (b r (cc))
  one_simple (id_later x g) (id_later y i) r q h a b = (cc, cc)
  one_simple (id_later x g) ref r q h a b = clash (cc)
  one_simple (id_later x g) (gnu_later y i o f e) r q h a b = clash (cc)
  one_simple (id_later x g) term r q h a b = clash (cc)
  one_simple ref (id y) r q h a b = clash (cc)
  one_simple ref (id_later y g) r q h a b = clash (cc)
  one_simple ref ref r q h a b = (cc, cc)
  one_simple ref (gnu_later y g o f e) r q h a b = clash (cc)
  one_simple ref term r q h a b = clash (cc)
  one_simple (gnu_later x g o f e) (id y) r q h a b = absurd (b r (cc))
  one_simple (gnu_later x g o f e) (id_later y i) r q h a b = clash (cc)
  one_simple (gnu_later x g o f e) ref r q h a b = clash (cc)
  one_simple (gnu_later x g o f e) (gnu_later y i j k d) r q h a b = (cc, cc)
  one_simple (gnu_later x g o f e) term r q h a b = clash (cc)
  one_simple term (id y) r q h a b = clash (cc)
  one_simple term (id_later y g) r q h a b = clash (cc)
  one_simple term ref r q h a b = clash (cc)
  one_simple term (gnu_later y g o f e) r q h a b = clash (cc)
  one_simple term term r q h a b = (cc, cc)

  -- the same leaf, with the same after it
  one_leaf : {s z : List (Sign R S)} {l n : Item R S} → Operand m s l → Operand m z n → (r q : List (Sign R S))
      → s ++ r ≡ z ++ q → Head NoTail r → Head NoTail q → (l ≡ n) × (r ≡ q)
  one_leaf (bare x) (bare y) r q h a b = one_simple x y r q h (λ w e. subst (Head NoTail) e a) (λ w e. subst (Head NoTail) e b)
  one_leaf (bare x) (with {s} {z} y d) r q h a b =
      let w : _ = begun d q in
      let i : _ = one_simple x y r (z ++ q) (h ∙ append_assoc s z q) (λ w e. subst (Head NoTail) e a) (λ v e. clash (cc)) in
      absurd (subst (Head NoTail) (i.1 ∙ w.1) a)
  one_leaf (with {s} {z} x d) (bare y) r q h a b =
      let w : _ = begun d r in
      let i : _ = one_simple x y (z ++ r) q (sym (append_assoc s z r) ∙ h) (λ v e. clash (cc)) (λ w e. subst (Head NoTail) e b) in
      absurd (subst (Head NoTail) (sym i.1 ∙ w.1) b)
  one_leaf (with {s} {z} x d) (with {s = y} {z = v} o e) r q h a b =
      let w : _ = begun d r in
      let n : _ = begun e q in
      let i : _ = one_simple x o (z ++ r) (v ++ q) (sym (append_assoc s z r) ∙ h ∙ append_assoc y v q) (λ u p. clash (cc)) (λ u p. clash (cc)) in
      let j : _ = one_addition d e r q i.1 (λ w e. subst (Head NoTail) e a) (λ w e. subst (Head NoTail) e b) in
      (cc, j.1)

  -- no leaf begins with a parenthesis
  simple_paren : {s z : List (Sign R S)} {l : Item R S} → Simple m s l → (r : List (Sign R S)) → s ++ r ≡ LP ∷ z → ⊥
  simple_paren (id x) r h = clash (cc)
  simple_paren (id_later x g) r h = clash (cc)
  simple_paren ref r h = clash (cc)
  simple_paren (gnu_later x g o f e) r h = clash (cc)
  simple_paren term r h = clash (cc)

  no_paren : {s z : List (Sign R S)} {l : Item R S} → Operand m s l → (r : List (Sign R S)) → s ++ r ≡ LP ∷ z → ⊥
  no_paren (bare x) r h = simple_paren x r h
  no_paren (with {s} {z} x d) r h = simple_paren x (z ++ r) (sym (append_assoc s z r) ∙ h)

  -- two derivations at one place agree, where both levels end
  unique : {v : Level} {s z : List (Sign R S)} {t u : Tree (Item R S)} (d : Derives m v s t) (e : Derives m v z u)
      (r q : List (Sign R S)) → s ++ r ≡ z ++ q → Stops v r → Stops v q → Same t u (depth d) (depth e) r q
  unique (leaf x) (leaf y) r q p a b = let w : _ = one_leaf x y r q p a b in record { tree = ap just w.0; deep = refl; rest = w.1 }
  unique (leaf x) (group e) r q p a b = absurd (no_paren x r p)
  unique (group d) (leaf y) r q p a b = absurd (no_paren y q (sym p))
  unique (group {s} d) (group {s = z} e) r q p a b =
      let i : _ = unique d e (RP ∷ r) (RP ∷ q) (cc (append_assoc s (RP ∷ []) r, append_assoc z (RP ∷ []) q)) (tt, tt, tt) (tt, tt, tt) in
      record { tree = i.tree; deep = omega (arith, i.deep); rest = cc }
  unique (alone d) (alone e) r q p a b = unique d e r q p a.0 b.0
  unique (alone d) (joined {s} {z} e f) r q p a b =
      let i : _ = unique d e r (AND ∷ (z ++ q)) (p ∙ append_assoc s (AND ∷ z) q) a.0 tt in
      absurd (subst (Head NoAnd) i.rest a.1)
  unique (joined {s} {z} d f) (alone e) r q p a b =
      let i : _ = unique d e (AND ∷ (z ++ r)) q (sym (append_assoc s (AND ∷ z) r) ∙ p) tt b.0 in
      absurd (subst (Head NoAnd) (sym i.rest) b.1)
  unique (joined {s} {z} d f) (joined {s = x} {z = y} e g) r q p a b =
      let h : _ = sym (append_assoc s (AND ∷ z) r) ∙ p ∙ append_assoc x (AND ∷ y) q in
      let i : _ = unique d e (AND ∷ (z ++ r)) (AND ∷ (y ++ q)) h tt tt in
      let j : _ = unique f g r q (cc) a b in
      record { tree = cc; deep = cc; rest = j.rest }
  unique (one d) (one e) r q p a b = unique d e r q p (a.0, a.1) (b.0, b.1)
  unique (one d) (choice {s} {z} e f) r q p a b =
      let i : _ = unique d e r (OR ∷ (z ++ q)) (p ∙ append_assoc s (OR ∷ z) q) (a.0, a.1) (tt, tt) in
      absurd (subst (Head NoOr) i.rest a.2)
  unique (choice {s} {z} d f) (one e) r q p a b =
      let i : _ = unique d e (OR ∷ (z ++ r)) q (sym (append_assoc s (OR ∷ z) r) ∙ p) (tt, tt) (b.0, b.1) in
      absurd (subst (Head NoOr) (sym i.rest) b.2)
  unique (choice {s} {z} d f) (choice {s = x} {z = y} e g) r q p a b =
      let h : _ = sym (append_assoc s (OR ∷ z) r) ∙ p ∙ append_assoc x (OR ∷ y) q in
      let i : _ = unique d e (OR ∷ (z ++ r)) (OR ∷ (y ++ q)) h (tt, tt) (tt, tt) in
      let j : _ = unique f g r q (cc) a b in
      record { tree = cc; deep = cc; rest = j.rest }

  -- signs are an expression of one tree at most
  pub one_tree : {s : List (Sign R S)} {t u : Tree (Item R S)} → Expression m s t → Expression m s u → t ≡ u
  one_tree d e = (unique d e [] [] refl (tt, tt, tt) (tt, tt, tt)).tree

  -- and have one depth
  pub one_depth : {s : List (Sign R S)} {t u : Tree (Item R S)} (d : Expression m s t) (e : Expression m s u) → depth d ≡ depth e
  one_depth d e = (unique d e [] [] refl (tt, tt, tt) (tt, tt, tt)).deep
