-- What a set satisfies: document 01's clauses, the empty set, and that a larger set satisfies what a smaller one does.
use Prim.Native.Nat.{ℕ, zero, suc, ◌+◌, ◌-◌, ◌/◌, ◌%◌, ◌^◌, ◌<◌, ◌≤◌}
use Rattle.std.specs.Prelude.{◌≡◌, Bool, ◌&&◌, ◌||◌}
use Rattle.std.proofs.Math.Path.{refl, sym}
use Rattle.std.proofs.Common.{◌∙◌, subst, true≢false, arith, shr-shr, pow_pos}
use Rattle.std.proofs.Math.Bool.{true, false}
use mathlib.Core.List.{List, [], ◌∷◌}
use Rattle.std.proofs.Math.Option.{some, none-ne-some, some-injective}
use Rattle.std.proofs.Math.Nat.{two-pow-succ}
use Rattle.std.proofs.Math.Dec.{eqb}
use Rattle.std.proofs.Math.ListN.{get_elem?}
use borrow.Author.Tests.{eqb-true, eq-eqb}
use Rattle.text.specs.Tests.{both}
use Rattle.grammar.specs.declared.Leaf.{Leaf}
use Rattle.grammar.specs.Tree.{Tree, just, either, meaning}
use Rattle.licensee.specs.declared.Licensee.{Licensee}
use Rattle.licensee.specs.Satisfies.{satisfies}
use Rattle.masks.specs.Masks.{has}
use Rattle.minimize.specs.Minimize.{member, satisfied}
use Rattle.minimize.specs.Rises.{Sub, Rises}

-- ---- tests that follow from tests

and_rises : (a b c d : Bool) → (a ≡ true → c ≡ true) → (b ≡ true → d ≡ true) → (a && b) ≡ true → (c && d) ≡ true
and_rises a b c d f g h = let t = both a b h in rw (f t.0, g t.1)

or_rises : (a b c d : Bool) → (a ≡ true → c ≡ true) → (b ≡ true → d ≡ true) → (a || b) ≡ true → (c || d) ≡ true
or_rises true b c d f g h = rw (f refl)
or_rises false b true d f g h = refl
or_rises false b false d f g h = g h

or-true : (a : Bool) → (a || true) ≡ true
or-true true = refl
or-true false = refl

-- ---- trees, by a test of leaves

module _ (p : Leaf → Bool) where
  none_holds : ((x : Leaf) → p x ≡ false) → (t : Tree Leaf) → meaning p ◌&&◌ ◌||◌ t ≡ false
  none_holds f (just x) = f x
  none_holds f (Tree.both t u) = rw (none_holds f t)
  none_holds f (either t u) = rw (none_holds f t, none_holds f u)

  holds_on : (q : Leaf → Bool) → ((x : Leaf) → p x ≡ true → q x ≡ true) → (t : Tree Leaf)
      → meaning p ◌&&◌ ◌||◌ t ≡ true → meaning q ◌&&◌ ◌||◌ t ≡ true
  holds_on q f (just x) = f x
  holds_on q f (Tree.both t u) = and_rises _ _ _ _ (holds_on q f t) (holds_on q f u)
  holds_on q f (either t u) = or_rises _ _ _ _ (holds_on q f t) (holds_on q f u)

-- ---- sets

sub_half : (x y : ℕ) → Sub x y → Sub (x / 2) (y / 2)
unfolding Sub
sub_half x y s i = rw (shr-shr x 1 i, shr-shr y 1 i) (s (1 + i))

sub_low : (x y : ℕ) → Sub x y → x % 2 ≤ y % 2
unfolding Sub
sub_low x y s = omega (arith, s 0)

sub_cons : (x y : ℕ) → Sub (x / 2) (y / 2) → x % 2 ≤ y % 2 → Sub x y
unfolding Sub
sub_cons x y s h zero = omega arith
sub_cons x y s h (suc i) =
    let e : 1 + i ≡ suc i = omega arith in
    subst (λ (k : ℕ). x / 2 ^ k % 2 ≤ y / 2 ^ k % 2) e (rw (← shr-shr x 1 i, ← shr-shr y 1 i) (s i))

-- every set of k licensees is one of all of them
pub sub_all : (k m : ℕ) → m < 2 ^ k → Sub m (2 ^ k - 1)
unfolding Sub
sub_all zero m h = let e : m ≡ 0 = omega arith in rw e (λ i. omega arith)
sub_all (suc k) m h =
    let p = two-pow-succ k in
    let e : (2 ^ suc k - 1) / 2 ≡ 2 ^ k - 1 = omega (arith, pow_pos k) in
    sub_cons m (2 ^ suc k - 1) (rw e (sub_all k (m / 2) (omega arith))) (omega (arith, pow_pos k))

has_low : (m : ℕ) → eqb (m % 2) 1 ≡ has m 0
unfolding has
has_low m = let e : m % 2 ≡ m / 2 ^ 0 % 2 = omega arith in rw e

has_half : (m i : ℕ) → has (m / 2) i ≡ has m (suc i)
unfolding has
has_half m i =
    let e : 1 + i ≡ suc i = omega arith in
    subst (λ (k : ℕ). eqb (m / 2 / 2 ^ i % 2) 1 ≡ eqb (m / 2 ^ k % 2) 1) e (rw (shr-shr m 1 i))

module _ {A : Type 0} (p : A → Bool) where
  member_none : (l : List A) → member p l 0 ≡ false
  unfolding member
  member_none [] = refl
  member_none (x ∷ l) = go (p x) (member_none l)
    where
      go : (b : Bool) → member p l 0 ≡ false → ((b && false) || member p l 0) ≡ false
      go true h = h
      go false h = h

  member_rises : (l : List A) (x y : ℕ) → Sub x y → member p l x ≡ true → member p l y ≡ true
  unfolding member
  member_rises [] x y s h = h
  member_rises (a ∷ l) x y s h =
      or_rises (p a && eqb (x % 2) 1) _ _ _
      (and_rises (p a) (eqb (x % 2) 1) (p a) (eqb (y % 2) 1) (λ e. e) (λ e. eq-eqb _ _ (one (eqb-true _ _ e))))
      (member_rises l (x / 2) (y / 2) (sub_half x y s)) h
    where
      one : x % 2 ≡ 1 → y % 2 ≡ 1
      one e = omega (arith, sub_low x y s)

  -- number i of the list is a member of the set m, and passes
  pub record Passes (l : List A) (m i : ℕ) (x : A) : Type 0 where
    pub listed : get_elem? l i ≡ some x
    pub chosen : has m i ≡ true
    pub passed : p x ≡ true

  -- whoever is a member and passes makes the test hold, and no other does
  pub member_when : (l : List A) (m i : ℕ) (x : A) → Passes l m i x → member p l m ≡ true
  unfolding member
  member_when [] m i x h = absurd (none-ne-some x h.listed)
  member_when (a ∷ l) m zero x h =
      let e = some-injective a x h.listed in
      let b = has_low m ∙ h.chosen in
      rw (e, h.passed, b)
  member_when (a ∷ l) m (suc i) x h =
      let t = member_when l (m / 2) i x (record { listed = h.listed; chosen = has_half m i ∙ h.chosen; passed = h.passed }) in
      rw t (or-true (p a && eqb (m % 2) 1))

  pub member_by : (l : List A) (m : ℕ) → member p l m ≡ true → (i : ℕ) × (x : A) × Passes l m i x
  unfolding member
  member_by [] m h = absurd (true≢false (sym h))
  member_by (a ∷ l) m h = go (p a && eqb (m % 2) 1) refl h (member_by l (m / 2))
    where
      go : (b : Bool) → (p a && eqb (m % 2) 1) ≡ b → (b || member p l (m / 2)) ≡ true
          → (member p l (m / 2) ≡ true → (i : ℕ) × (x : A) × Passes l (m / 2) i x) → (i : ℕ) × (x : A) × Passes (a ∷ l) m i x
      go true e h ih = let t = both _ _ e in (0, a, record { listed = refl; chosen = sym (has_low m) ∙ t.1; passed = t.0 })
      go false e h ih =
          let t = ih h in
          (suc t.0, t.1, record { listed = t.2.listed; chosen = sym (has_half m t.0) ∙ t.2.chosen; passed = t.2.passed })

module _ (f s : List ℕ) (fs : List Licensee) where
  -- "A set satisfies a leaf if a member does"
  pub satisfied_leaf : (x : Leaf) (m : ℕ) → satisfied f s fs (just x) m ≡ member (λ (l : Licensee). satisfies f s l x) fs m
  unfolding satisfied
  satisfied_leaf x m = refl

  -- "an AND if it satisfies both sides"
  pub satisfied_and : (t u : Tree Leaf) (m : ℕ) → satisfied f s fs (Tree.both t u) m ≡ (satisfied f s fs t m && satisfied f s fs u m)
  unfolding satisfied
  satisfied_and t u m = refl

  -- "an OR if either"
  pub satisfied_or : (t u : Tree Leaf) (m : ℕ) → satisfied f s fs (either t u) m ≡ (satisfied f s fs t m || satisfied f s fs u m)
  unfolding satisfied
  satisfied_or t u m = refl

  -- the empty set satisfies nothing: every tree has a leaf
  pub satisfied_none : (t : Tree Leaf) → satisfied f s fs t 0 ≡ false
  unfolding satisfied
  satisfied_none t = none_holds _ (λ x. member_none _ fs) t

  pub satisfied_rises : (t : Tree Leaf) → Rises (satisfied f s fs t)
  unfolding satisfied Rises
  satisfied_rises t x y h e = holds_on _ _ (λ l. member_rises _ fs x y h) t e

  -- if any set of the found satisfies, all of them together do
  pub satisfied_all : (t : Tree Leaf) (k m : ℕ) → m < 2 ^ k → satisfied f s fs t m ≡ true → satisfied f s fs t (2 ^ k - 1) ≡ true
  unfolding Rises
  satisfied_all t k m h e = satisfied_rises t m (2 ^ k - 1) (sub_all k m h) e
