-- The order rule of the three parts, each by one test that computes over it, and what it says of a search whichever way it goes.
use Rattle.std.specs.Prelude.{◌≡◌, refl, ◌⊎◌, Bool, true, false, cond, ◌&&◌, List, [], ◌∷◌, T, length, Option, Some, None}
use Rattle.std.proofs.Common.{sym, ◌∙◌, ap, subst, inl, inr, le_of_suc-le-suc, not-suc-le-zero, add-zero, add-suc, suc-add, zero-add, eq-or-lt_of_le, arith}
use Prim.Native.Nat.{ℕ, zero, suc, ◌+◌, ◌-◌, ◌≤◌, ◌<◌, zero-le, suc-le-suc, Ordering}
use Prim.Native.String.{String, compare}
use Rattle.text.specs.Text.{ascii, same}
use Rattle.text.specs.TextLaws.{same_eq, same_refl, same_not}
use Rattle.names.specs.Listed.{listed, exceptions, imprecise}
use Rattle.names.specs.Lookup.{seek, lookup, bytes_at, licence_texts, imprecise_texts}
use Rattle.names.specs.Order.{Ascending}
use Rattle.names.specs.OrderLaws.{Below, below_trans, below_order, below_irrefl, less_below, text_below}

abbrev rises : Ordering → Bool
rises Ordering.lt = true
rises Ordering.eq = false
rises Ordering.gt = false

-- each text stands before the next; s is the one before the list
abbrev rising_from : String → List String → Bool
rising_from s [] = true
rising_from s (n ∷ ns) = rises (compare s n) && rising_from n ns

abbrev pub rising : List String → Bool
rising [] = true
rising (n ∷ ns) = rising_from n ns

left : (a b : Bool) → T (a && b) → T a
left true b t = tt
left false b t = t

right : (a b : Bool) → T (a && b) → T b
right true b t = t
right false b t = absurd t

rises_lt : (o : Ordering) → T (rises o) → o ≡ Ordering.lt
rises_lt Ordering.lt t = refl
rises_lt Ordering.eq t = absurd t
rises_lt Ordering.gt t = absurd t

next : (s n : String) (ns : List String) → T (rising_from s (n ∷ ns)) → Below (ascii s) (ascii n)
next s n ns t = text_below s n (rises_lt (compare s n) (left (rises (compare s n)) (rising_from n ns) t))

onwards : (s n : String) (ns : List String) → T (rising_from s (n ∷ ns)) → T (rising_from n ns)
onwards s n ns t = right (rises (compare s n)) (rising_from n ns) t

after : (s : String) (ns : List String) → T (rising_from s ns) → (j : ℕ) → j < length ns → Below (ascii s) (bytes_at ns j)
unfolding bytes_at
after s [] t j h = absurd (not-suc-le-zero h)
after s (n ∷ ns) t zero h = next s n ns t
after s (n ∷ ns) t (suc j) h = below_trans (next s n ns t) (after n ns (onwards s n ns t) j (le_of_suc-le-suc h))

pairs : (s : String) (ns : List String) → T (rising_from s ns) → (i j : ℕ) → i < j → j < length ns → Below (bytes_at ns i) (bytes_at ns j)
unfolding bytes_at
pairs s [] t i j h l = absurd (not-suc-le-zero l)
pairs s (n ∷ ns) t i zero h l = absurd (not-suc-le-zero h)
pairs s (n ∷ ns) t zero (suc j) h l = after n ns (onwards s n ns t) j (le_of_suc-le-suc l)
pairs s (n ∷ ns) t (suc i) (suc j) h l = pairs n ns (onwards s n ns t) i j (le_of_suc-le-suc h) (le_of_suc-le-suc l)

-- from the test to the rule
pub ascends : (ns : List String) → T (rising ns) → Ascending ns
unfolding Ascending bytes_at
ascends [] t i j h l = absurd (not-suc-le-zero l)
ascends (n ∷ ns) t i zero h l = absurd (not-suc-le-zero h)
ascends (n ∷ ns) t zero (suc j) h l = below_order (after n ns t j (le_of_suc-le-suc l))
ascends (n ∷ ns) t (suc i) (suc j) h l = below_order (pairs n ns t i j (le_of_suc-le-suc h) (le_of_suc-le-suc l))

-- the rule of each part
pub licences_ascend : Ascending licence_texts
unfolding licence_texts listed
licences_ascend = ascends licence_texts tt

pub exceptions_ascend : Ascending exceptions
unfolding exceptions
exceptions_ascend = ascends exceptions tt

pub imprecise_ascend : Ascending imprecise_texts
unfolding imprecise_texts imprecise
imprecise_ascend = ascends imprecise_texts tt

-- the rule as a relation
pub ascending_below : (ns : List String) → Ascending ns → (i j : ℕ) → i < j → j < length ns → Below (bytes_at ns i) (bytes_at ns j)
unfolding Ascending
ascending_below ns s i j h l = less_below (bytes_at ns i) (bytes_at ns j) (s i j h l)

-- so no two names of a part are the same
pub apart : (ns : List String) → Ascending ns → (i j : ℕ) → i < j → j < length ns → bytes_at ns i ≡ bytes_at ns j → ⊥
apart ns s i j h l e = below_irrefl (ascending_below ns s i j h l) e

-- a run before the name at k is none from k on, and one after it is none up to k
module _ (ns : List String) (run : List ℕ) (k : ℕ) (s : Ascending ns) (h : k < length ns) where
  pub ahead : Below run (bytes_at ns k) → (j : ℕ) → k ≤ j → j < length ns → bytes_at ns j ≡ run → ⊥
  ahead b j q l = go (eq-or-lt_of_le q)
    where
      go : (k ≡ j) ⊎ (k < j) → bytes_at ns j ≡ run → ⊥
      go (inl e) z = below_irrefl (subst (λ (n : ℕ). Below run (bytes_at ns n)) e b) (sym z)
      go (inr e) z = below_irrefl (below_trans b (ascending_below ns s k j e l)) (sym z)

  pub behind : Below (bytes_at ns k) run → (j : ℕ) → j ≤ k → bytes_at ns j ≡ run → ⊥
  behind b j q = go (eq-or-lt_of_le q)
    where
      go : (j ≡ k) ⊎ (j < k) → bytes_at ns j ≡ run → ⊥
      go (inl e) = below_irrefl (subst (λ (n : ℕ). Below (bytes_at ns n) run) (sym e) b)
      go (inr e) = below_irrefl (below_trans (ascending_below ns s j k e h) b)

-- a name that is there is found at its place, and one that is not is not found
found_from : (i : ℕ) (ns : List String) (run : List ℕ) (k : ℕ) → Ascending ns → k < length ns → bytes_at ns k ≡ run
    → seek i ns run ≡ Some (i + k)
unfolding seek Ascending bytes_at
found_from i [] run k s h e = absurd (not-suc-le-zero h)
found_from i (n ∷ ns) run zero s h e =
    ap (λ (t : Bool). cond t (Some i) (seek (suc i) ns run)) (subst (λ (r : List ℕ). same (ascii n) r ≡ true) e (same_refl (ascii n)))
    ∙ ap Some (sym (add-zero i))
found_from i (n ∷ ns) run (suc k) s h e =
    ap (λ (t : Bool). cond t (Some i) (seek (suc i) ns run))
    (same_not (ascii n) run (λ q. below_irrefl (less_below (ascii n) (bytes_at ns k) (s 0 (suc k) (suc-le-suc zero-le) h)) (q ∙ sym e)))
    ∙ found_from (suc i) ns run k (λ a b l m. s (suc a) (suc b) (suc-le-suc l) (suc-le-suc m)) (le_of_suc-le-suc h) e
    ∙ ap Some (suc-add i k ∙ sym (add-suc i k))

absent_from : (i : ℕ) (ns : List String) (run : List ℕ) → ((k : ℕ) → k < length ns → bytes_at ns k ≡ run → ⊥) → seek i ns run ≡ None
unfolding seek bytes_at
absent_from i [] run f = refl
absent_from i (n ∷ ns) run f =
    ap (λ (t : Bool). cond t (Some i) (seek (suc i) ns run)) (same_not (ascii n) run (λ q. f 0 (suc-le-suc zero-le) q))
    ∙ absent_from (suc i) ns run (λ k h e. f (suc k) (suc-le-suc h) e)

pub found : (ns : List String) (run : List ℕ) (k : ℕ) → Ascending ns → k < length ns → bytes_at ns k ≡ run → lookup ns run ≡ Some k
unfolding lookup
found ns run k s h e = found_from 0 ns run k s h e ∙ ap Some (zero-add k)

pub absent : (ns : List String) (run : List ℕ) → ((k : ℕ) → k < length ns → bytes_at ns k ≡ run → ⊥) → lookup ns run ≡ None
unfolding lookup
absent ns run f = absent_from 0 ns run f

-- what an answer says: a found place is one of the part, and its name is the run
abbrev pub Finds : List String → List ℕ → Option ℕ → Type 0
Finds ns run (Some k) = (k < length ns) × (bytes_at ns k ≡ run)
Finds ns run None = Unit {0}

abbrev FindsFrom : ℕ → List String → List ℕ → Option ℕ → Type 0
FindsFrom i ns run (Some k) = (i ≤ k) × (k < i + length ns) × (bytes_at ns (k - i) ≡ run)
FindsFrom i ns run None = Unit {0}

finds_from : (i : ℕ) (ns : List String) (run : List ℕ) → FindsFrom i ns run (seek i ns run)
unfolding seek bytes_at
finds_from i [] run = tt
finds_from i (n ∷ ns) run = go (same (ascii n) run) refl (seek (suc i) ns run) (finds_from (suc i) ns run)
  where
    there : (k : ℕ) → suc i ≤ k → bytes_at (n ∷ ns) (k - i) ≡ bytes_at ns (k - suc i)
    there k h = let e : k - i ≡ suc (k - suc i) = omega arith in ap (λ (j : ℕ). bytes_at (n ∷ ns) j) e

    go : (q : Bool) → same (ascii n) run ≡ q → (f : Option ℕ) → FindsFrom (suc i) ns run f → FindsFrom i (n ∷ ns) run (cond q (Some i) f)
    go true e f h =
        let z : i - i ≡ 0 = omega arith in
        (omega arith, omega arith, ap (λ (j : ℕ). bytes_at (n ∷ ns) j) z ∙ same_eq (ascii n) run e)
    go false e (Some k) h = (omega arith, omega arith, there k h.0 ∙ h.2)
    go false e None h = tt

pub finds : (ns : List String) (run : List ℕ) → Finds ns run (lookup ns run)
unfolding lookup
finds ns run = go (seek 0 ns run) (finds_from 0 ns run)
  where
    go : (f : Option ℕ) → FindsFrom 0 ns run f → Finds ns run f
    go (Some k) h = let z : k ≡ k - 0 = omega arith in (omega arith, ap (bytes_at ns) z ∙ h.2)
    go None h = tt

pub finds_at : (ns : List String) (run : List ℕ) (k : ℕ) → lookup ns run ≡ Some k → (k < length ns) × (bytes_at ns k ≡ run)
finds_at ns run k e = subst (λ (f : Option ℕ). Finds ns run f) e (finds ns run)
