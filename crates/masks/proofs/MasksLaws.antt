-- The cases of what the listing and the choice answer, how many masks are examined, and that a choice never has to look past all licensees together.
use Rattle.std.specs.Prelude.{ℕ, zero, suc, ◌+◌, ◌-◌, ◌^◌, ◌≤◌, ◌<◌, min, ◌≡◌, Bool, cond, ◌||◌, eqb, not, Option, Some, None, MatchOption, Ok, Err}
use denote.Param.Members.{Mut}
use denote.Ref.{Bor}
use Rattle.std.specs.Fn.{CalledAt}
use Rattle.std.specs.Iterator.{FindsItem}
use Rattle.std.specs.declared.ops.Range.{Range}
use Rattle.std.proofs.iter.Yields.{nat_range_steps}
use Rattle.std.proofs.lemmas.Iterator.{first_from_Range}
use Rattle.std.specs.List.{list_any, range_with_len}
use Rattle.std.proofs.Math.Path.{refl}
use Rattle.std.proofs.Common.{sym, ap, subst, ◌∙◌, true≢false, arith}
use Rattle.std.proofs.Math.Bool.{true, false}
use Rattle.std.proofs.Math.Decide.{dec_lt}
use borrow.Author.Tests.{ltb-true, ltb-false, lt-ltb, le-ltb, le-leb, lt-leb, eq-eqb, ne_eqb}
use Rattle.std.proofs.Math.Dec.{ltb}
use Rattle.text.specs.First.{first}
use Rattle.text.specs.FirstLaws.{Stop, first_stop, first_unique}
use Rattle.refusal.specs.declared.Refusal.TheVariants.{RequirementsUnmet, BadCursor, NoBudget}
use Rattle.masks.specs.declared.Choice.TheVariants as C
use Rattle.masks.specs.declared.Listing.TheVariants as L
use Rattle.masks.specs.Masks.{minimal, examined, stopped, searched, settled, listed, chosen}

-- the examined masks end behind the first that passes, or with the last
pub examined_end : (p : ℕ → Bool) (n c : ℕ) → c + examined p n c ≡ min (first p n c + 1) (c + n)
unfolding examined first
examined_end p zero c = omega arith
examined_end p (suc n) c = go (p c) (examined_end p n (c + 1))
  where
    go : (b : Bool) → c + 1 + examined p n (c + 1) ≡ min (first p n (c + 1) + 1) (c + 1 + n)
        → c + suc (cond b 0 (examined p n (c + 1))) ≡ min (cond b c (first p n (c + 1)) + 1) (c + suc n)
    go true ih = omega arith
    go false ih = omega arith

-- what `find` answers over the n numbers from a on, by a closure that tells whether p holds, is the first that passes
module _ (p : ℕ → Bool) (a n : ℕ) where
  abbrev Finds : Option ℕ → Type 0
  Finds o =
      MatchOption o ((j : ℕ) → a ≤ j → j < a + n → p j ≡ false)
      (λ i. (a ≤ i) × (i < a + n) × (p i ≡ true) × ((j : ℕ) → a ≤ j → j < i → p j ≡ false))

  module _ {F : Type 0} {g : Mut F (Bor ℕ × Unit {0}) Bool} (u : Range ℕ) (f : F) (r : Option ℕ)
      (ran : FindsItem nat_range_steps g (record { start = a; end = a + n }) f r u)
      (calls : (x : ℕ) (b : Bool) (q : F) → CalledAt g f x b q → (q ≡ f) × (b ≡ p x)) where
    finds : Finds r
    finds =
        first_from_Range _ u f r (λ i. p i ≡ true) (λ i. p i ≡ false) ran (λ x q k. sym (calls x true q k).1)
        (λ x q k. let t = calls x false q k in (t.0, sym t.1))

    pub found_some : (i : ℕ) → r ≡ Some i → (i ≡ first p n a) × (i < a + n)
    found_some i e =
        let h : Finds (Some i) = subst Finds e finds in
        (first_unique p n a i (record { from = h.0; upto = omega (arith, h.1); before = h.3; here = λ q. h.2 }), h.1)

    pub found_none : r ≡ None → a + n ≡ first p n a
    found_none e =
        let h : Finds None = subst Finds e finds in
        first_unique p n a (a + n) (record { from = omega arith; upto = omega arith; before = h; here = λ q. absurd (omega arith) })

-- and its `any` tells whether the first is one of them
pub any_first : (p : ℕ → Bool) (a n b : ℕ) → a + n ≡ b → not (list_any p (range_with_len a n)) ≡ eqb (first p n a) b
unfolding first
any_first p a zero b e = sym (eq-eqb a b (omega arith))
any_first p a (suc n) b e = go (p a) (any_first p (a + 1) n b (omega arith))
  where
    go : (t : Bool) → not (list_any p (range_with_len (a + 1) n)) ≡ eqb (first p n (a + 1)) b
        → not (t || list_any p (range_with_len (a + 1) n)) ≡ eqb (cond t a (first p n (a + 1))) b
    go true ih = sym (ne_eqb a b (λ q. omega arith))
    go false ih = ih

-- the search, by the first that passes
module _ (p : ℕ → Bool) (end c n x : ℕ) (e : x ≡ first p n c) where
  -- where none passes, it is the one after them
  past : c + n ≤ x → c + examined p n c ≡ x
  past h = omega (arith, (first_stop p n c).upto, examined_end p n c)

  within : x < c + n → c + examined p n c ≡ x + 1
  within h = omega (arith, examined_end p n c)

  pub searched_found : x < c + n → searched p end c n ≡ L.Found x (x + 1)
  unfolding searched stopped
  searched_found h = rw (← e) (simp (lt-ltb x (c + n) h, within h))

  pub searched_paused : c + n ≤ x → x < end → searched p end c n ≡ L.Paused x
  unfolding searched stopped
  searched_paused h k = rw (← e) (simp (le-ltb x (c + n) h, past h, lt-ltb x end k))

  pub searched_finished : c + n ≤ x → end ≤ x → searched p end c n ≡ L.Finished x
  unfolding searched stopped
  searched_finished h k = rw (← e) (simp (le-ltb x (c + n) h, past h, le-ltb x end k))

module _ (sat : ℕ → Bool) (k c b : ℕ) where
  pub listed_bad : (ltb c 1 || ltb (2 ^ k) c) ≡ true → listed sat k c b ≡ Err (BadCursor c)
  unfolding listed
  listed_bad h = go (ltb c 1) refl h
    where
      go : (t : Bool) → ltb c 1 ≡ t → (t || ltb (2 ^ k) c) ≡ true → listed sat k c b ≡ Err (BadCursor c)
      go true e h = simp (lt-leb 1 c (ltb-true c 1 e))
      go false e h = simp (le-leb 1 c (ltb-false c 1 e), lt-leb c (2 ^ k) (ltb-true (2 ^ k) c h))

  pub listed_none : 1 ≤ c → c ≤ 2 ^ k → b ≡ 0 → listed sat k c b ≡ Err NoBudget
  unfolding listed
  listed_none l h e = simp (le-leb 1 c l, le-leb c (2 ^ k) h, eq-eqb b 0 e)

  pub listed_some : 1 ≤ c → c ≤ 2 ^ k → (b ≡ 0 → ⊥) → (n : ℕ) → min b (2 ^ k - c) ≡ n
      → listed sat k c b ≡ Ok (searched (minimal sat k) (2 ^ k) c n)
  unfolding listed
  listed_some l h e n q = simp (le-leb 1 c l, le-leb c (2 ^ k) h, ne_eqb b 0 e, q)

module _ (sat : ℕ → Bool) (n x : ℕ) (e : x ≡ first sat n 1) where
  pub settled_mask : x < 1 + n → settled n (first sat n 1) ≡ C.Mask x
  unfolding settled
  settled_mask h = rw (← e) (simp (lt-ltb x (1 + n) h))

  pub settled_paused : 1 + n ≤ x → settled n (first sat n 1) ≡ C.Paused x
  unfolding settled
  settled_paused h =
      let q : x ≡ 1 + n = omega (arith, (first_stop sat n 1).upto) in
      rw (← e) (simp (le-ltb x (1 + n) h, ← q))

-- a longer search stops where a shorter one has
pub first_longer : (p : ℕ → Bool) (n b i : ℕ) → n ≤ b → first p n i < i + n → first p n i ≡ first p b i
first_longer p n b i l h =
    let s : Stop p n i (first p n i) = first_stop p n i in
    first_unique p b i (first p n i) (record { from = s.from; upto = omega arith; before = s.before; here = λ q. s.here h })

-- a number that passes is not searched past
pub first_reached : (p : ℕ → Bool) (n i m : ℕ) → p m ≡ true → i ≤ m → m < i + n → first p n i < i + n
first_reached p n i m e l h = go (dec_lt m (first p n i))
  where
    s : Stop p n i (first p n i)
    s = first_stop p n i

    go : Dec (m < first p n i) → first p n i < i + n
    go (yes k) = absurd (true≢false (sym e ∙ s.before m l k))
    go (no k) = omega arith

module _ (sat : ℕ → Bool) (k b : ℕ) where
  pub chosen_unmet : sat (2 ^ k - 1) ≡ false → chosen sat k b ≡ Err RequirementsUnmet
  unfolding chosen
  chosen_unmet e = simp e

  pub chosen_none : sat (2 ^ k - 1) ≡ true → b ≡ 0 → chosen sat k b ≡ Err NoBudget
  unfolding chosen
  chosen_none e z = simp (e, eq-eqb b 0 z)

  pub chosen_some : sat (2 ^ k - 1) ≡ true → (b ≡ 0 → ⊥) → chosen sat k b ≡ Ok (settled b (first sat b 1))
  unfolding chosen
  chosen_some e z = simp (e, ne_eqb b 0 z)

  -- all together are mask 2^k - 1, which satisfies, so no more masks than that are examined
  pub chosen_all : sat (2 ^ k - 1) ≡ true → (b ≡ 0 → ⊥) → sat 0 ≡ false → 2 ^ k - 1 ≤ b
      → chosen sat k b ≡ Ok (settled (2 ^ k - 1) (first sat (2 ^ k - 1) 1))
  chosen_all e z none l = chosen_some e z ∙ ap Ok (go (2 ^ k - 1) e l)
    where
      go : (n : ℕ) → sat n ≡ true → n ≤ b → settled b (first sat b 1) ≡ settled n (first sat n 1)
      go zero e l = absurd (true≢false (sym e ∙ none))
      go (suc n) e l =
          let x = first sat (suc n) 1 in
          let h : x < 1 + suc n = first_reached sat (suc n) 1 (suc n) e (omega arith) (omega arith) in
          settled_mask sat b x (first_longer sat (suc n) b 1 l h) (omega arith) ∙ sym (settled_mask sat (suc n) x refl h)

  -- so the lesser of the budget and them
  pub chosen_within : sat (2 ^ k - 1) ≡ true → (b ≡ 0 → ⊥) → sat 0 ≡ false → (n : ℕ) → n ≡ min b (2 ^ k - 1)
      → chosen sat k b ≡ Ok (settled n (first sat n 1))
  chosen_within e z none n q = go (dec_lt b (2 ^ k - 1))
    where
      go : Dec (b < 2 ^ k - 1) → chosen sat k b ≡ Ok (settled n (first sat n 1))
      go (yes h) = let w : n ≡ b = omega arith in rw w (chosen_some e z)
      go (no h) = let w : n ≡ 2 ^ k - 1 = omega arith in rw w (chosen_all e z none (omega arith))
