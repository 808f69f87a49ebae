-- What one call of the listing says, and what calls say that go on from it until they are finished: every mask that passes, in order.
use Rattle.std.specs.Prelude.{ℕ, zero, suc, ◌+◌, ◌-◌, ◌^◌, ◌≤◌, ◌<◌, min, ◌≡◌, refl, Bool, false, ltb, Result, Ok, Err}
use Rattle.std.proofs.Common.{sym, ap, ◌∙◌, true≢false, ⊎_elim, eq-or-lt_of_le}
use Rattle.std.proofs.Math.Bool.{true}
use mathlib.Core.List.Memᴰ
use mathlib.Core.List.{List, [], ◌∷◌, Memᴰ}
use Rattle.std.proofs.Math.Decide.{dec_lt}
use native.Mathlib.Omega.{arith}
use borrow.Author.Tests.{ltb-true, ltb-false, le-leb, ne_eqb}
use Rattle.text.specs.FirstLaws.{Stop, first_stop}
use Rattle.text.specs.Tests.{by_cond}
use Rattle.refusal.specs.declared.Refusal.{Refusal}
use Rattle.masks.specs.declared.Listing.{Listing}
use Rattle.masks.specs.declared.Listing.TheVariants.{Found, Paused, Finished}
use Rattle.masks.specs.Masks.{minimal, stopped, searched, listed}
use Rattle.masks.proofs.MasksLaws.{examined_end}
use Rattle.masks.specs.Promise.{Ascending, Run, over, more, wait, later}

module _ (p : ℕ → Bool) where
  -- no mask from a on and below b passes
  pub Before : ℕ → ℕ → Type 0
  Before a b = (j : ℕ) → a ≤ j → j < b → p j ≡ false

  -- what the answer to a call at cursor c with budget b says
  abbrev pub Says : ℕ → ℕ → ℕ → Result Listing Refusal → Type 0
  Says end c b (Ok (Found m n)) = (n ≡ m + 1) × (c ≤ m) × (m < end) × (n - c ≤ b) × (p m ≡ true) × Before c m
  Says end c b (Ok (Paused n)) = (c < n) × (n < end) × (n - c ≡ b) × Before c n
  Says end c b (Ok (Finished n)) = (n ≡ end) × (n - c ≤ b) × Before c n
  Says end c b (Err r) = ⊥

  stopped_says : (end c b n e x : ℕ) → c ≤ end → n ≡ min b (end - c) → 1 ≤ b → c + e ≡ min (x + 1) (c + n) → Stop p n c x
      → Says end c b (Ok (stopped end c n e x))
  unfolding stopped Before
  stopped_says end c b n e x h q o w s =
      by_cond (λ a. Says end c b (Ok a)) (ltb x (c + n)) _ _
      (λ t. let l : x < c + n = ltb-true _ _ t in (omega arith, s.from, omega arith, omega arith, s.here l, s.before))
      (λ f.
      let l : c + n ≤ x = ltb-false _ _ f in
      by_cond (λ a. Says end c b (Ok a)) (ltb (c + e) end) _ _
      (λ t. let g : c + e < end = ltb-true _ _ t in (omega arith, g, omega arith, λ j u v. s.before j u (omega arith)))
      (λ t. let g : end ≤ c + e = ltb-false _ _ t in (omega arith, omega arith, λ j u v. s.before j u (omega arith))))

  -- the masks from c on and below the end that pass: all of them, in order
  pub record Part (end c : ℕ) (ms : List ℕ) : Type 0 where
    pub ascending : Ascending c ms
    pub sound : (m : ℕ) → Memᴰ m ms → (m < end) × (p m ≡ true)
    pub whole : (m : ℕ) → c ≤ m → m < end → p m ≡ true → Memᴰ m ms

  part_none : {end c : ℕ} → Before c end → Part end c []
  unfolding Before
  part_none f =
      record {
        ascending = tt;
        sound = λ m h. absurd (Memᴰ.not-nil h);
        whole = λ m l h e. absurd (true≢false (sym e ∙ f m l h));
      }

  part_here : {end c n : ℕ} {ms : List ℕ} → n ≡ c + 1 → c < end → p c ≡ true → Part end n ms → Part end c (c ∷ ms)
  part_here q l e w =
      record {
        ascending = (omega arith, rw q at w.ascending);
        sound = λ m h. ⊎_elim (λ r. (omega arith, ap p r ∙ e)) (w.sound m) (Memᴰ.cases_cons h);
        whole = λ m a h g. ⊎_elim (λ r. Memᴰ.head (sym r)) (λ b. Memᴰ.tail (w.whole m (omega arith) h g)) (eq-or-lt_of_le a);
      }

  lower : (c n : ℕ) (ms : List ℕ) → c ≤ n → Ascending n ms → Ascending c ms
  lower c n [] l a = tt
  lower c n (x ∷ ms) l a = (omega arith, a.1)

  part_skip : {end c n : ℕ} {ms : List ℕ} → c ≤ n → Before c n → Part end n ms → Part end c ms
  unfolding Before
  part_skip {end} {c} {n} {ms} l f w =
      record { ascending = lower c n ms l w.ascending; sound = w.sound; whole = λ m a h e. go m a h e (dec_lt m n) }
    where
      go : (m : ℕ) → c ≤ m → m < end → p m ≡ true → Dec (m < n) → Memᴰ m ms
      go m a h e (yes b) = absurd (true≢false (sym e ∙ f m a b))
      go m a h e (no b) = w.whole m (omega arith) h e

  -- calls that say so can be made one after the other until they are finished, whatever the budgets
  module _ (call : ℕ → ℕ → Result Listing Refusal) (end : ℕ) (says : (c b : ℕ) → 1 ≤ c → c ≤ end → 1 ≤ b → Says end c b (call c b)) where
    Runs : (ℕ → ℕ) → ℕ → Type 0
    Runs β c = (ms : List ℕ) × Run call β c ms × Part end c ms

    go_on : (β : ℕ → ℕ) (c : ℕ) → c ≤ end → ((n : ℕ) → c < n → n ≤ end → Runs (later β) n) → (a : Result Listing Refusal) → call c (β 0) ≡ a
        → Says end c (β 0) a → Runs β c
    unfolding Runs
    go_on β c l next (Ok (Found m n)) e s =
        let r = next n (omega arith) (omega arith) in
        (m ∷ r.0, more e r.1, part_skip s.1 s.5 (part_here s.0 s.2 s.4 r.2))
    go_on β c l next (Ok (Paused n)) e s = let r = next n (omega arith) (omega arith) in (r.0, wait e r.1, part_skip (omega arith) s.3 r.2)
    go_on β c l next (Ok (Finished n)) e s = ([], over e, part_none (rw s.0 at s.2))
    go_on β c l next (Err r) e s = absurd s

    within : (fuel : ℕ) (β : ℕ → ℕ) → ((i : ℕ) → 1 ≤ β i) → (c : ℕ) → 1 ≤ c → c ≤ end → end - c ≤ fuel → Runs β c
    within zero β some c h l f = go_on β c l (λ n a b. absurd (omega arith)) (call c (β 0)) refl (says c (β 0) h l (some 0))
    within (suc fuel) β some c h l f =
        go_on β c l (λ n a b. within fuel (later β) (λ i. some (suc i)) n (omega arith) b (omega arith)) (call c (β 0)) refl
        (says c (β 0) h l (some 0))

    pub runs : (β : ℕ → ℕ) → ((i : ℕ) → 1 ≤ β i) → (c : ℕ) → 1 ≤ c → c ≤ end → (ms : List ℕ) × Run call β c ms × Part end c ms
    unfolding Runs
    runs β some c h l = within (end - c) β some c h l (omega arith)

pub listed_says : (sat : ℕ → Bool) (k c b : ℕ) → 1 ≤ c → c ≤ 2 ^ k → 1 ≤ b → Says (minimal sat k) (2 ^ k) c b (listed sat k c b)
unfolding listed searched
listed_says sat k c b h l q =
    let n = min b (2 ^ k - c) in
    rw (le-leb 1 c h, le-leb c (2 ^ k) l, ne_eqb b 0 (λ z. omega arith))
    (stopped_says p (2 ^ k) c b n _ _ l refl q (examined_end p n c) (first_stop p n c))
  where
    p : ℕ → Bool
    p = minimal sat k
