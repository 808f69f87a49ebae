-- The third demand is kept by the definitions, where the empty set fails and all found together satisfy if any set of them does.
use Rattle.std.specs.Prelude.{ℕ, zero, suc, ◌+◌, ◌-◌, ◌^◌, ◌≤◌, ◌<◌, min, ◌≡◌, refl, Bool, true, false, eqb, ltb, Result, Ok, Err}
use Rattle.std.proofs.Common.{sym, ap, subst, ◌∙◌, true≢false, ⊎_elim, arith, pow_pos, ltb-true}
use Rattle.std.proofs.Math.Path.{fun_ext}
use mathlib.Core.List.{List, [], ◌∷◌, Memᴰ}
use Rattle.std.proofs.Math.Decide.{dec_lt}
use Rattle.text.specs.First.{first}
use Rattle.text.specs.FirstLaws.{Stop, first_stop, first_unique}
use Rattle.text.specs.Tests.{by_cond}
use Rattle.refusal.specs.declared.Refusal.{Refusal}
use Rattle.refusal.specs.declared.Refusal.TheVariants.{RequirementsUnmet}
use Rattle.masks.specs.declared.Choice.{Choice}
use Rattle.masks.specs.declared.Choice.TheVariants as C
use Rattle.masks.specs.declared.Listing.{Listing}
use Rattle.masks.specs.declared.Listing.TheVariants.{Found, Paused, Finished}
use Rattle.masks.specs.Masks.{minimal, settled, listed, chosen}
use Rattle.masks.proofs.MasksLaws.{settled_mask, settled_paused, chosen_unmet, chosen_some}
use Rattle.masks.specs.Promise.{Ascending, Minimal, Moves, Promise, Kept}
use Rattle.masks.proofs.Least.{minimal_is, minimal_when, minimal_below}
use Rattle.masks.proofs.Resume.{Says, Part, runs, listed_says}

not_so : (b : Bool) → (b ≡ true → ⊥) → b ≡ false
not_so true f = absurd (f refl)
not_so false f = refl

from_on : (l : List ℕ) (from y : ℕ) → Ascending from l → Memᴰ y l → from ≤ y
from_on [] from y a h = absurd (mathlib.Core.List.Memᴰ.not-nil h)
from_on (x ∷ l) from y a h =
    ⊎_elim (λ q. omega arith) (λ t. omega (arith, from_on l (x + 1) y a.1 t)) (mathlib.Core.List.Memᴰ.cases_cons h)

says_moves : (p : ℕ → Bool) (k c b : ℕ) (a : Result Listing Refusal) → Says p (2 ^ k) c b a → Moves k c b a
says_moves p k c b (Ok (Found m n)) s = (omega arith, s.3)
says_moves p k c b (Ok (Paused n)) s = (s.0, s.2)
says_moves p k c b (Ok (Finished n)) s = (s.0, s.1)
says_moves p k c b (Err r) s = absurd s

module _ (sat : ℕ → Bool) (k : ℕ) where
  -- the choice, where m is the least set that satisfies
  module _ (m : ℕ) (some : 1 ≤ m) (met : sat m ≡ true) (least : (x : ℕ) → sat x ≡ true → m ≤ x) (all : sat (2 ^ k - 1) ≡ true) (b : ℕ) where
    first_least : first sat b 1 ≡ min m (1 + b)
    first_least = sym (first_unique sat b 1 (min m (1 + b)) (record {
      from = omega arith;
      upto = omega arith;
      before = λ j u v. not_so (sat j) (λ e. omega (arith, least j e));
      here = λ h. let q : min m (1 + b) ≡ m = omega arith in rw q met;
    }))

    chosen_mask : m ≤ b → chosen sat k b ≡ Ok (C.Mask m)
    chosen_mask h =
        let q : m ≡ first sat b 1 = omega (arith, first_least) in
        chosen_some sat k b all (λ z. omega arith) ∙ ap Ok (settled_mask sat b m q (omega arith))

    chosen_waits : 1 ≤ b → b < m → chosen sat k b ≡ Ok (C.Paused (1 + b))
    chosen_waits l h =
        let q : 1 + b ≡ first sat b 1 = omega (arith, first_least) in
        chosen_some sat k b all (λ z. omega arith) ∙ ap Ok (settled_paused sat b (1 + b) q (omega arith))

  module _ (empty-not : sat 0 ≡ false) (tops : (m : ℕ) → m < 2 ^ k → sat m ≡ true → sat (2 ^ k - 1) ≡ true) (ms : List ℕ)
      (part : Part (minimal sat k) (2 ^ k) 1 ms) where
    some : (m : ℕ) → Minimal sat m → 1 ≤ m
    some zero w = absurd (true≢false (sym w.satisfies ∙ empty-not))
    some (suc m) w = omega arith

    has_all : (m : ℕ) → m < 2 ^ k → Minimal sat m → Memᴰ m ms
    has_all m h w = part.whole m (some m w) h (minimal_when sat k m w)

    no_other : (m : ℕ) → Memᴰ m ms → (m < 2 ^ k) × Minimal sat m
    no_other m h = let t = part.sound m h in (t.0, minimal_is sat k m t.0 t.1)

    none_met : ms ≡ [] → (m : ℕ) → m < 2 ^ k → sat m ≡ false
    none_met e m h = not_so (sat m) (λ q.
        let y = minimal_below sat m q in
        mathlib.Core.List.Memᴰ.not-nil (rw e at (has_all y.0 (omega arith) y.2)))

    module _ {m : ℕ} {rest : List ℕ} (e : ms ≡ m ∷ rest) where
      lead : (m < 2 ^ k) × Minimal sat m
      lead = no_other m (rw e (mathlib.Core.List.Memᴰ.head refl))

      least_lead : (x : ℕ) → sat x ≡ true → m ≤ x
      least_lead x q = go (dec_lt x m)
        where
          a : Ascending 1 (m ∷ rest)
          a = rw e at part.ascending

          go : Dec (x < m) → m ≤ x
          go (yes h) =
              let y = minimal_below sat x q in
              let t : Memᴰ y.0 (m ∷ rest) = rw e at (has_all y.0 (omega (arith, lead.0)) y.2) in
              omega (arith, from_on (m ∷ rest) m y.0 (omega arith, a.1) t)
          go (no h) = omega arith

      all_lead : sat (2 ^ k - 1) ≡ true
      all_lead = tops m lead.0 lead.1.satisfies

    none_given : ((m : ℕ) → m < 2 ^ k → sat m ≡ false) → ms ≡ []
    none_given f = go ms refl
      where
        go : (l : List ℕ) → ms ≡ l → ms ≡ []
        go [] e = e
        go (x ∷ l) e = let t = lead e in absurd (true≢false (sym t.1.satisfies ∙ f x t.0))

    none_chosen : ms ≡ [] → (b : ℕ) → chosen sat k b ≡ Err RequirementsUnmet
    none_chosen e b = chosen_unmet sat k b (none_met e (2 ^ k - 1) (omega (arith, pow_pos k)))

    promised : Promise (listed sat k) (chosen sat k) sat k ms
    promised =
        record {
          ascending = part.ascending;
          sound = no_other;
          whole = has_all;
          none = none_met;
          empty = none_given;
          leads = λ {m} e. chosen_mask m (some m (lead e).1) (lead e).1.satisfies (least_lead e) (all_lead e);
          waits = λ {m} e. chosen_waits m (some m (lead e).1) (lead e).1.satisfies (least_lead e) (all_lead e);
          unmet = none_chosen;
          least = least_lead;
          moves = λ c b h l q. says_moves (minimal sat k) k c b (listed sat k c b) (listed_says sat k c b h l q);
        }

-- where all together fail, though a set of them satisfies, the choice would be refused and the listing would not
pub kept : (sat : ℕ → Bool) (k : ℕ) → sat 0 ≡ false → ((m : ℕ) → m < 2 ^ k → sat m ≡ true → sat (2 ^ k - 1) ≡ true) → (β : ℕ → ℕ)
    → ((i : ℕ) → 1 ≤ β i) → Kept (listed sat k) (chosen sat k) sat k β
kept sat k z tops β some =
    let r = runs (minimal sat k) (listed sat k) (2 ^ k) (listed_says sat k) β some 1 (omega arith) (pow_pos k) in
    record { masks = r.0; run = r.1; promise = promised sat k z tops r.0 r.2 }

-- a mask that is chosen satisfies, and no lesser one does
module _ (sat : ℕ → Bool) (empty-not : sat 0 ≡ false) where
  abbrev Least : Result Choice Refusal → Type 0
  Least (Ok (C.Mask x)) = (sat x ≡ true) × ((y : ℕ) → sat y ≡ true → x ≤ y)
  Least (Ok (C.Paused p)) = Unit {0}
  Least (Err r) = Unit {0}

  -- the first from 1 on that satisfies is the least, since 0 does not
  least_of : (n x y : ℕ) → Stop sat n 1 x → sat y ≡ true → x ≤ y
  least_of n x zero w q = absurd (true≢false (sym q ∙ empty-not))
  least_of n x (suc y) w q = go (dec_lt (suc y) x)
    where
      go : Dec (suc y < x) → x ≤ suc y
      go (yes h) = absurd (true≢false (sym q ∙ w.before (suc y) (omega arith) h))
      go (no h) = omega arith

  least_chosen : (k b : ℕ) → Least (chosen sat k b)
  unfolding chosen settled
  least_chosen k b =
      by_cond Least (sat (2 ^ k - 1)) _ _
      (λ a.
      by_cond Least (eqb b 0) _ _ (λ z. tt)
      (λ z.
      by_cond (λ a. Least (Ok a)) (ltb (first sat b 1) (1 + b)) _ _
      (λ l. ((first_stop sat b 1).here (ltb-true _ _ l), λ y q. least_of b (first sat b 1) y (first_stop sat b 1) q)) (λ l. tt)))
      (λ a. tt)

  pub chosen_least : (k b x : ℕ) → chosen sat k b ≡ Ok (C.Mask x) → (sat x ≡ true) × ((y : ℕ) → sat y ≡ true → x ≤ y)
  chosen_least k b x e = subst Least e (least_chosen k b)

-- what has the same answers says the same

pub listed_same : (p q : ℕ → Bool) → ((m : ℕ) → p m ≡ q m) → (k c b : ℕ) → listed p k c b ≡ listed q k c b
listed_same p q e k c b = ap (λ (s : ℕ → Bool). listed s k c b) (fun_ext e)

pub chosen_same : (p q : ℕ → Bool) → ((m : ℕ) → p m ≡ q m) → (k b : ℕ) → chosen p k b ≡ chosen q k b
chosen_same p q e k b = ap (λ (s : ℕ → Bool). chosen s k b) (fun_ext e)

pub kept_same : (call call' : ℕ → ℕ → Result Listing Refusal) (pick pick' : ℕ → Result Choice Refusal) → ((c b : ℕ) → call c b ≡ call' c b) → ((b : ℕ) → pick b ≡ pick' b)
    → (sat : ℕ → Bool) (k : ℕ) (β : ℕ → ℕ) → Kept call pick sat k β → Kept call' pick' sat k β
kept_same call call' pick pick' e f sat k β w =
    let c : call ≡ call' = fun_ext (λ c. fun_ext (e c)) in
    let p : pick ≡ pick' = fun_ext f in
    rw (c, p) at w
