-- The third demand: "the listing, begun at cursor 1 and resumed from its own cursor until finished, gives every set of found licensees that satisfies
-- the expression and loses that if any member is taken out, each once, in ascending mask order; none exactly when no set satisfies; the first is the
-- minimized choice once its budget reaches it; every call with a budget of one or more moves on or is at the end".
-- `call` is the listing by cursor and budget, `pick` the choice by budget, `sat` says which masks satisfy, k is how many licensees are found.
use Rattle.std.specs.Prelude.{ℕ, suc, ◌+◌, ◌-◌, ◌^◌, ◌<◌, ◌≤◌, ◌≡◌, Bool, true, false, Result, Ok, Err}
use mathlib.Core.List.{List, [], ◌∷◌, Memᴰ}
use Rattle.refusal.specs.declared.Refusal.{Refusal}
use Rattle.refusal.specs.declared.Refusal.TheVariants.{RequirementsUnmet}
use Rattle.masks.specs.declared.Choice.{Choice}
use Rattle.masks.specs.declared.Choice.TheVariants as C
use Rattle.masks.specs.declared.Listing.{Listing}
use Rattle.masks.specs.declared.Listing.TheVariants as L
use Rattle.masks.specs.Masks.{has}

-- the budgets of the calls after the first
abbrev pub later : (ℕ → ℕ) → ℕ → ℕ
later β i = β (suc i)

-- calls from cursor c on, the first with budget β 0, each from the cursor that the last one gave, that give the masks of a list and end finished
pub data Run (call : ℕ → ℕ → Result Listing Refusal) : (ℕ → ℕ) → ℕ → List ℕ → Type 0 where
  over : {β : ℕ → ℕ} {c e : ℕ} → call c (β 0) ≡ Ok (L.Finished e) → Run call β c []
  more : {β : ℕ → ℕ} {c m n : ℕ} {ms : List ℕ} → call c (β 0) ≡ Ok (L.Found m n) → Run call (later β) n ms → Run call β c (m ∷ ms)
  wait : {β : ℕ → ℕ} {c n : ℕ} {ms : List ℕ} → call c (β 0) ≡ Ok (L.Paused n) → Run call (later β) n ms → Run call β c ms

-- each number of the list is at least `from`, and more than the one before it
abbrev pub Ascending : ℕ → List ℕ → Type 0
Ascending from [] = Unit {0}
Ascending from (x ∷ l) = (from ≤ x) × Ascending (x + 1) l

-- the set m satisfies, and loses that if any member is taken out
pub record Minimal (sat : ℕ → Bool) (m : ℕ) : Type 0 where
  pub satisfies : sat m ≡ true
  pub needs : (i : ℕ) → has m i ≡ true → sat (m - 2 ^ i) ≡ false

-- a call at cursor c with budget b moves on or is at the end, and examines at most b masks, exactly b where it pauses
abbrev pub Moves : ℕ → ℕ → ℕ → Result Listing Refusal → Type 0
Moves k c b (Ok (L.Found m n)) = (c < n) × (n - c ≤ b)
Moves k c b (Ok (L.Paused n)) = (c < n) × (n - c ≡ b)
Moves k c b (Ok (L.Finished n)) = (n ≡ 2 ^ k) × (n - c ≤ b)
Moves k c b (Err r) = ⊥

pub record Promise (call : ℕ → ℕ → Result Listing Refusal) (pick : ℕ → Result Choice Refusal) (sat : ℕ → Bool) (k : ℕ) (ms : List ℕ) : Type 0 where
  -- "each once, in ascending mask order"
  pub ascending : Ascending 1 ms
  -- "every set of found licensees that satisfies the expression and loses that if any member is taken out", and no other
  pub sound : (m : ℕ) → Memᴰ m ms → (m < 2 ^ k) × Minimal sat m
  pub whole : (m : ℕ) → m < 2 ^ k → Minimal sat m → Memᴰ m ms
  -- "none exactly when no set satisfies"
  pub none : ms ≡ [] → (m : ℕ) → m < 2 ^ k → sat m ≡ false
  pub empty : ((m : ℕ) → m < 2 ^ k → sat m ≡ false) → ms ≡ []
  -- "the first is the minimized choice once its budget reaches it"
  pub leads : {m : ℕ} {rest : List ℕ} → ms ≡ m ∷ rest → (b : ℕ) → m ≤ b → pick b ≡ Ok (C.Mask m)
  pub waits : {m : ℕ} {rest : List ℕ} → ms ≡ m ∷ rest → (b : ℕ) → 1 ≤ b → b < m → pick b ≡ Ok (C.Paused (1 + b))
  pub unmet : ms ≡ [] → (b : ℕ) → pick b ≡ Err RequirementsUnmet
  -- the first is the numerically least set that satisfies
  pub least : {m : ℕ} {rest : List ℕ} → ms ≡ m ∷ rest → (x : ℕ) → sat x ≡ true → m ≤ x
  -- "every call with a budget of one or more moves on or is at the end"
  pub moves : (c b : ℕ) → 1 ≤ c → c ≤ 2 ^ k → 1 ≤ b → Moves k c b (call c b)

-- with any budgets of one or more the run from cursor 1 ends, and keeps the promise
pub record Kept (call : ℕ → ℕ → Result Listing Refusal) (pick : ℕ → Result Choice Refusal) (sat : ℕ → Bool) (k : ℕ) (β : ℕ → ℕ) : Type 0 where
  pub masks : List ℕ
  pub run : Run call β 1 masks
  pub promise : Promise call pick sat k masks
