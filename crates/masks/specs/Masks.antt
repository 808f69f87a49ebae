-- Sets of found licensees as masks, and what choice and listing answer. Document 01: "The listing examines masks from its cursor upwards, at most a
-- budget of them, stopping after the first that satisfies with every member needed. It answers found (mask, next cursor mask + 1), paused (cursor +
-- budget) or finished (cursor 2^k, also when the cursor reaches 2^k with none found). The masks examined are counted: next cursor less old cursor.
-- Choice examines from 1, at most a budget of masks, and answers the first that satisfies, or paused (1 + budget)"; 19, 20 and 21 and their order.
-- Here `sat` says which masks satisfy the expression, and k is how many licensees are found: bit 0 is the first of them.
use Rattle.std.specs.Prelude.{ℕ, zero, suc, ◌+◌, ◌-◌, ◌/◌, ◌%◌, ◌^◌, min, Bool, cond, ◌&&◌, eqb, leb, ltb, Result, Ok, Err}
use Rattle.text.specs.First.{first}
use Rattle.refusal.specs.declared.Refusal.{Refusal}
use Rattle.refusal.specs.declared.Refusal.TheVariants.{RequirementsUnmet, BadCursor, NoBudget}
use Rattle.masks.specs.declared.Choice.{Choice}
use Rattle.masks.specs.declared.Choice.TheVariants as C
use Rattle.masks.specs.declared.Listing.{Listing}
use Rattle.masks.specs.declared.Listing.TheVariants as L

-- licensee i is a member of the set m
unfoldable pub has : ℕ → ℕ → Bool
has m i = eqb (m / 2 ^ i % 2) 1

module _ (sat : ℕ → Bool) where
  -- licensee i is a member, and is not needed: the set without it satisfies
  unfoldable pub spare : ℕ → ℕ → Bool
  spare m i = has m i && sat (m - 2 ^ i)

  module _ (k : ℕ) where
    -- "satisfies with every member needed": no member of the k is spare
    unfoldable pub minimal : ℕ → Bool
    minimal m = sat m && eqb (first (spare m) k 0) k

-- how many masks are examined: from c on, at most n, up to and with the first that passes
unfoldable pub examined : (ℕ → Bool) → ℕ → ℕ → ℕ
examined p zero c = 0
examined p (suc n) c = suc (cond (p c) 0 (examined p n (c + 1)))

-- n masks from c on were to be examined, e were, and x is the first that passes, or the one after them: the next cursor is c and what was counted
unfoldable pub stopped : ℕ → ℕ → ℕ → ℕ → ℕ → Listing
stopped end c n e x = cond (ltb x (c + n)) (L.Found x (c + e)) (cond (ltb (c + e) end) (L.Paused (c + e)) (L.Finished (c + e)))

-- the search from c on, among at most n masks
unfoldable pub searched : (ℕ → Bool) → ℕ → ℕ → ℕ → Listing
searched p end c n = stopped end c n (examined p n c) (first p n c)

-- n masks from 1 on were to be examined, and x is the first that satisfies, or the one after them
unfoldable pub settled : ℕ → ℕ → Choice
settled n x = cond (ltb x (1 + n)) (C.Mask x) (C.Paused (1 + n))

module _ (sat : ℕ → Bool) (k : ℕ) where
  -- "for the listing 20, 21": "cursor not in 1 to 2^k", "budget 0"
  unfoldable pub listed : ℕ → ℕ → Result Listing Refusal
  listed c b =
      cond (leb 1 c && leb c (2 ^ k))
      (cond (eqb b 0) (Err NoBudget) (Ok (searched (minimal sat k) (2 ^ k) c (min b (2 ^ k - c)))))
      (Err (BadCursor c))

  -- "for choice 19, 21": "all found together fail", "budget 0"
  unfoldable pub chosen : ℕ → Result Choice Refusal
  chosen b = cond (sat (2 ^ k - 1)) (cond (eqb b 0) (Err NoBudget) (Ok (settled b (first sat b 1)))) (Err RequirementsUnmet)
