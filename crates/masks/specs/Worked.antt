-- The worked case of document 01 on the definitions, and questions at the edges of its rules: one table, computed, under one claim.
use Rattle.std.specs.Prelude.{ℕ, Bool, false, List, [], ◌∷◌, Result, Ok, Err}
use Rattle.refusal.specs.declared.Refusal.{Refusal}
use Rattle.refusal.specs.declared.Refusal.TheVariants.{RequirementsUnmet, BadCursor, NoBudget}
use Rattle.masks.specs.declared.Choice.{Choice}
use Rattle.masks.specs.declared.Choice.TheVariants as C
use Rattle.masks.specs.declared.Listing.{Listing}
use Rattle.masks.specs.declared.Listing.TheVariants as L
use Rattle.masks.specs.declared.Node.TheVariants.{Leaf, And, Or}
use Rattle.masks.specs.Masks.{listed, chosen}
use Rattle.masks.specs.Value.{value}

-- `(MIT AND ISC) OR 0BSD` with the list MIT, ISC, 0BSD; and an expression of which no licensee is found
pub data Case : Type 0 where
  three : Case
  none : Case

unfoldable pub sat : Case → ℕ → Bool
sat three = value (Leaf 1 ∷ Leaf 2 ∷ And ∷ Leaf 4 ∷ Or ∷ [])
sat none = λ m. false

unfoldable pub found : Case → ℕ
found three = 3
found none = 0

-- a call of the listing with its cursor and budget, or a choice with its budget
pub data Question : Type 0 where
  list : ℕ → ℕ → Question
  choose : ℕ → Question

pub data Answer : Type 0 where
  listing : Result Listing Refusal → Answer
  choice : Result Choice Refusal → Answer

unfoldable pub answer : Case × Question → Answer
answer (w, list c b) = listing (listed (sat w) (found w) c b)
answer (w, choose b) = choice (chosen (sat w) (found w) b)

unfoldable pub table : List ((Case × Question) × Answer)
table =
    -- document 01: the listing, resumed from its own cursor, and the choice
    ((three, list 1 8), listing (Ok (L.Found 3 4)))
    ∷ ((three, list 4 8), listing (Ok (L.Found 4 5)))
    ∷ ((three, list 5 8), listing (Ok (L.Finished 8)))
    ∷ ((three, choose 8), choice (Ok (C.Mask 3)))
    -- at the end; outside, before the budget is looked at; no budget
    ∷ ((three, list 8 8), listing (Ok (L.Finished 8)))
    ∷ ((three, list 0 8), listing (Err (BadCursor 0)))
    ∷ ((three, list 9 8), listing (Err (BadCursor 9)))
    ∷ ((three, list 9 0), listing (Err (BadCursor 9)))
    ∷ ((three, list 1 0), listing (Err NoBudget))
    ∷ ((three, choose 0), choice (Err NoBudget))
    -- a budget that ends one short of the first set, with it, one short of the last mask, with it
    ∷ ((three, list 1 2), listing (Ok (L.Paused 3)))
    ∷ ((three, list 1 3), listing (Ok (L.Found 3 4)))
    ∷ ((three, list 5 2), listing (Ok (L.Paused 7)))
    ∷ ((three, list 5 3), listing (Ok (L.Finished 8)))
    ∷ ((three, choose 2), choice (Ok (C.Paused 3)))
    ∷ ((three, choose 3), choice (Ok (C.Mask 3)))
    -- none found: one cursor, and the choice is refused before the budget is looked at
    ∷ ((none, list 1 1), listing (Ok (L.Finished 1)))
    ∷ ((none, list 2 1), listing (Err (BadCursor 2)))
    ∷ ((none, choose 1), choice (Err RequirementsUnmet))
    ∷ ((none, choose 0), choice (Err RequirementsUnmet))
    ∷ []
