-- Choice and listing from text, mode and list, and where in the list the found licensees stand. Document 01: "A set satisfies a leaf if a member does,
-- an AND if it satisfies both sides, an OR if either. Found licensees are those, in list order, that satisfy some leaf and equal no earlier found one;
-- bit 0 is the first. Let k be their number. Choice and listing take text, mode and list"; "Then 17, 18, and for choice 19, 21, for the listing 20, 21".
use Rattle.std.specs.Prelude.{ℕ, ◌+◌, ◌/◌, ◌%◌, Bool, false, cond, not, ◌&&◌, ◌||◌, List, [], ◌∷◌, ◌++◌, eqb, ltb, length, Result, Ok, Err, Option, Some, None}
use Rattle.std.specs.List.{list_any}
use Rattle.text.specs.Overlay.{overlay}
use Rattle.refusal.specs.Refused.{span}
use Rattle.refusal.specs.declared.Refusal.{Refusal}
use Rattle.refusal.specs.declared.Refusal.TheVariants.{Empty, TooManyRequirements}
use Rattle.mode.specs.declared.Mode.{Mode}
use Rattle.grammar.specs.declared.Leaf.{Leaf}
use Rattle.grammar.specs.declared.Node.{Node}
use Rattle.grammar.specs.Tree.{Tree, just, both, either, meaning, run}
use Rattle.grammar.specs.Grammar.{got, parse_of}
use Rattle.grammar.specs.Grammar as Grammar
use Rattle.licensee.specs.declared.Licensee.{Licensee}
use Rattle.licensee.specs.Offers.{Accepts, good, wrong, list_of}
use Rattle.licensee.specs.Satisfies.{satisfies, equals}
use Rattle.masks.specs.Masks.{chosen, listed}
use Rattle.masks.specs.declared.Choice.{Choice}
use Rattle.masks.specs.declared.Listing.{Listing}

-- "in list order, that satisfy some leaf and equal no earlier found one": of a list, those that are wanted and the same as none got before
unfoldable pub found_after : {A : Type 0} → (A → A → Bool) → (A → Bool) → List A → List A → List A
found_after same wanted fs [] = fs
found_after same wanted fs (x ∷ l) = found_after same wanted (cond (wanted x && not (list_any (same x) fs)) (fs ++ (x ∷ [])) fs) l

-- the places, from i on, of those of a list that are wanted and the same as none got before
unfoldable pub found_at : {A : Type 0} → (A → A → Bool) → (A → Bool) → List A → ℕ → List A → List ℕ
found_at same wanted fs i [] = []
found_at same wanted fs i (x ∷ l) =
    cond (wanted x && not (list_any (same x) fs)) (i ∷ found_at same wanted (fs ++ (x ∷ [])) (i + 1) l) (found_at same wanted fs (i + 1) l)

-- a member of the set m of the list passes: bit 0 of m is the first of the list
unfoldable pub member : {A : Type 0} → (A → Bool) → List A → ℕ → Bool
member p [] m = false
member p (x ∷ l) m = (p x && eqb (m % 2) 1) || member p l (m / 2)

-- the tree whose nodes in postfix these are
abbrev pub on_top : List (Tree Leaf) → Option (Tree Leaf)
on_top [] = None
on_top (t ∷ []) = Some t
on_top (t ∷ u ∷ k) = None

unfoldable pub tree_of : List Node → Option (Tree Leaf)
tree_of q = on_top (run just both either q [])

-- the list file, and the text
module _ (f s : List ℕ) where
  -- the licensee satisfies some leaf of the tree
  unfoldable pub wanted : Tree Leaf → Licensee → Bool
  wanted t l = meaning (satisfies f s l) ◌||◌ ◌||◌ t

  unfoldable pub found_of : Tree Leaf → List Licensee → List Licensee
  found_of t ls = found_after (equals f) (wanted t) [] ls

  -- the places of the found in the list, bit 0's first
  unfoldable pub places_in : Tree Leaf → List Licensee → List ℕ
  places_in t ls = found_at (equals f) (wanted t) [] 0 ls

  -- "A set satisfies a leaf if a member does, an AND if it satisfies both sides, an OR if either"
  unfoldable pub satisfied : List Licensee → Tree Leaf → ℕ → Bool
  satisfied fs t m = meaning (λ (x : Leaf). member (λ (l : Licensee). satisfies f s l x) fs m) ◌&&◌ ◌||◌ t

-- a text and a list file: what `make` gives for the tree and the licensees, or a refusal, the text's before the list's
module _ {P : Type 0} (refuse : Refusal → P) (make : Tree Leaf → List Licensee → P) (f : List ℕ) where
  abbrev pub of_list : Tree Leaf → Accepts → P
  of_list t (good ls) = make t ls
  of_list t (wrong r) = refuse r

  -- nodes that were read are a tree's: the first case does not come up
  abbrev pub of_tree : Option (Tree Leaf) → P
  of_tree None = refuse (Empty (span 0 0))
  of_tree (Some t) = of_list t (list_of f)

  abbrev pub of_text : Grammar.Result → P
  of_text (got q b ts) = of_tree (tree_of q)
  of_text (Grammar.refused r) = refuse r

-- what choice and listing are about: how many licensees are found, and which sets of them satisfy; or a refusal of the text or of the list, or 18
pub data Problem : Type 0 where
  refused : Refusal → Problem
  posed : ℕ → (ℕ → Bool) → Problem

-- "18 TooManyRequirements: k over 30: k"
unfoldable pub limited : (f s : List ℕ) → Tree Leaf → List Licensee → Problem
limited f s t fs = cond (ltb 30 (length fs)) (refused (TooManyRequirements (length fs))) (posed (length fs) (satisfied f s fs t))

abbrev pub pose_of : (f s : List ℕ) → Tree Leaf → List Licensee → Problem
pose_of f s t ls = limited f s t (found_of f s t ls)

-- "refusals of the text, then 17, 18"
unfoldable pub problem_of : List ℕ → Mode → List ℕ → Problem
problem_of s m f = of_text refused (pose_of f s) f (parse_of s m)

abbrev pub chosen_in : Problem → ℕ → Result Choice Refusal
chosen_in (refused r) b = Err r
chosen_in (posed k sat) b = chosen sat k b

abbrev pub listed_in : Problem → ℕ → ℕ → Result Listing Refusal
listed_in (refused r) c b = Err r
listed_in (posed k sat) c b = listed sat k c b

-- what choice and listing answer: text, mode, list file, cursor, budget
unfoldable pub choice_of : List ℕ → Mode → List ℕ → ℕ → Result Choice Refusal
choice_of s m f b = chosen_in (problem_of s m f) b

unfoldable pub listing_of : List ℕ → Mode → List ℕ → ℕ → ℕ → Result Listing Refusal
listing_of s m f c b = listed_in (problem_of s m f) c b

-- where the found stand in the list; or a refusal, as of a problem
pub data Places : Type 0 where
  unplaced : Refusal → Places
  placed : List ℕ → Places

-- "18 TooManyRequirements", of the same k
unfoldable pub few_places : List ℕ → Places
few_places ps = cond (ltb 30 (length ps)) (unplaced (TooManyRequirements (length ps))) (placed ps)

abbrev pub place_of : (f s : List ℕ) → Tree Leaf → List Licensee → Places
place_of f s t ls = few_places (places_in f s t ls)

unfoldable pub places_of : List ℕ → Mode → List ℕ → Places
places_of s m f = of_text unplaced (place_of f s) f (parse_of s m)

-- what is answered, and what the lent buffer then holds: a refusal leaves it as it was
unfoldable pub found_answer : Places → Result ℕ Refusal
found_answer (unplaced r) = Err r
found_answer (placed ps) = Ok (length ps)

unfoldable pub found_buffer : Places → List ℕ → List ℕ
found_buffer (unplaced r) out = out
found_buffer (placed ps) out = overlay 0 ps out
