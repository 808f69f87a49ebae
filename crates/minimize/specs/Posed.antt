-- The arrays of choice and listing: leaves and licensees as terms, found licensees, and the nodes with the masks of those that satisfy a leaf. The code's
-- own machinery, nothing to believe.
use Rattle.std.specs.Prelude.{ℕ, ◌+◌, ◌*◌, ◌≤◌, ◌≡◌, Bool, List, [], ◌∷◌, ◌++◌, map, length, take, Result, Ok, Err}
use Rattle.std.specs.List.{list_any}
use Rattle.refusal.specs.declared.Refusal.{Refusal}
use Rattle.grammar.specs.declared.Node.{Node}
use Rattle.grammar.specs.declared.Node.TheVariants as K
use Rattle.grammar.specs.declared.Leaf.{Leaf}
use Rattle.grammar.specs.Tree.{Tree, size, postfix}
use Rattle.licensee.specs.Offers.{list_of}
use Rattle.licensee.specs.declared.Licensee.{Licensee}
use Rattle.licensee.specs.declared.Terms.{Terms}
use Rattle.licensee.specs.Terms.{terms_of, offered_terms, SmallLicence, SmallAddition, SmallAll, same_terms, meets}
use Rattle.masks.specs.Value.{digit, value}
use Rattle.masks.specs.declared.Node.{Node as Masked}
use Rattle.masks.specs.declared.Node.TheVariants as M
use Rattle.minimize.specs.declared.Posed.{Posed}
use Rattle.minimize.specs.Minimize.{found_after, found_at, of_list, Problem, refused, posed, pose_of, Places, unplaced, placed, place_of}

-- the terms of a leaf; another node has none
abbrev pub own_terms : Node → List Terms
own_terms K.Blank = []
own_terms (K.Leaf x) = terms_of x.licence x.addition ∷ []
own_terms K.And = []
own_terms K.Or = []

-- the terms of the leaves among nodes
unfoldable pub leaf_terms : List Node → List Terms
leaf_terms [] = []
leaf_terms (x ∷ q) = own_terms x ++ leaf_terms q

abbrev pub SmallNode : Node → Type 0
SmallNode K.Blank = Unit {0}
SmallNode (K.Leaf x) = SmallLicence x.licence × SmallAddition x.addition
SmallNode K.And = Unit {0}
SmallNode K.Or = Unit {0}

abbrev pub SmallNodes : List Node → Type 0
SmallNodes [] = Unit {0}
SmallNodes (x ∷ q) = SmallNode x × SmallNodes q

-- bit i is whether number i of the list passes
unfoldable pub bits : {A : Type 0} → (A → Bool) → List A → ℕ
bits p [] = 0
bits p (x ∷ l) = digit (p x) + bits p l * 2

module _ (f s : List ℕ) where
  -- those of the licensees ls that satisfy a leaf of xs and equal no earlier one
  unfoldable pub found_terms : List Terms → List Terms → List Terms
  found_terms xs ls = found_after (same_terms f f) (λ (l : Terms). list_any (meets f s l) xs) [] ls

  -- and their places among them
  unfoldable pub found_places : List Terms → List Terms → List ℕ
  found_places xs ls = found_at (same_terms f f) (λ (l : Terms). list_any (meets f s l) xs) [] 0 ls

  -- the mask of the licensees fs that satisfy the leaf x
  unfoldable pub mask_of : List Terms → Terms → ℕ
  mask_of fs x = bits (λ (l : Terms). meets f s l x) fs

  -- a node as the evaluator takes it; no text has a blank one
  abbrev pub masked : List Terms → Node → Masked
  masked fs K.Blank = M.Leaf 0
  masked fs (K.Leaf x) = M.Leaf (mask_of fs (terms_of x.licence x.addition))
  masked fs K.And = M.And
  masked fs K.Or = M.Or

-- what the code makes of a problem: n nodes by which the evaluator answers which sets satisfy, and the places of the found
abbrev pub Poses : Result Posed Refusal → Problem → Places → List Masked → List ℕ → Type 0
Poses p (refused r) w t g = (p ≡ Err r) × (w ≡ unplaced r)
Poses p (posed k sat) w t g =
    (n : ℕ) × (p ≡ Ok (record { found = k; count = n })) × (k ≤ 30) × (n ≤ 127) × (length t ≡ 127)
    × ((m : ℕ) → value (take n t) m ≡ sat m) × (w ≡ placed (take k g)) × (length g ≡ 64)

-- the same of any tree whose nodes these are, and any licensees whose terms these are
abbrev pub PosesList : Result Posed Refusal → List ℕ → List ℕ → List Terms → List Node → List Masked → List ℕ → Type 0
PosesList p f s l q t g =
    (u : Tree Leaf) → q ≡ postfix u → size u ≤ 64 → (ls : List Licensee) → l ≡ map offered_terms ls → SmallAll ls
    → Poses p (pose_of f s u ls) (place_of f s u ls) t g

-- the same of any tree whose nodes these are, with the licensees of the list
abbrev pub PosesNodes : Result Posed Refusal → List ℕ → List ℕ → List Node → List Masked → List ℕ → Type 0
PosesNodes p f s q t g =
    (u : Tree Leaf) → q ≡ postfix u → size u ≤ 64
    → Poses p (of_list refused (pose_of f s) f u (list_of f)) (of_list unplaced (place_of f s) f u (list_of f)) t g
