-- The places of the found licensees: the licensees at them are the found, which are those of a mask's bits, and all stand in the list; they are
-- refused exactly as choice and listing are, and as many as the bits of a mask.
use Rattle.std.specs.Prelude.{ℕ, ◌+◌, ◌≤◌, ◌<◌, ◌≡◌, refl, Bool, true, false, cond, not, ◌&&◌, ltb, length, get_or, Option, Some, None}
use mathlib.Core.List.{List, [], ◌∷◌, ◌++◌, map}
use Rattle.std.proofs.Common.{arith, le-ltb}
use Rattle.mode.specs.declared.Mode.{Mode}
use Rattle.lexer.specs.Tokens.{Tokens}
use Rattle.grammar.specs.declared.Leaf.{Leaf}
use Rattle.grammar.specs.declared.Before.{Before}
use Rattle.grammar.specs.Tree.{Tree, postfix}
use Rattle.grammar.specs.Grammar.{got, parse_of}
use Rattle.grammar.specs.Grammar as Grammar
use Rattle.licensee.specs.declared.Licensee.{Licensee}
use Rattle.licensee.specs.Offers.{Accepts, good, wrong, list_of}
use Rattle.licensee.specs.Satisfies.{equals}
use Rattle.std.specs.List.{list_any}
use Rattle.minimize.specs.Minimize.{found_at, tree_of, wanted, found_of, places_in, of_list, of_tree, of_text, Problem, refused, posed, limited, pose_of, problem_of, Places, unplaced, placed, few_places, place_of, places_of}
use Rattle.minimize.proofs.ListLaws.{Each, found_places_lem, places_length}
use Rattle.minimize.proofs.PosedLaws.{tree_of_lem}

-- places from i on are below n, where the list ends at n
places_below : {A : Type 0} (same : A → A → Bool) (wanted : A → Bool) (n : ℕ) (fs l : List A) (i : ℕ) → i + length l ≤ n
    → Each (λ (p : ℕ). p < n) (found_at same wanted fs i l)
unfolding found_at
places_below same wanted n fs [] i h = tt
places_below {A} same wanted n fs (x ∷ l) i h =
    go (wanted x && not (list_any (same x) fs)) (λ gs. places_below same wanted n gs l (i + 1) (omega arith))
  where
    go : (b : Bool) → ((gs : List A) → Each (λ (p : ℕ). p < n) (found_at same wanted gs (i + 1) l))
        → Each (λ (p : ℕ). p < n) (cond b (i ∷ found_at same wanted (fs ++ (x ∷ [])) (i + 1) l) (found_at same wanted fs (i + 1) l))
    go true k = (omega arith, k (fs ++ (x ∷ [])))
    go false k = k fs

-- of a tree and the licensees of a list
module _ (f s : List ℕ) (t : Tree Leaf) (ls : List Licensee) where
  pub places_found : (d : Licensee) → map (λ (i : ℕ). get_or ls i d) (places_in f s t ls) ≡ found_of f s t ls
  unfolding places_in found_of
  places_found d = found_places_lem (equals f) (wanted f s t) d ls

  pub places_listed : Each (λ (p : ℕ). p < length ls) (places_in f s t ls)
  unfolding places_in
  places_listed = places_below (equals f) (wanted f s t) (length ls) [] ls 0 (omega arith)

  pub places_many : length (places_in f s t ls) ≡ length (found_of f s t ls)
  unfolding places_in found_of
  places_many = places_length (equals f) (wanted f s t) ls

-- the same refusal, or as many places as licensees are found
abbrev pub Alike : Problem → Places → Type 0
Alike (refused r) (unplaced q) = r ≡ q
Alike (refused r) (placed ps) = ⊥
Alike (posed k sat) (unplaced q) = ⊥
Alike (posed k sat) (placed ps) = length ps ≡ k

pub places_alike : (s : List ℕ) (m : Mode) (f : List ℕ) → Alike (problem_of s m f) (places_of s m f)
unfolding problem_of places_of limited few_places
places_alike s m f = by_text (parse_of s m)
  where
    by_many : (t : Tree Leaf) (ls : List Licensee) (b : Bool) → ltb 30 (length (found_of f s t ls)) ≡ b → Alike (pose_of f s t ls) (place_of f s t ls)
    by_many t ls true e = rw (places_many f s t ls, e) refl
    by_many t ls false e = rw (places_many f s t ls, e) (places_many f s t ls)

    by_list : (t : Tree Leaf) (w : Accepts) → Alike (of_list refused (pose_of f s) f t w) (of_list unplaced (place_of f s) f t w)
    by_list t (good ls) = by_many t ls (ltb 30 (length (found_of f s t ls))) refl
    by_list t (wrong r) = refl

    by_tree : (o : Option (Tree Leaf)) → Alike (of_tree refused (pose_of f s) f o) (of_tree unplaced (place_of f s) f o)
    by_tree None = refl
    by_tree (Some t) = by_list t (list_of f)

    by_text : (w : Grammar.Result) → Alike (of_text refused (pose_of f s) f w) (of_text unplaced (place_of f s) f w)
    by_text (got q b ts) = by_tree (tree_of q)
    by_text (Grammar.refused r) = refl

-- for a text that reads and a list that is valid, with at most 30 found: those
pub places_posed : (s : List ℕ) (m : Mode) (f : List ℕ) (t : Tree Leaf) (b : Before) (ts : Tokens) (ls : List Licensee)
    → parse_of s m ≡ got (postfix t) b ts → list_of f ≡ good ls → length (found_of f s t ls) ≤ 30 → places_of s m f ≡ placed (places_in f s t ls)
unfolding places_of few_places
places_posed s m f t b ts ls reads valid few = rw (reads, tree_of_lem t, valid, places_many f s t ls, le-ltb 30 (length (found_of f s t ls)) few)
