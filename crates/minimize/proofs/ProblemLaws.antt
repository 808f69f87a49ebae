-- What choice and listing are about, by the answers for the text and for the list; and what is posed, read back.
use Rattle.std.specs.Prelude.{ℕ, ◌≤◌, ◌≡◌, Bool, true, false, ltb, List, map, length, take, Result, Ok, Err, Option, Some, None}
use Rattle.std.proofs.Common.{refl, ap, ◌∙◌, subst, arith, length-take-le, take_at}
use Rattle.std.proofs.Math.Path.{fun_ext}
use Rattle.std.proofs.lemmas.List.{length-map}
use Rattle.refusal.specs.declared.Refusal.{Refusal}
use Rattle.mode.specs.declared.Mode.{Mode}
use Rattle.grammar.specs.declared.Leaf.{Leaf}
use Rattle.grammar.specs.declared.Node.{Node}
use Rattle.grammar.specs.declared.Nodes.{Nodes}
use Rattle.grammar.specs.Tree.{Tree}
use Rattle.grammar.specs.Grammar.{got, parse_of, answer_of, padded}
use Rattle.grammar.specs.Grammar as Grammar
use Rattle.grammar.proofs.Shape.{reads_tree}
use Rattle.licensee.specs.declared.Accepted.{Accepted}
use Rattle.licensee.specs.declared.Licensee.{Licensee}
use Rattle.licensee.specs.Offers.{Accepts, good, wrong, list_of}
use Rattle.licensee.specs.Terms as Terms
use Rattle.licensee.specs.Terms.{offered_terms, SmallAll, SmallList, accepted_of}
use Rattle.masks.specs.Value.{value}
use Rattle.masks.specs.declared.Node.{Node as Masked}
use Rattle.minimize.specs.declared.Posed.{Posed}
use Rattle.minimize.specs.Minimize.{
  tree_of,
  found_of,
  of_list,
  of_tree,
  of_text,
  Problem,
  refused,
  posed,
  limited,
  pose_of,
  problem_of,
  Places,
  unplaced,
  placed,
  place_of,
  places_of,
}
use Rattle.minimize.specs.Posed.{Poses, PosesList, PosesNodes}
use Rattle.minimize.proofs.PosedLaws.{tree_of_lem}
use Rattle.minimize.proofs.Satisfaction.{satisfied_none}

-- a list that is refused, or valid, for a tree whose nodes these are
module _ (f s : List ℕ) (q : List Node) (to : List Masked) (g : List ℕ) where
  pub list_refused : (r : Refusal) → accepted_of (list_of f) ≡ Err r → PosesNodes (Err r) f s q to g
  list_refused r e u nodes few = go (list_of f) e
    where
      go : (w : Accepts) → accepted_of w ≡ Err r
          → Poses (Err r) (of_list refused (pose_of f s) f u w) (of_list unplaced (place_of f s) f u w) to g
      go (good ls) e = absurd (let z : ◌≡◌ {A = ℕ} 0 1 = cc in omega arith)
      go (wrong x) e = let i : x ≡ r = cc in rw i (refl, refl)

  pub list_reads : (a : Accepted) → accepted_of (list_of f) ≡ Ok a → SmallList (list_of f) → (p : Result Posed Refusal)
      → PosesList p f s (take a.count a.terms) q to g → PosesNodes p f s q to g
  list_reads a e small p h u nodes few = go (list_of f) e small
    where
      go : (w : Accepts) → accepted_of w ≡ Ok a → SmallList w
          → Poses p (of_list refused (pose_of f s) f u w) (of_list unplaced (place_of f s) f u w) to g
      go (good ls) e k =
          let i : length ls ≡ a.count = cc e in
          let l : Terms.padded (map offered_terms ls) ≡ a.terms = cc e in
          h u nodes few ls (rw (← i, ← l) (take_at (map offered_terms ls) _ (length ls) (length-map ls offered_terms))) k
      go (wrong r) e k = absurd (let z : ◌≡◌ {A = ℕ} 0 1 = cc in omega arith)

-- the answer for a text: refused, or a tree's nodes
module _ (s : List ℕ) (m : Mode) (f : List ℕ) (to : List Masked) (g : List ℕ) where
  pub text_refused : (r : Refusal) → answer_of (parse_of s m) ≡ Err r → Poses (Err r) (problem_of s m f) (places_of s m f) to g
  unfolding problem_of places_of
  text_refused r e = go (parse_of s m) e
    where
      go : (w : Grammar.Result) → answer_of w ≡ Err r → Poses (Err r) (of_text refused (pose_of f s) f w) (of_text unplaced (place_of f s) f w) to g
      go (got q b ts) e = absurd (let z : ◌≡◌ {A = ℕ} 0 1 = cc in omega arith)
      go (Grammar.refused x) e = let i : x ≡ r = cc in rw i (refl, refl)

  pub text_reads : (p : Nodes) → answer_of (parse_of s m) ≡ Ok p → (r : Result Posed Refusal) → PosesNodes r f s (take p.count p.nodes) to g
      → Poses r (problem_of s m f) (places_of s m f) to g
  unfolding problem_of places_of
  text_reads p e r h = go (parse_of s m) refl e
    where
      go : (w : Grammar.Result) → parse_of s m ≡ w → answer_of w ≡ Ok p
          → Poses r (of_text refused (pose_of f s) f w) (of_text unplaced (place_of f s) f w) to g
      go (got q b ts) k e =
          let t = reads_tree s m q b ts k in
          let tree = ap tree_of t.nodes ∙ tree_of_lem t.tree in
          let i : length q ≡ p.count = cc e in
          let l : padded q ≡ p.nodes = cc e in
          rw tree (h t.tree (rw (← i, ← l) (take_at q _ (length q) refl ∙ t.nodes)) t.few)
      go (Grammar.refused x) k e = absurd (let z : ◌≡◌ {A = ℕ} 0 1 = cc in omega arith)

-- the empty set satisfies no text
abbrev EmptyFails : Problem → Type 0
EmptyFails (refused r) = Unit {0}
EmptyFails (posed k sat) = sat 0 ≡ false

empty_fails : (s : List ℕ) (m : Mode) (f : List ℕ) → EmptyFails (problem_of s m f)
unfolding problem_of limited
empty_fails s m f = by_text (parse_of s m)
  where
    by_many : (t : Tree Leaf) (fs : List Licensee) (b : Bool) → ltb 30 (length fs) ≡ b → EmptyFails (limited f s t fs)
    by_many t fs true e = rw e tt
    by_many t fs false e = rw e (satisfied_none f s fs t)

    by_list : (t : Tree Leaf) (w : Accepts) → EmptyFails (of_list refused (pose_of f s) f t w)
    by_list t (good ls) = by_many t (found_of f s t ls) (ltb 30 (length (found_of f s t ls))) refl
    by_list t (wrong r) = tt

    by_tree : (o : Option (Tree Leaf)) → EmptyFails (of_tree refused (pose_of f s) f o)
    by_tree None = tt
    by_tree (Some t) = by_list t (list_of f)

    by_text : (w : Grammar.Result) → EmptyFails (of_text refused (pose_of f s) f w)
    by_text (got q b ts) = by_tree (tree_of q)
    by_text (Grammar.refused r) = tt

-- what is posed, read back: refused, or the sets that the evaluator finds to satisfy
pub record Stands (to : List Masked) (g : List ℕ) (p : Posed) (x : Problem) (y : Places) : Type 0 where
  pub few : p.found ≤ 30
  pub nodes : p.count ≤ length to
  pub problem : x ≡ posed p.found (value (take p.count to))
  pub spots : p.found ≤ length g
  pub many : length (take p.found g) ≡ p.found
  pub places : y ≡ placed (take p.found g)

module _ (r : Result Posed Refusal) (to : List Masked) (g : List ℕ) (y : Places) where
  pub posed_refused : (x : Problem) (e : Refusal) → Poses r x y to g → r ≡ Err e → (x ≡ refused e) × (y ≡ unplaced e)
  posed_refused (refused q) e h o = let i : q ≡ e = cc h.0 in (ap refused i, h.1 ∙ ap unplaced i)
  posed_refused (posed k sat) e h o = absurd (let z : ◌≡◌ {A = ℕ} 0 1 = cc h.1 in omega arith)

  pub posed_read : (x : Problem) (p : Posed) → Poses r x y to g → r ≡ Ok p → Stands to g p x y
  posed_read (refused q) p h o = absurd (let z : ◌≡◌ {A = ℕ} 0 1 = cc h.0 in omega arith)
  posed_read (posed j sat) p h o =
      let i : h.0 ≡ p.count = cc h.1 in
      let b : j ≡ p.found = cc h.1 in
      let e : value (take h.0 to) ≡ sat = fun_ext h.5 in
      let spots : p.found ≤ length g = omega arith in
      record {
        few = omega arith;
        nodes = omega arith;
        problem = cc (e, b, i);
        spots = spots;
        many = length-take-le p.found g spots;
        places = h.6 ∙ ap (λ (w : ℕ). placed (take w g)) b;
      }

-- and the empty set is none of them
pub posed_empty : (to g : _) (p : Posed) (s : List ℕ) (m : Mode) (f : List ℕ) (y : Places) → Stands to g p (problem_of s m f) y
    → value (take p.count to) 0 ≡ false
posed_empty to g p s m f y w = subst EmptyFails w.problem (empty_fails s m f)

-- the same of a text, a mode and a list: what a call of pose answers of them
module _
    (s : List ℕ) (m : Mode) (f : List ℕ) (r : Result Posed Refusal) (to : List Masked) (g : List ℕ)
    (h : Poses r (problem_of s m f) (places_of s m f) to g)
  where
    pub call_refused : (e : Refusal) → r ≡ Err e → (problem_of s m f ≡ refused e) × (places_of s m f ≡ unplaced e)
    call_refused e = posed_refused r to g (places_of s m f) (problem_of s m f) e h

    pub call_read : (p : Posed) → r ≡ Ok p → Stands to g p (problem_of s m f) (places_of s m f)
    call_read p = posed_read r to g (places_of s m f) (problem_of s m f) p h
