-- What the arrays say: the found of the terms are the found licensees, the evaluator by masks is satisfaction over the tree, and so what the code poses
-- is the problem.
use Rattle.std.specs.Prelude.{ℕ, suc, ◌+◌, ◌*◌, ◌%◌, ◌^◌, ◌≤◌, ◌<◌, ◌≡◌, Bool, true, false, not, ◌&&◌, ◌||◌, eqb, List, [], ◌∷◌, ◌++◌, map, length, take, Ok, Err, Some}
use Rattle.std.specs.List.{list_any}
use Rattle.std.proofs.Common.{refl, sym, ap, ◌∙◌, arith, lt_of_lt_of_le, pow_mono, pow_pos, length-take-le, lt-ltb, le-ltb}
use Rattle.std.proofs.Math.Bool.{or-false}
use Rattle.std.proofs.Math.Nat.{mod-eq_of_lt, two-pow-succ}
use Rattle.std.proofs.lemmas.List.{length-map, map-append}
use Rattle.std.proofs.lemmas.List.Folds.{list_any-append}
use Rattle.std.proofs.lemmas.List.Sums.{fold-append}
use Rattle.refusal.specs.declared.Refusal.TheVariants.{TooManyRequirements}
use Rattle.grammar.specs.declared.Leaf.{Leaf}
use Rattle.grammar.specs.declared.Node.TheVariants as K
use Rattle.grammar.specs.declared.Node.{Node}
use Rattle.grammar.specs.Tree.{Tree, just, both, either, postfix, size}
use Rattle.grammar.specs.TreeLaws.{run_postfix, rebuilt, some_leaf}
use Rattle.licensee.specs.declared.Licensee.{Licensee}
use Rattle.licensee.specs.declared.Terms.{Terms}
use Rattle.licensee.specs.Satisfies.{satisfies, equals}
use Rattle.licensee.specs.Terms.{terms_of, offered_terms, SmallLicensee, SmallAll, same_terms, meets}
use Rattle.licensee.proofs.TermsLaws.{meets_is, equals_is}
use Rattle.masks.specs.Value.{shares, digit, push, step, run, value}
use Rattle.masks.specs.declared.Node.{Node as Masked}
use Rattle.masks.specs.declared.Node.TheVariants as M
use Rattle.minimize.specs.Minimize.{member, on_top, tree_of, wanted, found_of, places_in, satisfied, limited, unplaced, placed, few_places}
use Rattle.minimize.specs.Posed.{leaf_terms, SmallNodes, found_terms, found_places, mask_of, masked, PosesList}
use Rattle.minimize.proofs.ListLaws.{Each, each_imp, found_each, found_map, places_map, digit_lt, bits_map, bits_same, shares_member}
use Rattle.minimize.proofs.ArrayLaws.{leaves_append}

-- nodes of a tree's side, and licensees, that are small
small_append : (q r : List Node) → SmallNodes (q ++ r) → SmallNodes q × SmallNodes r
small_append [] r h = (tt, h)
small_append (x ∷ q) r h = let w = small_append q r h.1 in ((h.0, w.0), w.1)

small_sides : (q r e : List Node) → SmallNodes (q ++ (r ++ e)) → SmallNodes q × SmallNodes r
small_sides q r e h = let w = small_append q (r ++ e) h in (w.0, (small_append r e w.1).0)

small_each : (ls : List Licensee) → SmallAll ls → Each SmallLicensee ls
small_each [] h = tt
small_each (l ∷ ls) h = (h.0, small_each ls h.1)

each_small : (ls : List Licensee) → Each SmallLicensee ls → SmallAll ls
each_small [] h = tt
each_small (l ∷ ls) h = (h.0, each_small ls h.1)

-- the nodes of a tree are that tree's
pub tree_of_lem : (t : Tree Leaf) → tree_of (postfix t) ≡ Some t
unfolding tree_of
tree_of_lem t = ap on_top (run_postfix just both either t) ∙ ap Some (rebuilt t)

-- what passes among the leaves of two sides and of an operator, which is none
some_sides : (p : Terms → Bool) (a b : List Node) (o : Node) → leaf_terms (o ∷ []) ≡ []
    → list_any p (leaf_terms (a ++ (b ++ (o ∷ [])))) ≡ (list_any p (leaf_terms a) || list_any p (leaf_terms b))
some_sides p a b o e =
    let x = list_any p (leaf_terms a) in
    let y = list_any p (leaf_terms b) in
    let z : list_any p (leaf_terms (o ∷ [])) ≡ false = ap (list_any p) e in
    ap (list_any p) (leaves_append a (b ++ (o ∷ []))) ∙ list_any-append p (leaf_terms a) (leaf_terms (b ++ (o ∷ [])))
    ∙ ap (λ (c : Bool). x || c) (ap (list_any p) (leaves_append b (o ∷ [])) ∙ list_any-append p (leaf_terms b) (leaf_terms (o ∷ []))
    ∙ ap (λ (c : Bool). y || c) z ∙ or-false y)

-- the found
module _ (f s : List ℕ) where
  -- a licensee meets the terms of some leaf exactly if it satisfies some leaf
  wanted_is : (t : Tree Leaf) (l : Licensee) → SmallNodes (postfix t) → SmallLicensee l
      → list_any (meets f s (offered_terms l)) (leaf_terms (postfix t)) ≡ wanted f s t l
  unfolding wanted leaf_terms
  wanted_is (just x) l h k = rw (meets_is f s l x k h.0.0 h.0.1) (or-false (satisfies f s l x))
  wanted_is (both t u) l h k =
      let w = small_sides (postfix t) (postfix u) (K.And ∷ []) h in
      some_sides (meets f s (offered_terms l)) (postfix t) (postfix u) K.And refl ∙ rw (wanted_is t l w.0 k, wanted_is u l w.1 k)
  wanted_is (either t u) l h k =
      let w = small_sides (postfix t) (postfix u) (K.Or ∷ []) h in
      some_sides (meets f s (offered_terms l)) (postfix t) (postfix u) K.Or refl ∙ rw (wanted_is t l w.0 k, wanted_is u l w.1 k)

  pub found_is : (t : Tree Leaf) (ls : List Licensee) → SmallNodes (postfix t) → SmallAll ls
      → found_terms f s (leaf_terms (postfix t)) (map offered_terms ls) ≡ map offered_terms (found_of f s t ls)
  unfolding found_terms found_of
  found_is t ls h k =
      found_map (equals f) (wanted f s t) offered_terms (same_terms f f) (λ (l : Terms). list_any (meets f s l) (leaf_terms (postfix t)))
      SmallLicensee (equals_is f) (λ l u. wanted_is t l h u) [] ls tt (small_each ls k)

  pub places_are : (t : Tree Leaf) (ls : List Licensee) → SmallNodes (postfix t) → SmallAll ls
      → found_places f s (leaf_terms (postfix t)) (map offered_terms ls) ≡ places_in f s t ls
  unfolding found_places places_in
  places_are t ls h k =
      places_map (equals f) (wanted f s t) offered_terms (same_terms f f) (λ (l : Terms). list_any (meets f s l) (leaf_terms (postfix t)))
      SmallLicensee (equals_is f) (λ l u. wanted_is t l h u) [] ls 0 tt (small_each ls k)

  pub found_small : (t : Tree Leaf) (ls : List Licensee) → SmallAll ls → SmallAll (found_of f s t ls)
  unfolding found_of
  found_small t ls h = each_small (found_of f s t ls) (found_each (equals f) (wanted f s t) SmallLicensee [] ls tt (small_each ls h))

-- the evaluator: nodes one behind the other, and what a step makes of two answers on top
module _ (g : Node → Masked) (m : ℕ) where
  abbrev ran_by : List Node → ℕ → ℕ
  ran_by q st = run (map g q) m st

  run_append : (q r : List Node) (st : ℕ) → ran_by (q ++ r) st ≡ ran_by r (ran_by q st)
  unfolding run
  run_append q r st = rw (map-append g q r) (fold-append _ st (map g q) (map g r))

  -- one side, the other and the operator
  run_sides : (q r : List Node) (o : Node) (st : ℕ) {u v w : ℕ} → ran_by q st ≡ u → ran_by r u ≡ v → step (g o) m v ≡ w
      → ran_by (q ++ (r ++ (o ∷ []))) st ≡ w
  unfolding run
  run_sides q r o st d e h =
      run_append q (r ++ (o ∷ [])) st ∙ ap (ran_by (r ++ (o ∷ []))) d ∙ run_append r (o ∷ []) _ ∙ ap (λ (n : ℕ). step (g o) m n) e ∙ h

top_two : (x y : Bool) (st : ℕ) → ((st * 2 + digit x) * 2 + digit y) % 4 ≡ digit x * 2 + digit y
top_two x y st = omega (arith, digit_lt x, digit_lt y)

and_table : (x y : Bool) → eqb (digit x * 2 + digit y) 3 ≡ (x && y)
and_table true true = refl
and_table true false = refl
and_table false true = refl
and_table false false = refl

or_table : (x y : Bool) → not (eqb (digit x * 2 + digit y) 0) ≡ (x || y)
or_table true true = refl
or_table true false = refl
or_table false true = refl
or_table false false = refl

module _ (m : ℕ) where
  step_and : (x y : Bool) (st : ℕ) → step M.And m ((st * 2 + digit x) * 2 + digit y) ≡ st * 2 + digit (x && y)
  unfolding step
  step_and x y st = rw (top_two x y st, and_table x y) (omega (arith, digit_lt x, digit_lt y))

  step_or : (x y : Bool) (st : ℕ) → step M.Or m ((st * 2 + digit x) * 2 + digit y) ≡ st * 2 + digit (x || y)
  unfolding step
  step_or x y st = rw (top_two x y st, or_table x y) (omega (arith, digit_lt x, digit_lt y))

  -- a leaf's answer is pushed, where the stack has room
  step_leaf : (a st d : ℕ) → st < 2 ^ d → d < 64 → step (M.Leaf a) m st ≡ st * 2 + digit (shares a m)
  unfolding step push
  step_leaf a st d h room = rw (mod-eq_of_lt (lt_of_lt_of_le h (pow_mono {i = d} {j = 63} (omega arith))))

deeper : (st d : ℕ) (b : Bool) → st < 2 ^ d → st * 2 + digit b < 2 ^ suc d
deeper st d b h = rw two-pow-succ (omega (arith, digit_lt b))

module _ (f s : List ℕ) (fs : List Licensee) (small : SmallAll fs) (m : ℕ) where
  abbrev masked_in : Node → Masked
  masked_in x = masked f s (map offered_terms fs) x

  -- the mask of a leaf shares a licensee with the set exactly if a member of the set satisfies the leaf
  leaf_is : (x : Leaf) → SmallNodes (postfix (just x))
      → shares (mask_of f s (map offered_terms fs) (terms_of x.licence x.addition)) m ≡ member (λ (l : Licensee). satisfies f s l x) fs m
  unfolding mask_of
  leaf_is x h =
      let y = terms_of x.licence x.addition in
      let e = bits_map (λ (l : Terms). meets f s l y) offered_terms fs
      ∙ bits_same (λ (l : Licensee). meets f s (offered_terms l) y) (λ (l : Licensee). satisfies f s l x) fs
      (each_imp SmallLicensee _ (λ l u. meets_is f s l x u h.0.0 h.0.1) fs (small_each fs small)) in
      ap (λ (b : ℕ). shares b m) e ∙ shares_member (λ (l : Licensee). satisfies f s l x) fs m

  -- the answer of a tree is pushed, where the stack has room for its leaves
  run_tree : (t : Tree Leaf) (st d : ℕ) → SmallNodes (postfix t) → st < 2 ^ d → d + size t ≤ 64
      → ran_by masked_in m (postfix t) st ≡ st * 2 + digit (satisfied f s fs t m)
  unfolding run satisfied
  run_tree (just x) st d h b room =
      step_leaf m (mask_of f s (map offered_terms fs) (terms_of x.licence x.addition)) st d b (omega arith)
      ∙ ap (λ (q : Bool). st * 2 + digit q) (leaf_is x h)
  run_tree (both t u) st d h b room =
      let w = small_sides (postfix t) (postfix u) (K.And ∷ []) h in
      let x = satisfied f s fs t m in
      let y = satisfied f s fs u m in
      let v : suc d + size u ≤ 64 = omega (arith, some_leaf t) in
      run_sides masked_in m (postfix t) (postfix u) K.And st (run_tree t st d w.0 b (omega arith))
      (run_tree u (st * 2 + digit x) (suc d) w.1 (deeper st d x b) v) (step_and m x y st)
  run_tree (either t u) st d h b room =
      let w = small_sides (postfix t) (postfix u) (K.Or ∷ []) h in
      let x = satisfied f s fs t m in
      let y = satisfied f s fs u m in
      let v : suc d + size u ≤ 64 = omega (arith, some_leaf t) in
      run_sides masked_in m (postfix t) (postfix u) K.Or st (run_tree t st d w.0 b (omega arith))
      (run_tree u (st * 2 + digit x) (suc d) w.1 (deeper st d x b) v) (step_or m x y st)

-- the evaluator by masks is satisfaction over the tree
pub value_is : (f s : List ℕ) (t : Tree Leaf) (fs : List Licensee) → SmallNodes (postfix t) → SmallAll fs → size t ≤ 64 → (m : ℕ)
    → value (map (masked f s (map offered_terms fs)) (postfix t)) m ≡ satisfied f s fs t m
unfolding value
value_is f s t fs h k room m = rw (run_tree f s fs k m t 0 0 h (pow_pos 0) (omega arith)) (last (satisfied f s fs t m))
  where
    last : (b : Bool) → eqb ((0 * 2 + digit b) % 2) 1 ≡ b
    last true = refl
    last false = refl

-- so many places: 18, or they are the answer
module _ (ps : List ℕ) (k : ℕ) (many : length ps ≡ k) where
  places_many : 30 < k → few_places ps ≡ unplaced (TooManyRequirements k)
  unfolding few_places
  places_many h = rw (many, lt-ltb 30 k h)

  places_some : k ≤ 30 → few_places ps ≡ placed ps
  unfolding few_places
  places_some h = rw (many, le-ltb 30 k h)

-- small nodes, the terms of the licensees listed and those of the k found, whose places stand in the front of g
module _
    (f s : List ℕ) (list : List Terms) (q : List Node) (small : SmallNodes q) (found : List Terms) (k : ℕ) (g : List ℕ)
    (finds : found ≡ found_terms f s (leaf_terms q) list) (counts : length found ≡ k)
    (notes : take k g ≡ found_places f s (leaf_terms q) list) (fits : k ≤ length g)
  where
    -- where the nodes are a tree's and the terms are licensees'
    module _ (t : Tree Leaf) (nodes : q ≡ postfix t) (ls : List Licensee) (listed : list ≡ map offered_terms ls) (below : SmallAll ls) where
      terms_are : found ≡ map offered_terms (found_of f s t ls)
      terms_are = finds ∙ rw (nodes, listed) (found_is f s t ls (rw nodes at small) below)

      spots_are : take k g ≡ places_in f s t ls
      spots_are = notes ∙ rw (nodes, listed) (places_are f s t ls (rw nodes at small) below)

      many_are : k ≡ length (found_of f s t ls)
      many_are = sym counts ∙ ap length terms_are ∙ length-map (found_of f s t ls) offered_terms

    -- more than 30 are found: 18
    pub pose_many : (to : List Masked) → 30 < k → PosesList (Err (TooManyRequirements k)) f s list q to g
    unfolding limited
    pose_many to h t nodes room ls listed below =
        let n = many_are t nodes ls listed below in
        let p = spots_are t nodes ls listed below in
        rw (← n, lt-ltb 30 k h, ← p) (refl, places_many (take k g) k (length-take-le k g fits) h)

    -- 30 or fewer: the evaluator answers which sets of them satisfy
    pub pose_some : (to : List Masked) → k ≤ 30 → length q ≤ 127 → length to ≡ 127 → take (length q) to ≡ map (masked f s found) q → length g ≡ 64
        → PosesList (Ok (record { found = k; count = length q })) f s list q to g
    unfolding limited
    pose_some to h b c e size t nodes room ls listed below =
        let n = many_are t nodes ls listed below in
        let p = spots_are t nodes ls listed below in
        let w = terms_are t nodes ls listed below in
        let v = value_is f s t (found_of f s t ls) (rw nodes at small) (found_small f s t ls below) room in
        let masks : take (length q) to ≡ map (masked f s (map offered_terms (found_of f s t ls))) (postfix t) = e ∙ rw (w, nodes) in
        rw (← n, le-ltb 30 k h, ← p) (length q, refl, h, b, c, λ m. rw masks (v m), places_some (take k g) k (length-take-le k g fits) h, size)
