-- Laws of the loops that fill the arrays: one more node, one more licensee listed, one more bit.
use Rattle.std.specs.Prelude.{ℕ, ◌+◌, ◌*◌, ◌^◌, ◌<◌, ◌≡◌, Bool, true, false, cond, not, ◌&&◌, List, [], ◌∷◌, ◌++◌, get_or, length, take}
use Rattle.std.specs.List.{list_any}
use Rattle.std.proofs.Common.{refl, sym, ap, ◌∙◌, subst, arith, append_assoc, append-nil, length-take-le}
use Rattle.std.proofs.lemmas.List.{take_more}
use Rattle.grammar.specs.declared.Node.TheVariants as K
use Rattle.grammar.specs.declared.Node.{Node}
use Rattle.grammar.specs.declared.Leaf.{Leaf}
use Rattle.licensee.specs.declared.Terms.{Terms}
use Rattle.licensee.specs.Terms.{terms_of, SmallLicence, SmallAddition, same_terms, meets}
use Rattle.masks.specs.Value.{digit}
use Rattle.minimize.specs.Posed.{own_terms, leaf_terms, SmallNode, SmallNodes, bits, found_terms, found_places, mask_of}
use Rattle.minimize.proofs.ListLaws.{found_snoc, places_snoc, bits_lt, bits_snoc}

-- the leaves of nodes one behind the other
pub leaves_append : (q r : List Node) → leaf_terms (q ++ r) ≡ leaf_terms q ++ leaf_terms r
unfolding leaf_terms
leaves_append [] r = refl
leaves_append (x ∷ q) r =
    ap (λ (l : List Terms). own_terms x ++ l) (leaves_append q r) ∙ sym (append_assoc (own_terms x) (leaf_terms q) (leaf_terms r))

small_snoc : (q : List Node) (x : Node) → SmallNodes q → SmallNode x → SmallNodes (q ++ (x ∷ []))
small_snoc [] x h k = (k, tt)
small_snoc (y ∷ q) x h k = (h.0, small_snoc q x h.1 k)

-- a node that is no leaf
no_leaf : (k : Node) → ((x : Leaf) → k ≡ K.Leaf x → ⊥) → (own_terms k ≡ []) × SmallNode k
no_leaf K.Blank n = (refl, tt)
no_leaf (K.Leaf x) n = absurd (n x refl)
no_leaf K.And n = (refl, tt)
no_leaf K.Or n = (refl, tt)

-- one more node
module _
    (nodes : List Node) (i : ℕ) (d : Node) (h : i < length nodes)
    (ts : List Terms) (e : ts ≡ leaf_terms (take i nodes)) (small : SmallNodes (take i nodes))
  where
    -- the terms of the leaves with it
    abbrev More : List Terms → Type 0
    More us = (us ≡ leaf_terms (take (i + 1) nodes)) × SmallNodes (take (i + 1) nodes)

    node_more : (us : List Terms) → own_terms (get_or nodes i d) ≡ us → SmallNode (get_or nodes i d) → More (ts ++ us)
    unfolding leaf_terms
    node_more us k s =
        let x = get_or nodes i d in
        let w : leaf_terms (x ∷ []) ≡ us = append-nil (own_terms x) ∙ k in (
          rw (e, ← w) (sym (ap leaf_terms (take_more nodes i d h) ∙ leaves_append (take i nodes) (x ∷ []))),
          subst SmallNodes (sym (take_more nodes i d h)) (small_snoc (take i nodes) x small s),
        )

    pub leaf_more : (x : Leaf) (t : Terms) → get_or nodes i d ≡ K.Leaf x → t ≡ terms_of x.licence x.addition
        → SmallLicence x.licence × SmallAddition x.addition → More (ts ++ (t ∷ []))
    leaf_more x t k u s = node_more (t ∷ []) (ap own_terms k ∙ ap (λ (z : Terms). z ∷ []) (sym u)) (subst SmallNode (sym k) s)

    pub none_more : ((x : Leaf) → get_or nodes i d ≡ K.Leaf x → ⊥) → More ts
    none_more n = let w = no_leaf _ n in subst More (append-nil ts) (node_more [] w.0 w.1)

-- one more licensee listed: it is found where it is wanted and not known
module _
    (f s : List ℕ) (xs list : List Terms) (i : ℕ) (d : Terms) (h : i < length list)
    (fs : List Terms) (e : fs ≡ found_terms f s xs (take i list)) (ps : List ℕ) (p : ps ≡ found_places f s xs (take i list))
  where
    abbrev x : Terms
    x = get_or list i d

    abbrev is_wanted : Bool
    is_wanted = list_any (meets f s x) xs

    abbrev is_known : Bool
    is_known = list_any (same_terms f f x) fs

    abbrev wants : Terms → Bool
    wants y = list_any (meets f s y) xs

    found_next : found_terms f s xs (take (i + 1) list) ≡ cond (is_wanted && not is_known) (fs ++ (x ∷ [])) fs
    unfolding found_terms
    found_next =
        ap (found_terms f s xs) (take_more list i d h) ∙ found_snoc (same_terms f f) wants [] (take i list) x
        ∙ ap (λ (q : List Terms). cond (is_wanted && not (list_any (same_terms f f x) q)) (q ++ (x ∷ [])) q) (sym e)

    places_next : found_places f s xs (take (i + 1) list) ≡ ps ++ cond (is_wanted && not is_known) (i ∷ []) []
    unfolding found_terms found_places
    places_next =
        let n : i ≡ 0 + length (take i list) = omega (arith, length-take-le i list (omega arith)) in
        ap (found_places f s xs) (take_more list i d h) ∙ places_snoc (same_terms f f) wants [] (take i list) 0 i x n
        ∙ ap (λ (q : List Terms). found_places f s xs (take i list) ++ cond (is_wanted && not (list_any (same_terms f f x) q)) (i ∷ []) []) (sym e)
        ∙ ap (λ (q : List ℕ). q ++ cond (is_wanted && not is_known) (i ∷ []) []) (sym p)

    -- the found and their places with it
    abbrev Next : List Terms → List ℕ → Type 0
    Next ts qs = (ts ≡ found_terms f s xs (take (i + 1) list)) × (qs ≡ found_places f s xs (take (i + 1) list))

    next_kept : (is_wanted && not is_known) ≡ false → Next fs ps
    next_kept n = (sym (found_next ∙ rw n), sym (places_next ∙ rw n (append-nil ps)))

    pub found_new : is_wanted ≡ true → is_known ≡ false → Next (fs ++ (x ∷ [])) (ps ++ (i ∷ []))
    found_new w n = (sym (found_next ∙ rw (w, n)), sym (places_next ∙ rw (w, n)))

    pub found_known : is_wanted ≡ true → is_known ≡ true → Next fs ps
    found_known w n = next_kept (rw (w, n))

    pub found_unwanted : is_wanted ≡ false → Next fs ps
    found_unwanted w = next_kept (rw w)

-- one more bit
module _ (f s : List ℕ) (x : Terms) (found : List Terms) (i : ℕ) (d : Terms) (h : i < length found) (m : ℕ) (e : m ≡ mask_of f s (take i found) x) where
  pub mask_below : m < 2 ^ i
  unfolding mask_of
  mask_below =
      let n = length-take-le i found (omega arith) in
      subst (λ (k : ℕ). k < 2 ^ i) (sym e) (rw n at (bits_lt (λ (l : Terms). meets f s l x) (take i found)))

  mask_next : mask_of f s (take (i + 1) found) x ≡ m + digit (meets f s (get_or found i d) x) * 2 ^ i
  unfolding mask_of
  mask_next =
      let p = λ (l : Terms). meets f s l x in
      ap (bits p) (take_more found i d h) ∙ bits_snoc p (take i found) (get_or found i d) ∙ rw (length-take-le i found (omega arith), e)

  pub mask_on : meets f s (get_or found i d) x ≡ true → m + 2 ^ i ≡ mask_of f s (take (i + 1) found) x
  mask_on t =
      let w : digit (meets f s (get_or found i d) x) * 2 ^ i ≡ 2 ^ i = rw t (omega arith) in
      omega (arith, mask_next)

  pub mask_off : meets f s (get_or found i d) x ≡ false → m ≡ mask_of f s (take (i + 1) found) x
  mask_off t =
      let w : digit (meets f s (get_or found i d) x) * 2 ^ i ≡ 0 = rw t (omega arith) in
      omega (arith, mask_next)
