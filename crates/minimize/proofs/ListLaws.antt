-- Laws of lists: what passes, what is found, and the mask of those that pass.
use Prim.Native.Nat.{ℕ, zero, suc, ◌+◌, ◌*◌, ◌/◌, ◌%◌, ◌^◌, ◌≤◌, ◌<◌, min}
use Rattle.std.specs.Prelude.{◌≡◌, ◌&&◌, ◌||◌}
use Rattle.std.proofs.Math.Path.{refl, sym, ap}
use Rattle.std.proofs.Common.{◌∙◌, subst, mul-add, eq-eqb, ne_eqb, eqb-true}
use Rattle.std.proofs.Math.Bool.{Bool, true, false, cond, not}
use mathlib.Core.List.{List, [], ◌∷◌, ◌++◌, map, map-append, append_assoc, append-nil}
use native.Mathlib.Omega.{arith}
use Rattle.std.proofs.Math.Nat.{two-pow-succ}
use Rattle.std.specs.Int.Bits.{bit_and, and_step}
use Rattle.std.proofs.Math.Dec.{eqb}
use Rattle.std.proofs.Math.ListN.{length, get_or, length-append}
use Rattle.std.proofs.lemmas.List.{length-map}
use Rattle.std.proofs.lemmas.Bool.{eqb-false}
use Rattle.masks.specs.Value.{shares, digit}
use Rattle.std.specs.List.{list_any}
use Rattle.minimize.specs.Minimize.{found_after, found_at, member}
use Rattle.minimize.specs.Posed.{bits}

-- P holds of each of the list
abbrev pub Each : {A : Type 0} → (A → Type 0) → List A → Type 0
Each P [] = Unit {0}
Each P (x ∷ l) = P x × Each P l

pub each_append : {A : Type 0} (P : A → Type 0) (l r : List A) → Each P l → Each P r → Each P (l ++ r)
each_append P [] r a b = b
each_append P (x ∷ l) r a b = (a.0, each_append P l r a.1 b)

-- with one more, or without
each_kept : {A : Type 0} (P : A → Type 0) (t : Bool) (l : List A) (x : A) → Each P l → P x → Each P (cond t (l ++ (x ∷ [])) l)
each_kept P true l x a h = each_append P l (x ∷ []) a (h, tt)
each_kept P false l x a h = a

pub each_imp : {A : Type 0} (P Q : A → Type 0) → ((x : A) → P x → Q x) → (l : List A) → Each P l → Each Q l
each_imp P Q h [] a = tt
each_imp P Q h (x ∷ l) a = (h x a.0, each_imp P Q h l a.1)

-- what passes
module _ {A : Type 0} (p : A → Bool) where
  pub some_map : {B : Type 0} (g : B → A) (l : List B) → list_any p (map g l) ≡ list_any (λ (x : B). p (g x)) l
  some_map g [] = refl
  some_map g (x ∷ l) = ap (λ (b : Bool). p (g x) || b) (some_map g l)

  pub some_same : (q : A → Bool) (l : List A) → Each (λ (x : A). p x ≡ q x) l → list_any p l ≡ list_any q l
  some_same q [] a = refl
  some_same q (x ∷ l) a = let h : list_any p l ≡ list_any q l = some_same q l a.1 in ap (λ (b : Bool). p x || b) h ∙ ap (λ (b : Bool). b || list_any q l) a.0

-- what is found
module _ {A : Type 0} (same : A → A → Bool) (wanted : A → Bool) where
  pub found_append : (fs l r : List A) → found_after same wanted fs (l ++ r) ≡ found_after same wanted (found_after same wanted fs l) r
  unfolding found_after
  found_append fs [] r = refl
  found_append fs (x ∷ l) r = found_append (cond (wanted x && not (list_any (same x) fs)) (fs ++ (x ∷ [])) fs) l r

  -- one more of the list: found or passed over
  pub found_snoc : (fs l : List A) (x : A) → found_after same wanted fs (l ++ (x ∷ []))
      ≡ cond (wanted x && not (list_any (same x) (found_after same wanted fs l))) (found_after same wanted fs l ++ (x ∷ [])) (found_after same wanted fs l)
  unfolding found_after
  found_snoc fs l x = found_append fs l (x ∷ [])

  pub found_length : (fs l : List A) → length (found_after same wanted fs l) ≤ length fs + length l
  unfolding found_after
  found_length fs [] = omega arith
  found_length fs (x ∷ l) = go (wanted x && not (list_any (same x) fs)) (λ gs. found_length gs l)
    where
      go : (b : Bool) → ((gs : List A) → length (found_after same wanted gs l) ≤ length gs + length l)
          → length (found_after same wanted (cond b (fs ++ (x ∷ [])) fs) l) ≤ length fs + suc (length l)
      go true h = omega (arith, h (fs ++ (x ∷ [])), length-append fs (x ∷ []))
      go false h = omega (arith, h fs)

  -- what holds of all holds of the found
  pub found_each : (P : A → Type 0) (fs l : List A) → Each P fs → Each P l → Each P (found_after same wanted fs l)
  unfolding found_after
  found_each P fs [] a b = a
  found_each P fs (x ∷ l) a b =
      let t : Bool = wanted x && not (list_any (same x) fs) in
      found_each P (cond t (fs ++ (x ∷ [])) fs) l (each_kept P t fs x a b.0) b.1

  -- one more of the list: its place n is the next, or it has none
  pub places_snoc : (fs l : List A) (i n : ℕ) (x : A) → n ≡ i + length l → found_at same wanted fs i (l ++ (x ∷ []))
      ≡ found_at same wanted fs i l ++ cond (wanted x && not (list_any (same x) (found_after same wanted fs l))) (n ∷ []) []
  unfolding found_after found_at
  places_snoc fs [] i n x e =
      let h : i ≡ n = omega arith in
      ap (λ (m : ℕ). cond (wanted x && not (list_any (same x) fs)) (m ∷ []) []) h
  places_snoc fs (y ∷ l) i n x e = go (wanted y && not (list_any (same y) fs)) (λ gs. places_snoc gs l (i + 1) n x (omega arith))
    where
      last : List A → List ℕ
      last gs = cond (wanted x && not (list_any (same x) (found_after same wanted gs l))) (n ∷ []) []

      go : (b : Bool) → ((gs : List A) → found_at same wanted gs (i + 1) (l ++ (x ∷ [])) ≡ found_at same wanted gs (i + 1) l ++ last gs)
          → cond b (i ∷ found_at same wanted (fs ++ (y ∷ [])) (i + 1) (l ++ (x ∷ []))) (found_at same wanted fs (i + 1) (l ++ (x ∷ [])))
          ≡ cond b (i ∷ found_at same wanted (fs ++ (y ∷ [])) (i + 1) l) (found_at same wanted fs (i + 1) l) ++ last (cond b (fs ++ (y ∷ [])) fs)
      go true h = ap (λ (q : List ℕ). i ∷ q) (h (fs ++ (y ∷ [])))
      go false h = h fs

  -- where g gives what stands at each place from i on, it gives the found at their places
  places_read : (d : A) (g : ℕ → A) (fs l : List A) (i : ℕ) → ((j n : ℕ) → n ≡ i + j → j < length l → g n ≡ get_or l j d)
      → found_after same wanted fs l ≡ fs ++ map g (found_at same wanted fs i l)
  unfolding found_after found_at
  places_read d g fs [] i h = sym (append-nil fs)
  places_read d g fs (x ∷ l) i h =
      go (wanted x && not (list_any (same x) fs)) (λ gs. places_read d g gs l (i + 1) (λ j n e b. h (suc j) n (omega arith) (omega arith)))
    where
      go : (b : Bool) → ((gs : List A) → found_after same wanted gs l ≡ gs ++ map g (found_at same wanted gs (i + 1) l))
          → found_after same wanted (cond b (fs ++ (x ∷ [])) fs) l
          ≡ fs ++ map g (cond b (i ∷ found_at same wanted (fs ++ (x ∷ [])) (i + 1) l) (found_at same wanted fs (i + 1) l))
      go true k =
          let rest = map g (found_at same wanted (fs ++ (x ∷ [])) (i + 1) l) in
          k (fs ++ (x ∷ [])) ∙ append_assoc fs (x ∷ []) rest ∙ ap (λ (y : A). fs ++ (y ∷ rest)) (sym (h 0 i (omega arith) (omega arith)))
      go false k = k fs

  -- what stands at the places of the found is the found, and so they are as many
  pub found_places_lem : (d : A) (l : List A) → map (λ (i : ℕ). get_or l i d) (found_at same wanted [] 0 l) ≡ found_after same wanted [] l
  found_places_lem d l = sym (places_read d (λ (i : ℕ). get_or l i d) [] l 0 (λ j n e b. let h : n ≡ j = omega arith in ap (λ (m : ℕ). get_or l m d) h))

  pub places_length : (l : List A) → length (found_at same wanted [] 0 l) ≡ length (found_after same wanted [] l)
  places_length [] = unfold found_at found_after in refl
  places_length (x ∷ l) =
      sym (length-map (found_at same wanted [] 0 (x ∷ l)) (λ (i : ℕ). get_or (x ∷ l) i x)) ∙ ap length (found_places_lem x (x ∷ l))

  -- the same seen otherwise: of what P holds, `alike` and `asked` say the same of its images
  module _
      {B : Type 0} (g : A → B) (alike : B → B → Bool) (asked : B → Bool) (P : A → Type 0)
      (s : (x y : A) → P x → P y → alike (g x) (g y) ≡ same x y) (w : (x : A) → P x → asked (g x) ≡ wanted x)
    where
      test : (fs : List A) (x : A) → Each P fs → P x
          → (asked (g x) && not (list_any (alike (g x)) (map g fs))) ≡ (wanted x && not (list_any (same x) fs))
      test fs x a h = ap (λ (c : Bool). c && not (list_any (alike (g x)) (map g fs))) (w x h) ∙ ap (λ (c : Bool). wanted x && not c) known
        where
          known : list_any (alike (g x)) (map g fs) ≡ list_any (same x) fs
          known = some_map (alike (g x)) g fs ∙ some_same (λ (y : A). alike (g x) (g y)) (same x) fs (each_imp P _ (λ y k. s x y h k) fs a)

      pub found_map : (fs l : List A) → Each P fs → Each P l → found_after alike asked (map g fs) (map g l) ≡ map g (found_after same wanted fs l)
      unfolding found_after
      found_map fs [] a b = refl
      found_map fs (x ∷ l) a b =
          let t : Bool = wanted x && not (list_any (same x) fs) in
          ap (λ (k : List B). found_after alike asked k (map g l)) (step t (test fs x a b.0))
          ∙ found_map (cond t (fs ++ (x ∷ [])) fs) l (each_kept P t fs x a b.0) b.1
        where
          step : (t : Bool) → (asked (g x) && not (list_any (alike (g x)) (map g fs))) ≡ t
              → cond (asked (g x) && not (list_any (alike (g x)) (map g fs))) (map g fs ++ (g x ∷ [])) (map g fs) ≡ map g (cond t (fs ++ (x ∷ [])) fs)
          step true e = ap (λ (c : Bool). cond c (map g fs ++ (g x ∷ [])) (map g fs)) e ∙ sym (map-append g fs (x ∷ []))
          step false e = ap (λ (c : Bool). cond c (map g fs ++ (g x ∷ [])) (map g fs)) e

      pub places_map : (fs l : List A) (i : ℕ) → Each P fs → Each P l → found_at alike asked (map g fs) i (map g l) ≡ found_at same wanted fs i l
      unfolding found_at
      places_map fs [] i a b = refl
      places_map fs (x ∷ l) i a b =
          let t = test fs x a b.0 in
          let new : found_at alike asked (map g fs ++ (g x ∷ [])) (i + 1) (map g l) ≡ found_at same wanted (fs ++ (x ∷ [])) (i + 1) l =
          ap (λ (k : List B). found_at alike asked k (i + 1) (map g l)) (sym (map-append g fs (x ∷ [])))
          ∙ places_map (fs ++ (x ∷ [])) l (i + 1) (each_append P fs (x ∷ []) a (b.0, tt)) b.1 in
          let old : found_at alike asked (map g fs) (i + 1) (map g l) ≡ found_at same wanted fs (i + 1) l = places_map fs l (i + 1) a b.1 in
          cc

-- the mask of those that pass
pub digit_lt : (b : Bool) → digit b < 2
digit_lt true = omega arith
digit_lt false = omega arith

-- a set shares a licensee with those that pass exactly if a member of it passes
positive : (w : ℕ) → eqb w 0 ≡ false → 0 < w
positive zero e = absurd (eqb-false 0 0 e refl)
positive (suc w) e = omega arith

shares_step : (b : Bool) (a m : ℕ) → shares (digit b + a * 2) m ≡ ((b && eqb (m % 2) 1) || shares a (m / 2))
unfolding shares
shares_step b a m =
    let q : (digit b + a * 2) / 2 ≡ a = omega (arith, digit_lt b) in
    let r : (digit b + a * 2) % 2 ≡ digit b = omega (arith, digit_lt b) in
    table b (bit_and a (m / 2)) (m % 2) (bit_and (digit b + a * 2) m) (omega arith)
    (subst (λ (x : ℕ). bit_and (digit b + a * 2) m ≡ bit_and x (m / 2) * 2 + min (digit b) (m % 2)) q
    (subst (λ (x : ℕ). bit_and (digit b + a * 2) m ≡ bit_and ((digit b + a * 2) / 2) (m / 2) * 2 + min x (m % 2)) r
    (and_step (digit b + a * 2) m)))
  where
    table : (b : Bool) (w t v : ℕ) → t < 2 → v ≡ w * 2 + min (digit b) t → not (eqb v 0) ≡ ((b && eqb t 1) || not (eqb w 0))
    table b w t v h e = go b (eqb t 1) refl (eqb w 0) refl e
      where
        pos : 0 < v → not (eqb v 0) ≡ true
        pos q = ap not (ne_eqb v 0 (λ z. omega arith))

        none : v ≡ 0 → not (eqb v 0) ≡ false
        none q = ap not (eq-eqb v 0 q)

        go : (b q : Bool) → eqb t 1 ≡ q → (r : Bool) → eqb w 0 ≡ r → v ≡ w * 2 + min (digit b) t → not (eqb v 0) ≡ ((b && q) || not r)
        go true true x r y e = pos (omega (arith, eqb-true t 1 x))
        go true false x true y e = none (omega (arith, not_one t x, eqb-true w 0 y))
          where
            not_one : (t : ℕ) → eqb t 1 ≡ false → t ≡ 1 → ⊥
            not_one t x q = eqb-false t 1 x q
        go true false x false y e = pos (omega (arith, positive w y))
        go false q x true y e = none (omega (arith, eqb-true w 0 y))
        go false q x false y e = pos (omega (arith, positive w y))

module _ {A : Type 0} (p : A → Bool) where
  pub bits_lt : (l : List A) → bits p l < 2 ^ length l
  unfolding bits
  bits_lt [] = omega arith
  bits_lt (x ∷ l) = rw (two-pow-succ (length l)) (omega (arith, bits_lt l, digit_lt (p x)))

  -- one more at the end is one more bit at the top
  pub bits_snoc : (l : List A) (x : A) → bits p (l ++ (x ∷ [])) ≡ bits p l + digit (p x) * 2 ^ length l
  unfolding bits
  bits_snoc [] x = omega arith
  bits_snoc (y ∷ l) x =
      let d = digit (p x) in
      let e : d * 2 ^ suc (length l) ≡ d * 2 ^ length l + d * 2 ^ length l = rw (two-pow-succ (length l)) (mul-add d (2 ^ length l) (2 ^ length l)) in
      omega (arith, bits_snoc l x, e)

  pub bits_map : {B : Type 0} (g : B → A) (l : List B) → bits p (map g l) ≡ bits (λ (x : B). p (g x)) l
  unfolding bits
  bits_map g [] = refl
  bits_map g (x ∷ l) = ap (λ (n : ℕ). digit (p (g x)) + n * 2) (bits_map g l)

  pub bits_same : (q : A → Bool) (l : List A) → Each (λ (x : A). p x ≡ q x) l → bits p l ≡ bits q l
  unfolding bits
  bits_same q [] a = refl
  bits_same q (x ∷ l) a = let h : bits p l ≡ bits q l = bits_same q l a.1 in ap (λ (n : ℕ). digit (p x) + n * 2) h ∙ ap (λ (b : Bool). digit b + bits q l * 2) a.0

  pub shares_member : (l : List A) (m : ℕ) → shares (bits p l) m ≡ member p l m
  unfolding bits member
  shares_member [] m = unfold shares in refl
  shares_member (x ∷ l) m = shares_step (p x) (bits p l) m ∙ ap (λ (b : Bool). (p x && eqb (m % 2) 1) || b) (shares_member l (m / 2))
