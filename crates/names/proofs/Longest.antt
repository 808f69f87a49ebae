-- The longest imprecise name that begins a text is the last one in the table that does: of two such names the longer extends the shorter.
use Rattle.std.specs.Prelude.{◌≡◌, ◌⊎◌, true, false, List, [], ◌∷◌, Option, None}
use Rattle.std.proofs.Math.Path.{refl, ap}
use Rattle.std.proofs.Common.{sym, ◌∙◌, inl, inr, eq-or-lt_of_le, add-suc}
use Rattle.std.proofs.Math.Bool.{true≢false}
use Prim.Native.Nat.{ℕ, zero, suc, ◌+◌, ◌-◌, ◌≤◌, ◌<◌}
use Rattle.std.proofs.Math.Decide.{dec_lt}
use native.Mathlib.Omega.{arith}
use Rattle.std.proofs.Math.ListN.{length, take}
use Rattle.text.specs.Text.{begins}
use Rattle.text.specs.TextLaws.{begins_length, begins_take, begins_front}
use Rattle.names.specs.Listed.{imprecise}
use Rattle.names.specs.Lookup.{bytes_at, imprecise_texts, stands_for, stood, hit, longest, imprecise_of}
use Rattle.names.specs.OrderLaws.{Below, shorter, rest, below_trans, below_irrefl}
use Rattle.names.specs.Rules.{imprecise_ascend, ascending_below, found, absent}
use Rattle.names.specs.Shape.{imprecise_texts_lem, imprecise_proper}

-- a shorter front stands before a longer one
front_below : (m n : ℕ) (t : List ℕ) → m < n → n ≤ length t → Below (take m t) (take n t)
front_below m zero t h l = absurd (omega arith)
front_below m (suc n) [] h l = absurd (omega arith)
front_below zero (suc n) (b ∷ t) h l = shorter
front_below (suc m) (suc n) (b ∷ t) h l = rest refl (front_below m n t (omega arith) (omega arith))

module _ (t : List ℕ) where
  -- the name at i is the front of the text of that length
  front_name : (i n : ℕ) → bytes_at imprecise_texts i ≡ take n t → begins (bytes_at imprecise_texts i) t ≡ true
  front_name i n e = ap (λ (r : List ℕ). begins r t) e ∙ begins_front n t

  -- one length down where no name is the front
  down : (m : ℕ) → ((k : ℕ) → k < length imprecise → bytes_at imprecise_texts k ≡ take (suc m) t → ⊥) → longest (suc m) t ≡ longest m t
  unfolding longest
  down m f =
      ap (λ (r : Option ℕ). hit (suc m) r (longest m t))
      (absent imprecise_texts (take (suc m) t) (λ k h e. f k (omega (arith, imprecise_texts_lem)) e))

  -- where no imprecise name begins the text, none is found
  pub longest_none : ((j : ℕ) → j < length imprecise → begins (bytes_at imprecise_texts j) t ≡ false) → imprecise_of t ≡ None
  unfolding imprecise_of longest
  longest_none f = go (length t)
    where
      go : (m : ℕ) → longest m t ≡ None
      go zero = refl
      go (suc m) = down m (λ k h e. true≢false (sym (front_name k (suc m) e) ∙ f k h)) ∙ go m

  -- where it is the last that begins the text, the name at i is the longest
  module _ (i : ℕ) (h : i < length imprecise) (b : begins (bytes_at imprecise_texts i) t ≡ true)
      (f : (j : ℕ) → i < j → j < length imprecise → begins (bytes_at imprecise_texts j) t ≡ false) where
    abbrev n : ℕ
    n = length (bytes_at imprecise_texts i)

    -- a longer front is no name: it would stand after i
    longer : (m : ℕ) → n < m → m ≤ length t → (k : ℕ) → k < length imprecise → bytes_at imprecise_texts k ≡ take m t → ⊥
    longer m g l k q e = go (dec_lt i k)
      where
        over : Below (bytes_at imprecise_texts i) (bytes_at imprecise_texts k)
        over = rw (e, ← begins_take (bytes_at imprecise_texts i) t b) (front_below n m t g l)

        under : k ≤ i → ⊥
        under w = pick (eq-or-lt_of_le w)
          where
            pick : (k ≡ i) ⊎ (k < i) → ⊥
            pick (inl z) = below_irrefl over (ap (bytes_at imprecise_texts) (sym z))
            pick (inr z) =
                below_irrefl
                (below_trans over (ascending_below imprecise_texts imprecise_ascend k i z (omega (arith, imprecise_texts_lem)))) refl

        go : Dec (i < k) → ⊥
        go (yes w) = true≢false (sym (front_name k m e) ∙ f k w q)
        go (no w) = under (omega arith)

    start : (m : ℕ) → n ≡ m → longest m t ≡ stood m (stands_for i)
    unfolding longest
    start zero e = absurd (omega (arith, (imprecise_proper i h).long))
    start (suc m) e =
        ap (λ (r : Option ℕ). hit (suc m) r (longest m t))
        (found imprecise_texts (take (suc m) t) i imprecise_ascend (omega (arith, imprecise_texts_lem))
        (sym (begins_take (bytes_at imprecise_texts i) t b) ∙ ap (λ (l : ℕ). take l t) e))

    climb : (d : ℕ) → n + d ≤ length t → longest (n + d) t ≡ stood n (stands_for i)
    climb zero l = let e : n + 0 ≡ n = omega arith in ap (λ (m : ℕ). longest m t) e ∙ start n refl
    climb (suc d) l =
        ap (λ (m : ℕ). longest m t) (add-suc n d)
        ∙ down (n + d) (longer (suc (n + d)) (omega arith) (omega arith))
        ∙ climb d (omega arith)

    pub longest_last : imprecise_of t ≡ stood (length (bytes_at imprecise_texts i)) (stands_for i)
    unfolding imprecise_of
    longest_last =
        let g = begins_length (bytes_at imprecise_texts i) t b in
        let e : length t ≡ n + (length t - n) = omega arith in
        ap (λ (m : ℕ). longest m t) e ∙ climb (length t - n) (omega arith)
