-- A range of a text that is cut or written.
use Rattle.std.proofs.Common.{◌≡◌, ◌∙◌, sym, ℕ, ◌+◌, ◌<◌, List, [], ◌∷◌, ◌++◌, ap, arith, length, take, drop, drop-drop}
use Rattle.std.proofs.lemmas.List.{take-append-drop}
use Rattle.std.specs.Prelude.{min}
use Rattle.std.proofs.Math.Decide.{dec_lt}
use Rattle.text.specs.Text.{part}
use Rattle.text.specs.TextLaws.{part_past, part_none, part_rest}
use Rattle.text.specs.Overlay.{overlay}

-- one that ends where the text ends or before, and starts there where it is empty
module _ (from to : ℕ) (s : List ℕ) where
  pub part_here : (e f : ℕ) → e ≡ min to (length s) → f ≡ min from e → part f e s ≡ part from to s
  part_here e f p q = go (dec_lt from e) (dec_lt (length s) to)
    where
      go : Dec (from < e) → Dec (length s < to) → part f e s ≡ part from to s
      go (yes h) (yes k) =
          let i : f ≡ from = omega arith in
          rw i (part_rest from e s (omega arith) ∙ sym (part_rest from to s (omega arith)))
      go (yes h) (no k) =
          let i : f ≡ from = omega arith in
          let j : e ≡ to = omega arith in
          rw (i, j)
      go (no h) (yes k) = part_none f e s (omega arith) ∙ sym (part_past from to s (omega arith))
      go (no h) (no k) = part_none f e s (omega arith) ∙ sym (part_none from to s (omega arith))

-- one that is as long as p, with what stands before and behind it
pub overlay_put : {A : Type 0} (at n : ℕ) (p q b : List A) → q ≡ p → n ≡ length p → take at b ++ (q ++ drop n (drop at b)) ≡ overlay at p b
unfolding overlay
overlay_put at n p q b e h = rw (e, h) (ap (λ t. take at b ++ (p ++ t)) (drop-drop (length p) at b))

-- one that nothing is written into
pub overlay_nothing : {A : Type 0} (at : ℕ) (p b : List A) → length p ≡ 0 → overlay at p b ≡ b
unfolding overlay
overlay_nothing at [] b h = let z : at + 0 ≡ at = omega arith in rw z (take-append-drop at b)
overlay_nothing at (a ∷ p) b h = absurd (omega arith)
