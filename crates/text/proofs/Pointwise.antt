-- What `==` and `starts_with` compare byte by byte is what the definitions compare.
use Rattle.std.proofs.Common.{◌≡◌, ◌∙◌, sym, refl, ap, ℕ, ◌-◌, List, [], ◌∷◌, ◌&&◌, Bool, true, false, arith, length, take, take_all}
use Rattle.std.specs.Cmp.Lexicographic.{pointwise}
use lib.Dec.{eqb}
use Rattle.text.specs.Text.{begins, same, part}

pub same_pointwise : (a b : List ℕ) → pointwise eqb a b ≡ same a b
unfolding same
same_pointwise [] [] = refl
same_pointwise [] (y ∷ b) = refl
same_pointwise (x ∷ a) [] = refl
same_pointwise (x ∷ a) (y ∷ b) = ap (λ r. eqb x y && r) (same_pointwise a b)

pub begins_pointwise : (p t : List ℕ) → pointwise eqb p (take (length p) t) ≡ begins p t
unfolding begins
begins_pointwise [] t = refl
begins_pointwise (a ∷ p) [] = refl
begins_pointwise (a ∷ p) (b ∷ t) = ap (λ r. eqb a b && r) (begins_pointwise p t)

-- the first byte, and those behind it
pub begins_apart : (p t : List ℕ) → begins p t ≡ (begins (part 0 1 p) t && begins (part 1 (length p) p) (part 1 (length t) t))
unfolding begins part
begins_apart [] t = refl
begins_apart (a ∷ p) [] = refl
begins_apart (a ∷ p) (b ∷ t) =
    let f : part 1 (length (a ∷ p)) (a ∷ p) ≡ p = take_all (length (a ∷ p) - 1) p (omega arith) in
    let g : part 1 (length (b ∷ t)) (b ∷ t) ≡ t = take_all (length (b ∷ t) - 1) t (omega arith) in
    onto (eqb a b) (begins p t)
    ∙ ap (λ (x : List ℕ). (eqb a b && true) && begins x t) (sym f)
    ∙ ap (λ (x : List ℕ). (eqb a b && true) && begins (part 1 (length (a ∷ p)) (a ∷ p)) x) (sym g)
  where
    onto : (x y : Bool) → (x && y) ≡ ((x && true) && y)
    onto true y = refl
    onto false y = refl
