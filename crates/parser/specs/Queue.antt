-- The nodes so far: how many there are, how many of them are leaves, and the array that holds them, filled from the front. The proofs'
-- machinery, nothing to believe.
use Rattle.std.specs.Prelude.{ℕ, zero, suc, ◌+◌, ◌-◌, ◌≤◌, ◌<◌, ◌≡◌, refl, List, [], ◌∷◌, ◌++◌, length, set, replicate}
use Rattle.std.proofs.Common.{sym, ap, ◌∙◌, append_assoc, arith, length-append}
use Rattle.std.proofs.Math.Seq.{set-append_seam}
use Rattle.grammar.specs.declared.Node.TheVariants as K
use Rattle.grammar.specs.declared.Node.{Node}
use Rattle.grammar.specs.Tree.{is_leaf, leaves}
use Rattle.grammar.specs.Grammar.{blank, padded}
use Rattle.parser.specs.Zipper.{one}

leaf_le : (k : Node) (n m : ℕ) → n ≤ m → is_leaf k n ≤ suc m
leaf_le K.Blank n m h = omega arith
leaf_le (K.Leaf l) n m h = omega arith
leaf_le K.And n m h = omega arith
leaf_le K.Or n m h = omega arith

pub leaves_le : (q : List Node) → leaves q ≤ length q
leaves_le [] = omega arith
leaves_le (x ∷ q) = leaf_le x (leaves q) (length q) (leaves_le q)

leaf_add : (k : Node) (n m : ℕ) → is_leaf k (n + m) ≡ is_leaf k n + m
leaf_add K.Blank n m = refl
leaf_add (K.Leaf l) n m = omega arith
leaf_add K.And n m = refl
leaf_add K.Or n m = refl

-- one node more
pub leaves_one : (q : List Node) (k : Node) → leaves (q ++ one k) ≡ leaves q + is_leaf k 0
leaves_one [] k = omega arith
leaves_one (x ∷ q) k = ap (is_leaf x) (leaves_one q k) ∙ leaf_add x (leaves q) (is_leaf k 0)

pub length_one : (q : List Node) (x : Node) → length (q ++ (x ∷ [])) ≡ length q + 1
length_one q x = length-append q (x ∷ [])

pad_more : (n : ℕ) → n < 127 → replicate (127 - n) blank ≡ blank ∷ replicate (127 - (n + 1)) blank
pad_more n h = ap (λ (x : ℕ). replicate x blank) (let e : 127 - n ≡ suc (127 - (n + 1)) = omega arith in e)

-- a store behind the last node, and a store in its place
pub pad_store : (q : List Node) (n : ℕ) (x : Node) → n ≡ length q → n < 127 → set (padded q) n x ≡ padded (q ++ (x ∷ []))
pad_store q n x e h =
    ap (λ (i : ℕ). set (padded q) i x) e
    ∙ ap (λ (r : List Node). set (q ++ r) (length q) x) (pad_more (length q) (omega arith))
    ∙ set-append_seam q blank (replicate (127 - (length q + 1)) blank) x
    ∙ sym (append_assoc q (x ∷ []) (replicate (127 - (length q + 1)) blank))
    ∙ ap (λ (i : ℕ). (q ++ (x ∷ [])) ++ replicate (127 - i) blank) (sym (length_one q x))

pub pad_again : (q : List Node) (n : ℕ) (x y : Node) → n ≡ length q → set (padded (q ++ (x ∷ []))) n y ≡ padded (q ++ (y ∷ []))
pad_again q n x y e =
    let rest = replicate (127 - length (q ++ (x ∷ []))) blank in
    ap (λ (i : ℕ). set (padded (q ++ (x ∷ []))) i y) e
    ∙ ap (λ (l : List Node). set l (length q) y) (append_assoc q (x ∷ []) rest)
    ∙ set-append_seam q x rest y
    ∙ sym (append_assoc q (y ∷ []) rest)
    ∙ ap (λ (i : ℕ). (q ++ (y ∷ [])) ++ replicate (127 - i) blank) (length_one q x ∙ sym (length_one q y))

-- a blank that is stored among blanks
pub blank_again : (n i : ℕ) → set (replicate n blank) i blank ≡ replicate n blank
blank_again zero i = refl
blank_again (suc n) zero = refl
blank_again (suc n) (suc i) = ap (λ (l : List Node). blank ∷ l) (blank_again n i)
