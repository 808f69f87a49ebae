-- Laws of the order of runs: it is strict and transitive, it is the order of texts, and a loop along two runs finds it.
use Rattle.std.specs.Prelude.{◌≡◌, refl, List, [], ◌∷◌, length, get_or, drop}
use Rattle.std.proofs.Common.{sym, ◌∙◌, subst, lt_trans, lt_irrefl, add-one, arith, eq-eqb, eqb-true, leb-true, leb-false}
use Rattle.std.proofs.Math.Path.{ap}
use Rattle.std.proofs.lemmas.Bool.{false≢true}
use Prim.Native.Nat.{ℕ, suc, ◌+◌, ◌≤◌, ◌<◌, compare, Ordering}
use Prim.Native.Char.{Char, code}
use Prim.Native.String.compare
use Prim.Native.String.{
  String,
  [] as []ˢ,
  ◌∷◌ as ◌∷ˢ◌,
  compare as compareˢ,
  then,
}
use Rattle.std.proofs.Math.Dec.{is_le, compare_is_eq}
use Rattle.std.proofs.Math.ListN.{drop_of_length-le}
use Rattle.std.proofs.Math.Seq.{drop-cons}
use Rattle.text.specs.Text.{ascii}
use Rattle.std.specs.declared.cmp.Ordering as Cmp
use Rattle.std.specs.declared.cmp.Ordering.TheVariants.{Less, Equal, Greater}
use Rattle.names.specs.Order.{order, onward}

clash : {A : Type 0} → ◌≡◌ {A = ℕ} 0 1 → A
clash z = absurd (omega arith)

-- the three answers of a comparison, as facts
compare_lt : (a b : ℕ) → a < b → compare a b ≡ Ordering.lt
compare_lt a b h = go (compare a b) refl
  where
    go : (o : Ordering) → compare a b ≡ o → o ≡ Ordering.lt
    go Ordering.lt e = refl
    go Ordering.eq e = let g : a ≡ b = eqb-true a b (ap compare_is_eq e) in absurd (omega arith)
    go Ordering.gt e = let g : b < a = leb-false a b (ap is_le e) in absurd (omega arith)

compare_gt : (a b : ℕ) → b < a → compare a b ≡ Ordering.gt
compare_gt a b h = go (compare a b) refl
  where
    go : (o : Ordering) → compare a b ≡ o → o ≡ Ordering.gt
    go Ordering.lt e = let g : a ≤ b = leb-true a b (ap is_le e) in absurd (omega arith)
    go Ordering.eq e = let g : a ≡ b = eqb-true a b (ap compare_is_eq e) in absurd (omega arith)
    go Ordering.gt e = refl

compare_eq : (a b : ℕ) → a ≡ b → compare a b ≡ Ordering.eq
compare_eq a b h = go (compare a b) refl
  where
    go : (o : Ordering) → compare a b ≡ o → o ≡ Ordering.eq
    go Ordering.lt e = absurd (false≢true (sym (ap compare_is_eq e) ∙ eq-eqb a b h))
    go Ordering.eq e = refl
    go Ordering.gt e = let g : b < a = leb-false a b (ap is_le e) in absurd (omega arith)

less_byte : (a b : ℕ) → compare a b ≡ Ordering.lt → a < b
less_byte a b e = go (leb-true a b (ap is_le e)) (λ q. unequal q)
  where
    unequal : a ≡ b → ⊥
    unequal q = clash (let z : Ordering.lt ≡ Ordering.eq = sym e ∙ compare_eq a b q in cc)

    go : a ≤ b → (a ≡ b → ⊥) → a < b
    go l n = omega arith

-- one byte further
module _ (x y : ℕ) (xs ys : List ℕ) where
  pub order_lt : x < y → order (x ∷ xs) (y ∷ ys) ≡ Less
  unfolding order
  order_lt h = ap (λ (o : Ordering). onward o (order xs ys)) (compare_lt x y h)

  pub order_gt : y < x → order (x ∷ xs) (y ∷ ys) ≡ Greater
  unfolding order
  order_gt h = ap (λ (o : Ordering). onward o (order xs ys)) (compare_gt x y h)

  pub order_eq : x ≡ y → order (x ∷ xs) (y ∷ ys) ≡ order xs ys
  unfolding order
  order_eq h = ap (λ (o : Ordering). onward o (order xs ys)) (compare_eq x y h)

-- the order as a relation
pub data Below : List ℕ → List ℕ → Type 0 where
  shorter : {y : ℕ} {ys : List ℕ} → Below [] (y ∷ ys)
  first : {x y : ℕ} {xs ys : List ℕ} → x < y → Below (x ∷ xs) (y ∷ ys)
  rest : {x y : ℕ} {xs ys : List ℕ} → x ≡ y → Below xs ys → Below (x ∷ xs) (y ∷ ys)

pub below_trans : {a b c : List ℕ} → Below a b → Below b c → Below a c
below_trans shorter (first h) = shorter
below_trans shorter (rest e h) = shorter
below_trans (first g) (first h) = first (lt_trans g h)
below_trans (first {x = x} g) (rest e h) = first (subst (λ (n : ℕ). x < n) e g)
below_trans (rest {x = x} e g) (first {y = y} h) = first (subst (λ (n : ℕ). n < y) (sym e) h)
below_trans (rest e g) (rest f h) = rest (e ∙ f) (below_trans g h)

-- no run stands before itself
itself : (a : List ℕ) → Below a a → ⊥
itself [] h = elim h [ ]
itself (x ∷ xs) (first h) = lt_irrefl x h
itself (x ∷ xs) (rest e h) = itself xs h

pub below_irrefl : {a b : List ℕ} → Below a b → a ≡ b → ⊥
below_irrefl {a} {b} h e = itself a (subst (λ (r : List ℕ). Below a r) (sym e) h)

pub below_order : {a b : List ℕ} → Below a b → order a b ≡ Less
unfolding order
below_order shorter = refl
below_order (first {x = x} {y = y} {xs = xs} {ys = ys} h) = order_lt x y xs ys h
below_order (rest {x = x} {y = y} {xs = xs} {ys = ys} e h) = order_eq x y xs ys e ∙ below_order h

-- the other way round
pub below_flip : {a b : List ℕ} → Below b a → order a b ≡ Greater
unfolding order
below_flip shorter = refl
below_flip (first {x = x} {y = y} {xs = xs} {ys = ys} h) = order_gt y x ys xs h
below_flip (rest {x = x} {y = y} {xs = xs} {ys = ys} e h) = order_eq y x ys xs (sym e) ∙ below_flip h

-- what the order's answer says
pub data Stands (a b : List ℕ) : Cmp.Ordering → Type 0 where
  less : Below a b → Stands a b Less
  equal : a ≡ b → Stands a b Equal
  greater : Below b a → Stands a b Greater

stands_on : {x y : ℕ} {xs ys : List ℕ} {o : Cmp.Ordering} → x ≡ y → Stands xs ys o → Stands (x ∷ xs) (y ∷ ys) o
stands_on e (less h) = less (rest e h)
stands_on e (equal h) = equal (λ i. e i ∷ h i)
stands_on e (greater h) = greater (rest (sym e) h)

stands_step : (x y : ℕ) (xs ys : List ℕ) (o : Ordering) → compare x y ≡ o → Stands xs ys (order xs ys) → Stands (x ∷ xs) (y ∷ ys) (onward o (order xs ys))
stands_step x y xs ys Ordering.lt e s = less (first (less_byte x y e))
stands_step x y xs ys Ordering.eq e s = stands_on (eqb-true x y (ap compare_is_eq e)) s
stands_step x y xs ys Ordering.gt e s = greater (first (leb-false x y (ap is_le e)))

pub stands : (a b : List ℕ) → Stands a b (order a b)
unfolding order
stands [] [] = equal refl
stands [] (y ∷ ys) = less shorter
stands (x ∷ xs) [] = greater shorter
stands (x ∷ xs) (y ∷ ys) = stands_step x y xs ys (compare x y) refl (stands xs ys)

module _ (a b : List ℕ) where
  pub less_below : order a b ≡ Less → Below a b
  less_below e = go (subst (Stands a b) e (stands a b))
    where
      go : Stands a b Less → Below a b
      go (less h) = h

  pub equal_same : order a b ≡ Equal → a ≡ b
  equal_same e = go (subst (Stands a b) e (stands a b))
    where
      go : Stands a b Equal → a ≡ b
      go (equal h) = h

  pub greater_below : order a b ≡ Greater → Below b a
  greater_below e = go (subst (Stands a b) e (stands a b))
    where
      go : Stands a b Greater → Below b a
      go (greater h) = h

-- the order of texts is the order of their bytes
text_step : (c d : Char) (s t : String) (o : Ordering) → compare (code c) (code d) ≡ o → then o (compareˢ s t) ≡ Ordering.lt
    → (compareˢ s t ≡ Ordering.lt → Below (ascii s) (ascii t)) → Below (code c ∷ ascii s) (code d ∷ ascii t)
text_step c d s t Ordering.lt e h f = first (less_byte (code c) (code d) e)
text_step c d s t Ordering.eq e h f = rest (eqb-true (code c) (code d) (ap compare_is_eq e)) (f h)
text_step c d s t Ordering.gt e h f = clash (cc)

pub text_below : (s t : String) → compareˢ s t ≡ Ordering.lt → Below (ascii s) (ascii t)
text_below []ˢ []ˢ h = clash (let q : Ordering.eq ≡ Ordering.lt = sym compare.nil-nil ∙ h in cc)
text_below []ˢ (d ∷ˢ t) h = shorter
text_below (c ∷ˢ s) []ˢ h = clash (let q : Ordering.gt ≡ Ordering.lt = sym (compare.cons-nil c s) ∙ h in cc)
text_below (c ∷ˢ s) (d ∷ˢ t) h =
    text_step c d s t (compare (code c) (code d)) refl (sym (compare.cons-cons c d s t) ∙ h) (text_below s t)

-- a loop along two runs: what the bytes at i say, where the bytes before i are the same
module _ (a b : List ℕ) (i : ℕ) (e : order (drop i a) (drop i b) ≡ order a b) where
  pub run_ends : length a ≤ i → i < length b → Less ≡ order a b
  unfolding order
  run_ends h l = rw (drop_of_length-le a h, drop-cons b i 0 l) at e

  pub name_ends : i < length a → length b ≤ i → Greater ≡ order a b
  unfolding order
  name_ends h l = rw (drop-cons a i 0 h, drop_of_length-le b l) at e

  pub both_end : length a ≤ i → length b ≤ i → Equal ≡ order a b
  unfolding order
  both_end h l = rw (drop_of_length-le a h, drop_of_length-le b l) at e

  module _ (h : i < length a) (l : i < length b) where
    here : order (get_or a i 0 ∷ drop (suc i) a) (get_or b i 0 ∷ drop (suc i) b) ≡ order a b
    here = rw (drop-cons a i 0 h, drop-cons b i 0 l) at e

    pub less_here : get_or a i 0 < get_or b i 0 → Less ≡ order a b
    less_here q = sym (order_lt (get_or a i 0) (get_or b i 0) (drop (suc i) a) (drop (suc i) b) q) ∙ here

    pub greater_here : get_or b i 0 < get_or a i 0 → Greater ≡ order a b
    greater_here q = sym (order_gt (get_or a i 0) (get_or b i 0) (drop (suc i) a) (drop (suc i) b) q) ∙ here

    pub same_here : get_or a i 0 ≡ get_or b i 0 → order (drop (i + 1) a) (drop (i + 1) b) ≡ order a b
    same_here q = rw add-one (sym (order_eq (get_or a i 0) (get_or b i 0) (drop (suc i) a) (drop (suc i) b) q) ∙ here)
