-- The numbers of Terms.antt say what Satisfies.antt defines: two terms are the same where their licences and their additions are.
use Rattle.std.specs.Prelude.{ℕ, ◌+◌, ◌*◌, ◌/◌, ◌%◌, ◌<◌, ◌≤◌, ◌≡◌, Bool, true, false, cond, ◌&&◌, List, eqb, Option, Some, None}
use native.Mathlib.Omega.{arith}
use Rattle.std.proofs.Math.Path.{refl, sym}
use Rattle.std.proofs.Common.{◌∙◌, eqb-true, eq-eqb, ne_eqb}
use Rattle.std.proofs.Math.Bool.{and-true, and-false}
use Rattle.std.proofs.lemmas.Bool.{eqb-false}
use Rattle.text.specs.Text.{part}
use Rattle.text.specs.TextLaws.{same_refl}
use Rattle.grammar.specs.declared.Range.{Range}
use Rattle.grammar.specs.declared.Licence.{Licence}
use Rattle.grammar.specs.declared.Licence.TheVariants as L
use Rattle.grammar.specs.declared.Addition.{Addition}
use Rattle.grammar.specs.declared.Addition.TheVariants as A
use Rattle.grammar.specs.declared.Leaf.{Leaf}
use Rattle.licensee.specs.declared.Licensee.{Licensee}
use Rattle.licensee.specs.declared.Term.{Term}
use Rattle.licensee.specs.declared.Terms.{Terms}
use Rattle.licensee.specs.Satisfies.{same_range, same_part, same_licence, same_addition, satisfies, equals}
use Rattle.licensee.specs.Terms.{range_number, reference_term, licence_term, addition_term, terms_of, offered_terms, SmallRange, SmallPart, SmallLicence, SmallAddition, SmallLicensee, same_names, same_documents, same_term, same_terms, meets}

-- a kind is one of four, and a licence's is not 0
pub reference_kind : (d : Option Range) (n : Range) → (0 < (reference_term d n).kind) × ((reference_term d n).kind < 4)
reference_kind None n = omega arith
reference_kind (Some d) n = omega arith

licence_kind : (l : Licence) → (0 < (licence_term l).kind) × ((licence_term l).kind < 4)
licence_kind (L.Listed k) = omega arith
licence_kind (L.Reference d n) = reference_kind d n

addition_kind : (a : Addition) → (addition_term a).kind < 4
addition_kind A.Nothing = omega arith
addition_kind (A.Listed k) = omega arith
addition_kind (A.Reference d n) = (reference_kind d n).1

kinds_some : (l : Licence) (a : Addition) → 0 < (terms_of l a).kinds
unfolding terms_of
kinds_some l a = omega (arith, licence_kind l)

pub kinds_small : (l : Licence) (a : Addition) → (terms_of l a).kinds < 16
unfolding terms_of
kinds_small l a = omega (arith, licence_kind l, addition_kind a)

-- the places of a reference's name, whatever stands above them
module _ (n : Range) (h : ℕ) (small : SmallRange n) where
  name_start_lem : (range_number n + h * 4294967296) % 65536 ≡ n.start
  unfolding range_number
  name_start_lem = omega arith

  name_end : (range_number n + h * 4294967296) / 65536 % 65536 ≡ n.end
  unfolding range_number
  name_end = omega arith

-- and those of its document part
module _ (n d : Range) (small : SmallRange n) (below : SmallRange d) where
  document_start : (range_number n + range_number d * 4294967296) / 4294967296 % 65536 ≡ d.start
  unfolding range_number
  document_start = omega arith

  document_end : (range_number n + range_number d * 4294967296) / 281474976710656 ≡ d.end
  unfolding range_number
  document_end = omega arith

-- two choices at once
cond_and : (x y p q : Bool) → cond (x && y) (p && q) false ≡ (cond x p false && cond y q false)
cond_and true true p q = refl
cond_and true false p q = sym (and-false p)
cond_and false y p q = refl

-- two numbers of kinds are equal where both kinds are
kinds_equal : (j i k h : ℕ) → j < 4 → k < 4 → eqb (j + i * 4) (k + h * 4) ≡ (eqb j k && eqb i h)
kinds_equal j i k h u v = go (eqb j k) (eqb i h) refl refl
  where
    go : (x y : Bool) → eqb j k ≡ x → eqb i h ≡ y → eqb (j + i * 4) (k + h * 4) ≡ (x && y)
    go true true p q = eq-eqb (j + i * 4) (k + h * 4) (omega (arith, eqb-true j k p, eqb-true i h q))
    go true false p q = ne_eqb (j + i * 4) (k + h * 4) (λ e. eqb-false i h q (omega arith))
    go false y p q = ne_eqb (j + i * 4) (k + h * 4) (λ e. eqb-false j k p (omega arith))

-- a part, a licence and an addition equal themselves
module _ (f : List ℕ) where
  range_refl : (r : Range) → same_range f f r r ≡ true
  unfolding same_range
  range_refl r = same_refl (part r.start r.end f)

  reference_refl : (d : Option Range) (n : Range) → (same_range f f n n && same_part f f d d) ≡ true
  reference_refl None n = rw (range_refl n)
  reference_refl (Some d) n = rw (range_refl n, range_refl d)

  licence_refl : (l : Licence) → same_licence f f l l ≡ true
  licence_refl (L.Listed k) = eq-eqb k k refl
  licence_refl (L.Reference d n) = reference_refl d n

  addition_refl : (a : Addition) → same_addition f f a a ≡ true
  addition_refl A.Nothing = refl
  addition_refl (A.Listed k) = eq-eqb k k refl
  addition_refl (A.Reference d n) = reference_refl d n

  pub equals_refl : (l : Licensee) → equals f l l ≡ true
  unfolding equals
  equals_refl l = rw (licence_refl l.licence, addition_refl l.addition)

module _ (f s : List ℕ) where
  names_are : (n o : Range) (h k : ℕ) → SmallRange n → SmallRange o
      → same_names f s (range_number n + h * 4294967296) (range_number o + k * 4294967296) ≡ same_range f s n o
  unfolding same_names same_range
  names_are n o h k u v = rw (name_start_lem n h u, name_end n h u, name_start_lem o k v, name_end o k v)

  documents_are : (n d o e : Range) → SmallRange n → SmallRange d → SmallRange o → SmallRange e
      → same_documents f s (range_number n + range_number d * 4294967296) (range_number o + range_number e * 4294967296) ≡ same_range f s d e
  unfolding same_documents same_range
  documents_are n d o e u v w x =
      rw (document_start n d u v, document_end n d u v, document_start o e w x, document_end o e w x)

  -- of two kinds, or the same
  abbrev same_of : Term → Term → Bool
  same_of t u = cond (eqb t.kind u.kind) (same_term f s t.kind t.places u.places) false

  references_are : (d : Option Range) (n : Range) (e : Option Range) (o : Range) → SmallPart d → SmallRange n → SmallPart e → SmallRange o
      → same_of (reference_term d n) (reference_term e o) ≡ (same_range f s n o && same_part f s d e)
  unfolding same_term
  references_are None n None o p u q v =
      let i : range_number n + 0 * 4294967296 ≡ range_number n = omega arith in
      let j : range_number o + 0 * 4294967296 ≡ range_number o = omega arith in
      (rw (i, j) at (names_are n o 0 0 u v)) ∙ sym (and-true (same_range f s n o))
  references_are None n (Some e) o p u q v = sym (and-false (same_range f s n o))
  references_are (Some d) n None o p u q v = sym (and-false (same_range f s n o))
  references_are (Some d) n (Some e) o p u q v =
      rw (names_are n o (range_number d) (range_number e) u v, documents_are n d o e u p v q)

  licences_are : (l m : Licence) → SmallLicence l → SmallLicence m → same_of (licence_term l) (licence_term m) ≡ same_licence f s l m
  unfolding same_term
  licences_are (L.Listed j) (L.Listed k) u v = refl
  licences_are (L.Listed j) (L.Reference None o) u v = refl
  licences_are (L.Listed j) (L.Reference (Some e) o) u v = refl
  licences_are (L.Reference None n) (L.Listed k) u v = refl
  licences_are (L.Reference (Some d) n) (L.Listed k) u v = refl
  licences_are (L.Reference d n) (L.Reference e o) u v = references_are d n e o u.0 u.1 v.0 v.1

  additions_are : (a b : Addition) → SmallAddition a → SmallAddition b → same_of (addition_term a) (addition_term b) ≡ same_addition f s a b
  unfolding same_term
  additions_are A.Nothing A.Nothing u v = refl
  additions_are A.Nothing (A.Listed k) u v = refl
  additions_are A.Nothing (A.Reference None o) u v = refl
  additions_are A.Nothing (A.Reference (Some e) o) u v = refl
  additions_are (A.Listed j) A.Nothing u v = refl
  additions_are (A.Listed j) (A.Listed k) u v = refl
  additions_are (A.Listed j) (A.Reference None o) u v = refl
  additions_are (A.Listed j) (A.Reference (Some e) o) u v = refl
  additions_are (A.Reference None n) A.Nothing u v = refl
  additions_are (A.Reference (Some d) n) A.Nothing u v = refl
  additions_are (A.Reference None n) (A.Listed k) u v = refl
  additions_are (A.Reference (Some d) n) (A.Listed k) u v = refl
  additions_are (A.Reference d n) (A.Reference e o) u v = references_are d n e o u.0 u.1 v.0 v.1

  -- the law of both: two pairs of numbers are the same where licences and additions are
  terms_are : (l m : Licence) (a b : Addition) → SmallLicence l → SmallAddition a → SmallLicence m → SmallAddition b
      → same_terms f s (terms_of l a) (terms_of m b) ≡ (same_licence f s l m && same_addition f s a b)
  unfolding same_terms terms_of
  terms_are l m a b u x v y =
      let j = (licence_term l).kind in
      let i = (addition_term a).kind in
      let p : (j + i * 4) % 4 ≡ j = omega (arith, licence_kind l) in
      let q : (j + i * 4) / 4 ≡ i = omega (arith, licence_kind l) in
      let k = kinds_equal j i (licence_term m).kind (addition_term b).kind (licence_kind l).1 (licence_kind m).1 in
      rw (p, q, k, cond_and, licences_are l m u v, additions_are a b x y)

  pub meets_is : (l : Licensee) (x : Leaf) → SmallLicensee l → SmallLicence x.licence → SmallAddition x.addition
      → meets f s (offered_terms l) (terms_of x.licence x.addition) ≡ satisfies f s l x
  unfolding meets satisfies
  meets_is l x u v w = terms_are l.licence x.licence l.addition x.addition u.0 u.1 v w

  -- what has no licensee's kinds is met by none: an operator's code, and a blank
  meets_none : (l : Licensee) (b : Terms) → ((offered_terms l).kinds ≡ b.kinds → ⊥) → meets f s (offered_terms l) b ≡ false
  unfolding meets same_terms
  meets_none l b n = rw (ne_eqb (offered_terms l).kinds b.kinds n)

  pub meets_no : (l : Licensee) (b : Terms) → 16 ≤ b.kinds → meets f s (offered_terms l) b ≡ false
  meets_no l b h = meets_none l b (λ e. omega (arith, kinds_small l.licence l.addition))

  pub meets_blank : (l : Licensee) (b : Terms) → b.kinds ≡ 0 → meets f s (offered_terms l) b ≡ false
  meets_blank l b z = meets_none l b (λ e. omega (arith, kinds_some l.licence l.addition))

pub equals_is : (f : List ℕ) (l m : Licensee) → SmallLicensee l → SmallLicensee m
    → same_terms f f (offered_terms l) (offered_terms m) ≡ equals f l m
unfolding equals
equals_is f l m u v = terms_are f f l.licence m.licence l.addition m.addition u.0 u.1 v.0 v.1
