-- A kind is settled by its test; a reference by its name, and then by its document part.
use Rattle.std.proofs.Common.{◌≡◌, refl, Bool, true, false, cond, ◌&&◌, List, ℕ, eqb, eq-eqb, ne_eqb}
use Rattle.text.specs.Tests.{tests}
use Rattle.licensee.specs.Terms.{same_term, same_names, same_documents}
use Rattle.licensee.proofs.same_term.Goals as goal

-- what a reference's test comes to
module _ (f s : List ℕ) (k x y : ℕ) (some : k ≡ 0 → ⊥) (other : k ≡ 1 → ⊥) where
  reference : same_term f s k x y ≡ cond (same_names f s x y) (cond (eqb k 2) true (same_documents f s x y)) false
  unfolding same_term
  reference = rw (ne_eqb k 0 some, ne_eqb k 1 other) (go (eqb k 2) (same_names f s x y))
    where
      go : (t n : Bool) → cond t n (n && same_documents f s x y) ≡ cond n (cond t true (same_documents f s x y)) false
      go true true = refl
      go true false = refl
      go false true = refl
      go false false = refl

pub returns-then-not-same_names : goal.returns-then-not-same_names
returns-then-not-same_names c =
    let n = c.same_names in
    rw (
      reference _ _ _ _ _ c.if-kind-eq0.false c.if-kind-eq1.false,
      ← n.ensures,
      c.if-not-same_names.true,
    )

pub returns-then-kind-eq2 : goal.returns-then-kind-eq2
returns-then-kind-eq2 c =
    let n = c.same_names in
    rw (
      reference _ _ _ _ _ c.if-kind-eq0.false c.if-kind-eq1.false,
      ← n.ensures,
      c.if-not-same_names.false,
      eq-eqb _ _ c.if-kind-eq2.true,
    )

pub returns : goal.returns
returns c =
    let n = c.same_names in
    rw (
      reference _ _ _ _ _ c.if-kind-eq0.false c.if-kind-eq1.false,
      ← n.ensures,
      c.if-not-same_names.false,
      ne_eqb _ _ c.if-kind-eq2.false,
    )
    c.same_documents.ensures

pub returns-then-kind-eq0 : goal.returns-then-kind-eq0
unfolding same_term
returns-then-kind-eq0 c = search tests

pub returns-then-kind-eq1 : goal.returns-then-kind-eq1
unfolding same_term
returns-then-kind-eq1 c = search tests
