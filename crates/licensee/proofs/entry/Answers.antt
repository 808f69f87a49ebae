-- The file's own bytes: the place of an entry lies within.
use Rattle.std.proofs.Common.{ℕ, List, ◌≡◌, refl, sym, subst, arith}
use Rattle.text.specs.Text.{part}
use Rattle.refusal.specs.declared.Span.{Span}
use Rattle.licensee.specs.Offers.{place_of}
use Rattle.licensee.proofs.FileLaws.{Lies, place_part}
use Rattle.licensee.proofs.entry.Goals as goal

lies : (f : List ℕ) (i : ℕ) (p : Span) → p ≡ place_of f i → Lies f i p
lies f i p e = subst (Lies f i) (sym e) (place_part f i)

pub slice_bounds-result-count : goal.slice_bounds-result-count
slice_bounds-result-count c = omega (arith, (lies _ _ _ c.place-p.ensures).0)

pub slice_bounds-result-start : goal.slice_bounds-result-start
slice_bounds-result-start c = omega (arith, (lies _ _ _ c.place-p.ensures).0)

pub slice_bounds-result-end : goal.slice_bounds-result-end
slice_bounds-result-end c = omega (arith, (lies _ _ _ c.place-p.ensures).0, (lies _ _ _ c.place-p.ensures).1)

pub returns : goal.returns
unfolding part
returns c =
    let l = lies _ _ _ c.place-p.ensures in
    (l.2, refl, omega (arith, l.3))
