-- What a licensee satisfies. Document 01: "A licensee satisfies a leaf when licence and addition are equal (name, or reference bytes with document
-- part; absent equals absent). The leaf's plus flag is not looked at"; and "equal no earlier found one". A licensee's ranges stand in the list
-- file f, a leaf's in its text s.
use Rattle.std.specs.Prelude.{ℕ, Bool, true, false, ◌&&◌, List, eqb, Option, Some, None}
use Rattle.text.specs.Text.{same, part}
use Rattle.grammar.specs.declared.Range.{Range}
use Rattle.grammar.specs.declared.Licence.{Licence}
use Rattle.grammar.specs.declared.Licence.TheVariants as L
use Rattle.grammar.specs.declared.Addition.{Addition}
use Rattle.grammar.specs.declared.Addition.TheVariants as A
use Rattle.grammar.specs.declared.Leaf.{Leaf}
use Rattle.licensee.specs.declared.Licensee.{Licensee}

module _ (f s : List ℕ) where
  -- the same bytes
  unfoldable pub same_range : Range → Range → Bool
  same_range r q = same (part r.start r.end f) (part q.start q.end s)

  -- "absent equals absent", and is not empty
  abbrev pub same_part : Option Range → Option Range → Bool
  same_part None None = true
  same_part None (Some q) = false
  same_part (Some r) None = false
  same_part (Some r) (Some q) = same_range r q

  -- "name, or reference bytes with document part"
  abbrev pub same_licence : Licence → Licence → Bool
  same_licence (L.Listed j) (L.Listed k) = eqb j k
  same_licence (L.Listed j) (L.Reference d n) = false
  same_licence (L.Reference d n) (L.Listed k) = false
  same_licence (L.Reference d n) (L.Reference e o) = same_range n o && same_part d e

  abbrev pub same_addition : Addition → Addition → Bool
  same_addition A.Nothing A.Nothing = true
  same_addition A.Nothing (A.Listed k) = false
  same_addition A.Nothing (A.Reference e o) = false
  same_addition (A.Listed j) A.Nothing = false
  same_addition (A.Listed j) (A.Listed k) = eqb j k
  same_addition (A.Listed j) (A.Reference e o) = false
  same_addition (A.Reference d n) A.Nothing = false
  same_addition (A.Reference d n) (A.Listed k) = false
  same_addition (A.Reference d n) (A.Reference e o) = same_range n o && same_part d e

  -- the licensee satisfies the leaf
  unfoldable pub satisfies : Licensee → Leaf → Bool
  satisfies l x = same_licence l.licence x.licence && same_addition l.addition x.addition

-- two licensees of a file are equal
unfoldable pub equals : List ℕ → Licensee → Licensee → Bool
equals f l m = same_licence f f l.licence m.licence && same_addition f f l.addition m.addition
