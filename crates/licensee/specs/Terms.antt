-- Licence and addition as numbers, so that arrays of them can be lent: a kind for each, and its index or its places, 16 bits each. The code's own
-- machinery, nothing to believe: TermsLaws.antt ties it to Satisfies.antt.
use Rattle.std.specs.Prelude.{ℕ, ◌+◌, ◌-◌, ◌*◌, ◌/◌, ◌%◌, ◌<◌, Bool, true, false, cond, ◌&&◌, List, [], ◌∷◌, ◌++◌, eqb, length, map, replicate, Option, Some, None, Result, Ok, Err}
use Rattle.text.specs.Text.{same, part}
use Rattle.refusal.specs.declared.Span.{Span}
use Rattle.refusal.specs.declared.Refusal.{Refusal}
use Rattle.lexer.specs.declared.Token.{Token}
use Rattle.lexer.specs.declared.Token.TheVariants as T
use Rattle.grammar.specs.declared.Range.{Range}
use Rattle.grammar.specs.declared.Licence.{Licence}
use Rattle.grammar.specs.declared.Licence.TheVariants as L
use Rattle.grammar.specs.declared.Addition.{Addition}
use Rattle.grammar.specs.declared.Addition.TheVariants as A
use Rattle.licensee.specs.declared.Licensee.{Licensee}
use Rattle.licensee.specs.declared.Term.{Term}
use Rattle.licensee.specs.declared.Terms.{Terms}
use Rattle.licensee.specs.declared.Accepted.{Accepted}
use Rattle.licensee.specs.Offers.{Accepts, good, wrong}

abbrev pub term : ℕ → ℕ → Term
term k p = record { kind = k; places = p }

unfoldable pub range_number : Range → ℕ
range_number r = r.start + r.end * 65536

-- a reference: kind 2 with no document part, 3 with one
abbrev pub reference_term : Option Range → Range → Term
reference_term None n = term 2 (range_number n)
reference_term (Some d) n = term 3 (range_number n + range_number d * 4294967296)

-- a listed name: kind 1
abbrev pub licence_term : Licence → Term
licence_term (L.Listed k) = term 1 k
licence_term (L.Reference d n) = reference_term d n

-- no addition: kind 0
abbrev pub addition_term : Addition → Term
addition_term A.Nothing = term 0 0
addition_term (A.Listed k) = term 1 k
addition_term (A.Reference d n) = reference_term d n

-- both, with one number for the two kinds
unfoldable pub terms_of : Licence → Addition → Terms
terms_of l a = record {
  kinds = (licence_term l).kind + (addition_term a).kind * 4;
  licence = (licence_term l).places;
  addition = (addition_term a).places;
}

abbrev pub offered_terms : Licensee → Terms
offered_terms l = terms_of l.licence l.addition

-- places of 16 bits
abbrev pub SmallRange : Range → Type 0
SmallRange r = (r.start < 65536) × (r.end < 65536)

abbrev pub SmallPart : Option Range → Type 0
SmallPart None = Unit {0}
SmallPart (Some r) = SmallRange r

abbrev pub SmallLicence : Licence → Type 0
SmallLicence (L.Listed k) = k < 65536
SmallLicence (L.Reference d n) = SmallPart d × SmallRange n

abbrev pub SmallAddition : Addition → Type 0
SmallAddition A.Nothing = Unit {0}
SmallAddition (A.Listed k) = k < 65536
SmallAddition (A.Reference d n) = SmallPart d × SmallRange n

abbrev pub SmallLicensee : Licensee → Type 0
SmallLicensee l = SmallLicence l.licence × SmallAddition l.addition

module _ (f s : List ℕ) where
  -- the names, and the document parts
  unfoldable pub same_names : ℕ → ℕ → Bool
  same_names x y = same (part (x % 65536) (x / 65536 % 65536) f) (part (y % 65536) (y / 65536 % 65536) s)

  unfoldable pub same_documents : ℕ → ℕ → Bool
  same_documents x y = same (part (x / 4294967296 % 65536) (x / 281474976710656) f) (part (y / 4294967296 % 65536) (y / 281474976710656) s)

  -- two of one kind
  unfoldable pub same_term : ℕ → ℕ → ℕ → Bool
  same_term k x y = cond (eqb k 0) true (cond (eqb k 1) (eqb x y) (cond (eqb k 2) (same_names x y) (same_names x y && same_documents x y)))

  unfoldable pub same_terms : Terms → Terms → Bool
  same_terms a b =
      cond (eqb a.kinds b.kinds)
      (same_term (a.kinds % 4) a.licence b.licence && same_term (a.kinds / 4) a.addition b.addition)
      false

-- the licensee a of the file f satisfies the leaf b of the text s
unfoldable pub meets : List ℕ → List ℕ → Terms → Terms → Bool
meets f s a b = same_terms f s a b

-- the numbers of licensees, and blank ones up to 64
abbrev pub blank : Terms
blank = record { kinds = 0; licence = 0; addition = 0 }

abbrev pub padded : List Terms → List Terms
padded l = l ++ replicate (64 - length l) blank

abbrev pub accepted_of : Accepts → Result Accepted Refusal
accepted_of (good ls) = Ok (record { count = length ls; terms = padded (map offered_terms ls) })
accepted_of (wrong r) = Err r

-- what is answered where the licensees are written into lent terms
abbrev pub told : Result ℕ Refusal → List Terms → Result Accepted Refusal
told (Ok n) ts = Ok (record { count = n; terms = ts })
told (Err r) ts = Err r

-- the places of all licensees fit 16 bits
abbrev pub SmallAll : List Licensee → Type 0
SmallAll [] = Unit {0}
SmallAll (l ∷ ls) = SmallLicensee l × SmallAll ls

abbrev pub SmallList : Accepts → Type 0
SmallList (good ls) = SmallAll ls
SmallList (wrong r) = Unit {0}

-- the places of a body's token, in a file where the body starts at a, fit 16 bits
abbrev pub FitsRange : ℕ → Span → Type 0
FitsRange a sp = (a + sp.start < 65536) × (a + sp.end < 65536)

abbrev pub FitsPart : ℕ → Option Span → Type 0
FitsPart a None = Unit {0}
FitsPart a (Some sp) = FitsRange a sp

abbrev pub FitsToken : ℕ → Token → Type 0
FitsToken a T.And = Unit {0}
FitsToken a T.Or = Unit {0}
FitsToken a T.With = Unit {0}
FitsToken a T.Plus = Unit {0}
FitsToken a T.Open = Unit {0}
FitsToken a T.Close = Unit {0}
FitsToken a (T.Licence k) = k < 65536
FitsToken a (T.Exception k) = k < 65536
FitsToken a (T.LicenseRef d n) = FitsPart a d × FitsRange a n
FitsToken a (T.AdditionRef d n) = FitsPart a d × FitsRange a n
FitsToken a (T.Unknown n) = Unit {0}
