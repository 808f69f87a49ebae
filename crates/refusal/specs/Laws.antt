-- A refusal is told by its number and its last column, and a set for 6 by its members: no two refusals say the same.
use Rattle.std.specs.Prelude.{ℕ, ◌-◌, ◌≡◌, refl, cond, [], ◌∷◌, get_or, eqb}
use Rattle.std.proofs.Common.{sym, ◌∙◌, ap}
use Rattle.refusal.specs.declared.Span.{Span}
use Rattle.refusal.specs.declared.Expected.{Expected}
use Rattle.refusal.specs.declared.Expected.TheVariants.{Term, Joint, Tail, Name, Suffixed, Addition, Licence}
use Rattle.refusal.specs.declared.Refusal.{Refusal}
use Rattle.refusal.specs.declared.Refusal.TheVariants.{NotUtf8, TooLong, InvalidCharacters, UnknownTerm, SeparatedPlus, Unexpected, UnopenedParens, UnclosedParens, Empty, DeprecatedLicenseId, GnuNoPlus, GnuPlusWithSuffix, UnknownLicense, TooManyLeaves, TooDeep, NoRoom, BadList, TooManyRequirements, RequirementsUnmet, BadCursor, NoBudget}
use Rattle.refusal.specs.declared.Column.{Column}
use Rattle.refusal.specs.declared.Column.TheVariants.{Nothing, Place, PlaceAndSet, Number}
use Rattle.refusal.specs.Refused.{span, number_of, column_of, set_of}

-- what a column holds
abbrev place : Column → Span
place Nothing = span 0 0
place (Place s) = s
place (PlaceAndSet s e) = s
place (Number n) = span 0 0

abbrev expected : Column → Expected
expected Nothing = Term
expected (Place s) = Term
expected (PlaceAndSet s e) = e
expected (Number n) = Term

abbrev value : Column → ℕ
value Nothing = 0
value (Place s) = 0
value (PlaceAndSet s e) = 0
value (Number n) = n

-- the refusal that has a number and a last column
unfoldable pub refusal_of : ℕ → Column → Refusal
refusal_of n c =
    get_or (
    NotUtf8 (place c) ∷
    TooLong ∷
    InvalidCharacters (place c) ∷
    UnknownTerm (place c) ∷
    SeparatedPlus (place c) ∷
    Unexpected (place c) (expected c) ∷
    UnopenedParens (place c) ∷
    UnclosedParens (place c) ∷
    Empty (place c) ∷
    DeprecatedLicenseId (place c) ∷
    GnuNoPlus (place c) ∷
    GnuPlusWithSuffix (place c) ∷
    UnknownLicense (place c) ∷
    TooManyLeaves (place c) ∷
    TooDeep (place c) ∷
    NoRoom (value c) ∷
    BadList (value c) ∷
    TooManyRequirements (value c) ∷
    RequirementsUnmet ∷
    BadCursor (value c) ∷
    []) (n - 1) NoBudget

pub told_back : (r : Refusal) → refusal_of (number_of r) (column_of r) ≡ r
unfolding refusal_of
told_back (NotUtf8 s) = refl
told_back TooLong = refl
told_back (InvalidCharacters s) = refl
told_back (UnknownTerm s) = refl
told_back (SeparatedPlus s) = refl
told_back (Unexpected s e) = refl
told_back (UnopenedParens s) = refl
told_back (UnclosedParens s) = refl
told_back (Empty s) = refl
told_back (DeprecatedLicenseId s) = refl
told_back (GnuNoPlus s) = refl
told_back (GnuPlusWithSuffix s) = refl
told_back (UnknownLicense s) = refl
told_back (TooManyLeaves s) = refl
told_back (TooDeep s) = refl
told_back (NoRoom n) = refl
told_back (BadList n) = refl
told_back (TooManyRequirements n) = refl
told_back RequirementsUnmet = refl
told_back (BadCursor n) = refl
told_back NoBudget = refl

-- number and last column tell a refusal
pub told_apart : (a b : Refusal) → number_of a ≡ number_of b → column_of a ≡ column_of b → a ≡ b
told_apart a b n c =
    sym (told_back a) ∙ ap (λ (k : ℕ). refusal_of k (column_of a)) n ∙ ap (refusal_of (number_of b)) c ∙ told_back b

-- the set that has these bits
unfoldable pub expected_of : ℕ → Expected
expected_of n =
    cond (eqb n 0x03) Term (cond (eqb n 0x0C) Joint (cond (eqb n 0x2C) Tail (cond (eqb n 0x7C) Name
    (cond (eqb n 0x3C) Suffixed (cond (eqb n 0x80) Addition Licence)))))

pub set_back : (e : Expected) → expected_of (set_of e) ≡ e
unfolding expected_of
set_back Term = refl
set_back Joint = refl
set_back Tail = refl
set_back Name = refl
set_back Suffixed = refl
set_back Addition = refl
set_back Licence = refl

-- the bits tell a set
pub sets_apart : (a b : Expected) → set_of a ≡ set_of b → a ≡ b
sets_apart a b e = sym (set_back a) ∙ ap expected_of e ∙ set_back b
