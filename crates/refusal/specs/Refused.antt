-- This paper's number, span, set and number for each refusal. Document 01: the table of "Refusal numbers" row by row, and "Sets for 6, by the token before".
use Rattle.std.specs.Prelude.{ℕ, ◌+◌, ◌^◌, List, [], ◌∷◌}
use Rattle.refusal.specs.declared.Span.{Span}
use Rattle.refusal.specs.declared.Expected.{Expected}
use Rattle.refusal.specs.declared.Expected.TheVariants.{Term, Joint, Tail, Name, Suffixed, Addition, Licence}
use Rattle.refusal.specs.declared.Refusal.{Refusal}
use Rattle.refusal.specs.declared.Refusal.TheVariants.{NotUtf8, TooLong, InvalidCharacters, UnknownTerm, SeparatedPlus, Unexpected, UnopenedParens, UnclosedParens, Empty, DeprecatedLicenseId, GnuNoPlus, GnuPlusWithSuffix, UnknownLicense, TooManyLeaves, TooDeep, NoRoom, BadList, TooManyRequirements, RequirementsUnmet, BadCursor, NoBudget}
use Rattle.refusal.specs.declared.Column.{Column}
use Rattle.refusal.specs.declared.Column.TheVariants.{Nothing, Place, PlaceAndSet, Number}

abbrev pub span : ℕ → ℕ → Span
span a e = record { start = a; end = e }

-- the table's first column
abbrev pub number_of : Refusal → ℕ
number_of (NotUtf8 s) = 1
number_of TooLong = 2
number_of (InvalidCharacters s) = 3
number_of (UnknownTerm s) = 4
number_of (SeparatedPlus s) = 5
number_of (Unexpected s e) = 6
number_of (UnopenedParens s) = 7
number_of (UnclosedParens s) = 8
number_of (Empty s) = 9
number_of (DeprecatedLicenseId s) = 10
number_of (GnuNoPlus s) = 11
number_of (GnuPlusWithSuffix s) = 12
number_of (UnknownLicense s) = 13
number_of (TooManyLeaves s) = 14
number_of (TooDeep s) = 15
number_of (NoRoom n) = 16
number_of (BadList n) = 17
number_of (TooManyRequirements n) = 18
number_of RequirementsUnmet = 19
number_of (BadCursor n) = 20
number_of NoBudget = 21

-- the table's last column
abbrev pub column_of : Refusal → Column
column_of (NotUtf8 s) = Place s
column_of TooLong = Place (span 0 0)
column_of (InvalidCharacters s) = Place s
column_of (UnknownTerm s) = Place s
column_of (SeparatedPlus s) = Place s
column_of (Unexpected s e) = PlaceAndSet s e
column_of (UnopenedParens s) = Place s
column_of (UnclosedParens s) = Place s
column_of (Empty s) = Place s
column_of (DeprecatedLicenseId s) = Place s
column_of (GnuNoPlus s) = Place s
column_of (GnuPlusWithSuffix s) = Place s
column_of (UnknownLicense s) = Place s
column_of (TooManyLeaves s) = Place s
column_of (TooDeep s) = Place s
column_of (NoRoom n) = Number n
column_of (BadList n) = Number n
column_of (TooManyRequirements n) = Number n
column_of RequirementsUnmet = Nothing
column_of (BadCursor n) = Number n
column_of NoBudget = Nothing

-- what may be a member of a set for 6, in document 01's order
pub data Member : Type 0 where
  m_licence : Member
  m_open : Member
  m_and : Member
  m_or : Member
  m_with : Member
  m_close : Member
  m_plus : Member
  m_addition : Member

-- the sets for 6, by the token before
abbrev pub members_of : Expected → List Member
members_of Term = m_licence ∷ m_open ∷ []
members_of Joint = m_and ∷ m_or ∷ []
members_of Tail = m_and ∷ m_or ∷ m_close ∷ []
members_of Name = m_and ∷ m_or ∷ m_with ∷ m_close ∷ m_plus ∷ []
members_of Suffixed = m_and ∷ m_or ∷ m_with ∷ m_close ∷ []
members_of Addition = m_addition ∷ []
members_of Licence = m_licence ∷ []

-- the bit of a member, and of a set the sum of its members' bits
abbrev pub bit_of : Member → ℕ
bit_of m_licence = 2 ^ 0
bit_of m_open = 2 ^ 1
bit_of m_and = 2 ^ 2
bit_of m_or = 2 ^ 3
bit_of m_with = 2 ^ 4
bit_of m_close = 2 ^ 5
bit_of m_plus = 2 ^ 6
bit_of m_addition = 2 ^ 7

abbrev pub bits_of : List Member → ℕ
bits_of [] = 0
bits_of (m ∷ ms) = bit_of m + bits_of ms

abbrev pub set_of : Expected → ℕ
set_of e = bits_of (members_of e)
