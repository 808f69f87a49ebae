-- Worked characters: the edges of Unicode's table 3-7 from both sides, and white space, which is exactly 25 code points.
use Rattle.std.specs.Prelude.{ℕ, zero, suc, ◌+◌, ◌<◌, ◌≤◌, ◌≡◌, refl, Bool, true, false, not, ◌||◌, List, [], ◌∷◌, ◌++◌, Option, Some, None, map, eqb, length}
use Rattle.std.proofs.Common.{ap, ◌∙◌, arith, eq-eqb, ne_eqb, le-leb}
use Rattle.std.proofs.Math.Bool.{or_assoc, or-false}
use Rattle.std.proofs.Math.Decide.{dec_lt}
use Rattle.std.proofs.lemmas.Bool.{lt-leb}
use Rattle.text.specs.Text.{ascii, within}
use Rattle.text.specs.TextLaws.{within_below, within_above}
use Rattle.text.specs.Walk.{over, reach}
use Rattle.text.specs.Every.{all_of}
use Rattle.utf8.specs.declared.Char.{Char}
use Rattle.utf8.specs.Utf8.{lowest, highest, two, three, four, decoded, front, char_width, first_ill, inside_of, white_of, white_width, past_white}

-- which character do these bytes begin with; where are they ill-formed first; is this place of them inside a character;
-- where does the white space at this place of them end
data Question : Type 0 where
  char : List ℕ → Question
  ill : List ℕ → Question
  inside : List ℕ → ℕ → Question
  past : List ℕ → ℕ → Question

-- the character of this code point, which is so wide; this place; yes or no
data Answer : Type 0 where
  is : ℕ → ℕ → Answer
  place : ℕ → Answer
  truth : Bool → Answer

none : Answer
none = is 0 0

shown : Option Char → Answer
shown None = none
shown (Some c) = is c.code c.width

answer : Question → Answer
answer (char s) = shown (front s)
answer (ill s) = place (first_ill s)
answer (inside s at) = truth (inside_of s at)
answer (past s at) = place (past_white s at)

table : List (Question × Answer)
table =
    (char (0x00 ∷ []), is 0x0 1)
    ∷ (char (0x7F ∷ []), is 0x7F 1)
    ∷ (char (0x80 ∷ []), none)
    ∷ (char (0xBF ∷ 0x80 ∷ []), none)
    ∷ (char (0xC0 ∷ 0x80 ∷ []), none)
    ∷ (char (0xC1 ∷ 0xBF ∷ []), none)
    ∷ (char (0xC2 ∷ 0x80 ∷ []), is 0x80 2)
    ∷ (char (0xC2 ∷ 0x7F ∷ []), none)
    ∷ (char (0xC2 ∷ 0xC0 ∷ []), none)
    ∷ (char (0xC2 ∷ []), none)
    ∷ (char (0xDF ∷ 0xBF ∷ []), is 0x7FF 2)
    ∷ (char (0xE0 ∷ 0x9F ∷ 0xBF ∷ []), none)
    ∷ (char (0xE0 ∷ 0xA0 ∷ 0x80 ∷ []), is 0x800 3)
    ∷ (char (0xE2 ∷ 0x82 ∷ 0xAC ∷ []), is 0x20AC 3)
    ∷ (char (0xE2 ∷ 0x82 ∷ []), none)
    ∷ (char (0xE2 ∷ 0x82 ∷ 0x41 ∷ []), none)
    ∷ (char (0xED ∷ 0x9F ∷ 0xBF ∷ []), is 0xD7FF 3)
    ∷ (char (0xED ∷ 0xA0 ∷ 0x80 ∷ []), none)
    ∷ (char (0xED ∷ 0xBF ∷ 0xBF ∷ []), none)
    ∷ (char (0xEE ∷ 0x80 ∷ 0x80 ∷ []), is 0xE000 3)
    ∷ (char (0xEF ∷ 0xBF ∷ 0xBF ∷ []), is 0xFFFF 3)
    ∷ (char (0xF0 ∷ 0x8F ∷ 0xBF ∷ 0xBF ∷ []), none)
    ∷ (char (0xF0 ∷ 0x90 ∷ 0x80 ∷ 0x80 ∷ []), is 0x10000 4)
    ∷ (char (0xF0 ∷ 0x9F ∷ 0x98 ∷ 0x80 ∷ []), is 0x1F600 4)
    ∷ (char (0xF0 ∷ 0x9F ∷ 0x98 ∷ []), none)
    ∷ (char (0xF4 ∷ 0x8F ∷ 0xBF ∷ 0xBF ∷ []), is 0x10FFFF 4)
    ∷ (char (0xF4 ∷ 0x90 ∷ 0x80 ∷ 0x80 ∷ []), none)
    ∷ (char (0xF5 ∷ 0x80 ∷ 0x80 ∷ 0x80 ∷ []), none)
    ∷ (char (0xFF ∷ []), none)
    ∷ (char [], none)
    ∷ (ill [], place 0)
    ∷ (ill (ascii "MIT"), place 3)
    ∷ (ill (ascii "MIT " ++ (0xE9 ∷ [])), place 4)
    ∷ (ill (ascii "MIT " ++ (0xC3 ∷ 0xA9 ∷ [])), place 6)
    ∷ (ill (0xE2 ∷ 0x82 ∷ 0xAC ∷ 0xE2 ∷ 0x82 ∷ []), place 3)
    ∷ (inside (0x41 ∷ 0xE2 ∷ 0x82 ∷ 0xAC ∷ []) 0, truth false)
    ∷ (inside (0x41 ∷ 0xE2 ∷ 0x82 ∷ 0xAC ∷ []) 1, truth false)
    ∷ (inside (0x41 ∷ 0xE2 ∷ 0x82 ∷ 0xAC ∷ []) 2, truth true)
    ∷ (inside (0x41 ∷ 0xE2 ∷ 0x82 ∷ 0xAC ∷ []) 3, truth true)
    ∷ (inside (0x41 ∷ 0xE2 ∷ 0x82 ∷ 0xAC ∷ []) 4, truth false)
    ∷ (past (ascii "MIT") 0, place 0)
    ∷ (past (ascii "MIT ") 3, place 4)
    ∷ (past (0x09 ∷ 0x20 ∷ 0xC2 ∷ 0xA0 ∷ 0xE2 ∷ 0x80 ∷ 0xAF ∷ 0xE3 ∷ 0x80 ∷ 0x80 ∷ 0x41 ∷ []) 0, place 10)
    ∷ (past (0xE2 ∷ 0x80 ∷ 0x8B ∷ []) 0, place 0)
    ∷ (past (0x20 ∷ 0xE2 ∷ 0x80 ∷ []) 0, place 1)
    ∷ []

worked : map (λ w. answer w.0) table ≡ map (λ w. w.1) table
unfolding table answer shown none within over reach lowest highest two three four decoded front char_width first_ill inside_of white_of white_width past_white
worked = refl

-- the code points of white space, and neighbours of them that are none
unfoldable pub whites : List ℕ
whites =
    0x9 ∷ 0xA ∷ 0xB ∷ 0xC ∷ 0xD ∷ 0x20 ∷ 0x85 ∷ 0xA0 ∷ 0x1680 ∷ 0x2000 ∷ 0x2001 ∷ 0x2002 ∷ 0x2003 ∷ 0x2004 ∷ 0x2005
    ∷ 0x2006 ∷ 0x2007 ∷ 0x2008 ∷ 0x2009 ∷ 0x200A ∷ 0x2028 ∷ 0x2029 ∷ 0x202F ∷ 0x205F ∷ 0x3000 ∷ []

others : List ℕ
others =
    0x0 ∷ 0x8 ∷ 0xE ∷ 0x1C ∷ 0x1F ∷ 0x21 ∷ 0x84 ∷ 0x86 ∷ 0x9F ∷ 0xA1 ∷ 0x167F ∷ 0x1681 ∷ 0x180E ∷ 0x1FFF ∷ 0x200B ∷ 0x2027
    ∷ 0x202A ∷ 0x202E ∷ 0x2030 ∷ 0x205E ∷ 0x2060 ∷ 0x2FFF ∷ 0x3001 ∷ 0xFEFF ∷ []

white_worked : (length whites ≡ 25) × ((all_of white_of whites ≡ true) × (all_of (λ c. not (white_of c)) others ≡ true))
unfolding whites others all_of white_of within
white_worked = (refl, (refl, refl))

-- white space is those code points and no other
unfoldable pub listed : List ℕ → ℕ → Bool
listed [] c = false
listed (a ∷ s) c = eqb c a || listed s c

-- a range is its first number and the range behind it, and so the list of its n numbers
within_cons : (lo hi c : ℕ) → lo ≤ hi → within lo hi c ≡ (eqb c lo || within (lo + 1) hi c)
unfolding within
within_cons lo hi c h = go (dec_lt c lo) (dec_lt lo c)
  where
    go : Dec (c < lo) → Dec (lo < c) → within lo hi c ≡ (eqb c lo || within (lo + 1) hi c)
    go (yes k) d = simp (lt-leb lo c k, lt-leb (lo + 1) c (omega arith), ne_eqb c lo (λ e. omega arith))
    go (no k) (yes l) = simp (le-leb lo c (omega arith), le-leb (lo + 1) c (omega arith), ne_eqb c lo (λ e. omega arith))
    go (no k) (no l) = simp (le-leb lo c (omega arith), le-leb c hi (omega arith), eq-eqb c lo (omega arith))

within_none : (lo hi c : ℕ) → hi < lo → within lo hi c ≡ false
within_none lo hi c h = go (dec_lt c lo)
  where
    go : Dec (c < lo) → within lo hi c ≡ false
    go (yes k) = within_below lo hi c k
    go (no k) = within_above lo hi c (omega arith)

unfoldable span : ℕ → ℕ → List ℕ
span zero lo = []
span (suc n) lo = lo ∷ span n (lo + 1)

within_listed : (n lo hi c : ℕ) → hi + 1 ≡ lo + n → within lo hi c ≡ listed (span n lo) c
unfolding listed span
within_listed zero lo hi c e = within_none lo hi c (omega arith)
within_listed (suc n) lo hi c e =
    within_cons lo hi c (omega arith) ∙ ap (λ (b : Bool). eqb c lo || b) (within_listed n (lo + 1) hi c (omega arith))

pub white_listed : (c : ℕ) → white_of c ≡ listed whites c
unfolding white_of listed whites span
white_listed c =
    simp (within_listed 5 0x9 0xD c refl, within_listed 11 0x2000 0x200A c refl, within_listed 2 0x2028 0x2029 c refl, or_assoc, or-false)
