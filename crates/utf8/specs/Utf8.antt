-- Well-formed UTF-8 by Unicode's table 3-7, the character at a place, and white space.
-- Document 01: "well-formed UTF-8"; refusal 1, "p, where the first ill-formed sequence starts"; "White space is skipped first:
-- U+0009 to 000D, 0020, 0085, 00A0, 1680, 2000 to 200A, 2028, 2029, 202F, 205F, 3000"; refusal 20, "inside a character".
use Rattle.std.specs.Prelude.{ℕ, ◌+◌, ◌*◌, ◌%◌, Bool, cond, ◌&&◌, ◌||◌, List, [], ◌∷◌, Option, Some, None, get_or, leb, eqb}
use Rattle.text.specs.Text.{within}
use Rattle.text.specs.Walk.{reach}
use Rattle.utf8.specs.declared.Char.{Char}

abbrev pub ascii_byte : ℕ → Bool
ascii_byte b = leb b 0x7F

-- the least and the greatest second byte after the first byte a
unfoldable pub lowest : ℕ → ℕ
lowest a = cond (eqb a 0xE0) 0xA0 (cond (eqb a 0xF0) 0x90 0x80)

unfoldable pub highest : ℕ → ℕ
highest a = cond (eqb a 0xED) 0x9F (cond (eqb a 0xF4) 0x8F 0xBF)

-- the rows of table 3-7 with two, three and four bytes
unfoldable pub two : ℕ → ℕ → Bool
two a b = within 0xC2 0xDF a && within 0x80 0xBF b

unfoldable pub three : ℕ → ℕ → ℕ → Bool
three a b c = within 0xE0 0xEF a && within (lowest a) (highest a) b && within 0x80 0xBF c

unfoldable pub four : ℕ → ℕ → ℕ → ℕ → Bool
four a b c d = within 0xF0 0xF4 a && within (lowest a) (highest a) b && within 0x80 0xBF c && within 0x80 0xBF d

-- the character that the bytes a b c d begin with: its code point and its width, or none where they begin ill-formed
unfoldable pub decoded : ℕ → ℕ → ℕ → ℕ → Option Char
decoded a b c d =
    cond (leb a 0x7F) (Some (record { code = a; width = 1 }))
    (cond (two a b) (Some (record { code = a % 32 * 64 + b % 64; width = 2 }))
    (cond (three a b c) (Some (record { code = a % 16 * 4096 + b % 64 * 64 + c % 64; width = 3 }))
    (cond (four a b c d) (Some (record { code = a % 8 * 262144 + b % 64 * 4096 + c % 64 * 64 + d % 64; width = 4 }))
    None)))

-- the character at the front of a text: past its end stands 0, which continues no character
unfoldable pub front : List ℕ → Option Char
front [] = None
front (a ∷ s) = decoded a (get_or s 0 0) (get_or s 1 0) (get_or s 2 0)

-- how wide a character is, 0 where there is none
abbrev pub width_of : Option Char → ℕ
width_of None = 0
width_of (Some c) = c.width

-- how wide the character at the front is, 0 where the text is at its end or ill-formed there
unfoldable pub char_width : List ℕ → ℕ
char_width t = width_of (front t)

-- where the first ill-formed sequence starts, or the length where there is none
unfoldable pub first_ill : List ℕ → ℕ
first_ill s = reach char_width s 0

-- is a place of a well-formed text inside a character: the byte there continues one (specs/BoundaryLaws.antt shows that this is what it means)
unfoldable pub inside_of : List ℕ → ℕ → Bool
inside_of s at = within 0x80 0xBF (get_or s at 0)

-- white space, by its code point
unfoldable pub white_of : ℕ → Bool
white_of c =
    within 0x9 0xD c || eqb c 0x20 || eqb c 0x85 || eqb c 0xA0 || eqb c 0x1680 || within 0x2000 0x200A c
    || within 0x2028 0x2029 c || eqb c 0x202F || eqb c 0x205F || eqb c 0x3000

-- how wide a character is as white space, 0 where it is none
abbrev pub white_in : Option Char → ℕ
white_in None = 0
white_in (Some c) = cond (white_of c.code) c.width 0

-- how wide the white space character at the front is, 0 where there is none
unfoldable pub white_width : List ℕ → ℕ
white_width t = white_in (front t)

-- the place after the white space at a place
unfoldable pub past_white : List ℕ → ℕ → ℕ
past_white s at = reach white_width s at
