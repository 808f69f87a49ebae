-- How the names lie in the one constant table. Nothing to believe: the contracts of the lookups speak of Lookup.antt alone.
-- Document 01: "a directory of offsets, lengths and flags first, then the bodies".
use Rattle.std.specs.Prelude.{ℕ, zero, suc, ◌+◌, ◌*◌, ◌-◌, ◌/◌, ◌%◌, Bool, cond, ◌&&◌, ltb, List, [], ◌∷◌, ◌++◌, map, eqb, length, get_or, take, drop, Option, Some, None}
use Prim.Native.String.{String}
use Rattle.text.specs.Text.{ascii}
use Rattle.names.specs.Listed.{listed, exceptions, table_words}
use Rattle.names.specs.Lookup.{deprecated_of, gnu_of, is_later, later_of, only_of, stands_for, licence_texts, imprecise_texts, bytes_at}

-- a row of the table: a name and its mark
pub record Row : Type 0 where
  pub text : String
  pub mark : ℕ

abbrev pub row : String → ℕ → Row
row s m = record { text = s; mark = m }

-- how many places after k a partner stands, 0 where there is none
unfoldable pub distance : ℕ → Option ℕ → ℕ
distance k (Some j) = j - k
distance k None = 0

abbrev pub bit : Bool → ℕ
bit b = cond b 1 0

-- a licence's mark: deprecated 1, GNU 2, "-or-later" 4, then the distances to its "-or-later" and its "-only" name
unfoldable pub mark_of : ℕ → ℕ
mark_of k =
    bit (deprecated_of k) + 2 * bit (gnu_of k) + 4 * bit (is_later k) + 8 * distance k (later_of k) + 128 * distance k (only_of k)

unfoldable pub marked : ℕ → List String → List Row
marked k [] = []
marked k (n ∷ ns) = row n (mark_of k) ∷ marked (suc k) ns

unfoldable pub placed : Option ℕ → ℕ
placed (Some k) = k
placed None = 0

-- an imprecise name's mark is the place of the licence that it stands for
unfoldable pub stood_for : ℕ → List String → List Row
stood_for i [] = []
stood_for i (n ∷ ns) = row n (placed (stands_for i)) ∷ stood_for (suc i) ns

unfoldable pub rows : List Row
rows = marked 0 licence_texts ++ (map (λ (s : String). row s 0) exceptions ++ stood_for 0 imprecise_texts)

-- the directory of rows whose first body starts at `at`: offset and mark low byte first
unfoldable pub directory : ℕ → List Row → List ℕ
directory at [] = []
directory at (n ∷ ns) =
    at % 256 ∷ at / 256 ∷ length (ascii n.text) ∷ n.mark % 256 ∷ n.mark / 256 ∷ directory (at + length (ascii n.text)) ns

unfoldable pub bodies : List Row → List ℕ
bodies [] = []
bodies (n ∷ ns) = ascii n.text ++ bodies ns

unfoldable pub table_of : List Row → List ℕ
table_of ns = directory (5 * length ns) ns ++ bodies ns

-- bytes as one number, the first lowest
unfoldable pub value : List ℕ → ℕ
value [] = 0
value (b ∷ s) = b + 256 * value s

-- n words of eight bytes each
unfoldable pub pack : ℕ → List ℕ → List ℕ
pack zero s = []
pack (suc n) s = value (take 8 s) ∷ pack n (drop 8 s)

-- the words of the constant
unfoldable pub words : List ℕ
words = pack table_words (table_of rows)

-- what the table holds of the name k: its bytes, where they start, its mark
unfoldable pub texts : List Row → List String
texts ns = map (λ (n : Row). n.text) ns

unfoldable pub name_at : ℕ → List ℕ
name_at k = bytes_at (texts rows) k

unfoldable pub start_at : ℕ → ℕ
start_at k = 5 * length rows + length (bodies (take k rows))

unfoldable pub mark_at : ℕ → ℕ
mark_at k = (get_or rows k (row "" 0)).mark

-- the names from one place up to another
unfoldable pub part : ℕ → ℕ → List Row
part from to = take (to - from) (drop from rows)

-- the place that is some places after k, if it is any
unfoldable pub after_of : ℕ → ℕ → Option ℕ
after_of k places = cond (eqb places 0) None (Some (k + places))

-- has the licence k a flag in its mark; past the licences there is none
unfoldable pub flag_of : ℕ → ℕ → Bool
flag_of k flag = ltb k (length listed) && eqb (mark_at k / flag % 2) 1

-- the partner of the licence k whose distance stands in its mark from a unit on
unfoldable pub partner_of : ℕ → ℕ → Option ℕ
partner_of k unit = cond (ltb k (length listed)) (after_of k (mark_at k / unit % 16)) None
