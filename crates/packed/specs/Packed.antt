-- The number that an answer or a refusal becomes, and what a parse becomes. Document 01: "A refusal carries nothing but its number and the table's last column"; "If an
-- answer is an enum, a definition gives this paper's number and values for each of its cases". From bit 0 on: the refusal's number, 0 for an answer, 255 where what is
-- lent is too small. From bit 8 on: of a refusal its set, and from bit 16 on its span, or from bit 8 on its number; of an answer its form, and from bit 16 on its value.
use Rattle.std.specs.Prelude.{ℕ, ◌+◌, ◌*◌, ◌-◌, cond, List, leb, ltb, length, take, Ok, Err}
use Rattle.text.specs.Overlay.{overlay}
use Rattle.refusal.specs.Refused.{number_of, column_of, set_of}
use Rattle.refusal.specs.declared.Refusal.{Refusal}
use Rattle.refusal.specs.declared.Column.{Column}
use Rattle.refusal.specs.declared.Column.TheVariants.{Nothing, Place, PlaceAndSet, Number}
use Rattle.grammar.specs.Parsed.{Parsed}
use Rattle.packed.specs.Records.{records_of}

-- a number in a field that has room for less than n: the largest where it is larger
unfoldable pub clip : ℕ → ℕ → ℕ
clip n x = cond (ltb x n) x (n - 1)

-- two places, 24 bits each
unfoldable pub places : ℕ → ℕ → ℕ
places a b = clip 0x1000000 a * 0x10000 + clip 0x1000000 b * 0x10000000000

-- the table's last column
abbrev pub column_as : Column → ℕ
column_as Nothing = 0
column_as (Place s) = places s.start s.end
column_as (PlaceAndSet s e) = set_of e * 0x100 + places s.start s.end
column_as (Number n) = clip 0x100000000000000 n * 0x100

unfoldable pub refused_as : Refusal → ℕ
refused_as r = number_of r + column_as (column_of r)

-- an answer of a form, with its value
unfoldable pub answered_as : ℕ → ℕ → ℕ
answered_as form value = form * 0x100 + clip 0x1000000000000 value * 0x10000

-- what is lent is too small: so many are needed
unfoldable pub small_as : ℕ → ℕ
small_as n = 255 + clip 0x100000000000000 n * 0x100

-- a parse, where so many cells are lent: how many nodes; and the cells then
unfoldable pub parse_as : Parsed → List ℕ → ℕ
parse_as (Ok p) b = cond (leb (p.count * 16) (length b)) (answered_as 0 p.count) (small_as p.count)
parse_as (Err r) b = refused_as r

-- records in the front of what is lent, if it has room for them
abbrev pub room_for : List ℕ → List ℕ → List ℕ
room_for p b = cond (leb (length p) (length b)) (overlay 0 p b) b

unfoldable pub parse_cells : Parsed → List ℕ → List ℕ
parse_cells (Ok p) b = room_for (records_of (take p.count p.nodes)) b
parse_cells (Err r) b = b
