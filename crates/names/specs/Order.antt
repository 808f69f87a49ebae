-- The order of runs by their bytes: a run stands before those that it begins. Document 01: "Strictly ascending by bytes".
use Rattle.std.specs.Prelude.{◌≡◌, List, [], ◌∷◌, length}
use Prim.Native.Nat.{ℕ, ◌<◌, compare, Ordering}
use Prim.Native.String.{String}
use Rattle.std.specs.declared.cmp.Ordering as Cmp
use Rattle.std.specs.declared.cmp.Ordering.TheVariants.{Less, Equal, Greater}
use Rattle.names.specs.Lookup.{bytes_at}

abbrev pub onward : Ordering → Cmp.Ordering → Cmp.Ordering
onward Ordering.lt o = Less
onward Ordering.eq o = o
onward Ordering.gt o = Greater

unfoldable pub order : List ℕ → List ℕ → Cmp.Ordering
order [] [] = Equal
order [] (y ∷ ys) = Less
order (x ∷ xs) [] = Greater
order (x ∷ xs) (y ∷ ys) = onward (compare x y) (order xs ys)

-- strictly ascending by bytes
unfoldable pub Ascending : List String → Type 0
Ascending ns = (i j : ℕ) → i < j → j < length ns → order (bytes_at ns i) (bytes_at ns j) ≡ Less
