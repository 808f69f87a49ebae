-- The evaluator: a number is the stack of answers, its lowest bit the top, 64 deep. The code's own machinery, nothing to believe: that it answers
-- whether a set satisfies is proved where the nodes are known (crate minimize). A leaf has the mask of the licensees that satisfy it.
use Rattle.std.specs.Prelude.{ℕ, ◌+◌, ◌*◌, ◌/◌, ◌%◌, ◌^◌, List, fold, Bool, not, eqb}
use Rattle.std.specs.Int.Bits.{bit_and}
-- 1 for true, 0 for false
pub use Rattle.std.specs.Int.{from_bool as digit}
use Rattle.masks.specs.declared.Node.{Node}
use Rattle.masks.specs.declared.Node.TheVariants.{Leaf, And, Or}

-- the two masks share a licensee
unfoldable pub shares : ℕ → ℕ → Bool
shares a m = not (eqb (bit_and a m) 0)

unfoldable pub push : ℕ → ℕ → ℕ
push st d = st % 2 ^ 63 * 2 + d

-- the stack after a node, for the set m
unfoldable pub step : Node → ℕ → ℕ → ℕ
step (Leaf a) m st = push st (digit (shares a m))
step And m st = st / 4 * 2 + digit (eqb (st % 4) 3)
step Or m st = st / 4 * 2 + digit (not (eqb (st % 4) 0))

unfoldable pub run : List Node → ℕ → ℕ → ℕ
run nodes m st = fold (λ s x. step x m s) st nodes

unfoldable pub value : List Node → ℕ → Bool
value nodes m = eqb (run nodes m 0 % 2) 1
