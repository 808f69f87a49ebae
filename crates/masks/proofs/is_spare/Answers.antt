-- The shifted bit is 2^i, which a set with that member is not below.
use Rattle.std.proofs.Common.{◌∙◌, eq-eqb, ne_eqb}
use Rattle.masks.specs.Bits.{shl_one, bit_le}
use Rattle.masks.specs.Masks.{has, spare}
use Rattle.masks.proofs.is_spare.Goals as goal

pub overflow_sub-mask : goal.overflow_sub-mask
overflow_sub-mask c = rw (shl_one c.args.i c.requires) (bit_le c.args.mask c.args.i c.if-mask-i-eq1.true)

pub returns-then-mask-i-eq1 : goal.returns-then-mask-i-eq1
unfolding spare has
returns-then-mask-i-eq1 c =
    c.evaluate.ensures ∙ simp (shl_one c.args.i c.requires, eq-eqb _ _ c.if-mask-i-eq1.true)

pub returns-else-mask-i-eq1 : goal.returns-else-mask-i-eq1
unfolding spare has
returns-else-mask-i-eq1 c = simp (ne_eqb _ _ c.if-mask-i-eq1.false)
