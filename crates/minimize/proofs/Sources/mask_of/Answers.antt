-- One licensee more sets its bit, or leaves the mask as it is.
use Rattle.std.proofs.Common.{ℕ, ◌+◌, refl, sym, ap, ◌∙◌, arith, pow_mono}
use Rattle.masks.specs.Bits.{shl_one}
use Rattle.minimize.specs.Posed.{bits, mask_of}
use Rattle.minimize.proofs.ArrayLaws.{mask_below, mask_on, mask_off}
use Rattle.minimize.proofs.Sources.mask_of.Goals as goal
use Rattle.minimize.proofs.Sources.mask_of.Goals.{then-satisfies, else-satisfies}

pub loop-i-init : goal.loop-i-init
unfolding bits mask_of
loop-i-init c = refl

pub overflow_add-m : goal.overflow_add-m
overflow_add-m c =
    let l = c.loop-i in
    let e = shl_one l.i (omega arith) in
    let p = pow_mono {i = l.i} {j = 30} (omega arith) in
    let b = mask_below _ _ _ _ l.i c.args.x c.loop-i-test.true _ l.invariant in
    omega (arith, e, p, b)

pub loop-i-preserved : goal.loop-i-preserved
loop-i-preserved c =
    let l = c.loop-i in
    let r = c.satisfies.ensures in
    let h = c.loop-i-test.true in
    let e = shl_one l.i (omega arith) in
    elim c.if-satisfies.branch [
      | then-satisfies v ↦ v.m-is ∙ ap (λ (b : ℕ). l.m + b) e ∙ mask_on _ _ _ _ l.i _ h _ l.invariant (sym r ∙ v.if-satisfies.true)
      | else-satisfies v ↦ v.m-is ∙ mask_off _ _ _ _ l.i _ h _ l.invariant (sym r ∙ v.if-satisfies.false)
    ]
