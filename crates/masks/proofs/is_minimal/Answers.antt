use Rattle.std.proofs.Common.{ap, not, sym, ◌∙◌, rules, tests, arith, refl}
use Rattle.std.proofs.Math.Nat.{sub-zero}
use Rattle.std.proofs.lemmas.Iterator.{YieldsList-from_range}
use Rattle.std.proofs.lemmas.Iterator.Search.{any_from_yields_List}
use Rattle.masks.specs.Value.{value}
use Rattle.masks.specs.Masks.{spare, minimal}
use Rattle.masks.proofs.MasksLaws.{any_first}
use Rattle.masks.proofs.is_minimal.Goals as goal

pub returns-then-evaluate : goal.returns-then-evaluate
unfolding minimal
returns-then-evaluate c =
    let p = spare (value c.args.nodes.now) c.args.mask in
    let k = c.args.k in
    let e = any_from_yields_List p _ _ c.any.result c.any.ensures.ran (YieldsList-from_range 0 k k refl (sub-zero k)) (λ x b q h. search (rules, tests)) in
    ap not e ∙ any_first p 0 k k (omega arith) ∙ simp (sym c.evaluate.ensures ∙ c.if-evaluate.true)

pub returns-else-evaluate : goal.returns-else-evaluate
unfolding minimal
returns-else-evaluate c = simp (c.if-evaluate.false, sym c.evaluate.ensures ∙ c.if-evaluate.false)
