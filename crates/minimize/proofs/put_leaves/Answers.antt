-- One node more adds its terms where it is a leaf.
use Rattle.std.proofs.Common.{refl, ◌∙◌, arith, length-set}
use Rattle.std.proofs.lemmas.List.{take_more_set}
use Rattle.minimize.specs.Posed.{leaf_terms}
use Rattle.minimize.proofs.ArrayLaws.{leaf_more, none_more}
use Rattle.minimize.proofs.put_leaves.Goals as goal
use Rattle.minimize.proofs.put_leaves.Goals.{in-Leaf, in_default}

pub loop-x-init : goal.loop-x-init
unfolding leaf_terms
loop-x-init c = (omega arith, c.told-leaves, refl, tt)

pub loop-x-preserved : goal.loop-x-preserved
loop-x-preserved c =
    let l = c.loop-x in
    let v = l.invariant in
    elim c.match-x.branch [
      | in-Leaf b ↦
          let t = b.terms_of.ensures in
          let m = leaf_more _ l.x-index _ c.loop-x-test.true _ v.2 v.3 _ _ b.in-Leaf.is t.0 (t.1, t.2) in
          rw (b.n-is, b.leaves-is) (omega arith, rw length-set v.1, take_more_set _ l.n _ (omega arith) ∙ m.0, m.1)
      | in_default b ↦
          let m = none_more _ l.x-index _ c.loop-x-test.true _ v.2 v.3 (λ x e. b.in_default.not-Leaf x e) in
          rw (b.n-is, b.leaves-is) (omega arith, v.1, m.0, m.1)
    ]
