-- One licensee more is found, or passed over.
use Rattle.std.proofs.Common.{refl, sym, ◌∙◌, arith, length-set}
use Rattle.std.proofs.lemmas.List.{take_more_set}
use Rattle.minimize.specs.Minimize.{found_after, found_at}
use Rattle.minimize.specs.Posed.{found_terms, found_places}
use Rattle.minimize.proofs.ArrayLaws.{found_new, found_known, found_unwanted}
use Rattle.minimize.proofs.Sources.find.Goals as goal
use Rattle.minimize.proofs.Sources.find.Goals.{then-is_wanted+then-not-is_known, else-is_wanted, else-is_wanted-via-then-is_wanted+else-not-is_known, else-is_wanted-via-else-is_wanted}

pub loop-i-init : goal.loop-i-init
unfolding found_terms found_places found_after found_at
loop-i-init c = (omega arith, c.told-found, c.told-places, refl, refl)

pub loop-i-preserved : goal.loop-i-preserved
loop-i-preserved c =
    let l = c.loop-i in
    let v = l.invariant in
    let w = c.is_wanted.ensures in
    elim c.if-is_wanted.branch [
      | then-is_wanted+then-not-is_known b ↦
          let n = sym b.is_known.ensures ∙ b.if-not-is_known.true in
          let t = found_new _ _ _ _ l.i _ c.loop-i-test.true _ v.3 _ v.4 (sym w ∙ b.if-is_wanted.true) n in
          rw (b.k-is, b.found-is, b.places-is) (
            omega arith,
            rw length-set v.1,
            rw length-set v.2,
            take_more_set _ l.k _ (omega arith) ∙ t.0,
            take_more_set _ l.k _ (omega arith) ∙ t.1,
          )
      | else-is_wanted b ↦ rw (b.k-is, b.found-is, b.places-is) (elim b.else-is_wanted.branch [
        | else-is_wanted-via-then-is_wanted+else-not-is_known a ↦
            let n = sym a.is_known.ensures ∙ a.if-not-is_known.false in
            let t = found_known _ _ _ _ l.i _ c.loop-i-test.true _ v.3 _ v.4 (sym w ∙ a.if-is_wanted.true) n in
            (omega arith, v.1, v.2, t.0, t.1)
        | else-is_wanted-via-else-is_wanted a ↦
            let t = found_unwanted _ _ _ _ l.i _ c.loop-i-test.true _ v.3 _ v.4 (sym w ∙ a.if-is_wanted.false) in
            (omega arith, v.1, v.2, t.0, t.1)
      ])
    ]
