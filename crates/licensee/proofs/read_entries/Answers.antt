use Rattle.std.proofs.Common.{rules, ◌≡◌, Err, sym, ap, ◌∙◌, arith}
use Rattle.licensee.specs.Terms.{accepted_of}
use Rattle.licensee.proofs.FileLaws.{walk_start, walk_on, walk_wrong, walk_after, walk_read, walk_small}
use Rattle.licensee.proofs.read_entries.Goals as goal

pub loop-i-init : goal.loop-i-init
loop-i-init c = rw c.requires.2 (walk_start _ _ c.requires.0)

pub offer-requires : goal.offer-requires
offer-requires c = (omega arith, omega (arith, c.loop-i.invariant.due), c.get16-n.ensures.0)

pub returns-in_err-l : goal.returns-in_err-l
returns-in_err-l c =
    let e = walk_wrong c.loop-i.invariant _ c.loop-i-test.true (sym c.offer.ensures ∙ c.in_err-l.was) in
    let r : c.from_residual.result ≡ Err c.in_err-l.field-0.0 = search rules in
    (rw r (ap accepted_of (sym e)), rw e tt)

pub overflow_add-a-in-loop-i : goal.overflow_add-a-in-loop-i
overflow_add-a-in-loop-i c = omega (arith, c.loop-i.invariant.due)

pub loop-i-preserved : goal.loop-i-preserved
loop-i-preserved c =
    let x = c.terms_of in
    walk_on
    c.loop-i.invariant
    c.in_ok-l.l
    x.result
    c.get16-n.result
    c.requires.0
    c.loop-i-test.true
    x.ensures.0
    c.get16-n.ensures.0
    (sym c.offer.ensures ∙ c.in_ok-l.was)
    (x.ensures.1, x.ensures.2)

pub returns-then-a-file : goal.returns-then-a-file
returns-then-a-file c =
    let e = walk_after c.loop-i.invariant c.loop-i-test.false c.if-a-file.true in
    (ap accepted_of (sym e), rw e tt)

pub returns : goal.returns
returns c =
    let w = c.loop-i.invariant in
    (walk_read w c.loop-i-test.false c.if-a-file.false, walk_small w c.loop-i-test.false c.if-a-file.false)
