use Rattle.std.proofs.Common.{sym, arith, rules, tests}
use Rattle.masks.specs.Value.{value}
use Rattle.masks.proofs.MasksLaws.{found_some, found_none, settled_mask, settled_paused}
use Rattle.masks.proofs.settle.Goals as goal

pub returns-in-Some : goal.returns-in-Some
returns-in-Some c =
    let p = value c.args.nodes.now in
    let t = found_some p 1 c.args.n _ _ _ c.find.ensures.ran (λ x b q k. search (rules, tests)) c.in-Some.mask c.in-Some.is in
    sym (settled_mask p c.args.n c.in-Some.mask t.0 t.1)

pub returns-in-None : goal.returns-in-None
returns-in-None c =
    let p = value c.args.nodes.now in
    let e = found_none p 1 c.args.n _ _ _ c.find.ensures.ran (λ x b q k. search (rules, tests)) c.in-None.is in
    sym (settled_paused p c.args.n _ e (omega arith))
