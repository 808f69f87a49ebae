-- What the search has found, or where it has come to, is where the count of the examined masks comes to.
use Rattle.std.proofs.Common.{sym, arith, rules, tests}
use Rattle.masks.specs.Value.{value}
use Rattle.masks.specs.Masks.{minimal}
use Rattle.masks.proofs.MasksLaws.{found_some, found_none, searched_found, searched_paused, searched_finished}
use Rattle.masks.proofs.search.Goals as goal

pub overflow_add-result : goal.overflow_add-result
overflow_add-result c =
    let p = minimal (value c.args.nodes.now) c.args.k in
    let t = found_some p c.args.cursor c.args.n _ _ _ c.find.ensures.ran (λ x b q k. search (rules, tests)) c.in-Some.mask c.in-Some.is in
    omega (arith, t.1)

pub returns-in-Some : goal.returns-in-Some
returns-in-Some c =
    let p = minimal (value c.args.nodes.now) c.args.k in
    let t = found_some p c.args.cursor c.args.n _ _ _ c.find.ensures.ran (λ x b q k. search (rules, tests)) c.in-Some.mask c.in-Some.is in
    sym (searched_found p c.args.end c.args.cursor c.args.n c.in-Some.mask t.0 t.1)

pub returns-in-None : goal.returns-in-None
returns-in-None c =
    let p = minimal (value c.args.nodes.now) c.args.k in
    let e = found_none p c.args.cursor c.args.n _ _ _ c.find.ensures.ran (λ x b q k. search (rules, tests)) c.in-None.is in
    sym (searched_paused p c.args.end c.args.cursor c.args.n _ e (omega arith) c.if-stop-end.true)

pub returns-in-None-2 : goal.returns-in-None-2
returns-in-None-2 c =
    let p = minimal (value c.args.nodes.now) c.args.k in
    let e = found_none p c.args.cursor c.args.n _ _ _ c.find.ensures.ran (λ x b q k. search (rules, tests)) c.in-None-2.is in
    sym (searched_finished p c.args.end c.args.cursor c.args.n _ e (omega arith) c.if-stop-end.false)
