-- 2^k is the shifted bit, and a cursor that the range from 1 to it has not is refused.
use Rattle.std.proofs.Common.{ap, sym, ◌∙◌, Ok, ◌^◌, ◌≤◌, rules, tests, arith}
use Rattle.masks.specs.Bits.{shl_one}
use Rattle.masks.proofs.MasksLaws.{listed_bad, listed_none, listed_some}
use Rattle.masks.proofs.list.Goals as goal

pub returns-then-not-contains : goal.returns-then-not-contains
returns-then-not-contains c =
    let e = shl_one c.args.k c.requires in
    sym (listed_bad _ c.args.k _ _ (grind (arith, tests, rules, e, c.contains.ensures.value, c.if-not-contains.true)))

pub returns-then-budget-eq0 : goal.returns-then-budget-eq0
returns-then-budget-eq0 c =
    let e = shl_one c.args.k c.requires in
    let low : 1 ≤ c.args.cursor = grind (arith, tests, rules, c.contains.ensures.value, c.if-not-contains.false) in
    let high : c.args.cursor ≤ 2 ^ c.args.k = grind (arith, tests, rules, e, c.contains.ensures.value, c.if-not-contains.false) in
    sym (listed_none _ c.args.k _ _ low high c.if-budget-eq0.true)

pub returns : goal.returns
returns c =
    let e = shl_one c.args.k c.requires in
    let low : 1 ≤ c.args.cursor = grind (arith, tests, rules, c.contains.ensures.value, c.if-not-contains.false) in
    let high : c.args.cursor ≤ 2 ^ c.args.k = grind (arith, tests, rules, e, c.contains.ensures.value, c.if-not-contains.false) in
    ap Ok (rw e at c.search.ensures) ∙ sym (listed_some _ c.args.k _ _ low high c.if-budget-eq0.false _ (sym (rw e at c.min.ensures)))
