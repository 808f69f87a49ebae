-- The search is among the lesser of the budget and all masks, and the mask of all satisfies, so it never has to go on behind them.
use Rattle.std.proofs.Common.{sym, ap, ◌∙◌, Ok}
use Rattle.masks.specs.Bits.{shl_one}
use Rattle.masks.proofs.MasksLaws.{chosen_unmet, chosen_none, chosen_within}
use Rattle.masks.proofs.choose.Goals as goal

pub returns-then-not-evaluate : goal.returns-then-not-evaluate
returns-then-not-evaluate c =
    let e = sym c.evaluate.ensures ∙ c.if-not-evaluate.true in
    sym (chosen_unmet _ c.args.k _ (rw (shl_one c.args.k c.requires.0) at e))

pub returns-then-budget-eq0 : goal.returns-then-budget-eq0
returns-then-budget-eq0 c =
    let e = sym c.evaluate.ensures ∙ c.if-not-evaluate.false in
    sym (chosen_none _ c.args.k _ (rw (shl_one c.args.k c.requires.0) at e) c.if-budget-eq0.true)

pub returns : goal.returns
returns c =
    let k = c.args.k in
    let e = shl_one k c.requires.0 in
    let a = sym c.evaluate.ensures ∙ c.if-not-evaluate.false in
    ap Ok c.settle.ensures ∙ sym (chosen_within _ k _ (rw e at a) c.if-budget-eq0.false c.requires.1 _ (rw e at c.min.ensures))
