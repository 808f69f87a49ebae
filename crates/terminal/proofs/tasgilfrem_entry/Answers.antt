-- By the place of the entry, which has its end behind its start.
use Prim.Native.Nat.{◌≤◌, ◌-◌}
use mathlib.Core.Path.{sym, ap, subst, ◌∙◌}
use lib.Dec.{eqb}
use borrow.Author.Tests.{eq-eqb, ne_eqb}
use Rattle.text.specs.Tests.{cond_true, cond_false}
use Rattle.refusal.specs.declared.Span.{Span}
use Rattle.licensee.proofs.FileLaws.{place_part}
use Rattle.terminal.specs.Answers.{entry_as}
use Rattle.terminal.proofs.tasgilfrem_entry.Goals as goal

pub overflow_sub-n : goal.overflow_sub-n
overflow_sub-n c =
    let a = c.args in
    subst (λ (p : Span). p.start ≤ p.end) (sym c.place-place.ensures) (place_part a.file.now a.index).0

pub returns-then-n-eq0 : goal.returns-then-n-eq0
unfolding entry_as
returns-then-n-eq0 c =
    let p = c.place-place in
    sym (cond_true (eqb (p.result.end - p.result.start) 0) _ _ (eq-eqb _ 0 c.if-n-eq0.true)) ∙ ap entry_as p.ensures

pub returns : goal.returns
unfolding entry_as
returns c =
    let p = c.place-place in
    rw c.two_places.ensures.0 (sym (cond_false (eqb (p.result.end - p.result.start) 0) _ _ (ne_eqb _ 0 c.if-n-eq0.false)) ∙ ap entry_as p.ensures)
