-- The row of the table that the part and the place say.
use Prim.Native.Nat.{ℕ}
use mathlib.Core.Path.{sym, ap, ◌∙◌}
use mathlib.Core.List.{List}
use Rattle.names.specs.Listed.{listed_count}
use Rattle.names.proofs.LayoutLaws.{counts}
use Rattle.terminal.specs.Answers.{name_in, name_as, name_bytes}
use Rattle.terminal.proofs.NameLaws.{of_licences, of_exceptions, no_licence, no_exception, name_none}
use Rattle.terminal.proofs.tasgilfrem_name.Goals as goal

pub put_name-requires : goal.put_name-requires
put_name-requires c = omega (counts, c.if-place-lt-LICENCES.true)

pub returns-then-place-lt-LICENCES : goal.returns-then-place-lt-LICENCES
returns-then-place-lt-LICENCES c =
    let a = c.args in
    let p = c.put_name.ensures in
    let e = of_licences a.part a.place c.if-part-eq0.true (omega (counts, c.if-place-lt-LICENCES.true)) in
    (p.0 ∙ ap (λ (n : List ℕ). name_as n a.out.now) e, p.1 ∙ ap (λ (n : List ℕ). name_bytes n a.out.now) e)

pub returns-then-part-eq0 : goal.returns-then-part-eq0
returns-then-part-eq0 c =
    let a = c.args in
    let n = name_none (name_in a.part a.place) a.out.now (no_licence a.part a.place c.if-part-eq0.true (omega (counts, c.if-place-lt-LICENCES.false))) in
    (c.answered.ensures ∙ n.0, n.1)

pub put_name-requires-then-place : goal.put_name-requires-then-place
put_name-requires-then-place c = omega (counts, c.if-place.true)

pub returns-then-place : goal.returns-then-place
returns-then-place c =
    let a = c.args in
    let p = c.put_name-then-place.ensures in
    let e = of_exceptions a.part a.place c.if-part-eq0.false (omega (counts, c.if-place.true)) _ (sym listed_count) in
    (p.0 ∙ ap (λ (n : List ℕ). name_as n a.out.now) e, p.1 ∙ ap (λ (n : List ℕ). name_bytes n a.out.now) e)

pub returns : goal.returns
returns c =
    let a = c.args in
    let n = name_none (name_in a.part a.place) a.out.now (no_exception a.part a.place c.if-part-eq0.false (omega (counts, c.if-place.false))) in
    (c.answered-2.ensures ∙ n.0, n.1)
