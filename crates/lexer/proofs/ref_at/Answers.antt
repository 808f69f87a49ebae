-- A prefix that stands at q ends inside the text.
use Rattle.std.proofs.Common.{◌∙◌, sym, arith}
use Rattle.text.specs.Text.{ascii}
use Rattle.text.specs.TextLaws.{stands_in}
use Rattle.lexer.specs.Lex.{ref_of}
use Rattle.lexer.specs.Shape.{ref_at}
use Rattle.lexer.proofs.ref_at.Goals as goal

pub overflow_add-start : goal.overflow_add-start
overflow_add-start c =
    let a = c.args in
    omega (arith, stands_in (ascii "LicenseRef-") a.s.now a.q (omega arith) (sym c.stands.ensures ∙ c.if-stands.true))

pub overflow_add-start-then-stands-2 : goal.overflow_add-start-then-stands-2
overflow_add-start-then-stands-2 c =
    let a = c.args in
    omega (arith, stands_in (ascii "AdditionRef-") a.s.now a.q (omega arith) (sym c.stands-2.ensures ∙ c.if-stands-2.true))

pub returns-then-stands : goal.returns-then-stands
unfolding ref_at ref_of
returns-then-stands c = simp (sym c.stands.ensures ∙ c.if-stands.true, ← c.ref_end-end.ensures)

pub returns-then-stands-2 : goal.returns-then-stands-2
unfolding ref_at ref_of
returns-then-stands-2 c =
    simp (
      sym c.stands.ensures ∙ c.if-stands.false,
      sym c.stands-2.ensures ∙ c.if-stands-2.true,
      ← c.ref_end-end-then-stands-2.ensures,
    )

pub returns : goal.returns
unfolding ref_at ref_of
returns c = simp (sym c.stands.ensures ∙ c.if-stands.false, sym c.stands-2.ensures ∙ c.if-stands-2.false)
