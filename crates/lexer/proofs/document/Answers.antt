use mathlib.Core.Path.{sym, ◌∙◌}
use native.Mathlib.Omega.{arith}
use borrow.Author.Tests.{eq-eqb, ne_eqb}
use Rattle.text.specs.Text.{ascii}
use Rattle.text.specs.TextLaws.{stands_in}
use Rattle.lexer.specs.Shape.{document_of}
use Rattle.lexer.proofs.document.Goals as goal

-- the prefix that stands at p ends inside the text
pub overflow_add-result : goal.overflow_add-result
overflow_add-result c =
    let a = c.args in
    omega (arith, stands_in (ascii "DocumentRef-") a.s.now a.p (omega arith) (sym c.stands.ensures ∙ c.if-stands.true))

pub returns-then-byte-eq58 : goal.returns-then-byte-eq58
unfolding document_of
returns-then-byte-eq58 c =
    simp (
      sym c.stands.ensures ∙ c.if-stands.true,
      ← c.ref_end-e.ensures,
      ← c.byte.ensures,
      eq-eqb _ _ c.if-byte-eq58.true,
    )

pub returns-else-byte-eq58 : goal.returns-else-byte-eq58
unfolding document_of
returns-else-byte-eq58 c =
    simp (
      sym c.stands.ensures ∙ c.if-stands.true,
      ← c.ref_end-e.ensures,
      ← c.byte.ensures,
      ne_eqb _ _ c.if-byte-eq58.false,
    )

pub returns-else-stands : goal.returns-else-stands
unfolding document_of
returns-else-stands c = simp (sym c.stands.ensures ∙ c.if-stands.false)
