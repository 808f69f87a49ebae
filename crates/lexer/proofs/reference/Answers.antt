-- A document part ends inside the text.
use Rattle.std.proofs.Common.{◌∙◌, sym, arith}
use Rattle.lexer.specs.Shape.{referred_of}
use Rattle.lexer.proofs.LexLaws.{document_in}
use Rattle.lexer.proofs.reference.Goals as goal

pub overflow_add-part : goal.overflow_add-part
overflow_add-part c =
    let a = c.args in
    omega (arith, document_in a.s.now a.p _ (sym c.document-doc.ensures ∙ c.in-Some.is))

pub returns-in-Some : goal.returns-in-Some
unfolding referred_of
returns-in-Some c = c.ref_at.ensures ∙ simp (← c.document-doc.ensures, c.in-Some.is)

pub returns-in-None : goal.returns-in-None
unfolding referred_of
returns-in-None c = c.ref_at-in-None.ensures ∙ simp (← c.document-doc.ensures, c.in-None.is)
