-- An imprecise name ends inside the text; none is found, or none is allowed, where the mode is asked for unknown terms.
use Rattle.std.proofs.Common.{◌∙◌, sym, arith, drop, length-drop}
use Rattle.names.proofs.Fits.{imprecise_fits}
use Rattle.lexer.specs.Lex.{imprecise_at}
use Rattle.lexer.specs.Shape.{loose_of}
use Rattle.lexer.proofs.loose.Goals as goal
use Rattle.lexer.proofs.loose.Goals.{then-m+in_default, else-m}

pub overflow_add-result : goal.overflow_add-result
overflow_add-result c =
    let a = c.args in
    let h = imprecise_fits (drop a.p a.s.now) _ (sym c.imprecise.ensures ∙ c.in-Some.is) in
    omega (arith, h.fits, length-drop a.p a.s.now)

pub returns-in-Some : goal.returns-in-Some
unfolding loose_of imprecise_at
returns-in-Some c = simp (c.if-m.true, ← c.imprecise.ensures, c.in-Some.is)

pub returns : goal.returns
unfolding loose_of imprecise_at
returns c =
    c.unknown.ensures ∙ elim c.if-m.branch [
      | then-m+in_default w ↦ simp (w.if-m.true, ← w.imprecise.ensures, w.in_default.is)
      | else-m w ↦ simp w.if-m.false
    ]
