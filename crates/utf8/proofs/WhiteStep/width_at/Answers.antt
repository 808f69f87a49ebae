-- By the byte alone where it is ASCII, else by the character.
use Rattle.std.proofs.Common.{sym, ap, ◌∙◌, ℕ, arith}
use Rattle.std.specs.Prelude.{cond}
use Rattle.utf8.specs.Utf8.{white_of}
use Rattle.utf8.specs.Laws.{white_is, white_not, white_none, ascii_white}
use Rattle.utf8.proofs.WhiteStep.width_at.Goals as goal

pub returns-then-b-le127 : goal.returns-then-b-le127
returns-then-b-le127 c =
    let a = c.args in
    c.ascii_white.ensures ∙ ap (λ (x : ℕ). cond (white_of x) 1 0) c.byte-b.ensures
    ∙ ascii_white a.s.now a.at (omega (arith, c.byte-b.ensures, c.if-b-le127.true))

pub returns-in-Some : goal.returns-in-Some
returns-in-Some c = white_is _ _ (sym c.char_at.ensures ∙ c.in-Some.is) (sym c.is_white.ensures ∙ c.if-is_white.true)

pub returns-in_default : goal.returns-in_default
returns-in_default c = white_not _ _ (sym c.char_at.ensures ∙ c.in-Some.is) (sym c.is_white.ensures ∙ c.if-is_white.false)

pub returns-in_default-2 : goal.returns-in_default-2
returns-in_default-2 c = white_none _ (sym c.char_at.ensures ∙ c.in_default.is)
