-- A text begins with p where its front of p's length is p, which `starts_with` compares byte by byte; where there is no text left, only nothing stands.
use Rattle.std.proofs.Common.{◌≡◌, ◌∙◌, sym, refl, ap, ℕ, ◌-◌, List, [], ◌∷◌, arith, length, drop, length-drop, take_all, ne_eqb, drop_of_length-le}
use lib.Dec.{eqb}
use Rattle.text.specs.Text.{begins}
use Rattle.text.proofs.Pointwise.{begins_pointwise, begins_apart}
use Rattle.text.proofs.stands.Goals as goal

begins_nothing : (p : List ℕ) → eqb (length p) 0 ≡ begins p []
unfolding begins
begins_nothing [] = refl
begins_nothing (a ∷ p) = ne_eqb (length (a ∷ p)) 0 (λ e. absurd (omega arith))

pub returns-in-Some : goal.returns-in-Some
returns-in-Some c =
    let a = c.args in
    let t = drop a.at a.s.now in
    let e : c.in-Some.rest.now ≡ drop a.at a.s.now
    = c.in-Some.ensures.lookup.0.2 ∙ take_all (length a.s.now - a.at) t (omega (arith, length-drop a.at a.s.now)) in
    grind (arith, begins_pointwise, begins_apart a.p.now t)

pub returns-in-None : goal.returns-in-None
returns-in-None c =
    let a = c.args in
    c.is_empty.ensures ∙ begins_nothing a.p.now
    ∙ ap (begins a.p.now) (sym (drop_of_length-le a.s.now (omega (arith, c.in-None.ensures.lookup.0))))
