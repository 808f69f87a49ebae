-- What is written and what is left of the tokens make the canonical text.
use Rattle.std.proofs.Common.{sym, ap, subst, ◌∙◌, arith, ℕ, Result, Ok}
use Rattle.refusal.proofs.Passed.{passed}
use Rattle.refusal.specs.declared.Refusal.{Refusal}
use Rattle.canonical.specs.Canonical.{canonical_of}
use Rattle.canonical.specs.Turn.{Drafted}
use Rattle.canonical.specs.Drafting.{drafting_start, drafting_standing, drafting_room, drafting_done, drafting_refused, drafting_token}
use Rattle.canonical.proofs.compose.Goals as goal

pub loop-got-init : goal.loop-got-init
loop-got-init c = drafting_start c.args.s.now _ c.requires.0

pub returns-in_err-got : goal.returns-in_err-got
returns-in_err-got c =
    let p = passed c.from_residual.result c.from_residual.ensures.1 in
    let w = drafting_refused _ _ _ _ _ c.loop-got.invariant c.requires.1 _ c.lax-m.ensures _ (sym c.scan.ensures ∙ c.in_err-got.was) in
    subst (λ (x : Result ℕ Refusal). Drafted (canonical_of c.args.s.now) x c.loop-got.out) (sym (p)) w

pub put_token-requires : goal.put_token-requires
put_token-requires c =
    let e = sym c.scan.ensures ∙ c.in_ok-got.was ∙ ap Ok c.in-Some.is in (
      drafting_standing _ _ _ _ _ c.loop-got.invariant c.requires.1 _ c.lax-m.ensures _ e,
      drafting_room _ _ _ _ _ c.loop-got.invariant c.requires.1 _ c.lax-m.ensures _ e,
    )

pub returns-in_err-place : goal.returns-in_err-place
returns-in_err-place c =
    let p = passed c.from_residual-in_err-place.result c.from_residual-in_err-place.ensures.1 in
    let w =
    drafting_token _ _ _ _ _ c.loop-got.invariant c.requires.1 _ c.lax-m.ensures _
    (sym c.scan.ensures ∙ c.in_ok-got.was ∙ ap Ok c.in-Some.is) _ _ c.put_token.ensures _ c.in_err-place.was in
    subst (λ (x : Result ℕ Refusal). Drafted (canonical_of c.args.s.now) x c.put_token.new.out) (sym (p)) w

pub loop-got-smaller : goal.loop-got-smaller
loop-got-smaller c =
    let o =
    drafting_token _ _ _ _ _ c.loop-got.invariant c.requires.1 _ c.lax-m.ensures _
    (sym c.scan.ensures ∙ c.in_ok-got.was ∙ ap Ok c.in-Some.is) _ _ c.put_token.ensures _ c.in_ok-place.was in
    omega (arith, o.0, o.1.inside)

pub loop-got-preserved : goal.loop-got-preserved
loop-got-preserved c =
    let o =
    drafting_token _ _ _ _ _ c.loop-got.invariant c.requires.1 _ c.lax-m.ensures _
    (sym c.scan.ensures ∙ c.in_ok-got.was ∙ ap Ok c.in-Some.is) _ _ c.put_token.ensures _ c.in_ok-place.was in
    o.1

pub returns : goal.returns
returns c = drafting_done _ _ _ _ _ c.loop-got.invariant c.requires.1 _ c.lax-m.ensures (sym c.scan.ensures ∙ c.in_ok-got.was ∙ ap Ok c.in_default.is)
