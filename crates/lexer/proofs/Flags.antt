-- Which flags the lexer looks at: slash, imprecise and unknown. The two others, gnu_plus and deprecated, never change a token.
use Rattle.lexer.specs.declared.Token.{Token}
use Rattle.refusal.specs.declared.Refusal.{Refusal}
use Rattle.lexer.specs.Step.{Step}
use Rattle.std.specs.Prelude.{ℕ, suc, ◌+◌, ◌-◌, ◌≡◌, Bool, true, false, ◌&&◌, ◌||◌, List, eqb, leb, ltb, length, get_or, Some, None, Result, Ok, Err, ⊤, Option}
use Rattle.std.proofs.Math.Path.{refl}
use Rattle.std.proofs.Common.{sym, ◌∙◌, ap}
use Rattle.std.proofs.Math.Bool.{cond}
use Rattle.utf8.specs.Utf8.{inside_of, past_white}
use Rattle.mode.specs.declared.Mode.{Mode}
use Rattle.lexer.specs.declared.Token.TheVariants.{Or}
use Rattle.lexer.specs.Lex.{run_end, imprecise_at, unknown_of, word_of, got, told, run_of, mark_of, scan_of, check_of, from_of, if_fine, step_of}
use Rattle.lexer.specs.Tokens.{Tokens, and_then, walked, tokens_of, steps_of}
use Rattle.lexer.proofs.TokensLaws.{Next, walked_same}

-- two modes that agree in the flags of the lexer
pub record Alike (m n : Mode) : Type 0 where
  pub slash : m.slash ≡ n.slash
  pub imprecise : m.imprecise ≡ n.imprecise
  pub unknown : m.unknown ≡ n.unknown

-- the same answer, with another mode in its next cursor
abbrev pub remode : Mode → Step → Step
remode n (Ok (Some g)) = Ok (Some record { token = g.token; span = g.span; next = record { mode = n; at = g.next.at } })
remode n (Ok None) = (Ok None)
remode n (Err r) = Err r

module _ (m n : Mode) (alike : Alike m n) where
  cond_remode : (b : Bool) (x y u v : Step) → u ≡ remode n x → v ≡ remode n y → cond b u v ≡ remode n (cond b x y)
  cond_remode true x y u v f g = f
  cond_remode false x y u v f g = g

  module _ (s : List ℕ) where
    -- a run is the same word
    pub word_flags : (p e : ℕ) → word_of s m p e ≡ word_of s n p e
    unfolding word_of imprecise_at unknown_of
    word_flags p e = rw (alike.imprecise, alike.unknown)

    told_remode : (p e : ℕ) (w : Option (Token × ℕ)) → told n p e w ≡ remode n (told m p e w)
    told_remode p e (Some (t, x)) = refl
    told_remode p e None = refl

    run_flags : (p : ℕ) → run_of s n p ≡ remode n (run_of s m p)
    unfolding run_of
    run_flags p =
        cond_remode (eqb (run_end s p) p) _ _ _ _ refl
        (ap (told n p (run_end s p)) (sym (word_flags p (run_end s p)))
        ∙ told_remode p (run_end s p) (word_of s m p (run_end s p)))

    mark_flags : (at p : ℕ) → mark_of s n at p ≡ remode n (mark_of s m at p)
    unfolding mark_of
    mark_flags at p =
        cond_remode (leb (length s) p) _ _ _ _ refl
        (cond_remode (eqb (get_or s p 0) 0x2B) _ _ _ _ (cond_remode (eqb p at) _ _ _ _ refl refl)
        (cond_remode (eqb (get_or s p 0) 0x28) _ _ _ _ refl
        (cond_remode (eqb (get_or s p 0) 0x29) _ _ _ _ refl
        (ap (λ (b : Bool). cond (eqb (get_or s p 0) 0x2F && b) (got n Or p (p + 1)) (run_of s n p)) (sym alike.slash)
        ∙ cond_remode (eqb (get_or s p 0) 0x2F && m.slash) _ _ _ _ refl (run_flags p)))))

    -- a step answers the same but for its next cursor's mode
    pub scan_flags : (at : ℕ) → scan_of s n at ≡ remode n (scan_of s m at)
    unfolding scan_of
    scan_flags at = mark_flags at (past_white s at)

    -- so does the public step
    pub step_flags : (at : ℕ) → step_of s n at ≡ remode n (step_of s m at)
    unfolding step_of from_of
    step_flags at = go (check_of s)
      where
        go : (c : Result ⊤ Refusal) → if_fine c (from_of s n at) ≡ remode n (if_fine c (from_of s m at))
        go (Ok tt) = cond_remode (ltb (length s) at || inside_of s at) _ _ _ _ refl (scan_flags at)
        go (Err r) = refl

    -- a next cursor's mode is in no token
    then_remode : (st : Step) (go : ℕ → Tokens) → and_then st go ≡ and_then (remode n st) go
    then_remode (Ok (Some g)) go = refl
    then_remode (Ok None) go = refl
    then_remode (Err r) go = refl

    walked_flags : (f g : ℕ → Step) → ((at : ℕ) → g at ≡ remode n (f at)) → (k at : ℕ) → walked f k at ≡ walked g k at
    walked_flags f g e k at =
        walked_same f g (λ x. Unit {0})
        (λ x q go. then_remode (f x) go ∙ ap (λ (st : Step). and_then st go) (sym (e x))) (λ x q. any (g x)) k at tt
      where
        any : (st : Step) → Next (λ x. Unit {0}) st
        any (Ok (Some g)) = tt
        any (Ok None) = tt
        any (Err r) = tt

    -- so all tokens are the same
    pub tokens_flags : (at : ℕ) → tokens_of s m at ≡ tokens_of s n at
    unfolding tokens_of
    tokens_flags at = walked_flags (scan_of s m) (scan_of s n) scan_flags (suc (length s - at)) at

    -- so they are by the public step
    pub steps_flags : (at : ℕ) → steps_of s m at ≡ steps_of s n at
    unfolding steps_of
    steps_flags at = walked_flags (step_of s m) (step_of s n) step_flags (suc (length s - at)) at
