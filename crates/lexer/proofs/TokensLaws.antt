-- Laws of all tokens of a text: they are a step's and then those from its next cursor on, and the public step gives the same.
use Rattle.lexer.specs.Step.{Step}
use Prim.Native.Nat.{ℕ, zero, suc, ◌-◌, ◌<◌}
use Rattle.std.specs.Prelude.{◌≡◌, List, Some, None, Ok, Err}
use Rattle.std.proofs.Math.Path.{refl, ap, subst}
use Rattle.std.proofs.Common.{◌∙◌, arith}
use Rattle.std.proofs.Math.ListN.{length}
use Rattle.utf8.specs.Boundary.{Boundary}
use Rattle.refusal.specs.declared.Refusal.{Refusal}
use Rattle.mode.specs.declared.Mode.{Mode}
use Rattle.lexer.specs.Lex.{scan_of, check_of, step_of}
use Rattle.lexer.specs.Tokens.{Tokens, refused, token, and_then, walked, tokens_of, steps_of}
use Rattle.lexer.proofs.Ahead.{Ahead, scan_ahead, step_ahead}
use Rattle.lexer.proofs.Agree.{fine_well, step_bad, step_scan}
use Rattle.lexer.proofs.Between.{Between, scan_between}

-- a step that goes ahead
module _ (s : List ℕ) (m : Mode) (f : ℕ → Step) (ahead : (at : ℕ) → Ahead s m at (f at)) where
  -- with enough steps it does not matter how many
  pub walked_enough : (n k at : ℕ) → length s - at < n → length s - at < k → walked f n at ≡ walked f k at
  unfolding walked
  walked_enough zero k at h i = absurd (omega arith)
  walked_enough (suc n) zero at h i = absurd (omega arith)
  walked_enough (suc n) (suc k) at h i = go (λ x. walked_enough n k x) (f at) (ahead at)
    where
      go : ((x : ℕ) → length s - x < n → length s - x < k → walked f n x ≡ walked f k x)
          → (st : Step) → Ahead s m at st → and_then st (walked f n) ≡ and_then st (walked f k)
      go ih (Ok (Some g)) a = ap (token g.token g.span) (ih g.next.at (omega arith) (omega arith))
      go ih (Ok None) a = refl
      go ih (Err r) a = refl

  -- one more step than the bytes that are left: the step's answer, then all from its next cursor on
  pub walked_step : (at : ℕ) → walked f (suc (length s - at)) at ≡ and_then (f at) (λ x. walked f (suc (length s - x)) x)
  unfolding walked
  walked_step at = go (f at) (ahead at)
    where
      go : (st : Step) → Ahead s m at st → and_then st (walked f (length s - at)) ≡ and_then st (λ x. walked f (suc (length s - x)) x)
      go (Ok (Some g)) a =
          ap (token g.token g.span) (walked_enough (length s - at) (suc (length s - g.next.at)) g.next.at (omega arith) (omega arith))
      go (Ok None) a = refl
      go (Err r) a = refl

-- the next cursor is at a place where P holds
abbrev pub Next : (ℕ → Type 0) → Step → Type 0
Next P (Ok (Some g)) = P g.next.at
Next P (Ok None) = Unit {0}
Next P (Err r) = Unit {0}

-- two steps that differ in no token at the places where P holds, and keep to these places, give the same tokens
pub walked_same : (f g : ℕ → Step) (P : ℕ → Type 0)
    → ((at : ℕ) → P at → (go : ℕ → Tokens) → and_then (f at) go ≡ and_then (g at) go)
    → ((at : ℕ) → P at → Next P (g at)) → (n at : ℕ) → P at → walked f n at ≡ walked g n at
unfolding walked
walked_same f g P same kept zero at p = refl
walked_same f g P same kept (suc n) at p =
    same at p (walked f n) ∙ go (λ x q. walked_same f g P same kept n x q) (g at) (kept at p)
  where
    go : ((x : ℕ) → P x → walked f n x ≡ walked g n x) → (st : Step) → Next P st
        → and_then st (walked f n) ≡ and_then st (walked g n)
    go ih (Ok (Some g)) q = ap (token g.token g.span) (ih g.next.at q)
    go ih (Ok None) q = refl
    go ih (Err r) q = refl

module _ (s : List ℕ) (m : Mode) (at : ℕ) where
  -- the tokens are the step's, then those from the next cursor on
  pub tokens_step : tokens_of s m at ≡ and_then (scan_of s m at) (tokens_of s m)
  unfolding tokens_of
  tokens_step = walked_step s m (scan_of s m) (scan_ahead s m) at

  -- so they are by the public step
  pub steps_step : steps_of s m at ≡ and_then (step_of s m at) (steps_of s m)
  unfolding steps_of
  steps_step = walked_step s m (step_of s m) (step_ahead s m) at

  -- a text that may not be read has no tokens
  pub steps_bad : (r : Refusal) → check_of s ≡ Err r → steps_of s m at ≡ refused r
  steps_bad r e = steps_step ∙ ap (λ (st : Step). and_then st (steps_of s m)) (step_bad s m at r e)

  -- in one that may be read, from a place between two characters, the public step gives the same tokens
  pub steps_tokens : check_of s ≡ (Ok tt) → Boundary s at → steps_of s m at ≡ tokens_of s m at
  unfolding steps_of tokens_of
  steps_tokens e =
      walked_same (step_of s m) (scan_of s m) (Boundary s)
      (λ x b go. ap (λ (st : Step). and_then st go) (step_scan s m x e b))
      (λ x b. next x (scan_of s m x) (scan_ahead s m x) (scan_between s m x (fine_well s e) b)) (suc (length s - at)) at
    where
      next : (x : ℕ) (st : Step) → Ahead s m x st → Between s st → Next (Boundary s) st
      next x (Ok (Some g)) a b = subst (Boundary s) a.ends b.ends
      next x (Ok None) a b = tt
      next x (Err r) a b = tt
