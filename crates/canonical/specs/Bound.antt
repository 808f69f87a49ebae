-- The canonical text is at most four times as long as the text. Over the definitions alone.
use Rattle.refusal.specs.declared.Refusal.{Refusal}
use Rattle.std.specs.Prelude.{ℕ, zero, suc, ◌+◌, ◌-◌, ◌*◌, ◌<◌, ◌≤◌, ◌≡◌, List, length, Some, None, Result, Ok, Err, ⊤}
use Rattle.std.proofs.Common.{sym, subst, arith, length-append}
use Rattle.mode.specs.Modes.{lax}
use Rattle.lexer.specs.Lex.{scan_of, check_of}
use Rattle.canonical.specs.Canonical.{Text, text, refuse, behind, canon_if, canonical_of}
use Rattle.canonical.specs.Turn.{Turn, turn_of, step_piece}
use Rattle.canonical.specs.StepLaws.{Rest, Turned, turned}

-- a text has at most n bytes, if there is one
abbrev pub Within : ℕ → Text → Type 0
Within n (text c) = length c ≤ n
Within n (refuse r) = Unit {0}

within_behind : (p : List ℕ) (n k : ℕ) (x : Text) → Within n x → length p + n ≤ k → Within k (behind p x)
within_behind p n k (text c) w h = omega (arith, length-append p c)
within_behind p n k (refuse r) w h = tt

-- what is left from a place on, by as many turns as bytes are left
rest_within : (s : List ℕ) (n at : ℕ) → length s - at < n → at ≤ length s → Within (4 * (length s - at)) (Rest s at)
rest_within s zero at h i = absurd (omega arith)
rest_within s (suc n) at h i =
    go (λ x k l. rest_within s n x k l) (step_piece s (scan_of s lax at)) (turn_of s 0 (scan_of s lax at)) (turned s at 0)
  where
    go : ((x : ℕ) → length s - x < n → x ≤ length s → Within (4 * (length s - x)) (Rest s x))
        → (p : List ℕ) (t : Turn) → Turned s at 0 p t → Within (4 * (length s - at)) (Rest s at)
    go ih p (Ok (Some q)) w =
        let g = w.0 in
        subst (Within (4 * (length s - at))) (sym g.rest)
        (within_behind p (4 * (length s - q.at)) (4 * (length s - at)) (Rest s q.at) (ih q.at (omega arith) g.inside) (omega arith))
    go ih p (Ok None) w = subst (Within (4 * (length s - at))) (sym w.0) (omega arith)
    go ih p (Err r) w = subst (Within (4 * (length s - at))) (sym w.0) tt

canonical_within : (s : List ℕ) → Within (4 * length s) (canonical_of s)
unfolding canonical_of
canonical_within s = go (check_of s)
  where
    go : (x : Result ⊤ Refusal) → Within (4 * length s) (canon_if s x)
    go (Ok tt) =
        let e : 4 * (length s - 0) ≡ 4 * length s = omega arith in
        subst (λ (n : ℕ). Within n (Rest s 0)) e (rest_within s (suc (length s)) 0 (omega arith) (omega arith))
    go (Err r) = tt

-- the bound of four
pub canonical_length : (s c : List ℕ) → canonical_of s ≡ text c → length c ≤ 4 * length s
canonical_length s c e = subst (Within (4 * length s)) e (canonical_within s)
