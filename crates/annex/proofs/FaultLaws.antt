-- Every refusal of a text's tokens has its reason: the tokens before the place where the reader stopped begin an expression, and there is why
-- it goes no further. The lexer's are 3, 4 and 5 alone, so that 6 says what document 01 has it say.
use Rattle.lexer.specs.Step.{Step}
use Rattle.std.specs.Prelude.{◌≡◌, refl, List, [], ◌∷◌, ◌++◌, ◌⊎◌, ℕ, zero, suc, ◌-◌, ◌≤◌, length, Ok}
use Rattle.std.proofs.Common.{sym, ap, subst, ◌∙◌, inl, inr, arith}
use Rattle.utf8.specs.Utf8.{past_white}
use Rattle.refusal.specs.Refused.{span, number_of}
use Rattle.refusal.specs.declared.Span.{Span}
use Rattle.refusal.specs.declared.Expected.{Expected}
use Rattle.refusal.specs.declared.Refusal.{Refusal}
use Rattle.refusal.specs.declared.Refusal.TheVariants.{Unexpected}
use Rattle.mode.specs.declared.Mode.{Mode}
use Rattle.lexer.specs.declared.Token.{Token}
use Rattle.lexer.specs.Lex.{scan_of, check_of}
use Rattle.lexer.proofs.Ahead.{Answer, ended, mark, word, invalid, unknown, apart, scan_answer}
use Rattle.lexer.specs.Tokens.{Tokens, done, token, and_then, walked, tokens_of}
use Rattle.lexer.specs.Tokens as Lexed
use Rattle.lexer.specs.Sign.{Sign}
use Rattle.grammar.specs.Grammar.{refused, read_if, parse_of}
use Rattle.annex.specs.Signs.{View, sign_of}
use Rattle.annex.specs.Faults.{Begins, Dead, Not, set_after, Split, here, next, Reason, lexical, unexpected, unended, Fault}
use Rattle.annex.proofs.Judge.{Blamed, blamed}

-- the reason of a refusal; 9 is that there is no token
pub faults : {R S : Type 0} (v : View R S) (s : List ℕ) (m : Mode) (r : Refusal) → check_of s ≡ (Ok tt) → parse_of s m ≡ refused r
    → Fault v m (length s) (tokens_of s m 0) r
unfolding parse_of
faults v s m r h e =
    subst (Blamed v m (length s) (tokens_of s m 0)) (sym (ap (read_if m s) h) ∙ e) (blamed v m (length s) (tokens_of s m 0))

-- a refusal at the end has a number from 3 to 5
abbrev Low : Tokens → Type 0
Low done = Unit {0}
Low (Lexed.refused r) = (3 ≤ number_of r) × (number_of r ≤ 5)
Low (token t sp ts) = Low ts

walked_low : (s : List ℕ) (m : Mode) (n at : ℕ) → Low (walked (scan_of s m) n at)
unfolding walked
walked_low s m zero at = tt
walked_low s m (suc n) at = go (walked_low s m n) (past_white s at) (scan_of s m at) (scan_answer s m at)
  where
    go : ((x : ℕ) → Low (walked (scan_of s m) n x)) → (p : ℕ) (st : Step) → Answer s m at p st → Low (and_then st (walked (scan_of s m) n))
    go ih p st (ended k) = tt
    go ih p st (mark k l) = ih _
    go ih p st (word k i j) = ih _
    go ih p st (invalid k) = (omega arith, omega arith)
    go ih p st (unknown k l) = (omega arith, omega arith)
    go ih p st (apart k l) = (omega arith, omega arith)

split_low : {R S : Type 0} {v : View R S} {all ts : Tokens} {b : List (Sign R S)} → Split v all b ts → Low all → Low ts
split_low here h = h
split_low (next i) h = split_low i h

-- what the lexer refuses is 3, 4 or 5
pub lexed_number : {R S : Type 0} (v : View R S) (s : List ℕ) (m : Mode) (b : List (Sign R S)) (r : Refusal)
    → Split v (tokens_of s m 0) b (Lexed.refused r) → (3 ≤ number_of r) × (number_of r ≤ 5)
unfolding tokens_of
lexed_number v s m b r h = split_low h (walked_low s m (suc (length s - 0)) 0)

-- where 6 stops, before the tokens ts: with the token at the span the signs b begin no expression; or the text ends, and they are none
abbrev pub Stop : {R S : Type 0} → View R S → Mode → ℕ → Span → List (Sign R S) → Tokens → Type 0
Stop v m e sp b ts =
    ((t : Token) × (us : Tokens) × (ts ≡ token t sp us) × Dead m (b ++ (sign_of v t sp ∷ []))) ⊎ ((ts ≡ done) × (sp ≡ span e e) × Not m b)

stop_six : {R S : Type 0} {v : View R S} {m : Mode} {e : ℕ} {all : Tokens} {b : List (Sign R S)} {ts : Tokens} (sp : Span) (x : Expected)
    → (ts ≡ Lexed.refused (Unexpected sp x) → ⊥) → Reason v m e all b ts (Unexpected sp x) → (x ≡ set_after b) × Stop v m e sp b ts
stop_six sp x f (lexical h) = absurd (f h)
stop_six sp x f (unexpected {t} {rest = us} h d) = (refl, inl (t, us, h, d))
stop_six sp x f (unended h n) = (refl, inr (h, refl, n))

-- 6: the tokens before the place where the reader stopped begin an expression, the set is that of the last of them, and it stops there for no
-- other reason than these two
pub fault_six : {R S : Type 0} (v : View R S) (s : List ℕ) (m : Mode) (sp : Span) (x : Expected) → check_of s ≡ (Ok tt)
    → parse_of s m ≡ refused (Unexpected sp x)
    → (b : List (Sign R S)) × (ts : Tokens) × Split v (tokens_of s m 0) b ts × Begins m b × (x ≡ set_after b) × Stop v m (length s) sp b ts
fault_six v s m sp x h e =
    let f = faults v s m (Unexpected sp x) h e in
    let w =
    stop_six sp x
    (λ k. omega (arith, (lexed_number v s m f.before (Unexpected sp x) (subst (Split v (tokens_of s m 0) f.before) k f.split)).1))
    f.reason in
    (f.before, f.rest, f.split, f.begins, w.0, w.1)
