-- The answer and the buffer, by what the comparison with the text and with the buffer's size say.
use Rattle.std.specs.Prelude.{ℕ, ◌-◌, ◌<◌, ◌≤◌, ◌≡◌, List, length, take, Result, Ok, Err}
use Rattle.std.proofs.Math.Path.{sym}
use Rattle.std.proofs.Common.{ap, ◌∙◌, arith, length-take-le}
use Rattle.std.proofs.Math.Bool.{true, false}
use Rattle.std.proofs.Math.Dec.{ltb}
use borrow.Author.Tests.{lt-ltb, le-ltb}
use Rattle.text.specs.Text.{same, part}
use Rattle.text.specs.Tests.{cond_true, cond_false}
use Rattle.text.specs.Overlay.{overlay}
use Rattle.refusal.specs.declared.Refusal.{Refusal}
use Rattle.refusal.specs.declared.Refusal.TheVariants.{NoRoom}
use Rattle.lexer.specs.Lex.{check_of}
use Rattle.canonical.specs.declared.Answer.{Answer}
use Rattle.canonical.specs.declared.Answer.TheVariants.{Unchanged, Written}
use Rattle.canonical.specs.Canonical.{Text, text, refuse, canon_if, canonical_of, answer_of, buffer_of}
use Rattle.canonical.specs.Turn.{Drafted}

-- an answer, and what became of the buffer b, are those of the text c
abbrev pub Answered : List ℕ → List ℕ → List ℕ → Result Answer Refusal → List ℕ → Type 0
Answered s b c r out = (r ≡ answer_of s b (text c)) × (out ≡ buffer_of s b (text c))

-- the front of a text
pub part_front : (n : ℕ) (d : List ℕ) → part 0 n d ≡ take n d
unfolding part
part_front n d = let e : n - 0 ≡ n = omega arith in ap (λ (k : ℕ). take k d) e

module _ (s b c : List ℕ) where
  pub answer_same : same c s ≡ true → Answered s b c (Ok Unchanged) b
  unfolding answer_of buffer_of
  answer_same e = (sym (cond_true (same c s) _ _ e), sym (cond_true (same c s) _ _ e))

  pub answer_short : same c s ≡ false → length b < length c → Answered s b c (Err (NoRoom (length c))) b
  unfolding answer_of buffer_of
  answer_short e h =
      let k : ltb (length b) (length c) ≡ true = lt-ltb (length b) (length c) h in (
        sym (cond_false (same c s) _ _ e ∙ cond_true (ltb (length b) (length c)) _ _ k),
        sym (cond_false (same c s) _ _ e ∙ cond_true (ltb (length b) (length c)) _ _ k),
      )

  pub answer_written : same c s ≡ false → length c ≤ length b → Answered s b c (Ok (Written (length c))) (overlay 0 c b)
  unfolding answer_of buffer_of
  answer_written e h =
      let k : ltb (length b) (length c) ≡ false = le-ltb (length b) (length c) h in (
        sym (cond_false (same c s) _ _ e ∙ cond_false (ltb (length b) (length c)) _ _ k),
        sym (cond_false (same c s) _ _ e ∙ cond_false (ltb (length b) (length c)) _ _ k),
      )

-- the first n bytes of a draft
module _ (s b d : List ℕ) (n : ℕ) (h : n ≤ length d) where
  long : length (take n d) ≡ n
  long = length-take-le n d h

  pub finish_short : same (take n d) s ≡ false → length b < n → Answered s b (take n d) (Err (NoRoom n)) b
  finish_short y k =
      let w = answer_short s b (take n d) y (omega (arith, long)) in
      (ap (λ (m : ℕ). Err (NoRoom m)) (sym long) ∙ w.0, w.1)

  pub finish_written : same (take n d) s ≡ false → n ≤ length b → Answered s b (take n d) (Ok (Written n)) (overlay 0 (take n d) b)
  finish_written y k =
      let w = answer_written s b (take n d) y (omega (arith, long)) in
      (ap (λ (m : ℕ). Ok (Written m)) (sym long) ∙ w.0, w.1)

-- a draft that ended: its first n bytes are the canonical text
pub drafted_answer : (s b f : List ℕ) (x : Text) (n : ℕ) (r : Result Answer Refusal) (out : List ℕ) → Drafted x (Ok n) f → Answered s b (take n f) r out
    → (r ≡ answer_of s b x) × (out ≡ buffer_of s b x)
drafted_answer s b f x n r out w a = (a.0 ∙ ap (answer_of s b) (sym w.0), a.1 ∙ ap (buffer_of s b) (sym w.0))

-- a text that is refused
pub refused_answer : (s b : List ℕ) (x : Text) (r : Refusal) → x ≡ refuse r → (Err r ≡ answer_of s b x) × (b ≡ buffer_of s b x)
unfolding answer_of buffer_of
refused_answer s b x r e = (sym (ap (answer_of s b) e), sym (ap (buffer_of s b) e))

-- what the check refuses has no canonical text
pub canonical_bad : (s : List ℕ) (r : Refusal) → check_of s ≡ Err r → canonical_of s ≡ refuse r
unfolding canonical_of
canonical_bad s r e = ap (canon_if s) e
