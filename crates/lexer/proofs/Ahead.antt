-- What a step may answer, and that it goes ahead: its token starts at the cursor or after it, is not empty, ends inside the text
-- and in its own run, and the next cursor stands at its end.
use Rattle.refusal.specs.declared.Refusal.{Refusal}
use Rattle.lexer.specs.Step.{Step}
use Rattle.std.specs.Prelude.{ℕ, ◌+◌, ◌<◌, ◌≤◌, ◌≡◌, refl, ◌&&◌, ◌||◌, List, leb, ltb, drop, Option, Some, None, Result, Ok, Err, ⊤}
use Rattle.std.proofs.Common.{◌∙◌, ap, arith}
use Rattle.std.proofs.Math.Bool.{true}
use Rattle.std.proofs.Math.Dec.{eqb}
use Rattle.std.proofs.Math.ListN.{length, get_or}
use borrow.Author.Tests.{eqb-true, eqb-false, leb-true, leb-false}
use Rattle.text.specs.Text.{ascii, same, begins, part, within}
use Rattle.text.specs.Tests.{both, by_cond}
use Rattle.text.specs.Every.{all_of, All, all_of_lem}
use Rattle.text.specs.Runs.{ref_byte, run_byte}
use Rattle.text.specs.WalkLaws.{reach_ge}
use Rattle.utf8.specs.Utf8.{past_white, white_width, inside_of}
use Rattle.names.specs.Lookup.{licence_of, exception_of, imprecise_of, bytes_at, imprecise_texts}
use Rattle.names.specs.Shape.{imprecise_proper}
use Rattle.names.proofs.Fits.{LooseIs, imprecise_is}
use Rattle.names.specs.declared.Loose.{Loose}
use Rattle.refusal.specs.Refused.{span}
use Rattle.refusal.specs.declared.Span.{Span}
use Rattle.refusal.specs.declared.Refusal.TheVariants.{InvalidCharacters, UnknownTerm, SeparatedPlus}
use Rattle.mode.specs.declared.Mode.{Mode}
use Rattle.lexer.specs.declared.Token.{Token}
use Rattle.lexer.specs.declared.Token.TheVariants.{Licence, Exception, LicenseRef, AdditionRef}
use Rattle.lexer.specs.declared.Cursor.{Cursor}
use Rattle.lexer.specs.Lex.{
  run_end,
  ref_end,
  or_else,
  operator_of,
  found,
  ref_of,
  documented,
  hit,
  imprecise_at,
  unknown_of,
  word_of,
  got,
  told,
  run_of,
  mark_of,
  scan_of,
  check_of,
  from_of,
  if_fine,
  step_of,
}
use Rattle.lexer.proofs.RunLaws.{run_ge, run_le, ref_ge, run_byte_lem, run_word, run_ref}

-- a try's token, in the run from p to e, ends behind p and not behind e
abbrev pub InRun : ℕ → ℕ → Option (Token × ℕ) → Type 0
InRun p e (Some (t, x)) = (p < x) × (x ≤ e)
InRun p e None = Unit {0}

-- what two tries in order say, if both keep to the run
either_in : (p e : ℕ) (v w : Option (Token × ℕ)) → InRun p e v → InRun p e w → InRun p e (or_else v w)
either_in p e (Some (t, x)) w f g = f
either_in p e None w f g = g

-- the prefixes are run bytes
license_all : All run_byte (ascii "LicenseRef-")
unfolding all_of run_byte ref_byte within
license_all = all_of_lem run_byte (ascii "LicenseRef-") refl

addition_all : All run_byte (ascii "AdditionRef-")
unfolding all_of run_byte ref_byte within
addition_all = all_of_lem run_byte (ascii "AdditionRef-") refl

colon_run : (b : ℕ) → eqb b 0x3A ≡ true → run_byte b ≡ true
unfolding run_byte ref_byte within
colon_run b e = let q : b ≡ 0x3A = eqb-true b 0x3A e in ap run_byte q

module _ (s : List ℕ) (m : Mode) (p : ℕ) where
  -- the whole run, if it is not empty
  operator_in : (r : List ℕ) (e : ℕ) → p < e → InRun p e (operator_of r e)
  unfolding operator_of
  operator_in r e h =
      by_cond (InRun p e) (same r (ascii "AND") || same r (ascii "and")) _ _ (λ x. (h, omega arith))
      (λ x. by_cond (InRun p e) (same r (ascii "OR") || same r (ascii "or")) _ _ (λ y. (h, omega arith))
      (λ y. by_cond (InRun p e) (same r (ascii "WITH") || same r (ascii "with")) _ _ (λ w. (h, omega arith)) (λ w. tt)))

  found_in : (kind : ℕ → Token) (e : ℕ) (f : Option ℕ) → p < e → InRun p e (found kind e f)
  found_in kind e (Some k) h = (h, omega arith)
  found_in kind e None h = tt

  unknown_in : (e : ℕ) → p < e → InRun p e (unknown_of m p e)
  unfolding unknown_of
  unknown_in e h = by_cond (InRun p e) m.unknown _ _ (λ x. (h, omega arith)) (λ x. tt)

  -- a reference from a place q of the run on
  module _ (kind : Option Span → Span → Token) (w : List ℕ) (all : All run_byte w) (some : 0 < length w) where
    ref_in : (d : Option Span) (q : ℕ) → p ≤ q → run_end s p ≡ run_end s q → InRun p (run_end s p) (ref_of kind w d s q)
    unfolding ref_of
    ref_in d q h e =
        by_cond (InRun p (run_end s p)) (begins w (drop q s)) _ _
        (λ x. let f = run_word s q w all x in
        let g = run_ref s (q + length w) in
        (omega (arith, ref_ge s (q + length w)), omega (arith, run_ge s (ref_end s (q + length w)))))
        (λ x. tt)

    documented_in : InRun p (run_end s p) (documented kind w s p)
    unfolding documented
    documented_in =
        by_cond (InRun p (run_end s p)) (begins (ascii "DocumentRef-") (drop p s) && eqb (get_or s (ref_end s p) 0) 0x3A) _ _
        (λ x. let y = both (begins (ascii "DocumentRef-") (drop p s)) (eqb (get_or s (ref_end s p) 0) 0x3A) x in
        ref_in (Some (span (p + 12) (ref_end s p))) (ref_end s p + 1) (omega (arith, ref_ge s p))
        (run_ref s p ∙ run_byte_lem s (ref_end s p) (colon_run (get_or s (ref_end s p) 0) y.1)))
        (λ x. tt)

  imprecise_in : InRun p (run_end s p) (imprecise_at s m p)
  unfolding imprecise_at
  imprecise_in =
      by_cond (InRun p (run_end s p)) m.imprecise _ _ (λ x. go (imprecise_of (drop p s)) (imprecise_is (drop p s))) (λ x. tt)
    where
      go : (l : Option Loose) → LooseIs (drop p s) l → InRun p (run_end s p) (hit p l)
      go (Some x) i =
          let w = bytes_at imprecise_texts i.place in
          let f = run_word s p w (imprecise_proper i.place i.within).run i.begun in
          (omega (arith, i.some), omega (arith, i.long, run_ge s (p + length w)))
      go None i = tt

  -- a token does not leave its run
  pub word_in : p < run_end s p → InRun p (run_end s p) (word_of s m p (run_end s p))
  unfolding word_of
  word_in h =
      let e = run_end s p in
      let r = part p e s in
      either_in p e (operator_of r e) _ (operator_in r e h)
      (either_in p e (found Licence e (licence_of r)) _ (found_in Licence e (licence_of r) h)
      (either_in p e (found Exception e (exception_of r)) _ (found_in Exception e (exception_of r) h)
      (either_in p e (documented LicenseRef (ascii "LicenseRef-") s p) _
      (documented_in LicenseRef (ascii "LicenseRef-") license_all (omega arith))
      (either_in p e (ref_of LicenseRef (ascii "LicenseRef-") None s p) _
      (ref_in LicenseRef (ascii "LicenseRef-") license_all (omega arith) None p (omega arith) refl)
      (either_in p e (documented AdditionRef (ascii "AdditionRef-") s p) _
      (documented_in AdditionRef (ascii "AdditionRef-") addition_all (omega arith))
      (either_in p e (ref_of AdditionRef (ascii "AdditionRef-") None s p) _
      (ref_in AdditionRef (ascii "AdditionRef-") addition_all (omega arith) None p (omega arith) refl)
      (either_in p e (imprecise_at s m p) (unknown_of m p e) imprecise_in (unknown_in e h))))))))

-- all that a step may answer from `at`, where its white space ends at p
pub data Answer (s : List ℕ) (m : Mode) (at p : ℕ) : Step → Type 0 where
  -- the end of the text
  ended : length s ≤ p → Answer s m at p (Ok None)
  -- a token of one ASCII byte
  mark : {t : Token} → p < length s → get_or s p 0 ≤ 0x7F → Answer s m at p (got m t p (p + 1))
  -- a token in its run
  word : {t : Token} {x : ℕ} → p < length s → p < x → x ≤ run_end s p → Answer s m at p (got m t p x)
  -- 3, no run begins here
  invalid : p < length s → Answer s m at p (Err (InvalidCharacters (span p (length s))))
  -- 4, a run that is not known
  unknown : p < length s → p < run_end s p → Answer s m at p (Err (UnknownTerm (span p (run_end s p))))
  -- 5, white space before `+`
  apart : at < p → p < length s → Answer s m at p (Err (SeparatedPlus (span at p)))

module _ (s : List ℕ) (m : Mode) (at p : ℕ) (start : at ≤ p) where
  run_answer : p < length s → Answer s m at p (run_of s m p)
  unfolding run_of
  run_answer k =
      by_cond (Answer s m at p) (eqb (run_end s p) p) _ _ (λ x. invalid k)
      (λ x. let h : p < run_end s p = omega (arith, run_ge s p, eqb-false (run_end s p) p x) in
      go h (word_of s m p (run_end s p)) (word_in s m p h))
    where
      go : p < run_end s p → (w : Option (Token × ℕ)) → InRun p (run_end s p) w → Answer s m at p (told m p (run_end s p) w)
      go h (Some (t, x)) i = word k i.0 i.1
      go h None i = unknown k h

  mark_answer : Answer s m at p (mark_of s m at p)
  unfolding mark_of
  mark_answer =
      by_cond (Answer s m at p) (leb (length s) p) _ _ (λ x. ended (leb-true (length s) p x))
      (λ x. let k = leb-false (length s) p x in
      by_cond (Answer s m at p) (eqb (get_or s p 0) 0x2B) _ _
      (λ y. by_cond (Answer s m at p) (eqb p at) _ _ (λ z. mark k (low 0x2B y (omega arith)))
      (λ z. apart (omega (arith, eqb-false p at z)) k))
      (λ y. by_cond (Answer s m at p) (eqb (get_or s p 0) 0x28) _ _ (λ z. mark k (low 0x28 z (omega arith)))
      (λ z. by_cond (Answer s m at p) (eqb (get_or s p 0) 0x29) _ _ (λ u. mark k (low 0x29 u (omega arith)))
      (λ u. by_cond (Answer s m at p) (eqb (get_or s p 0) 0x2F && m.slash) _ _
      (λ v. mark k (low 0x2F (both (eqb (get_or s p 0) 0x2F) m.slash v).0 (omega arith)))
      (λ v. run_answer k)))))
    where
      low : (b : ℕ) → eqb (get_or s p 0) b ≡ true → b ≤ 0x7F → get_or s p 0 ≤ 0x7F
      low b e h = omega (arith, eqb-true (get_or s p 0) b e)

-- a step in a text that was checked answers one of these
pub scan_answer : (s : List ℕ) (m : Mode) (at : ℕ) → Answer s m at (past_white s at) (scan_of s m at)
unfolding scan_of past_white
scan_answer s m at = mark_answer s m at (past_white s at) (reach_ge white_width s at)

-- the token of a step from `at`, and the cursor behind it
pub record TokenAt (s : List ℕ) (m : Mode) (at : ℕ) (sp : Span) (nx : Cursor) : Type 0 where
  pub after : at ≤ sp.start
  pub some : sp.start < sp.end
  pub ends : sp.end ≡ nx.at
  pub inside : sp.end ≤ length s
  pub mode : nx.mode ≡ m

-- a step goes ahead, if it gives a token
abbrev pub Ahead : List ℕ → Mode → ℕ → Step → Type 0
Ahead s m at (Ok (Some g)) = TokenAt s m at g.span g.next
Ahead s m at (Ok None) = Unit {0}
Ahead s m at (Err r) = Unit {0}

module _ (s : List ℕ) (m : Mode) (at : ℕ) where
  answer_ahead : (p : ℕ) (st : Step) → at ≤ p → Answer s m at p st → Ahead s m at st
  answer_ahead p st h (ended k) = tt
  answer_ahead p st h (mark k l) =
      record { after = h; some = omega arith; ends = refl; inside = omega arith; mode = refl }
  answer_ahead p st h (word k i j) =
      record { after = h; some = i; ends = refl; inside = omega (arith, run_le s p (omega arith)); mode = refl }
  answer_ahead p st h (invalid k) = tt
  answer_ahead p st h (unknown k l) = tt
  answer_ahead p st h (apart k l) = tt

  -- the step in a text that was checked goes ahead
  pub scan_ahead : Ahead s m at (scan_of s m at)
  unfolding past_white
  scan_ahead = answer_ahead (past_white s at) (scan_of s m at) (reach_ge white_width s at) (scan_answer s m at)

  -- so does the public step
  pub step_ahead : Ahead s m at (step_of s m at)
  unfolding step_of from_of
  step_ahead = go (check_of s)
    where
      go : (c : Result ⊤ Refusal) → Ahead s m at (if_fine c (from_of s m at))
      go (Ok tt) = by_cond (Ahead s m at) (ltb (length s) at || inside_of s at) _ _ (λ x. tt) (λ x. scan_ahead)
      go (Err r) = tt
