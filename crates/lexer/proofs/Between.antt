-- Tokens, and what the lexer refuses, start and end between characters. For the public step that needs no premise.
use Rattle.lexer.specs.Step.{Step}
use Rattle.std.specs.Prelude.{ℕ, ◌+◌, ◌<◌, ◌≤◌, ◌≡◌, ◌||◌, List, ltb, length, get_or, Some, None, Result, Ok, Err, ⊤}
use Rattle.std.proofs.Math.Path.{refl}
use Rattle.std.proofs.Math.Decide.{dec_lt}
use Rattle.std.proofs.Common.{arith, ltb-true, ltb-false}
use Rattle.text.specs.Tests.{by_cond, neither}
use Rattle.text.specs.Runs.{run_byte}
use Rattle.text.specs.RunLaws.{run_ascii}
use Rattle.utf8.specs.Utf8.{first_ill, inside_of, past_white}
use Rattle.utf8.specs.Boundary.{Boundary, WellFormed}
use Rattle.utf8.specs.BoundaryLaws.{boundary_le, white_boundary, after_ascii, ascii_boundary, run_boundary, end_boundary, out_boundary}
use Rattle.refusal.specs.declared.Span.{Span}
use Rattle.refusal.specs.declared.Refusal.{Refusal}
use Rattle.refusal.specs.declared.Refusal.TheVariants.{NotUtf8, TooLong, InvalidCharacters, UnknownTerm, SeparatedPlus, Unexpected, UnopenedParens, UnclosedParens, Empty, DeprecatedLicenseId, GnuNoPlus, GnuPlusWithSuffix, UnknownLicense, TooManyLeaves, TooDeep, NoRoom, BadList, TooManyRequirements, RequirementsUnmet, BadCursor, NoBudget}
use Rattle.mode.specs.declared.Mode.{Mode}
use Rattle.lexer.specs.Lex.{run_end, scan_of, check_of, from_of, if_fine, step_of}
use Rattle.lexer.proofs.RunLaws.{run_le, run_all}
use Rattle.lexer.proofs.Ahead.{Answer, ended, mark, word, invalid, unknown, apart, scan_answer}
use Rattle.lexer.proofs.Agree.{fine_well}

-- a part of a text that is not empty, from one boundary between characters to another
pub record Piece (s : List ℕ) (sp : Span) : Type 0 where
  pub starts : Boundary s sp.start
  pub ends : Boundary s sp.end
  pub some : sp.start < sp.end
  pub inside : sp.end ≤ length s

-- where the lexer's refusals lie: 1 is one byte of the text, 3, 4 and 5 are pieces of it
abbrev pub Placed : List ℕ → Refusal → Type 0
Placed s (NotUtf8 sp) = (sp.start < length s) × (sp.end ≡ sp.start + 1)
Placed s TooLong = Unit {0}
Placed s (InvalidCharacters sp) = Piece s sp
Placed s (UnknownTerm sp) = Piece s sp
Placed s (SeparatedPlus sp) = Piece s sp
Placed s (Unexpected sp e) = Unit {0}
Placed s (UnopenedParens sp) = Unit {0}
Placed s (UnclosedParens sp) = Unit {0}
Placed s (Empty sp) = Unit {0}
Placed s (DeprecatedLicenseId sp) = Unit {0}
Placed s (GnuNoPlus sp) = Unit {0}
Placed s (GnuPlusWithSuffix sp) = Unit {0}
Placed s (UnknownLicense sp) = Unit {0}
Placed s (TooManyLeaves sp) = Unit {0}
Placed s (TooDeep sp) = Unit {0}
Placed s (NoRoom n) = Unit {0}
Placed s (BadList n) = Unit {0}
Placed s (TooManyRequirements n) = Unit {0}
Placed s RequirementsUnmet = Unit {0}
Placed s (BadCursor n) = Unit {0}
Placed s NoBudget = Unit {0}

-- a step's token is a piece of the text, and so is what it refuses
abbrev pub Between : List ℕ → Step → Type 0
Between s (Ok (Some g)) = Piece s g.span
Between s (Ok None) = Unit {0}
Between s (Err r) = Placed s r

-- where the check's refusals lie
abbrev pub BadPlaced : List ℕ → Result ⊤ Refusal → Type 0
BadPlaced s (Ok tt) = Unit {0}
BadPlaced s (Err r) = Placed s r

-- a text that may not be read is refused at a place of it, or as a whole
pub check_placed : (s : List ℕ) → BadPlaced s (check_of s)
unfolding check_of
check_placed s =
    by_cond (BadPlaced s) (ltb 1024 (length s)) _ _ (λ x. tt)
    (λ x. by_cond (BadPlaced s) (ltb (first_ill s) (length s)) _ _
    (λ y. (ltb-true (first_ill s) (length s) y, refl)) (λ y. tt))

-- every place of a run that starts on a boundary is one
pub run_between : {s : List ℕ} {p : ℕ} → WellFormed s → Boundary s p → (x : ℕ) → p ≤ x → x ≤ run_end s p → Boundary s x
unfolding run_end
run_between {s} {p} f b x h k = go (dec_lt x (run_end s p))
  where
    go : Dec (x < run_end s p) → Boundary s x
    go (yes i) =
        ascii_boundary f (omega (arith, run_le s p (boundary_le b))) (run_ascii (get_or s x 0) (run_all s p x h i))
    go (no i) = let q : x ≡ run_end s p = omega arith in rw q (run_boundary run_byte run_ascii b)

module _ (s : List ℕ) (m : Mode) (at : ℕ) where
  answer_between : (p : ℕ) (st : Step) → WellFormed s → Boundary s at → Boundary s p → Answer s m at p st → Between s st
  answer_between p st f b c (ended k) = tt
  answer_between p st f b c (mark k l) =
      record { starts = c; ends = after_ascii c k l; some = omega arith; inside = omega arith }
  answer_between p st f b c (word {x = x} k i j) =
      record {
        starts = c;
        ends = run_between f c x (omega arith) j;
        some = i;
        inside = omega (arith, run_le s p (omega arith));
      }
  answer_between p st f b c (invalid k) = record { starts = c; ends = end_boundary f; some = k; inside = omega arith }
  answer_between p st f b c (unknown k l) =
      record {
        starts = c;
        ends = run_between f c (run_end s p) (omega arith) (omega arith);
        some = l;
        inside = run_le s p (omega arith);
      }
  answer_between p st f b c (apart k l) = record { starts = b; ends = c; some = k; inside = omega arith }

  -- in a well-formed text, from a boundary, a token is a piece of the text, and so is what is refused
  pub scan_between : WellFormed s → Boundary s at → Between s (scan_of s m at)
  scan_between f b = answer_between (past_white s at) (scan_of s m at) f b (white_boundary b) (scan_answer s m at)

  from_between : WellFormed s → Between s (from_of s m at)
  unfolding from_of
  from_between f =
      by_cond (Between s) (ltb (length s) at || inside_of s at) _ _ (λ x. tt)
      (λ x. let w = neither (ltb (length s) at) (inside_of s at) x in
      scan_between f (out_boundary f (ltb-false (length s) at w.0) w.1))

  -- so they are by the public step, in any bytes and from any place: the check and refusal 20 see to it
  pub step_between : Between s (step_of s m at)
  unfolding step_of
  step_between = go (check_of s) refl (check_placed s)
    where
      go : (c : Result ⊤ Refusal) → check_of s ≡ c → BadPlaced s c → Between s (if_fine c (from_of s m at))
      go (Ok tt) e b = from_between (fine_well s e)
      go (Err r) e b = b
