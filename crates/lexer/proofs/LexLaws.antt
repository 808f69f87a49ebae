-- What the code of a step needs of its definitions.
use Rattle.std.specs.Prelude.{ℕ, ◌+◌, ◌<◌, ◌≤◌, ◌≡◌, Bool, true, false, cond, ◌&&◌, ◌||◌, List, length, get_or, drop, eqb, ltb, Option, Some, None, Ok, Err}
use Rattle.std.proofs.Common.{sym, ap, ◌∙◌, arith}
use Rattle.std.specs.Option.{MatchOption}
use Rattle.std.specs.Int.{from_bool}
use borrow.Author.Tests.{eqb-true, eq-eqb, ne_eqb, le-leb, lt-leb}
use Rattle.text.specs.Text.{ascii, begins, same}
use Rattle.text.specs.Tests.{both, by_cond, cond_true, cond_false}
use Rattle.text.specs.TextLaws.{byte_in, same_not}
use Rattle.text.specs.Walk.{one}
use Rattle.text.specs.WalkLaws.{one_at}
use Rattle.utf8.specs.Utf8.{inside_of}
use Rattle.refusal.specs.Refused.{span}
use Rattle.refusal.specs.declared.Span.{Span}
use Rattle.refusal.specs.declared.Refusal.TheVariants.{SeparatedPlus, BadCursor}
use Rattle.mode.specs.declared.Mode.{Mode}
use Rattle.lexer.specs.declared.Token.{Token}
use Rattle.lexer.specs.declared.Token.TheVariants.{And, Or, With, Plus, Open, Close}
use Rattle.lexer.specs.Lex.{ref_end, or_else, operator_of, got, run_of, mark_of, scan_of, from_of}
use Rattle.lexer.specs.Shape.{document_of}

-- the operators, by what the comparisons say
module _ (r : List ℕ) (e : ℕ) where
  abbrev spelt : List ℕ → List ℕ → Bool
  spelt v w = same r v || same r w

  pub operator_and : spelt (ascii "AND") (ascii "and") ≡ true → Some (And, e) ≡ operator_of r e
  unfolding operator_of
  operator_and x = simp x

  pub operator_or : spelt (ascii "AND") (ascii "and") ≡ false → spelt (ascii "OR") (ascii "or") ≡ true → Some (Or, e) ≡ operator_of r e
  unfolding operator_of
  operator_or x y = simp (x, y)

  pub operator_with : spelt (ascii "AND") (ascii "and") ≡ false → spelt (ascii "OR") (ascii "or") ≡ false
      → spelt (ascii "WITH") (ascii "with") ≡ true → Some (With, e) ≡ operator_of r e
  unfolding operator_of
  operator_with x y z = simp (x, y, z)

  pub operator_not : spelt (ascii "AND") (ascii "and") ≡ false → spelt (ascii "OR") (ascii "or") ≡ false
      → spelt (ascii "WITH") (ascii "with") ≡ false → None ≡ operator_of r e
  unfolding operator_of
  operator_not x y z = simp (x, y, z)

-- the operators, by a run's length and its first byte
module _ (r : List ℕ) (e : ℕ) where
  unlike : (w : List ℕ) → (length r ≡ length w → ⊥) → same r w ≡ false
  unlike w n = same_not r w (λ q. n (ap length q))

  astray : (w : List ℕ) → (get_or r 0 0 ≡ get_or w 0 0 → ⊥) → same r w ≡ false
  astray w n = same_not r w (λ q. n (ap (λ (l : List ℕ). get_or l 0 0) q))

  pub operator_short : length r < 2 → None ≡ operator_of r e
  unfolding operator_of
  operator_short h =
      simp (
        unlike (ascii "AND") (λ q. omega arith),
        unlike (ascii "and") (λ q. omega arith),
        unlike (ascii "OR") (λ q. omega arith),
        unlike (ascii "or") (λ q. omega arith),
        unlike (ascii "WITH") (λ q. omega arith),
        unlike (ascii "with") (λ q. omega arith),
      )

  pub operator_long : 5 ≤ length r → None ≡ operator_of r e
  unfolding operator_of
  operator_long h =
      simp (
        unlike (ascii "AND") (λ q. omega arith),
        unlike (ascii "and") (λ q. omega arith),
        unlike (ascii "OR") (λ q. omega arith),
        unlike (ascii "or") (λ q. omega arith),
        unlike (ascii "WITH") (λ q. omega arith),
        unlike (ascii "with") (λ q. omega arith),
      )

  pub operator_two : 2 ≤ length r → length r < 3 → (get_or r 0 0 ≡ 0x4F → ⊥) → (get_or r 0 0 ≡ 0x6F → ⊥) → None ≡ operator_of r e
  unfolding operator_of
  operator_two h k n m =
      simp (
        unlike (ascii "AND") (λ q. omega arith),
        unlike (ascii "and") (λ q. omega arith),
        astray (ascii "OR") n,
        astray (ascii "or") m,
        unlike (ascii "WITH") (λ q. omega arith),
        unlike (ascii "with") (λ q. omega arith),
      )

  pub operator_three : 3 ≤ length r → length r < 4 → (get_or r 0 0 ≡ 0x41 → ⊥) → (get_or r 0 0 ≡ 0x61 → ⊥) → None ≡ operator_of r e
  unfolding operator_of
  operator_three h k n m =
      simp (
        astray (ascii "AND") n,
        astray (ascii "and") m,
        unlike (ascii "OR") (λ q. omega arith),
        unlike (ascii "or") (λ q. omega arith),
        unlike (ascii "WITH") (λ q. omega arith),
        unlike (ascii "with") (λ q. omega arith),
      )

  pub operator_four : 4 ≤ length r → length r < 5 → (get_or r 0 0 ≡ 0x57 → ⊥) → (get_or r 0 0 ≡ 0x77 → ⊥) → None ≡ operator_of r e
  unfolding operator_of
  operator_four h k n m =
      simp (
        unlike (ascii "AND") (λ q. omega arith),
        unlike (ascii "and") (λ q. omega arith),
        unlike (ascii "OR") (λ q. omega arith),
        unlike (ascii "or") (λ q. omega arith),
        astray (ascii "WITH") n,
        astray (ascii "with") m,
      )

-- a function that tries a, and then b where a says nothing
pub or_is : (w a b : Option (Token × ℕ)) (t : Token) (e : ℕ) → w ≡ a → w ≡ Some (t, e) → w ≡ or_else a b
or_is w a b t e p q = simp (← p, q)

pub or_not : (w a b z : Option (Token × ℕ)) → w ≡ a → w ≡ None → z ≡ b → z ≡ or_else a b
or_not w a b z p q r = simp (← p, q) r

-- a function that tries a, and then b where a says nothing: `said` is what the second try is known to answer
pub or_said : {P : Type 0} (w : Option (Token × ℕ)) (a b z : Option (Token × ℕ)) → w ≡ a → (P → z ≡ b)
    → MatchOption w P (λ (x : Token × ℕ). z ≡ Some x) → z ≡ or_else a b
or_said (Some x) a b z p said q = simp (← p, q)
or_said None a b z p said q = simp (← p) (said q)

-- the width of a step over one byte, where r is what p says of the byte
pub width_said : (p : ℕ → Bool) → p 0 ≡ false → (s : List ℕ) (at : ℕ) (r : Bool) → r ≡ p (get_or s at 0) → from_bool r ≡ one p (drop at s)
width_said p z s at true q = sym (one_at p z s at ∙ cond_true _ 1 0 (sym q))
width_said p z s at false q = sym (one_at p z s at ∙ cond_false _ 1 0 (sym q))

-- what stands at p, where the white space from `at` on ends
module _ (s : List ℕ) (m : Mode) (at p : ℕ) where
  abbrev Here : ℕ → Type 0
  Here b = get_or s p 0 ≡ b

  pub mark_done : length s ≤ p → (Ok None) ≡ mark_of s m at p
  unfolding mark_of
  mark_done h = simp (le-leb (length s) p h)

  pub mark_plus : p < length s → Here 0x2B → p ≡ at → got m Plus p (p + 1) ≡ mark_of s m at p
  unfolding mark_of
  mark_plus h b e = simp (lt-leb (length s) p h, b, eq-eqb p at e)

  pub mark_apart : p < length s → Here 0x2B → (p ≡ at → ⊥) → Err (SeparatedPlus (span at p)) ≡ mark_of s m at p
  unfolding mark_of
  mark_apart h b e = simp (lt-leb (length s) p h, b, ne_eqb p at e)

  pub mark_open : p < length s → Here 0x28 → got m Open p (p + 1) ≡ mark_of s m at p
  unfolding mark_of
  mark_open h b = simp (lt-leb (length s) p h, b)

  pub mark_close : p < length s → Here 0x29 → got m Close p (p + 1) ≡ mark_of s m at p
  unfolding mark_of
  mark_close h b = simp (lt-leb (length s) p h, b)

  -- none of these
  module _ (h : p < length s) (plus : Here 0x2B → ⊥) (opens : Here 0x28 → ⊥) (closes : Here 0x29 → ⊥) where
    mark_else : mark_of s m at p ≡ cond (eqb (get_or s p 0) 0x2F && m.slash) (got m Or p (p + 1)) (run_of s m p)
    unfolding mark_of
    mark_else =
        simp (lt-leb (length s) p h, ne_eqb (get_or s p 0) 0x2B plus, ne_eqb (get_or s p 0) 0x28 opens, ne_eqb (get_or s p 0) 0x29 closes)

    pub mark_slash : (eqb (get_or s p 0) 0x2F && m.slash) ≡ true → got m Or p (p + 1) ≡ mark_of s m at p
    mark_slash e = sym (mark_else ∙ cond_true _ _ _ e)

    pub mark_run : (eqb (get_or s p 0) 0x2F && m.slash) ≡ false → run_of s m p ≡ mark_of s m at p
    mark_run e = sym (mark_else ∙ cond_false _ _ _ e)

-- the step from any place, by whether it is one between two characters: x says if it is inside a character
module _ (s : List ℕ) (m : Mode) (at : ℕ) (x : Bool) (inside : x ≡ inside_of s at) where
  pub from_out : (ltb (length s) at || x) ≡ true → Err (BadCursor at) ≡ from_of s m at
  unfolding from_of
  from_out e = simp (← inside, e)

  pub from_in : (ltb (length s) at || x) ≡ false → scan_of s m at ≡ from_of s m at
  unfolding from_of
  from_in e = simp (← inside, e)

-- a document part ends inside the text, at its `:`
abbrev DocIn : List ℕ → Option Span → Type 0
DocIn s None = Unit {0}
DocIn s (Some d) = d.end < length s

doc_in : (s : List ℕ) (p : ℕ) → DocIn s (document_of s p)
unfolding document_of
doc_in s p =
    by_cond (DocIn s) (begins (ascii "DocumentRef-") (drop p s) && eqb (get_or s (ref_end s p) 0) 0x3A) _ _
    (λ e. byte_in s (ref_end s p) 0x3A (eqb-true _ _ (both (begins (ascii "DocumentRef-") (drop p s)) _ e).1) (omega arith))
    (λ e. tt)

pub document_in : (s : List ℕ) (p : ℕ) (d : Span) → document_of s p ≡ Some d → d.end < length s
document_in s p d e = rw e at (doc_in s p)
