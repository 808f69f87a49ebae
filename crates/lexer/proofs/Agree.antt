-- When a text may be read, what the public step answers where it may not, and that the two steps agree where it may.
use Rattle.std.specs.Prelude.{ℕ, ◌+◌, ◌<◌, ◌≤◌, ◌≡◌, refl, Bool, true, cond, ◌||◌, List, ltb, length, Result, Ok, Err, ⊤}
use Rattle.std.proofs.Common.{sym, ◌∙◌, arith}
use Rattle.std.proofs.Math.Path.{ap}
use Rattle.std.proofs.Math.Bool.{or-true}
use borrow.Author.Tests.{lt-ltb, le-ltb, ltb-false}
use Rattle.text.specs.Tests.{by_cond, cond_true, cond_false}
use Rattle.utf8.specs.Utf8.{first_ill, inside_of}
use Rattle.utf8.specs.Boundary.{Boundary, WellFormed}
use Rattle.utf8.specs.BoundaryLaws.{boundary_le, ill_boundary, boundary_out}
use Rattle.refusal.specs.Refused.{span}
use Rattle.refusal.specs.declared.Refusal.{Refusal}
use Rattle.refusal.specs.declared.Refusal.TheVariants.{NotUtf8, TooLong, BadCursor}
use Rattle.mode.specs.declared.Mode.{Mode}
use Rattle.lexer.specs.Lex.{scan_of, check_of, from_of, if_fine, step_of}
use Rattle.lexer.proofs.LexLaws.{from_out, from_in}

-- a text that is refused may not be read
bad_fine : {A : Type 0} (r : Refusal) → ◌≡◌ {A = Result ⊤ Refusal} (Err r) (Ok tt) → A
bad_fine r e = let z : ◌≡◌ {A = ℕ} 0 1 = cc in absurd (omega arith)

module _ (s : List ℕ) where
  -- a text of more than 1,024 bytes is refused, whatever they are
  pub check_long : 1024 < length s → check_of s ≡ Err TooLong
  unfolding check_of
  check_long h = cond_true (ltb 1024 (length s)) _ _ (lt-ltb 1024 (length s) h)

  -- what is left to check of a text that is not too long
  check_short : length s ≤ 1024
      → check_of s ≡ cond (ltb (first_ill s) (length s)) (Err (NotUtf8 (span (first_ill s) (first_ill s + 1)))) (Ok tt)
  unfolding check_of
  check_short h = cond_false (ltb 1024 (length s)) _ _ (le-ltb 1024 (length s) h)

  -- a text that is short enough and ill-formed is refused where its first ill-formed sequence starts
  pub check_ill : length s ≤ 1024 → first_ill s < length s
      → check_of s ≡ Err (NotUtf8 (span (first_ill s) (first_ill s + 1)))
  check_ill h k = check_short h ∙ cond_true (ltb (first_ill s) (length s)) _ _ (lt-ltb (first_ill s) (length s) k)

  -- a text that is short enough and well-formed may be read
  pub check_fine : length s ≤ 1024 → WellFormed s → check_of s ≡ (Ok tt)
  check_fine h w = check_short h ∙ cond_false (ltb (first_ill s) (length s)) _ _ (le-ltb (first_ill s) (length s) (omega arith))

  -- and no other may
  fine_is : check_of s ≡ (Ok tt) → (length s ≤ 1024) × WellFormed s
  unfolding check_of
  fine_is =
      by_cond (λ (c : Result ⊤ Refusal). c ≡ (Ok tt) → (length s ≤ 1024) × WellFormed s) (ltb 1024 (length s)) _ _
      (λ x e. bad_fine TooLong e)
      (λ x. by_cond (λ (c : Result ⊤ Refusal). c ≡ (Ok tt) → (length s ≤ 1024) × WellFormed s) (ltb (first_ill s) (length s)) _ _
      (λ y e. bad_fine (NotUtf8 (span (first_ill s) (first_ill s + 1))) e)
      (λ y e. (ltb-false 1024 (length s) x, omega (arith, ltb-false (first_ill s) (length s) y, boundary_le (ill_boundary s)))))

  -- a text that may be read is short enough
  pub fine_short : check_of s ≡ (Ok tt) → length s ≤ 1024
  fine_short e = (fine_is e).0

  -- a text that may be read is well-formed
  pub fine_well : check_of s ≡ (Ok tt) → WellFormed s
  fine_well e = (fine_is e).1

  module _ (m : Mode) (at : ℕ) where
    -- the public step refuses what the check refuses
    pub step_bad : (r : Refusal) → check_of s ≡ Err r → step_of s m at ≡ Err r
    unfolding step_of
    step_bad r e = ap (λ (c : Result ⊤ Refusal). if_fine c (from_of s m at)) e

    -- in a text that may be read it goes by its place
    step_fine : check_of s ≡ (Ok tt) → step_of s m at ≡ from_of s m at
    unfolding step_of
    step_fine e = ap (λ (c : Result ⊤ Refusal). if_fine c (from_of s m at)) e

    step_place : check_of s ≡ (Ok tt) → (ltb (length s) at || inside_of s at) ≡ true → step_of s m at ≡ Err (BadCursor at)
    step_place e q = step_fine e ∙ sym (from_out s m at (inside_of s at) refl q)

    -- it refuses a place past the end
    pub step_past : check_of s ≡ (Ok tt) → length s < at → step_of s m at ≡ Err (BadCursor at)
    step_past e h = step_place e (ap (λ (b : Bool). b || inside_of s at) (lt-ltb (length s) at h))

    -- it refuses a place inside a character
    pub step_inside : check_of s ≡ (Ok tt) → inside_of s at ≡ true → step_of s m at ≡ Err (BadCursor at)
    step_inside e i = step_place e (ap (λ (b : Bool). ltb (length s) at || b) i ∙ or-true (ltb (length s) at))

    -- from a place between two characters it is the step in a text that was checked
    pub step_scan : check_of s ≡ (Ok tt) → Boundary s at → step_of s m at ≡ scan_of s m at
    step_scan e b =
        step_fine e
        ∙ sym (from_in s m at (inside_of s at) refl
        (ap (λ (q : Bool). q || inside_of s at) (le-ltb (length s) at (boundary_le b)) ∙ boundary_out (fine_well e) b))
