-- Nothing to believe: the tries of a run, grouped as the code groups them, and the law that the groups are document 01's order.
use Rattle.lexer.specs.declared.Token.{Token}
use Rattle.refusal.specs.declared.Span.{Span}
use Rattle.std.specs.Prelude.{ℕ, ◌+◌, ◌≡◌, Bool, true, false, cond, ◌&&◌, List, [], ◌∷◌, get_or, drop, Option, Some, None}
use Rattle.std.proofs.Math.Path.{refl}
use Rattle.std.proofs.Common.{sym, eqb-true}
use Rattle.std.proofs.Math.Dec.{eqb}
use Rattle.text.specs.Text.{ascii, begins, part}
use Rattle.text.specs.Tests.{both, cond_false}
use Rattle.names.specs.Lookup.{licence_of, exception_of}
use Rattle.refusal.specs.Refused.{span}
use Rattle.mode.specs.declared.Mode.{Mode}
use Rattle.lexer.specs.declared.Token.TheVariants.{Licence, Exception, LicenseRef, AdditionRef}
use Rattle.lexer.specs.Lex.{ref_end, or_else, operator_of, found, ref_of, documented, imprecise_at, unknown_of, word_of}

-- a licence, else an exception
unfoldable pub listed_of : List ℕ → ℕ → Option (Token × ℕ)
listed_of r e = or_else (found Licence e (licence_of r)) (found Exception e (exception_of r))

-- what is known by the run's bytes alone
unfoldable pub named_of : List ℕ → ℕ → Option (Token × ℕ)
named_of r e = or_else (operator_of r e) (listed_of r e)

-- the document part of the run at p
unfoldable pub document_of : List ℕ → ℕ → Option Span
document_of s p =
    cond (begins (ascii "DocumentRef-") (drop p s) && eqb (get_or s (ref_end s p) 0) 0x3A)
    (Some (span (p + 12) (ref_end s p))) None

-- the reference at q, behind the document part d
unfoldable pub ref_at : List ℕ → ℕ → Option Span → Option (Token × ℕ)
ref_at s q d =
    or_else (ref_of LicenseRef (ascii "LicenseRef-") d s q) (ref_of AdditionRef (ascii "AdditionRef-") d s q)

-- a reference stands behind the `:` of its document part, or at p itself
abbrev pub behind : List ℕ → ℕ → Option Span → Option (Token × ℕ)
behind s p None = ref_at s p None
behind s p (Some d) = ref_at s (d.end + 1) (Some d)

unfoldable pub referred_of : List ℕ → ℕ → Option (Token × ℕ)
referred_of s p = behind s p (document_of s p)

-- an imprecise name, else an unknown term
unfoldable pub loose_of : List ℕ → Mode → ℕ → ℕ → Option (Token × ℕ)
loose_of s m p e = or_else (imprecise_at s m p) (unknown_of m p e)

unfoldable pub other_of : List ℕ → Mode → ℕ → ℕ → Option (Token × ℕ)
other_of s m p e = or_else (referred_of s p) (loose_of s m p e)

or_else_assoc : (a b c : Option (Token × ℕ)) → or_else (or_else a b) c ≡ or_else a (or_else b c)
or_else_assoc (Some (t, e)) b c = refl
or_else_assoc None b c = refl

-- what begins with one byte does not begin with another
other_first : (a b : ℕ) (v w t : List ℕ) → eqb b a ≡ false → begins (a ∷ v) t ≡ true → begins (b ∷ w) t ≡ false
unfolding begins
other_first a b v w [] n e = refl
other_first a b v w (x ∷ t) n e = let h : a ≡ x = eqb-true a x (both (eqb a x) (begins v t) e).0 in simp (← h, n)

module _ (s : List ℕ) (p : ℕ) where
  abbrev license : Option Span → ℕ → Option (Token × ℕ)
  license d q = ref_of LicenseRef (ascii "LicenseRef-") d s q

  abbrev addition : Option Span → ℕ → Option (Token × ℕ)
  addition d q = ref_of AdditionRef (ascii "AdditionRef-") d s q

  -- where a document part begins no plain reference does: its first byte is another
  no_license : begins (ascii "DocumentRef-") (drop p s) ≡ true → license None p ≡ None
  unfolding ref_of
  no_license e = cond_false _ _ _ (other_first 0x44 0x4C _ _ (drop p s) refl e)

  no_addition_lem : begins (ascii "DocumentRef-") (drop p s) ≡ true → addition None p ≡ None
  unfolding ref_of
  no_addition_lem e = cond_false _ _ _ (other_first 0x44 0x41 _ _ (drop p s) refl e)

  -- the four tries of a reference are one: each kind behind a document part, if there is one, else each kind at p
  references : (z : Option (Token × ℕ))
      → or_else (documented LicenseRef (ascii "LicenseRef-") s p)
      (or_else (license None p) (or_else (documented AdditionRef (ascii "AdditionRef-") s p) (or_else (addition None p) z)))
      ≡ or_else (referred_of s p) z
  unfolding documented referred_of document_of ref_at
  references z =
      go (begins (ascii "DocumentRef-") (drop p s) && eqb (get_or s (ref_end s p) 0) 0x3A) (λ e. (both _ _ e).0)
    where
      d : Option Span
      d = Some (span (p + 12) (ref_end s p))

      q : ℕ
      q = ref_end s p + 1

      go : (b : Bool) → (b ≡ true → begins (ascii "DocumentRef-") (drop p s) ≡ true)
          → or_else (cond b (license d q) None) (or_else (license None p) (or_else (cond b (addition d q) None) (or_else (addition None p) z)))
          ≡ or_else (behind s p (cond b d None)) z
      go true h = simp (no_license (h refl), no_addition_lem (h refl)) (sym (or_else_assoc (license d q) (addition d q) z))
      go false h = sym (or_else_assoc (license None p) (addition None p) z)

-- document 01's order is the code's: by the run's bytes alone, else a reference, else loose
pub grouped : (s : List ℕ) (m : Mode) (p e : ℕ) → word_of s m p e ≡ or_else (named_of (part p e s) e) (other_of s m p e)
unfolding word_of named_of listed_of other_of loose_of
grouped s m p e =
    let r = part p e s in
    let n = found Licence e (licence_of r) in
    let x = found Exception e (exception_of r) in
    let o = or_else (referred_of s p) (or_else (imprecise_at s m p) (unknown_of m p e)) in
    simp (references s p, ← or_else_assoc n x o) (sym (or_else_assoc (operator_of r e) (or_else n x) o))
