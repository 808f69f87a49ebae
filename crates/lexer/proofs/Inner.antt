-- What the token of a step holds inside: a listed name's place is one of the list, and a reference's names stand in order inside the token,
-- its own name at the end.
use Rattle.lexer.specs.Step.{Step}
use Rattle.std.specs.Prelude.{ℕ, ◌+◌, ◌<◌, ◌≤◌, ◌≡◌, refl, true, ◌&&◌, ◌||◌, List, leb, get_or, drop, Option, Some, None, Ok, Err}
use native.Mathlib.Omega.{arith}
use Rattle.std.proofs.Math.Dec.{eqb}
use Rattle.std.proofs.Math.ListN.{length}
use Rattle.text.specs.Text.{ascii, same, begins, part, within}
use Rattle.text.specs.Tests.{both, by_cond}
use Rattle.text.specs.Every.{all_of, All, all_of_lem}
use Rattle.text.specs.Runs.{ref_byte}
use Rattle.text.specs.RunLaws.{walk_word, ref_zero}
use Rattle.utf8.specs.Utf8.{past_white}
use Rattle.names.specs.Listed.{listed, exceptions}
use Rattle.names.specs.Lookup.{licence_of, exception_of, imprecise_of}
use Rattle.names.proofs.Laws.{LicenceIs, ExceptionIs, licence_is, exception_is}
use Rattle.names.proofs.Fits.{LooseIs, imprecise_is}
use Rattle.names.specs.declared.Loose.{Loose}
use Rattle.refusal.specs.Refused.{span}
use Rattle.refusal.specs.declared.Span.{Span}
use Rattle.mode.specs.declared.Mode.{Mode}
use Rattle.lexer.specs.declared.Token.{Token}
use Rattle.lexer.specs.declared.Token.TheVariants.{
  And,
  Or,
  With,
  Plus,
  Open,
  Close,
  Licence,
  Exception,
  LicenseRef,
  AdditionRef,
  Unknown,
}
use Rattle.lexer.specs.Lex.{
  run_end,
  ref_end,
  or_else,
  operator_of,
  found,
  ref_of,
  documented,
  hit,
  imprecise_at,
  unknown_of,
  word_of,
  told,
  run_of,
  mark_of,
  scan_of,
}
use Rattle.lexer.proofs.RunLaws.{ref_ge}

-- a document part stands from a on, and ends before b
pub record PartInside (q : Span) (a b : ℕ) : Type 0 where
  pub starts : a ≤ q.start
  pub named : q.start ≤ q.end
  pub before : q.end < b

-- so it does, if there is one
abbrev pub DocInside : Option Span → ℕ → ℕ → Type 0
DocInside None a b = Unit {0}
DocInside (Some q) a b = PartInside q a b

-- a reference with the document part d and the name n, whose token is sp
pub record RefInside (d : Option Span) (n sp : Span) : Type 0 where
  pub ends : n.end ≡ sp.end
  pub named : n.start ≤ n.end
  pub starts : sp.start ≤ n.start
  pub doc : DocInside d sp.start n.start

-- what the token sp of a text holds inside
abbrev pub Inside : List ℕ → Token → Span → Type 0
Inside s And sp = Unit {0}
Inside s Or sp = Unit {0}
Inside s With sp = Unit {0}
Inside s Plus sp = sp.end ≡ sp.start + 1
Inside s Open sp = sp.end ≡ sp.start + 1
Inside s Close sp = sp.end ≡ sp.start + 1
Inside s (Licence k) sp = k < length listed
Inside s (Exception k) sp = k < length exceptions
Inside s (LicenseRef d n) sp = RefInside d n sp
Inside s (AdditionRef d n) sp = RefInside d n sp
Inside s (Unknown n) sp = n ≡ sp

-- what a step's token holds inside
abbrev pub InsideStep : List ℕ → Step → Type 0
InsideStep s (Ok (Some g)) = Inside s g.token g.span
InsideStep s (Ok None) = Unit {0}
InsideStep s (Err r) = Unit {0}

-- what the token of a try from p on holds inside
abbrev InsideWord : List ℕ → ℕ → Option (Token × ℕ) → Type 0
InsideWord s p (Some (t, x)) = Inside s t (span p x)
InsideWord s p None = Unit {0}

-- what two tries in order say
either_inside : (s : List ℕ) (p : ℕ) (v w : Option (Token × ℕ)) → InsideWord s p v → InsideWord s p w → InsideWord s p (or_else v w)
either_inside s p (Some (t, x)) w f g = f
either_inside s p None w f g = g

-- the prefix of a document part is made of a reference's bytes, so the part's name does not end before it starts
document_all : All ref_byte (ascii "DocumentRef-")
unfolding all_of ref_byte within
document_all = all_of_lem ref_byte (ascii "DocumentRef-") refl

pub document_ge : (s : List ℕ) (p : ℕ) → begins (ascii "DocumentRef-") (drop p s) ≡ true → p + 12 ≤ ref_end s p
unfolding ref_end
document_ge s p e =
    let w : ref_end s p ≡ ref_end s (p + 12) = walk_word ref_byte ref_zero (ascii "DocumentRef-") s p document_all e in
    omega (arith, ref_ge s (p + 12))

module _ (s : List ℕ) (m : Mode) (p : ℕ) where
  operator_inside : (r : List ℕ) (e : ℕ) → InsideWord s p (operator_of r e)
  unfolding operator_of
  operator_inside r e =
      by_cond (InsideWord s p) (same r (ascii "AND") || same r (ascii "and")) _ _ (λ x. tt)
      (λ x. by_cond (InsideWord s p) (same r (ascii "OR") || same r (ascii "or")) _ _ (λ y. tt)
      (λ y. by_cond (InsideWord s p) (same r (ascii "WITH") || same r (ascii "with")) _ _ (λ w. tt) (λ w. tt)))

  licence_inside : (r : List ℕ) (e : ℕ) → InsideWord s p (found Licence e (licence_of r))
  licence_inside r e = go (licence_of r) (licence_is r)
    where
      go : (f : Option ℕ) → LicenceIs r f → InsideWord s p (found Licence e f)
      go (Some k) i = i.0
      go None i = tt

  exception_inside : (r : List ℕ) (e : ℕ) → InsideWord s p (found Exception e (exception_of r))
  exception_inside r e = go (exception_of r) (exception_is r)
    where
      go : (f : Option ℕ) → ExceptionIs r f → InsideWord s p (found Exception e f)
      go (Some k) i = i.0
      go None i = tt

  -- a reference at a place q, of either kind
  module _ (kind : Option Span → Span → Token) (w : List ℕ) (is : (d : Option Span) (n sp : Span) → RefInside d n sp → Inside s (kind d n) sp) where
    ref_inside : (d : Option Span) (q : ℕ) → p ≤ q → DocInside d p (q + length w) → InsideWord s p (ref_of kind w d s q)
    unfolding ref_of
    ref_inside d q h i =
        by_cond (InsideWord s p) (begins w (drop q s)) _ _
        (λ x. is d (span (q + length w) (ref_end s (q + length w))) (span p (ref_end s (q + length w)))
        (record { ends = refl; named = ref_ge s (q + length w); starts = omega arith; doc = i }))
        (λ x. tt)

    documented_inside : InsideWord s p (documented kind w s p)
    unfolding documented
    documented_inside =
        by_cond (InsideWord s p) (begins (ascii "DocumentRef-") (drop p s) && eqb (get_or s (ref_end s p) 0) 0x3A) _ _
        (λ x. let y = both (begins (ascii "DocumentRef-") (drop p s)) (eqb (get_or s (ref_end s p) 0) 0x3A) x in
        let g = document_ge s p y.0 in
        ref_inside (Some (span (p + 12) (ref_end s p))) (ref_end s p + 1) (omega arith)
        (record { starts = omega arith; named = g; before = omega arith }))
        (λ x. tt)

  imprecise_inside : InsideWord s p (imprecise_at s m p)
  unfolding imprecise_at
  imprecise_inside =
      by_cond (InsideWord s p) m.imprecise _ _ (λ x. go (imprecise_of (drop p s)) (imprecise_is (drop p s))) (λ x. tt)
    where
      go : (l : Option Loose) → LooseIs (drop p s) l → InsideWord s p (hit p l)
      go (Some x) i = i.known
      go None i = tt

  unknown_inside : (e : ℕ) → InsideWord s p (unknown_of m p e)
  unfolding unknown_of
  unknown_inside e = by_cond (InsideWord s p) m.unknown _ _ (λ x. refl) (λ x. tt)

  word_inside : (e : ℕ) → InsideWord s p (word_of s m p e)
  unfolding word_of
  word_inside e =
      let r = part p e s in
      either_inside s p (operator_of r e) _ (operator_inside r e)
      (either_inside s p (found Licence e (licence_of r)) _ (licence_inside r e)
      (either_inside s p (found Exception e (exception_of r)) _ (exception_inside r e)
      (either_inside s p (documented LicenseRef (ascii "LicenseRef-") s p) _
      (documented_inside LicenseRef (ascii "LicenseRef-") (λ d n sp h. h))
      (either_inside s p (ref_of LicenseRef (ascii "LicenseRef-") None s p) _
      (ref_inside LicenseRef (ascii "LicenseRef-") (λ d n sp h. h) None p (omega arith) tt)
      (either_inside s p (documented AdditionRef (ascii "AdditionRef-") s p) _
      (documented_inside AdditionRef (ascii "AdditionRef-") (λ d n sp h. h))
      (either_inside s p (ref_of AdditionRef (ascii "AdditionRef-") None s p) _
      (ref_inside AdditionRef (ascii "AdditionRef-") (λ d n sp h. h) None p (omega arith) tt)
      (either_inside s p (imprecise_at s m p) (unknown_of m p e) imprecise_inside (unknown_inside e))))))))

  run_inside : InsideStep s (run_of s m p)
  unfolding run_of
  run_inside =
      by_cond (InsideStep s) (eqb (run_end s p) p) _ _ (λ x. tt)
      (λ x. go (word_of s m p (run_end s p)) (word_inside (run_end s p)))
    where
      go : (w : Option (Token × ℕ)) → InsideWord s p w → InsideStep s (told m p (run_end s p) w)
      go (Some (t, x)) i = i
      go None i = tt

  mark_inside : (at : ℕ) → InsideStep s (mark_of s m at p)
  unfolding mark_of
  mark_inside at =
      by_cond (InsideStep s) (leb (length s) p) _ _ (λ x. tt)
      (λ x. by_cond (InsideStep s) (eqb (get_or s p 0) 0x2B) _ _
      (λ y. by_cond (InsideStep s) (eqb p at) _ _ (λ z. refl) (λ z. tt))
      (λ y. by_cond (InsideStep s) (eqb (get_or s p 0) 0x28) _ _ (λ z. refl)
      (λ z. by_cond (InsideStep s) (eqb (get_or s p 0) 0x29) _ _ (λ u. refl)
      (λ u. by_cond (InsideStep s) (eqb (get_or s p 0) 0x2F && m.slash) _ _ (λ v. tt) (λ v. run_inside)))))

-- the token of a step in a text that was checked holds these inside
pub scan_inside : (s : List ℕ) (m : Mode) (at : ℕ) → InsideStep s (scan_of s m at)
unfolding scan_of
scan_inside s m at = mark_inside s m (past_white s at) at
