-- Laws of the lookups: a listed name is found at its own place, what is found is listed, and what the floors above tell apart is in no two parts.
use Rattle.std.specs.Prelude.{◌≡◌, refl, Bool, true, false, ◌&&◌, List, ℕ, ◌<◌, length, Option, Some, None}
use Rattle.std.proofs.Common.{sym, ◌∙◌, ap, subst, true≢false, arith}
use Rattle.std.proofs.lemmas.Bool.{false≢true}
use Rattle.text.specs.Text.{ascii, begins, same}
use Rattle.text.specs.Every.{every, every_at}
use Rattle.text.specs.Tests.{both}
use Rattle.names.specs.Listed.{listed, exceptions, imprecise}
use Rattle.names.specs.Lookup.{
  seek,
  lookup,
  licence_texts,
  imprecise_texts,
  licence_of,
  exception_of,
  bytes_at,
  licence_name,
  exception_name,
}
use Rattle.names.specs.Rules.{Finds, finds, found, absent, licences_ascend, exceptions_ascend}
use Rattle.names.specs.Shape.{licence_texts_lem, licence_proper, exception_proper}

-- one answer is not the other
pub at_nothing : {A : Type 0} (f : Option ℕ) (k : ℕ) → f ≡ Some k → f ≡ None → A
at_nothing f k p q = let z : ◌≡◌ {A = ℕ} 0 1 = cc in absurd (omega arith)

-- a listed name is found at its own place
pub licence_found : (k : ℕ) → k < length listed → licence_of (licence_name k) ≡ Some k
unfolding licence_of licence_name
licence_found k h = found licence_texts (bytes_at licence_texts k) k licences_ascend (omega (arith, licence_texts_lem)) refl

pub exception_found : (k : ℕ) → k < length exceptions → exception_of (exception_name k) ≡ Some k
unfolding exception_of exception_name
exception_found k h = found exceptions (bytes_at exceptions k) k exceptions_ascend h refl

-- what is found is listed, and its name is the run
abbrev pub LicenceIs : List ℕ → Option ℕ → Type 0
LicenceIs r (Some k) = (k < length listed) × (licence_name k ≡ r)
LicenceIs r None = Unit {0}

abbrev pub ExceptionIs : List ℕ → Option ℕ → Type 0
ExceptionIs r (Some k) = (k < length exceptions) × (exception_name k ≡ r)
ExceptionIs r None = Unit {0}

pub licence_is : (r : List ℕ) → LicenceIs r (licence_of r)
unfolding licence_of licence_name
licence_is r = go (lookup licence_texts r) (finds licence_texts r)
  where
    go : (f : Option ℕ) → Finds licence_texts r f → LicenceIs r f
    go (Some k) w = (omega (arith, licence_texts_lem, w.0), w.1)
    go None w = tt

pub exception_is : (r : List ℕ) → ExceptionIs r (exception_of r)
unfolding exception_of exception_name
exception_is r = go (lookup exceptions r) (finds exceptions r)
  where
    go : (f : Option ℕ) → Finds exceptions r f → ExceptionIs r f
    go (Some k) w = w
    go None w = tt

pub licence_listed : (r : List ℕ) (k : ℕ) → licence_of r ≡ Some k → (k < length listed) × (licence_name k ≡ r)
licence_listed r k e = subst (λ (f : Option ℕ). LicenceIs r f) e (licence_is r)

pub exception_listed : (r : List ℕ) (k : ℕ) → exception_of r ≡ Some k → (k < length exceptions) × (exception_name k ≡ r)
exception_listed r k e = subst (λ (f : Option ℕ). ExceptionIs r f) e (exception_is r)

-- what is the name of no place is not found
pub no_licence : (r : List ℕ) → ((k : ℕ) → k < length listed → licence_name k ≡ r → ⊥) → licence_of r ≡ None
unfolding licence_of licence_name
no_licence r f = absent licence_texts r (λ k h e. f k (omega (arith, licence_texts_lem)) e)

pub no_exception : (r : List ℕ) → ((k : ℕ) → k < length exceptions → exception_name k ≡ r → ⊥) → exception_of r ≡ None
unfolding exception_of exception_name
no_exception r f = absent exceptions r f

-- two places of a part have two names
pub licence_once : (i j : ℕ) → i < length listed → j < length listed → licence_name i ≡ licence_name j → i ≡ j
licence_once i j h l e =
    let p : licence_of (licence_name i) ≡ Some i = licence_found i h in
    let q : licence_of (licence_name j) ≡ Some j = licence_found j l in
    cc

pub exception_once : (i j : ℕ) → i < length exceptions → j < length exceptions → exception_name i ≡ exception_name j → i ≡ j
exception_once i j h l e =
    let p : exception_of (exception_name i) ≡ Some i = exception_found i h in
    let q : exception_of (exception_name j) ≡ Some j = exception_found j l in
    cc

none : Option ℕ → Bool
none (Some k) = false
none None = true

none_is : (f : Option ℕ) → none f ≡ true → f ≡ None
unfolding none
none_is (Some k) e = absurd (false≢true e)
none_is None e = refl

-- no exception is a licence, so no licence is an exception
exception_test : every (λ k. none (licence_of (exception_name k))) (length exceptions) ≡ true
unfolding every none licence_of lookup seek licence_texts listed exception_name bytes_at exceptions same
exception_test = refl

pub exception_not_licence : (k : ℕ) → k < length exceptions → licence_of (exception_name k) ≡ None
exception_not_licence k h =
    none_is (licence_of (exception_name k)) (every_at (λ k. none (licence_of (exception_name k))) (length exceptions) k exception_test h)

pub licence_not_exception : (k : ℕ) → k < length listed → exception_of (licence_name k) ≡ None
licence_not_exception k h =
    no_exception (licence_name k)
    (λ j l e. at_nothing (licence_of (exception_name j)) k (ap licence_of e ∙ licence_found k h) (exception_not_licence j l))

-- no name at all
pub record Unlisted (r : List ℕ) : Type 0 where
  pub licence : licence_of r ≡ None
  pub exception : exception_of r ≡ None

neither : List ℕ → Bool
neither r = none (licence_of r) && none (exception_of r)

neither_is : (r : List ℕ) → neither r ≡ true → Unlisted r
unfolding neither
neither_is r e =
    let w = both (none (licence_of r)) (none (exception_of r)) e in
    record { licence = none_is (licence_of r) w.0; exception = none_is (exception_of r) w.1 }

-- no imprecise name is listed
imprecise_test : every (λ i. neither (bytes_at imprecise_texts i)) (length imprecise) ≡ true
unfolding every neither none licence_of exception_of lookup seek licence_texts listed imprecise_texts imprecise bytes_at exceptions same
imprecise_test = refl

pub imprecise_unlisted : (i : ℕ) → i < length imprecise → Unlisted (bytes_at imprecise_texts i)
imprecise_unlisted i h =
    neither_is (bytes_at imprecise_texts i) (every_at (λ i. neither (bytes_at imprecise_texts i)) (length imprecise) i imprecise_test h)

-- what begins as no name does is no name
unlisted : (p r : List ℕ) → ((k : ℕ) → k < length listed → begins p (licence_name k) ≡ false)
    → ((k : ℕ) → k < length exceptions → begins p (exception_name k) ≡ false) → begins p r ≡ true → Unlisted r
unlisted p r f g b =
    record {
      licence = no_licence r (λ k h e. true≢false (sym b ∙ ap (begins p) (sym e) ∙ f k h));
      exception = no_exception r (λ k h e. true≢false (sym b ∙ ap (begins p) (sym e) ∙ g k h));
    }

-- so a reference is no name
module _ (r : List ℕ) where
  pub license_ref_unlisted : begins (ascii "LicenseRef-") r ≡ true → Unlisted r
  license_ref_unlisted =
      unlisted (ascii "LicenseRef-") r (λ k h. (licence_proper k h).license_ref_lem) (λ k h. (exception_proper k h).license_ref_lem)

  pub addition_ref_unlisted : begins (ascii "AdditionRef-") r ≡ true → Unlisted r
  addition_ref_unlisted =
      unlisted (ascii "AdditionRef-") r (λ k h. (licence_proper k h).addition_ref_lem) (λ k h. (exception_proper k h).addition_ref_lem)

  pub document_ref_unlisted : begins (ascii "DocumentRef-") r ≡ true → Unlisted r
  document_ref_unlisted =
      unlisted (ascii "DocumentRef-") r (λ k h. (licence_proper k h).document_ref) (λ k h. (exception_proper k h).document_ref)

-- and an operator is none
pub record Operators : Type 0 where
  pub upper_and : Unlisted (ascii "AND")
  pub lower_and : Unlisted (ascii "and")
  pub upper_or : Unlisted (ascii "OR")
  pub lower_or : Unlisted (ascii "or")
  pub upper_with : Unlisted (ascii "WITH")
  pub lower_with : Unlisted (ascii "with")

pub operators_unlisted : Operators
unfolding neither none licence_of exception_of lookup seek licence_texts listed exceptions same
operators_unlisted =
    record {
      upper_and = neither_is (ascii "AND") refl;
      lower_and = neither_is (ascii "and") refl;
      upper_or = neither_is (ascii "OR") refl;
      lower_or = neither_is (ascii "or") refl;
      upper_with = neither_is (ascii "WITH") refl;
      lower_with = neither_is (ascii "with") refl;
    }
