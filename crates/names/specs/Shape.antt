-- What every name of the table is like, by one test that computes over each part: made of run bytes, 2 to 64 of them, no operator, no reference.
use Rattle.std.specs.Prelude.{◌≡◌, refl, Bool, true, false, not, ◌&&◌, List, ℕ, ◌≤◌, ◌<◌, leb, length}
use Rattle.std.proofs.lemmas.List.{length-map}
use Rattle.std.proofs.Common.{leb-true}
use Rattle.std.proofs.lemmas.Bool.{not-true}
use Rattle.text.specs.Text.{ascii, begins, same, within}
use Rattle.text.specs.Runs.{ref_byte, run_byte}
use Rattle.text.specs.Every.{every, every_at, all_of, All, all_of_lem}
use Rattle.text.specs.Tests.{both}
use Rattle.names.specs.Listed.{listed, exceptions, imprecise}
use Rattle.names.specs.Lookup.{bytes_at, licence_name, exception_name, licence_texts, imprecise_texts}

-- a part has as many texts as names
pub licence_texts_lem : length licence_texts ≡ length listed
unfolding licence_texts
licence_texts_lem = simp length-map

pub imprecise_texts_lem : length imprecise_texts ≡ length imprecise
unfolding imprecise_texts
imprecise_texts_lem = simp length-map

proper : List ℕ → Bool
proper n =
    leb 2 (length n) &&
    (leb (length n) 64 &&
    (all_of run_byte n &&
    (not (same (ascii "AND") n) &&
    (not (same (ascii "and") n) &&
    (not (same (ascii "OR") n) &&
    (not (same (ascii "or") n) &&
    (not (same (ascii "WITH") n) &&
    (not (same (ascii "with") n) &&
    (not (begins (ascii "LicenseRef-") n) && (not (begins (ascii "AdditionRef-") n) && not (begins (ascii "DocumentRef-") n)))))))))))

-- what the test says of a name
pub record Proper (n : List ℕ) : Type 0 where
  pub long : 2 ≤ length n
  pub short : length n ≤ 64
  pub run : All run_byte n
  pub upper_and : same (ascii "AND") n ≡ false
  pub lower_and : same (ascii "and") n ≡ false
  pub upper_or : same (ascii "OR") n ≡ false
  pub lower_or : same (ascii "or") n ≡ false
  pub upper_with : same (ascii "WITH") n ≡ false
  pub lower_with : same (ascii "with") n ≡ false
  pub license_ref_lem : begins (ascii "LicenseRef-") n ≡ false
  pub addition_ref_lem : begins (ascii "AdditionRef-") n ≡ false
  pub document_ref : begins (ascii "DocumentRef-") n ≡ false

proper_is : (n : List ℕ) → proper n ≡ true → Proper n
unfolding proper
proper_is n e =
    let a = both (leb 2 (length n)) _ e in
    let b = both (leb (length n) 64) _ a.1 in
    let c = both (all_of run_byte n) _ b.1 in
    let d = both (not (same (ascii "AND") n)) _ c.1 in
    let f = both (not (same (ascii "and") n)) _ d.1 in
    let g = both (not (same (ascii "OR") n)) _ f.1 in
    let h = both (not (same (ascii "or") n)) _ g.1 in
    let i = both (not (same (ascii "WITH") n)) _ h.1 in
    let j = both (not (same (ascii "with") n)) _ i.1 in
    let k = both (not (begins (ascii "LicenseRef-") n)) _ j.1 in
    let l = both (not (begins (ascii "AdditionRef-") n)) (not (begins (ascii "DocumentRef-") n)) k.1 in
    record {
      long = leb-true 2 (length n) a.0;
      short = leb-true (length n) 64 b.0;
      run = all_of_lem run_byte n c.0;
      upper_and = not-true (same (ascii "AND") n) d.0;
      lower_and = not-true (same (ascii "and") n) f.0;
      upper_or = not-true (same (ascii "OR") n) g.0;
      lower_or = not-true (same (ascii "or") n) h.0;
      upper_with = not-true (same (ascii "WITH") n) i.0;
      lower_with = not-true (same (ascii "with") n) j.0;
      license_ref_lem = not-true (begins (ascii "LicenseRef-") n) k.0;
      addition_ref_lem = not-true (begins (ascii "AdditionRef-") n) l.0;
      document_ref = not-true (begins (ascii "DocumentRef-") n) l.1;
    }

licence_test : every (λ k. proper (licence_name k)) (length listed) ≡ true
unfolding every proper licence_name bytes_at licence_texts listed all_of run_byte ref_byte within same begins
licence_test = refl

exception_test : every (λ k. proper (exception_name k)) (length exceptions) ≡ true
unfolding every proper exception_name bytes_at exceptions all_of run_byte ref_byte within same begins
exception_test = refl

imprecise_test : every (λ i. proper (bytes_at imprecise_texts i)) (length imprecise) ≡ true
unfolding every proper bytes_at imprecise_texts imprecise all_of run_byte ref_byte within same begins
imprecise_test = refl

pub licence_proper : (k : ℕ) → k < length listed → Proper (licence_name k)
licence_proper k h = proper_is (licence_name k) (every_at (λ k. proper (licence_name k)) (length listed) k licence_test h)

pub exception_proper : (k : ℕ) → k < length exceptions → Proper (exception_name k)
exception_proper k h = proper_is (exception_name k) (every_at (λ k. proper (exception_name k)) (length exceptions) k exception_test h)

pub imprecise_proper : (i : ℕ) → i < length imprecise → Proper (bytes_at imprecise_texts i)
imprecise_proper i h =
    proper_is (bytes_at imprecise_texts i) (every_at (λ i. proper (bytes_at imprecise_texts i)) (length imprecise) i imprecise_test h)
