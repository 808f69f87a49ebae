-- The "-or-later" and "-only" names of GNU names: what a partner is, that it stands near, and that there is none past the list.
use Rattle.std.specs.Prelude.{◌≡◌, refl, Bool, true, false, cond, not, ◌&&◌, List, ◌++◌, ℕ, ◌+◌, ◌≤◌, ◌<◌, ltb, length, get_or, Option, Some, None}
use Rattle.std.proofs.Common.{sym, ◌∙◌, ap, true≢false, arith, ltb-true}
use Rattle.std.proofs.lemmas.Bool.{false≢true, not-true}
use Rattle.std.proofs.Math.Decide.{dec_lt}
use Rattle.std.proofs.Math.ListN.{get_or-eq_default}
use Rattle.text.specs.Text.{ascii, same, ends}
use Rattle.text.specs.TextLaws.{ends_append}
use Rattle.text.specs.Every.{every, every_at}
use Rattle.text.specs.Tests.{both, cond_true, cond_false}
use Rattle.names.specs.Name.{Listed, plain}
use Rattle.names.specs.Listed.{listed}
use Rattle.names.specs.Lookup.{
  seek,
  lookup,
  licence_texts,
  licence_of,
  bytes_at,
  licence_name,
  deprecated_of,
  gnu_of,
  is_later,
  is_bare,
  stem,
  later_of,
  only_of,
}
use Rattle.names.proofs.Laws.{at_nothing, licence_listed}

-- past the list there is nothing to tell
pub record Past (k : ℕ) : Type 0 where
  pub deprecated : deprecated_of k ≡ false
  pub gnu : gnu_of k ≡ false
  pub later : is_later k ≡ false
  pub bare : is_bare k ≡ false
  pub no_later : later_of k ≡ None
  pub no_only : only_of k ≡ None

past_name : (k : ℕ) → length listed ≤ k → (deprecated_of k ≡ false) × (gnu_of k ≡ false)
unfolding deprecated_of gnu_of
past_name k h =
    let e : get_or listed k (plain "") ≡ plain "" = get_or-eq_default listed (plain "") h in
    (ap (λ (n : Listed). n.deprecated) e, ap (λ (n : Listed). n.gnu) e)

past_bare : (k : ℕ) → gnu_of k ≡ false → is_bare k ≡ false
unfolding is_bare
past_bare k g = rw g

pub past : (k : ℕ) → length listed ≤ k → Past k
unfolding is_later later_of only_of
past k h =
    let w = past_name k h in
    let g : gnu_of k ≡ false = w.1 in
    let b : is_bare k ≡ false = past_bare k g in
    record {
      deprecated = w.0;
      gnu = g;
      later = rw g;
      bare = b;
      no_later = rw g;
      no_only = rw b;
    }

pub gnu_listed : (k : ℕ) → gnu_of k ≡ true → k < length listed
gnu_listed k e = go (dec_lt k (length listed))
  where
    go : Dec (k < length listed) → k < length listed
    go (yes h) = h
    go (no h) = absurd (true≢false (sym e ∙ (past k (omega arith)).gnu))

-- the test of a partner j of k, as it stands in the table
good : ℕ → Option ℕ → Bool
good k (Some j) = ltb k j && (ltb j (k + 16) && (not (deprecated_of j) && (gnu_of j && not (is_bare j))))
good k None = true

later_test : every (λ k. good k (later_of k)) (length listed) ≡ true
unfolding every good later_of gnu_of deprecated_of is_bare stem ends same licence_of lookup seek licence_name bytes_at licence_texts listed
later_test = refl

only_test : every (λ k. good k (only_of k)) (length listed) ≡ true
unfolding every good only_of gnu_of deprecated_of is_bare stem ends same licence_of lookup seek licence_name bytes_at licence_texts listed
only_test = refl

-- j is the partner of the GNU name k whose name is n: listed, current, a GNU name with a suffix, after k and within 15 places
pub record Partner (k j : ℕ) (n : List ℕ) : Type 0 where
  pub owner : gnu_of k ≡ true
  pub within : j < length listed
  pub named : licence_name j ≡ n
  pub current : deprecated_of j ≡ false
  pub gnu : gnu_of j ≡ true
  pub settled : is_bare j ≡ false
  pub after : k < j
  pub near : j < k + 16

partner : (k j : ℕ) (n : List ℕ) → gnu_of k ≡ true → licence_of n ≡ Some j → good k (Some j) ≡ true → Partner k j n
unfolding good
partner k j n g e t =
    let f = licence_listed n j e in
    let a = both (ltb k j) _ t in
    let b = both (ltb j (k + 16)) _ a.1 in
    let c = both (not (deprecated_of j)) _ b.1 in
    let d = both (gnu_of j) (not (is_bare j)) c.1 in
    record {
      owner = g;
      within = f.0;
      named = f.1;
      current = not-true (deprecated_of j) c.0;
      gnu = d.0;
      settled = not-true (is_bare j) d.1;
      after = ltb-true k j a.0;
      near = ltb-true j (k + 16) b.0;
    }

-- an answer that is asked for only where b holds
asked : (b : Bool) (f : Option ℕ) (j : ℕ) → cond b f None ≡ Some j → (b ≡ true) × (f ≡ Some j)
asked true f j e = (refl, e)
asked false f j e = at_nothing None j e refl

bare_gnu : (k : ℕ) → is_bare k ≡ true → gnu_of k ≡ true
unfolding is_bare
bare_gnu k e = (both (gnu_of k) _ e).0

pub later_partner : (k j : ℕ) → later_of k ≡ Some j → Partner k j (stem (licence_name k) ++ ascii "-or-later")
unfolding later_of
later_partner k j e =
    let a = asked (gnu_of k) (licence_of (stem (licence_name k) ++ ascii "-or-later")) j e in
    let t = every_at (λ k. good k (later_of k)) (length listed) k later_test (gnu_listed k a.0) in
    partner k j (stem (licence_name k) ++ ascii "-or-later") a.0 a.1 (ap (good k) (sym e) ∙ t)

pub only_partner : (k j : ℕ) → only_of k ≡ Some j → Partner k j (licence_name k ++ ascii "-only")
unfolding only_of
only_partner k j e =
    let a = asked (is_bare k) (licence_of (licence_name k ++ ascii "-only")) j e in
    let g = bare_gnu k a.0 in
    let t = every_at (λ k. good k (only_of k)) (length listed) k only_test (gnu_listed k g) in
    partner k j (licence_name k ++ ascii "-only") g a.1 (ap (good k) (sym e) ∙ t)

-- only a bare name has an "-only" name
pub only_bare : (k j : ℕ) → only_of k ≡ Some j → is_bare k ≡ true
unfolding only_of
only_bare k j e = (asked (is_bare k) (licence_of (licence_name k ++ ascii "-only")) j e).0

-- a "-or-later" partner is an "-or-later" name
pub later_later : (k j : ℕ) → later_of k ≡ Some j → is_later j ≡ true
unfolding is_later
later_later k j e =
    let p = later_partner k j e in
    rw (p.gnu, p.named) (ends_append (stem (licence_name k)) (ascii "-or-later"))

-- today's table: a bare GNU name has its "-only" name, and a GNU name with no "-or-later" has its "-or-later" name
some : Option ℕ → Bool
some (Some j) = true
some None = false

some_is : (f : Option ℕ) → some f ≡ true → (j : ℕ) × (f ≡ Some j)
unfolding some
some_is (Some j) e = (j, refl)
some_is None e = absurd (false≢true e)

then_so : (a b : Bool) → cond a b true ≡ true → a ≡ true → b ≡ true
then_so true b e h = e
then_so false b e h = absurd (false≢true h)

has_only_test : every (λ k. cond (is_bare k) (some (only_of k)) true) (length listed) ≡ true
unfolding every some only_of gnu_of is_bare stem ends same licence_of lookup seek licence_name bytes_at licence_texts listed
has_only_test = refl

has_later_test : every (λ k. cond (gnu_of k && not (is_later k)) (some (later_of k)) true) (length listed) ≡ true
unfolding every some later_of gnu_of is_later stem ends same licence_of lookup seek licence_name bytes_at licence_texts listed
has_later_test = refl

no_later_test : every (λ k. cond (is_later k) (not (some (later_of k))) true) (length listed) ≡ true
unfolding every some later_of gnu_of is_later stem ends same licence_of lookup seek licence_name bytes_at licence_texts listed
no_later_test = refl

pub bare_has_only : (k : ℕ) → is_bare k ≡ true → (j : ℕ) × (only_of k ≡ Some j)
bare_has_only k e =
    some_is (only_of k)
    (then_so (is_bare k) (some (only_of k))
    (every_at (λ k. cond (is_bare k) (some (only_of k)) true) (length listed) k has_only_test (gnu_listed k (bare_gnu k e))) e)

pub gnu_has_later : (k : ℕ) → gnu_of k ≡ true → is_later k ≡ false → (j : ℕ) × (later_of k ≡ Some j)
gnu_has_later k g e =
    some_is (later_of k)
    (then_so (gnu_of k && not (is_later k)) (some (later_of k))
    (every_at (λ k. cond (gnu_of k && not (is_later k)) (some (later_of k)) true) (length listed) k has_later_test (gnu_listed k g))
    (rw (g, e)))

-- and an "-or-later" name has none
pub later_has_none : (k : ℕ) → is_later k ≡ true → later_of k ≡ None
unfolding is_later some
later_has_none k e =
    go (later_of k)
    (not-true (some (later_of k))
    (then_so (is_later k) (not (some (later_of k)))
    (every_at (λ k. cond (is_later k) (not (some (later_of k))) true) (length listed) k no_later_test (gnu_listed k (both (gnu_of k) _ e).0)) e))
  where
    go : (f : Option ℕ) → some f ≡ false → f ≡ None
    go (Some j) q = absurd (true≢false q)
    go None q = refl

-- today's table: the deprecated names are the bare GNU names
bare_deprecated_test : every (λ k. cond (is_bare k) (deprecated_of k) (not (deprecated_of k))) (length listed) ≡ true
unfolding every deprecated_of gnu_of is_bare ends same licence_name bytes_at licence_texts listed
bare_deprecated_test = refl

pub bare_deprecated : (k : ℕ) → is_bare k ≡ true → deprecated_of k ≡ true
bare_deprecated k e =
    sym (cond_true (is_bare k) (deprecated_of k) (not (deprecated_of k)) e)
    ∙ every_at (λ k. cond (is_bare k) (deprecated_of k) (not (deprecated_of k))) (length listed) k bare_deprecated_test (gnu_listed k (bare_gnu k e))

pub settled_current : (k : ℕ) → is_bare k ≡ false → deprecated_of k ≡ false
settled_current k e = go (dec_lt k (length listed))
  where
    go : Dec (k < length listed) → deprecated_of k ≡ false
    go (yes h) = not-true (deprecated_of k)
        (sym (cond_false (is_bare k) (deprecated_of k) (not (deprecated_of k)) e)
        ∙ every_at (λ k. cond (is_bare k) (deprecated_of k) (not (deprecated_of k))) (length listed) k bare_deprecated_test h)
    go (no h) = (past k (omega arith)).deprecated

-- a name that is not deprecated is not bare
pub current_settled : (k : ℕ) → deprecated_of k ≡ false → is_bare k ≡ false
current_settled k e = go (is_bare k) refl
  where
    go : (b : Bool) → is_bare k ≡ b → b ≡ false
    go true q = absurd (true≢false (sym (bare_deprecated k q) ∙ e))
    go false q = refl

-- a name with a suffix, and one that is no GNU name, is its own "-only" name
pub settled_no_only : (k : ℕ) → is_bare k ≡ false → only_of k ≡ None
unfolding only_of
settled_no_only k e = rw e

pub other_settled : (k : ℕ) → gnu_of k ≡ false → is_bare k ≡ false
other_settled k g = past_bare k g

-- what is written for a name alone: its "-only" name, or itself where it has a suffix or is no GNU name
pub only_name : (k j : ℕ) → only_of k ≡ Some j → licence_name j ≡ licence_name k ++ ascii "-only"
only_name k j e = (only_partner k j e).named

pub no_only_settled : (k : ℕ) → only_of k ≡ None → is_bare k ≡ false
no_only_settled k e = go (is_bare k) refl
  where
    go : (b : Bool) → is_bare k ≡ b → is_bare k ≡ false
    go true q = let w = bare_has_only k q in at_nothing (only_of k) w.0 w.1 e
    go false q = q

-- a GNU name that has no "-or-later" name does not end in "-only", so it is its own stem
whole_test : every (λ k. cond (gnu_of k && not (some (later_of k))) (not (ends (ascii "-only") (licence_name k))) true) (length listed) ≡ true
unfolding every some later_of gnu_of stem ends same licence_of lookup seek licence_name bytes_at licence_texts listed
whole_test = refl

pub no_later_whole : (k : ℕ) → gnu_of k ≡ true → later_of k ≡ None → stem (licence_name k) ≡ licence_name k
unfolding stem some
no_later_whole k g e =
    let t = every_at (λ k. cond (gnu_of k && not (some (later_of k))) (not (ends (ascii "-only") (licence_name k))) true) (length listed) k whole_test (gnu_listed k g) in
    cond_false (ends (ascii "-only") (licence_name k)) _ _
    (not-true (ends (ascii "-only") (licence_name k))
    (then_so (gnu_of k && not (some (later_of k))) (not (ends (ascii "-only") (licence_name k))) t (rw (g, e))))
