-- What an imprecise name's answer says: its licence is listed, the name begins the text, and its licence's name is not too long for it.
use Rattle.std.specs.Prelude.{◌≡◌, refl, Bool, true, false, List, ℕ, zero, suc, ◌+◌, ◌*◌, ◌≤◌, ◌<◌, leb, length, get_or, take, Option, Some, None}
use Rattle.std.proofs.Common.{sym, ◌∙◌, ap, subst, arith, length-take-le, leb-true}
use Rattle.std.proofs.lemmas.Bool.{false≢true}
use Rattle.text.specs.Text.{ascii, begins, same}
use Rattle.text.specs.TextLaws.{begins_front}
use Rattle.text.specs.Every.{every, every_at}
use Rattle.names.specs.declared.Loose.{Loose}
use Rattle.names.specs.Name.{standing}
use Rattle.names.specs.Listed.{listed, imprecise}
use Rattle.names.specs.Lookup.{
  seek,
  lookup,
  licence_texts,
  imprecise_texts,
  licence_of,
  bytes_at,
  licence_name,
  stands_for,
  stood,
  hit,
  longest,
  imprecise_of,
}
use Rattle.names.specs.Rules.{Finds, finds}
use Rattle.names.specs.Shape.{imprecise_texts_lem}
use Rattle.names.proofs.Laws.{licence_listed}

-- the test of the licence k that the imprecise name i stands for
fitting : ℕ → Option ℕ → Bool
fitting i (Some k) = leb (length (licence_name k) + 5) (4 * length (bytes_at imprecise_texts i))
fitting i None = false

fitting_test : every (λ i. fitting i (stands_for i)) (length imprecise) ≡ true
unfolding every fitting stands_for licence_of lookup seek licence_name bytes_at licence_texts listed imprecise_texts imprecise same
fitting_test = refl

-- the imprecise name i stands for a licence, whose name and five bytes more have room in four times its own
pub record Stood (i : ℕ) : Type 0 where
  pub licence : ℕ
  pub stands : stands_for i ≡ Some licence
  pub known : licence < length listed
  pub room : length (licence_name licence) + 5 ≤ 4 * length (bytes_at imprecise_texts i)

pub stands_for_lem : (i : ℕ) → i < length imprecise → Stood i
unfolding fitting stands_for
stands_for_lem i h = go (stands_for i) refl (every_at (λ i. fitting i (stands_for i)) (length imprecise) i fitting_test h)
  where
    go : (f : Option ℕ) → stands_for i ≡ f → fitting i f ≡ true → Stood i
    go (Some k) e t =
        record {
          licence = k;
          stands = e;
          known = (licence_listed (ascii (get_or imprecise i (standing "" "")).licence) k e).0;
          room = leb-true (length (licence_name k) + 5) (4 * length (bytes_at imprecise_texts i)) t;
        }
    go None e t = absurd (false≢true t)

-- what a hit says: some imprecise name of n bytes, at `place`, begins the text and stands for the licence k
pub record HitIs (t : List ℕ) (k n : ℕ) : Type 0 where
  pub place : ℕ
  pub within : place < length imprecise
  pub begun : begins (bytes_at imprecise_texts place) t ≡ true
  pub long : length (bytes_at imprecise_texts place) ≡ n
  pub stands : stands_for place ≡ Some k
  pub some : 0 < n
  pub fits : n ≤ length t
  pub known : k < length listed
  pub room : length (licence_name k) + 5 ≤ 4 * n

abbrev pub LooseIs : List ℕ → Option Loose → Type 0
LooseIs t (Some x) = HitIs t x.licence x.len
LooseIs t None = Unit {0}

-- the front of n bytes is the imprecise name at i
hit_is : (t : List ℕ) (n i : ℕ) → 0 < n → n ≤ length t → i < length imprecise → bytes_at imprecise_texts i ≡ take n t
    → LooseIs t (stood n (stands_for i))
hit_is t n i p l h e = subst (λ (f : Option ℕ). LooseIs t (stood n f)) (sym w.stands) told
  where
    w : Stood i
    w = stands_for_lem i h

    told : HitIs t w.licence n
    told =
        let q : length (bytes_at imprecise_texts i) ≡ n = ap length e ∙ length-take-le n t l in
        record {
          place = i;
          within = h;
          begun = ap (λ (r : List ℕ). begins r t) e ∙ begins_front n t;
          long = q;
          stands = w.stands;
          some = p;
          fits = l;
          known = w.known;
          room = omega (arith, w.room);
        }

longest_is : (t : List ℕ) (m : ℕ) → m ≤ length t → LooseIs t (longest m t)
unfolding longest
longest_is t zero l = tt
longest_is t (suc m) l = go (lookup imprecise_texts (take (suc m) t)) (finds imprecise_texts (take (suc m) t)) (longest_is t m (omega arith))
  where
    go : (f : Option ℕ) → Finds imprecise_texts (take (suc m) t) f → LooseIs t (longest m t) → LooseIs t (hit (suc m) f (longest m t))
    go (Some i) w ih = hit_is t (suc m) i (omega arith) l (omega (arith, imprecise_texts_lem, w.0)) w.1
    go None w ih = ih

pub imprecise_is : (t : List ℕ) → LooseIs t (imprecise_of t)
unfolding imprecise_of
imprecise_is t = longest_is t (length t) (omega arith)

pub imprecise_fits : (t : List ℕ) (x : Loose) → imprecise_of t ≡ Some x → HitIs t x.licence x.len
imprecise_fits t x e = subst (λ (o : Option Loose). LooseIs t o) e (imprecise_is t)
