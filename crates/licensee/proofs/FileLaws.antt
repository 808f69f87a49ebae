-- Laws of the list file: an entry by its cases, the walk over the entries, and what a valid file says of its count and of each entry.
use Prim.Native.Nat.{ℕ, zero, suc, ◌+◌, ◌-◌, ◌*◌, ◌≤◌, ◌<◌}
use Rattle.std.proofs.Math.Path.{◌≡◌, refl, sym, ap, subst}
use Rattle.std.proofs.Common.{◌∙◌}
use Rattle.std.specs.Prelude.{Bool, not, ◌&&◌, ◌||◌, set, replicate, Ok, Err}
use Rattle.std.proofs.Math.Bool.{true, false, cond, true≢false}
use mathlib.Core.List.{List, [], ◌∷◌, ◌++◌, append_assoc, map, map-append}
use native.Mathlib.Omega.{arith}
use Rattle.std.proofs.Math.Nat.{sub-zero}
use Rattle.std.proofs.Math.Dec.{eqb, leb, ltb}
use Rattle.std.proofs.Math.ListN.{length, length-append}
use Rattle.std.proofs.lemmas.List.{length-map}
use Rattle.std.proofs.Math.Seq.{set-append_seam}
use borrow.Author.Tests.{eq-eqb, ne_eqb, le-leb, eqb-true, eqb-false, leb-true, lt-ltb, le-ltb, ltb-true, ltb-false, not-false}
use Rattle.text.specs.Text.{part}
use Rattle.text.specs.Tests.{both, neither, cond_true, cond_false}
use Rattle.refusal.specs.Refused.{span}
use Rattle.refusal.specs.declared.Span.{Span}
use Rattle.refusal.specs.declared.Refusal.{Refusal}
use Rattle.refusal.specs.declared.Refusal.TheVariants.{BadList}
use Rattle.licensee.specs.declared.Licensee.{Licensee}
use Rattle.licensee.specs.declared.Terms.{Terms}
use Rattle.licensee.specs.Offers.{Body, body_of, at16, count, offset, size, placed, offer_of, wrong_entry, Accepts, good, wrong, before, entry_then, entries_from, contents, list_of, checked_of, has_entry, entry_of, entry_at, place_of}
use Rattle.licensee.specs.Terms.{offered_terms, blank, padded, accepted_of, SmallLicensee, SmallAll, SmallList}

-- ---- an entry

-- what "offset, length, end" say of an entry whose body is due at a
pub record Placed (f : List ℕ) (i a : ℕ) : Type 0 where
  pub there : offset f i ≡ a
  pub some : 1 ≤ size f i
  pub most : size f i ≤ 200
  pub fits : a + size f i ≤ length f

module _ (f : List ℕ) (i a : ℕ) where
  placed_is : placed f i a ≡ true → Placed f i a
  unfolding placed
  placed_is e =
      let t = both (eqb (offset f i) a) (leb 1 (size f i) && (leb (size f i) 200 && leb (a + size f i) (length f))) e in
      let u = both (leb 1 (size f i)) (leb (size f i) 200 && leb (a + size f i) (length f)) t.1 in
      let v = both (leb (size f i) 200) (leb (a + size f i) (length f)) u.1 in
      record {
        there = eqb-true _ _ t.0;
        some = leb-true _ _ u.0;
        most = leb-true _ _ v.0;
        fits = leb-true _ _ v.1;
      }

  pub offer_body : Placed f i a → offer_of f i a ≡ body_of i a (part a (a + size f i) f)
  unfolding offer_of placed
  offer_body p =
      rw (eq-eqb _ _ p.there, le-leb 1 _ p.some, le-leb (size f i) 200 p.most, le-leb (a + size f i) (length f) p.fits)

  pub offer_wrong : (Placed f i a → ⊥) → offer_of f i a ≡ wrong_entry i
  unfolding offer_of
  offer_wrong n = go (placed f i a) refl
    where
      go : (b : Bool) → placed f i a ≡ b → cond b (body_of i a (part a (a + size f i) f)) (wrong_entry i) ≡ wrong_entry i
      go true e = absurd (n (placed_is e))
      go false e = refl

  pub offer_is : (l : Licensee) → offer_of f i a ≡ Ok l → Placed f i a
  unfolding offer_of
  offer_is l e = go (placed f i a) refl e
    where
      go : (b : Bool) → placed f i a ≡ b → cond b (body_of i a (part a (a + size f i) f)) (wrong_entry i) ≡ Ok l → Placed f i a
      go true q h = placed_is q
      go false q h = absurd (let z : ◌≡◌ {A = ℕ} 0 1 = cc in omega arith)

-- the code's tests of entry i: its offset o and its length n
module _ (f : List ℕ) (i a o n : ℕ) (eo : o ≡ at16 f (1 + 4 * i)) (en : n ≡ at16 f (3 + 4 * i)) where
  pub offer_unfit : ((not (eqb o a) || ltb n 1) || ltb 200 n) ≡ true → offer_of f i a ≡ wrong_entry i
  unfolding offset size
  offer_unfit e = offer_wrong f i a no
    where
      no : Placed f i a → ⊥
      no p =
          let h : o ≡ a = eo ∙ p.there in
          let k : 1 ≤ n = omega (arith, p.some) in
          let m : n ≤ 200 = omega (arith, p.most) in
          true≢false (sym e ∙ simp (eq-eqb o a h, le-ltb n 1 k, le-ltb 200 n m))

  pub offer_past : length f < a + n → offer_of f i a ≡ wrong_entry i
  unfolding size
  offer_past h = offer_wrong f i a (λ p. let q = p.fits in absurd (omega arith))

  module _ (e : ((not (eqb o a) || ltb n 1) || ltb 200 n) ≡ false) where
    pub offer_most : n ≤ 200
    offer_most = ltb-false 200 n (neither (not (eqb o a) || ltb n 1) (ltb 200 n) e).1

    pub offer_in : a + n ≤ length f → offer_of f i a ≡ body_of i a (part a (a + n) f)
    unfolding offset size
    offer_in h =
        let t = neither (not (eqb o a)) (ltb n 1) (neither (not (eqb o a) || ltb n 1) (ltb 200 n) e).0 in
        offer_body f i a
        record {
          there = sym eo ∙ eqb-true o a (not-false _ t.0);
          some = omega (arith, ltb-false n 1 t.1);
          most = omega (arith, offer_most);
          fits = omega arith;
        }
        ∙ ap (λ (m : ℕ). body_of i a (part a (a + m) f)) (sym en)

-- ---- entries

module _ (f : List ℕ) (i a : ℕ) where
  pub entries_end : a ≡ length f → entries_from f 0 i a ≡ good []
  unfolding entries_from
  entries_end e = rw (eq-eqb a (length f) e)

  pub entries_after : (a ≡ length f → ⊥) → entries_from f 0 i a ≡ wrong (BadList 254)
  unfolding entries_from
  entries_after n = rw (ne_eqb a (length f) n)

  pub entries_wrong : (n : ℕ) (r : Refusal) → offer_of f i a ≡ Err r → entries_from f (suc n) i a ≡ wrong r
  unfolding entries_from
  entries_wrong n r e = ap (λ (b : Body). entry_then b (entries_from f n (i + 1) (a + size f i))) e

  pub entries_on : (n : ℕ) (l : Licensee) → offer_of f i a ≡ Ok l → entries_from f (suc n) i a ≡ before l (entries_from f n (i + 1) (a + size f i))
  unfolding entries_from
  entries_on n l e = ap (λ (b : Body). entry_then b (entries_from f n (i + 1) (a + size f i))) e

-- ---- the walk: the licensees read so far stand in front of what is left

pub behind : List Licensee → Accepts → Accepts
behind [] x = x
behind (l ∷ ls) x = before l (behind ls x)

behind_one : (ls : List Licensee) (l : Licensee) (x : Accepts) → behind ls (before l x) ≡ behind (ls ++ (l ∷ [])) x
unfolding behind
behind_one [] l x = refl
behind_one (k ∷ ls) l x = ap (before k) (behind_one ls l x)

behind_none : (ls : List Licensee) → behind ls (good []) ≡ good ls
unfolding behind
behind_none [] = refl
behind_none (l ∷ ls) = ap (before l) (behind_none ls)

behind_wrong : (ls : List Licensee) (r : Refusal) → behind ls (wrong r) ≡ wrong r
unfolding behind
behind_wrong [] r = refl
behind_wrong (l ∷ ls) r = ap (before l) (behind_wrong ls r)

small_one : (ls : List Licensee) (l : Licensee) → SmallAll ls → SmallLicensee l → SmallAll (ls ++ (l ∷ []))
small_one [] l s k = (k, tt)
small_one (m ∷ ls) l s k = (s.0, small_one ls l s.1 k)

-- a store behind the last terms
pad_store : (q : List Terms) (i : ℕ) (x : Terms) → length q ≡ i → i < 64 → set (padded q) i x ≡ padded (q ++ (x ∷ []))
pad_store q i x e h =
    let z : 64 - length q ≡ suc (64 - (length q + 1)) = omega arith in
    ap (λ (n : ℕ). set (padded q) n x) (sym e)
    ∙ ap (λ (n : ℕ). set (q ++ replicate n blank) (length q) x) z
    ∙ set-append_seam q blank (replicate (64 - (length q + 1)) blank) x
    ∙ sym (append_assoc q (x ∷ []) (replicate (64 - (length q + 1)) blank))
    ∙ ap (λ (n : ℕ). (q ++ (x ∷ [])) ++ replicate (64 - n) blank) (sym (length-append q (x ∷ [])))

-- an array that holds the terms of each licensee, from the front
abbrev pub Holds : List Licensee → List Terms → Type 0
Holds ls w = w ≡ padded (map offered_terms ls)

holds_more : (ls : List Licensee) (l : Licensee) (w : List Terms) (i : ℕ) (x : Terms) → length ls ≡ i → i < 64 → x ≡ offered_terms l → Holds ls w → Holds (ls ++ (l ∷ [])) (set w i x)
holds_more ls l w i x e h q p =
    ap (λ (v : List Terms). set v i x) p
    ∙ pad_store (map offered_terms ls) i x (length-map ls offered_terms ∙ e) h
    ∙ ap (λ (y : Terms). padded (map offered_terms ls ++ (y ∷ []))) q
    ∙ ap padded (sym (map-append offered_terms ls (l ∷ [])))

-- what holds where i of c entries are read and the next body is due at a
pub record Walk (f : List ℕ) (c : ℕ) (terms : List Terms) (i a : ℕ) : Type 0 where
  pub done : List Licensee
  pub many : length done ≡ i
  pub upto : i ≤ c
  pub due : a ≤ 257 + 200 * i
  pub small : SmallAll done
  pub held : Holds done terms
  pub whole : entries_from f c 0 (1 + 4 * c) ≡ behind done (entries_from f (c - i) i a)

pub walk_start : (f : List ℕ) (c : ℕ) → c ≤ 64 → Walk f c (replicate 64 blank) 0 (1 + 4 * c)
unfolding behind
walk_start f c h =
    record {
      done = [];
      many = refl;
      upto = omega arith;
      due = omega arith;
      small = tt;
      held = refl;
      whole = ap (λ (n : ℕ). entries_from f n 0 (1 + 4 * c)) (sym (sub-zero c));
    }

module _ {f : List ℕ} {c : ℕ} {terms : List Terms} {i a : ℕ} (w : Walk f c terms i a) where
  next : i < c → entries_from f (c - i) i a ≡ entries_from f (suc (c - (i + 1))) i a
  next h = let e : c - i ≡ suc (c - (i + 1)) = omega arith in ap (λ (n : ℕ). entries_from f n i a) e

  -- one licensee more, with its terms x and its length n
  pub walk_on : (l : Licensee) (x : Terms) (n : ℕ) → c ≤ 64 → i < c → x ≡ offered_terms l → n ≡ at16 f (3 + 4 * i) → offer_of f i a ≡ Ok l → SmallLicensee l
      → Walk f c (set terms i x) (i + 1) (a + n)
  unfolding size
  walk_on l x n k h t q e s =
      let d = w.done in
      let b : i < 64 = omega arith in
      record {
        done = d ++ (l ∷ []);
        many = length-append d (l ∷ []) ∙ ap (λ (m : ℕ). m + 1) w.many;
        upto = omega arith;
        due = omega (arith, (offer_is f i a l e).most);
        small = small_one d l w.small s;
        held = holds_more d l terms i x w.many b t w.held;
        whole =
            w.whole
            ∙ ap (behind d) (next h ∙ entries_on f i a (c - (i + 1)) l e ∙ ap (λ (m : ℕ). before l (entries_from f (c - (i + 1)) (i + 1) (a + m))) (sym q))
            ∙ behind_one d l (entries_from f (c - (i + 1)) (i + 1) (a + n));
      }

  -- an entry that is refused
  pub walk_wrong : (r : Refusal) → i < c → offer_of f i a ≡ Err r → entries_from f c 0 (1 + 4 * c) ≡ wrong r
  walk_wrong r h e =
      w.whole ∙ ap (behind w.done) (next h ∙ entries_wrong f i a (c - (i + 1)) r e) ∙ behind_wrong w.done r

  ended : c ≤ i → entries_from f c 0 (1 + 4 * c) ≡ behind w.done (entries_from f 0 i a)
  ended h =
      let e : c - i ≡ 0 = omega arith in
      w.whole ∙ ap (λ (n : ℕ). behind w.done (entries_from f n i a)) e

  -- bytes after the last body
  pub walk_after : c ≤ i → (a ≡ length f → ⊥) → entries_from f c 0 (1 + 4 * c) ≡ wrong (BadList 254)
  walk_after h n = ended h ∙ ap (behind w.done) (entries_after f i a n) ∙ behind_wrong w.done (BadList 254)

  pub walk_end : c ≤ i → a ≡ length f → entries_from f c 0 (1 + 4 * c) ≡ good w.done
  walk_end h e = ended h ∙ ap (behind w.done) (entries_end f i a e) ∙ behind_none w.done

  pub walk_read : c ≤ i → a ≡ length f → Ok (record { count = c; terms = terms }) ≡ accepted_of (entries_from f c 0 (1 + 4 * c))
  walk_read h e =
      let d = w.done in
      let n : c ≡ length d = omega (arith, w.many, w.upto) in
      (cc w.held) ∙ ap accepted_of (sym (walk_end h e))

  pub walk_small : c ≤ i → a ≡ length f → SmallList (entries_from f c 0 (1 + 4 * c))
  walk_small h e = rw (walk_end h e) w.small

-- ---- the file

-- what "a count c from 0 to 64", and the contents whole, say
pub record Contents (f : List ℕ) : Type 0 where
  pub some : 1 ≤ length f
  pub few : count f ≤ 64
  pub table : 1 + 4 * count f ≤ length f

module _ (f : List ℕ) where
  pub contents_are : contents f ≡ true → Contents f
  unfolding contents
  contents_are e =
      let t = both (leb 1 (length f)) (leb (count f) 64 && leb (1 + 4 * count f) (length f)) e in
      let u = both (leb (count f) 64) (leb (1 + 4 * count f) (length f)) t.1 in
      record {
        some = leb-true _ _ t.0;
        few = leb-true _ _ u.0;
        table = leb-true _ _ u.1;
      }

  pub list_entries : contents f ≡ true → list_of f ≡ entries_from f (count f) 0 (1 + 4 * count f)
  unfolding list_of
  list_entries e = cond_true (contents f) _ _ e

  pub list_cut : contents f ≡ false → list_of f ≡ wrong (BadList 255)
  unfolding list_of
  list_cut e = cond_false (contents f) _ _ e

  list_good : (ls : List Licensee) → list_of f ≡ good ls → Contents f × (entries_from f (count f) 0 (1 + 4 * count f) ≡ good ls)
  unfolding list_of
  list_good ls e = go (contents f) refl e
    where
      go : (b : Bool) → contents f ≡ b → cond b (entries_from f (count f) 0 (1 + 4 * count f)) (wrong (BadList 255)) ≡ good ls
          → Contents f × (entries_from f (count f) 0 (1 + 4 * count f) ≡ good ls)
      go true q h = (contents_are q, h)
      go false q h = absurd (let z : ◌≡◌ {A = ℕ} 0 1 = cc in omega arith)

  -- as many licensees as entries, each of which lies within the file
  Each : ℕ → ℕ → List Licensee → Type 0
  Each n i ls = (length ls ≡ n) × ((k : ℕ) → i ≤ k → k < i + n → offset f k + size f k ≤ length f)

  each_more : (n i a : ℕ) (l : Licensee) (ks : List Licensee) → Placed f i a → Each n (i + 1) ks → Each (suc n) i (l ∷ ks)
  unfolding Each
  each_more n i a l ks p e = (ap suc e.0, λ k h m. go k h m (eqb k i) refl)
    where
      go : (k : ℕ) → i ≤ k → k < i + suc n → (b : Bool) → eqb k i ≡ b → offset f k + size f k ≤ length f
      go k h m true q = let s = eqb-true k i q in rw s (omega (arith, p.there, p.fits))
      go k h m false q = let s = eqb-false k i q in e.1 k (omega arith) (omega arith)

  entries_are : (n i a : ℕ) (ls : List Licensee) → entries_from f n i a ≡ good ls → Each n i ls
  unfolding entries_from Each
  entries_are zero i a ls e = go (eqb a (length f)) e
    where
      go : (b : Bool) → cond b (good []) (wrong (BadList 254)) ≡ good ls → Each 0 i ls
      go true h = (let q : ls ≡ [] = cc in ap length q, λ k p m. absurd (omega arith))
      go false h = absurd (let z : ◌≡◌ {A = ℕ} 0 1 = cc in omega arith)
  entries_are (suc n) i a ls e =
      go (λ ks h. entries_are n (i + 1) (a + size f i) ks h) (offer_of f i a) refl (entries_from f n (i + 1) (a + size f i)) refl e
    where
      go : ((ks : List Licensee) → entries_from f n (i + 1) (a + size f i) ≡ good ks → Each n (i + 1) ks)
          → (b : Body) → offer_of f i a ≡ b → (x : Accepts) → entries_from f n (i + 1) (a + size f i) ≡ x → entry_then b x ≡ good ls → Each (suc n) i ls
      go ih (Ok l) p (good ks) q h =
          let s : l ∷ ks ≡ ls = cc in
          subst (Each (suc n) i) s (each_more n i a l ks (offer_is f i a l p) (ih ks q))
      go ih (Ok l) p (wrong r) q h = absurd (let z : ◌≡◌ {A = ℕ} 0 1 = cc in omega arith)
      go ih (Err r) p x q h = absurd (let z : ◌≡◌ {A = ℕ} 0 1 = cc in omega arith)

-- a valid file: its licensees are as many as it counts, at most 64, and each entry lies within
pub list_count : (f : List ℕ) (ls : List Licensee) → list_of f ≡ good ls → (length ls ≡ count f) × (length ls ≤ 64)
unfolding Each
list_count f ls e =
    let g = list_good f ls e in
    let n : length ls ≡ count f = (entries_are f (count f) 0 (1 + 4 * count f) ls g.1).0 in
    (n, omega (arith, g.0.few))

pub entry_within : (f : List ℕ) (ls : List Licensee) (i : ℕ) → list_of f ≡ good ls → i < length ls → offset f i + size f i ≤ length f
unfolding Each
entry_within f ls i e h =
    let g = list_good f ls e in
    (entries_are f (count f) 0 (1 + 4 * count f) ls g.1).1 i (omega arith) (omega (arith, (list_count f ls e).0))

-- ---- the entries by what `check` answers

module _ (f : List ℕ) (i : ℕ) where
  pub entry_none : has_entry i (list_of f) ≡ false → (entry_of f i ≡ []) × (entry_at f i ≡ 0)
  unfolding entry_of entry_at
  entry_none e = (cond_false (has_entry i (list_of f)) _ _ e, cond_false (has_entry i (list_of f)) _ _ e)

  pub entry_some : has_entry i (list_of f) ≡ true → (entry_of f i ≡ part (offset f i) (offset f i + size f i) f) × (entry_at f i ≡ offset f i)
  unfolding entry_of entry_at
  entry_some e = (cond_true (has_entry i (list_of f)) _ _ e, cond_true (has_entry i (list_of f)) _ _ e)

module _ (i : ℕ) where
  pub has_wrong : (w : Accepts) (r : Refusal) → checked_of w ≡ Err r → has_entry i w ≡ false
  has_wrong (good ls) r e = absurd (let z : ◌≡◌ {A = ℕ} 0 1 = cc in omega arith)
  has_wrong (wrong s) r e = refl

  pub has_past : (w : Accepts) (c : ℕ) → checked_of w ≡ Ok c → c ≤ i → has_entry i w ≡ false
  has_past (good ls) c e h = let n : length ls ≡ c = cc in le-ltb i (length ls) (omega arith)
  has_past (wrong r) c e h = refl

  pub has_in : (w : Accepts) (c : ℕ) → checked_of w ≡ Ok c → i < c → has_entry i w ≡ true
  has_in (good ls) c e h = let n : length ls ≡ c = cc in lt-ltb i (length ls) (omega arith)
  has_in (wrong r) c e h = absurd (let z : ◌≡◌ {A = ℕ} 0 1 = cc in omega arith)

-- an entry of a file that is valid with c entries: it is one of 64, and lies within
pub entry_room : (f : List ℕ) (i c : ℕ) → checked_of (list_of f) ≡ Ok c → i < c → (i < 64) × (offset f i + size f i ≤ length f)
entry_room f i c e h = go (list_of f) refl e
  where
    go : (w : Accepts) → list_of f ≡ w → checked_of w ≡ Ok c → (i < 64) × (offset f i + size f i ≤ length f)
    go (good ls) q k =
        let n : length ls ≡ c = cc in
        (omega (arith, (list_count f ls q).1), entry_within f ls i q (omega arith))
    go (wrong r) q k = absurd (let z : ◌≡◌ {A = ℕ} 0 1 = cc in omega arith)

module _ (f : List ℕ) (i : ℕ) where
  pub place_none : has_entry i (list_of f) ≡ false → place_of f i ≡ span 0 0
  unfolding place_of
  place_none e = cond_false (has_entry i (list_of f)) _ _ e

  pub place_some : has_entry i (list_of f) ≡ true → place_of f i ≡ span (offset f i) (offset f i + size f i)
  unfolding place_of
  place_some e = cond_true (has_entry i (list_of f)) _ _ e

  -- an entry that there is lies within the file
  has_room : (w : Accepts) → list_of f ≡ w → has_entry i w ≡ true → offset f i + size f i ≤ length f
  has_room (good ls) q e = entry_within f ls i q (ltb-true i (length ls) e)
  has_room (wrong r) q e = absurd (true≢false (sym e))

  -- what is known of a place: it lies in the file, and has the entry's bytes
  abbrev pub Lies : Span → Type 0
  Lies p = (p.start ≤ p.end) × (p.end ≤ length f) × (part p.start p.end f ≡ entry_of f i) × (p.start ≡ entry_at f i)

  pub place_part : Lies (place_of f i)
  unfolding part
  place_part = go (has_entry i (list_of f)) refl
    where
      go : (b : Bool) → has_entry i (list_of f) ≡ b → Lies (place_of f i)
      go true e =
          let n = entry_some f i e in
          subst Lies (sym (place_some e)) (omega arith, has_room (list_of f) refl e, sym n.0, sym n.1)
      go false e =
          let n = entry_none f i e in
          subst Lies (sym (place_none e)) (omega arith, omega arith, sym n.0, sym n.1)
