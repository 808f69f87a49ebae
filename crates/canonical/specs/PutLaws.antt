-- Laws of the functions that write a draft: what a licence is written as, in the words of the table, and what a function has done that wrote one
-- piece, or two one behind the other.
use Rattle.std.specs.Prelude.{ℕ, ◌+◌, ◌≤◌, ◌<◌, ◌≡◌, true, false, List, ◌++◌, length, get_or, Some, None, Option, unwrap_or, refl}
use Rattle.std.proofs.Common.{sym, ap, ◌∙◌, subst, append-nil, arith, length-append, eq-eqb, ne_eqb}
use Rattle.text.specs.Text.{ascii}
use Rattle.text.specs.Overlay.{overlay}
use Rattle.text.proofs.OverlayLaws.{overlay_length, overlay_both}
use Rattle.names.specs.Listed.{listed, exceptions}
use Rattle.names.specs.Lookup.{licence_name, exception_name, gnu_of, later_of, only_of}
use Rattle.names.specs.Layout.{rows, name_at}
use Rattle.names.proofs.LayoutLaws.{counts, licence_row, exception_row}
use Rattle.names.proofs.Partners.{only_partner, only_name, only_bare, no_only_settled, later_partner, no_later_whole, gnu_listed}
use Rattle.canonical.specs.declared.Place.{Place}
use Rattle.canonical.specs.Canonical.{alone, plussed}
use Rattle.canonical.specs.Turn.{goes, plus_at, licence_piece, licence_next}

-- A listed licence, in the words of the table.

-- a bare GNU name alone
pub alone_only : (k j : ℕ) → only_of k ≡ Some j → (j < length rows) × (name_at j ≡ alone k)
unfolding alone
alone_only k j e =
    let p = only_partner k j e in
    (omega (counts, p.within), licence_row j p.within ∙ only_name k j e ∙ rw (only_bare k j e))

-- any other name alone
pub alone_itself : (k : ℕ) → k < length listed → only_of k ≡ None → name_at k ≡ alone k
unfolding alone
alone_itself k h e = licence_row k h ∙ rw (no_only_settled k e) (sym (append-nil (licence_name k)))

-- the "-only" name j of the licence k, or its own
pub alone_named : (k j : ℕ) → k < length listed → j ≡ unwrap_or (only_of k) k → (j < length rows) × (name_at j ≡ alone k)
alone_named k j h e = subst (λ (i : ℕ). (i < length rows) × (name_at i ≡ alone k)) (sym e) (go (only_of k) refl)
  where
    go : (o : Option ℕ) → only_of k ≡ o → (unwrap_or o k < length rows) × (name_at (unwrap_or o k) ≡ alone k)
    go (Some i) w = alone_only k i w
    go None w = (omega counts, alone_itself k h w)

-- a GNU name with its `+`, where its "-or-later" name is listed
pub plussed_later : (k j : ℕ) → later_of k ≡ Some j → (j < length rows) × (name_at j ≡ plussed k)
unfolding plussed
plussed_later k j e =
    let p = later_partner k j e in
    (omega (counts, p.within), licence_row j p.within ∙ p.named ∙ rw p.owner)

-- and where it is not
pub plussed_suffixed : (k : ℕ) → gnu_of k ≡ true → later_of k ≡ None → name_at k ++ ascii "-or-later" ≡ plussed k
unfolding plussed
plussed_suffixed k g e =
    ap (λ (n : List ℕ). n ++ ascii "-or-later") (licence_row k (gnu_listed k g) ∙ sym (no_later_whole k g e)) ∙ rw g

-- any other name with its `+`
pub plussed_plain : (k : ℕ) → k < length listed → gnu_of k ≡ false → name_at k ++ ascii "+" ≡ plussed k
unfolding plussed
plussed_plain k h g = ap (λ (n : List ℕ). n ++ ascii "+") (licence_row k h) ∙ rw g

-- an exception, which stands behind the licences in the table
pub exception_at : (l k : ℕ) → l ≡ length listed → k < length exceptions → (l + k < length rows) × (name_at (l + k) ≡ exception_name k)
exception_at l k e h = (omega (counts, h), ap (λ (n : ℕ). name_at (n + k)) e ∙ exception_row k h)

-- What a function has done.

-- room for a piece is room for an equal one, and for its front
pub room_as : (at : ℕ) (p q : List ℕ) (n : ℕ) → p ≡ q → at + length q ≤ n → at + length p ≤ n
room_as at p q n e h = rw e h

pub room_front : (at : ℕ) (p q r : List ℕ) (n : ℕ) → p ++ q ≡ r → at + length r ≤ n → at + length p ≤ n
room_front at p q r n e h = omega (arith, ap length e, length-append p q)

-- p was written over b from a place on: r is the place behind it, and b has become c
abbrev pub Put : ℕ → List ℕ → List ℕ → ℕ → List ℕ → Type 0
Put at p b r c = (r ≡ at + length p) × (c ≡ overlay at p b)

pub put_as : (at : ℕ) (p q b : List ℕ) (r : ℕ) (c : List ℕ) → p ≡ q → Put at p b r c → Put at q b r c
put_as at p q b r c e w = subst (λ (x : List ℕ). Put at x b r c) e w

-- two pieces: room for the second, and what both have done
module _ (at : ℕ) (p q b : List ℕ) (m : ℕ) (c : List ℕ) (w : Put at p b m c) where
  pub room_behind : (x : List ℕ) → p ++ q ≡ x → at + length x ≤ length b → m + length q ≤ length c
  room_behind x e h =
      let l : length x ≡ length p + length q = ap length (sym e) ∙ length-append p q in
      omega (arith, ap length w.1 ∙ overlay_length at b p (omega arith))

  pub put_both : (x : List ℕ) (r : ℕ) (d : List ℕ) → p ++ q ≡ x → at ≤ length b → Put m q c r d → Put at x b r d
  put_both x r d e h v =
      put_as at (p ++ q) x b r d e (
        omega (arith, length-append p q),
        v.1 ∙ ap (λ (k : ℕ). overlay k q c) w.0 ∙ ap (overlay (at + length p) q) w.1 ∙ overlay_both at b p q h,
      )

-- the same with the place at which the next token is looked for, e
abbrev pub Went : ℕ → ℕ → List ℕ → List ℕ → Place → List ℕ → Type 0
Went e n p b r c = (r ≡ goes e (n + length p)) × (c ≡ overlay n p b)

pub went_as : (e n : ℕ) (p q b : List ℕ) (r : Place) (c : List ℕ) → p ≡ q → Went e n p b r c → Went e n q b r c
went_as e n p q b r c x w = subst (λ (y : List ℕ). Went e n y b r c) x w

-- a listed licence that a `+` follows at once, and one that none follows
module _ (s : List ℕ) (k e : ℕ) where
  pub piece_plussed : get_or s e 0 ≡ 0x2B → licence_piece s k e ≡ plussed k
  unfolding licence_piece plus_at
  piece_plussed h = rw (eq-eqb (get_or s e 0) 0x2B h)

  pub piece_alone : (get_or s e 0 ≡ 0x2B → ⊥) → licence_piece s k e ≡ alone k
  unfolding licence_piece plus_at
  piece_alone h = rw (ne_eqb (get_or s e 0) 0x2B h)

  module _ (n : ℕ) (b : List ℕ) (len : ℕ) (c : List ℕ) where
    pub went_plussed : get_or s e 0 ≡ 0x2B → Put n (plussed k) b len c → Went (licence_next s e) n (licence_piece s k e) b (goes (e + 1) len) c
    unfolding licence_piece licence_next plus_at
    went_plussed h w = rw (eq-eqb (get_or s e 0) 0x2B h) (ap (goes (e + 1)) w.0, w.1)

    pub went_alone : (get_or s e 0 ≡ 0x2B → ⊥) → Put n (alone k) b len c → Went (licence_next s e) n (licence_piece s k e) b (goes e len) c
    unfolding licence_piece licence_next plus_at
    went_alone h w = rw (ne_eqb (get_or s e 0) 0x2B h) (ap (goes e) w.0, w.1)
