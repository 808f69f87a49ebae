-- What 17 says of a file that is refused: document 01, "17, (255; entries from 0 up, in each: offset, length, end, body; 254)".
use Prim.Native.Nat.{ℕ, zero, suc, ◌+◌, ◌*◌, ◌<◌}
use Rattle.std.specs.Prelude.{◌≡◌, Bool, List, [], eqb, length, Option, Some, None, Result, Ok, Err, ⊤}
use Rattle.std.proofs.Math.Path.{refl}
use Rattle.std.proofs.Common.{ap, ◌∙◌, subst, add-one, below_more}
use Rattle.std.proofs.Math.Bool.{true, false, cond}
use native.Mathlib.Omega.{arith}
use Rattle.std.proofs.lemmas.Bool.{eqb-false}
use Rattle.text.specs.Text.{part}
use Rattle.refusal.specs.declared.Refusal.{Refusal}
use Rattle.refusal.specs.declared.Refusal.TheVariants.{BadList}
use Rattle.mode.specs.Modes.{strict}
use Rattle.lexer.specs.Lex.{check_of}
use Rattle.lexer.specs.Tokens.{Tokens, done, refused, token, tokens_of}
use Rattle.grammar.specs.declared.Licence.{Licence}
use Rattle.grammar.specs.declared.Addition.{Addition}
use Rattle.licensee.specs.declared.Licensee.{Licensee}
use Rattle.licensee.specs.Offers.{Body, wrong_entry, joined, licence_in, behind_licence, offered, if_text, body_of, count, size, placed, offer_of, Accepts, good, wrong, entry_then, entries_from, contents, list_of}

-- where body i is due: behind the contents and the bodies before it
unfoldable pub due : List ℕ → ℕ → ℕ
due f zero = 1 + 4 * count f
due f (suc i) = due f i + size f i

-- entry i is right
abbrev pub Right : List ℕ → ℕ → Type 0
Right f i = (l : Licensee) × (offer_of f i (due f i) ≡ Ok l)

-- what is wrong, by the number that 17 gives
pub data Fault (f : List ℕ) : ℕ → Type 0 where
  cut : contents f ≡ false → Fault f 255
  entry : contents f ≡ true → (i : ℕ) → i < count f → ((k : ℕ) → k < i → Right f k) → offer_of f i (due f i) ≡ wrong_entry i → Fault f i
  after : contents f ≡ true → ((k : ℕ) → k < count f → Right f k) → (due f (count f) ≡ length f → ⊥) → Fault f 254

-- a refused entry is refused with its own number
module _ (i : ℕ) (r : Refusal) where
  joined_wrong : (l : Option Licence) (x : Option Addition) → joined i l x ≡ Err r → r ≡ BadList i
  joined_wrong None x e = cc
  joined_wrong (Some l) None e = cc
  joined_wrong (Some l) (Some x) e = absurd (let z : ◌≡◌ {A = ℕ} 0 1 = cc in omega arith)

  offered_wrong : (a : ℕ) (ts : Tokens) → offered i a ts ≡ Err r → r ≡ BadList i
  offered_wrong a done e = cc
  offered_wrong a (refused s) e = cc
  offered_wrong a (token t sp ts) e = joined_wrong (licence_in a t) (behind_licence a ts) e

  body_wrong : (a : ℕ) (b : List ℕ) → body_of i a b ≡ Err r → r ≡ BadList i
  unfolding body_of
  body_wrong a b e = go (check_of b) e
    where
      go : (k : Result ⊤ Refusal) → if_text i k (offered i a (tokens_of b strict 0)) ≡ Err r → r ≡ BadList i
      go (Ok tt) h = offered_wrong a (tokens_of b strict 0) h
      go (Err s) h = cc

  offer_refused : (f : List ℕ) (a : ℕ) → offer_of f i a ≡ Err r → r ≡ BadList i
  unfolding offer_of
  offer_refused f a e = go (placed f i a) e
    where
      go : (b : Bool) → cond b (body_of i a (part a (a + size f i) f)) (wrong_entry i) ≡ Err r → r ≡ BadList i
      go true h = body_wrong a (part a (a + size f i) f) h
      go false h = cc

module _ (f : List ℕ) (r : Refusal) where
  -- the fault of a file that is refused with r
  Found : Type 0
  Found = (n : ℕ) × (r ≡ BadList n) × Fault f n

  due_next : (i : ℕ) → due f (i + 1) ≡ due f i + size f i
  unfolding due
  due_next i = rw (add-one i)

  found_from : contents f ≡ true → (m i : ℕ) → i + m ≡ count f → ((k : ℕ) → k < i → Right f k) → entries_from f m i (due f i) ≡ wrong r → Found
  unfolding entries_from Found
  found_from w zero i c h e = go (eqb (due f i) (length f)) refl e
    where
      q : i ≡ count f
      q = omega arith

      go : (b : Bool) → eqb (due f i) (length f) ≡ b → cond b (good []) (wrong (BadList 254)) ≡ wrong r → Found
      go true t k = absurd (let z : ◌≡◌ {A = ℕ} 0 1 = cc in omega arith)
      go false t k = (
        254,
        cc,
        after w (subst (λ (n : ℕ). (k : ℕ) → k < n → Right f k) q h) (subst (λ (n : ℕ). due f n ≡ length f → ⊥) q (eqb-false (due f i) (length f) t)),
      )
  found_from w (suc m) i c h e =
      go
      (λ g k. found_from w m (i + 1) (omega arith) g k)
      (offer_of f i (due f i))
      refl
      (entries_from f m (i + 1) (due f i + size f i))
      refl
      e
    where
      go : (((k : ℕ) → k < i + 1 → Right f k) → entries_from f m (i + 1) (due f (i + 1)) ≡ wrong r → Found)
          → (b : Body) → offer_of f i (due f i) ≡ b → (x : Accepts) → entries_from f m (i + 1) (due f i + size f i) ≡ x → entry_then b x ≡ wrong r → Found
      go ih (Ok l) p (good ls) t k = absurd (let z : ◌≡◌ {A = ℕ} 0 1 = cc in omega arith)
      go ih (Ok l) p (wrong s) t k =
          ih (below_more (Right f) i h (l, p)) (ap (λ (a : ℕ). entries_from f m (i + 1) a) (due_next i) ∙ t ∙ k)
      go ih (Err s) p x t k =
          let o : s ≡ BadList i = offer_refused i s f (due f i) p in
          (i, cc, entry w i (omega arith) h (p ∙ ap (λ (y : Refusal). Err y) o))

  pub wrong_is : list_of f ≡ wrong r → (n : ℕ) × (r ≡ BadList n) × Fault f n
  unfolding list_of Found due
  wrong_is e = go (contents f) refl e
    where
      go : (b : Bool) → contents f ≡ b → cond b (entries_from f (count f) 0 (1 + 4 * count f)) (wrong (BadList 255)) ≡ wrong r → Found
      go true q k = found_from q (count f) 0 (omega arith) (λ j h. absurd (omega arith)) k
      go false q k = (255, cc, cut q)
