-- Laws of the definitions: the character at a place, how wide it is, which bytes it has, and white space.
use Rattle.std.specs.Prelude.{ℕ, suc, ◌+◌, ◌*◌, ◌%◌, ◌<◌, ◌≤◌, ◌≡◌, refl, Bool, true, false, cond, ◌&&◌, List, [], ◌∷◌, Option, Some, None, ◌⊎◌, leb, eqb, length, get_or, drop}
use Rattle.std.proofs.Common.{sym, ap, ◌∙◌, inl, inr, arith, le-leb, ne_eqb, leb-true, drop_of_length-le, drop-cons, get_or-drop}
use Rattle.std.specs.Option.{MatchOption}
use Rattle.std.proofs.Math.Bool.{or-true}
use Rattle.std.proofs.lemmas.Bool.{false≢true}
use Rattle.std.proofs.Math.Decide.{dec_lt}
use Rattle.std.proofs.Math.ListN.{get_or-eq_default}
use Rattle.text.specs.Text.{within}
use Rattle.text.specs.Tests.{both, by_cond, cond_true, cond_false}
use Rattle.text.specs.TextLaws.{within_in, within_below, within_above, within_low, within_high}
use Rattle.text.specs.Every.{all_of}
use Rattle.text.specs.Walk.{over, reach}
use Rattle.utf8.specs.declared.Char.{Char}
use Rattle.utf8.specs.Utf8.{ascii_byte, width_of, white_in, lowest, highest, two, three, four, decoded, front, char_width, first_ill, white_of, white_width}

-- past its end a text has no character, and inside it the character is that of the bytes there
pub front_end : (s : List ℕ) (at : ℕ) → length s ≤ at → front (drop at s) ≡ None
unfolding front
front_end s at h = simp (drop_of_length-le s h)

pub front_at : (s : List ℕ) (at : ℕ) → at < length s
    → front (drop at s) ≡ decoded (get_or s at 0) (get_or s (at + 1) 0) (get_or s (at + 2) 0) (get_or s (at + 3) 0)
unfolding front
front_at s at h =
    let b : (i : ℕ) → get_or (drop (suc at) s) i 0 ≡ get_or s (at + suc i) 0 =
    λ i. get_or-drop (suc at) s i 0 ∙ ap (λ n. get_or s n 0) (omega arith) in
    rw (drop-cons s at 0 h) (simp b)

-- an ASCII byte is a character of its own
pub decoded_ascii : (a b c d : ℕ) → a ≤ 0x7F → decoded a b c d ≡ Some (record { code = a; width = 1 })
unfolding decoded
decoded_ascii a b c d h = simp (le-leb a 0x7F h)

pub front_ascii : (s : List ℕ) (at : ℕ) → at < length s → get_or s at 0 ≤ 0x7F
    → front (drop at s) ≡ Some (record { code = get_or s at 0; width = 1 })
front_ascii s at h k = front_at s at h ∙ decoded_ascii _ _ _ _ k

-- does the byte continue a character
abbrev pub more : ℕ → Bool
more b = within 0x80 0xBF b

-- the bytes of a character that is w wide: the first continues none, those after it do
pub record Bytes (a b c d w : ℕ) : Type 0 where
  pub first : 0 < w → more a ≡ false
  pub second : 2 ≤ w → more b ≡ true
  pub third : 3 ≤ w → more c ≡ true
  pub fourth : 4 ≤ w → more d ≡ true
  pub most : w ≤ 4

-- the second byte of three or four is in a part of the range
second_more : (a b : ℕ) → within (lowest a) (highest a) b ≡ true → more b ≡ true
unfolding lowest highest
second_more a b e =
    within_in 0x80 0xBF b (low (eqb a 0xE0) (eqb a 0xF0) (within_low (lowest a) (highest a) b e))
    (high (eqb a 0xED) (eqb a 0xF4) (within_high (lowest a) (highest a) b e))
  where
    low : (p q : Bool) → cond {A = ℕ} p 0xA0 (cond q 0x90 0x80) ≤ b → 0x80 ≤ b
    low true q h = omega arith
    low false true h = omega arith
    low false false h = omega arith

    high : (p q : Bool) → b ≤ cond {A = ℕ} p 0x9F (cond q 0x8F 0xBF) → b ≤ 0xBF
    high true q h = omega arith
    high false true h = omega arith
    high false false h = omega arith

pub decoded_bytes : (a b c d : ℕ) → Bytes a b c d (width_of (decoded a b c d))
unfolding decoded two three four
decoded_bytes a b c d = go (leb a 0x7F) (two a b) (three a b c) (four a b c d) refl refl refl refl
  where
    go : (p q r t : Bool) → leb a 0x7F ≡ p → two a b ≡ q → three a b c ≡ r → four a b c d ≡ t
        → Bytes a b c d
        (width_of (cond p (Some (record { code = a; width = 1 })) (cond q (Some (record { code = a % 32 * 64 + b % 64; width = 2 }))
        (cond r (Some (record { code = a % 16 * 4096 + b % 64 * 64 + c % 64; width = 3 }))
        (cond t (Some (record { code = a % 8 * 262144 + b % 64 * 4096 + c % 64 * 64 + d % 64; width = 4 }))
        None)))))
    go true q r t e f g h =
        record {
          first = λ i. within_below 0x80 0xBF a (omega (arith, leb-true a 0x7F e));
          second = λ i. absurd (omega arith);
          third = λ i. absurd (omega arith);
          fourth = λ i. absurd (omega arith);
          most = omega arith;
        }
    go false true r t e f g h =
        let w = both (within 0xC2 0xDF a) (more b) f in
        record {
          first = λ i. within_above 0x80 0xBF a (omega (arith, within_low 0xC2 0xDF a w.0));
          second = λ i. w.1;
          third = λ i. absurd (omega arith);
          fourth = λ i. absurd (omega arith);
          most = omega arith;
        }
    go false false true t e f g h =
        let w = both (within 0xE0 0xEF a && within (lowest a) (highest a) b) (more c) g in
        let v = both (within 0xE0 0xEF a) (within (lowest a) (highest a) b) w.0 in
        record {
          first = λ i. within_above 0x80 0xBF a (omega (arith, within_low 0xE0 0xEF a v.0));
          second = λ i. second_more a b v.1;
          third = λ i. w.1;
          fourth = λ i. absurd (omega arith);
          most = omega arith;
        }
    go false false false true e f g h =
        let w = both (within 0xF0 0xF4 a && within (lowest a) (highest a) b && more c) (more d) h in
        let v = both (within 0xF0 0xF4 a && within (lowest a) (highest a) b) (more c) w.0 in
        let u = both (within 0xF0 0xF4 a) (within (lowest a) (highest a) b) v.0 in
        record {
          first = λ i. within_above 0x80 0xBF a (omega (arith, within_low 0xF0 0xF4 a u.0));
          second = λ i. second_more a b u.1;
          third = λ i. v.1;
          fourth = λ i. w.1;
          most = omega arith;
        }
    go false false false false e f g h =
        record {
          first = λ i. absurd (omega arith);
          second = λ i. absurd (omega arith);
          third = λ i. absurd (omega arith);
          fourth = λ i. absurd (omega arith);
          most = omega arith;
        }

-- a character ends inside its text
pub char_width_fits : (t : List ℕ) → char_width t ≤ length t
unfolding char_width front within
char_width_fits [] = omega arith
char_width_fits (a ∷ []) =
    let r = decoded_bytes a 0 0 0 in
    let n : 2 ≤ width_of (decoded a 0 0 0) → ⊥ = λ h. false≢true (r.second h) in
    omega arith
char_width_fits (a ∷ b ∷ []) =
    let r = decoded_bytes a b 0 0 in
    let n : 3 ≤ width_of (decoded a b 0 0) → ⊥ = λ h. false≢true (r.third h) in
    omega arith
char_width_fits (a ∷ b ∷ c ∷ []) =
    let r = decoded_bytes a b c 0 in
    let n : 4 ≤ width_of (decoded a b c 0) → ⊥ = λ h. false≢true (r.fourth h) in
    omega arith
char_width_fits (a ∷ b ∷ c ∷ d ∷ s) = omega (arith, (decoded_bytes a b c d).most)

pub white_width_fits : (t : List ℕ) → white_width t ≤ length t
unfolding white_width char_width
white_width_fits t = go (front t) (char_width_fits t)
  where
    go : (o : Option Char) → width_of o ≤ length t → white_in o ≤ length t
    go None h = h
    go (Some c) h = by_cond (λ (n : ℕ). n ≤ length t) (white_of c.code) c.width 0 (λ e. h) (λ e. omega arith)

-- how wide the white space is where the character is known
pub white_is : (c : Char) (t : List ℕ) → front t ≡ Some c → white_of c.code ≡ true → c.width ≡ white_width t
unfolding white_width
white_is c t e w = rw e (sym (cond_true (white_of c.code) c.width 0 w))

pub white_not : (c : Char) (t : List ℕ) → front t ≡ Some c → white_of c.code ≡ false → 0 ≡ white_width t
unfolding white_width
white_not c t e w = rw e (sym (cond_false (white_of c.code) c.width 0 w))

pub white_none : (t : List ℕ) → front t ≡ None → 0 ≡ white_width t
unfolding white_width
white_none t e = rw e

-- the width of the character that was found, 0 where there is none
pub width_said : {P : Char → Type 0} (w f : Option Char) (z : ℕ) → w ≡ f → ((x : Char) → P x → z ≡ x.width) → MatchOption w (z ≡ 0) P → z ≡ width_of f
width_said (Some x) f z e said q = said x q ∙ ap width_of e
width_said None f z e said q = q ∙ ap width_of e

-- how wide an ASCII byte is, as a character and as white space
pub ascii_width : (s : List ℕ) (at : ℕ) → at < length s → get_or s at 0 ≤ 0x7F → 1 ≡ char_width (drop at s)
unfolding char_width
ascii_width s at h k = sym (ap width_of (front_ascii s at h k))

pub ascii_white : (s : List ℕ) (at : ℕ) → get_or s at 0 ≤ 0x7F → cond (white_of (get_or s at 0)) 1 0 ≡ white_width (drop at s)
unfolding white_width white_of within
ascii_white s at k = go (dec_lt at (length s))
  where
    go : Dec (at < length s) → cond (white_of (get_or s at 0)) 1 0 ≡ white_in (front (drop at s))
    go (yes h) = sym (ap white_in (front_ascii s at h k))
    go (no h) =
        let k : length s ≤ at = omega arith in
        rw (front_end s at k, get_or-eq_default s 0 k)

-- the code points of white space that stand alone
abbrev pub Single : ℕ → Type 0
Single c =
    (c ≡ 0x20) ⊎ ((c ≡ 0x85) ⊎ ((c ≡ 0xA0) ⊎ ((c ≡ 0x1680) ⊎ ((c ≡ 0x202F) ⊎ ((c ≡ 0x205F) ⊎ (c ≡ 0x3000))))))

pub not_white : (c : ℕ) → (Single c → ⊥) → within 0x9 0xD c ≡ false → within 0x2000 0x200A c ≡ false
    → within 0x2028 0x2029 c ≡ false → white_of c ≡ false
unfolding white_of
not_white c h p q r =
    simp (
      p,
      q,
      r,
      ne_eqb c 0x20 (λ e. h (inl e)),
      ne_eqb c 0x85 (λ e. h (inr (inl e))),
      ne_eqb c 0xA0 (λ e. h (inr (inr (inl e)))),
      ne_eqb c 0x1680 (λ e. h (inr (inr (inr (inl e))))),
      ne_eqb c 0x202F (λ e. h (inr (inr (inr (inr (inl e)))))),
      ne_eqb c 0x205F (λ e. h (inr (inr (inr (inr (inr (inl e))))))),
      ne_eqb c 0x3000 (λ e. h (inr (inr (inr (inr (inr (inr e))))))),
    )

pub white_single : (c : ℕ) → Single c → white_of c ≡ true
unfolding white_of within
white_single c (inl e) = rw e
white_single c (inr (inl e)) = rw e
white_single c (inr (inr (inl e))) = rw e
white_single c (inr (inr (inr (inl e)))) = rw e
white_single c (inr (inr (inr (inr (inl e))))) = rw e
white_single c (inr (inr (inr (inr (inr (inl e)))))) = rw e
white_single c (inr (inr (inr (inr (inr (inr e)))))) = rw e

pub white_range : (c : ℕ) → (within 0x9 0xD c ≡ true) ⊎ ((within 0x2000 0x200A c ≡ true) ⊎ (within 0x2028 0x2029 c ≡ true))
    → white_of c ≡ true
unfolding white_of
white_range c (inl e) = simp e
white_range c (inr (inl e)) = simp (e, or-true)
white_range c (inr (inr e)) = simp (e, or-true)

-- an ASCII text is well-formed
ascii_over : (s : List ℕ) → all_of ascii_byte s ≡ true → over char_width 0 s ≡ length s
unfolding all_of over char_width front
ascii_over [] e = refl
ascii_over (a ∷ s) e =
    let w = both (ascii_byte a) (all_of ascii_byte s) e in
    let d : char_width (a ∷ s) ≡ 1 = ap width_of (decoded_ascii a _ _ _ (leb-true a 0x7F w.0)) in
    simp d (ap suc (ascii_over s w.1))

pub ascii_well : (s : List ℕ) → all_of ascii_byte s ≡ true → first_ill s ≡ length s
unfolding first_ill reach
ascii_well s e = omega (arith, ascii_over s e)
