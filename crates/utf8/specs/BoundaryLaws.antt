-- Laws of boundaries: in a well-formed text `insideOf` says exactly that a place is on none,
-- and where a text is walked over by white space or by ASCII bytes, the walk ends on one.
use Rattle.std.specs.Prelude.{ℕ, zero, suc, ◌+◌, ◌-◌, ◌<◌, ◌≤◌, ◌≡◌, refl, Bool, true, false, Option, Some, None, length, get_or, drop}
use Rattle.std.proofs.Math.Path.{sym}
use Rattle.std.proofs.Common.{ap, subst, ◌∙◌, true≢false, arith, length-drop}
use mathlib.Core.List.{List, [], ◌∷◌}
use Rattle.std.proofs.Math.Decide.{dec_lt}
use Rattle.text.specs.Tests.{by_cond}
use Rattle.text.specs.TextLaws.{within_below, within_low, byte_in}
use Rattle.text.specs.Walk.{reach, one}
use Rattle.text.specs.WalkLaws.{reach_stop, reach_le, reach_keeps, turn_on, one_fits}
use Rattle.utf8.specs.declared.Char.{Char}
use Rattle.utf8.specs.Utf8.{front, width_of, white_in, char_width, first_ill, inside_of, white_of, white_width, past_white}
use Rattle.utf8.specs.Boundary.{Boundary, start, behind, WellFormed}
use Rattle.utf8.specs.Laws.{more, Bytes, front_at, decoded_ascii, front_ascii, decoded_bytes, char_width_fits, white_width_fits}

-- a character is inside its text, its first byte continues none, and those after it do
pub char_in : (s : List ℕ) (at : ℕ) → 0 < char_width (drop at s) → at + char_width (drop at s) ≤ length s
char_in s at h = omega (arith, char_width_fits (drop at s), length-drop at s)

char_bytes : (s : List ℕ) (at : ℕ) → 0 < char_width (drop at s)
    → Bytes (get_or s at 0) (get_or s (at + 1) 0) (get_or s (at + 2) 0) (get_or s (at + 3) 0) (char_width (drop at s))
unfolding char_width
char_bytes s at h = rw (char_width, front_at s at (omega (arith, char_in s at h))) (decoded_bytes _ _ _ _)

pub char_first : (s : List ℕ) (at : ℕ) → 0 < char_width (drop at s) → inside_of s at ≡ false
unfolding inside_of
char_first s at h = (char_bytes s at h).first h

pub char_inside : (s : List ℕ) (from at : ℕ) → from < at → at < from + char_width (drop from s) → inside_of s at ≡ true
unfolding inside_of
char_inside s from at h k = go (char_bytes s from (omega arith)) (at - from) (omega arith)
  where
    go : Bytes (get_or s from 0) (get_or s (from + 1) 0) (get_or s (from + 2) 0) (get_or s (from + 3) 0) (char_width (drop from s))
        → (n : ℕ) → at ≡ from + n → more (get_or s at 0) ≡ true
    go b zero e = absurd (omega arith)
    go b (suc zero) e = rw e (b.second (omega arith))
    go b (suc (suc zero)) e = rw e (b.third (omega arith))
    go b (suc (suc (suc zero))) e = rw e (b.fourth (omega arith))
    go b (suc (suc (suc (suc n)))) e = absurd (omega (arith, b.most))

-- an ASCII byte is a character
pub char_ascii : (s : List ℕ) (at : ℕ) → at < length s → get_or s at 0 ≤ 0x7F → char_width (drop at s) ≡ 1
unfolding char_width
char_ascii s at h k = ap width_of (front_ascii s at h k)

pub boundary_le : {s : List ℕ} {at : ℕ} → Boundary s at → at ≤ length s
boundary_le start = omega arith
boundary_le {s} (behind {at} b h) = char_in s at h

-- the first ill-formed sequence starts on a boundary, and so a well-formed text ends on one
pub ill_boundary : (s : List ℕ) → Boundary s (first_ill s)
unfolding first_ill
ill_boundary s = reach_keeps char_width char_width_fits s (Boundary s) (λ at b h. behind b h) 0 start

pub end_boundary : {s : List ℕ} → WellFormed s → Boundary s (length s)
end_boundary {s} e = subst (Boundary s) e (ill_boundary s)

-- the walk from a boundary is the rest of the whole walk
walk_from : {s : List ℕ} {at : ℕ} → Boundary s at → first_ill s ≡ reach char_width s at
unfolding first_ill
walk_from start = refl
walk_from {s} (behind {at} b h) = walk_from b ∙ turn_on char_width char_width_fits s at (char_width (drop at s)) refl h

-- at each boundary of a well-formed text but its end stands a character
pub char_here : {s : List ℕ} {at : ℕ} → WellFormed s → Boundary s at → at < length s → 0 < char_width (drop at s)
char_here {s} {at} e b h = go (char_width (drop at s)) refl
  where
    go : (w : ℕ) → char_width (drop at s) ≡ w → 0 < w
    go zero z = absurd (omega (arith, walk_from b, reach_stop char_width s at z))
    go (suc w) z = omega arith

-- a place that is inside a character is inside the text
inside_in : (s : List ℕ) (at : ℕ) → inside_of s at ≡ true → at < length s
unfolding inside_of
inside_in s at e = byte_in s at (get_or s at 0) refl (omega (arith, within_low 0x80 0xBF (get_or s at 0) e))

-- a boundary of a well-formed text is inside no character
pub boundary_out : {s : List ℕ} {at : ℕ} → WellFormed s → Boundary s at → inside_of s at ≡ false
boundary_out {s} {at} e b = go (inside_of s at) refl
  where
    go : (i : Bool) → inside_of s at ≡ i → i ≡ false
    go true i = sym i ∙ char_first s at (char_here e b (inside_in s at i))
    go false i = refl

-- the character that holds a place
pub record Held (s : List ℕ) (at : ℕ) : Type 0 where
  pub from : ℕ
  pub starts : Boundary s from
  pub low : from ≤ at
  pub high : at < from + char_width (drop from s)

-- each place of a well-formed text is held by a character
pub held : (s : List ℕ) (at : ℕ) → WellFormed s → at < length s → Held s at
held s zero e h = record { from = 0; starts = start; low = omega arith; high = omega (arith, char_here e start h) }
held s (suc at) e h = go (held s at e (omega arith))
  where
    next : (c : Held s at) → suc at ≡ c.from + char_width (drop c.from s) → Held s (suc at)
    next c q =
        let b : Boundary s (suc at) = subst (Boundary s) (sym q) (behind c.starts (omega arith)) in
        record { from = suc at; starts = b; low = omega arith; high = omega (arith, char_here e b h) }

    on : (c : Held s at) → Dec (suc at < c.from + char_width (drop c.from s)) → Held s (suc at)
    on c (yes k) = record { from = c.from; starts = c.starts; low = omega arith; high = k }
    on c (no k) = next c (omega arith)

    go : Held s at → Held s (suc at)
    go c = on c (dec_lt (suc at) (c.from + char_width (drop c.from s)))

-- a place that is inside no character is a boundary
pub out_boundary : {s : List ℕ} {at : ℕ} → WellFormed s → at ≤ length s → inside_of s at ≡ false → Boundary s at
out_boundary {s} {at} e h n = go (dec_lt at (length s))
  where
    on : (c : Held s at) → Dec (c.from < at) → Boundary s at
    on c (yes k) = absurd (true≢false (sym (char_inside s c.from at k c.high) ∙ n))
    on c (no k) = subst (Boundary s) (omega (arith, c.low)) c.starts

    go : Dec (at < length s) → Boundary s at
    go (yes k) = let c = held s at e k in on c (dec_lt c.from at)
    go (no k) = let q : length s ≡ at = omega arith in subst (Boundary s) q (end_boundary e)

-- a place lies strictly inside a character
pub record Inside (s : List ℕ) (at : ℕ) : Type 0 where
  pub from : ℕ
  pub starts : Boundary s from
  pub low : from < at
  pub high : at < from + char_width (drop from s)

-- a place that is inside a character lies strictly inside one (`char-inside` is the reverse)
pub inside_char : {s : List ℕ} {at : ℕ} → WellFormed s → inside_of s at ≡ true → Inside s at
inside_char {s} {at} e i = let c = held s at e (inside_in s at i) in go c (dec_lt c.from at)
  where
    go : (c : Held s at) → Dec (c.from < at) → Inside s at
    go c (yes k) = record { from = c.from; starts = c.starts; low = k; high = c.high }
    go c (no k) =
        let q : c.from ≡ at = omega (arith, c.low) in
        let b : Boundary s at = subst (Boundary s) q c.starts in
        absurd (true≢false (sym i ∙ boundary_out e b))

-- an ASCII byte stands on a boundary, and behind it is one
pub ascii_boundary : {s : List ℕ} {at : ℕ} → WellFormed s → at ≤ length s → get_or s at 0 ≤ 0x7F → Boundary s at
unfolding inside_of
ascii_boundary {s} {at} e h k = out_boundary e h (within_below 0x80 0xBF (get_or s at 0) (omega arith))

pub after_ascii : {s : List ℕ} {at : ℕ} → Boundary s at → at < length s → get_or s at 0 ≤ 0x7F → Boundary s (at + 1)
after_ascii {s} {at} b h k =
    let e : char_width (drop at s) ≡ 1 = char_ascii s at h k in
    subst (λ (w : ℕ). Boundary s (at + w)) e (behind b (omega arith))

-- a walk over characters leads from a boundary to a boundary
pub chars_boundary : (f : List ℕ → ℕ) → ((t : List ℕ) → 0 < f t → f t ≡ char_width t)
    → ((t : List ℕ) → f t ≤ length t) → {s : List ℕ} {at : ℕ} → Boundary s at → Boundary s (reach f s at)
chars_boundary f same fits {s} {at} b = reach_keeps f fits s (Boundary s) step at b
  where
    step : (at : ℕ) → Boundary s at → 0 < f (drop at s) → Boundary s (at + f (drop at s))
    step at b h =
        let e : f (drop at s) ≡ char_width (drop at s) = same (drop at s) h in
        subst (λ (w : ℕ). Boundary s (at + w)) (sym e) (behind b (omega arith))

-- white space, and a run of ASCII bytes
white_char : (t : List ℕ) → 0 < white_width t → white_width t ≡ char_width t
unfolding white_width char_width
white_char t = go (front t)
  where
    go : (o : Option Char) → 0 < white_in o → white_in o ≡ width_of o
    go None = λ h. refl
    go (Some c) = by_cond (λ (n : ℕ). 0 < n → n ≡ c.width) (white_of c.code) c.width 0 (λ q h. refl) (λ q h. absurd (omega arith))

pub white_boundary : {s : List ℕ} {at : ℕ} → Boundary s at → Boundary s (past_white s at)
unfolding past_white
white_boundary b = chars_boundary white_width white_char white_width_fits b

pub white_well : (s : List ℕ) (at : ℕ) → at ≤ length s → past_white s at ≤ length s
unfolding past_white
white_well s at h = reach_le white_width s at h

module _ (p : ℕ → Bool) (low : (b : ℕ) → p b ≡ true → b ≤ 0x7F) where
  one_char : (t : List ℕ) → 0 < one p t → one p t ≡ char_width t
  unfolding one char_width front
  one_char [] = λ h. absurd (omega arith)
  one_char (a ∷ t) =
      by_cond (λ (n : ℕ). 0 < n → n ≡ char_width (a ∷ t)) (p a) 1 0
      (λ q h. sym (ap width_of (decoded_ascii a _ _ _ (low a q)))) (λ q h. absurd (omega arith))

  pub run_boundary : {s : List ℕ} {at : ℕ} → Boundary s at → Boundary s (reach (one p) s at)
  run_boundary b = chars_boundary (one p) one_char (one_fits p) b
