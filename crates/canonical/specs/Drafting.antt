-- The loop that drafts the canonical text: what is written and what is left make the whole, and there is room for the next turn.
use Rattle.lexer.specs.Step.{Step}
use Rattle.std.specs.Prelude.{ℕ, ◌+◌, ◌*◌, ◌<◌, ◌≤◌, ◌≡◌, refl, List, [], ◌++◌, length, take, Some, None, Result, Ok, Err}
use Rattle.std.proofs.Common.{sym, ◌∙◌, ap, subst, append_assoc, append-nil, arith, length-append}
use Rattle.text.specs.Overlay.{overlay}
use Rattle.text.proofs.OverlayLaws.{overlay_none, overlay_length, overlay_both, overlay_read}
use Rattle.mode.specs.declared.Mode.{Mode}
use Rattle.mode.specs.Modes.{lax}
use Rattle.refusal.specs.declared.Refusal.{Refusal}
use Rattle.lexer.specs.declared.Got.{Got}
use Rattle.lexer.specs.Lex.{scan_of, check_of}
use Rattle.lexer.specs.Standing.{StandingStep}
use Rattle.lexer.proofs.StandingLaws.{scan_standing}
use Rattle.canonical.specs.declared.Place.{Place}
use Rattle.canonical.specs.Canonical.{Text, text, refuse, behind, canon_if, canonical_of}
use Rattle.canonical.specs.Turn.{Turn, goes_on, token_turn, turn_of, piece, step_piece, Drafted}
use Rattle.canonical.specs.StepLaws.{Rest, Turned, turned, behind_none}

-- two pieces before a text
behind_both : (p q : List ℕ) (x : Text) → behind p (behind q x) ≡ behind (p ++ q) x
behind_both p q (text c) = ap text (sym (append_assoc p q c))
behind_both p q (refuse r) = refl

-- the loop's head, at a place of s: n bytes are written to the buffer b, which has become c
pub record Drafting (s b : List ℕ) (at n : ℕ) (c : List ℕ) : Type 0 where
  pub bytes : List ℕ
  pub whole : canonical_of s ≡ behind bytes (Rest s at)
  pub count : n ≡ length bytes
  pub holds : c ≡ overlay 0 bytes b
  pub cost : n ≤ 4 * at
  pub inside : at ≤ length s
  pub size : length c ≡ length b

-- a text that was checked is the rest from its start on
pub whole_rest : (s : List ℕ) → check_of s ≡ (Ok tt) → canonical_of s ≡ Rest s 0
unfolding canonical_of
whole_rest s e = ap (canon_if s) e

pub drafting_start : (s b : List ℕ) → check_of s ≡ (Ok tt) → Drafting s b 0 0 b
drafting_start s b e =
    record {
      bytes = [];
      whole = whole_rest s e ∙ sym (behind_none (Rest s 0));
      count = refl;
      holds = sym (overlay_none 0 b);
      cost = omega arith;
      inside = omega arith;
      size = refl;
    }

-- what the loop comes to by a turn from its head, where n bytes were written before it and the buffer has become d
abbrev pub Outcome : List ℕ → List ℕ → ℕ → ℕ → Turn → List ℕ → Type 0
Outcome s b at n (Ok (Some q)) d = (at < q.at) × Drafting s b q.at q.len d
Outcome s b at n (Ok None) d = Drafted (canonical_of s) (Ok n) d
Outcome s b at n (Err r) d = Drafted (canonical_of s) (Err r) d

module _ (s b : List ℕ) (at n : ℕ) (c : List ℕ) (i : Drafting s b at n c) (fits : 4 * length s ≤ length b) where
  -- there is room for what the turn writes, p
  turn_room : (p : List ℕ) (t : Turn) → Turned s at n p t → n + length p ≤ length c
  turn_room p (Ok (Some q)) w = let g = w.0 in omega (arith, i.cost, i.inside, i.size, g.cost, g.inside, g.ahead)
  turn_room p (Ok None) w = omega (arith, i.cost, i.inside, i.size, ap length w.1)
  turn_room p (Err r) w = omega (arith, i.cost, i.inside, i.size, ap length w.1)

  turn_goes : (p : List ℕ) (q : Place) → Turned s at n p (Ok (Some q)) → Drafting s b q.at q.len (overlay n p c)
  turn_goes p q w =
      let g = w.0 in
      let h : n + length p ≤ length c = turn_room p (Ok (Some q)) w in
      let k : n ≡ 0 + length i.bytes = omega (arith, i.count) in
      record {
        bytes = i.bytes ++ p;
        whole = i.whole ∙ ap (behind i.bytes) g.rest ∙ behind_both i.bytes p (Rest s q.at);
        count = omega (arith, w.1, i.count, length-append i.bytes p);
        holds =
            ap (λ (x : ℕ). overlay x p c) k ∙ ap (overlay (0 + length i.bytes) p) i.holds
            ∙ overlay_both 0 b i.bytes p (omega arith);
        cost = omega (arith, w.1, i.cost, g.cost, g.ahead);
        inside = g.inside;
        size = overlay_length n c p h ∙ i.size;
      }

  turn_ends : (p : List ℕ) → Turned s at n p (Ok None) → Drafted (canonical_of s) (Ok n) (overlay n p c)
  turn_ends p w =
      let d : overlay n p c ≡ c = ap (λ (q : List ℕ). overlay n q c) w.1 ∙ overlay_none n c in
      let r : take n (overlay n p c) ≡ i.bytes =
      ap (take n) (d ∙ i.holds) ∙ ap (λ (k : ℕ). take k (overlay 0 i.bytes b)) i.count ∙ overlay_read i.bytes b in
      (i.whole ∙ ap (behind i.bytes) w.0 ∙ ap text (append-nil i.bytes ∙ sym r), omega (arith, ap length d, i.cost, i.inside, i.size))

  turn_comes : (p : List ℕ) (t : Turn) → Turned s at n p t → Outcome s b at n t (overlay n p c)
  turn_comes p (Ok (Some q)) w = (w.0.ahead, turn_goes p q w)
  turn_comes p (Ok None) w = turn_ends p w
  turn_comes p (Err r) w = i.whole ∙ ap (behind i.bytes) w.0

  -- the step st that the lexer gave in the mode m
  module _ (m : Mode) (f : m ≡ lax) (st : Step) (e : scan_of s m at ≡ st) where
    scanned : scan_of s lax at ≡ st
    scanned = ap (λ (x : Mode). scan_of s x at) (sym f) ∙ e

    by_step : Turned s at n (step_piece s st) (turn_of s n st)
    by_step = subst (λ (x : Step). Turned s at n (step_piece s x) (turn_of s n x)) scanned (turned s at n)

    pub drafting_standing : StandingStep s st
    drafting_standing = subst (StandingStep s) scanned (scan_standing s lax at)

    pub drafting_room : n + length (step_piece s st) ≤ length c
    drafting_room = turn_room (step_piece s st) (turn_of s n st) by_step

    -- what its turn comes to
    comes : Outcome s b at n (turn_of s n st) (overlay n (step_piece s st) c)
    comes = turn_comes (step_piece s st) (turn_of s n st) by_step

    -- the same of a turn and a buffer that are known to be these
    pub drafting_turn : (t : Turn) (d : List ℕ) → (t ≡ turn_of s n st) × (d ≡ overlay n (step_piece s st) c) → (u : Turn) → t ≡ u
        → Outcome s b at n u d
    drafting_turn t d w u g =
        subst (Outcome s b at n u) (sym w.1)
        (turn_comes (step_piece s st) u (subst (Turned s at n (step_piece s st)) (sym w.0 ∙ g) by_step))

  module _ (m : Mode) (f : m ≡ lax) where
    pub drafting_done : scan_of s m at ≡ Ok None → Drafted (canonical_of s) (Ok n) c
    drafting_done e = subst (Outcome s b at n (Ok None)) (overlay_none n c) (comes m f (Ok None) e)

    pub drafting_refused : (r : Refusal) → scan_of s m at ≡ Err r → canonical_of s ≡ refuse r
    drafting_refused r e = comes m f (Err r) e

    -- a token that was put: the turn t that came of it is u, and the buffer has become d
    pub drafting_token : (g : Got) → scan_of s m at ≡ Ok (Some g) → (t : Result Place Refusal) (d : List ℕ)
        → (t ≡ token_turn s n g.token g.span g.next.at) × (d ≡ overlay n (piece s g.token g.next.at) c)
        → (u : Result Place Refusal) → t ≡ u → Outcome s b at n (goes_on u) d
    drafting_token g e t d w u q =
        subst (λ (x : Result Place Refusal). Outcome s b at n (goes_on x) d) (sym w.0 ∙ q)
        (subst (Outcome s b at n (turn_of s n (Ok (Some g)))) (sym w.1) (comes m f (Ok (Some g)) e))
