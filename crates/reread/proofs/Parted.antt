-- The signs of an expression can be told apart when they are spelled one behind the other, and are known, before they are settled and after.
use Rattle.lexer.proofs.Back.{follows_apart}
use Rattle.std.specs.Prelude.{ℕ, ◌<◌, ◌≡◌, refl, Bool, true, false, not, ◌&&◌, List, [], ◌∷◌, ◌++◌, length, Option, Some, None}
use Rattle.std.proofs.Common.{append_assoc, append-nil}
use Rattle.text.specs.Tests.{by_cond}
use Rattle.names.specs.Lookup.{gnu_of, later_of, only_of}
use Rattle.names.specs.Listed.{listed}
use Rattle.names.proofs.Partners.{later_partner, only_partner}
use Rattle.mode.specs.declared.Mode.{Mode}
use Rattle.lexer.specs.Sign.{name, reference, unknown, exception, addition, plus, WITH, AND, OR, LP, RP, bad}
use Rattle.lexer.specs.Spelling.{Naming, Spoken}
use Rattle.lexer.specs.Apart.{Known, AllKnown, KnownOrBad, is_run, is_operator, is_plus, clear, Follows, Apart}
use Rattle.grammar.specs.Tree.{Tree}
use Rattle.annex.specs.Annex.{Named, Simple, id, id_later, ref, gnu_later, term, Additions, listed_one, ref_one, term_one, term_more, bare, with, Level, Derives, leaf, group, alone, joined, one, choice}
use Rattle.reread.specs.Reread.{or_self}
use Rattle.reread.proofs.Settle.{is_name, plus_first, single, doubled, settle, settled_from, settled}
use Rattle.reread.proofs.Strictly.{Entry}

-- what is neither a run nor a `+` may stand behind anything
clear_after : (x y : Spoken) → is_run y ≡ false → is_plus y ≡ false → clear x y ≡ true
clear_after x y r p = rw (r, p) (go (is_run x) (is_operator x))
  where
    go : (a b : Bool) → (not (a && false) && not (b && false)) ≡ true
    go true true = refl
    go true false = refl
    go false true = refl
    go false false = refl

-- and what is no `+` behind anything that is no run
clear_before : (x y : Spoken) → is_run x ≡ false → is_plus y ≡ false → clear x y ≡ true
clear_before x y r p = rw (r, p) (go (is_operator x))
  where
    go : (b : Bool) → not (b && false) ≡ true
    go true = refl
    go false = refl

-- what may stand behind an expression: nothing, or what begins with neither a run nor a `+`
abbrev Ends : List Spoken → Type 0
Ends [] = Unit {0}
Ends (y ∷ w) = (is_run y ≡ false) × (is_plus y ≡ false) × Follows y w

ends_follow : (x : Spoken) (w : List Spoken) → Ends w → Follows x w
ends_follow x [] e = tt
ends_follow x (y ∷ w) e = (clear_after x y e.0 e.1, e.2)

simple_follows : {m : Mode} {s : List Spoken} {l : Entry} → Simple m s l → (x : Spoken) → is_run x ≡ false → (w : List Spoken) → Ends w
    → Follows x (s ++ w)
simple_follows (id {k} {p} a) x h w e = (clear_before x (name k p) h refl, ends_follow (name k p) w e)
simple_follows (id_later {k} {p} a g) x h w e = (clear_before x (name k p) h refl, (refl, ends_follow plus w e))
simple_follows (ref {r} {p}) x h w e = (clear_before x (reference r p) h refl, ends_follow (reference r p) w e)
simple_follows (gnu_later {k} {p} a g o f q) x h w e = (clear_before x (name k p) h refl, (refl, ends_follow plus w e))
simple_follows (term {r} {p}) x h w e = (clear_before x (unknown r p) h refl, ends_follow (unknown r p) w e)

additions_end : {z : List Spoken} {a : Named Naming} → Additions z a → (w : List Spoken) → Ends w → Ends (z ++ w)
additions_end (listed_one {k}) w e = (refl, refl, (refl, ends_follow (exception k) w e))
additions_end (ref_one {r}) w e = (refl, refl, (refl, ends_follow (addition r) w e))
additions_end (term_one {r} {p}) w e = (refl, refl, (refl, ends_follow (unknown r p) w e))
additions_end (term_more {r} {p} {z} d) w e = (refl, refl, (refl, ends_follow (unknown r p) (z ++ w) (additions_end d w e)))

derives_follows : {m : Mode} {v : Level} {s : List Spoken} {t : Tree Entry} → Derives m v s t → (x : Spoken) → is_run x ≡ false
    → (w : List Spoken) → Ends w → Follows x (s ++ w)
derives_follows (leaf (bare a)) x h w e = simple_follows a x h w e
derives_follows (leaf (with {s} {z} a d)) x h w e = rw (append_assoc s z w) (simple_follows a x h (z ++ w) (additions_end d w e))
derives_follows (group {s} d) x h w e =
    (clear_before x LP h refl, rw (append_assoc s (RP ∷ []) w) (derives_follows d LP refl (RP ∷ w) (refl, refl, ends_follow RP w e)))
derives_follows (alone d) x h w e = derives_follows d x h w e
derives_follows (joined {s} {z} d f) x h w e =
    rw (append_assoc s (AND ∷ z) w) (derives_follows d x h (AND ∷ (z ++ w)) (refl, refl, derives_follows f AND refl w e))
derives_follows (one d) x h w e = derives_follows d x h w e
derives_follows (choice {s} {z} d f) x h w e =
    rw (append_assoc s (OR ∷ z) w) (derives_follows d x h (OR ∷ (z ++ w)) (refl, refl, derives_follows f OR refl w e))

-- the signs of an expression can be told apart when spelled one behind the other
pub derives_apart : {m : Mode} {v : Level} {w : List Spoken} {t : Tree Entry} → Derives m v w t → Apart w
derives_apart {w} d = follows_apart LP w (rw append-nil at (derives_follows d LP refl [] tt))

-- no sign is `bad`
abbrev NotBad : Spoken → Type 0
NotBad (name k p) = Unit {0}
NotBad (reference r p) = Unit {0}
NotBad (unknown r p) = Unit {0}
NotBad (exception k) = Unit {0}
NotBad (addition r) = Unit {0}
NotBad plus = Unit {0}
NotBad WITH = Unit {0}
NotBad AND = Unit {0}
NotBad OR = Unit {0}
NotBad LP = Unit {0}
NotBad RP = Unit {0}
NotBad bad = ⊥

abbrev NoBad : List Spoken → Type 0
NoBad [] = Unit {0}
NoBad (x ∷ w) = NotBad x × NoBad w

no_bad_append : (a b : List Spoken) → NoBad a → NoBad b → NoBad (a ++ b)
no_bad_append [] b h k = k
no_bad_append (x ∷ a) b h k = (h.0, no_bad_append a b h.1 k)

simple_no_bad : {m : Mode} {s : List Spoken} {l : Entry} → Simple m s l → NoBad s
simple_no_bad (id a) = (tt, tt)
simple_no_bad (id_later a g) = (tt, (tt, tt))
simple_no_bad ref = (tt, tt)
simple_no_bad (gnu_later a g o f e) = (tt, (tt, tt))
simple_no_bad term = (tt, tt)

additions_no_bad : {z : List Spoken} {a : Named Naming} → Additions z a → NoBad z
additions_no_bad listed_one = (tt, (tt, tt))
additions_no_bad ref_one = (tt, (tt, tt))
additions_no_bad term_one = (tt, (tt, tt))
additions_no_bad (term_more d) = (tt, (tt, additions_no_bad d))

derives_no_bad : {m : Mode} {v : Level} {w : List Spoken} {t : Tree Entry} → Derives m v w t → NoBad w
derives_no_bad (leaf (bare x)) = simple_no_bad x
derives_no_bad (leaf (with {s} {z} x d)) = no_bad_append s z (simple_no_bad x) (additions_no_bad d)
derives_no_bad (group {s} d) = (tt, no_bad_append s (RP ∷ []) (derives_no_bad d) (tt, tt))
derives_no_bad (alone d) = derives_no_bad d
derives_no_bad (joined {s} {z} d e) = no_bad_append s (AND ∷ z) (derives_no_bad d) (tt, derives_no_bad e)
derives_no_bad (one d) = derives_no_bad d
derives_no_bad (choice {s} {z} d e) = no_bad_append s (OR ∷ z) (derives_no_bad d) (tt, derives_no_bad e)

known_of : (w : List Spoken) → NoBad w → KnownOrBad w → AllKnown w
known_of [] n h = tt
known_of (bad ∷ w) n h = absurd n.0
known_of (name k p ∷ w) n h = (h.0, known_of w n.1 h.1)
known_of (reference r p ∷ w) n h = (h.0, known_of w n.1 h.1)
known_of (unknown r p ∷ w) n h = absurd h
known_of (exception k ∷ w) n h = (h.0, known_of w n.1 h.1)
known_of (addition r ∷ w) n h = (h.0, known_of w n.1 h.1)
known_of (plus ∷ w) n h = (tt, known_of w n.1 h)
known_of (WITH ∷ w) n h = (tt, known_of w n.1 h)
known_of (AND ∷ w) n h = (tt, known_of w n.1 h)
known_of (OR ∷ w) n h = (tt, known_of w n.1 h)
known_of (LP ∷ w) n h = (tt, known_of w n.1 h)
known_of (RP ∷ w) n h = (tt, known_of w n.1 h)

-- an expression has no `bad`, so all its signs are known where the text's are
pub derives_known : {m : Mode} {v : Level} {w : List Spoken} {t : Tree Entry} → Derives m v w t → KnownOrBad w → AllKnown w
derives_known {w} d h = known_of w (derives_no_bad d) h

known_append : (a b : List Spoken) → AllKnown a → AllKnown b → AllKnown (a ++ b)
known_append [] b h k = k
known_append (x ∷ a) b h k = (h.0, known_append a b h.1 k)

-- partners are listed
only_within : (k : ℕ) → k < length listed → or_self k (only_of k) < length listed
only_within k h = go (only_of k) refl
  where
    go : (f : Option ℕ) → only_of k ≡ f → or_self k f < length listed
    go (Some j) e = (only_partner k j e).within
    go None e = h

later_within : (k : ℕ) → k < length listed → or_self k (later_of k) < length listed
later_within k h = go (later_of k) refl
  where
    go : (f : Option ℕ) → later_of k ≡ f → or_self k f < length listed
    go (Some j) e = (later_partner k j e).within
    go None e = h

settle_known : (x : Spoken) (b c : Bool) → Known x → AllKnown (settle x b c)
settle_known (name k p) b c h =
    by_cond AllKnown c (doubled k) (single k)
    (λ e. by_cond AllKnown (gnu_of k) (name (or_self k (later_of k)) tt ∷ []) (name k tt ∷ plus ∷ []) (λ g. (later_within k h, tt)) (λ g. (h, (tt, tt))))
    (λ e. (only_within k h, tt))
settle_known plus b c h = by_cond AllKnown b [] (plus ∷ []) (λ e. tt) (λ e. (tt, tt))
settle_known (reference r p) b c h = (h, tt)
settle_known (unknown r p) b c h = absurd h
settle_known (exception k) b c h = (h, tt)
settle_known (addition r) b c h = (h, tt)
settle_known WITH b c h = (tt, tt)
settle_known AND b c h = (tt, tt)
settle_known OR b c h = (tt, tt)
settle_known LP b c h = (tt, tt)
settle_known RP b c h = (tt, tt)
settle_known bad b c h = absurd h

from_known : (b : Bool) (w : List Spoken) → AllKnown w → AllKnown (settled_from b w)
unfolding settled_from
from_known b [] h = tt
from_known b (x ∷ w) h =
    known_append (settle x b (plus_first w)) (settled_from (is_name x) w) (settle_known x b (plus_first w) h.0) (from_known (is_name x) w h.1)

-- known signs, settled, are known
pub settled_known : (w : List Spoken) → AllKnown w → AllKnown (settled w)
unfolding settled
settled_known w h = from_known false w h
