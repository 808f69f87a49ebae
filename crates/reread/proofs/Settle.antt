-- The tokens of the canonical text, from those of the text. Document 01: "A GNU name and its `+` are written as the name without "-only", then
-- "-or-later"", and a bare GNU name with "-only".
use Rattle.std.specs.Prelude.{ℕ, ◌≡◌, refl, Bool, true, false, cond, List, [], ◌∷◌, ◌++◌}
use Rattle.std.proofs.Common.{sym, ap, true≢false, append_assoc}
use Rattle.names.specs.Lookup.{gnu_of, later_of, only_of}
use Rattle.lexer.specs.Sign.{name, reference, unknown, exception, addition, plus, WITH, AND, OR, LP, RP, bad}
use Rattle.lexer.specs.Spelling.{Spoken}
use Rattle.lexer.specs.Apart.{is_plus}
use Rattle.reread.specs.Reread.{or_self}

abbrev pub is_name : Spoken → Bool
is_name (name k p) = true
is_name (reference r p) = false
is_name (unknown r p) = false
is_name (exception k) = false
is_name (addition r) = false
is_name plus = false
is_name WITH = false
is_name AND = false
is_name OR = false
is_name LP = false
is_name RP = false
is_name bad = false

-- is a `+` the first of them
abbrev pub plus_first : List Spoken → Bool
plus_first [] = false
plus_first (x ∷ w) = is_plus x

-- no `+` is the first of them
abbrev pub NoPlus : List Spoken → Type 0
NoPlus [] = Unit {0}
NoPlus (x ∷ w) = is_plus x ≡ false

-- a listed licence with no `+` behind it, and with its `+`
abbrev pub single : ℕ → List Spoken
single k = name (or_self k (only_of k)) tt ∷ []

abbrev pub doubled : ℕ → List Spoken
doubled k = cond (gnu_of k) (name (or_self k (later_of k)) tt ∷ []) (name k tt ∷ plus ∷ [])

-- what becomes of a token; b says if a listed licence stands just before it, c if a `+` stands just behind it. A `+` goes with its licence
abbrev pub settle : Spoken → Bool → Bool → List Spoken
settle (name k p) b c = cond c (doubled k) (single k)
settle plus b c = cond b [] (plus ∷ [])
settle (reference r p) b c = reference r p ∷ []
settle (unknown r p) b c = unknown r p ∷ []
settle (exception k) b c = exception k ∷ []
settle (addition r) b c = addition r ∷ []
settle WITH b c = WITH ∷ []
settle AND b c = AND ∷ []
settle OR b c = OR ∷ []
settle LP b c = LP ∷ []
settle RP b c = RP ∷ []
settle bad b c = bad ∷ []

-- b says if a listed licence stands just before them
unfoldable pub settled_from : Bool → List Spoken → List Spoken
settled_from b [] = []
settled_from b (x ∷ w) = settle x b (plus_first w) ++ settled_from (is_name x) w

unfoldable pub settled : List Spoken → List Spoken
settled w = settled_from false w

-- only a `+` asks what stands before it
settle_free : (x : Spoken) (b c : Bool) → is_plus x ≡ false → settle x b c ≡ settle x false c
settle_free (name k p) b c h = refl
settle_free plus b c h = absurd (true≢false h)
settle_free (reference r p) b c h = refl
settle_free (unknown r p) b c h = refl
settle_free (exception k) b c h = refl
settle_free (addition r) b c h = refl
settle_free WITH b c h = refl
settle_free AND b c h = refl
settle_free OR b c h = refl
settle_free LP b c h = refl
settle_free RP b c h = refl
settle_free bad b c h = refl

pub from_free : (b : Bool) (w : List Spoken) → NoPlus w → settled_from b w ≡ settled_from false w
unfolding settled_from
from_free b [] h = refl
from_free b (x ∷ w) h = ap (λ (y : List Spoken). y ++ settled_from (is_name x) w) (settle_free x b (plus_first w) h)

first_append : (a b : List Spoken) → NoPlus b → plus_first (a ++ b) ≡ plus_first a
first_append [] [] h = refl
first_append [] (x ∷ b) h = h
first_append (x ∷ a) b h = refl

pub from_append : (c : Bool) (a b : List Spoken) → NoPlus b → settled_from c (a ++ b) ≡ settled_from c a ++ settled_from false b
unfolding settled_from
from_append c [] b h = from_free c b h
from_append c (x ∷ a) b h =
    rw (first_append a b h, from_append (is_name x) a b h)
    (sym (append_assoc (settle x c (plus_first a)) (settled_from (is_name x) a) (settled_from false b)))

-- lists of tokens are settled one by one, where no `+` is parted from what stands before it
pub settled_append : (a b : List Spoken) → NoPlus b → settled (a ++ b) ≡ settled a ++ settled b
unfolding settled
settled_append a b h = from_append false a b h
