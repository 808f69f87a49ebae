-- An expression of LAX, settled, is one of STRICT.
use Rattle.std.specs.Prelude.{ℕ, suc, ◌≡◌, refl, Bool, true, false, List, [], ◌∷◌, ◌++◌, Option, Some, None}
use Rattle.std.proofs.Common.{ap, arith}
use Rattle.names.specs.Lookup.{deprecated_of, is_bare, only_of}
use Rattle.names.proofs.Partners.{later_partner, only_partner, bare_has_only, settled_current, settled_no_only, other_settled}
use Rattle.mode.specs.Modes.{strict, lax}
use Rattle.lexer.specs.Sign.{unknown, WITH, AND, OR, LP, RP}
use Rattle.lexer.specs.Spelling.{Naming, Spoken}
use Rattle.grammar.specs.Tree.{Tree, seen}
use Rattle.grammar.specs.TreeLaws.{size_seen}
use Rattle.annex.specs.Annex.{Named, Item, Allowed, Simple, id, id_later, ref, gnu_later, term, Additions, listed_one, ref_one, term_one, term_more, Operand, bare, with, Level, Derives, leaf, group, alone, joined, one, choice, depth}
use Rattle.annex.specs.Signs.{Fits}
use Rattle.reread.specs.Reread.{or_self, as_only}
use Rattle.reread.proofs.Settle.{NoPlus, settled_from, settled, settled_append}

-- a leaf by its bytes
abbrev pub Entry : Type 0
Entry = Item Naming (Unit {0})

-- what is not deprecated is allowed in STRICT
allowed : (k : ℕ) → deprecated_of k ≡ false → Allowed strict k
allowed k e = rw e

-- the name that a listed licence alone becomes is not deprecated
pub only_current : (k : ℕ) → deprecated_of (or_self k (only_of k)) ≡ false
only_current k = go (only_of k) refl
  where
    bare_not : (b : Bool) → is_bare k ≡ b → only_of k ≡ None → is_bare k ≡ false
    bare_not true e q = let w = bare_has_only k e in let z : ◌≡◌ {A = ℕ} 0 1 = cc w.1 in absurd (omega arith)
    bare_not false e q = e

    go : (f : Option ℕ) → only_of k ≡ f → deprecated_of (or_self k f) ≡ false
    go (Some j) e = (only_partner k j e).current
    go None e = settled_current k (bare_not (is_bare k) refl e)

-- a name that is not bare is its own "-only" name
pub only_self : (k : ℕ) → is_bare k ≡ false → or_self k (only_of k) ≡ k
only_self k e = ap (or_self k) (settled_no_only k e)

strict_simple : {s : List Spoken} {l : Entry} → Simple lax s l → Simple strict (settled s) (as_only l)
unfolding settled settled_from
strict_simple (id {k} a) = id (allowed (or_self k (only_of k)) (only_current k))
strict_simple (id_later {k} a g) =
    let b = other_settled k g in
    rw (g, only_self k b) (id_later (allowed k (settled_current k b)) g)
strict_simple ref = ref
strict_simple (gnu_later {k} {j} a g o f e) =
    let p = later_partner k j e in
    rw (g, e, only_self j p.settled) (id (allowed j p.current))
strict_simple term = term

-- additions stay as they are
pub additions_settled : {z : List Spoken} {a : Named Naming} → Additions z a → settled z ≡ z
unfolding settled settled_from
additions_settled listed_one = refl
additions_settled ref_one = refl
additions_settled term_one = refl
additions_settled (term_more {r} {p} d) = ap (λ (y : List Spoken). WITH ∷ unknown r p ∷ y) (additions_settled d)

pub additions_no_plus : {z : List Spoken} {a : Named Naming} → Additions z a → NoPlus z
additions_no_plus listed_one = refl
additions_no_plus ref_one = refl
additions_no_plus term_one = refl
additions_no_plus (term_more d) = refl

strict_operand : {s : List Spoken} {l : Entry} → Operand lax s l → Operand strict (settled s) (as_only l)
strict_operand (bare x) = bare (strict_simple x)
strict_operand (with {s} {z} x d) = rw (settled_append s z (additions_no_plus d), additions_settled d) (with (strict_simple x) d)

-- what is joined or put in parentheses is settled by its parts
pub group_settled : (s : List Spoken) → settled (LP ∷ (s ++ (RP ∷ []))) ≡ LP ∷ (settled s ++ (RP ∷ []))
unfolding settled settled_from
group_settled s = ap (λ (y : List Spoken). LP ∷ y) (settled_append s (RP ∷ []) refl)

pub and_settled : (s z : List Spoken) → settled (s ++ (AND ∷ z)) ≡ settled s ++ (AND ∷ settled z)
unfolding settled settled_from
and_settled s z = settled_append s (AND ∷ z) refl

pub or_settled : (s z : List Spoken) → settled (s ++ (OR ∷ z)) ≡ settled s ++ (OR ∷ settled z)
unfolding settled settled_from
or_settled s z = settled_append s (OR ∷ z) refl

-- a derivation in STRICT, of the depth n
abbrev pub Strict : Level → List Spoken → Tree Entry → ℕ → Type 0
Strict v w t n = (y : Derives strict v w t) × (depth y ≡ n)

pub strict_derives : {v : Level} {w : List Spoken} {t : Tree Entry} (x : Derives lax v w t) → Strict v (settled w) (seen as_only t) (depth x)
strict_derives (leaf x) = (leaf (strict_operand x), refl)
strict_derives (group {s} d) = let i : _ = strict_derives d in rw (group_settled s) (group i.0, ap suc i.1)
strict_derives (alone d) = let i : _ = strict_derives d in (alone i.0, i.1)
strict_derives (joined {s} {z} d e) =
    let i : _ = strict_derives d in
    let j : _ = strict_derives e in
    rw (and_settled s z) (joined i.0 j.0, cc (i.1, j.1))
strict_derives (one d) = let i : _ = strict_derives d in (one i.0, i.1)
strict_derives (choice {s} {z} d e) =
    let i : _ = strict_derives d in
    let j : _ = strict_derives e in
    rw (or_settled s z) (choice i.0 j.0, cc (i.1, j.1))

-- an expression of LAX, settled, is one of STRICT, of the same tree, bare GNU names taken as "-only", and as deep
pub settle_fits : (w : List Spoken) (t : Tree Entry) → Fits lax w t → Fits strict (settled w) (seen as_only t)
settle_fits w t f =
    let i = strict_derives f.derives in
    record { derives = i.0; few = omega (arith, f.few, size_seen as_only t); flat = omega (arith, f.flat, i.1) }
