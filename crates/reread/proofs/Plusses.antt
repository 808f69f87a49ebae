-- In an expression each `+` stands behind a listed licence, which is no "-or-later" name.
use Rattle.std.specs.Prelude.{◌≡◌, refl, Bool, true, false, List, [], ◌∷◌, ◌++◌, ℕ}
use Rattle.std.proofs.Common.{sym, append_assoc, append-nil}
use Rattle.std.proofs.lemmas.Bool.{false≢true}
use Rattle.names.specs.Lookup.{gnu_of, is_later}
use Rattle.mode.specs.declared.Mode.{Mode}
use Rattle.lexer.specs.Sign.{name, reference, unknown, exception, addition, plus, WITH, AND, OR, LP, RP, bad}
use Rattle.lexer.specs.Spelling.{Naming, Spoken}
use Rattle.lexer.specs.Apart.{is_plus}
use Rattle.grammar.specs.Tree.{Tree}
use Rattle.annex.specs.Annex.{
  Named,
  Item,
  Simple,
  id,
  id_later,
  ref,
  gnu_later,
  term,
  Additions,
  listed_one,
  ref_one,
  term_one,
  term_more,
  Operand,
  bare,
  with,
  Level,
  Derives,
  leaf,
  group,
  alone,
  joined,
  one,
  choice,
  Expression,
}
use Rattle.reread.proofs.Settle.{is_name, plus_first}

-- a token that the canonical text has, where b says if a listed licence stands just before it and c if a `+` stands just behind it: a `+` stands
-- behind a listed licence, which is no "-or-later" name, and nothing is refused
abbrev pub PlusHere : Spoken → Bool → Bool → Type 0
PlusHere (name k p) b true = is_later k ≡ false
PlusHere (name k p) b false = Unit {0}
PlusHere (reference r p) b c = Unit {0}
PlusHere (unknown r p) b c = Unit {0}
PlusHere (exception k) b c = Unit {0}
PlusHere (addition r) b c = Unit {0}
PlusHere plus b c = b ≡ true
PlusHere WITH b c = Unit {0}
PlusHere AND b c = Unit {0}
PlusHere OR b c = Unit {0}
PlusHere LP b c = Unit {0}
PlusHere RP b c = Unit {0}
PlusHere bad b c = ⊥

abbrev pub Plusses : Bool → List Spoken → Type 0
Plusses b [] = Unit {0}
Plusses b (x ∷ w) = PlusHere x b (plus_first w) × Plusses (is_name x) w

-- tokens behind anything else may stand behind a listed licence, and none of them begins with a `+`
here_free : (x : Spoken) (c : Bool) → PlusHere x false c → PlusHere x true c
here_free (name k p) true h = h
here_free (name k p) false h = tt
here_free (reference r p) c h = tt
here_free (unknown r p) c h = tt
here_free (exception k) c h = tt
here_free (addition r) c h = tt
here_free plus c h = refl
here_free WITH c h = tt
here_free AND c h = tt
here_free OR c h = tt
here_free LP c h = tt
here_free RP c h = tt
here_free bad c h = absurd h

plusses_free : (w : List Spoken) → Plusses false w → Plusses true w
plusses_free [] h = tt
plusses_free (x ∷ w) h = (here_free x (plus_first w) h.0, h.1)

here_first : (x : Spoken) (c : Bool) → PlusHere x false c → is_plus x ≡ false
here_first (name k p) c h = refl
here_first (reference r p) c h = refl
here_first (unknown r p) c h = refl
here_first (exception k) c h = refl
here_first (addition r) c h = refl
here_first plus c h = absurd (false≢true h)
here_first WITH c h = refl
here_first AND c h = refl
here_first OR c h = refl
here_first LP c h = refl
here_first RP c h = refl
here_first bad c h = absurd h

plusses_first : (w : List Spoken) → Plusses false w → plus_first w ≡ false
plusses_first [] h = refl
plusses_first (x ∷ w) h = here_first x (plus_first w) h.0

name_here : (k : ℕ) (c : Bool) → c ≡ false → PlusHere (name k tt) false c
name_here k true e = absurd (false≢true (sym e))
name_here k false e = tt

-- a name that is not GNU is no "-or-later" name
plain_later : (k : ℕ) → gnu_of k ≡ false → is_later k ≡ false
unfolding is_later
plain_later k e = rw e

-- an expression has such tokens, in front of what begins with no `+`
addition_plusses : {w : List Spoken} {a : Named Naming} → Additions w a → (r : List Spoken) → Plusses false r → Plusses false (w ++ r)
addition_plusses listed_one r h = (tt, (tt, h))
addition_plusses ref_one r h = (tt, (tt, h))
addition_plusses term_one r h = (tt, (tt, h))
addition_plusses (term_more x) r h = (tt, (tt, addition_plusses x r h))

module _ {m : Mode} where
  simple_plusses : {w : List Spoken} {l : Item Naming (Unit {0})} → Simple m w l → (r : List Spoken) → Plusses false r → Plusses false (w ++ r)
  simple_plusses (id {k} a) r h = (name_here k (plus_first r) (plusses_first r h), plusses_free r h)
  simple_plusses (id_later {k} a g) r h = (plain_later k g, (refl, h))
  simple_plusses ref r h = (tt, h)
  simple_plusses (gnu_later a g p l j) r h = (l, (refl, h))
  simple_plusses term r h = (tt, h)

  operand_plusses : {w : List Spoken} {l : Item Naming (Unit {0})} → Operand m w l → (r : List Spoken) → Plusses false r → Plusses false (w ++ r)
  operand_plusses (bare x) r h = simple_plusses x r h
  operand_plusses (with {s} {z} x y) r h = rw (append_assoc s z r) (simple_plusses x (z ++ r) (addition_plusses y r h))

  derives_plusses : {v : Level} {w : List Spoken} {t : Tree (Item Naming (Unit {0}))} → Derives m v w t → (r : List Spoken) → Plusses false r
      → Plusses false (w ++ r)
  derives_plusses (leaf x) r h = operand_plusses x r h
  derives_plusses (group {s} d) r h = (tt, rw (append_assoc s (RP ∷ []) r) (derives_plusses d (RP ∷ r) (tt, h)))
  derives_plusses (alone d) r h = derives_plusses d r h
  derives_plusses (joined {s} {z} d e) r h = rw (append_assoc s (AND ∷ z) r) (derives_plusses d (AND ∷ (z ++ r)) (tt, derives_plusses e r h))
  derives_plusses (one d) r h = derives_plusses d r h
  derives_plusses (choice {s} {z} d e) r h = rw (append_assoc s (OR ∷ z) r) (derives_plusses d (OR ∷ (z ++ r)) (tt, derives_plusses e r h))

  pub expression_plusses : (w : List Spoken) {t : Tree (Item Naming (Unit {0}))} → Expression m w t → Plusses false w
  expression_plusses w d = rw append-nil at (derives_plusses d [] tt)
