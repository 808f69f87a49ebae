-- The canonical text of a text whose tokens are an expression is the spelling of its settled tokens.
use Rattle.std.specs.Prelude.{◌≡◌, Bool, true, cond, ◌&&◌, ℕ, Option, Some, None, Ok}
use Rattle.std.proofs.Math.Path.{refl, ap}
use Rattle.std.proofs.Common.{sym, ◌∙◌}
use Rattle.std.proofs.Math.Bool.{false, not}
use Rattle.std.proofs.lemmas.Bool.{false≢true}
use mathlib.Core.List.{List, [], ◌∷◌, ◌++◌, append_assoc, append-nil}
use Rattle.text.specs.Text.{ascii}
use Rattle.text.specs.Tests.{cond_false}
use Rattle.names.specs.Lookup.{licence_name, gnu_of, is_later, is_bare, stem, later_of, only_of}
use Rattle.names.proofs.Laws.{at_nothing}
use Rattle.names.proofs.Partners.{later_partner, only_partner, only_bare, bare_has_only, gnu_has_later}
use Rattle.refusal.specs.declared.Expected.TheVariants as E
use Rattle.refusal.specs.declared.Refusal.TheVariants.{Unexpected}
use Rattle.mode.specs.declared.Mode.{Mode}
use Rattle.mode.specs.Modes.{lax}
use Rattle.lexer.specs.declared.Token.{Token}
use Rattle.lexer.specs.declared.Token.TheVariants as T
use Rattle.lexer.specs.Lex.{check_of}
use Rattle.lexer.specs.Tokens.{Tokens, done, refused, token, tokens_of}
use Rattle.lexer.specs.Sign.{name, reference, unknown, exception, addition, plus, WITH, AND, OR, LP, RP, bad}
use Rattle.lexer.specs.Spelling.{Naming, Spoken, said, said_of, heard, spell, spell_all}
use Rattle.lexer.specs.Apart.{is_plus}
use Rattle.grammar.specs.Tree.{Tree}
use Rattle.annex.specs.Annex.{Item, Expression}
use Rattle.canonical.specs.Canonical.{alone, plussed, written, is_listed, plus_next, text, refuse, behind, canon_from, canon_if, canonical_of}
use Rattle.canonical.specs.Canonical as Canonical
use Rattle.reread.specs.Reread.{or_self}
use Rattle.reread.proofs.Plusses.{PlusHere, Plusses, expression_plusses}
use Rattle.reread.proofs.Settle.{is_name, plus_first, single, doubled, settle, settled_from, settled}

-- a listed licence alone, and with its `+`, is spelled as the canonical text has it
single_spelled : (k : ℕ) → spell_all (single k) ≡ alone k
unfolding spell_all alone
single_spelled k = go (only_of k) refl (is_bare k) refl
  where
    go : (f : Option ℕ) → only_of k ≡ f → (b : Bool) → is_bare k ≡ b → licence_name (or_self k f) ++ [] ≡ licence_name k ++ cond b (ascii "-only") []
    go (Some j) e true q = append-nil (licence_name j) ∙ (only_partner k j e).named
    go (Some j) e false q = absurd (false≢true (sym q ∙ only_bare k j e))
    go None e true q = let w = bare_has_only k q in at_nothing (only_of k) w.0 w.1 e
    go None e false q = refl

later_spelled : (k : ℕ) → gnu_of k ≡ true → is_later k ≡ false → licence_name (or_self k (later_of k)) ≡ stem (licence_name k) ++ ascii "-or-later"
later_spelled k g l =
    let w = gnu_has_later k g l in
    rw w.1 (later_partner k w.0 w.1).named

doubled_spelled : (k : ℕ) → is_later k ≡ false → spell_all (doubled k) ≡ plussed k
unfolding spell_all plussed
doubled_spelled k l = go (gnu_of k) refl
  where
    go : (b : Bool) → gnu_of k ≡ b
        → spell_all (cond b (name (or_self k (later_of k)) tt ∷ []) (name k tt ∷ plus ∷ []))
        ≡ cond b (stem (licence_name k) ++ ascii "-or-later") (licence_name k ++ ascii "+")
    go true e = append-nil (licence_name (or_self k (later_of k))) ∙ later_spelled k e l
    go false e = refl

one_spelled : (x : Spoken) → spell_all (x ∷ []) ≡ spell x
unfolding spell_all
one_spelled x = append-nil (spell x)

settle_spelled : (x : Spoken) (b c : Bool) → PlusHere x b c → spell_all (settle x b c) ≡ written x c
unfolding spell_all
settle_spelled (name k p) b true h = doubled_spelled k h
settle_spelled (name k p) b false h = single_spelled k
settle_spelled plus true c h = refl
settle_spelled plus false c h = absurd (false≢true h)
settle_spelled (reference r p) b c h = one_spelled (reference r p)
settle_spelled (unknown r p) b c h = one_spelled (unknown r p)
settle_spelled (exception k) b c h = one_spelled (exception k)
settle_spelled (addition r) b c h = one_spelled (addition r)
settle_spelled WITH b c h = refl
settle_spelled AND b c h = refl
settle_spelled OR b c h = refl
settle_spelled LP b c h = refl
settle_spelled RP b c h = refl
settle_spelled bad b c h = absurd h

spell_append : (a b : List Spoken) → spell_all (a ++ b) ≡ spell_all a ++ spell_all b
unfolding spell_all
spell_append [] b = refl
spell_append (x ∷ a) b = ap (λ (y : List ℕ). spell x ++ y) (spell_append a b) ∙ sym (append_assoc (spell x) (spell_all a) (spell_all b))

-- a `+` behind a listed licence is not refused
not_lonely : (x : Spoken) (b c : Bool) → PlusHere x b c → (is_plus x && not b) ≡ false
not_lonely (name k p) b c h = refl
not_lonely (reference r p) b c h = refl
not_lonely (unknown r p) b c h = refl
not_lonely (exception k) b c h = refl
not_lonely (addition r) b c h = refl
not_lonely plus true c h = refl
not_lonely plus false c h = absurd (false≢true h)
not_lonely WITH b c h = refl
not_lonely AND b c h = refl
not_lonely OR b c h = refl
not_lonely LP b c h = refl
not_lonely RP b c h = refl
not_lonely bad b c h = absurd h

module _ (s : List ℕ) where
  -- what the canonical text asks of a token, by its bytes
  said_plus : (t : Token) → Canonical.is_plus t ≡ is_plus (said s t)
  said_plus T.And = refl
  said_plus T.Or = refl
  said_plus T.With = refl
  said_plus T.Plus = refl
  said_plus T.Open = refl
  said_plus T.Close = refl
  said_plus (T.Licence k) = refl
  said_plus (T.Exception k) = refl
  said_plus (T.LicenseRef d n) = refl
  said_plus (T.AdditionRef d n) = refl
  said_plus (T.Unknown n) = refl

  said_listed : (t : Token) → is_listed t ≡ is_name (said s t)
  said_listed T.And = refl
  said_listed T.Or = refl
  said_listed T.With = refl
  said_listed T.Plus = refl
  said_listed T.Open = refl
  said_listed T.Close = refl
  said_listed (T.Licence k) = refl
  said_listed (T.Exception k) = refl
  said_listed (T.LicenseRef d n) = refl
  said_listed (T.AdditionRef d n) = refl
  said_listed (T.Unknown n) = refl

  said_first : (ts : Tokens) → plus_next ts ≡ plus_first (said_of s ts)
  said_first done = refl
  said_first (refused r) = refl
  said_first (token t sp ts) = said_plus t

  -- the canonical text of the tokens is what they settle to, spelled
  from_spelled : (b : Bool) (ts : Tokens) → Plusses b (said_of s ts) → canon_from s b ts ≡ text (spell_all (settled_from b (said_of s ts)))
  unfolding canon_from settled_from spell_all
  from_spelled b done h = refl
  from_spelled b (refused r) h = absurd h.0
  from_spelled b (token t sp ts) h =
      let x : Spoken = said s t in
      let w : List Spoken = said_of s ts in
      cond_false (Canonical.is_plus t && not b) (refuse (Unexpected sp E.Licence)) (behind (written x (plus_next ts)) (canon_from s (is_listed t) ts))
      (ap (λ (q : Bool). q && not b) (said_plus t) ∙ not_lonely x b (plus_first w) h.0)
      ∙ ap (λ (q : Bool). behind (written x (plus_next ts)) (canon_from s q ts)) (said_listed t)
      ∙ ap (λ (q : Bool). behind (written x q) (canon_from s (is_name x) ts)) (said_first ts)
      ∙ ap (behind (written x (plus_first w))) (from_spelled (is_name x) ts h.1)
      ∙ ap (λ (y : List ℕ). text (y ++ spell_all (settled_from (is_name x) w))) (sym (settle_spelled x b (plus_first w) h.0))
      ∙ ap text (sym (spell_append (settle x b (plus_first w)) (settled_from (is_name x) w)))

  -- of a text that may be read
  pub composed : check_of s ≡ (Ok tt) → {m : Mode} {t : Tree (Item Naming (Unit {0}))} → Expression m (heard s lax 0) t
      → canonical_of s ≡ text (spell_all (settled (heard s lax 0)))
  unfolding canonical_of heard settled
  composed e d = ap (canon_if s) e ∙ from_spelled false (tokens_of s lax 0) (expression_plusses (said_of s (tokens_of s lax 0)) d)
