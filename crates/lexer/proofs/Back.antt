-- Known tokens that can be told apart, spelled one behind the other, are heard as they are, in every mode.
use Rattle.std.specs.Prelude.{ℕ, ◌≡◌, refl, Bool, true, false, not, ◌&&◌, List, [], ◌∷◌, ◌++◌, None, Ok}
use Rattle.std.proofs.Common.{sym, ◌∙◌, ap, arith}
use Rattle.std.proofs.lemmas.Bool.{false≢true}
use Rattle.text.specs.Text.{within}
use Rattle.text.specs.Walk.{over, reach, one}
use Rattle.text.specs.Runs.{ref_byte, run_byte}
use Rattle.utf8.specs.Utf8.{decoded, front, white_of, white_width, past_white}
use Rattle.mode.specs.declared.Mode.{Mode}
use Rattle.lexer.specs.Lex.{mark_of, scan_of}
use Rattle.lexer.specs.Sign.{name, reference, unknown, exception, addition, plus, WITH, AND, OR, LP, RP, bad}
use Rattle.lexer.specs.Spelling.{Spoken, heard, spell, spell_all}
use Rattle.lexer.specs.Apart.{Known, AllKnown, is_run, is_operator, is_plus, Follows, Apart}
use Rattle.lexer.proofs.Moved.{heard_end}
use Rattle.lexer.proofs.SpelledLaws.{
  Free,
  free_run,
  licence_run,
  exception_run,
  license_run,
  addition_run,
  heard_licence,
  heard_exception,
  heard_license_ref,
  heard_addition_ref,
  heard_plus,
  heard_open,
  heard_close,
  heard_and,
  heard_or,
  heard_with,
}

-- no run may follow a run, and no `+` an operator
no_run : (a b c d : Bool) → a ≡ true → (not (a && b) && not (c && d)) ≡ true → b ≡ false
no_run true true c d e q = absurd (false≢true q)
no_run true false c d e q = refl
no_run false b c d e q = absurd (false≢true e)

no_plus : (a b c d : Bool) → c ≡ true → (not (a && b) && not (c && d)) ≡ true → d ≡ false
no_plus a b c false e q = refl
no_plus a b false true e q = absurd (false≢true e)
no_plus true true true true e q = absurd (false≢true q)
no_plus true false true true e q = absurd (false≢true q)
no_plus false b true true e q = absurd (false≢true q)

-- what is no run begins with no run byte
edge_first : (y : Spoken) (r : List ℕ) → Known y → is_run y ≡ false → one run_byte (spell y ++ r) ≡ 0
unfolding one run_byte ref_byte within
edge_first (name k p) r h e = absurd (false≢true (sym e))
edge_first (reference x p) r h e = absurd (false≢true (sym e))
edge_first (unknown x p) r h e = absurd h
edge_first (exception k) r h e = absurd (false≢true (sym e))
edge_first (addition x) r h e = absurd (false≢true (sym e))
edge_first plus r h e = refl
edge_first WITH r h e = refl
edge_first AND r h e = refl
edge_first OR r h e = refl
edge_first LP r h e = refl
edge_first RP r h e = refl
edge_first bad r h e = absurd h

-- what is no `+` is free
free_first : (y : Spoken) (r : List ℕ) → Known y → is_plus y ≡ false → Free (spell y ++ r)
unfolding past_white reach over white_width front decoded white_of within
free_first (name k p) r h e = free_run (spell (name k p)) r (licence_run k h)
free_first (reference x p) r h e = free_run (spell (reference x p)) r (license_run x.0 x.1 h)
free_first (unknown x p) r h e = absurd h
free_first (exception k) r h e = free_run (spell (exception k)) r (exception_run k h)
free_first (addition x) r h e = free_run (spell (addition x)) r (addition_run x.0 x.1 h)
free_first plus r h e = absurd (false≢true (sym e))
free_first WITH r h e = λ (q : ◌≡◌ {A = ℕ} 0x57 0x2B). omega arith
free_first AND r h e = λ (q : ◌≡◌ {A = ℕ} 0x41 0x2B). omega arith
free_first OR r h e = λ (q : ◌≡◌ {A = ℕ} 0x4F 0x2B). omega arith
free_first LP r h e = λ (q : ◌≡◌ {A = ℕ} 0x28 0x2B). omega arith
free_first RP r h e = λ (q : ◌≡◌ {A = ℕ} 0x29 0x2B). omega arith
free_first bad r h e = absurd h

-- the two edges: behind a run, and behind an operator
edge_next : (x : Spoken) (w : List Spoken) → is_run x ≡ true → AllKnown w → Follows x w → one run_byte (spell_all w) ≡ 0
unfolding spell_all one
edge_next x [] e k f = refl
edge_next x (y ∷ w) e k f =
    edge_first y (spell_all w) k.0 (no_run (is_run x) (is_run y) (is_operator x) (is_plus y) e f.0)

free_next : (x : Spoken) (w : List Spoken) → is_operator x ≡ true → AllKnown w → Follows x w → Free (spell_all w)
unfolding spell_all past_white reach over
free_next x [] e k f = λ (q : ◌≡◌ {A = ℕ} 0 0x2B). omega arith
free_next x (y ∷ w) e k f =
    free_first y (spell_all w) k.0 (no_plus (is_run x) (is_run y) (is_operator x) (is_plus y) e f.0)

-- the first token, as it is spelled
heard_first : (m : Mode) (x : Spoken) (w : List Spoken) → Known x → AllKnown w → Follows x w
    → heard (spell x ++ spell_all w) m 0 ≡ x ∷ heard (spell_all w) m 0
heard_first m (name k p) w h a f = heard_licence m k (spell_all w) (edge_next (name k p) w refl a f) h
heard_first m (reference x p) w h a f =
    heard_license_ref m x.0 x.1 (spell_all w) h.0 h.1 (edge_next (reference x p) w refl a f)
heard_first m (unknown x p) w h a f = absurd h
heard_first m (exception k) w h a f = heard_exception m k (spell_all w) (edge_next (exception k) w refl a f) h
heard_first m (addition x) w h a f =
    heard_addition_ref m x.0 x.1 (spell_all w) h.0 h.1 (edge_next (addition x) w refl a f)
heard_first m plus w h a f = heard_plus m (spell_all w)
heard_first m WITH w h a f = heard_with m (spell_all w) (free_next WITH w refl a f)
heard_first m AND w h a f = heard_and m (spell_all w) (free_next AND w refl a f)
heard_first m OR w h a f = heard_or m (spell_all w) (free_next OR w refl a f)
heard_first m LP w h a f = heard_open m (spell_all w)
heard_first m RP w h a f = heard_close m (spell_all w)
heard_first m bad w h a f = absurd h

scan_nothing : (m : Mode) → scan_of [] m 0 ≡ (Ok None)
unfolding scan_of past_white reach over mark_of
scan_nothing m = refl

-- what may follow something can be told apart
pub follows_apart : (x : Spoken) (w : List Spoken) → Follows x w → Apart w
follows_apart x [] f = tt
follows_apart x (y ∷ w) f = f.1

-- known tokens that can be told apart, spelled one behind the other, are heard as they are, in every mode
pub heard_back : (m : Mode) (w : List Spoken) → AllKnown w → Apart w → heard (spell_all w) m 0 ≡ w
unfolding spell_all
heard_back m [] k a = heard_end [] m (scan_nothing m)
heard_back m (x ∷ w) k a =
    heard_first m x w k.0 k.1 a
    ∙ ap (λ (v : List Spoken). x ∷ v) (heard_back m w k.1 (follows_apart x w a))
