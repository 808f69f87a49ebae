-- Reading a body: a token's places fit 16 bits in the file, and what a step makes of the rest. The proofs' machinery, nothing to believe.
use Rattle.lexer.specs.Step.{Step}
use Rattle.std.specs.Prelude.{ℕ, ◌+◌, ◌<◌, ◌≡◌, refl, List, length, Option, Some, None, Result, Ok, Err, ⊤}
use Rattle.std.proofs.Common.{sym, ◌∙◌, subst, arith}
use Rattle.std.proofs.Math.Path.{ap}
use Rattle.names.specs.Listed.{listed_count, exceptions_count}
use Rattle.refusal.specs.declared.Span.{Span}
use Rattle.refusal.specs.declared.Refusal.{Refusal}
use Rattle.grammar.specs.declared.Addition.{Addition}
use Rattle.mode.specs.declared.Mode.{Mode}
use Rattle.mode.specs.Modes.{strict}
use Rattle.lexer.specs.declared.Token.{Token}
use Rattle.lexer.specs.declared.Got.{Got}
use Rattle.lexer.specs.declared.Token.TheVariants as T
use Rattle.lexer.specs.Lex.{scan_of, check_of}
use Rattle.lexer.specs.Tokens.{done, refused, token, and_then, tokens_of}
use Rattle.lexer.proofs.TokensLaws.{tokens_step}
use Rattle.lexer.proofs.Ahead.{Ahead, scan_ahead}
use Rattle.lexer.proofs.Inner.{DocInside, RefInside, Inside, InsideStep, scan_inside}
use Rattle.licensee.specs.Offers.{if_with, wrong_entry, offered, if_text, body_of}
use Rattle.licensee.specs.Terms.{FitsRange, FitsPart, FitsToken}

-- a step's token fits, if it gives one
abbrev pub FitsStep : ℕ → Step → Type 0
FitsStep a (Ok (Some g)) = FitsToken a g.token
FitsStep a (Ok None) = Unit {0}
FitsStep a (Err r) = Unit {0}

module _ (a : ℕ) where
  part_fits : (d : Option Span) (p q : ℕ) → a + q < 65536 → DocInside d p q → FitsPart a d
  part_fits None p q h i = tt
  part_fits (Some sp) p q h i = (omega (arith, i.named, i.before), omega (arith, i.before))

  ref_fits : (d : Option Span) (n sp : Span) → a + sp.end < 65536 → RefInside d n sp → FitsPart a d × FitsRange a n
  ref_fits d n sp h i = (
    part_fits d sp.start n.start (omega (arith, i.named, i.ends)) i.doc,
    (omega (arith, i.named, i.ends), omega (arith, i.ends)),
  )

  token_fits : (s : List ℕ) (t : Token) (sp : Span) → a + sp.end < 65536 → Inside s t sp → FitsToken a t
  token_fits s T.And sp h i = tt
  token_fits s T.Or sp h i = tt
  token_fits s T.With sp h i = tt
  token_fits s T.Plus sp h i = tt
  token_fits s T.Open sp h i = tt
  token_fits s T.Close sp h i = tt
  token_fits s (T.Licence k) sp h i = omega (arith, listed_count)
  token_fits s (T.Exception k) sp h i = omega (arith, exceptions_count)
  token_fits s (T.LicenseRef d n) sp h i = ref_fits d n sp h i
  token_fits s (T.AdditionRef d n) sp h i = ref_fits d n sp h i
  token_fits s (T.Unknown n) sp h i = tt

-- the token of a step in a body that starts at a fits
pub scan_fits : (s : List ℕ) (m : Mode) (at a : ℕ) → a + length s < 65536 → FitsStep a (scan_of s m at)
scan_fits s m at a h = go (scan_of s m at) (scan_ahead s m at) (scan_inside s m at)
  where
    go : (x : Step) → Ahead s m at x → InsideStep s x → FitsStep a x
    go (Ok (Some g)) f i = token_fits a s g.token g.span (omega (arith, f.inside)) i
    go (Ok None) f i = tt
    go (Err r) f i = tt

-- so does that of the step x
pub step_fits : (s : List ℕ) (m : Mode) (at a : ℕ) {x : Step} {z : Option Got} {g : Got} → a + length s < 65536 → x ≡ scan_of s m at → x ≡ Ok z → z ≡ Some g
    → FitsToken a g.token
step_fits s m at a h e f n = subst (FitsStep a) (sym e ∙ f ∙ ap Ok n) (scan_fits s m at a h)

-- a token behind the licence that is not WITH
pub no_with : (t : Token) (x : Option Addition) → (t ≡ T.With → ⊥) → if_with t x ≡ None
no_with T.And x h = refl
no_with T.Or x h = refl
no_with T.With x h = absurd (h refl)
no_with T.Plus x h = refl
no_with T.Open x h = refl
no_with T.Close x h = refl
no_with (T.Licence k) x h = refl
no_with (T.Exception k) x h = refl
no_with (T.LicenseRef d n) x h = refl
no_with (T.AdditionRef d n) x h = refl
no_with (T.Unknown n) x h = refl

-- the tokens of a body from `at` on, by the step x there
module _ (s : List ℕ) {m : Mode} (at : ℕ) {x : Step} (strictly : m ≡ strict) (e : x ≡ scan_of s m at) where
  tokens_by : (y : Step) → x ≡ y → tokens_of s strict at ≡ and_then y (tokens_of s strict)
  tokens_by y f =
      tokens_step s strict at
      ∙ ap (λ (st : Step). and_then st (tokens_of s strict)) (ap (λ (n : Mode). scan_of s n at) (sym strictly) ∙ sym e ∙ f)

  pub tokens_got : {z : Option Got} {g : Got} → x ≡ Ok z → z ≡ Some g → tokens_of s strict at ≡ token g.token g.span (tokens_of s strict g.next.at)
  tokens_got {g = g} f h = tokens_by (Ok (Some g)) (f ∙ ap Ok h)

  pub tokens_none : {z : Option Got} → x ≡ Ok z → z ≡ None → tokens_of s strict at ≡ done
  tokens_none f h = tokens_by (Ok None) (f ∙ ap Ok h)

  pub tokens_refused : {r : Refusal} → x ≡ Err r → tokens_of s strict at ≡ refused r
  tokens_refused {r = r} f = tokens_by (Err r) f

-- a body that is no text, and one that is
module _ (i a : ℕ) (b : List ℕ) where
  pub body_bad : {r : Refusal} → check_of b ≡ Err r → body_of i a b ≡ wrong_entry i
  unfolding body_of
  body_bad e = ap (λ (c : Result ⊤ Refusal). if_text i c (offered i a (tokens_of b strict 0))) e

  pub body_fine : check_of b ≡ Ok tt → body_of i a b ≡ offered i a (tokens_of b strict 0)
  unfolding body_of
  body_fine e = ap (λ (c : Result ⊤ Refusal). if_text i c (offered i a (tokens_of b strict 0))) e
