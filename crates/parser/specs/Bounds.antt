-- What a step's token has in a short text: its places and indexes fit 16 bits, and it goes ahead. The proofs' machinery, nothing to
-- believe.
use Rattle.lexer.specs.declared.Got.{Got}
use Rattle.std.specs.Prelude.{ℕ, ◌≤◌, ◌<◌, ◌≡◌, List, length, Option, Some, None, Ok}
use Rattle.std.proofs.Common.{sym, subst, arith}
use Rattle.names.specs.Listed.{listed_count, exceptions_count}
use Rattle.refusal.specs.declared.Span.{Span}
use Rattle.mode.specs.declared.Mode.{Mode}
use Rattle.lexer.specs.declared.Token.{Token}
use Rattle.lexer.specs.declared.Token.TheVariants as T
use Rattle.lexer.specs.Lex.{scan_of}
use Rattle.lexer.proofs.Ahead.{Ahead, scan_ahead}
use Rattle.lexer.proofs.Inner.{DocInside, RefInside, Inside, InsideStep, scan_inside}
use Rattle.parser.specs.Turn.{Small, SmallPart, SmallToken, SmallStep}
use Rattle.parser.specs.Meaning.{Wide}
use Rattle.parser.specs.Machine.{Onward}

part_small : (d : Option Span) (a b : ℕ) → b < 65536 → DocInside d a b → SmallPart d
part_small None a b h i = tt
part_small (Some q) a b h i = (omega (arith, i.named, i.before), omega (arith, i.before))

ref_small : (d : Option Span) (n sp : Span) → sp.end < 65536 → RefInside d n sp → SmallPart d × Small n
ref_small d n sp h i = (
  part_small d sp.start n.start (omega (arith, i.named, i.ends)) i.doc,
  (omega (arith, i.named, i.ends), omega (arith, i.ends)),
)

token_small : (s : List ℕ) (t : Token) (sp : Span) → Small sp → Inside s t sp → SmallToken t
token_small s T.And sp h i = tt
token_small s T.Or sp h i = tt
token_small s T.With sp h i = tt
token_small s T.Plus sp h i = tt
token_small s T.Open sp h i = tt
token_small s T.Close sp h i = tt
token_small s (T.Licence k) sp h i = omega (arith, listed_count)
token_small s (T.Exception k) sp h i = omega (arith, exceptions_count)
token_small s (T.LicenseRef d n) sp h i = ref_small d n sp h.1 i
token_small s (T.AdditionRef d n) sp h i = ref_small d n sp h.1 i
token_small s (T.Unknown n) sp h i = subst Small (sym i) h

inside_wide : (s : List ℕ) (t : Token) (sp : Span) → Inside s t sp → Wide t sp
inside_wide s T.And sp i = tt
inside_wide s T.Or sp i = tt
inside_wide s T.With sp i = tt
inside_wide s T.Plus sp i = tt
inside_wide s T.Open sp i = i
inside_wide s T.Close sp i = tt
inside_wide s (T.Licence k) sp i = tt
inside_wide s (T.Exception k) sp i = tt
inside_wide s (T.LicenseRef d n) sp i = tt
inside_wide s (T.AdditionRef d n) sp i = tt
inside_wide s (T.Unknown n) sp i = tt

module _ (s : List ℕ) (m : Mode) (at : ℕ) where
  -- places and indexes fit 16 bits
  pub scan_small : length s ≤ 1024 → (x : Option Got) → Ok x ≡ scan_of s m at → SmallStep x
  scan_small h x e = go x (subst (Ahead s m at) (sym e) (scan_ahead s m at)) (subst (InsideStep s) (sym e) (scan_inside s m at))
    where
      go : (x : Option Got) → Ahead s m at (Ok x) → InsideStep s (Ok x) → SmallStep x
      go (Some g) a i =
          let f : Small g.span = (omega (arith, a.some, a.inside), omega (arith, a.inside)) in
          (token_small s g.token g.span f i, f, omega (arith, a.some, a.inside))
      go None a i = tt

  -- the step goes ahead, and a `(` is one byte
  pub scan_onward : (x : Option Got) → Ok x ≡ scan_of s m at → Onward (length s) at x
  scan_onward x e = go x (subst (Ahead s m at) (sym e) (scan_ahead s m at)) (subst (InsideStep s) (sym e) (scan_inside s m at))
    where
      go : (x : Option Got) → Ahead s m at (Ok x) → InsideStep s (Ok x) → Onward (length s) at x
      go (Some g) a i = (omega (arith, a.after, a.some), a.inside, sym a.ends, inside_wide s g.token g.span i)
      go None a i = tt
