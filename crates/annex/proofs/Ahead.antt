-- Which token stands where a sign does, what a token is where an operand has ended, the two operators, and how many leaves nodes have.
use Rattle.std.specs.Prelude.{◌≡◌, refl, List, [], ◌∷◌, ◌++◌, ℕ, ◌+◌, None, Option}
use Rattle.std.proofs.Common.{ap, subst, ◌∙◌, arith}
use Rattle.refusal.specs.declared.Span.{Span}
use Rattle.refusal.specs.declared.Refusal.{Refusal}
use Rattle.lexer.specs.declared.Token.{Token}
use Rattle.lexer.specs.declared.Token.TheVariants as T
use Rattle.lexer.specs.Tokens.{Tokens, done, token}
use Rattle.lexer.specs.Tokens as Lexed
use Rattle.lexer.specs.Sign.{Sign, name, reference, unknown, exception, addition, plus, WITH, AND, OR, LP, RP, bad}
use Rattle.grammar.specs.declared.Leaf.{Leaf}
use Rattle.grammar.specs.declared.Node.TheVariants as K
use Rattle.grammar.specs.declared.Node.{Node}
use Rattle.grammar.specs.declared.Before.{Before}
use Rattle.grammar.specs.declared.Link.{Link}
use Rattle.grammar.specs.declared.Link.TheVariants as N
use Rattle.grammar.specs.Leaves.{range_of, part_of}
use Rattle.grammar.specs.Tree.{Tree, both, either, postfix, seen, size, leaves}
use Rattle.grammar.specs.TreeLaws.{leaves_append, leaves_postfix, size_seen}
use Rattle.grammar.specs.Grammar.{Result, got, refused, Reader, emit, link_of, and_by, and_next, or_by, or_next, and_tail, or_tail}
use Rattle.annex.specs.Annex.{Level, Atom, AndLevel, OrLevel}
use Rattle.annex.specs.Signs.{View, signs_of, item_of}

module _ {R S : Type 0} (v : View R S) where
  -- ts is the token t, and r are the signs behind it
  abbrev pub Then : Token → Tokens → List (Sign R S) → Type 0
  Then t ts r = (sp : Span) × (rest : Tokens) × (ts ≡ token t sp rest) × (signs_of v rest ≡ r)

  -- and a licence's place is p
  abbrev pub Placed : Token → Tokens → S → List (Sign R S) → Type 0
  Placed t ts p r = (sp : Span) × (rest : Tokens) × (ts ≡ token t sp rest) × (signs_of v rest ≡ r) × (v.at (range_of sp) ≡ p)

  -- the tokens whose signs begin so
  abbrev pub Ahead : List (Sign R S) → Tokens → Type 0
  Ahead [] ts = ts ≡ done
  Ahead (name k p ∷ r) ts = Placed (T.Licence k) ts p r
  Ahead (reference x p ∷ r) ts = (d : Option Span) × (n : Span) × (v.ref (part_of d) (range_of n) ≡ x) × Placed (T.LicenseRef d n) ts p r
  Ahead (unknown x p ∷ r) ts = (n : Span) × (v.ref None (range_of n) ≡ x) × Placed (T.Unknown n) ts p r
  Ahead (exception k ∷ r) ts = Then (T.Exception k) ts r
  Ahead (addition x ∷ r) ts = (d : Option Span) × (n : Span) × (v.ref (part_of d) (range_of n) ≡ x) × Then (T.AdditionRef d n) ts r
  Ahead (plus ∷ r) ts = Then T.Plus ts r
  Ahead (WITH ∷ r) ts = Then T.With ts r
  Ahead (AND ∷ r) ts = Then T.And ts r
  Ahead (OR ∷ r) ts = Then T.Or ts r
  Ahead (LP ∷ r) ts = Then T.Open ts r
  Ahead (RP ∷ r) ts = Then T.Close ts r
  Ahead (bad ∷ r) ts = (x : Refusal) × (ts ≡ Lexed.refused x) × (r ≡ [])

  ahead_of : (ts : Tokens) → Ahead (signs_of v ts) ts
  ahead_of done = refl
  ahead_of (Lexed.refused r) = (r, refl, refl)
  ahead_of (token T.And sp ts) = (sp, ts, refl, refl)
  ahead_of (token T.Or sp ts) = (sp, ts, refl, refl)
  ahead_of (token T.With sp ts) = (sp, ts, refl, refl)
  ahead_of (token T.Plus sp ts) = (sp, ts, refl, refl)
  ahead_of (token T.Open sp ts) = (sp, ts, refl, refl)
  ahead_of (token T.Close sp ts) = (sp, ts, refl, refl)
  ahead_of (token (T.Licence k) sp ts) = (sp, ts, refl, refl, refl)
  ahead_of (token (T.Exception k) sp ts) = (sp, ts, refl, refl)
  ahead_of (token (T.LicenseRef d n) sp ts) = (d, n, refl, (sp, ts, refl, refl, refl))
  ahead_of (token (T.AdditionRef d n) sp ts) = (d, n, refl, (sp, ts, refl, refl))
  ahead_of (token (T.Unknown n) sp ts) = (n, refl, (sp, ts, refl, refl, refl))

  -- the first sign tells the token that stands there
  pub ahead : (ts : Tokens) {r : List (Sign R S)} → signs_of v ts ≡ r → Ahead r ts
  ahead ts h = subst (λ (z : List (Sign R S)). Ahead z ts) h (ahead_of ts)

-- a token where an operand has ended
pub data Linked : Token → Type 0 where
  an_and : Linked T.And
  an_or : Linked T.Or
  a_close : Linked T.Close
  other : {t : Token} → link_of t ≡ N.Other → Linked t

-- every token is one of them
pub linked : (t : Token) → Linked t
linked T.And = an_and
linked T.Or = an_or
linked T.With = other refl
linked T.Plus = other refl
linked T.Open = other refl
linked T.Close = a_close
linked (T.Licence k) = other refl
linked (T.Exception k) = other refl
linked (T.LicenseRef d n) = other refl
linked (T.AdditionRef d n) = other refl
linked (T.Unknown n) = other refl

-- the two operators
pub data Op : Type 0 where
  by_and : Op
  by_or : Op

-- what they differ in: `lower` is the level to the left, `upper` the one to the right and of the whole; `tail` reads on behind a `lower`
pub record Shape : Type 0 where
  pub token : Token
  pub kind : Node
  pub lower : Level
  pub upper : Level
  pub next : Tokens → Option Tokens
  pub tail : Reader → ℕ → Result → Result

abbrev pub of : Op → Shape
of by_and = record { token = T.And; kind = K.And; lower = Atom; upper = AndLevel; next = and_next; tail = and_tail }
of by_or = record { token = T.Or; kind = K.Or; lower = AndLevel; upper = OrLevel; next = or_next; tail = or_tail }

abbrev pub node : {L : Type 0} → Op → Tree L → Tree L → Tree L
node by_and t u = both t u
node by_or t u = either t u

-- behind a `lower`: a refusal stays; the operator and an `upper`; or nothing
module _ (right : Reader) (d : ℕ) where
  pub tail_refused : (w : Op) (r : Refusal) → (of w).tail right d (refused r) ≡ refused r
  tail_refused by_and r = refl
  tail_refused by_or r = refl

  pub tail_met : (w : Op) (q : List Node) (b : Before) (sp : Span) (us : Tokens)
      → (of w).tail right d (got q b (token (of w).token sp us)) ≡ emit (of w).kind (right d q us)
  tail_met by_and q b sp us = refl
  tail_met by_or q b sp us = refl

  pub tail_unmet : (w : Op) (q : List Node) (b : Before) (ts : Tokens) → (of w).next ts ≡ None → (of w).tail right d (got q b ts) ≡ got q b ts
  tail_unmet by_and q b ts h = rw h refl
  tail_unmet by_or q b ts h = rw h refl

-- tokens begin with an operator, or do not
pub data Meets (w : Op) : Tokens → Type 0 where
  met : {sp : Span} {us : Tokens} → Meets w (token (of w).token sp us)
  unmet : {ts : Tokens} → (of w).next ts ≡ None → Meets w ts

pub meets : (w : Op) (ts : Tokens) → Meets w ts
meets by_and done = unmet refl
meets by_or done = unmet refl
meets by_and (Lexed.refused r) = unmet refl
meets by_or (Lexed.refused r) = unmet refl
meets w (token t sp us) = go w (linked t)
  where
    go : (w : Op) {t : Token} → Linked t → Meets w (token t sp us)
    go by_and an_and = met
    go by_and an_or = unmet refl
    go by_and a_close = unmet refl
    go by_and (other x) = unmet (ap (λ (k : Link). and_by k us) x)
    go by_or an_and = unmet refl
    go by_or an_or = met
    go by_or a_close = unmet refl
    go by_or (other x) = unmet (ap (λ (k : Link). or_by k us) x)

-- the leaves of the nodes of a tree, behind others
pub leaves_behind : {R S : Type 0} (v : View R S) (t : Tree Leaf) (q p : List Node) → p ≡ q ++ postfix t → leaves p ≡ leaves q + size (seen (item_of v) t)
leaves_behind v t q p h = ap leaves h ∙ omega (arith, leaves_append q (postfix t), leaves_postfix t, size_seen (item_of v) t)
