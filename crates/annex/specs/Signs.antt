-- The signs of a text's tokens, and what an answer of the reader says of them. Document 01: "At most 64 leaves and 32 parentheses open at once".
use Rattle.std.specs.Prelude.{◌≡◌, List, [], ◌∷◌, ◌⊎◌, ℕ, ◌≤◌, ◌<◌, Some, None, Option}
use Rattle.text.specs.Text.{part}
use Rattle.refusal.specs.Refused.{number_of}
use Rattle.refusal.specs.declared.Span.{Span}
use Rattle.mode.specs.declared.Mode.{Mode}
use Rattle.lexer.specs.declared.Token.{Token}
use Rattle.lexer.specs.declared.Token.TheVariants as T
use Rattle.lexer.specs.Tokens.{Tokens, done, refused, token}
use Rattle.lexer.specs.Sign.{Sign, name, reference, unknown, exception, addition, plus, WITH, AND, OR, LP, RP, bad}
use Rattle.grammar.specs.declared.Range.{Range}
use Rattle.grammar.specs.declared.Licence.{Licence}
use Rattle.grammar.specs.declared.Licence.TheVariants as L
use Rattle.grammar.specs.declared.Addition.{Addition}
use Rattle.grammar.specs.declared.Addition.TheVariants as A
use Rattle.grammar.specs.declared.Leaf.{Leaf}
use Rattle.grammar.specs.Tree.{Tree, size, seen, postfix}
use Rattle.grammar.specs.Leaves.{range_of, part_of}
use Rattle.grammar.specs.Grammar.{Result, got}
use Rattle.grammar.specs.Grammar as Grammar
use Rattle.annex.specs.Annex.{Named, listed, referred, Item, Expression, depth}

-- what is seen of a reference, by the ranges of its document part and its name, and of a licence's place
pub record View (R S : Type 0) : Type 0 where
  pub ref : Option Range → Range → R
  pub at : Range → S

-- all of both: two texts' trees are then the same only if they stand at the same places
abbrev pub exact : View (Option Range × Range) Range
exact = record { ref = (λ d n. (d, n)); at = (λ r. r) }

-- the bytes of a reference, and nothing of a place: "Trees compare references by their bytes", spans aside
abbrev pub document : List ℕ → Option Range → Option (List ℕ)
document s None = None
document s (Some r) = Some (part r.start r.end s)

abbrev pub spelled : List ℕ → View (Option (List ℕ) × List ℕ) (Unit {0})
spelled s = record { ref = (λ d n. (document s d, part n.start n.end s)); at = (λ r. tt) }

module _ {R S : Type 0} (v : View R S) where
  abbrev pub sign_of : Token → Span → Sign R S
  sign_of T.And sp = AND
  sign_of T.Or sp = OR
  sign_of T.With sp = WITH
  sign_of T.Plus sp = plus
  sign_of T.Open sp = LP
  sign_of T.Close sp = RP
  sign_of (T.Licence k) sp = name k (v.at (range_of sp))
  sign_of (T.Exception k) sp = exception k
  sign_of (T.LicenseRef d n) sp = reference (v.ref (part_of d) (range_of n)) (v.at (range_of sp))
  sign_of (T.AdditionRef d n) sp = addition (v.ref (part_of d) (range_of n))
  sign_of (T.Unknown n) sp = unknown (v.ref None (range_of n)) (v.at (range_of sp))

  abbrev pub signs_of : Tokens → List (Sign R S)
  signs_of done = []
  signs_of (refused r) = bad ∷ []
  signs_of (token t sp ts) = sign_of t sp ∷ signs_of ts

  -- a leaf of the nodes, as the grammar sees it
  abbrev pub licence_as : Licence → Named R
  licence_as (L.Listed k) = listed k
  licence_as (L.Reference d n) = referred (v.ref d n)

  abbrev pub addition_as : Addition → Option (Named R)
  addition_as A.Nothing = None
  addition_as (A.Listed k) = Some (listed k)
  addition_as (A.Reference d n) = Some (referred (v.ref d n))

  abbrev pub item_of : Leaf → Item R S
  item_of l = record { licence = licence_as l.licence; later = l.plus; added = addition_as l.addition; place = v.at l.span }

-- the signs are an expression of the tree t, and document 01's limits hold
pub record Fits {R S : Type 0} (m : Mode) (s : List (Sign R S)) (t : Tree (Item R S)) : Type 0 where
  pub derives : Expression m s t
  pub few : size t ≤ 64
  pub flat : depth derives ≤ 32

-- the refusal of number r says that n leaves are too many, or k parentheses open at once
abbrev pub Over : ℕ → ℕ → ℕ → Type 0
Over r n k = ((r ≡ 14) × (64 < n)) ⊎ ((r ≡ 15) × (32 < k))

-- what an answer says of a text's signs. Nodes: they are the postfix of the tree of which the signs are an expression, within the limits.
-- A refusal: the signs are no expression at all; or it is 14, and they are one with more than 64 leaves; or it is 15, and more than 32
-- parentheses are open at once
abbrev pub Says : {R S : Type 0} → View R S → Mode → List (Sign R S) → Result → Type 0
Says v m s (got q b ts) = (t : Tree Leaf) × Fits m s (seen (item_of v) t) × (q ≡ postfix t)
Says {R} {S} v m s (Grammar.refused r) = (t : Tree (Item R S)) (x : Expression m s t) → Over (number_of r) (size t) (depth x)
