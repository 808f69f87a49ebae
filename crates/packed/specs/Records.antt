-- Tokens and nodes as records of 16-bit cells, as they stand in what the caller lends. Document 01: "Each leaf record holds its licence as either a listed name or a
-- reference, with plus flag, addition and the licence token's span; reference texts are byte ranges". What a cell does not apply to is 0.
use Rattle.std.specs.Prelude.{ℕ, Bool, true, false, cond, List, [], ◌∷◌, ◌++◌, ltb, replicate, Option, Some, None}
use Rattle.refusal.specs.declared.Span.{Span}
use Rattle.lexer.specs.declared.Token.{Token}
use Rattle.lexer.specs.declared.Token.TheVariants as T
use Rattle.grammar.specs.declared.Range.{Range}
use Rattle.grammar.specs.declared.Licence.{Licence}
use Rattle.grammar.specs.declared.Licence.TheVariants as L
use Rattle.grammar.specs.declared.Addition.{Addition}
use Rattle.grammar.specs.declared.Addition.TheVariants as A
use Rattle.grammar.specs.declared.Leaf.{Leaf}
use Rattle.grammar.specs.declared.Node.{Node}
use Rattle.grammar.specs.declared.Node.TheVariants as N

-- a place as a cell of 16 bits holds it; a text has at most 1,024 places, so none is cut
unfoldable pub cell : ℕ → ℕ
cell x = cond (ltb x 0x10000) x 0xffff

-- a token of a kind with a listed name's place
abbrev pub listed_token : ℕ → ℕ → Span → ℕ → List ℕ
listed_token kind place sp n = kind ∷ cell place ∷ 0 ∷ 0 ∷ 0 ∷ 0 ∷ 0 ∷ cell sp.start ∷ cell sp.end ∷ cell n ∷ []

-- a token of a kind with a document part, or with none, and a name
abbrev pub named_token : ℕ → Option Span → Span → Span → ℕ → List ℕ
named_token kind None name sp n = kind ∷ 0 ∷ 0 ∷ 0 ∷ 0 ∷ cell name.start ∷ cell name.end ∷ cell sp.start ∷ cell sp.end ∷ cell n ∷ []
named_token kind (Some d) name sp n =
    kind ∷ 0 ∷ 1 ∷ cell d.start ∷ cell d.end ∷ cell name.start ∷ cell name.end ∷ cell sp.start ∷ cell sp.end ∷ cell n ∷ []

-- a token's ten cells: kind, listed place, whether there is a document part, its range, the name's range, the token's span, the next place
abbrev pub token_cells : Token → Span → ℕ → List ℕ
token_cells T.And sp n = listed_token 1 0 sp n
token_cells T.Or sp n = listed_token 2 0 sp n
token_cells T.With sp n = listed_token 3 0 sp n
token_cells T.Plus sp n = listed_token 4 0 sp n
token_cells T.Open sp n = listed_token 5 0 sp n
token_cells T.Close sp n = listed_token 6 0 sp n
token_cells (T.Licence k) sp n = listed_token 7 k sp n
token_cells (T.Exception k) sp n = listed_token 8 k sp n
token_cells (T.LicenseRef d x) sp n = named_token 9 d x sp n
token_cells (T.AdditionRef d x) sp n = named_token 10 d x sp n
token_cells (T.Unknown x) sp n = named_token 11 None x sp n

-- a reference: its form, no listed place, the ranges of document part and name; one form more with a document part
abbrev pub reference_cells : ℕ → ℕ → Option Range → Range → List ℕ
reference_cells without with None n = without ∷ 0 ∷ 0 ∷ 0 ∷ n.start ∷ n.end ∷ []
reference_cells without with (Some d) n = with ∷ 0 ∷ d.start ∷ d.end ∷ n.start ∷ n.end ∷ []

abbrev pub licence_cells : Licence → List ℕ
licence_cells (L.Listed k) = 0 ∷ k ∷ 0 ∷ 0 ∷ 0 ∷ 0 ∷ []
licence_cells (L.Reference d n) = reference_cells 1 2 d n

abbrev pub addition_cells : Addition → List ℕ
addition_cells A.Nothing = 0 ∷ 0 ∷ 0 ∷ 0 ∷ 0 ∷ 0 ∷ []
addition_cells (A.Listed k) = 1 ∷ k ∷ 0 ∷ 0 ∷ 0 ∷ 0 ∷ []
addition_cells (A.Reference d n) = reference_cells 2 3 d n

abbrev pub bit : Bool → ℕ
bit true = 1
bit false = 0

-- a node's sixteen cells: kind, licence, plus, addition, span
abbrev pub leaf_cells : Leaf → List ℕ
leaf_cells l = 1 ∷ (licence_cells l.licence ++ (bit l.plus ∷ (addition_cells l.addition ++ (l.span.start ∷ l.span.end ∷ []))))

abbrev pub node_cells : Node → List ℕ
node_cells N.Blank = replicate 16 0
node_cells (N.Leaf l) = leaf_cells l
node_cells N.And = 2 ∷ replicate 15 0
node_cells N.Or = 3 ∷ replicate 15 0

-- the records of nodes, one behind the other
unfoldable pub records_of : List Node → List ℕ
records_of [] = []
records_of (x ∷ q) = node_cells x ++ records_of q
