-- What a caller of `parse` needs of its nodes, with no grammar: they are the postfix of a tree of at most 64 leaves, and blanks up to 127; a
-- refused parse has none.
use Rattle.std.specs.Prelude.{ℕ, ◌≡◌, List}
use Rattle.mode.specs.declared.Mode.{Mode}
use Rattle.grammar.specs.Parsed.{Parsed}
use Rattle.grammar.specs.Grammar.{parse_of, answer_of}
use Rattle.grammar.proofs.Shape.{Answered, answered}

-- of whatever meets the contract of `parse`
pub parsed_tree : (p : Parsed) (s : List ℕ) (m : Mode) → p ≡ answer_of (parse_of s m) → Answered p
parsed_tree p s m e = answered p s m e
