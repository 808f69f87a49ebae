-- No second answer fits the contract of the public function of this crate: text and mode decide the outcome, the count and all 127 nodes.
use Rattle.std.specs.Prelude.{ℕ, List}
use Rattle.text.specs.One.{One, one}
use Rattle.mode.specs.declared.Mode.{Mode}
use Rattle.grammar.specs.Grammar.{parse_of, answer_of}

parse_one : (s : List ℕ) (m : Mode) → One (answer_of (parse_of s m))
parse_one s m = one (answer_of (parse_of s m))
