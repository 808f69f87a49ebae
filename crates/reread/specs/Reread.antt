-- The second demand's last sentence: "A text that reads in LAX, with canonical text of at most 1,024 bytes, has a canonical text that reads in
-- STRICT to the same tree, spans aside and bare GNU names taken as "-only""; document 01: "Trees compare references by their bytes". And the
-- canonical text of such a canonical text is itself.
use Rattle.std.specs.Prelude.{ℕ, ◌≤◌, ◌≡◌, List, length, Option, Some, None}
use Rattle.names.specs.Lookup.{only_of}
use Rattle.mode.specs.declared.Mode.{Mode}
use Rattle.mode.specs.Modes.{strict}
use Rattle.lexer.specs.Tokens.{Tokens}
use Rattle.lexer.specs.Spelling.{Naming}
use Rattle.grammar.specs.declared.Leaf.{Leaf}
use Rattle.grammar.specs.declared.Before.{Before}
use Rattle.grammar.specs.Tree.{Tree, postfix, seen}
use Rattle.grammar.specs.Grammar.{got, parse_of}
use Rattle.annex.specs.Annex.{Named, listed, referred, Item}
use Rattle.annex.specs.Signs.{spelled, item_of}
use Rattle.canonical.specs.Canonical.{text, canonical_of}

-- the text s reads in the mode m, to the tree t
pub record Reads (s : List ℕ) (m : Mode) (t : Tree Leaf) : Type 0 where
  pub last : Before
  pub rest : Tokens
  pub reads : parse_of s m ≡ got (postfix t) last rest

-- a tree, spans aside and references by their bytes
abbrev pub by_bytes : List ℕ → Tree Leaf → Tree (Item Naming (Unit {0}))
by_bytes s t = seen (item_of (spelled s)) t

-- a bare GNU name taken as "-only": the place of the name that is found, if one is
abbrev pub or_self : ℕ → Option ℕ → ℕ
or_self k (Some j) = j
or_self k None = k

abbrev pub only : {R : Type 0} → Named R → Named R
only (listed k) = listed (or_self k (only_of k))
only (referred r) = referred r

abbrev pub as_only : {R S : Type 0} → Item R S → Item R S
as_only i = record { licence = only i.licence; later = i.later; added = i.added; place = i.place }

-- what is promised of a text s that reads in LAX to the tree t
pub record Reread (s : List ℕ) (t : Tree Leaf) : Type 0 where
  pub canon : List ℕ
  pub is : canonical_of s ≡ text canon
  pub again : length canon ≤ 1024 → (u : Tree Leaf) × Reads canon strict u × (by_bytes canon u ≡ seen as_only (by_bytes s t))
  pub same : length canon ≤ 1024 → canonical_of canon ≡ text canon
