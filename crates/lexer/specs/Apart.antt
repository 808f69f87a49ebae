-- Which tokens the lexer hands out, by their bytes, and when tokens that are spelled one behind the other can be told apart again.
use Rattle.std.specs.Prelude.{ℕ, ◌<◌, ◌≡◌, Bool, true, false, not, ◌&&◌, List, [], ◌∷◌, length, Option, Some, None}
use Rattle.text.specs.Every.{All}
use Rattle.text.specs.Runs.{ref_byte}
use Rattle.names.specs.Listed.{listed, exceptions}
use Rattle.lexer.specs.Sign.{name, reference, unknown, exception, addition, plus, WITH, AND, OR, LP, RP, bad}
use Rattle.lexer.specs.Spelling.{Naming, Spoken}

-- the names of a reference are made of a reference's bytes
abbrev pub KnownDoc : Option (List ℕ) → Type 0
KnownDoc None = Unit {0}
KnownDoc (Some d) = All ref_byte d

abbrev pub KnownRef : Naming → Type 0
KnownRef r = KnownDoc r.0 × All ref_byte r.1

-- a token of a lexer that allows no unknown terms
abbrev pub Known : Spoken → Type 0
Known (name k p) = k < length listed
Known (reference r p) = KnownRef r
Known (unknown r p) = ⊥
Known (exception k) = k < length exceptions
Known (addition r) = KnownRef r
Known plus = Unit {0}
Known WITH = Unit {0}
Known AND = Unit {0}
Known OR = Unit {0}
Known LP = Unit {0}
Known RP = Unit {0}
Known bad = ⊥

abbrev pub AllKnown : List Spoken → Type 0
AllKnown [] = Unit {0}
AllKnown (x ∷ w) = Known x × AllKnown w

-- the tokens of a text: each is known, and a refusal may stand at the end
abbrev pub KnownOrBad : List Spoken → Type 0
KnownOrBad [] = Unit {0}
KnownOrBad (bad ∷ w) = w ≡ []
KnownOrBad (name k p ∷ w) = Known (name k p) × KnownOrBad w
KnownOrBad (reference r p ∷ w) = Known (reference r p) × KnownOrBad w
KnownOrBad (unknown r p ∷ w) = ⊥
KnownOrBad (exception k ∷ w) = Known (exception k) × KnownOrBad w
KnownOrBad (addition r ∷ w) = Known (addition r) × KnownOrBad w
KnownOrBad (plus ∷ w) = KnownOrBad w
KnownOrBad (WITH ∷ w) = KnownOrBad w
KnownOrBad (AND ∷ w) = KnownOrBad w
KnownOrBad (OR ∷ w) = KnownOrBad w
KnownOrBad (LP ∷ w) = KnownOrBad w
KnownOrBad (RP ∷ w) = KnownOrBad w

-- a token that is a run of bytes
abbrev pub is_run : Spoken → Bool
is_run (name k p) = true
is_run (reference r p) = true
is_run (unknown r p) = true
is_run (exception k) = true
is_run (addition r) = true
is_run plus = false
is_run WITH = false
is_run AND = false
is_run OR = false
is_run LP = false
is_run RP = false
is_run bad = false

-- an operator, behind which a space is written
abbrev pub is_operator : Spoken → Bool
is_operator (name k p) = false
is_operator (reference r p) = false
is_operator (unknown r p) = false
is_operator (exception k) = false
is_operator (addition r) = false
is_operator plus = false
is_operator WITH = true
is_operator AND = true
is_operator OR = true
is_operator LP = false
is_operator RP = false
is_operator bad = false

abbrev pub is_plus : Spoken → Bool
is_plus (name k p) = false
is_plus (reference r p) = false
is_plus (unknown r p) = false
is_plus (exception k) = false
is_plus (addition r) = false
is_plus plus = true
is_plus WITH = false
is_plus AND = false
is_plus OR = false
is_plus LP = false
is_plus RP = false
is_plus bad = false

-- may y be spelled right behind x: two runs would become one, and a `+` behind a space is refused
abbrev pub clear : Spoken → Spoken → Bool
clear x y = not (is_run x && is_run y) && not (is_operator x && is_plus y)

-- each of w may be spelled right behind the one before it, the first behind x
abbrev pub Follows : Spoken → List Spoken → Type 0
Follows x [] = Unit {0}
Follows x (y ∷ w) = (clear x y ≡ true) × Follows y w

abbrev pub Apart : List Spoken → Type 0
Apart [] = Unit {0}
Apart (x ∷ w) = Follows x w
