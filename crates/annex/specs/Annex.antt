-- Annex D's grammar: which lists of signs are expressions, and the tree of each. A line that begins "Annex:" restates the annex; one that
-- begins "Document 01:" is what document 01 adds to it. Signs are tokens as the grammar sees them (Sign.antt of the lexer); no rule has `bad`.
use Rattle.std.specs.Prelude.{◌≡◌, Bool, true, false, not, ◌&&◌, List, [], ◌∷◌, ◌++◌, ℕ, suc, max, ◌≤◌, ◌<◌, Some, Option, None}
use Rattle.names.specs.Lookup.{deprecated_of, gnu_of, is_later, later_of}
use Rattle.mode.specs.declared.Mode.{Mode}
use Rattle.lexer.specs.Sign.{Sign, name, reference, unknown, exception, addition, plus, WITH, AND, OR, LP, RP}
use Rattle.grammar.specs.Tree.{Tree, just, both, either}

-- a licence or an addition: a listed name or a reference
pub data Named (R : Type 0) : Type 0 where
  listed : ℕ → Named R
  referred : R → Named R

-- a leaf of the tree
pub record Item (R S : Type 0) : Type 0 where
  pub licence : Named R
  pub later : Bool
  pub added : Option (Named R)
  pub place : S

abbrev pub item : {R S : Type 0} → Named R → Bool → S → Item R S
item n b p = record { licence = n; later = b; added = None; place = p }

abbrev pub adding : {R S : Type 0} → Item R S → Named R → Item R S
adding i a = record { licence = i.licence; later = i.later; added = Some a; place = i.place }

-- Document 01: a deprecated name stands only where the mode allows it (10)
abbrev pub Allowed : Mode → ℕ → Type 0
Allowed m k = (deprecated_of k && not m.deprecated) ≡ false

-- Annex: a simple expression is a licence id, a licence id directly followed by `+`, or a licence reference
pub data Simple {R S : Type 0} (m : Mode) : List (Sign R S) → Item R S → Type 0 where
  id : {k : ℕ} {p : S} → Allowed m k → Simple m (name k p ∷ []) (item (listed k) false p)
  id_later : {k : ℕ} {p : S} → Allowed m k → gnu_of k ≡ false → Simple m (name k p ∷ plus ∷ []) (item (listed k) true p)
  ref : {r : R} {p : S} → Simple m (reference r p ∷ []) (item (referred r) false p)
  -- Document 01: on a GNU name `+` stands only where the mode allows it (11) and not behind "-or-later" (12), and makes the name its
  -- "-or-later" name, which has to be listed (13)
  gnu_later : {k j : ℕ} {p : S} → Allowed m k → gnu_of k ≡ true → m.gnu_plus ≡ true → is_later k ≡ false → later_of k ≡ Some j
      → Simple m (name k p ∷ plus ∷ []) (item (listed j) false p)
  -- Document 01: an unknown term is a reference
  term : {r : R} {p : S} → Simple m (unknown r p ∷ []) (item (referred r) false p)

-- Annex: WITH and an exception id
pub data Additions {R S : Type 0} : List (Sign R S) → Named R → Type 0 where
  listed_one : {k : ℕ} → Additions (WITH ∷ exception k ∷ []) (listed k)
  -- Document 01: or an AdditionRef, or an unknown term
  ref_one : {r : R} → Additions (WITH ∷ addition r ∷ []) (referred r)
  term_one : {r : R} {p : S} → Additions (WITH ∷ unknown r p ∷ []) (referred r)
  -- Document 01: WITH may follow an unknown addition; the last addition wins
  term_more : {r : R} {p : S} {z : List (Sign R S)} {a : Named R} → Additions z a → Additions (WITH ∷ unknown r p ∷ z) a

-- Annex: a simple expression, or a simple expression WITH an exception id
pub data Operand {R S : Type 0} (m : Mode) : List (Sign R S) → Item R S → Type 0 where
  bare : {s : List (Sign R S)} {l : Item R S} → Simple m s l → Operand m s l
  with : {s z : List (Sign R S)} {l : Item R S} {a : Named R} → Simple m s l → Additions z a → Operand m (s ++ z) (adding l a)

pub data Level : Type 0 where
  Atom : Level
  AndLevel : Level
  OrLevel : Level

-- Document 01: an or-level is an and-level, or an and-level, OR and an or-level; an and-level is an atom, or an atom, AND and an and-level;
-- an atom is a leaf, or an or-level in parentheses
pub data Derives {R S : Type 0} (m : Mode) : Level → List (Sign R S) → Tree (Item R S) → Type 0 where
  leaf : {s : List (Sign R S)} {l : Item R S} → Operand m s l → Derives m Atom s (just l)
  group : {s : List (Sign R S)} {t : Tree (Item R S)} → Derives m OrLevel s t → Derives m Atom (LP ∷ (s ++ (RP ∷ []))) t
  alone : {s : List (Sign R S)} {t : Tree (Item R S)} → Derives m Atom s t → Derives m AndLevel s t
  joined : {s z : List (Sign R S)} {t u : Tree (Item R S)} → Derives m Atom s t → Derives m AndLevel z u → Derives m AndLevel (s ++ (AND ∷ z)) (both t u)
  one : {s : List (Sign R S)} {t : Tree (Item R S)} → Derives m AndLevel s t → Derives m OrLevel s t
  choice : {s z : List (Sign R S)} {t u : Tree (Item R S)} → Derives m AndLevel s t → Derives m OrLevel z u → Derives m OrLevel (s ++ (OR ∷ z)) (either t u)

-- Document 01: how many parentheses are open at once
abbrev pub depth : {R S : Type 0} {m : Mode} {v : Level} {s : List (Sign R S)} {t : Tree (Item R S)} → Derives m v s t → ℕ
depth (leaf x) = 0
depth (group d) = suc (depth d)
depth (alone d) = depth d
depth (joined d e) = max (depth d) (depth e)
depth (one d) = depth d
depth (choice d e) = max (depth d) (depth e)

-- an expression is an or-level
abbrev pub Expression : {R S : Type 0} → Mode → List (Sign R S) → Tree (Item R S) → Type 0
Expression m s t = Derives m OrLevel s t

-- Annex: its own grammar, which says nothing of precedence: a compound expression is a simple one, with an exception or without; two joined by
-- AND; two joined by OR; or one in parentheses
pub data Compound {R S : Type 0} (m : Mode) : List (Sign R S) → Tree (Item R S) → Type 0 where
  simple : {s : List (Sign R S)} {l : Item R S} → Operand m s l → Compound m s (just l)
  conj : {s z : List (Sign R S)} {t u : Tree (Item R S)} → Compound m s t → Compound m z u → Compound m (s ++ (AND ∷ z)) (both t u)
  disj : {s z : List (Sign R S)} {t u : Tree (Item R S)} → Compound m s t → Compound m z u → Compound m (s ++ (OR ∷ z)) (either t u)
  paren : {s : List (Sign R S)} {t : Tree (Item R S)} → Compound m s t → Compound m (LP ∷ (s ++ (RP ∷ []))) t

-- how loosely an expression is bound: 0 a simple one or one in parentheses, 1 by AND, 2 by OR
abbrev pub looseness : {R S : Type 0} {m : Mode} {s : List (Sign R S)} {t : Tree (Item R S)} → Compound m s t → ℕ
looseness (simple x) = 0
looseness (conj c d) = 1
looseness (disj c d) = 2
looseness (paren c) = 0

-- Annex: AND binds tighter than OR, so what stands bare beside an AND is not bound by OR
abbrev pub Precedence : {R S : Type 0} {m : Mode} {s : List (Sign R S)} {t : Tree (Item R S)} → Compound m s t → Type 0
Precedence (simple x) = Unit {0}
Precedence (conj c d) = (looseness c ≤ 1) × (looseness d ≤ 1) × Precedence c × Precedence d
Precedence (disj c d) = Precedence c × Precedence d
Precedence (paren c) = Precedence c

-- Document 01: equal operators nest to the right, so what stands bare to the left of an operator is bound tighter than by it
abbrev pub Rightward : {R S : Type 0} {m : Mode} {s : List (Sign R S)} {t : Tree (Item R S)} → Compound m s t → Type 0
Rightward (simple x) = Unit {0}
Rightward (conj c d) = (looseness c < 1) × Rightward c × Rightward d
Rightward (disj c d) = (looseness c < 2) × Rightward c × Rightward d
Rightward (paren c) = Rightward c
