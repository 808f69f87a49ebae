-- What a refusal of the grammar says of the tokens before it, by what could still become an expression. Document 01, "Refusal numbers": "Given
-- exactly when" and "Span or number", for 3 to 15, and "Sets for 6".
use Rattle.std.specs.Prelude.{◌≡◌, true, false, List, [], ◌∷◌, ◌++◌, ℕ, ◌+◌, ◌≤◌, None}
use Rattle.names.specs.Lookup.{deprecated_of, gnu_of, is_later, later_of}
use Rattle.refusal.specs.Refused.{span}
use Rattle.refusal.specs.declared.Span.{Span}
use Rattle.refusal.specs.declared.Expected.{Expected}
use Rattle.refusal.specs.declared.Expected.TheVariants as E
use Rattle.refusal.specs.declared.Refusal.{Refusal}
use Rattle.refusal.specs.declared.Refusal.TheVariants.{Unexpected, UnopenedParens, UnclosedParens, Empty, DeprecatedLicenseId, GnuNoPlus, GnuPlusWithSuffix, UnknownLicense, TooManyLeaves, TooDeep}
use Rattle.mode.specs.declared.Mode.{Mode}
use Rattle.lexer.specs.declared.Token.{Token}
use Rattle.lexer.specs.declared.Token.TheVariants as T
use Rattle.lexer.specs.Tokens.{Tokens, done, refused, token}
use Rattle.lexer.specs.Sign.{Sign, name, reference, unknown, exception, addition, plus, WITH, AND, OR, LP, RP, bad}
use Rattle.grammar.specs.declared.Leaf.{Leaf}
use Rattle.grammar.specs.declared.Before.{Before}
use Rattle.grammar.specs.declared.Start.TheVariants as Start
use Rattle.grammar.specs.Leaves.{start_of}
use Rattle.grammar.specs.Tree.{Tree}
use Rattle.annex.specs.Annex.{Item, Expression}
use Rattle.annex.specs.Signs.{View, sign_of, signs_of}

module _ {R S : Type 0} (m : Mode) where
  -- the signs begin an expression: some signs after them make one; they begin none
  abbrev pub Begins : List (Sign R S) → Type 0
  Begins s = (z : List (Sign R S)) × (t : Tree (Item R S)) × Expression m (s ++ z) t

  abbrev pub Dead : List (Sign R S) → Type 0
  Dead s = (z : List (Sign R S)) (t : Tree (Item R S)) → Expression m (s ++ z) t → ⊥

  -- an operand may follow them, if only one in parentheses
  abbrev pub Waits : List (Sign R S) → Type 0
  Waits s = Begins (s ++ (LP ∷ []))

  -- they are no expression
  abbrev pub Not : List (Sign R S) → Type 0
  Not s = (t : Tree (Item R S)) → Expression m s t → ⊥

-- how many of the signs are of a kind
abbrev pub weight : {R S : Type 0} → (Sign R S → ℕ) → List (Sign R S) → ℕ
weight f [] = 0
weight f (x ∷ s) = f x + weight f s

-- parentheses that open, and that close
abbrev pub opening : {R S : Type 0} → Sign R S → ℕ
opening (name k p) = 0
opening (reference r p) = 0
opening (unknown r p) = 0
opening (exception k) = 0
opening (addition r) = 0
opening plus = 0
opening WITH = 0
opening AND = 0
opening OR = 0
opening LP = 1
opening RP = 0
opening bad = 0

abbrev pub closing : {R S : Type 0} → Sign R S → ℕ
closing (name k p) = 0
closing (reference r p) = 0
closing (unknown r p) = 0
closing (exception k) = 0
closing (addition r) = 0
closing plus = 0
closing WITH = 0
closing AND = 0
closing OR = 0
closing LP = 0
closing RP = 1
closing bad = 0

-- operators, each of which stands behind a leaf
abbrev pub joining : {R S : Type 0} → Sign R S → ℕ
joining (name k p) = 0
joining (reference r p) = 0
joining (unknown r p) = 0
joining (exception k) = 0
joining (addition r) = 0
joining plus = 0
joining WITH = 0
joining AND = 1
joining OR = 1
joining LP = 0
joining RP = 0
joining bad = 0

-- "Sets for 6, by the token before: .. AND/OR/`(`: licence, `(`. `)`: AND, OR. Exception or AdditionRef: AND, OR, `)`. Listed name or unknown:
-- AND, OR, WITH, `)`, `+`. LicenseRef or `+`: AND, OR, WITH, `)`. WITH: addition". `bad` is the sign of no token, so that its set is never given
abbrev pub set_behind : {R S : Type 0} → Sign R S → Expected
set_behind (name k p) = E.Name
set_behind (reference r p) = E.Suffixed
set_behind (unknown r p) = E.Name
set_behind (exception k) = E.Tail
set_behind (addition r) = E.Tail
set_behind plus = E.Suffixed
set_behind WITH = E.Addition
set_behind AND = E.Term
set_behind OR = E.Term
set_behind LP = E.Term
set_behind RP = E.Joint
set_behind bad = E.Term

-- the set behind the last of the signs, or x if there is none
abbrev pub set_from : {R S : Type 0} → Expected → List (Sign R S) → Expected
set_from x [] = x
set_from x (y ∷ s) = set_from (set_behind y) s

-- the set behind all signs before a place; "none .. : licence, `(`"
abbrev pub set_after : {R S : Type 0} → List (Sign R S) → Expected
set_after s = set_from E.Term s

-- b are the signs of the tokens before `rest`
pub data Split {R S : Type 0} (v : View R S) : Tokens → List (Sign R S) → Tokens → Type 0 where
  here : {ts : Tokens} → Split v ts [] ts
  next : {t : Token} {sp : Span} {ts rest : Tokens} {b : List (Sign R S)} → Split v ts b rest → Split v (token t sp ts) (sign_of v t sp ∷ b) rest

-- why a text of e bytes is refused: `all` are its tokens, ts those from the place on where the reader stopped, b the signs before that
pub data Reason {R S : Type 0} (v : View R S) (m : Mode) (e : ℕ) (all : Tokens) (b : List (Sign R S)) (ts : Tokens) : Refusal → Type 0 where
  -- the lexer's refusal
  lexical : {r : Refusal} → ts ≡ refused r → Reason v m e all b ts r
  -- 6: with the token that stands there they begin no expression any more; the set is that of the token before
  unexpected : {t : Token} {sp : Span} {rest : Tokens} → ts ≡ token t sp rest → Dead m (b ++ (sign_of v t sp ∷ []))
      → Reason v m e all b ts (Unexpected sp (set_after b))
  -- 6: the text ends there, and they are no expression
  unended : ts ≡ done → Not m b → Reason v m e all b ts (Unexpected (span e e) (set_after b))
  -- 7: they are an expression, and a `)` follows
  unopened : {sp : Span} {rest : Tokens} {t : Tree (Item R S)} → ts ≡ token T.Close sp rest → Expression m b t → Dead m (b ++ (RP ∷ []))
      → Reason v m e all b ts (UnopenedParens sp)
  -- 8: the text ends; at sp stands a `(`, and all that follows it is an expression, so it is the innermost; the whole is none
  unclosed : {sp : Span} {c : List (Sign R S)} {rest : Tokens} {u : Tree (Item R S)} → ts ≡ done → Split v all c (token T.Open sp rest)
      → Expression m (signs_of v rest) u → Not m b → Reason v m e all b ts (UnclosedParens sp)
  -- 9: there is no token
  empty : all ≡ done → Reason v m e all b ts (Empty (span 0 e))
  -- 10: a deprecated name stands there, where an operand may, and the mode bars it
  deprecated : {k : ℕ} {sp : Span} {rest : Tokens} → ts ≡ token (T.Licence k) sp rest → Waits m b → deprecated_of k ≡ true
      → m.deprecated ≡ false → Reason v m e all b ts (DeprecatedLicenseId sp)
  -- 11, 12, 13: a `+` stands there, behind a GNU name: and the mode bars it; or it allows it, and the name is an "-or-later" one; or it is not,
  -- and has no such name
  gnu_plus : (k : ℕ) (p : S) (c : List (Sign R S)) {sp : Span} {rest : Tokens} → ts ≡ token T.Plus sp rest → b ≡ c ++ (name k p ∷ [])
      → gnu_of k ≡ true → m.gnu_plus ≡ false → Reason v m e all b ts (GnuNoPlus sp)
  gnu_suffix : (k : ℕ) (p : S) (c : List (Sign R S)) {sp : Span} {rest : Tokens} → ts ≡ token T.Plus sp rest → b ≡ c ++ (name k p ∷ [])
      → gnu_of k ≡ true → m.gnu_plus ≡ true → is_later k ≡ true → Reason v m e all b ts (GnuPlusWithSuffix sp)
  gnu_unlisted : (k : ℕ) (p : S) (c : List (Sign R S)) {sp : Span} {rest : Tokens} → ts ≡ token T.Plus sp rest → b ≡ c ++ (name k p ∷ [])
      → gnu_of k ≡ true → m.gnu_plus ≡ true → is_later k ≡ false → later_of k ≡ None → Reason v m e all b ts (UnknownLicense sp)
  -- 14: a licence stands there, where an operand may, and 64 leaves before it, an operator behind each
  leaves : {t : Token} {sp : Span} {rest : Tokens} {l : Leaf} {x : Before} → ts ≡ token t sp rest → start_of m t sp ≡ Start.Begins l x
      → Waits m b → 64 ≤ weight joining b → Reason v m e all b ts (TooManyLeaves sp)
  -- 15: a `(` stands there, where an operand may, and 32 parentheses are open
  parentheses : {sp : Span} {rest : Tokens} → ts ≡ token T.Open sp rest → Waits m b → weight closing b + 32 ≤ weight opening b
      → Reason v m e all b ts (TooDeep sp)

-- the tokens of the whole text up to some place begin an expression, and there is the reason
pub record Fault {R S : Type 0} (v : View R S) (m : Mode) (e : ℕ) (all : Tokens) (r : Refusal) : Type 0 where
  pub before : List (Sign R S)
  pub rest : Tokens
  pub split : Split v all before rest
  pub begins : Begins m before
  pub reason : Reason v m e all before rest r
