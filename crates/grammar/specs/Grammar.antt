-- The reader by levels, with its refusals. Document 01, "From tokens to nodes": "an or-level is an and-level, or an and-level, OR and an
-- or-level; an and-level is an atom, or an atom, AND and an and-level. Nodes are the tree in postfix. At most 64 leaves and 32 parentheses
-- open at once"; "Order: .. tokens left to right, lexer refusal before grammar; for a leaf 6, 10, 14; for `(` 6, 15; for `)` 6, 7; for `+`
-- 6, 11, 12, 13. At the end 9 or 6, then 8"; "A refused parse returns zero nodes. Nodes past the count are blank".
use Rattle.std.specs.Prelude.{ℕ, zero, suc, ◌+◌, ◌-◌, Bool, true, false, List, [], ◌∷◌, ◌++◌, ltb, length, replicate, Ok, Err, ⊤, Option, Some, None}
use Rattle.std.specs.Prelude as Std
use Rattle.refusal.specs.Refused.{span}
use Rattle.refusal.specs.declared.Span.{Span}
use Rattle.refusal.specs.declared.Expected.TheVariants as E
use Rattle.refusal.specs.declared.Refusal.{Refusal}
use Rattle.refusal.specs.declared.Refusal.TheVariants.{Unexpected, UnopenedParens, UnclosedParens, Empty, DeprecatedLicenseId, TooManyLeaves, TooDeep}
use Rattle.mode.specs.declared.Mode.{Mode}
use Rattle.lexer.specs.declared.Token.{Token}
use Rattle.lexer.specs.declared.Token.TheVariants as T
use Rattle.lexer.specs.Lex.{check_of}
use Rattle.lexer.specs.Tokens.{Tokens, done, token, tokens_of}
use Rattle.lexer.specs.Tokens as Lexed
use Rattle.grammar.specs.declared.Node.TheVariants as K
use Rattle.grammar.specs.declared.Node.{Node}
use Rattle.grammar.specs.Parsed.{Parsed}
use Rattle.grammar.specs.declared.Before.{Before}
use Rattle.grammar.specs.declared.Before.TheVariants.{Closed}
use Rattle.grammar.specs.Tree.{leaves}
use Rattle.grammar.specs.declared.Start.{Start}
use Rattle.grammar.specs.declared.Start.TheVariants.{Begins, Barred, Opens, Unfit}
use Rattle.grammar.specs.declared.Link.{Link}
use Rattle.grammar.specs.declared.Link.TheVariants as N
use Rattle.grammar.specs.Leaves.{expected_after, start_of, Tail, whole, broken, tail_of}

-- what a reader of a level answers: the nodes so far, in postfix, the token before, and the tokens that are left; or a refusal
pub data Result : Type 0 where
  got : List Node → Before → Tokens → Result
  refused : Refusal → Result

-- a reader of a level: how many parentheses are open, the nodes so far, the tokens from here on
abbrev pub Reader : Type 0
Reader = ℕ → List Node → Tokens → Result

abbrev pub pick : Bool → Result → Result → Result
pick true a b = a
pick false a b = b

-- "6 Unexpected: token may not follow"
abbrev pub unexpected : Span → Before → Refusal
unexpected sp b = Unexpected sp (expected_after b)

-- one more node at the end
abbrev pub emit : Node → Result → Result
emit k (got q b ts) = got (q ++ (k ∷ [])) b ts
emit k (refused r) = refused r

-- a leaf that has been read
abbrev pub put : List Node → Tail → Result
put q (whole l b ts) = got (q ++ (K.Leaf l ∷ [])) b ts
put q (broken r) = refused r

-- what a token is where an operand has ended
abbrev pub link_of : Token → Link
link_of T.And = N.And
link_of T.Or = N.Or
link_of T.With = N.Other
link_of T.Plus = N.Other
link_of T.Open = N.Other
link_of T.Close = N.Close
link_of (T.Licence k) = N.Other
link_of (T.Exception k) = N.Other
link_of (T.LicenseRef d n) = N.Other
link_of (T.AdditionRef d n) = N.Other
link_of (T.Unknown n) = N.Other

-- the tokens behind an AND, and behind an OR
abbrev pub and_by : Link → Tokens → Option Tokens
and_by N.And ts = Some ts
and_by N.Or ts = None
and_by N.Close ts = None
and_by N.Other ts = None

abbrev pub and_next : Tokens → Option Tokens
and_next done = None
and_next (Lexed.refused r) = None
and_next (token t sp ts) = and_by (link_of t) ts

abbrev pub or_by : Link → Tokens → Option Tokens
or_by N.And ts = None
or_by N.Or ts = Some ts
or_by N.Close ts = None
or_by N.Other ts = None

abbrev pub or_next : Tokens → Option Tokens
or_next done = None
or_next (Lexed.refused r) = None
or_next (token t sp ts) = or_by (link_of t) ts

-- the `)` of the parenthesis that was opened at o; "8 UnclosedParens: open at the end: innermost open `(`"
abbrev pub close_by : List Node → Before → Span → Tokens → Link → Result
close_by q b sp ts N.And = refused (unexpected sp b)
close_by q b sp ts N.Or = refused (unexpected sp b)
close_by q b sp ts N.Close = got q Closed ts
close_by q b sp ts N.Other = refused (unexpected sp b)

abbrev pub close_at : Span → List Node → Before → Tokens → Result
close_at o q b done = refused (UnclosedParens o)
close_at o q b (Lexed.refused r) = refused r
close_at o q b (token t sp ts) = close_by q b sp ts (link_of t)

abbrev pub close : Span → Result → Result
close o (got q b ts) = close_at o q b ts
close o (refused r) = refused r

-- the end of the text; "7 UnopenedParens: no partner: the `)`"
abbrev pub end_by : Before → Span → Link → Result
end_by b sp N.And = refused (unexpected sp b)
end_by b sp N.Or = refused (unexpected sp b)
end_by b sp N.Close = refused (UnopenedParens sp)
end_by b sp N.Other = refused (unexpected sp b)

abbrev pub end_at : List Node → Before → Tokens → Result
end_at q b done = got q b done
end_at q b (Lexed.refused r) = refused r
end_at q b (token t sp ts) = end_by b sp (link_of t)

abbrev pub end : Result → Result
end (got q b ts) = end_at q b ts
end (refused r) = refused r

-- after an operand: the operator that `next` finds and a further level, or nothing
abbrev pub tail_at : Node → Reader → ℕ → List Node → Before → Tokens → Option Tokens → Result
tail_at k level d q b ts None = got q b ts
tail_at k level d q b ts (Some r) = emit k (level d q r)

-- after an atom: AND and an and-level, or nothing
abbrev pub and_tail : Reader → ℕ → Result → Result
and_tail and d (got q b ts) = tail_at K.And and d q b ts (and_next ts)
and_tail and d (refused r) = refused r

-- after an and-level: OR and an or-level, or nothing
abbrev pub or_tail : Reader → ℕ → Result → Result
or_tail or d (got q b ts) = tail_at K.Or or d q b ts (or_next ts)
or_tail or d (refused r) = refused r

-- how many steps a list of tokens has
abbrev pub count : Tokens → ℕ
count done = 0
count (Lexed.refused r) = 0
count (token t sp ts) = suc (count ts)

-- the mode, and the number of bytes of the text
module _ (m : Mode) (e : ℕ) where
  -- an atom that begins with a token: a leaf ("for a leaf 6, 10, 14"), or an or-level in parentheses ("for `(` 6, 15"); b is the token before
  abbrev pub atom_by : Reader → ℕ → List Node → Span → Tokens → Start → Result
  atom_by or d q sp ts (Begins l b) = pick (ltb (leaves q) 64) (put q (tail_of m e b l ts)) (refused (TooManyLeaves sp))
  atom_by or d q sp ts Barred = refused (DeprecatedLicenseId sp)
  atom_by or d q sp ts Opens = pick (ltb d 32) (close sp (or (d + 1) q ts)) (refused (TooDeep sp))
  atom_by or d q sp ts Unfit = refused (Unexpected sp E.Term)

  abbrev pub atom_at : Reader → ℕ → List Node → Tokens → Result
  atom_at or d q done = refused (Unexpected (span e e) E.Term)
  atom_at or d q (Lexed.refused r) = refused r
  atom_at or d q (token t sp ts) = atom_by or d q sp ts (start_of m t sp)

  -- the two levels; the first number bounds how deep the calls go
  unfoldable mutual
    -- an and-level: an atom, or an atom, AND and an and-level
    pub and_level : ℕ → Reader
    and_level zero d q ts = refused (Empty (span 0 0))
    and_level (suc f) d q ts = and_tail (λ d q r. and_level f d q r) d (atom_at (λ d q r. or_level f d q r) d q ts)

    -- an or-level: an and-level, or an and-level, OR and an or-level
    pub or_level : ℕ → Reader
    or_level zero d q ts = refused (Empty (span 0 0))
    or_level (suc f) d q ts =
        or_tail (λ d q r. or_level f d q r) d
        (and_tail (λ d q r. and_level f d q r) d (atom_at (λ d q r. or_level f d q r) d q ts))

  -- the tokens of a text; "9 Empty: no token: whole text"
  abbrev pub read : Tokens → Result
  read done = refused (Empty (span 0 e))
  read (Lexed.refused r) = refused r
  read (token t sp ts) = end (or_level (suc (count (token t sp ts))) 0 [] (token t sp ts))

-- the text's refusals 2 and 1 come before its tokens
abbrev pub read_if : Mode → List ℕ → Std.Result ⊤ Refusal → Result
read_if m s (Ok tt) = read m (length s) (tokens_of s m 0)
read_if m s (Err r) = refused r

unfoldable pub parse_of : List ℕ → Mode → Result
parse_of s m = read_if m s (check_of s)

abbrev pub blank : Node
blank = K.Blank

-- the nodes, and blanks up to 127
abbrev pub padded : List Node → List Node
padded q = q ++ replicate (127 - length q) blank

abbrev pub answer_of : Result → Parsed
answer_of (got q b ts) = Ok (record { count = length q; nodes = padded q })
answer_of (refused r) = Err r
