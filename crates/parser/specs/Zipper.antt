-- What a stack of frames still has to do, said by the grammar: a zipper. Each turn of the stack reader keeps that meaning. The proofs'
-- machinery, nothing to believe.
use Rattle.std.specs.Prelude.{ℕ, suc, ◌+◌, ◌≤◌, ◌≡◌, refl, Bool, true, List, [], ◌∷◌, ◌++◌, ltb, None}
use Rattle.std.proofs.Common.{sym, ap, ◌∙◌, arith}
use Rattle.refusal.specs.declared.Span.{Span}
use Rattle.refusal.specs.declared.Refusal.{Refusal}
use Rattle.refusal.specs.declared.Refusal.TheVariants.{UnclosedParens, TooManyLeaves, TooDeep}
use Rattle.mode.specs.declared.Mode.{Mode}
use Rattle.lexer.specs.declared.Token.{Token}
use Rattle.lexer.specs.Tokens.{Tokens, done, token}
use Rattle.lexer.specs.Tokens as Lexed
use Rattle.grammar.specs.declared.Node.TheVariants as K
use Rattle.grammar.specs.declared.Node.{Node}
use Rattle.grammar.specs.declared.Leaf.{Leaf}
use Rattle.grammar.specs.declared.Before.{Before}
use Rattle.grammar.specs.declared.Before.TheVariants.{Closed}
use Rattle.grammar.specs.declared.Start.{Start}
use Rattle.grammar.specs.declared.Start.TheVariants.{Begins, Opens}
use Rattle.grammar.specs.declared.Link.{Link}
use Rattle.grammar.specs.declared.Link.TheVariants as N
use Rattle.grammar.specs.Tree.{leaves}
use Rattle.grammar.specs.Leaves.{start_of, tail_of}
use Rattle.grammar.specs.Grammar.{
  Result,
  got,
  refused,
  pick,
  unexpected,
  emit,
  put,
  link_of,
  and_by,
  and_next,
  or_by,
  or_next,
  close_by,
  close_at,
  close,
  end_by,
  end_at,
  end,
  tail_at,
  and_tail,
  or_tail,
  count,
  atom_by,
  atom_at,
  and_level,
  or_level,
}
use Rattle.grammar.proofs.Levels.{and_eq, or_eq}

-- what stands on the stack: its bottom, an operator that waits for its right side, an open parenthesis
pub data Frame : Type 0 where
  bottom : Frame
  and : Frame
  or : Frame
  opened : Span → Frame

-- how many parentheses are open
abbrev pub opens : List Frame → ℕ
opens [] = 0
opens (bottom ∷ s) = 0
opens (and ∷ s) = opens s
opens (or ∷ s) = opens s
opens (opened o ∷ s) = opens s + 1

abbrev pub one : Node → List Node
one k = k ∷ []

-- a token that no operand is followed by, with the token b before it
pub record Bad (b : Before) (ts : Tokens) (r : Refusal) : Type 0 where
  pub no_and : and_next ts ≡ None
  pub no_or : or_next ts ≡ None
  pub no_close : (o : Span) (q : List Node) → close_at o q b ts ≡ refused r
  pub no_end : (q : List Node) → end_at q b ts ≡ refused r

pub bad_token : (b : Before) (t : Token) (sp : Span) (ts : Tokens) → link_of t ≡ N.Other → Bad b (token t sp ts) (unexpected sp b)
bad_token b t sp ts w = record {
  no_and = ap (λ (k : Link). and_by k ts) w;
  no_or = ap (λ (k : Link). or_by k ts) w;
  no_close = (λ o q. ap (close_by q b sp ts) w);
  no_end = (λ q. ap (end_by b sp) w);
}

pub bad_refused : (b : Before) (r : Refusal) → Bad b (Lexed.refused r) r
bad_refused b r = record { no_and = refl; no_or = refl; no_close = (λ o q. refl); no_end = (λ q. refl) }

-- no AND is on top
abbrev pub NoAnd : List Frame → Type 0
NoAnd [] = Unit {0}
NoAnd (bottom ∷ s) = Unit {0}
NoAnd (and ∷ s) = ⊥
NoAnd (or ∷ s) = Unit {0}
NoAnd (opened o ∷ s) = Unit {0}

-- the mode, the number of bytes, and a number of tokens that is not exceeded
module _ (m : Mode) (e n : ℕ) where
  abbrev pub and! : ℕ → Result → Result
  and! = and_tail (and_level m e (suc n))

  abbrev pub or! : ℕ → Result → Result
  or! = or_tail (or_level m e (suc n))

  -- an and-level has ended under the frames s; an or-level has
  abbrev mutual
    pub and_k : List Frame → Result → Result
    and_k [] r = end (or! 0 r)
    and_k (bottom ∷ s) r = end (or! 0 r)
    and_k (and ∷ s) r = and_k s (emit K.And r)
    and_k (or ∷ s) r = or_k s (emit K.Or (or! (opens s) r))
    and_k (opened o ∷ s) r = and_k s (and! (opens s) (close o (or! (opens s + 1) r)))

    pub or_k : List Frame → Result → Result
    or_k [] r = end r
    or_k (bottom ∷ s) r = end r
    or_k (and ∷ s) r = or_k s (emit K.And r)
    or_k (or ∷ s) r = or_k s (emit K.Or r)
    or_k (opened o ∷ s) r = and_k s (and! (opens s) (close o r))

  -- an operand is expected; an atom has been read, with this answer; an operand has ended
  abbrev pub expect : List Frame → List Node → Tokens → Result
  expect s q ts = and_k s (and_level m e (suc n) (opens s) q ts)

  abbrev pub atom : List Frame → Result → Result
  atom s r = and_k s (and! (opens s) r)

  abbrev pub after : List Frame → List Node → Before → Tokens → Result
  after s q b ts = atom s (got q b ts)

  mutual
    and_k_refused : (s : List Frame) (r : Refusal) → and_k s (refused r) ≡ refused r
    and_k_refused [] r = refl
    and_k_refused (bottom ∷ s) r = refl
    and_k_refused (and ∷ s) r = and_k_refused s r
    and_k_refused (or ∷ s) r = or_k_refused s r
    and_k_refused (opened o ∷ s) r = and_k_refused s r

    or_k_refused : (s : List Frame) (r : Refusal) → or_k s (refused r) ≡ refused r
    or_k_refused [] r = refl
    or_k_refused (bottom ∷ s) r = refl
    or_k_refused (and ∷ s) r = or_k_refused s r
    or_k_refused (or ∷ s) r = or_k_refused s r
    or_k_refused (opened o ∷ s) r = and_k_refused s r

  -- a refusal goes through all frames
  pub atom_refused : (s : List Frame) (r : Refusal) → atom s (refused r) ≡ refused r
  atom_refused s r = and_k_refused s r

  and_none : (d : ℕ) (q : List Node) (b : Before) (ts : Tokens) → and_next ts ≡ None → and! d (got q b ts) ≡ got q b ts
  and_none d q b ts a = ap (tail_at K.And (and_level m e (suc n)) d q b ts) a

  or_none : (d : ℕ) (q : List Node) (b : Before) (ts : Tokens) → or_next ts ≡ None → or! d (got q b ts) ≡ got q b ts
  or_none d q b ts o = ap (tail_at K.Or (or_level m e (suc n)) d q b ts) o

  -- where no OR follows, an and-level that has ended is an or-level that has
  plain : (s : List Frame) (q : List Node) (b : Before) (ts : Tokens) → or_next ts ≡ None → and_k s (got q b ts) ≡ or_k s (got q b ts)
  plain [] q b ts o = ap end (or_none 0 q b ts o)
  plain (bottom ∷ s) q b ts o = ap end (or_none 0 q b ts o)
  plain (and ∷ s) q b ts o = plain s (q ++ one K.And) b ts o
  plain (or ∷ s) q b ts o = ap (λ (r : Result). or_k s (emit K.Or r)) (or_none (opens s) q b ts o)
  plain (opened p ∷ s) q b ts o = ap (λ (r : Result). and_k s (and! (opens s) (close p r))) (or_none (opens s + 1) q b ts o)

  -- the operator on top becomes a node
  pub pop_and : (s : List Frame) (q : List Node) (b : Before) (ts : Tokens) → and_next ts ≡ None
      → after (and ∷ s) q b ts ≡ after s (q ++ one K.And) b ts
  pop_and s q b ts a =
      ap (λ (r : Result). and_k s (emit K.And r)) (and_none (opens s) q b ts a)
      ∙ sym (ap (and_k s) (and_none (opens s) (q ++ one K.And) b ts a))

  pub pop_or : (s : List Frame) (q : List Node) (b : Before) (ts : Tokens) → and_next ts ≡ None → or_next ts ≡ None
      → after (or ∷ s) q b ts ≡ after s (q ++ one K.Or) b ts
  pop_or s q b ts a o =
      ap (and_k (or ∷ s)) (and_none (opens s) q b ts a) ∙ plain (or ∷ s) q b ts o
      ∙ sym (plain s (q ++ one K.Or) b ts o) ∙ sym (ap (and_k s) (and_none (opens s) (q ++ one K.Or) b ts a))

  -- at an open parenthesis, where no operator follows
  closing : (s : List Frame) (o : Span) (q : List Node) (b : Before) (ts : Tokens) → and_next ts ≡ None → or_next ts ≡ None
      → after (opened o ∷ s) q b ts ≡ atom s (close_at o q b ts)
  closing s o q b ts x y = ap (and_k (opened o ∷ s)) (and_none (opens s + 1) q b ts x) ∙ plain (opened o ∷ s) q b ts y

  -- a `)` closes it, and the end of the text leaves it open
  pub shut : (s : List Frame) (o : Span) (q : List Node) (b : Before) (t : Token) (sp : Span) (ts : Tokens) → link_of t ≡ N.Close
      → after (opened o ∷ s) q b (token t sp ts) ≡ after s q Closed ts
  shut s o q b t sp ts w =
      closing s o q b (token t sp ts) (ap (λ (k : Link). and_by k ts) w) (ap (λ (k : Link). or_by k ts) w)
      ∙ ap (λ (k : Link). atom s (close_by q b sp ts k)) w

  pub unclosed : (s : List Frame) (o : Span) (q : List Node) (b : Before) → after (opened o ∷ s) q b done ≡ refused (UnclosedParens o)
  unclosed s o q b = closing s o q b done refl refl ∙ atom_refused s (UnclosedParens o)

  -- at the bottom, where no operator follows
  pub at_bottom : (q : List Node) (b : Before) (ts : Tokens) → and_next ts ≡ None → or_next ts ≡ None
      → (after [] q b ts ≡ end_at q b ts) × ((s : List Frame) → after (bottom ∷ s) q b ts ≡ end_at q b ts)
  at_bottom q b ts x y =
      let h : end (or! 0 (and! 0 (got q b ts))) ≡ end_at q b ts =
      ap (λ (r : Result). end (or! 0 r)) (and_none 0 q b ts x) ∙ ap end (or_none 0 q b ts y) in
      (h, (λ s. h))

  pub push_and : (s : List Frame) (q : List Node) (b : Before) (t : Token) (sp : Span) (ts : Tokens) → link_of t ≡ N.And
      → after s q b (token t sp ts) ≡ expect (and ∷ s) q ts
  push_and s q b t sp ts w =
      ap (λ (k : Link). and_k s (tail_at K.And (and_level m e (suc n)) (opens s) q b (token t sp ts) (and_by k ts))) w

  bad_or : (s : List Frame) (q : List Node) (b : Before) (ts : Tokens) (r : Refusal) → Bad b ts r → or_k s (got q b ts) ≡ refused r
  bad_or [] q b ts r x = x.no_end q
  bad_or (bottom ∷ s) q b ts r x = x.no_end q
  bad_or (and ∷ s) q b ts r x = bad_or s (q ++ one K.And) b ts r x
  bad_or (or ∷ s) q b ts r x = bad_or s (q ++ one K.Or) b ts r x
  bad_or (opened o ∷ s) q b ts r x = ap (atom s) (x.no_close o q) ∙ atom_refused s r

  pub bad_after : (s : List Frame) (q : List Node) (b : Before) (ts : Tokens) (r : Refusal) → Bad b ts r → after s q b ts ≡ refused r
  bad_after s q b ts r x = ap (and_k s) (and_none (opens s) q b ts x.no_and) ∙ plain s q b ts x.no_or ∙ bad_or s q b ts r x

  -- what stands where an operand is expected decides
  pub expect_eq : (s : List Frame) (q : List Node) (ts : Tokens) → count ts ≤ n
      → expect s q ts ≡ atom s (atom_at m e (or_level m e (suc n)) (opens s) q ts)
  expect_eq s q ts h = ap (and_k s) (and_eq m e n (opens s) q ts h)

  -- a leaf begins
  pub begun : (s : List Frame) (q : List Node) (t : Token) (sp : Span) (ts : Tokens) (l : Leaf) (b : Before) → suc (count ts) ≤ n
      → start_of m t sp ≡ Begins l b → ltb (leaves q) 64 ≡ true → expect s q (token t sp ts) ≡ atom s (put q (tail_of m e b l ts))
  begun s q t sp ts l b h w x =
      expect_eq s q (token t sp ts) h
      ∙ ap (λ (y : Start). atom s (atom_by m e (or_level m e (suc n)) (opens s) q sp ts y)) w
      ∙ ap (λ (y : Bool). atom s (pick y (put q (tail_of m e b l ts)) (refused (TooManyLeaves sp)))) x

  -- a parenthesis opens
  pub opening : (s : List Frame) (q : List Node) (t : Token) (sp : Span) (ts : Tokens) → suc (count ts) ≤ n
      → start_of m t sp ≡ Opens → ltb (opens s) 32 ≡ true → expect s q (token t sp ts) ≡ expect (opened sp ∷ s) q ts
  opening s q t sp ts h w x =
      expect_eq s q (token t sp ts) h
      ∙ ap (λ (y : Start). atom s (atom_by m e (or_level m e (suc n)) (opens s) q sp ts y)) w
      ∙ ap (λ (y : Bool). atom s (pick y (close sp (or_level m e (suc n) (opens s + 1) q ts)) (refused (TooDeep sp)))) x
      ∙ ap (λ (r : Result). atom s (close sp r)) (or_eq m e n (opens s + 1) q ts (omega arith))

  -- no operand begins
  pub no_operand : (s : List Frame) (q : List Node) (ts : Tokens) (r : Refusal) → count ts ≤ n
      → atom_at m e (or_level m e (suc n)) (opens s) q ts ≡ refused r → expect s q ts ≡ refused r
  no_operand s q ts r h x = expect_eq s q ts h ∙ ap (atom s) x ∙ atom_refused s r

  or_some : (d : ℕ) (q : List Node) (b : Before) (t : Token) (sp : Span) (ts : Tokens) → suc (count ts) ≤ n → link_of t ≡ N.Or
      → or! d (and! d (got q b (token t sp ts))) ≡ emit K.Or (or! d (and_level m e (suc n) d q ts))
  or_some d q b t sp ts h w =
      ap (or! d) (and_none d q b (token t sp ts) (ap (λ (k : Link). and_by k ts) w))
      ∙ ap (λ (k : Link). tail_at K.Or (or_level m e (suc n)) d q b (token t sp ts) (or_by k ts)) w
      ∙ ap (emit K.Or) (or_eq m e n d q ts (omega arith))

  -- an OR goes on the stack, where no AND is on top
  pub push_or : (s : List Frame) → NoAnd s → (q : List Node) (b : Before) (t : Token) (sp : Span) (ts : Tokens) → suc (count ts) ≤ n
      → link_of t ≡ N.Or → after s q b (token t sp ts) ≡ expect (or ∷ s) q ts
  push_or [] x q b t sp ts h w = ap end (or_some 0 q b t sp ts h w)
  push_or (bottom ∷ s) x q b t sp ts h w = ap end (or_some 0 q b t sp ts h w)
  push_or (and ∷ s) x q b t sp ts h w = absurd x
  push_or (or ∷ s) x q b t sp ts h w = ap (λ (r : Result). or_k s (emit K.Or r)) (or_some (opens s) q b t sp ts h w)
  push_or (opened o ∷ s) x q b t sp ts h w = ap (λ (r : Result). atom s (close o r)) (or_some (opens s + 1) q b t sp ts h w)

  -- the whole text
  pub begin : (ts : Tokens) → count ts ≤ n → end (or_level m e (suc n) 0 [] ts) ≡ expect [] [] ts
  begin ts h = ap end (or_eq m e n 0 [] ts h)
