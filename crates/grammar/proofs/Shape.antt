-- Whatever reads is a tree's nodes, of at most 64 leaves: for those who call the reader and need no grammar and no tokens.
use Rattle.refusal.specs.declared.Refusal.{Refusal}
use Rattle.std.specs.Prelude.{◌≡◌, refl, Bool, true, false, List, [], ◌∷◌, ◌++◌, length, take, drop, replicate, ltb, Ok, Err, ⊤, Option, Some, None}
use Rattle.std.specs.Prelude as Std
use Rattle.std.proofs.Common.{sym, ap, subst, append_assoc, arith, ltb-true, take_at, drop_at}
use Prim.Native.Nat.{ℕ, zero, suc, ◌+◌, ◌-◌, ◌≤◌}
use Rattle.refusal.specs.declared.Span.{Span}
use Rattle.refusal.specs.declared.Refusal.TheVariants.{TooManyLeaves, TooDeep}
use Rattle.mode.specs.declared.Mode.{Mode}
use Rattle.lexer.specs.Lex.{check_of}
use Rattle.lexer.specs.Tokens.{Tokens, done, token, tokens_of}
use Rattle.lexer.specs.Tokens as Lexed
use Rattle.grammar.specs.declared.Leaf.{Leaf}
use Rattle.grammar.specs.declared.Node.TheVariants as K
use Rattle.grammar.specs.declared.Node.{Node}
use Rattle.grammar.specs.Parsed.{Parsed}
use Rattle.grammar.specs.declared.Before.{Before}
use Rattle.grammar.specs.declared.Start.{Start}
use Rattle.grammar.specs.declared.Start.TheVariants.{Begins, Barred, Opens, Unfit}
use Rattle.grammar.specs.declared.Link.{Link}
use Rattle.grammar.specs.declared.Link.TheVariants as N
use Rattle.grammar.specs.Tree.{Tree, just, both, either, postfix, IsTree, leaves}
use Rattle.grammar.specs.TreeLaws.{leaves_append, leaves_postfix}
use Rattle.grammar.specs.Leaves.{start_of, Tail, whole, broken, tail_of}
use Rattle.grammar.specs.Grammar.{
  Result,
  got,
  refused,
  Reader,
  pick,
  emit,
  put,
  link_of,
  and_next,
  or_next,
  close_by,
  close_at,
  close,
  end_by,
  end_at,
  end,
  tail_at,
  and_tail,
  or_tail,
  count,
  atom_by,
  atom_at,
  and_level,
  or_level,
  read,
  read_if,
  parse_of,
  blank,
  padded,
  answer_of,
}

-- the nodes p are q and then a tree's
record Grown (q p : List Node) : Type 0 where
  tree : Tree Leaf
  nodes : p ≡ q ++ postfix tree
  few : leaves p ≤ 64

-- a reader that began with the nodes q has read one tree more
abbrev Shaped : List Node → Result → Type 0
Shaped q (got p b ts) = Grown q p
Shaped q (refused r) = Unit {0}

abbrev Shapes : Reader → Type 0
Shapes level = (d : ℕ) (q : List Node) (ts : Tokens) → Shaped q (level d q ts)

shape_pick : (q : List Node) (b : Bool) (r s : Result) → (b ≡ true → Shaped q r) → Shaped q s → Shaped q (pick b r s)
shape_pick q true r s f g = f refl
shape_pick q false r s f g = g

-- the end of a parenthesis, and of the text
shape_close_by : (q p : List Node) (b : Before) (sp : Span) (ts : Tokens) → Grown q p → (k : Link) → Shaped q (close_by p b sp ts k)
shape_close_by q p b sp ts h N.And = tt
shape_close_by q p b sp ts h N.Or = tt
shape_close_by q p b sp ts h N.Close = h
shape_close_by q p b sp ts h N.Other = tt

shape_close_at : (q p : List Node) (o : Span) (b : Before) → Grown q p → (ts : Tokens) → Shaped q (close_at o p b ts)
shape_close_at q p o b h done = tt
shape_close_at q p o b h (Lexed.refused r) = tt
shape_close_at q p o b h (token t sp ts) = shape_close_by q p b sp ts h (link_of t)

shape_close : (q : List Node) (o : Span) (r : Result) → Shaped q r → Shaped q (close o r)
shape_close q o (got p b ts) h = shape_close_at q p o b h ts
shape_close q o (refused r) h = tt

shape_end_by : (q : List Node) (b : Before) (sp : Span) (k : Link) → Shaped q (end_by b sp k)
shape_end_by q b sp N.And = tt
shape_end_by q b sp N.Or = tt
shape_end_by q b sp N.Close = tt
shape_end_by q b sp N.Other = tt

shape_end_at : (q p : List Node) (b : Before) → Grown q p → (ts : Tokens) → Shaped q (end_at p b ts)
shape_end_at q p b h done = h
shape_end_at q p b h (Lexed.refused r) = tt
shape_end_at q p b h (token t sp ts) = shape_end_by q b sp (link_of t)

shape_end : (q : List Node) (r : Result) → Shaped q r → Shaped q (end r)
shape_end q (got p b ts) h = shape_end_at q p b h ts
shape_end q (refused r) h = tt

-- a leaf
shape_put : (q : List Node) → leaves q + 1 ≤ 64 → (t : Tail) → Shaped q (put q t)
shape_put q h (whole l b ts) =
    record { tree = just l; nodes = refl; few = omega (arith, leaves_append q (K.Leaf l ∷ [])) }
shape_put q h (broken r) = tt

-- an operator behind its two sides
emit_and : (q p : List Node) (r : Result) → Grown q p → Shaped p r → Shaped q (emit K.And r)
emit_and q p (refused r) h i = tt
emit_and q p (got z b ts) h i =
    record {
      tree = both h.tree i.tree;
      nodes = simp (i.nodes, h.nodes, append_assoc);
      few = omega (arith, i.few, leaves_append z (K.And ∷ []));
    }

emit_or : (q p : List Node) (r : Result) → Grown q p → Shaped p r → Shaped q (emit K.Or r)
emit_or q p (refused r) h i = tt
emit_or q p (got z b ts) h i =
    record {
      tree = either h.tree i.tree;
      nodes = simp (i.nodes, h.nodes, append_assoc);
      few = omega (arith, i.few, leaves_append z (K.Or ∷ []));
    }

shape_and : (and : Reader) → Shapes and → (d : ℕ) (q : List Node) (r : Result) → Shaped q r → Shaped q (and_tail and d r)
shape_and and g d q (refused r) h = tt
shape_and and g d q (got p b ts) h = go (and_next ts)
  where
    go : (o : Option Tokens) → Shaped q (tail_at K.And and d p b ts o)
    go None = h
    go (Some r) = emit_and q p (and d p r) h (g d p r)

shape_or : (or : Reader) → Shapes or → (d : ℕ) (q : List Node) (r : Result) → Shaped q r → Shaped q (or_tail or d r)
shape_or or g d q (refused r) h = tt
shape_or or g d q (got p b ts) h = go (or_next ts)
  where
    go : (o : Option Tokens) → Shaped q (tail_at K.Or or d p b ts o)
    go None = h
    go (Some r) = emit_or q p (or d p r) h (g d p r)

module _ (m : Mode) (e : ℕ) where
  shape_atom_by : (or : Reader) → Shapes or → (d : ℕ) (q : List Node) (sp : Span) (ts : Tokens) (x : Start)
      → Shaped q (atom_by m e or d q sp ts x)
  shape_atom_by or g d q sp ts (Begins l b) =
      shape_pick q (ltb (leaves q) 64) (put q (tail_of m e b l ts)) (refused (TooManyLeaves sp))
      (λ h. shape_put q (omega (arith, ltb-true (leaves q) 64 h)) (tail_of m e b l ts)) tt
  shape_atom_by or g d q sp ts Barred = tt
  shape_atom_by or g d q sp ts Opens =
      shape_pick q (ltb d 32) (close sp (or (d + 1) q ts)) (refused (TooDeep sp))
      (λ h. shape_close q sp (or (d + 1) q ts) (g (d + 1) q ts)) tt
  shape_atom_by or g d q sp ts Unfit = tt

  shape_atom : (or : Reader) → Shapes or → (d : ℕ) (q : List Node) (ts : Tokens) → Shaped q (atom_at m e or d q ts)
  shape_atom or g d q done = tt
  shape_atom or g d q (Lexed.refused r) = tt
  shape_atom or g d q (token t sp ts) = shape_atom_by or g d q sp ts (start_of m t sp)

  shapes : (f : ℕ) → Shapes (and_level m e f) × Shapes (or_level m e f)
  unfolding and_level
  shapes zero = ((λ d q ts. tt), (λ d q ts. tt))
  shapes (suc f) =
      let a : Shapes (and_level m e (suc f)) =
      (λ d q ts. shape_and (and_level m e f) (shapes f).0 d q (atom_at m e (or_level m e f) d q ts)
      (shape_atom (or_level m e f) (shapes f).1 d q ts)) in
      (a, (λ d q ts. shape_or (or_level m e f) (shapes f).1 d q (and_level m e (suc f) d q ts) (a d q ts)))

  shape_read : (ts : Tokens) → Shaped [] (read m e ts)
  shape_read done = tt
  shape_read (Lexed.refused r) = tt
  shape_read (token t sp ts) =
      let f = suc (count (token t sp ts)) in
      shape_end [] (or_level m e f 0 [] (token t sp ts)) ((shapes f).1 0 [] (token t sp ts))

shaped : (s : List ℕ) (m : Mode) → Shaped [] (parse_of s m)
unfolding parse_of
shaped s m = go (check_of s)
  where
    go : (c : Std.Result ⊤ Refusal) → Shaped [] (read_if m s c)
    go (Ok tt) = shape_read m (length s) (tokens_of s m 0)
    go (Err r) = tt

-- nodes behind none are a tree's
grown_tree : (q : List Node) → Grown [] q → IsTree q
grown_tree q g =
    let n = ap leaves g.nodes in
    record { tree = g.tree; nodes = g.nodes; few = omega (arith, leaves_postfix g.tree) }

-- whatever text reads, in whatever mode, reads as a tree
pub reads_tree : (s : List ℕ) (m : Mode) (q : List Node) (b : Before) (ts : Tokens) → parse_of s m ≡ got q b ts → IsTree q
reads_tree s m q b ts h = grown_tree q (subst (Shaped []) h (shaped s m))

-- an answer that was read: c nodes, which are a tree's, and blanks behind them
pub record ReadTree (c : ℕ) (ns : List Node) : Type 0 where
  pub queue : List Node
  pub tree : IsTree queue
  pub counted : c ≡ length queue
  pub filled : ns ≡ padded queue

-- so of the answer as a whole; a refused one has no node
abbrev pub Answered : Parsed → Type 0
Answered (Ok n) = ReadTree n.count n.nodes
Answered (Err r) = ⊤

-- the first c nodes of an answer that was read are a tree's
pub read_front : (c : ℕ) (ns : List Node) → ReadTree c ns → IsTree (take c ns)
read_front c ns r =
    let e : take c (padded r.queue) ≡ r.queue = take_at r.queue _ c (sym r.counted) in
    rw (r.filled, e) r.tree

-- and those behind them are blank
pub read_blank : (c : ℕ) (ns : List Node) → ReadTree c ns → drop c ns ≡ replicate (127 - c) blank
read_blank c ns r = rw (r.filled, r.counted) (drop_at r.queue _ (length r.queue) refl)

-- the answer of the reader is a tree's nodes, or a refusal
pub answer_tree : (s : List ℕ) (m : Mode) → Answered (answer_of (parse_of s m))
answer_tree s m = go (parse_of s m) (shaped s m)
  where
    go : (r : Result) → Shaped [] r → Answered (answer_of r)
    go (got q b ts) h = record { queue = q; tree = grown_tree q h; counted = refl; filled = refl }
    go (refused r) h = tt

-- so it is of an answer that is known by its contract alone
pub answered : (a : Parsed) (s : List ℕ) (m : Mode) → a ≡ answer_of (parse_of s m) → Answered a
answered a s m e = subst Answered (sym e) (answer_tree s m)
