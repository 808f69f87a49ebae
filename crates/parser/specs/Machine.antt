-- One turn of the stack reader keeps what the stack and the nodes mean, and the numbers that bound them. The proofs' machinery, nothing to
-- believe.
use Rattle.lexer.specs.declared.Got.{Got}
use Prim.Native.Nat.{ℕ, zero, suc, ◌+◌, ◌-◌, ◌≤◌, ◌<◌}
use Rattle.std.specs.Prelude.{◌≡◌, Bool, true, false, ◌||◌, length, Some, None, Ok, Err, Option}
use Rattle.std.proofs.Math.Path.{refl, sym, ap, subst}
use Rattle.std.proofs.Common.{◌∙◌, true≢false}
use Rattle.std.proofs.Math.Bool.{cond}
use Rattle.std.proofs.lemmas.Bool.{false≢true}
use mathlib.Core.List.{List, [], ◌∷◌, ◌++◌}
use native.Mathlib.Omega.{arith}
use borrow.Author.Tests.{ltb-true, leb-true}
use Rattle.std.proofs.Math.ListN.{set}
use Rattle.std.proofs.Math.Dec.{ltb}
use Rattle.text.specs.Tests.{neither, cond_true, by_cond}
use Rattle.refusal.specs.Refused.{span}
use Rattle.refusal.specs.declared.Span.{Span}
use Rattle.refusal.specs.declared.Expected.TheVariants as E
use Rattle.refusal.specs.declared.Refusal.{Refusal}
use Rattle.refusal.specs.declared.Refusal.TheVariants.{Unexpected, DeprecatedLicenseId, TooManyLeaves, TooDeep}
use Rattle.mode.specs.declared.Mode.{Mode}
use Rattle.lexer.specs.declared.Token.{Token}
use Rattle.lexer.specs.declared.Cursor.{Cursor}
use Rattle.lexer.specs.Tokens.{Tokens, done, token, and_then}
use Rattle.lexer.specs.Tokens as Lexed
use Rattle.grammar.specs.declared.Node.TheVariants as K
use Rattle.grammar.specs.declared.Node.{Node}
use Rattle.grammar.specs.declared.Leaf.{Leaf}
use Rattle.grammar.specs.declared.Before.{Before}
use Rattle.grammar.specs.declared.Before.TheVariants.{Nothing, Joint, Listed, Term, Suffixed, With, Added, Closed}
use Rattle.grammar.specs.declared.Start.{Start}
use Rattle.grammar.specs.declared.Start.TheVariants.{Begins, Barred, Opens, Unfit}
use Rattle.grammar.specs.Move.{Move}
use Rattle.grammar.specs.declared.Link.{Link}
use Rattle.grammar.specs.declared.Link.TheVariants as N
use Rattle.parser.specs.declared.State.{State}
use Rattle.parser.specs.declared.Action.TheVariants.{Put, Push, Go, Done}
use Rattle.grammar.specs.Tree.{is_leaf, leaves}
use Rattle.grammar.specs.Leaves.{is_with, start_of, move_of, tail_of}
use Rattle.grammar.specs.Grammar.{
  Result,
  got,
  refused,
  pick,
  unexpected,
  put,
  link_of,
  and_by,
  and_next,
  or_by,
  or_next,
  end_by,
  close,
  count,
  atom_by,
  or_level,
  padded,
}
use Rattle.parser.specs.declared.Frame as D
use Rattle.parser.specs.declared.Frame.TheVariants as F
use Rattle.parser.specs.Turn.{
  Turned,
  is_expecting,
  state,
  leaf_action,
  open_action,
  start_action,
  push_action,
  close_action,
  link_action,
  put_action,
  move_action,
  token_action,
  finish_action,
  end_action,
  turn_of,
  rank_by,
  rank_after,
  rank_of,
  pops_of,
  kind_of,
}
use Rattle.parser.specs.Zipper.{
  Frame,
  and,
  or,
  opened,
  opens,
  one,
  bad_token,
  NoAnd,
  expect,
  after,
  atom_refused,
  pop_and,
  pop_or,
  shut,
  unclosed,
  at_bottom,
  push_and,
  bad_after,
  begun,
  opening,
  no_operand,
  push_or,
}
use Rattle.parser.specs.Queue.{leaves_le, leaves_one, length_one, pad_store, pad_again}
use Rattle.parser.specs.Meaning.{frame_of, framed, top_of, below, opens_le, frame_open, Holds, nodes_of, nodes_holds, owed, owed_holds, Begun, Wide, start_begun, Ranked, move_ranked, Says, rank_says, ranked_ends, rank_not, mean, mean_holds, expecting, mean_refused, mean_done, mean_ends, mean_goes, mean_fails}

-- the numbers of a state, with the frames s and the nodes q, in a text of e bytes
pub record Good (e : ℕ) (st : State) (s : List Frame) (q : List Node) : Type 0 where
  pub place : st.at ≤ e
  pub nodes : st.count ≡ length q
  pub size : st.sp ≡ length s
  pub leaf : st.leaves ≡ leaves q
  pub opened : st.opens ≡ opens s
  pub balance : st.sp + st.count + owed st.before ≡ st.leaves + st.leaves + st.opens
  pub most : st.leaves ≤ 64
  pub deep : st.opens ≤ 32

-- what a step's token has: it goes ahead, ends inside the text, where the next cursor stands, and a `(` is one byte
abbrev pub Onward : ℕ → ℕ → Option Got → Type 0
Onward e at (Some g) = (at < g.span.end) × (g.span.end ≤ e) × (g.next.at ≡ g.span.end) × Wide g.token g.span
Onward e at None = Unit {0}

-- the state where the operator on top has become a node
abbrev pub popped : State → State
popped st = state st.at (st.sp - 1) (st.count + 1) st.leaves st.opens st.before

-- how high the stack and the nodes may be
pub good_sizes : {e : ℕ} {st : State} {s : List Frame} {q : List Node} → Good e st s q → (st.sp < 97) × (st.count ≤ 128)
good_sizes {st = st} {s} {q} g =
    let l : leaves q ≤ length q = leaves_le q in
    let o : opens s ≤ length s = opens_le s in
    (omega arith, omega arith)

-- the text is read as r, of tokens that `go` gives from a place on
module _ (m : Mode) (e n : ℕ) (r : Result) (go : ℕ → Tokens) where
  -- before a turn: the stack cs, the nodes q before the leaf l, the state
  pub record Stands (cs : List D.Frame) (q : List Node) (l : Leaf) (st : State) : Type 0 where
    pub good : Good e st (framed cs) (nodes_of st.before q l)
    pub means : r ≡ mean m e n st.before (framed cs) q l (go st.at)
    pub few : count (go st.at) ≤ n

  -- at a token that ends no operator
  pub record Held (b : Before) (s : List Frame) (q : List Node) (l : Leaf) (ts : Tokens) : Type 0 where
    pub base : List Node
    pub same : q ≡ nodes_of b base l
    pub means : r ≡ mean m e n b s base l ts

  -- at a token of the rank k
  abbrev pub Waits : ℕ → Before → List Frame → List Node → Leaf → Tokens → Type 0
  Waits zero b s q l ts = Held b s q l ts
  Waits (suc k) b s q l ts = r ≡ after m e n s q b ts

  -- within a turn, where the step x has been taken and has the rank k: all nodes are q
  pub record Ready (cs : List D.Frame) (q : List Node) (l : Leaf) (st : State) (x : Option Got) (k : ℕ) : Type 0 where
    pub good : Good e st (framed cs) q
    pub waits : Waits k st.before (framed cs) q l (and_then (Ok x) go)
    pub few : count (and_then (Ok x) go) ≤ n

  -- a token that ends an operator is none of the leaf's
  settle : (x : Option Got) (b : Before) (s : List Frame) (q : List Node) (l : Leaf) (k : ℕ) → 0 < k → k ≡ rank_of x b
      → mean m e n b s q l (and_then (Ok x) go) ≡ after m e n s (nodes_of b q l) b (and_then (Ok x) go)
  unfolding rank_of
  settle (Some g) b s q l k p h =
      let y = neither (is_expecting b) (is_with b) (rank_not (is_expecting b || is_with b) (rank_by (link_of g.token)) k p h) in
      mean_ends m e n s q l g.token g.span (go g.next.at) b y.0
      (ranked_ends (move_of m b l g.token g.span) (rank_of (Some g) b) (rank_by (link_of g.token)) (move_ranked m b l g.token g.span g.next y.0) (omega arith))
  settle None b s q l k p h =
      let y = neither (is_expecting b) (is_with b) (rank_not (is_expecting b || is_with b) 2 k p h) in
      mean_done m e n b s q l y.0 y.1

  waits_of : (x : Option Got) (b : Before) (s : List Frame) (q : List Node) (l : Leaf) (k : ℕ) → k ≡ rank_of x b
      → r ≡ mean m e n b s q l (and_then (Ok x) go) → Waits k b s (nodes_of b q l) l (and_then (Ok x) go)
  waits_of x b s q l zero h i = record { base = q; same = refl; means = i }
  waits_of x b s q l (suc k) h i = i ∙ settle x b s q l (suc k) (omega arith) h

  -- the step is taken
  pub ready : (cs : List D.Frame) (q : List Node) (l : Leaf) (st : State) (x : Option Got) (k : ℕ) → go st.at ≡ and_then (Ok x) go
      → k ≡ rank_of x st.before → Stands cs q l st → Ready cs (nodes_of st.before q l) l st x k
  ready cs q l st x k w h i = record {
    good = i.good;
    waits = waits_of x st.before (framed cs) q l k h (i.means ∙ ap (mean m e n st.before (framed cs) q l) w);
    few = subst (λ (ts : Tokens). count ts ≤ n) w i.few;
  }

  -- the operator on top becomes a node
  pub record Pops (cs : List D.Frame) (q : List Node) (l : Leaf) (st : State) (x : Option Got) (k : ℕ) : Type 0 where
    pub ready : Ready (below cs) (q ++ one (kind_of (top_of cs))) l (popped st) x k
    pub some : 0 < st.sp
    pub room : st.count < 127

  module _ (at h c lv op : ℕ) (b : Before) (l : Leaf) (q : List Node) where
    abbrev now : State
    now = state at h c lv op b

    good_pop : (f : Frame) (s : List Frame) (k : Node) → Good e now (f ∷ s) q → opens (f ∷ s) ≡ opens s → is_leaf k 0 ≡ 0
        → Good e (popped now) s (q ++ one k)
    good_pop f s k g o z = record {
      place = g.place;
      nodes = omega (arith, g.nodes, length_one q k);
      size = omega (arith, g.size);
      leaf = omega (arith, g.leaf, leaves_one q k, z);
      opened = g.opened ∙ o;
      balance = omega (arith, g.balance, g.size);
      most = g.most;
      deep = g.deep;
    }

    room_pop : (f : Frame) (s : List Frame) → Good e now (f ∷ s) q → opens (f ∷ s) ≡ opens s → owed b ≡ 1 → c < 127
    room_pop f s g o z = omega (arith, g.balance, g.size, g.opened, o, opens_le s, g.most, z)

    -- the token has a rank, so an operand has ended
    ended : (x : Option Got) (k : ℕ) → 0 < k → k ≡ rank_of x b → owed b ≡ 1
    unfolding rank_of
    ended x k p z =
        ap (λ (y : Bool). cond y 0 1) (neither (is_expecting b) (is_with b) (rank_not (is_expecting b || is_with b) (rank_after x) k p z)).0

    pops_by : (f : Frame) (cs : List D.Frame) (i : D.Frame) (k : Node) (x : Option Got) (j : ℕ) → frame_of i ≡ f → kind_of i ≡ k
        → opens (f ∷ framed cs) ≡ opens (framed cs) → is_leaf k 0 ≡ 0 → j ≡ rank_of x b → 0 < j → Ready (i ∷ cs) q l now x j
        → (after m e n (f ∷ framed cs) q b (and_then (Ok x) go) ≡ after m e n (framed cs) (q ++ one k) b (and_then (Ok x) go))
        → Pops (i ∷ cs) q l now x j
    pops_by f cs i k x zero u v o z y p g a = absurd (omega arith)
    pops_by f cs i k x (suc j) u v o z y p g a =
        let d : Good e now (f ∷ framed cs) q = subst (λ (w : Frame). Good e now (w ∷ framed cs) q) u g.good in
        record {
          ready = record {
            good = subst (λ (w : Node). Good e (popped now) (framed cs) (q ++ one w)) (sym v) (good_pop f (framed cs) k d o z);
            waits = g.waits ∙ ap (λ (w : Frame). after m e n (w ∷ framed cs) q b (and_then (Ok x) go)) u ∙ a
                ∙ ap (λ (w : Node). after m e n (framed cs) (q ++ one w) b (and_then (Ok x) go)) (sym v);
            few = g.few;
          };
          some = omega (arith, d.size);
          room = room_pop f (framed cs) d o (ended x (suc j) p y);
        }

    pops_at : (cs : List D.Frame) (x : Option Got) (k : ℕ) → k ≡ rank_of x b → Says k (and_next (and_then (Ok x) go)) (or_next (and_then (Ok x) go))
        → pops_of (top_of cs) k ≡ true → Ready cs q l now x k → Pops cs q l now x k
    pops_at [] x k y i p g = absurd (false≢true p)
    pops_at (F.Bottom ∷ cs) x k y i p g = absurd (false≢true p)
    pops_at (F.And ∷ cs) x k y i p g =
        let u : 0 < k = omega (arith, leb-true 1 k p) in
        pops_by and cs F.And K.And x k refl refl refl refl y u g (pop_and m e n (framed cs) q b (and_then (Ok x) go) (i.no_and u))
    pops_at (F.Or ∷ cs) x k y i p g =
        let u : 1 < k = omega (arith, leb-true 2 k p) in
        pops_by or cs F.Or K.Or x k refl refl refl refl y (omega arith) g
        (pop_or m e n (framed cs) q b (and_then (Ok x) go) (i.no_and (omega arith)) (i.no_or u))
    pops_at (F.Open o ∷ cs) x k y i p g = absurd (false≢true p)

  pub pops : (cs : List D.Frame) (q : List Node) (l : Leaf) (st : State) (x : Option Got) (k : ℕ) → k ≡ rank_of x st.before
      → pops_of (top_of cs) k ≡ true → Ready cs q l st x k → Pops cs q l st x k
  pops cs q l st x k y p g =
      pops_at st.at st.sp st.count st.leaves st.opens st.before l q cs x k y
      (subst (λ (j : ℕ). Says j (and_next (and_then (Ok x) go)) (or_next (and_then (Ok x) go))) (sym y) (rank_says x st.before go)) p g

  -- what a turn from the state st, with the stack cs, the nodes q and the leaf l, may do: the last leaf is this
  pub record Puts (st : State) (cs : List D.Frame) (q : List Node) (l : Leaf) (nx : State) : Type 0 where
    pub base : List Node
    pub stands : Stands cs base l nx
    pub stored : set (padded q) (nx.count - 1) (K.Leaf l) ≡ padded (nodes_of nx.before base l)
    pub ahead : st.at < nx.at
    pub level : nx.sp ≡ st.sp
    pub some : 0 < nx.count
    pub room : nx.count - 1 < 127

  -- the frame i goes on the stack
  pub record Pushes (st : State) (cs : List D.Frame) (q : List Node) (l : Leaf) (i : D.Frame) (nx : State) : Type 0 where
    pub stands : Stands (i ∷ cs) q l nx
    pub kept : nodes_of nx.before q l ≡ q
    pub ahead : st.at < nx.at
    pub level : nx.sp ≡ st.sp + 1
    pub room : nx.sp < 97

  -- the open parenthesis on top goes
  pub record Shuts (st : State) (cs : List D.Frame) (q : List Node) (l : Leaf) (nx : State) : Type 0 where
    pub stands : Stands (below cs) q l nx
    pub kept : nodes_of nx.before q l ≡ q
    pub ahead : st.at < nx.at
    pub level : suc nx.sp ≡ st.sp

  abbrev pub Right : State → List D.Frame → List Node → Leaf → Turned → Type 0
  Right st cs q l (Ok (Put k nx)) = Puts st cs q k nx
  Right st cs q l (Ok (Push i nx)) = Pushes st cs q l i nx
  Right st cs q l (Ok (Go nx)) = Shuts st cs q l nx
  Right st cs q l (Ok Done) = r ≡ got q st.before done
  Right st cs q l (Err f) = r ≡ refused f

  module _ (at h c lv op : ℕ) (b : Before) (l : Leaf) (q : List Node) where
    abbrev here : State
    here = state at h c lv op b

    module _ (t : Token) (sp : Span) (ahead : at < sp.end) (inside : sp.end ≤ e) (few : suc (count (go sp.end)) ≤ n) where
      abbrev rest : Tokens
      rest = go sp.end

      -- a leaf begins
      right_put : (cs : List D.Frame) → is_expecting b ≡ true → Good e here (framed cs) q → r ≡ expect m e n (framed cs) q (token t sp rest)
          → (k : Leaf) (d : Before) → start_of m t sp ≡ Begins k d → Holds d → Right here cs q l (leaf_action k d sp here)
      unfolding leaf_action
      right_put cs x g i k d w z =
          by_cond (Right here cs q l) (ltb lv 64) _ _
          (λ u. let o : owed b ≡ 0 = ap (λ (y : Bool). cond y 0 1) x in
          let v : c < 127 = omega (arith, g.balance, ltb-true lv 64 u, g.opened, opens_le (framed cs), g.size) in
          record {
            base = q;
            stands = record {
              good = subst (Good e (state sp.end h (c + 1) (lv + 1) op d) (framed cs)) (sym (nodes_holds d q k z)) (record {
                place = inside;
                nodes = omega (arith, g.nodes, length_one q (K.Leaf k));
                size = g.size;
                leaf = omega (arith, g.leaf, leaves_one q (K.Leaf k));
                opened = g.opened;
                balance = omega (arith, g.balance, o, owed_holds d z);
                most = omega (arith, ltb-true lv 64 u);
                deep = g.deep;
              });
              means = i ∙ begun m e n (framed cs) q t sp rest k d few w (ap (λ (y : ℕ). ltb y 64) (sym g.leaf) ∙ u)
                  ∙ sym (mean_holds m e n d (framed cs) q k rest z);
              few = omega arith;
            };
            stored =
                ap (λ (y : ℕ). set (padded q) y (K.Leaf k)) (let y : c + 1 - 1 ≡ c = omega arith in y)
                ∙ pad_store q c (K.Leaf k) g.nodes v
                ∙ ap padded (sym (nodes_holds d q k z));
            ahead = ahead;
            level = refl;
            some = omega arith;
            room = omega arith;
          })
          (λ u. i ∙ no_operand m e n (framed cs) q (token t sp rest) (TooManyLeaves sp) few
          (ap (atom_by m e (or_level m e (suc n)) (opens (framed cs)) q sp rest) w
          ∙ ap (λ (y : Bool). pick y (put q (tail_of m e d k rest)) (refused (TooManyLeaves sp)))
          (ap (λ (y : ℕ). ltb y 64) (sym g.leaf) ∙ u)))

      -- a parenthesis opens
      right_open : (cs : List D.Frame) → is_expecting b ≡ true → Good e here (framed cs) q → r ≡ expect m e n (framed cs) q (token t sp rest)
          → start_of m t sp ≡ Opens → sp.end ≡ sp.start + 1 → Right here cs q l (open_action sp here)
      unfolding open_action
      right_open cs x g i w z =
          by_cond (Right here cs q l) (ltb op 32) _ _
          (λ u. let o : owed b ≡ 0 = ap (λ (y : Bool). cond y 0 1) x in
          let f : opened sp ≡ frame_of (F.Open sp.start) = sym (frame_open sp z) in
          record {
            stands = record {
              good = subst (λ (y : Frame). Good e (state sp.end (h + 1) c lv (op + 1) Joint) (y ∷ framed cs) q) f (record {
                place = inside;
                nodes = g.nodes;
                size = omega (arith, g.size);
                leaf = g.leaf;
                opened = omega (arith, g.opened);
                balance = omega (arith, g.balance, o);
                most = g.most;
                deep = omega (arith, ltb-true op 32 u);
              });
              means = i ∙ opening m e n (framed cs) q t sp rest few w (ap (λ (y : ℕ). ltb y 32) (sym g.opened) ∙ u)
                  ∙ ap (λ (y : Frame). expect m e n (y ∷ framed cs) q rest) f;
              few = omega arith;
            };
            kept = refl;
            ahead = ahead;
            level = refl;
            room = omega (arith, g.balance, o, ltb-true op 32 u, g.leaf, g.nodes, leaves_le q, g.most);
          })
          (λ u. i ∙ no_operand m e n (framed cs) q (token t sp rest) (TooDeep sp) few
          (ap (atom_by m e (or_level m e (suc n)) (opens (framed cs)) q sp rest) w
          ∙ ap (λ (y : Bool). pick y (close sp (or_level m e (suc n) (opens (framed cs) + 1) q rest)) (refused (TooDeep sp)))
          (ap (λ (y : ℕ). ltb y 32) (sym g.opened) ∙ u)))

      -- an operand is expected
      right_start : (cs : List D.Frame) → is_expecting b ≡ true → Good e here (framed cs) q → r ≡ expect m e n (framed cs) q (token t sp rest)
          → (x : Start) → start_of m t sp ≡ x → Begun sp x → Right here cs q l (start_action x sp here)
      right_start cs x g i (Begins k d) w z = right_put cs x g i k d w z
      right_start cs x g i Barred w z =
          i ∙ no_operand m e n (framed cs) q (token t sp rest) (DeprecatedLicenseId sp) few
          (ap (atom_by m e (or_level m e (suc n)) (opens (framed cs)) q sp rest) w)
      right_start cs x g i Opens w z = right_open cs x g i w z
      right_start cs x g i Unfit w z =
          i ∙ no_operand m e n (framed cs) q (token t sp rest) (Unexpected sp E.Term) few
          (ap (atom_by m e (or_level m e (suc n)) (opens (framed cs)) q sp rest) w)

      -- an operator goes on the stack
      right_push : (cs : List D.Frame) (i : D.Frame) → is_expecting b ≡ false → Good e here (framed cs) q → opens (framed (i ∷ cs)) ≡ opens (framed cs)
          → r ≡ expect m e n (framed (i ∷ cs)) q rest → Right here cs q l (push_action i sp here)
      right_push cs i x g o a =
          let y : owed b ≡ 1 = ap (λ (y : Bool). cond y 0 1) x in
          record {
            stands = record {
              good = record {
                place = inside;
                nodes = g.nodes;
                size = omega (arith, g.size);
                leaf = g.leaf;
                opened = g.opened ∙ sym o;
                balance = omega (arith, g.balance, y);
                most = g.most;
                deep = g.deep;
              };
              means = a;
              few = omega arith;
            };
            kept = refl;
            ahead = ahead;
            level = refl;
            room = omega (arith, g.balance, y, g.leaf, g.nodes, leaves_le q, g.most, g.deep);
          }

      no_and : (cs : List D.Frame) → pops_of (top_of cs) 1 ≡ false → NoAnd (framed cs)
      no_and [] p = tt
      no_and (F.Bottom ∷ cs) p = tt
      no_and (F.And ∷ cs) p = absurd (true≢false p)
      no_and (F.Or ∷ cs) p = tt
      no_and (F.Open o ∷ cs) p = tt

      -- a `)`
      right_close : (cs : List D.Frame) → is_expecting b ≡ false → Good e here (framed cs) q → r ≡ after m e n (framed cs) q b (token t sp rest)
          → link_of t ≡ N.Close → pops_of (top_of cs) 2 ≡ false → Right here cs q l (close_action sp here (top_of cs))
      right_close [] x g i w p =
          i ∙ (at_bottom m e n q b (token t sp rest) (ap (λ (k : Link). and_by k rest) w) (ap (λ (k : Link). or_by k rest) w)).0
          ∙ ap (end_by b sp) w
      right_close (F.Bottom ∷ cs) x g i w p =
          i ∙ (at_bottom m e n q b (token t sp rest) (ap (λ (k : Link). and_by k rest) w) (ap (λ (k : Link). or_by k rest) w)).1 (framed cs)
          ∙ ap (end_by b sp) w
      right_close (F.And ∷ cs) x g i w p = absurd (true≢false p)
      right_close (F.Or ∷ cs) x g i w p = absurd (true≢false p)
      right_close (F.Open o ∷ cs) x g i w p =
          let y : owed b ≡ 1 = ap (λ (y : Bool). cond y 0 1) x in
          record {
            stands = record {
              good = record {
                place = inside;
                nodes = g.nodes;
                size = omega (arith, g.size);
                leaf = g.leaf;
                opened = omega (arith, g.opened);
                balance = omega (arith, g.balance, g.size, g.opened, y);
                most = g.most;
                deep = omega (arith, g.deep);
              };
              means = i ∙ shut m e n (framed cs) (span o (o + 1)) q b t sp rest w;
              few = omega arith;
            };
            kept = refl;
            ahead = ahead;
            level = omega (arith, g.size);
          }

      -- an operand has ended, and the token is none of a leaf's
      right_link : (cs : List D.Frame) → is_expecting b ≡ false → Good e here (framed cs) q → r ≡ after m e n (framed cs) q b (token t sp rest)
          → (k : Link) → link_of t ≡ k → pops_of (top_of cs) (rank_by k) ≡ false → Right here cs q l (link_action k sp here (top_of cs))
      right_link cs x g i N.And w p = right_push cs F.And x g refl (i ∙ push_and m e n (framed cs) q b t sp rest w)
      right_link cs x g i N.Or w p = right_push cs F.Or x g refl (i ∙ push_or m e n (framed cs) (no_and cs p) q b t sp rest few w)
      right_link cs x g i N.Close w p = right_close cs x g i w p
      right_link cs x g i N.Other w p =
          i ∙ bad_after m e n (framed cs) q b (token t sp rest) (unexpected sp b) (bad_token b t sp rest w)

      -- one more token of the leaf
      right_goes : (cs : List D.Frame) → is_expecting b ≡ false → Good e here (framed cs) q → Held b (framed cs) q l (token t sp rest)
          → (k : Leaf) (d : Before) → move_of m b l t sp ≡ Ok (Some (k, d)) → Holds d → Right here cs q l (put_action k d sp here)
      right_goes cs x g i k d w z =
          let f = i.base in
          let v = mean_goes m e n (framed cs) f l t sp rest b d k x w in
          let u : q ≡ f ++ one (K.Leaf l) = i.same ∙ v.1 in
          let y : owed b ≡ 1 = ap (λ (y : Bool). cond y 0 1) x in
          let a : c ≡ length f + 1 = g.nodes ∙ ap length u ∙ length_one f (K.Leaf l) in
          record {
            base = f;
            stands = record {
              good = subst (Good e (state sp.end h c lv op d) (framed cs)) (sym (nodes_holds d f k z)) (record {
                place = inside;
                nodes = a ∙ sym (length_one f (K.Leaf k));
                size = g.size;
                leaf = g.leaf ∙ ap leaves u ∙ leaves_one f (K.Leaf l) ∙ sym (leaves_one f (K.Leaf k));
                opened = g.opened;
                balance = omega (arith, g.balance, y, owed_holds d z);
                most = g.most;
                deep = g.deep;
              });
              means = i.means ∙ v.0 ∙ sym (mean_holds m e n d (framed cs) f k rest z);
              few = omega arith;
            };
            stored =
                ap (λ (o : List Node). set (padded o) (c - 1) (K.Leaf k)) u
                ∙ pad_again f (c - 1) (K.Leaf l) (K.Leaf k) (omega arith)
                ∙ ap padded (sym (nodes_holds d f k z));
            ahead = ahead;
            level = refl;
            some = omega arith;
            room = omega (arith, g.balance, y, g.opened, opens_le (framed cs), g.size, g.most);
          }

      settled : (cs : List D.Frame) (k : ℕ) → is_expecting b ≡ false → move_of m b l t sp ≡ (Ok None) → Waits k b (framed cs) q l (token t sp rest)
          → r ≡ after m e n (framed cs) q b (token t sp rest)
      settled cs zero x w i =
          i.means ∙ mean_ends m e n (framed cs) i.base l t sp rest b x w
          ∙ ap (λ (y : List Node). after m e n (framed cs) y b (token t sp rest)) (sym i.same)
      settled cs (suc k) x w i = i

      -- an operand has ended
      right_move : (cs : List D.Frame) (k : ℕ) → is_expecting b ≡ false → Good e here (framed cs) q → Waits k b (framed cs) q l (token t sp rest)
          → pops_of (top_of cs) k ≡ false → (x : Move) → move_of m b l t sp ≡ x → Ranked k (rank_by (link_of t)) x
          → Right here cs q l (move_action x t sp here (top_of cs))
      right_move cs k x g i p (Ok (Some (f, d))) w z =
          right_goes cs x g (subst (λ (y : ℕ). Waits y b (framed cs) q l (token t sp rest)) z.1 i) f d w z.0
      right_move cs k x g i p (Ok None) w z =
          right_link cs x g (settled cs k x w i) (link_of t) refl (subst (λ (y : ℕ). pops_of (top_of cs) y ≡ false) z p)
      right_move cs k x g i p (Err f) w z =
          let a : Held b (framed cs) q l (token t sp rest) = subst (λ (y : ℕ). Waits y b (framed cs) q l (token t sp rest)) z i in
          a.means ∙ mean_fails m e n (framed cs) a.base l t sp rest b f x w

      -- an operand is expected, and no operator has ended
      right_first : (cs : List D.Frame) → is_expecting b ≡ true → Good e here (framed cs) q → Held b (framed cs) q l (token t sp rest) → Wide t sp
          → Right here cs q l (start_action (start_of m t sp) sp here)
      right_first cs x g i v =
          let a = expecting m e n (framed cs) i.base l t sp rest b x in
          right_start cs x g (i.means ∙ a.1 ∙ ap (λ (y : List Node). expect m e n (framed cs) y (token t sp rest)) (sym (i.same ∙ a.0)))
          (start_of m t sp) refl (start_begun m t sp v)

      right_token : (cs : List D.Frame) (k : ℕ) (nx : Cursor) → k ≡ rank_of (Some record { token = t; span = sp; next = nx }) b → Good e here (framed cs) q
          → Waits k b (framed cs) q l (token t sp rest) → pops_of (top_of cs) k ≡ false → Wide t sp
          → Right here cs q l (token_action m t sp l here (top_of cs))
      unfolding token_action rank_of
      right_token cs k nx y g i p v =
          by_cond (Right here cs q l) (is_expecting b) _ _
          (λ x. right_first cs x g
          (subst (λ (j : ℕ). Waits j b (framed cs) q l (token t sp rest))
          (y ∙ cond_true (is_expecting b || is_with b) 0 (rank_by (link_of t)) (rw x)) i) v)
          (λ x. right_move cs k x g i p (move_of m b l t sp) refl
          (subst (λ (j : ℕ). Ranked j (rank_by (link_of t)) (move_of m b l t sp)) (sym y) (move_ranked m b l t sp nx x)))

  module _ (at h c lv op : ℕ) (l : Leaf) (q : List Node) where
    -- the end of the text, where an operand has ended
    finish : (b : Before) (cs : List D.Frame) → r ≡ after m e n (framed cs) q b done → pops_of (top_of cs) 2 ≡ false
        → Right (state at h c lv op b) cs q l (finish_action (top_of cs))
    finish b [] i p = i ∙ (at_bottom m e n q b done refl refl).0
    finish b (F.Bottom ∷ cs) i p = i ∙ (at_bottom m e n q b done refl refl).1 (framed cs)
    finish b (F.And ∷ cs) i p = absurd (true≢false p)
    finish b (F.Or ∷ cs) i p = absurd (true≢false p)
    finish b (F.Open o ∷ cs) i p = i ∙ unclosed m e n (framed cs) (span o (o + 1)) q b

    abbrev Ending : Before → List D.Frame → ℕ → Type 0
    Ending b cs k = Waits k b (framed cs) q l done × (pops_of (top_of cs) k ≡ false)

    right_finish : (b : Before) (cs : List D.Frame) (k : ℕ) → k ≡ 2 → Ending b cs k
        → Right (state at h c lv op b) cs q l (finish_action (top_of cs))
    right_finish b cs k y i = let z : Ending b cs 2 = subst (Ending b cs) y i in finish b cs z.0 z.1

    -- the end of the text
    right_end : (b : Before) (cs : List D.Frame) (k : ℕ) → k ≡ rank_of None b → Ending b cs k
        → Right (state at h c lv op b) cs q l (end_action e b (top_of cs))
    unfolding rank_of tail_of
    right_end Nothing cs k y i = let z : Ending Nothing cs 0 = subst (Ending Nothing cs) y i in z.0.means
    right_end Joint cs k y i =
        let z : Ending Joint cs 0 = subst (Ending Joint cs) y i in
        z.0.means ∙ no_operand m e n (framed cs) z.0.base done (Unexpected (span e e) E.Term) (omega arith) refl
    right_end (Listed j) cs k y i = right_finish (Listed j) cs k y i
    right_end Term cs k y i = right_finish Term cs k y i
    right_end Suffixed cs k y i = right_finish Suffixed cs k y i
    right_end With cs k y i =
        let z : Ending With cs 0 = subst (Ending With cs) y i in
        z.0.means ∙ atom_refused m e n (framed cs) (Unexpected (span e e) E.Addition)
    right_end Added cs k y i = right_finish Added cs k y i
    right_end Closed cs k y i = right_finish Closed cs k y i

  -- the turn, of a step that goes ahead, where the top is no operator that ends
  pub right : (cs : List D.Frame) (q : List Node) (l : Leaf) (st : State) (x : Option Got) (k : ℕ) → k ≡ rank_of x st.before → Onward e st.at x
      → pops_of (top_of cs) k ≡ false → Ready cs q l st x k → Right st cs q l (turn_of m x e l st (top_of cs))
  unfolding rank_of
  right cs q l st (Some w) k y o p g =
      let u : token w.token w.span (go w.next.at) ≡ token w.token w.span (go w.span.end) = ap (λ (i : ℕ). token w.token w.span (go i)) o.2 in
      right_token st.at st.sp st.count st.leaves st.opens st.before l q w.token w.span o.0 o.1
      (subst (λ (ts : Tokens). count ts ≤ n) u g.few) cs k w.next y g.good
      (subst (Waits k st.before (framed cs) q l) u g.waits) p o.3
  right cs q l st None k y o p g =
      right_end st.at st.sp st.count st.leaves st.opens l q st.before cs k y (g.waits, p)

  -- a refusal of the lexer is the reader's
  pub right_refused : (cs : List D.Frame) (q : List Node) (l : Leaf) (st : State) (f : Refusal) → go st.at ≡ Lexed.refused f
      → Stands cs q l st → r ≡ refused f
  right_refused cs q l st f w i =
      i.means ∙ ap (mean m e n st.before (framed cs) q l) w ∙ mean_refused m e n st.before (framed cs) q l f
