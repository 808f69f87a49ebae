-- The arrays of the stack reader: what they hold, and what a turn's stores make of that. The proofs' machinery, nothing to believe.
use Rattle.lexer.specs.declared.Got.{Got}
use Rattle.lexer.specs.Step.{Step}
use Rattle.std.specs.Prelude.{ℕ, zero, suc, ◌-◌, ◌≤◌, ◌<◌, ◌≡◌, refl, Bool, true, false, List, [], ◌∷◌, ◌++◌, length, get_or, set, replicate, Option, Ok, Err}
use Rattle.std.proofs.Common.{sym, ap, subst, ◌∙◌, arith, length-set, get_or-set_same, get_or-set_other}
use Rattle.std.proofs.lemmas.List.{length-replicate}
use Rattle.refusal.specs.declared.Refusal.{Refusal}
use Rattle.mode.specs.declared.Mode.{Mode}
use Rattle.lexer.specs.Lex.{scan_of, check_of}
use Rattle.lexer.proofs.Agree.{fine_short}
use Rattle.lexer.specs.Tokens.{Tokens, done, token, and_then, tokens_of}
use Rattle.lexer.specs.Tokens as Lexed
use Rattle.lexer.proofs.TokensLaws.{tokens_step}
use Rattle.grammar.specs.declared.Node.TheVariants as K
use Rattle.grammar.specs.declared.Node.{Node}
use Rattle.grammar.specs.declared.Leaf.{Leaf}
use Rattle.grammar.specs.Parsed.{Parsed}
use Rattle.grammar.specs.declared.Before.TheVariants.{Nothing}
use Rattle.parser.specs.declared.State.{State}
use Rattle.parser.specs.declared.Action.TheVariants.{Put, Push, Go, Done}
use Rattle.grammar.specs.Grammar.{Result, count, read, blank, padded, answer_of}
use Rattle.parser.specs.declared.Frame as D
use Rattle.parser.specs.declared.Frame.TheVariants as F
use Rattle.parser.specs.Bounds.{scan_small, scan_onward}
use Rattle.parser.specs.Turn.{SmallStep, Turned, state, rank_of, pops_of, kind_of, turn_of}
use Rattle.parser.specs.Zipper.{one, begin, no_operand}
use Rattle.parser.specs.Queue.{pad_store}
use Rattle.parser.specs.Meaning.{top_of, below, nodes_of, firstly}
use Rattle.parser.specs.Machine.{popped, good_sizes, Stands, Ready, ready, Pops, pops, Right, right, right_refused}

-- the frames of a stack whose top is at n, the top first; the slot 0 is no frame
abbrev pub frames_of : List D.Frame → ℕ → List D.Frame
frames_of l zero = []
frames_of l (suc n) = get_or l (suc n) F.Bottom ∷ frames_of l n

-- a store past the top changes no frame
frames_set : (l : List D.Frame) (n i : ℕ) (v : D.Frame) → n < i → frames_of (set l i v) n ≡ frames_of l n
frames_set l zero i v h = refl
frames_set l (suc n) i v h =
    ap (λ (x : D.Frame). x ∷ frames_of (set l i v) n) (get_or-set_other l i (suc n) v F.Bottom (omega arith))
    ∙ ap {B = List D.Frame} (λ (x : List D.Frame). get_or l (suc n) F.Bottom ∷ x) (frames_set l n i v (omega arith))

frames_push : (l : List D.Frame) (n i : ℕ) (v : D.Frame) → i ≡ suc n → i < length l → frames_of (set l i v) i ≡ v ∷ frames_of l n
frames_push l n i v e h =
    ap (frames_of (set l i v)) e
    ∙ ap (λ (x : ℕ). get_or (set l i v) x F.Bottom ∷ frames_of (set l i v) n) (sym e)
    ∙ ap (λ (x : D.Frame). x ∷ frames_of (set l i v) n) (get_or-set_same l i v F.Bottom h)
    ∙ ap {B = List D.Frame} (λ (x : List D.Frame). v ∷ x) (frames_set l n i v (omega arith))

frames_below : (l : List D.Frame) (n k : ℕ) → suc k ≡ n → below (frames_of l n) ≡ frames_of l k
frames_below l n k e = ap (λ (x : ℕ). below (frames_of l x)) (sym e)

frames_top : (l : List D.Frame) (n : ℕ) → get_or l 0 F.Bottom ≡ F.Bottom → get_or l n F.Bottom ≡ top_of (frames_of l n)
frames_top l zero h = h
frames_top l (suc n) h = refl

module _ (s : List ℕ) (m : Mode) where
  abbrev pub total : ℕ
  total = count (tokens_of s m 0)

  -- what the whole text is read as
  abbrev pub answer : Result
  answer = read m (length s) (tokens_of s m 0)

  -- the stack reader's records, of this text
  abbrev pub Standing : List D.Frame → List Node → Leaf → State → Type 0
  Standing = Stands m (length s) total answer (tokens_of s m)

  abbrev pub Waiting : List D.Frame → List Node → Leaf → State → Option Got → ℕ → Type 0
  Waiting = Ready m (length s) total answer (tokens_of s m)

  -- the loop's invariant: the nodes before the leaf that is being read are `base`
  pub record Inv (nodes : List Node) (stack : List D.Frame) (leaf : Leaf) (st : State) : Type 0 where
    pub base : List Node
    pub stands : Standing (frames_of stack st.sp) base leaf st
    pub queued : nodes ≡ padded (nodes_of st.before base leaf)
    pub floor : get_or stack 0 F.Bottom ≡ F.Bottom
    pub tall : length stack ≡ 97

  -- the inner loop's invariant, with the step x of the rank k: all nodes are `queue`
  pub record Mid (nodes : List Node) (stack : List D.Frame) (leaf : Leaf) (st : State) (x : Option Got) (k : ℕ) : Type 0 where
    pub queue : List Node
    pub stands : Waiting (frames_of stack st.sp) queue leaf st x k
    pub queued : nodes ≡ padded queue
    pub floor : get_or stack 0 F.Bottom ≡ F.Bottom
    pub tall : length stack ≡ 97
    pub rank : k ≡ rank_of x st.before
    pub step : Ok x ≡ scan_of s m st.at

  -- the text is read from the start
  first : (ts : Tokens) → read m (length s) ts ≡ firstly m (length s) (count ts) [] [] ts
  first done = refl
  first (Lexed.refused r) = sym (no_operand m (length s) 0 [] [] (Lexed.refused r) r (omega arith) refl)
  first (token t sp ts) = begin m (length s) (suc (count ts)) (token t sp ts) (omega arith)

  -- blank nodes, an empty stack, no token before
  pub begins : (leaf : Leaf) → Inv (replicate 127 blank) (replicate 97 F.Bottom) leaf (state 0 0 0 0 0 Nothing)
  begins leaf = record {
    base = [];
    stands = record {
      good = record {
        place = omega arith;
        nodes = refl;
        size = refl;
        leaf = refl;
        opened = refl;
        balance = refl;
        most = omega arith;
        deep = omega arith;
      };
      means = first (tokens_of s m 0);
      few = omega arith;
    };
    queued = refl;
    floor = refl;
    tall = length-replicate {A = D.Frame} 97 F.Bottom;
  }

  module _ {nodes : List Node} {stack : List D.Frame} {leaf : Leaf} {st : State} where
    -- a step is taken
    pub taken : (x : Option Got) (k : ℕ) → Ok x ≡ scan_of s m st.at → k ≡ rank_of x st.before → Inv nodes stack leaf st
        → Mid nodes stack leaf st x k
    taken x k e y i = record {
      queue = nodes_of st.before i.base leaf;
      stands =
          ready m (length s) total answer (tokens_of s m) (frames_of stack st.sp) i.base leaf st x k
          (tokens_step s m st.at ∙ ap (λ (z : Step). and_then z (tokens_of s m)) (sym e)) y i.stands;
      queued = i.queued;
      floor = i.floor;
      tall = i.tall;
      rank = y;
      step = e;
    }

    -- a refusal of the lexer
    pub refuses : (r : Refusal) → Err r ≡ scan_of s m st.at → Inv nodes stack leaf st → ◌≡◌ {A = Parsed} (Err r) (answer_of answer)
    refuses r e i =
        sym (ap answer_of (right_refused m (length s) total answer (tokens_of s m) (frames_of stack st.sp) i.base leaf st r
        (tokens_step s m st.at ∙ ap (λ (z : Step). and_then z (tokens_of s m)) (sym e)) i.stands))

    module _ {x : Option Got} {k : ℕ} (i : Mid nodes stack leaf st x k) where
      -- how high the stack and the nodes may be
      pub mid_sizes : (st.sp < 97) × (st.count ≤ 128)
      mid_sizes = good_sizes i.stands.good

      -- the step's places and indexes fit 16 bits, in a text that was checked
      pub mid_small : check_of s ≡ (Ok tt) → SmallStep x
      mid_small f = scan_small s m st.at (fine_short s f) x i.step

      abbrev frames : List D.Frame
      frames = frames_of stack st.sp

      top : get_or stack st.sp F.Bottom ≡ top_of frames
      top = frames_top stack st.sp i.floor

      popping : (b : Bool) → b ≡ pops_of (get_or stack st.sp F.Bottom) k → b ≡ true
          → Pops m (length s) total answer (tokens_of s m) frames i.queue leaf st x k
      popping b e t =
          pops m (length s) total answer (tokens_of s m) frames i.queue leaf st x k i.rank
          (ap (λ (c : D.Frame). pops_of c k) (sym top) ∙ sym e ∙ t) i.stands

      module _ (b : Bool) (e : b ≡ pops_of (get_or stack st.sp F.Bottom) k) (t : b ≡ true) where
        -- room for the operator's node, and a frame below
        pub pop_room : (st.count < 127) × (0 < st.sp)
        pop_room = ((popping b e t).room, (popping b e t).some)

        -- the operator on top becomes a node
        pub pop_next : (o : Node) → o ≡ kind_of (get_or stack st.sp F.Bottom)
            → Mid (set nodes st.count o) stack leaf (popped st) x k
        pop_next o v =
            let p = popping b e t in
            let u : kind_of (top_of frames) ≡ o = sym (v ∙ ap kind_of top) in
            let w : below frames ≡ frames_of stack (st.sp - 1) = frames_below stack st.sp (st.sp - 1) (omega (arith, p.some)) in
            record {
              queue = i.queue ++ one o;
              stands =
                  subst (λ (f : Node). Waiting (frames_of stack (st.sp - 1)) (i.queue ++ one f) leaf (popped st) x k) u
                  (subst (λ (cs : List D.Frame). Waiting cs (i.queue ++ one (kind_of (top_of frames))) leaf (popped st) x k) w p.ready);
              queued = ap (λ (l : List Node). set l st.count o) i.queued
                  ∙ pad_store i.queue st.count o i.stands.good.nodes p.room;
              floor = i.floor;
              tall = i.tall;
              rank = i.rank;
              step = i.step;
            }

      -- what the turn may do
      abbrev pub Does : Turned → Type 0
      Does a = Right m (length s) total answer (tokens_of s m) st frames i.queue leaf a

      -- the turn's action is right, where the top is no operator that ends
      pub turned : (b : Bool) → b ≡ pops_of (get_or stack st.sp F.Bottom) k → b ≡ false
          → (a d : Turned) → a ≡ turn_of m x (length s) leaf st (get_or stack st.sp F.Bottom) → a ≡ d → Does d
      turned b e f a d v w =
          subst Does (sym (sym w ∙ v ∙ ap (turn_of m x (length s) leaf st) top))
          (right m (length s) total answer (tokens_of s m) frames i.queue leaf st x k i.rank
          (scan_onward s m st.at x i.step)
          (ap (λ (c : D.Frame). pops_of c k) (sym top) ∙ sym e ∙ f) i.stands)

      -- what a store makes of the arrays: a leaf, a frame, none
      pub put_next : (l : Leaf) (nx : State) → Does (Ok (Put l nx)) → Inv (set nodes (nx.count - 1) (K.Leaf l)) stack l nx
      put_next l nx d = record {
        base = d.base;
        stands = subst (λ (n : ℕ). Standing (frames_of stack n) d.base l nx) (sym d.level) d.stands;
        queued = ap (λ (q : List Node). set q (nx.count - 1) (K.Leaf l)) i.queued ∙ d.stored;
        floor = i.floor;
        tall = i.tall;
      }

      pub push_next : (c : D.Frame) (nx : State) → Does (Ok (Push c nx)) → Inv nodes (set stack nx.sp c) leaf nx
      push_next c nx d = record {
        base = i.queue;
        stands =
            subst (λ (cs : List D.Frame). Standing cs i.queue leaf nx)
            (sym (frames_push stack st.sp nx.sp c (omega (arith, d.level)) (omega (arith, d.room, i.tall)))) d.stands;
        queued = i.queued ∙ ap padded (sym d.kept);
        floor = get_or-set_other stack nx.sp 0 c F.Bottom (omega (arith, d.level)) ∙ i.floor;
        tall = length-set stack nx.sp c ∙ i.tall;
      }

      pub go_next : (nx : State) → Does (Ok (Go nx)) → Inv nodes stack leaf nx
      go_next nx d = record {
        base = i.queue;
        stands =
            subst (λ (cs : List D.Frame). Standing cs i.queue leaf nx)
            (frames_below stack st.sp nx.sp d.level) d.stands;
        queued = i.queued ∙ ap padded (sym d.kept);
        floor = i.floor;
        tall = i.tall;
      }

      -- the answers
      pub ends : Does (Ok Done) → ◌≡◌ {A = Parsed} (Ok (record { count = st.count; nodes = nodes })) (answer_of answer)
      ends d =
          ap (λ (q : List Node). Ok (record { count = st.count; nodes = q })) i.queued
          ∙ ap (λ (n : ℕ). Ok (record { count = n; nodes = padded i.queue })) i.stands.good.nodes
          ∙ sym (ap answer_of d)

      pub fails : (r : Refusal) → Does (Err r) → ◌≡◌ {A = Parsed} (Err r) (answer_of answer)
      fails r d = sym (ap answer_of d)
