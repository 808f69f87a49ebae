-- What the reader's answers say, by one induction: where it refuses, the tokens before begin an expression, and there is a reason to stop; where
-- it answers nodes, the signs that it used derive a tree, and the nodes are the tree's. The proofs' machinery, nothing to believe.
use Rattle.std.specs.Prelude.{◌≡◌, Bool, cond, ◌&&◌, List, [], ◌∷◌, ◌++◌, ltb, Some, None, Option, Ok, Err}
use Rattle.std.proofs.Math.Path.{refl, subst}
use Rattle.std.proofs.Common.{sym, ap, ◌∙◌, append_assoc, append-nil, arith, add-one, ltb-true, ltb-false}
use Rattle.std.proofs.Math.Bool.{true, false, not}
use Rattle.std.proofs.lemmas.Bool.{false≢true}
use Prim.Native.Nat.{ℕ, zero, suc, max, ◌+◌, ◌≤◌, ◌<◌}
use Rattle.text.specs.Tests.{by_cond, cond_true, cond_false}
use Rattle.text.specs.Tests as Tests
use Rattle.names.specs.Lookup.{deprecated_of, gnu_of, is_later, later_of}
use Rattle.refusal.specs.Refused.{span}
use Rattle.refusal.specs.declared.Span.{Span}
use Rattle.refusal.specs.declared.Expected.{Expected}
use Rattle.refusal.specs.declared.Expected.TheVariants as E
use Rattle.refusal.specs.declared.Refusal.{Refusal}
use Rattle.refusal.specs.declared.Refusal.TheVariants.{Unexpected, TooManyLeaves, TooDeep}
use Rattle.mode.specs.declared.Mode.{Mode}
use Rattle.lexer.specs.declared.Token.{Token}
use Rattle.lexer.specs.declared.Token.TheVariants as T
use Rattle.lexer.specs.Tokens.{Tokens, done, token}
use Rattle.lexer.specs.Tokens as Lexed
use Rattle.lexer.specs.Sign.{Sign, name, reference, unknown, exception, addition, WITH, AND, OR, LP, RP}
use Rattle.grammar.specs.declared.Leaf.{Leaf}
use Rattle.grammar.specs.declared.Node.TheVariants as K
use Rattle.grammar.specs.declared.Node.{Node}
use Rattle.grammar.specs.declared.Before.{Before}
use Rattle.grammar.specs.declared.Before.TheVariants.{Nothing, Joint, Listed, Term, Suffixed, With, Added, Closed}
use Rattle.grammar.specs.declared.Start.{Start}
use Rattle.grammar.specs.Move.{Move}
use Rattle.grammar.specs.declared.Link.{Link}
use Rattle.grammar.specs.declared.Link.TheVariants as N
use Rattle.grammar.specs.Leaves.{
  range_of,
  part_of,
  expected_after,
  listed_leaf,
  ref_leaf,
  takes_with,
  add_move,
  later_move,
  plus_after,
  tail_move,
  move_of,
  start_of,
  name_start,
  gnu_move,
  plus_move,
  moved,
  stopped,
  Tail,
  whole,
  broken,
  tail_of,
}
use Rattle.grammar.specs.Tree.{Tree, just, postfix, seen, leaves}
use Rattle.grammar.specs.TreeLaws.{leaves_append}
use Rattle.grammar.specs.Grammar.{
  Result,
  got,
  refused,
  Reader,
  pick,
  emit,
  put,
  link_of,
  and_next,
  or_next,
  close_by,
  close_at,
  close,
  end_by,
  end_at,
  end,
  count,
  atom_by,
  atom_at,
  and_level,
  or_level,
  read,
}
use Rattle.annex.specs.Annex.{Named, listed, referred, Item, item, adding, Allowed, id, id_later, ref, gnu_later, term, Additions, listed_one, ref_one, term_one, term_more, Operand, bare, with, Level, Atom, AndLevel, OrLevel, Derives, leaf, group, alone, joined, one, choice, depth, Expression}
use Rattle.annex.specs.Signs.{View, sign_of, item_of}
use Rattle.annex.proofs.Unique.{clash}
use Rattle.annex.proofs.Ahead.{Linked, an_and, an_or, a_close, other, linked, Op, by_and, by_or, of, node, tail_refused, tail_met, tail_unmet, Meets, met, unmet, meets, leaves_behind}
use Rattle.annex.specs.Faults.{
  Begins,
  Waits,
  weight,
  opening,
  closing,
  joining,
  set_behind,
  Split,
  here,
  next,
  Reason,
  Fault,
}
use Rattle.annex.specs.Faults as Faults
use Rattle.annex.proofs.Splits.{split_append, split_signs, split_count}
use Rattle.annex.proofs.Scan.{
  mid,
  stuck,
  down,
  move_at,
  Over,
  after_ended,
  Stands,
  stands_on,
  dead,
  no_whole,
  cut,
  weight_append,
  weighs,
}

-- a list behind one sign, and one sign behind a list
around : {A : Type 0} (b : List A) (x : A) (s z : List A) → b ++ (x ∷ (s ++ z)) ≡ ((b ++ (x ∷ [])) ++ s) ++ z
around b x s z = simp append_assoc

behind : {A : Type 0} (b s : List A) (x : A) (z : List A) → b ++ (s ++ (x ∷ z)) ≡ ((b ++ s) ++ (x ∷ [])) ++ z
behind b s x z = simp append_assoc

module _ {R S : Type 0} (v : View R S) (m : Mode) where
  -- signs
  abbrev pub Text : Type 0
  Text = List (Sign R S)

  -- the signs c are a leaf so far, to which additions may come
  abbrev More : Leaf → Text → Type 0
  More l c = (z : Text) (a : Named R) → Additions z a → Operand m (c ++ z) (adding (item_of v l) a)

  abbrev Full : Leaf → Text → Type 0
  Full l c = Operand m c (item_of v l) × More l c

  -- a listed name alone
  data Fresh (k : ℕ) : Leaf → Text → Type 0 where
    fresh : {sp : Span} → Allowed m k → Fresh k (listed_leaf k sp) (name k (v.at (range_of sp)) ∷ [])

  -- the signs c are the leaf l so far, up to such a token
  abbrev Stage : Before → Leaf → Text → Type 0
  Stage Nothing l c = ⊥
  Stage Joint l c = ⊥
  Stage (Listed k) l c = Fresh k l c
  Stage Term l c = Full l c
  Stage Suffixed l c = Full l c
  Stage With l c = (x : Sign R S) (z : Text) (a : Named R) → Additions (WITH ∷ x ∷ z) a → Operand m (c ++ (x ∷ z)) (adding (item_of v l) a)
  Stage Added l c = Operand m c (item_of v l)
  Stage Closed l c = ⊥

  operand_of : (b : Before) (l : Leaf) (c : Text) → Over b → Stage b l c → Operand m c (item_of v l)
  operand_of Nothing l c o x = absurd o
  operand_of Joint l c o x = absurd o
  operand_of (Listed k) l c o (fresh a) = bare (id a)
  operand_of Term l c o x = x.0
  operand_of Suffixed l c o x = x.0
  operand_of With l c o x = absurd o
  operand_of Added l c o x = x
  operand_of Closed l c o x = absurd x

  -- behind WITH an addition is still to come
  with_of : (b : Before) (l : Leaf) (c : Text) → takes_with b ≡ true → Stage b l c → Stage With l (c ++ (WITH ∷ []))
  with_of b l c h x y z a i = rw append_assoc (more b l c h x (WITH ∷ y ∷ z) a i)
    where
      more : (b : Before) (l : Leaf) (c : Text) → takes_with b ≡ true → Stage b l c → More l c
      more Nothing l c h x = absurd x
      more Joint l c h x = absurd x
      more (Listed k) l c h (fresh i) = (λ z a y. with (id i) y)
      more Term l c h x = x.1
      more Suffixed l c h x = x.1
      more With l c h x = absurd (false≢true h)
      more Added l c h x = absurd (false≢true h)
      more Closed l c h x = absurd x

  -- a token that would have belonged to the operand does not follow it
  abbrev pub Shut : Before → Tokens → Type 0
  Shut b done = Unit {0}
  Shut b (Lexed.refused r) = Unit {0}
  Shut b (token t sp ts) = (d : ℕ) → link_of t ≡ N.Other → move_at d b (sign_of v t sp) ≡ stuck

  shut_closed : (ts : Tokens) → Shut Closed ts
  shut_closed done = tt
  shut_closed (Lexed.refused r) = tt
  shut_closed (token t sp ts) = go t
    where
      go : (t : Token) (d : ℕ) → link_of t ≡ N.Other → move_at d Closed (sign_of v t sp) ≡ stuck
      go T.And d h = clash (cc)
      go T.Or d h = clash (cc)
      go T.With d h = refl
      go T.Plus d h = refl
      go T.Open d h = refl
      go T.Close d h = clash (cc)
      go (T.Licence k) d h = refl
      go (T.Exception k) d h = refl
      go (T.LicenseRef x n) d h = refl
      go (T.AdditionRef x n) d h = refl
      go (T.Unknown n) d h = refl

  module _ (e : ℕ) (all : Tokens) where
    -- the reason of a refusal of these tokens
    abbrev pub Blame : Refusal → Type 0
    Blame = Fault v m e all

    -- 6 behind signs of which k is the last: at a token that does not follow, or at the end of the text
    six : {b : Text} {d : ℕ} {k : Before} (t : Token) {sp : Span} {us : Tokens} → Stands b d k → move_at d k (sign_of v t sp) ≡ stuck
        → Reason v m e all b (token t sp us) (Unexpected sp (expected_after k))
    six {b} t {sp} {us} h i =
        subst (λ (x : Expected). Reason v m e all b (token t sp us) (Unexpected sp x)) h.told (Faults.unexpected refl (dead m (sign_of v t sp) h i))

    six_end : {b : Text} {d : ℕ} {k : Before} → Stands b d k → (Over k → ⊥) → Reason v m e all b done (Unexpected (span e e) (expected_after k))
    six_end {b} h i =
        subst (λ (x : Expected). Reason v m e all b done (Unexpected (span e e) x)) h.told (Faults.unended refl (no_whole m h (λ o z. i o)))

    -- a level stands at ts, under d open parentheses, with the nodes q, after the signs b
    record Context (u : Level) (d : ℕ) (q : List Node) (ts : Tokens) (b : Text) : Type 0 where
      split : Split v all b ts
      can : (s : Text) (t : Tree (Item R S)) → Derives m u s t → Begins m (b ++ s)
      stands : Stands b d Joint
      many : weight joining b ≡ leaves q
      open_now : weight opening b ≡ d + weight closing b
      shallow : d ≤ 32

    -- and has come to `rest`, behind the token k, with the nodes p
    pub record Read (u : Level) (d : ℕ) (q : List Node) (ts : Tokens) (b : Text) (p : List Node) (k : Before) (rest : Tokens) : Type 0 where
      pub tree : Tree Leaf
      pub text : Text
      pub derives : Derives m u text (seen (item_of v) tree)
      pub nodes : p ≡ q ++ postfix tree
      pub few : leaves p ≤ 64
      pub flat : d + depth derives ≤ 32
      pub split : Split v ts text rest
      pub stands : Stands (b ++ text) d k
      pub over : Over k
      pub shut : Shut k rest

    -- no AND follows an and-level, no OR an or-level
    abbrev pub Stops : Level → Tokens → Type 0
    Stops Atom ts = Unit {0}
    Stops AndLevel ts = and_next ts ≡ None
    Stops OrLevel ts = (and_next ts ≡ None) × (or_next ts ≡ None)

    -- what an answer of a level says
    abbrev pub Judged : Level → ℕ → List Node → Tokens → Text → Result → Type 0
    Judged u d q ts b (got p k rest) = Read u d q ts b p k rest × Stops u rest
    Judged u d q ts b (refused r) = Blame r

    -- of a reader, at fewer than n tokens
    abbrev Judges : Level → ℕ → Reader → Type 0
    Judges u n level = (d : ℕ) (q : List Node) (ts : Tokens) (b : Text) → count ts < n → Context u d q ts b → Judged u d q ts b (level d q ts)

    -- some operand: a reference
    some_item : Item R S
    some_item = item (referred (v.ref None (record { start = 0; end = 0 }))) false (v.at (record { start = 0; end = 0 }))

    some_ref : Sign R S
    some_ref = reference (v.ref None (record { start = 0; end = 0 })) some_item.place

    some_group : Derives m Atom (LP ∷ some_ref ∷ RP ∷ []) (just some_item)
    unfolding some_ref some_item
    some_group = group (one (alone (leaf (bare ref))))

    module _ {d : ℕ} {q : List Node} {ts : Tokens} {b : Text} (c : Context Atom d q ts b) where
      waits : Waits m b
      waits =
          cut m (b ++ (LP ∷ [])) (some_ref ∷ RP ∷ [])
          (rw append_assoc (c.can (LP ∷ some_ref ∷ RP ∷ []) (just some_item) some_group))

      begins : Begins m b
      begins = cut m b (LP ∷ []) waits

      -- a reason where an operand is expected
      stop : {r : Refusal} → Reason v m e all b ts r → Blame r
      stop i = record { before = b; rest = ts; split = c.split; begins = begins; reason = i }

      -- the signs s of a leaf have been read, up to the token k, and `us` are left
      record Part (s : Text) (k : Before) (l : Leaf) (us : Tokens) : Type 0 where
        split : Split v ts s us
        stands : Stands (b ++ s) d k
        stage : Stage k l s

      -- a leaf read whole
      record Whole (l : Leaf) (k : Before) (rest : Tokens) : Type 0 where
        text : Text
        operand : Operand m text (item_of v l)
        split : Split v ts text rest
        stands : Stands (b ++ text) d k
        over : Over k
        shut : Shut k rest

      abbrev Tailed : Tail → Type 0
      Tailed (whole l k rest) = Whole l k rest
      Tailed (broken r) = Blame r

      -- what a move says at the token t
      abbrev Moved : Before → Text → Token → Span → Tokens → Move → Type 0
      Moved k s t sp us (Ok (Some (n, j))) =
          Stage j n (s ++ (sign_of v t sp ∷ [])) × (move_at d k (sign_of v t sp) ≡ mid d j) × (set_behind (sign_of v t sp) ≡ expected_after j)
      Moved k s t sp us (Ok None) = Over k × Shut k (token t sp us)
      Moved k s t sp us (Err r) = Blame r

      -- a reason behind the signs s of the leaf, which an addition would make whole
      inner : (s : Text) (l : Leaf) (us : Tokens) {r : Refusal} → Part s With l us → Reason v m e all (b ++ s) us r → Blame r
      inner s l us x i =
          let o : Operand m (s ++ (exception 0 ∷ [])) (adding (item_of v l) (listed 0)) = x.stage (exception 0) [] (listed 0) listed_one in
          record {
            before = b ++ s;
            rest = us;
            split = split_append c.split x.split;
            begins = cut m (b ++ s) (exception 0 ∷ [])
                (rw append_assoc (c.can (s ++ (exception 0 ∷ [])) (just (adding (item_of v l) (listed 0))) (leaf o)));
            reason = i;
          }

      -- no addition behind WITH
      bars : (s : Text) (l : Leaf) (sp : Span) (us : Tokens) (t : Token) → Part s With l (token t sp us) → move_at d With (sign_of v t sp) ≡ stuck
          → Blame (Unexpected sp E.Addition)
      bars s l sp us t x h = inner s l (token t sp us) x (six t x.stands h)

      -- behind WITH
      add_moved : (s : Text) (l : Leaf) (sp : Span) (us : Tokens) (t : Token) → Part s With l (token t sp us)
          → Moved With s t sp us (add_move l t sp)
      add_moved s l sp us T.And x = bars s l sp us T.And x refl
      add_moved s l sp us T.Or x = bars s l sp us T.Or x refl
      add_moved s l sp us T.With x = bars s l sp us T.With x refl
      add_moved s l sp us T.Plus x = bars s l sp us T.Plus x refl
      add_moved s l sp us T.Open x = bars s l sp us T.Open x refl
      add_moved s l sp us T.Close x = bars s l sp us T.Close x refl
      add_moved s l sp us (T.Licence k) x = bars s l sp us (T.Licence k) x refl
      add_moved s l sp us (T.Exception k) x = (x.stage (exception k) [] (listed k) listed_one, refl, refl)
      add_moved s l sp us (T.LicenseRef i n) x = bars s l sp us (T.LicenseRef i n) x refl
      add_moved s l sp us (T.AdditionRef i n) x =
          let r : R = v.ref (part_of i) (range_of n) in
          (x.stage (addition r) [] (referred r) ref_one, refl, refl)
      add_moved s l sp us (T.Unknown n) x =
          let r : R = v.ref None (range_of n) in
          let u : Sign R S = unknown r (v.at (range_of sp)) in
          ((x.stage u [] (referred r) term_one, (λ z a y. rw append_assoc (x.stage u z a (term_more y)))), refl, refl)

      -- `+` behind a listed name
      plus_moved : (k : ℕ) (s : Text) (l : Leaf) (sp : Span) (us : Tokens) → Part s (Listed k) l (token T.Plus sp us)
          → Fresh k l s → Moved (Listed k) s T.Plus sp us (plus_move m l k sp)
      unfolding plus_move gnu_move
      plus_moved k s l sp us x (fresh {sp = at} i) =
          by_cond M (gnu_of k) _ _
          (λ g. by_cond M m.gnu_plus _ _
          (λ a. by_cond M (is_later k) _ _
          (λ y. why (Faults.gnu_suffix k p b refl refl g a y))
          (λ y. later g a y (later_of k) refl))
          (λ a. why (Faults.gnu_plus k p b refl refl g a)))
          (λ g. ((bare (id_later i g), (λ z a y. with (id_later i g) y)), refl, refl))
        where
          p : S
          p = v.at (range_of at)

          M : Move → Type 0
          M = Moved (Listed k) s T.Plus sp us

          why : {r : Refusal} → Reason v m e all (b ++ s) (token T.Plus sp us) r → Blame r
          why r = record {
            before = b ++ s;
            rest = token T.Plus sp us;
            split = split_append c.split x.split;
            reason = r;
            begins = c.can s (just (item_of v l)) (leaf (bare (id i)));
          }

          later : gnu_of k ≡ true → m.gnu_plus ≡ true → is_later k ≡ false → (f : Option ℕ) → later_of k ≡ f → M (later_move l sp f)
          later g a y (Some j) h = ((bare (gnu_later i g a y h), (λ z w q. with (gnu_later i g a y h) q)), refl, refl)
          later g a y None h = why (Faults.gnu_unlisted k p b refl refl g a y h)

      -- behind an operand
      tail_moved : (k : Before) (o : Over k) (s : Text) (l : Leaf) (sp : Span) (us : Tokens) (t : Token) → Part s k l (token t sp us)
          → Moved k s t sp us (tail_move m k l t sp)
      tail_moved k o s l sp us T.And x = (o, (λ d h. clash (cc)))
      tail_moved k o s l sp us T.Or x = (o, (λ d h. clash (cc)))
      tail_moved k o s l sp us T.With x =
          by_cond (Moved k s T.With sp us) (takes_with k) _ _
          (λ h. (with_of k l s h x.stage, after_ended {R = R} {S = S} k o d WITH ∙ cond_true (takes_with k) (mid d With) stuck h, refl))
          (λ h. (o, (λ d i. after_ended {R = R} {S = S} k o d WITH ∙ cond_false (takes_with k) (mid d With) stuck h)))
      tail_moved k o s l sp us T.Plus x = go k o x
        where
          go : (k : Before) → Over k → Part s k l (token T.Plus sp us) → Moved k s T.Plus sp us (plus_after m k l sp)
          go Nothing o x = absurd o
          go Joint o x = absurd o
          go (Listed k) o x = plus_moved k s l sp us x x.stage
          go Term o x = (o, (λ d h. refl))
          go Suffixed o x = (o, (λ d h. refl))
          go With o x = absurd o
          go Added o x = (o, (λ d h. refl))
          go Closed o x = (o, (λ d h. refl))
      tail_moved k o s l sp us T.Open x = (o, (λ d h. after_ended {R = R} {S = S} k o d LP))
      tail_moved k o s l sp us T.Close x = (o, (λ d h. clash (cc)))
      tail_moved k o s l sp us (T.Licence j) x = (o, (λ d h. after_ended k o d (sign_of v (T.Licence j) sp)))
      tail_moved k o s l sp us (T.Exception j) x = (o, (λ d h. after_ended k o d (sign_of v (T.Exception j) sp)))
      tail_moved k o s l sp us (T.LicenseRef j n) x = (o, (λ d h. after_ended k o d (sign_of v (T.LicenseRef j n) sp)))
      tail_moved k o s l sp us (T.AdditionRef j n) x = (o, (λ d h. after_ended k o d (sign_of v (T.AdditionRef j n) sp)))
      tail_moved k o s l sp us (T.Unknown n) x = (o, (λ d h. after_ended k o d (sign_of v (T.Unknown n) sp)))

      move_moved : (k : Before) (s : Text) (l : Leaf) (sp : Span) (us : Tokens) (t : Token) → Part s k l (token t sp us)
          → Moved k s t sp us (move_of m k l t sp)
      unfolding move_of
      move_moved Nothing s l sp us t x = absurd x.stage
      move_moved Joint s l sp us t x = absurd x.stage
      move_moved (Listed k) s l sp us t x = tail_moved (Listed k) tt s l sp us t x
      move_moved Term s l sp us t x = tail_moved Term tt s l sp us t x
      move_moved Suffixed s l sp us t x = tail_moved Suffixed tt s l sp us t x
      move_moved With s l sp us t x = add_moved s l sp us t x
      move_moved Added s l sp us t x = tail_moved Added tt s l sp us t x
      move_moved Closed s l sp us t x = absurd x.stage

      -- the leaf has ended
      ends_whole : (k : Before) (s : Text) (l : Leaf) (us : Tokens) → Part s k l us → Over k → Shut k us → Whole l k us
      ends_whole k s l us x o h =
          record { text = s; operand = operand_of k l s o x.stage; split = x.split; stands = x.stands; over = o; shut = h }

      -- no token is left
      stop_tailed : (k : Before) (s : Text) (l : Leaf) (us : Tokens) (r : Refusal) → Part s k l us → ((k : Before) → Shut k us)
          → ((b : Text) → Stands b d With → Reason v m e all b us r) → Tailed (stopped k l us r)
      stop_tailed Nothing s l us r x h i = absurd x.stage
      stop_tailed Joint s l us r x h i = absurd x.stage
      stop_tailed (Listed k) s l us r x h i = ends_whole (Listed k) s l us x tt (h (Listed k))
      stop_tailed Term s l us r x h i = ends_whole Term s l us x tt (h Term)
      stop_tailed Suffixed s l us r x h i = ends_whole Suffixed s l us x tt (h Suffixed)
      stop_tailed With s l us r x h i = inner s l us x (i (b ++ s) x.stands)
      stop_tailed Added s l us r x h i = ends_whole Added s l us x tt (h Added)
      stop_tailed Closed s l us r x h i = absurd x.stage

      -- the rest of a leaf
      tail_tailed : (us : Tokens) (k : Before) (s : Text) (l : Leaf) → Part s k l us → Tailed (tail_of m e k l us)
      unfolding tail_of
      tail_tailed done k s l x =
          stop_tailed k s l done (Unexpected (span e e) E.Addition) x (λ k. tt) (λ b h. six_end h (λ o. o))
      tail_tailed (Lexed.refused r) k s l x = stop_tailed k s l (Lexed.refused r) r x (λ k. tt) (λ b h. Faults.lexical refl)
      tail_tailed (token t sp us) k s l x = go (tail_tailed us) (move_of m k l t sp) (move_moved k s l sp us t x)
        where
          go : ((k : Before) (s : Text) (l : Leaf) → Part s k l us → Tailed (tail_of m e k l us)) → (w : Move) → Moved k s t sp us w
              → Tailed (moved k l (token t sp us) (λ n c. tail_of m e c n us) w)
          go ih (Ok (Some (n, j))) y =
              ih j (s ++ (sign_of v t sp ∷ [])) n (record {
                split = split_append x.split (next here);
                stage = y.0;
                stands = subst (λ (z : Text). Stands z d j) (append_assoc b s (sign_of v t sp ∷ []))
                    (stands_on (sign_of v t sp) d j x.stands y.1 y.2);
              })
          go ih (Ok None) y = ends_whole k s l (token t sp us) x y.0 y.1
          go ih (Err r) y = y

    -- a leaf
    leaf_judged : {d : ℕ} {q : List Node} {b : Text} (t : Token) (sp : Span) (us : Tokens) (l : Leaf) (k : Before)
        → Context Atom d q (token t sp us) b → start_of m t sp ≡ Start.Begins l k → Stage k l (sign_of v t sp ∷ [])
        → move_at d Joint (sign_of v t sp) ≡ mid d k → set_behind (sign_of v t sp) ≡ expected_after k
        → Judged Atom d q (token t sp us) b (pick (ltb (leaves q) 64) (put q (tail_of m e k l us)) (refused (TooManyLeaves sp)))
    leaf_judged {d} {q} {b} t sp us l k c h x y w = go (ltb (leaves q) 64) refl
      where
        put_judged : leaves q < 64 → (w : Tail) → Tailed c w → Judged Atom d q (token t sp us) b (put q w)
        put_judged z (whole n j rest) i = (
          record {
            tree = just n;
            text = i.text;
            derives = leaf i.operand;
            nodes = refl;
            few = omega (arith, leaves_append q (K.Leaf n ∷ []));
            flat = omega (arith, c.shallow);
            split = i.split;
            stands = i.stands;
            over = i.over;
            shut = i.shut;
          },
          tt,
        )
        put_judged z (broken r) i = i

        go : (z : Bool) → ltb (leaves q) 64 ≡ z
            → Judged Atom d q (token t sp us) b (pick z (put q (tail_of m e k l us)) (refused (TooManyLeaves sp)))
        go true z =
            put_judged (ltb-true (leaves q) 64 z) (tail_of m e k l us) (tail_tailed c us k (sign_of v t sp ∷ []) l
            (record { split = next here; stage = x; stands = stands_on (sign_of v t sp) d k c.stands y w }))
        go false z = stop c (Faults.leaves refl h (waits c) (omega (arith, c.many, ltb-false (leaves q) 64 z)))

    module _ {u : Level} {d : ℕ} {q p : List Node} {ts rest : Tokens} {b : Text} {k : Before}
        (c : Context u d q ts b) (h : Read u d q ts b p k rest) where
      -- a reason behind what a level has read
      stop_after : {r : Refusal} → Reason v m e all (b ++ h.text) rest r → Blame r
      stop_after i =
          record {
            before = b ++ h.text;
            rest = rest;
            split = split_append c.split h.split;
            begins = c.can h.text (seen (item_of v) h.tree) h.derives;
            reason = i;
          }

    -- a token that may not follow an operand
    late : {u : Level} {d : ℕ} {q p : List Node} {ts : Tokens} {b : Text} {k : Before} {t : Token} {sp : Span} {us : Tokens}
        → Context u d q ts b → Read u d q ts b p k (token t sp us) → link_of t ≡ N.Other → Blame (Unexpected sp (expected_after k))
    late {d = d} {t = t} c h e = stop_after c h (six t h.stands (h.shut d e))

    -- behind a `(`
    ctx_open : {d : ℕ} {q : List Node} {sp : Span} {us : Tokens} {b : Text} → d < 32 → Context Atom d q (token T.Open sp us) b
        → Context OrLevel (d + 1) q us (b ++ (LP ∷ []))
    ctx_open {d} {q} {sp} {us} {b} l c = record {
      split = split_append c.split (next here);
      can = (λ s t x. cut m ((b ++ (LP ∷ [])) ++ s) (RP ∷ [])
          (subst (Begins m) (around b LP s (RP ∷ [])) (c.can (LP ∷ (s ++ (RP ∷ []))) t (group x))));
      stands = stands_on LP (d + 1) Joint c.stands (ap (λ (n : ℕ). mid n Joint) (sym (add-one d))) refl;
      many = omega (arith, c.many, weight_append joining b (LP ∷ []));
      open_now = omega (arith, c.open_now, weight_append opening b (LP ∷ []), weight_append closing b (LP ∷ []));
      shallow = omega arith;
    }

    close_judged : {d : ℕ} {q : List Node} {sp : Span} {us : Tokens} {b : Text} → d < 32 → Context Atom d q (token T.Open sp us) b → (r : Result)
        → Judged OrLevel (d + 1) q us (b ++ (LP ∷ [])) r → Judged Atom d q (token T.Open sp us) b (close sp r)
    close_judged l c (refused r) h = h
    close_judged {d} {q} {sp} {us} {b} l c (got p k rest) h = go rest h.0 h.1
      where
        Inside : Tokens → Type 0
        Inside rest = Read OrLevel (d + 1) q us (b ++ (LP ∷ [])) p k rest

        by : (t : Token) (sq : Span) (us' : Tokens) → Linked t → Inside (token t sq us') → Stops OrLevel (token t sq us')
            → Judged Atom d q (token T.Open sp us) b (close_by p k sq us' (link_of t))
        by t sq us' an_and h i = let x : ◌≡◌ {A = Option Tokens} (Some us') None = i.0 in clash (cc)
        by t sq us' an_or h i = let x : ◌≡◌ {A = Option Tokens} (Some us') None = i.1 in clash (cc)
        by t sq us' a_close h i = (
          record {
            tree = h.tree;
            text = LP ∷ (h.text ++ (RP ∷ []));
            derives = group h.derives;
            nodes = h.nodes;
            few = h.few;
            flat = omega (arith, h.flat);
            split = next (split_append h.split (next here));
            over = tt;
            shut = shut_closed us';
            stands = subst (λ (z : Text). Stands z d Closed) (sym (around b LP h.text (RP ∷ [])))
                (stands_on RP d Closed h.stands (after_ended {R = R} {S = S} k h.over (d + 1) RP ∙ ap down (add-one d)) refl);
          },
          tt,
        )
        by t sq us' (other x) h i =
            subst (λ (w : Link). Judged Atom d q (token T.Open sp us) b (close_by p k sq us' w)) (sym x)
            (late (ctx_open l c) h x)

        go : (rest : Tokens) → Inside rest → Stops OrLevel rest → Judged Atom d q (token T.Open sp us) b (close_at sp p k rest)
        go done h i =
            stop_after (ctx_open l c) h
            (Faults.unclosed refl c.split
            (subst (λ (z : Text). Expression m z (seen (item_of v) h.tree)) (sym (split_signs h.split ∙ append-nil h.text)) h.derives)
            (no_whole m h.stands (λ o z. omega arith)))
        go (Lexed.refused r) h i = stop_after (ctx_open l c) h (Faults.lexical refl)
        go (token t sq us') h i = by t sq us' (linked t) h i

    -- a listed name where a licence may stand
    name_judged : (or : Reader) {d : ℕ} {q : List Node} {k : ℕ} {sp : Span} {us : Tokens} {b : Text}
        → Context Atom d q (token (T.Licence k) sp us) b → Judged Atom d q (token (T.Licence k) sp us) b (atom_by m e or d q sp us (name_start m k sp))
    unfolding name_start
    name_judged or {d} {q} {k} {sp} {us} {b} c = go (deprecated_of k && not m.deprecated) refl
      where
        not-true : (x : Bool) → not x ≡ true → x ≡ false
        not-true true h = absurd (false≢true h)
        not-true false h = refl

        named : Start
        named = Start.Begins (listed_leaf k sp) (Listed k)

        go : (z : Bool) → (deprecated_of k && not m.deprecated) ≡ z
            → Judged Atom d q (token (T.Licence k) sp us) b (atom_by m e or d q sp us (cond z Start.Barred named))
        go true h =
            let x = Tests.both (deprecated_of k) (not m.deprecated) h in
            stop c (Faults.deprecated refl (waits c) x.0 (not-true m.deprecated x.1))
        go false h =
            leaf_judged (T.Licence k) sp us (listed_leaf k sp) (Listed k) c
            (cond_false (deprecated_of k && not m.deprecated) Start.Barred named h) (fresh h) refl refl

    -- a token that is no operand
    early : {d : ℕ} {q : List Node} {b : Text} (t : Token) {sp : Span} {us : Tokens} → Context Atom d q (token t sp us) b
        → move_at d Joint (sign_of v t sp) ≡ stuck → Blame (Unexpected sp E.Term)
    early t c h = stop c (six t c.stands h)

    atom_judged : (or : Reader) (d : ℕ) (q : List Node) (ts : Tokens) (b : Text) → Judges OrLevel (count ts) or → Context Atom d q ts b
        → Judged Atom d q ts b (atom_at m e or d q ts)
    atom_judged or d q done b g c = stop c (six_end c.stands (λ o. o))
    atom_judged or d q (Lexed.refused r) b g c = stop c (Faults.lexical refl)
    atom_judged or d q (token T.And sp us) b g c = early T.And c refl
    atom_judged or d q (token T.Or sp us) b g c = early T.Or c refl
    atom_judged or d q (token T.With sp us) b g c = early T.With c refl
    atom_judged or d q (token T.Plus sp us) b g c = early T.Plus c refl
    atom_judged or d q (token T.Open sp us) b g c = go (ltb d 32) refl
      where
        go : (z : Bool) → ltb d 32 ≡ z → Judged Atom d q (token T.Open sp us) b (pick z (close sp (or (d + 1) q us)) (refused (TooDeep sp)))
        go true z =
            let l : d < 32 = ltb-true d 32 z in
            close_judged l c (or (d + 1) q us) (g (d + 1) q us (b ++ (LP ∷ [])) (omega arith) (ctx_open l c))
        go false z = stop c (Faults.parentheses refl (waits c) (omega (arith, c.open_now, ltb-false d 32 z)))
    atom_judged or d q (token T.Close sp us) b g c = early T.Close c refl
    atom_judged or d q (token (T.Licence k) sp us) b g c = name_judged or c
    atom_judged or d q (token (T.Exception k) sp us) b g c = early (T.Exception k) c refl
    atom_judged or d q (token (T.LicenseRef x n) sp us) b g c =
        leaf_judged (T.LicenseRef x n) sp us (ref_leaf x n sp) Suffixed c refl (bare ref, (λ z a y. with ref y)) refl refl
    atom_judged or d q (token (T.AdditionRef x n) sp us) b g c = early (T.AdditionRef x n) c refl
    atom_judged or d q (token (T.Unknown n) sp us) b g c =
        leaf_judged (T.Unknown n) sp us (ref_leaf None n sp) Term c refl (bare term, (λ z a y. with term y)) refl refl

    -- an operator's sign behind an ended operand
    op_sign : (w : Op) (sp : Span) (k : Before) → Over k → (d : ℕ)
        → let x : Sign R S = sign_of v (of w).token sp in
        (move_at d k x ≡ mid d Joint) × (set_behind x ≡ E.Term) × (joining x ≡ 1) × (opening x ≡ 0) × (closing x ≡ 0)
    op_sign by_and sp k o d = (after_ended {R = R} {S = S} k o d AND, refl, refl, refl, refl)
    op_sign by_or sp k o d = (after_ended {R = R} {S = S} k o d OR, refl, refl, refl, refl)

    -- a level of an operator: one to its left; or one to its left, its sign and one to its right
    lift : (w : Op) {s : Text} {t : Tree (Item R S)} (x : Derives m (of w).lower s t) → (y : Derives m (of w).upper s t) × (depth y ≡ depth x)
    lift by_and x = (alone x, refl)
    lift by_or x = (one x, refl)

    pair : (w : Op) (sp : Span) {s z : Text} {t u : Tree (Item R S)} → Derives m (of w).lower s t → Derives m (of w).upper z u
        → Derives m (of w).upper (s ++ (sign_of v (of w).token sp ∷ z)) (node w t u)
    pair by_and sp x y = joined x y
    pair by_or sp x y = choice x y

    -- the same of trees that have been read, with the depth and the nodes
    pair_read : (w : Op) (sp : Span) {s z : Text} (t u : Tree Leaf)
        (x : Derives m (of w).lower s (seen (item_of v) t)) (y : Derives m (of w).upper z (seen (item_of v) u))
        → (i : Derives m (of w).upper (s ++ (sign_of v (of w).token sp ∷ z)) (seen (item_of v) (node w t u))) × (depth i ≡ max (depth x) (depth y))
        × (postfix (node w t u) ≡ postfix t ++ (postfix u ++ ((of w).kind ∷ []))) × (leaves ((of w).kind ∷ []) ≡ 0)
    pair_read by_and sp t u x y = (joined x y, refl, refl, refl)
    pair_read by_or sp t u x y = (choice x y, refl, refl, refl)

    -- a level has been read, and an operator stands behind it
    module _ (w : Op) {d : ℕ} {q p : List Node} {ts us : Tokens} {b : Text} {k : Before} {sp : Span}
        (h : Read (of w).lower d q ts b p k (token (of w).token sp us)) where
      abbrev sign : Sign R S
      sign = sign_of v (of w).token sp

      ctx_op : Context (of w).upper d q ts b → Context (of w).upper d p us ((b ++ h.text) ++ (sign ∷ []))
      ctx_op c =
          let f = op_sign w sp k h.over d in
          record {
            split = split_append (split_append c.split h.split) (next here);
            can = (λ s i y. subst (Begins m) (behind b h.text sign s)
                (c.can (h.text ++ (sign ∷ s)) (node w (seen (item_of v) h.tree) i) (pair w sp h.derives y)));
            stands = stands_on sign d Joint h.stands f.0 f.1;
            many = omega (
              arith,
              c.many,
              f.2,
              leaves_behind v h.tree q p h.nodes,
              (weighs h.derives).0,
              weight_append joining (b ++ h.text) (sign ∷ []),
              weight_append joining b h.text,
            );
            open_now = omega (
              arith,
              c.open_now,
              f.3,
              f.4,
              (weighs h.derives).1,
              weight_append opening (b ++ h.text) (sign ∷ []),
              weight_append opening b h.text,
              weight_append closing (b ++ h.text) (sign ∷ []),
              weight_append closing b h.text,
            );
            shallow = c.shallow;
          }

      -- the level behind it makes a level of both
      join : (r : Result) → Judged (of w).upper d p us ((b ++ h.text) ++ (sign ∷ [])) r → Judged (of w).upper d q ts b (emit (of w).kind r)
      join (refused r) x = x
      join (got r j rest) x =
          let i = x.0 in
          let y = pair_read w sp h.tree i.tree h.derives i.derives in (
            record {
              tree = node w h.tree i.tree;
              text = h.text ++ (sign ∷ i.text);
              derives = y.0;
              nodes = simp (y.2, i.nodes, h.nodes, append_assoc);
              few = omega (arith, i.few, y.3, leaves_append r ((of w).kind ∷ []));
              flat = omega (arith, h.flat, i.flat, y.1);
              split = split_append h.split (next i.split);
              stands = subst (λ (z : Text). Stands z d j) (sym (behind b h.text sign i.text)) i.stands;
              over = i.over;
              shut = i.shut;
            },
            x.1,
          )

    -- what a level has read is what the next level reads
    same : (w : Op) {d : ℕ} {q p : List Node} {ts rest : Tokens} {b : Text} {k : Before}
        → Read (of w).lower d q ts b p k rest → Read (of w).upper d q ts b p k rest
    same w h =
        record {
          tree = h.tree;
          text = h.text;
          derives = (lift w h.derives).0;
          nodes = h.nodes;
          few = h.few;
          flat = omega (arith, h.flat, (lift w h.derives).1);
          split = h.split;
          stands = h.stands;
          over = h.over;
          shut = h.shut;
        }

    stops : (w : Op) (ts : Tokens) → Stops (of w).lower ts → (of w).next ts ≡ None → Stops (of w).upper ts
    stops by_and ts h i = i
    stops by_or ts h i = (h, i)

    -- after the level to the left of an operator
    tail_judged : (w : Op) (right : Reader) {d : ℕ} {q : List Node} {ts : Tokens} {b : Text} → Judges (of w).upper (count ts) right
        → Context (of w).upper d q ts b → (r : Result) → Judged (of w).lower d q ts b r → Judged (of w).upper d q ts b ((of w).tail right d r)
    tail_judged w right {d} g c (refused r) h = rw (tail_refused right d w r) h
    tail_judged w right {d} {q} {ts} {b} g c (got p k rest) h = go (meets w rest) h.0 h.1
      where
        go : {rest : Tokens} → Meets w rest → Read (of w).lower d q ts b p k rest → Stops (of w).lower rest
            → Judged (of w).upper d q ts b ((of w).tail right d (got p k rest))
        go (met {sp} {us}) h i =
            rw (tail_met right d w p k sp us) (join w h (right d p us)
            (g d p us ((b ++ h.text) ++ (sign_of v (of w).token sp ∷ [])) (omega (arith, split_count h.split)) (ctx_op w h c)))
        go (unmet {ts = us} x) h i = rw (tail_unmet right d w p k us x) (same w h, stops w us i x)

    -- where a level may stand, the level to the left of its operator may
    ctx_lower : (w : Op) {d : ℕ} {q : List Node} {ts : Tokens} {b : Text} → Context (of w).upper d q ts b → Context (of w).lower d q ts b
    ctx_lower w c = record {
      split = c.split;
      can = (λ s t x. c.can s t (lift w x).0);
      stands = c.stands;
      many = c.many;
      open_now = c.open_now;
      shallow = c.shallow;
    }

    -- both levels, with fuel enough
    judges : (f : ℕ) → Judges AndLevel f (and_level m e f) × Judges OrLevel f (or_level m e f)
    unfolding and_level
    judges zero = ((λ d q ts b l c. absurd (omega arith)), (λ d q ts b l c. absurd (omega arith)))
    judges (suc f) =
        let a : Judges AndLevel (suc f) (and_level m e (suc f)) =
        (λ d q ts b l c. tail_judged by_and (and_level m e f) (λ d q us b k c. (judges f).0 d q us b (omega arith) c) c
        (atom_at m e (or_level m e f) d q ts)
        (atom_judged (or_level m e f) d q ts b (λ d q us b k c. (judges f).1 d q us b (omega arith) c) (ctx_lower by_and c))) in (
          a,
          (λ d q ts b l c. tail_judged by_or (or_level m e f) (λ d q us b k c. (judges f).1 d q us b (omega arith) c) c
              (and_level m e (suc f) d q ts) (a d q ts b l (ctx_lower by_or c))),
        )

    -- before the first token
    top : Context OrLevel 0 [] all []
    top = record {
      split = here;
      can = (λ s t x. ([], t, subst (λ (z : Text). Expression m z t) (sym (append-nil s)) x));
      stands = record { leads = (λ y. refl); told = refl };
      many = refl;
      open_now = refl;
      shallow = omega arith;
    }

    top_atom : Context Atom 0 [] all []
    top_atom = ctx_lower by_and (ctx_lower by_or top)

    -- what the reader answers, from the first token on
    pub all_judged : Judged OrLevel 0 [] all [] (or_level m e (suc (count all)) 0 [] all)
    all_judged = (judges (suc (count all))).1 0 [] all [] (omega arith) top

    -- what an answer says of all tokens, if it is a refusal
    abbrev pub Blamed : Result → Type 0
    Blamed (got q k rest) = Unit {0}
    Blamed (refused r) = Blame r

    end_blamed : (r : Result) → Judged OrLevel 0 [] all [] r → Blamed (end r)
    end_blamed (refused r) h = h
    end_blamed (got p k rest) h = go rest h.0 h.1
      where
        Inside : Tokens → Type 0
        Inside rest = Read OrLevel 0 [] all [] p k rest

        by : (t : Token) (sp : Span) (us : Tokens) → Linked t → Inside (token t sp us) → Stops OrLevel (token t sp us)
            → Blamed (end_by k sp (link_of t))
        by t sp us an_and h i = let x : ◌≡◌ {A = Option Tokens} (Some us) None = i.0 in clash (cc)
        by t sp us an_or h i = let x : ◌≡◌ {A = Option Tokens} (Some us) None = i.1 in clash (cc)
        by t sp us a_close h i =
            stop_after top h (Faults.unopened refl h.derives (dead m RP h.stands (after_ended {R = R} {S = S} k h.over 0 RP)))
        by t sp us (other x) h i = subst (λ (w : Link). Blamed (end_by k sp w)) (sym x) (late top h x)

        go : (rest : Tokens) → Inside rest → Stops OrLevel rest → Blamed (end_at p k rest)
        go done h i = tt
        go (Lexed.refused r) h i = stop_after top h (Faults.lexical refl)
        go (token t sp us) h i = by t sp us (linked t) h i

  -- a refusal of the reader has its reason
  pub blamed : (e : ℕ) (all : Tokens) → Blamed e all (read m e all)
  blamed e done = stop e done (top_atom e done) (Faults.empty refl)
  blamed e (Lexed.refused r) = stop e (Lexed.refused r) (top_atom e (Lexed.refused r)) (Faults.lexical refl)
  blamed e (token t sp ts) =
      let all = token t sp ts in
      end_blamed e all (or_level m e (suc (count all)) 0 [] all) (all_judged e all)
