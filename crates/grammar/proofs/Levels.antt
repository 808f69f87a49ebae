-- The levels with fuel enough: a level leaves fewer tokens, and two fuels that are enough answer the same, so that the equations of the
-- grammar hold at one fuel. The proofs' machinery, nothing to believe.
use Prim.Native.Nat.{ℕ, zero, suc, ◌+◌, ◌≤◌, ◌<◌}
use Rattle.std.specs.Prelude.{◌≡◌, refl, Bool, true, false, List, ltb, Option, Some, None, Ok, Err}
use Rattle.std.proofs.Math.Path.{ap}
use Rattle.std.proofs.Common.{◌∙◌}
use native.Mathlib.Omega.{arith}
use Rattle.text.specs.Tests.{by_cond}
use Rattle.refusal.specs.Refused.{span}
use Rattle.refusal.specs.declared.Span.{Span}
use Rattle.refusal.specs.declared.Expected.TheVariants as E
use Rattle.refusal.specs.declared.Refusal.{Refusal}
use Rattle.refusal.specs.declared.Refusal.TheVariants.{Unexpected, TooManyLeaves, TooDeep}
use Rattle.mode.specs.declared.Mode.{Mode}
use Rattle.lexer.specs.Tokens.{Tokens, done, token}
use Rattle.lexer.specs.Tokens as Lexed
use Rattle.grammar.specs.declared.Node.TheVariants as K
use Rattle.grammar.specs.declared.Node.{Node}
use Rattle.grammar.specs.declared.Leaf.{Leaf}
use Rattle.grammar.specs.declared.Before.{Before}
use Rattle.grammar.specs.declared.Start.{Start}
use Rattle.grammar.specs.declared.Start.TheVariants.{Begins, Barred, Opens, Unfit}
use Rattle.grammar.specs.Move.{Move}
use Rattle.grammar.specs.declared.Link.{Link}
use Rattle.grammar.specs.declared.Link.TheVariants as N
use Rattle.grammar.specs.Tree.{leaves}
use Rattle.grammar.specs.Leaves.{is_with, start_of, move_of, moved, stopped, Tail, whole, broken, tail_of}
use Rattle.grammar.specs.Grammar.{
  Result,
  got,
  refused,
  Reader,
  pick,
  emit,
  put,
  link_of,
  and_by,
  and_next,
  or_by,
  or_next,
  close_by,
  close_at,
  close,
  tail_at,
  and_tail,
  or_tail,
  count,
  atom_by,
  atom_at,
  and_level,
  or_level,
}

-- fewer than c tokens are left
abbrev pub Fewer : ℕ → Result → Type 0
Fewer c (got q b ts) = count ts < c
Fewer c (refused r) = Unit {0}

-- at most c are left behind a leaf
abbrev NoMore : ℕ → Tail → Type 0
NoMore c (whole l b ts) = count ts ≤ c
NoMore c (broken r) = Unit {0}

-- fewer than c are left behind an operator
abbrev FewerNext : ℕ → Option Tokens → Type 0
FewerNext c None = Unit {0}
FewerNext c (Some ts) = count ts < c

no_more_suc : (c : ℕ) (t : Tail) → NoMore c t → NoMore (suc c) t
no_more_suc c (whole l b ts) h = omega arith
no_more_suc c (broken r) h = tt

fewer_put : (c : ℕ) (q : List Node) (t : Tail) → NoMore c t → Fewer (suc c) (put q t)
fewer_put c q (whole l b ts) h = omega arith
fewer_put c q (broken r) h = tt

fewer_emit : (c : ℕ) (k : Node) (r : Result) → Fewer c r → Fewer c (emit k r)
fewer_emit c k (got q b ts) h = h
fewer_emit c k (refused r) h = tt

fewer_from : (c x : ℕ) (r : Result) → x ≤ c → Fewer x r → Fewer c r
fewer_from c x (got q b ts) l h = omega arith
fewer_from c x (refused r) l h = tt

fewer_pick : (c : ℕ) (b : Bool) (r s : Result) → Fewer c r → Fewer c s → Fewer c (pick b r s)
fewer_pick c true r s h k = h
fewer_pick c false r s h k = k

and_fewer : (ts : Tokens) → FewerNext (count ts) (and_next ts)
and_fewer done = tt
and_fewer (Lexed.refused r) = tt
and_fewer (token t sp ts) = go (link_of t)
  where
    go : (k : Link) → FewerNext (suc (count ts)) (and_by k ts)
    go N.And = omega arith
    go N.Or = tt
    go N.Close = tt
    go N.Other = tt

or_fewer : (ts : Tokens) → FewerNext (count ts) (or_next ts)
or_fewer done = tt
or_fewer (Lexed.refused r) = tt
or_fewer (token t sp ts) = go (link_of t)
  where
    go : (k : Link) → FewerNext (suc (count ts)) (or_by k ts)
    go N.And = tt
    go N.Or = omega arith
    go N.Close = tt
    go N.Other = tt

close_fewer : (o : Span) (q : List Node) (b : Before) (ts : Tokens) → Fewer (count ts) (close_at o q b ts)
close_fewer o q b done = tt
close_fewer o q b (Lexed.refused r) = tt
close_fewer o q b (token t sp ts) = go (link_of t)
  where
    go : (k : Link) → Fewer (suc (count ts)) (close_by q b sp ts k)
    go N.And = tt
    go N.Or = tt
    go N.Close = omega arith
    go N.Other = tt

fewer_close : (c : ℕ) (o : Span) (r : Result) → Fewer c r → Fewer c (close o r)
fewer_close c o (got q b ts) h = fewer_from c (count ts) (close_at o q b ts) (omega arith) (close_fewer o q b ts)
fewer_close c o (refused r) h = tt

module _ (m : Mode) (e : ℕ) where
  tail_stopped : (b : Before) (l : Leaf) (ts : Tokens) (r : Refusal) → NoMore (count ts) (stopped b l ts r)
  tail_stopped b l ts r = by_cond (NoMore (count ts)) (is_with b) _ _ (λ x. tt) (λ x. omega arith)

  -- a leaf's rest takes tokens only
  tail_no_more : (b : Before) (l : Leaf) (ts : Tokens) → NoMore (count ts) (tail_of m e b l ts)
  unfolding tail_of
  tail_no_more b l done = tail_stopped b l done (Unexpected (span e e) E.Addition)
  tail_no_more b l (Lexed.refused r) = tail_stopped b l (Lexed.refused r) r
  tail_no_more b l (token t sp ts) = go (λ n c. tail_no_more c n ts) (move_of m b l t sp)
    where
      go : ((n : Leaf) (c : Before) → NoMore (count ts) (tail_of m e c n ts)) → (x : Move)
          → NoMore (suc (count ts)) (moved b l (token t sp ts) (λ n c. tail_of m e c n ts) x)
      go ih (Ok (Some (n, c))) = no_more_suc (count ts) (tail_of m e c n ts) (ih n c)
      go ih (Ok None) = omega arith
      go ih (Err r) = tt

  -- a reader that leaves fewer tokens
  abbrev Falls : Reader → Type 0
  Falls level = (d : ℕ) (q : List Node) (ts : Tokens) → Fewer (count ts) (level d q ts)

  atom_by_fewer : (or : Reader) → Falls or → (d : ℕ) (q : List Node) (sp : Span) (ts : Tokens) (x : Start)
      → Fewer (suc (count ts)) (atom_by m e or d q sp ts x)
  atom_by_fewer or g d q sp ts (Begins l b) =
      fewer_pick (suc (count ts)) (ltb (leaves q) 64) (put q (tail_of m e b l ts)) (refused (TooManyLeaves sp))
      (fewer_put (count ts) q (tail_of m e b l ts) (tail_no_more b l ts)) tt
  atom_by_fewer or g d q sp ts Barred = tt
  atom_by_fewer or g d q sp ts Opens =
      fewer_pick (suc (count ts)) (ltb d 32) (close sp (or (d + 1) q ts)) (refused (TooDeep sp))
      (fewer_close (suc (count ts)) sp (or (d + 1) q ts)
      (fewer_from (suc (count ts)) (count ts) (or (d + 1) q ts) (omega arith) (g (d + 1) q ts))) tt
  atom_by_fewer or g d q sp ts Unfit = tt

  atom_fewer : (or : Reader) → Falls or → (d : ℕ) (q : List Node) (ts : Tokens) → Fewer (count ts) (atom_at m e or d q ts)
  atom_fewer or g d q done = tt
  atom_fewer or g d q (Lexed.refused r) = tt
  atom_fewer or g d q (token t sp ts) = atom_by_fewer or g d q sp ts (start_of m t sp)

  tail_at_fewer : (k : Node) (level : Reader) → Falls level → (d : ℕ) (q : List Node) (b : Before) (ts : Tokens) (c : ℕ) → count ts < c
      → (o : Option Tokens) → FewerNext (count ts) o → Fewer c (tail_at k level d q b ts o)
  tail_at_fewer k level g d q b ts c l None h = l
  tail_at_fewer k level g d q b ts c l (Some r) h =
      fewer_emit c k (level d q r) (fewer_from c (count r) (level d q r) (omega arith) (g d q r))

  and_tail_fewer : (and : Reader) → Falls and → (d c : ℕ) (r : Result) → Fewer c r → Fewer c (and_tail and d r)
  and_tail_fewer and g d c (got q b ts) h = tail_at_fewer K.And and g d q b ts c h (and_next ts) (and_fewer ts)
  and_tail_fewer and g d c (refused r) h = tt

  or_tail_fewer : (or : Reader) → Falls or → (d c : ℕ) (r : Result) → Fewer c r → Fewer c (or_tail or d r)
  or_tail_fewer or g d c (got q b ts) h = tail_at_fewer K.Or or g d q b ts c h (or_next ts) (or_fewer ts)
  or_tail_fewer or g d c (refused r) h = tt

  -- both levels, by one induction
  pub falls : (f : ℕ) → Falls (and_level m e f) × Falls (or_level m e f)
  unfolding and_level
  falls zero = ((λ d q ts. tt), (λ d q ts. tt))
  falls (suc f) =
      let a : Falls (and_level m e (suc f)) =
      (λ d q ts. and_tail_fewer (and_level m e f) (falls f).0 d (count ts) (atom_at m e (or_level m e f) d q ts)
      (atom_fewer (or_level m e f) (falls f).1 d q ts)) in
      (a, (λ d q ts. or_tail_fewer (or_level m e f) (falls f).1 d (count ts) (and_level m e (suc f) d q ts) (a d q ts)))

  -- two readers that answer the same at fewer than c tokens
  abbrev Agree : ℕ → Reader → Reader → Type 0
  Agree c l k = (d : ℕ) (q : List Node) (ts : Tokens) → count ts < c → l d q ts ≡ k d q ts

  same_atom_by : (l k : Reader) (d : ℕ) (q : List Node) (sp : Span) (ts : Tokens) → Agree (suc (count ts)) l k → (x : Start)
      → atom_by m e l d q sp ts x ≡ atom_by m e k d q sp ts x
  same_atom_by l k d q sp ts a (Begins f b) = refl
  same_atom_by l k d q sp ts a Barred = refl
  same_atom_by l k d q sp ts a Opens =
      ap (λ (r : Result). pick (ltb d 32) (close sp r) (refused (TooDeep sp))) (a (d + 1) q ts (omega arith))
  same_atom_by l k d q sp ts a Unfit = refl

  same_atom : (l k : Reader) (d : ℕ) (q : List Node) (ts : Tokens) → Agree (count ts) l k → atom_at m e l d q ts ≡ atom_at m e k d q ts
  same_atom l k d q done a = refl
  same_atom l k d q (Lexed.refused r) a = refl
  same_atom l k d q (token t sp ts) a = same_atom_by l k d q sp ts a (start_of m t sp)

  same_tail_at : (n : Node) (l k : Reader) (c : ℕ) → Agree c l k → (d : ℕ) (q : List Node) (b : Before) (ts : Tokens) → count ts < c
      → (o : Option Tokens) → FewerNext (count ts) o → tail_at n l d q b ts o ≡ tail_at n k d q b ts o
  same_tail_at n l k c a d q b ts h None x = refl
  same_tail_at n l k c a d q b ts h (Some r) x = ap (emit n) (a d q r (omega arith))

  same_and : (l k : Reader) (c : ℕ) → Agree c l k → (d : ℕ) (r : Result) → Fewer c r → and_tail l d r ≡ and_tail k d r
  same_and l k c a d (got q b ts) h = same_tail_at K.And l k c a d q b ts h (and_next ts) (and_fewer ts)
  same_and l k c a d (refused r) h = refl

  same_or : (l k : Reader) (c : ℕ) → Agree c l k → (d : ℕ) (r : Result) → Fewer c r → or_tail l d r ≡ or_tail k d r
  same_or l k c a d (got q b ts) h = same_tail_at K.Or l k c a d q b ts h (or_next ts) (or_fewer ts)
  same_or l k c a d (refused r) h = refl

  -- one step more than the tokens that are left is enough
  abbrev Same : ℕ → ℕ → Type 0
  Same f g = (d : ℕ) (q : List Node) (ts : Tokens) → count ts < f → count ts < g
      → (and_level m e f d q ts ≡ and_level m e g d q ts) × (or_level m e f d q ts ≡ or_level m e g d q ts)

  pub same : (f g : ℕ) → Same f g
  unfolding and_level
  same zero g d q ts x y = absurd (omega arith)
  same (suc f) zero d q ts x y = absurd (omega arith)
  same (suc f) (suc g) d q ts x y =
      let aa : Agree (count ts) (and_level m e f) (and_level m e g) = (λ d q r l. (same f g d q r (omega arith) (omega arith)).0) in
      let ao : Agree (count ts) (or_level m e f) (or_level m e g) = (λ d q r l. (same f g d q r (omega arith) (omega arith)).1) in
      let la : Fewer (count ts) (atom_at m e (or_level m e f) d q ts) = atom_fewer (or_level m e f) (falls f).1 d q ts in
      let p : atom_at m e (or_level m e f) d q ts ≡ atom_at m e (or_level m e g) d q ts =
      same_atom (or_level m e f) (or_level m e g) d q ts ao in
      let t : and_level m e (suc f) d q ts ≡ and_level m e (suc g) d q ts =
      same_and (and_level m e f) (and_level m e g) (count ts) aa d (atom_at m e (or_level m e f) d q ts) la
      ∙ ap (and_tail (and_level m e g) d) p in (
        t,
        (same_or (or_level m e f) (or_level m e g) (count ts) ao d (and_level m e (suc f) d q ts)
            (and_tail_fewer (and_level m e f) (falls f).0 d (count ts) (atom_at m e (or_level m e f) d q ts) la)
            ∙ ap (or_tail (or_level m e g) d) t),
      )

  -- the equations of the grammar, at one fuel that is enough for n tokens
  module _ (n : ℕ) where
    pub and_eq : (d : ℕ) (q : List Node) (ts : Tokens) → count ts ≤ n
        → and_level m e (suc n) d q ts ≡ and_tail (and_level m e (suc n)) d (atom_at m e (or_level m e (suc n)) d q ts)
    unfolding and_level
    and_eq d q ts h =
        let aa : Agree (count ts) (and_level m e n) (and_level m e (suc n)) =
        (λ d q r l. (same n (suc n) d q r (omega arith) (omega arith)).0) in
        let ao : Agree (count ts) (or_level m e n) (or_level m e (suc n)) =
        (λ d q r l. (same n (suc n) d q r (omega arith) (omega arith)).1) in
        same_and (and_level m e n) (and_level m e (suc n)) (count ts) aa d (atom_at m e (or_level m e n) d q ts)
        (atom_fewer (or_level m e n) (falls n).1 d q ts)
        ∙ ap (and_tail (and_level m e (suc n)) d) (same_atom (or_level m e n) (or_level m e (suc n)) d q ts ao)

    pub or_eq : (d : ℕ) (q : List Node) (ts : Tokens) → count ts ≤ n
        → or_level m e (suc n) d q ts ≡ or_tail (or_level m e (suc n)) d (and_level m e (suc n) d q ts)
    unfolding and_level
    or_eq d q ts h =
        let ao : Agree (count ts) (or_level m e n) (or_level m e (suc n)) =
        (λ d q r l. (same n (suc n) d q r (omega arith) (omega arith)).1) in
        same_or (or_level m e n) (or_level m e (suc n)) (count ts) ao d (and_level m e (suc n) d q ts) ((falls (suc n)).0 d q ts)
