-- What the stack reader still has to do, by the token before: the meaning that its turns keep, and what a token makes of it. The proofs'
-- machinery, nothing to believe.
use Rattle.lexer.specs.declared.Got.{Got}
use Rattle.std.specs.Prelude.{ℕ, ◌+◌, ◌≤◌, ◌<◌, ◌≡◌, Bool, true, cond, not, ◌&&◌, ◌||◌, length, Some, None, Ok, Err, Option}
use Rattle.std.proofs.Math.Path.{refl, ap, subst}
use Rattle.std.proofs.Common.{sym, ◌∙◌, true≢false, arith}
use Rattle.std.proofs.Math.Bool.{false}
use Rattle.std.proofs.lemmas.Bool.{false≢true}
use mathlib.Core.List.{List, [], ◌∷◌, ◌++◌}
use Rattle.text.specs.Tests.{cond_true, cond_false, by_cond}
use Rattle.names.specs.Lookup.{gnu_of, deprecated_of, is_later, later_of}
use Rattle.refusal.specs.Refused.{span}
use Rattle.refusal.specs.declared.Span.{Span}
use Rattle.refusal.specs.declared.Expected.TheVariants as E
use Rattle.refusal.specs.declared.Refusal.{Refusal}
use Rattle.refusal.specs.declared.Refusal.TheVariants.{Unexpected, Empty}
use Rattle.mode.specs.declared.Mode.{Mode}
use Rattle.lexer.specs.declared.Token.{Token}
use Rattle.lexer.specs.declared.Token.TheVariants as T
use Rattle.lexer.specs.declared.Cursor.{Cursor}
use Rattle.lexer.specs.Tokens.{Tokens, done, token, and_then}
use Rattle.lexer.specs.Tokens as Lexed
use Rattle.grammar.specs.declared.Node.TheVariants as K
use Rattle.grammar.specs.declared.Node.{Node}
use Rattle.grammar.specs.declared.Leaf.{Leaf}
use Rattle.grammar.specs.declared.Before.{Before}
use Rattle.grammar.specs.declared.Before.TheVariants.{Nothing, Joint, Listed, Term, Suffixed, With, Added, Closed}
use Rattle.grammar.specs.declared.Start.{Start}
use Rattle.grammar.specs.declared.Start.TheVariants.{Begins, Barred, Opens, Unfit}
use Rattle.grammar.specs.Move.{Move}
use Rattle.grammar.specs.declared.Link.{Link}
use Rattle.grammar.specs.declared.Link.TheVariants as N
use Rattle.grammar.specs.Leaves.{
  is_with,
  takes_with,
  name_start,
  start_of,
  add_move,
  later_move,
  gnu_move,
  plus_move,
  plus_after,
  tail_move,
  move_of,
  moved,
  Tail,
  whole,
  broken,
  tail_of,
}
use Rattle.grammar.specs.Grammar.{Result, refused, put, link_of, and_by, and_next, or_by, or_next}
use Rattle.parser.specs.declared.Frame as D
use Rattle.parser.specs.declared.Frame.TheVariants as F
use Rattle.parser.specs.Turn.{is_expecting, rank_by, rank_after, rank_of}
use Rattle.parser.specs.Zipper.{
  Frame,
  bottom,
  and,
  or,
  opened,
  opens,
  one,
  bad_refused,
  expect,
  atom,
  after,
  atom_refused,
  bad_after,
  no_operand,
}

-- a frame of the code's stack as one of the zipper: an open parenthesis by its one byte
abbrev pub frame_of : D.Frame → Frame
frame_of F.Bottom = bottom
frame_of F.And = and
frame_of F.Or = or
frame_of (F.Open p) = opened (span p (p + 1))

-- the frames on the stack, the top first
abbrev pub framed : List D.Frame → List Frame
framed [] = []
framed (c ∷ cs) = frame_of c ∷ framed cs

abbrev pub top_of : List D.Frame → D.Frame
top_of [] = F.Bottom
top_of (c ∷ cs) = c

abbrev pub below : List D.Frame → List D.Frame
below [] = []
below (c ∷ cs) = cs

pub opens_le : (s : List Frame) → opens s ≤ length s
opens_le [] = omega arith
opens_le (bottom ∷ s) = omega arith
opens_le (and ∷ s) = omega (arith, opens_le s)
opens_le (or ∷ s) = omega (arith, opens_le s)
opens_le (opened o ∷ s) = omega (arith, opens_le s)

pub frame_open : (sp : Span) → sp.end ≡ sp.start + 1 → frame_of (F.Open sp.start) ≡ opened sp
frame_open sp w = ap (λ (x : ℕ). opened (span sp.start x)) (sym w)

-- a leaf is being read, and it is the last node
abbrev pub Holds : Before → Type 0
Holds Nothing = ⊥
Holds Joint = ⊥
Holds (Listed k) = Unit {0}
Holds Term = Unit {0}
Holds Suffixed = Unit {0}
Holds With = Unit {0}
Holds Added = Unit {0}
Holds Closed = ⊥

-- the nodes so far: those before the leaf that is being read, and that leaf
abbrev pub nodes_of : Before → List Node → Leaf → List Node
nodes_of Nothing q l = q
nodes_of Joint q l = q
nodes_of (Listed k) q l = q ++ one (K.Leaf l)
nodes_of Term q l = q ++ one (K.Leaf l)
nodes_of Suffixed q l = q ++ one (K.Leaf l)
nodes_of With q l = q ++ one (K.Leaf l)
nodes_of Added q l = q ++ one (K.Leaf l)
nodes_of Closed q l = q

pub nodes_holds : (b : Before) (q : List Node) (l : Leaf) → Holds b → nodes_of b q l ≡ q ++ one (K.Leaf l)
nodes_holds Nothing q l h = absurd h
nodes_holds Joint q l h = absurd h
nodes_holds (Listed k) q l h = refl
nodes_holds Term q l h = refl
nodes_holds Suffixed q l h = refl
nodes_holds With q l h = refl
nodes_holds Added q l h = refl
nodes_holds Closed q l h = absurd h

-- one where an operand stands that no operator has taken
abbrev pub owed : Before → ℕ
owed b = cond (is_expecting b) 0 1

pub owed_holds : (b : Before) → Holds b → owed b ≡ 1
owed_holds Nothing h = absurd h
owed_holds Joint h = absurd h
owed_holds (Listed k) h = refl
owed_holds Term h = refl
owed_holds Suffixed h = refl
owed_holds With h = refl
owed_holds Added h = refl
owed_holds Closed h = absurd h

-- where an operand has ended, a leaf is being read or a `)` stands before
by_ended : (P : Before → Type 0) (b : Before) → is_expecting b ≡ false → ((c : Before) → Holds c → P c) → P Closed → P b
by_ended P Nothing x h k = absurd (true≢false x)
by_ended P Joint x h k = absurd (true≢false x)
by_ended P (Listed n) x h k = h (Listed n) tt
by_ended P Term x h k = h Term tt
by_ended P Suffixed x h k = h Suffixed tt
by_ended P With x h k = h With tt
by_ended P Added x h k = h Added tt
by_ended P Closed x h k = k

-- what a token that begins an operand says
abbrev pub Begun : Span → Start → Type 0
Begun sp (Begins l b) = Holds b
Begun sp Barred = Unit {0}
Begun sp Opens = sp.end ≡ sp.start + 1
Begun sp Unfit = Unit {0}

-- a `(` is one byte
abbrev pub Wide : Token → Span → Type 0
Wide T.And sp = Unit {0}
Wide T.Or sp = Unit {0}
Wide T.With sp = Unit {0}
Wide T.Plus sp = Unit {0}
Wide T.Open sp = sp.end ≡ sp.start + 1
Wide T.Close sp = Unit {0}
Wide (T.Licence k) sp = Unit {0}
Wide (T.Exception k) sp = Unit {0}
Wide (T.LicenseRef d n) sp = Unit {0}
Wide (T.AdditionRef d n) sp = Unit {0}
Wide (T.Unknown n) sp = Unit {0}

pub start_begun : (m : Mode) (t : Token) (sp : Span) → Wide t sp → Begun sp (start_of m t sp)
unfolding name_start
start_begun m T.And sp w = tt
start_begun m T.Or sp w = tt
start_begun m T.With sp w = tt
start_begun m T.Plus sp w = tt
start_begun m T.Open sp w = w
start_begun m T.Close sp w = tt
start_begun m (T.Licence k) sp w = by_cond (Begun sp) (deprecated_of k && not m.deprecated) _ _ (λ x. tt) (λ x. tt)
start_begun m (T.Exception k) sp w = tt
start_begun m (T.LicenseRef d n) sp w = tt
start_begun m (T.AdditionRef d n) sp w = tt
start_begun m (T.Unknown n) sp w = tt

-- how a move goes with the rank k of its token, where j is what the token would be ranked by
abbrev pub Ranked : ℕ → ℕ → Move → Type 0
Ranked k j (Ok (Some (l, b))) = Holds b × (k ≡ 0)
Ranked k j (Ok None) = k ≡ j
Ranked k j (Err r) = k ≡ 0

pub cond_same : (b : Bool) → ◌≡◌ {A = ℕ} (cond b 0 0) 0
cond_same true = refl
cond_same false = refl

later_ranked : (l : Leaf) (sp : Span) (f : Option ℕ) (k j : ℕ) → k ≡ 0 → Ranked k j (later_move l sp f)
later_ranked l sp (Some i) k j e = (tt, e)
later_ranked l sp None k j e = e

add_ranked : (l : Leaf) (t : Token) (sp : Span) (k j : ℕ) → k ≡ 0 → Ranked k j (add_move l t sp)
add_ranked l T.And sp k j e = e
add_ranked l T.Or sp k j e = e
add_ranked l T.With sp k j e = e
add_ranked l T.Plus sp k j e = e
add_ranked l T.Open sp k j e = e
add_ranked l T.Close sp k j e = e
add_ranked l (T.Licence i) sp k j e = e
add_ranked l (T.Exception i) sp k j e = (tt, e)
add_ranked l (T.LicenseRef d n) sp k j e = e
add_ranked l (T.AdditionRef d n) sp k j e = (tt, e)
add_ranked l (T.Unknown n) sp k j e = (tt, e)

module _ (m : Mode) where
  gnu_ranked : (l : Leaf) (i : ℕ) (sp : Span) (k j : ℕ) → k ≡ 0 → Ranked k j (gnu_move m l i sp)
  unfolding gnu_move
  gnu_ranked l i sp k j e =
      by_cond (Ranked k j) m.gnu_plus _ _
      (λ x. by_cond (Ranked k j) (is_later i) _ _ (λ y. e) (λ y. later_ranked l sp (later_of i) k j e)) (λ x. e)

  plus_ranked : (l : Leaf) (i : ℕ) (sp : Span) (k j : ℕ) → k ≡ 0 → Ranked k j (plus_move m l i sp)
  unfolding plus_move
  plus_ranked l i sp k j e = by_cond (Ranked k j) (gnu_of i) _ _ (λ x. gnu_ranked l i sp k j e) (λ x. (tt, e))

  plus_after_ranked : (b : Before) (l : Leaf) (sp : Span) (k : ℕ) → k ≡ 0 → Ranked k 0 (plus_after m b l sp)
  plus_after_ranked Nothing l sp k e = e
  plus_after_ranked Joint l sp k e = e
  plus_after_ranked (Listed i) l sp k e = plus_ranked l i sp k 0 e
  plus_after_ranked Term l sp k e = e
  plus_after_ranked Suffixed l sp k e = e
  plus_after_ranked With l sp k e = e
  plus_after_ranked Added l sp k e = e
  plus_after_ranked Closed l sp k e = e

  tail_ranked : (b : Before) (l : Leaf) (t : Token) (sp : Span) → Ranked (rank_by (link_of t)) (rank_by (link_of t)) (tail_move m b l t sp)
  tail_ranked b l T.And sp = refl
  tail_ranked b l T.Or sp = refl
  tail_ranked b l T.With sp = by_cond (Ranked 0 0) (takes_with b) _ _ (λ x. (tt, refl)) (λ x. refl)
  tail_ranked b l T.Plus sp = plus_after_ranked b l sp 0 refl
  tail_ranked b l T.Open sp = refl
  tail_ranked b l T.Close sp = refl
  tail_ranked b l (T.Licence i) sp = refl
  tail_ranked b l (T.Exception i) sp = refl
  tail_ranked b l (T.LicenseRef d n) sp = refl
  tail_ranked b l (T.AdditionRef d n) sp = refl
  tail_ranked b l (T.Unknown n) sp = refl

  -- a move of a token, where an operand has ended
  pub move_ranked : (b : Before) (l : Leaf) (t : Token) (sp : Span) (nx : Cursor) → is_expecting b ≡ false
      → Ranked (rank_of (Some record { token = t; span = sp; next = nx }) b) (rank_by (link_of t)) (move_of m b l t sp)
  unfolding rank_of move_of
  move_ranked b l t sp nx x =
      by_cond (Ranked (cond (is_expecting b || is_with b) 0 (rank_by (link_of t))) (rank_by (link_of t))) (is_with b) _ _
      (λ w. add_ranked l t sp _ _ (cond_true (is_expecting b || is_with b) 0 (rank_by (link_of t)) (rw (x, w))))
      (λ w. subst (λ (k : ℕ). Ranked k (rank_by (link_of t)) (tail_move m b l t sp))
      (sym (cond_false (is_expecting b || is_with b) 0 (rank_by (link_of t)) (rw (x, w)))) (tail_ranked b l t sp))

  closed_move : (l : Leaf) (t : Token) (sp : Span) → move_of m Closed l t sp ≡ (Ok None)
  unfolding move_of
  closed_move l T.And sp = refl
  closed_move l T.Or sp = refl
  closed_move l T.With sp = refl
  closed_move l T.Plus sp = refl
  closed_move l T.Open sp = refl
  closed_move l T.Close sp = refl
  closed_move l (T.Licence i) sp = refl
  closed_move l (T.Exception i) sp = refl
  closed_move l (T.LicenseRef d n) sp = refl
  closed_move l (T.AdditionRef d n) sp = refl
  closed_move l (T.Unknown n) sp = refl

-- what a rank says of the operator that follows
pub record Says (k : ℕ) (a o : Option Tokens) : Type 0 where
  pub low : k ≤ 2
  pub no_and : 0 < k → a ≡ None
  pub no_or : 1 < k → o ≡ None

says_zero : (a o : Option Tokens) → Says 0 a o
says_zero a o = record { low = omega arith; no_and = (λ h. absurd (omega arith)); no_or = (λ h. absurd (omega arith)) }

link_says : (k : Link) (ts : Tokens) → Says (rank_by k) (and_by k ts) (or_by k ts)
link_says N.And ts = says_zero (Some ts) None
link_says N.Or ts = record { low = omega arith; no_and = (λ h. refl); no_or = (λ h. absurd (omega arith)) }
link_says N.Close ts = record { low = omega arith; no_and = (λ h. refl); no_or = (λ h. refl) }
link_says N.Other ts = says_zero None None

after_says : (x : Option Got) (go : ℕ → Tokens) → Says (rank_after x) (and_next (and_then (Ok x) go)) (or_next (and_then (Ok x) go))
after_says (Some g) go = link_says (link_of g.token) (go g.next.at)
after_says None go = record { low = omega arith; no_and = (λ h. refl); no_or = (λ h. refl) }

pub rank_says : (x : Option Got) (b : Before) (go : ℕ → Tokens) → Says (rank_of x b) (and_next (and_then (Ok x) go)) (or_next (and_then (Ok x) go))
unfolding rank_of
rank_says x b go =
    by_cond (λ (k : ℕ). Says k (and_next (and_then (Ok x) go)) (or_next (and_then (Ok x) go))) (is_expecting b || is_with b) _ _
    (λ y. says_zero (and_next (and_then (Ok x) go)) (or_next (and_then (Ok x) go))) (λ y. after_says x go)

pub ranked_ends : (x : Move) (k j : ℕ) → Ranked k j x → 0 < k → x ≡ (Ok None)
ranked_ends (Ok (Some (l, b))) k j h p = absurd (omega (arith, h.1))
ranked_ends (Ok None) k j h p = refl
ranked_ends (Err r) k j h p = absurd (omega arith)

pub rank_not : (y : Bool) (j k : ℕ) → 0 < k → k ≡ cond y 0 j → y ≡ false
rank_not true j k p h = absurd (omega arith)
rank_not false j k p h = refl

-- what the reader still has to do, by the token before
module _ (m : Mode) (e n : ℕ) where
  -- in a leaf l, behind its token b
  abbrev pub within : Before → List Frame → List Node → Leaf → Tokens → Result
  within b s q l ts = atom m e n s (put q (tail_of m e b l ts))

  -- at the first token
  abbrev pub firstly : List Frame → List Node → Tokens → Result
  firstly s q done = refused (Empty (span 0 e))
  firstly s q (Lexed.refused r) = expect m e n s q (Lexed.refused r)
  firstly s q (token t sp ts) = expect m e n s q (token t sp ts)

  abbrev pub mean : Before → List Frame → List Node → Leaf → Tokens → Result
  mean Nothing s q l ts = firstly s q ts
  mean Joint s q l ts = expect m e n s q ts
  mean (Listed k) s q l ts = within (Listed k) s q l ts
  mean Term s q l ts = within Term s q l ts
  mean Suffixed s q l ts = within Suffixed s q l ts
  mean With s q l ts = within With s q l ts
  mean Added s q l ts = within Added s q l ts
  mean Closed s q l ts = after m e n s q Closed ts

  pub mean_holds : (b : Before) (s : List Frame) (q : List Node) (l : Leaf) (ts : Tokens) → Holds b → mean b s q l ts ≡ within b s q l ts
  mean_holds Nothing s q l ts h = absurd h
  mean_holds Joint s q l ts h = absurd h
  mean_holds (Listed k) s q l ts h = refl
  mean_holds Term s q l ts h = refl
  mean_holds Suffixed s q l ts h = refl
  mean_holds With s q l ts h = refl
  mean_holds Added s q l ts h = refl
  mean_holds Closed s q l ts h = absurd h

  -- a lexer's refusal
  pub mean_refused : (b : Before) (s : List Frame) (q : List Node) (l : Leaf) (r : Refusal) → mean b s q l (Lexed.refused r) ≡ refused r
  unfolding tail_of
  mean_refused Nothing s q l r = no_operand m e n s q (Lexed.refused r) r (omega arith) refl
  mean_refused Joint s q l r = no_operand m e n s q (Lexed.refused r) r (omega arith) refl
  mean_refused (Listed k) s q l r = bad_after m e n s (q ++ one (K.Leaf l)) (Listed k) (Lexed.refused r) r (bad_refused (Listed k) r)
  mean_refused Term s q l r = bad_after m e n s (q ++ one (K.Leaf l)) Term (Lexed.refused r) r (bad_refused Term r)
  mean_refused Suffixed s q l r = bad_after m e n s (q ++ one (K.Leaf l)) Suffixed (Lexed.refused r) r (bad_refused Suffixed r)
  mean_refused With s q l r = atom_refused m e n s r
  mean_refused Added s q l r = bad_after m e n s (q ++ one (K.Leaf l)) Added (Lexed.refused r) r (bad_refused Added r)
  mean_refused Closed s q l r = bad_after m e n s q Closed (Lexed.refused r) r (bad_refused Closed r)

  -- the end of the text, where an operand has ended
  pub mean_done : (b : Before) (s : List Frame) (q : List Node) (l : Leaf) → is_expecting b ≡ false → is_with b ≡ false
      → mean b s q l done ≡ after m e n s (nodes_of b q l) b done
  unfolding tail_of
  mean_done b s q l x w =
      by_ended (λ (c : Before). is_with c ≡ false → mean c s q l done ≡ after m e n s (nodes_of c q l) c done) b x
      (λ c h y. mean_holds c s q l done h
      ∙ ap (λ (z : Tail). atom m e n s (put q z)) (cond_false (is_with c) (broken (Unexpected (span e e) E.Addition)) (whole l c done) y)
      ∙ ap (λ (z : List Node). after m e n s z c done) (sym (nodes_holds c q l h)))
      (λ y. refl) w

  -- a token: an operand is expected; or behind an operand, it does not belong to the leaf, it does, it is refused there
  module _ (s : List Frame) (q : List Node) (l : Leaf) (t : Token) (sp : Span) (ts : Tokens) where
    pub expecting : (b : Before) → is_expecting b ≡ true
        → (nodes_of b q l ≡ q) × (mean b s q l (token t sp ts) ≡ expect m e n s q (token t sp ts))
    expecting Nothing x = (refl, refl)
    expecting Joint x = (refl, refl)
    expecting (Listed k) x = absurd (false≢true x)
    expecting Term x = absurd (false≢true x)
    expecting Suffixed x = absurd (false≢true x)
    expecting With x = absurd (false≢true x)
    expecting Added x = absurd (false≢true x)
    expecting Closed x = absurd (false≢true x)

    moving : (b : Before) → Holds b → (x : Move) → move_of m b l t sp ≡ x
        → mean b s q l (token t sp ts) ≡ atom m e n s (put q (moved b l (token t sp ts) (λ k c. tail_of m e c k ts) x))
    unfolding tail_of
    moving b h x w =
        mean_holds b s q l (token t sp ts) h
        ∙ ap (λ (y : Move). atom m e n s (put q (moved b l (token t sp ts) (λ k c. tail_of m e c k ts) y))) w

    pub mean_ends : (b : Before) → is_expecting b ≡ false → move_of m b l t sp ≡ (Ok None)
        → mean b s q l (token t sp ts) ≡ after m e n s (nodes_of b q l) b (token t sp ts)
    mean_ends b x w =
        by_ended
        (λ (c : Before). move_of m c l t sp ≡ (Ok None) → mean c s q l (token t sp ts) ≡ after m e n s (nodes_of c q l) c (token t sp ts)) b x
        (λ c h y. moving c h (Ok None) y ∙ ap (λ (z : List Node). after m e n s z c (token t sp ts)) (sym (nodes_holds c q l h)))
        (λ y. refl) w

    pub mean_goes : (b c : Before) (k : Leaf) → is_expecting b ≡ false → move_of m b l t sp ≡ Ok (Some (k, c))
        → (mean b s q l (token t sp ts) ≡ within c s q k ts) × (nodes_of b q l ≡ q ++ one (K.Leaf l))
    mean_goes b c k x w =
        by_ended
        (λ (d : Before). move_of m d l t sp ≡ Ok (Some (k, c))
        → (mean d s q l (token t sp ts) ≡ within c s q k ts) × (nodes_of d q l ≡ q ++ one (K.Leaf l))) b x
        (λ d h y. (moving d h (Ok (Some (k, c))) y, nodes_holds d q l h))
        (λ y. absurd (let z : ◌≡◌ {A = ℕ} 0 1 = cc (closed_move m l t sp) in omega arith)) w

    pub mean_fails : (b : Before) (r : Refusal) → is_expecting b ≡ false → move_of m b l t sp ≡ Err r
        → mean b s q l (token t sp ts) ≡ refused r
    mean_fails b r x w =
        by_ended (λ (d : Before). move_of m d l t sp ≡ Err r → mean d s q l (token t sp ts) ≡ refused r) b x
        (λ d h y. moving d h (Err r) y ∙ atom_refused m e n s r)
        (λ y. absurd (let z : ◌≡◌ {A = ℕ} 0 1 = cc (closed_move m l t sp) in omega arith)) w
