-- The reader by levels, held against the annex: what reads is an expression within the limits, and its nodes are the tree's; an expression within
-- the limits reads, to its tree; a refusal says that there is no expression, or which limit is passed.
use Rattle.std.specs.Prelude.{◌≡◌, length, Ok, Err, ⊤}
use Rattle.std.specs.Prelude as Std
use Rattle.std.proofs.Math.Path.{refl}
use Rattle.std.proofs.Common.{sym, ap, subst, ◌∙◌, inl, inr, arith}
use mathlib.Core.List.{List, [], append-nil}
use Rattle.std.proofs.Math.Logic.{⊎_elim}
use Prim.Native.Nat.{ℕ, suc, ◌+◌, ◌≤◌, ◌<◌}
use Rattle.refusal.specs.Refused.{number_of}
use Rattle.refusal.specs.declared.Refusal.{Refusal}
use Rattle.refusal.specs.declared.Refusal.TheVariants.{UnopenedParens}
use Rattle.mode.specs.declared.Mode.{Mode}
use Rattle.lexer.specs.Lex.{check_of}
use Rattle.lexer.specs.Tokens.{Tokens, done, token, tokens_of}
use Rattle.lexer.specs.Tokens as Lexed
use Rattle.lexer.specs.Sign.{Sign}
use Rattle.grammar.specs.declared.Leaf.{Leaf}
use Rattle.grammar.specs.declared.Node.{Node}
use Rattle.grammar.specs.declared.Before.{Before}
use Rattle.grammar.specs.declared.Link.{Link}
use Rattle.grammar.specs.declared.Link.TheVariants as N
use Rattle.grammar.specs.Tree.{Tree, postfix, size, seen, IsTree, leaves}
use Rattle.grammar.specs.Grammar.{Result, got, refused, unexpected, link_of, end_by, end, count, or_level, read, read_if, parse_of}
use Rattle.grammar.specs.TreeLaws.{leaves_postfix, postfix_one, size_seen}
use Rattle.annex.specs.Annex.{Item, OrLevel, Expression, depth}
use Rattle.annex.specs.Signs.{View, signs_of, item_of, Fits, Over, Says}
use Rattle.annex.proofs.Unique.{clash, one_tree}
use Rattle.annex.proofs.Complete.{Answers, answers}
use Rattle.annex.proofs.Splits.{split_signs}
use Rattle.annex.proofs.Judge.{Read, Judged, all_judged}

weaken : (r n k : ℕ) → Over r (0 + n) (0 + k) → Over r n k
weaken r n k (inl h) = inl (h.0, omega arith)
weaken r n k (inr h) = inr (h.0, omega arith)

module _ {R S : Type 0} (v : View R S) (m : Mode) where
  -- every derivation of the signs is answered so
  abbrev Answered : ℕ → List (Sign R S) → Result → Type 0
  Answered c s r = (t : Tree (Item R S)) (x : Expression m s t) → Answers v c t (depth x) [] 0 [] r

  says_end : (e c : ℕ) (ts : Tokens) (r : Result) → Judged v m e ts OrLevel 0 [] ts [] r → Answered c (signs_of v ts) r → Says v m (signs_of v ts) (end r)
  says_end e c ts (refused r) h g = (λ t x. weaken (number_of r) (size t) (depth x) (g t x))
  says_end e c ts (got q b done) h g =
      (w.tree, fits w.text w.derives (split_signs w.split ∙ append-nil w.text) (omega (arith, w.flat)), w.nodes)
    where
      w : Read v m e ts OrLevel 0 [] ts [] q b done
      w = h.0

      fits : (s : List (Sign R S)) (x : Expression m s (seen (item_of v) w.tree)) → signs_of v ts ≡ s → depth x ≤ 32
          → Fits m (signs_of v ts) (seen (item_of v) w.tree)
      fits s x p k = subst (λ (z : List (Sign R S)). Fits m z (seen (item_of v) w.tree)) (sym p) (record {
        derives = x;
        few = omega (arith, w.few, ap leaves w.nodes, leaves_postfix w.tree, size_seen (item_of v) w.tree);
        flat = k;
      })
  says_end e c ts (got q b (Lexed.refused r)) h g = (λ t x. clash (cc (g t x).4))
  says_end e c ts (got q b (token t sp rest)) h g = go (link_of t)
    where
      none : (r : Refusal) → Says v m (signs_of v ts) (refused r)
      none r = (λ t x. clash (cc (g t x).4))

      go : (k : Link) → Says v m (signs_of v ts) (end_by b sp k)
      go N.And = none (unexpected sp b)
      go N.Or = none (unexpected sp b)
      go N.Close = none (UnopenedParens sp)
      go N.Other = none (unexpected sp b)

  -- the tokens of a text of e bytes
  pub says : (e : ℕ) (ts : Tokens) → Says v m (signs_of v ts) (read m e ts)
  unfolding or_level
  says e done = (λ t x. ⊎_elim (λ h. absurd (omega (arith, h.0))) (λ h. absurd (omega (arith, h.0))) (answers v m e 0 x 0 [] done [] (omega arith) refl (tt, tt, tt)))
  says e (Lexed.refused r) =
      (λ t x. weaken (number_of r) (size t) (depth x) (answers v m e 0 x 0 [] (Lexed.refused r) [] (omega arith) refl (tt, tt, tt)))
  says e (token t sp ts) =
      let c : ℕ = count (token t sp ts) in
      says_end e c (token t sp ts) (or_level m e (suc c) 0 [] (token t sp ts)) (all_judged v m e (token t sp ts))
      (λ u x. answers v m e c x 0 [] (token t sp ts) [] (omega arith) (sym (append-nil (signs_of v (token t sp ts)))) (tt, tt, tt))

module _ {R S : Type 0} (v : View R S) (s : List ℕ) (m : Mode) where
  -- the reader, of every text that is checked
  pub held : check_of s ≡ (Ok tt) → Says v m (signs_of v (tokens_of s m 0)) (parse_of s m)
  unfolding parse_of
  held h = rw h (says v m (length s) (tokens_of s m 0))

  -- what reads is checked
  pub reads_fine : {q : List Node} {b : Before} {ts : Tokens} → parse_of s m ≡ got q b ts → check_of s ≡ (Ok tt)
  unfolding parse_of
  reads_fine {q} {b} {ts} h = go (check_of s) h
    where
      go : (c : Std.Result ⊤ Refusal) → read_if m s c ≡ got q b ts → c ≡ (Ok tt)
      go (Ok tt) h = refl
      go (Err r) h = clash (cc)

  -- what reads is the tree of the signs, all of them used, within the limits
  pub reads_derive : {q : List Node} {b : Before} {ts : Tokens} → parse_of s m ≡ got q b ts
      → (t : Tree Leaf) × Fits m (signs_of v (tokens_of s m 0)) (seen (item_of v) t) × (q ≡ postfix t)
  reads_derive h = subst (Says v m (signs_of v (tokens_of s m 0))) h (held (reads_fine h))

  -- what is the tree of the signs, within the limits, is what reads
  pub derives_reads : check_of s ≡ (Ok tt) → {t : Tree (Item R S)} → Fits m (signs_of v (tokens_of s m 0)) t
      → (u : Tree Leaf) × (b : Before) × (ts : Tokens) × (parse_of s m ≡ got (postfix u) b ts) × (seen (item_of v) u ≡ t)
  derives_reads h {t} f = go (parse_of s m) refl (held h)
    where
      go : (r : Result) → parse_of s m ≡ r → Says v m (signs_of v (tokens_of s m 0)) r
          → (u : Tree Leaf) × (b : Before) × (ts : Tokens) × (parse_of s m ≡ got (postfix u) b ts) × (seen (item_of v) u ≡ t)
      go (got q b ts) p w = (w.0, b, ts, p ∙ ap (λ (q : List Node). got q b ts) w.2, one_tree w.1.derives f.derives)
      go (refused r) p w = absurd (⊎_elim (λ x. omega (arith, f.few)) (λ x. omega (arith, f.flat)) (w t f.derives))

  -- a refusal whose number is neither 14 nor 15: the signs are no expression
  pub refused_none : check_of s ≡ (Ok tt) → {r : Refusal} → parse_of s m ≡ refused r → (number_of r ≡ 14 → ⊥) → (number_of r ≡ 15 → ⊥)
      → {t : Tree (Item R S)} → Expression m (signs_of v (tokens_of s m 0)) t → ⊥
  refused_none h p x y {t} d = ⊎_elim (λ w. x w.0) (λ w. y w.0) (subst (Says v m (signs_of v (tokens_of s m 0))) p (held h) t d)

  -- 14: whatever they are an expression of has more than 64 leaves
  pub refused_leaves : check_of s ≡ (Ok tt) → {r : Refusal} → parse_of s m ≡ refused r → number_of r ≡ 14
      → {t : Tree (Item R S)} → Expression m (signs_of v (tokens_of s m 0)) t → 64 < size t
  refused_leaves h p k {t} d =
      ⊎_elim (λ w. w.1) (λ w. absurd (omega (arith, w.0))) (subst (Says v m (signs_of v (tokens_of s m 0))) p (held h) t d)

  -- 15: more than 32 parentheses are open at once
  pub refused_depth : check_of s ≡ (Ok tt) → {r : Refusal} → parse_of s m ≡ refused r → number_of r ≡ 15
      → {t : Tree (Item R S)} (x : Expression m (signs_of v (tokens_of s m 0)) t) → 32 < depth x
  refused_depth h p k {t} x =
      ⊎_elim (λ w. absurd (omega (arith, w.0))) (λ w. w.1) (subst (Says v m (signs_of v (tokens_of s m 0))) p (held h) t x)

  -- for callers: the nodes are those of a tree of at most 64 leaves
  pub reads_tree : {q : List Node} {b : Before} {ts : Tokens} → parse_of s m ≡ got q b ts → IsTree q
  reads_tree {q} h =
      let w : (t : Tree Leaf) × Fits m (signs_of v (tokens_of s m 0)) (seen (item_of v) t) × (q ≡ postfix t) = reads_derive h in
      record { tree = w.0; nodes = w.2; few = omega (arith, w.1.few, size_seen (item_of v) w.0) }

-- two texts of the same signs, each seen in its own way: if one reads, the other, if it is checked, reads to a tree that is seen as the same
pub reads_same : {R S : Type 0} (v w : View R S) (m : Mode) (s z : List ℕ) → signs_of v (tokens_of s m 0) ≡ signs_of w (tokens_of z m 0) → check_of z ≡ (Ok tt)
    → (t : Tree Leaf) {b : Before} {ts : Tokens} → parse_of s m ≡ got (postfix t) b ts
    → (u : Tree Leaf) × (c : Before) × (us : Tokens) × (parse_of z m ≡ got (postfix u) c us) × (seen (item_of w) u ≡ seen (item_of v) t)
reads_same v w m s z h k t p =
    let x = reads_derive v s m p in
    let e : x.0 ≡ t = sym (postfix_one t x.0 x.2) in
    derives_reads w z m k (subst (λ (f : Tree Leaf). Fits m (signs_of w (tokens_of z m 0)) (seen (item_of v) f)) e
    (subst (λ (y : List (Sign _ _)). Fits m y (seen (item_of v) x.0)) h x.1))
