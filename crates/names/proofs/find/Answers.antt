-- A name of another length is not the run, nor is one before it. A name that stands after the run ends the walk, since all behind it do too.
use Rattle.std.proofs.Common.{◌≡◌, ℕ, ◌+◌, ◌-◌, ◌≤◌, ◌<◌, List, length, Some, None, Less, Equal, Greater, sym, ap, subst, ◌∙◌, arith}
use Rattle.std.proofs.Math.Decide.{dec_lt}
use Rattle.names.specs.Lookup.{lookup, bytes_at}
use Rattle.names.specs.Order.{order, Ascending}
use Rattle.names.specs.OrderLaws.{Below, less_below, equal_same, greater_below}
use Rattle.names.specs.Layout.{rows, texts, part, name_at}
use Rattle.names.specs.Rules.{found, absent, ahead, behind}
use Rattle.names.proofs.LayoutLaws.{part_length, part_at}
use Rattle.names.proofs.find.Goals as goal
use Rattle.names.proofs.find.Goals.{then-len-run+in-Greater, else-len-run}

module _ (from to : ℕ) (b : to ≤ length rows) (s : Ascending (texts (part from to))) (run : List ℕ) where
  -- the run is none of the first n names of the part
  abbrev NoneOf : ℕ → Type 0
  NoneOf n = (j : ℕ) → j < n → bytes_at (texts (part from to)) j ≡ run → ⊥

  ended : (k : ℕ) → to ≤ k → NoneOf (k - from) → None ≡ lookup (texts (part from to)) run
  ended k h n = sym (absent (texts (part from to)) run (λ j l. n j (omega (arith, part_length from to b))))

  module _ (k : ℕ) (h : from ≤ k) (l : k < to) where
    inside : k - from < length (texts (part from to))
    inside = omega (arith, part_length from to b)

    hit : order run (name_at k) ≡ Equal → Some (k - from) ≡ lookup (texts (part from to)) run
    hit e = sym (found (texts (part from to)) run (k - from) s inside (part_at from to k h l ∙ sym (equal_same run (name_at k) e)))

    past : (length (name_at k) ≡ length run → ⊥) → NoneOf (k - from) → NoneOf (k + 1 - from)
    past f n j q e = go (dec_lt j (k - from))
      where
        go : Dec (j < k - from) → ⊥
        go (yes w) = n j w e
        go (no w) =
            let i : j ≡ k - from = omega arith in
            f (ap length (sym (part_at from to k h l) ∙ ap (bytes_at (texts (part from to))) (sym i) ∙ e))

    on : order run (name_at k) ≡ Greater → NoneOf (k + 1 - from)
    on e j q =
        behind (texts (part from to)) run (k - from) s inside
        (subst (λ (n : List ℕ). Below n run) (sym (part_at from to k h l)) (greater_below run (name_at k) e)) j (omega arith)

    over : order run (name_at k) ≡ Less → NoneOf (k - from) → None ≡ lookup (texts (part from to)) run
    over e n = sym (absent (texts (part from to)) run (λ j q. go j q (dec_lt j (k - from))))
      where
        go : (j : ℕ) → j < length (texts (part from to)) → Dec (j < k - from) → bytes_at (texts (part from to)) j ≡ run → ⊥
        go j q (yes w) = n j w
        go j q (no w) =
            ahead (texts (part from to)) run (k - from) s inside
            (subst (Below run) (sym (part_at from to k h l)) (less_below run (name_at k) e)) j (omega arith) q

pub returns-in-Equal : goal.returns-in-Equal
returns-in-Equal c =
    let e : order c.args.run.now (name_at c.loop-k.k) ≡ Equal = grind arith in
    hit c.args.from c.args.to c.requires.1 c.requires.2 c.args.run.now c.loop-k.k (omega arith) (omega arith) e

pub returns-in-Less : goal.returns-in-Less
returns-in-Less c =
    let e : order c.args.run.now (name_at c.loop-k.k) ≡ Less = grind arith in
    over c.args.from c.args.to c.requires.1 c.requires.2 c.args.run.now c.loop-k.k (omega arith) (omega arith) e c.loop-k.invariant

pub loop-k-preserved : goal.loop-k-preserved
loop-k-preserved c =
    let a = c.args in
    elim c.if-len-run.branch [
      | then-len-run+in-Greater w ↦
          let e : order a.run.now (name_at c.loop-k.k) ≡ Greater = grind arith in
          on a.from a.to c.requires.1 c.requires.2 a.run.now c.loop-k.k (omega arith) (omega arith) e
      | else-len-run w ↦
          past a.from a.to c.requires.1 c.requires.2 a.run.now c.loop-k.k (omega arith) (omega arith)
          (λ e. w.if-len-run.false (c.len.ensures ∙ e)) c.loop-k.invariant
    ]

pub returns : goal.returns
returns c = ended c.args.from c.args.to c.requires.1 c.requires.2 c.args.run.now c.loop-k.k (omega arith) c.loop-k.invariant
