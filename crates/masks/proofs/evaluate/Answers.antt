use Rattle.std.proofs.Common.{◌≡◌, ℕ, ◌+◌, ◌%◌, eqb, List, ◌∷◌, drop, get_or, sym, ap, ◌∙◌, add-one, arith, drop-cons, drop_of_length-le}
use Rattle.masks.specs.declared.Node.{Node}
use Rattle.masks.specs.declared.Node.TheVariants.{Leaf}
use Rattle.masks.specs.Value.{run, value}
use Rattle.masks.proofs.evaluate.Goals as goal

pub loop-x-preserved : goal.loop-x-preserved
unfolding run
loop-x-preserved c =
    let q = c.args.nodes.now in
    let i = c.loop-x.x-index in
    let e : drop i q ≡ get_or q i (Leaf 0) ∷ drop (i + 1) q = rw (add-one i) (drop-cons q i (Leaf 0) (omega arith)) in
    ap (run (drop (i + 1) q) c.args.mask) c.next-st.ensures
    ∙ sym (ap (λ (l : List Node). run l c.args.mask c.loop-x.st) e)
    ∙ c.loop-x.invariant

pub returns : goal.returns
unfolding run value
returns c =
    ap (λ (n : ℕ). eqb (n % 2) 1)
    (sym (ap (λ (l : List Node). run l c.args.mask c.loop-x.st) (drop_of_length-le c.args.nodes.now (omega arith)))
    ∙ c.loop-x.invariant)
