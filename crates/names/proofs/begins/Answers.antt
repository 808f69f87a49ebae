use Rattle.std.proofs.Common.{sym, ◌∙◌, arith}
use Rattle.text.specs.TextLaws.{begins_done, begins_more, begins_not, begins_short}
use Rattle.names.specs.Layout.{name_at}
use Rattle.names.proofs.LayoutLaws.{body_fits, byte_at}
use Rattle.names.proofs.begins.Goals as goal

pub returns-then-s-i : goal.returns-then-s-i
returns-then-s-i c =
    sym (c.loop-i.invariant ∙ begins_short (name_at c.args.k) c.args.s.now c.loop-i.i c.loop-i.i (omega arith) (omega arith))

pub overflow_add-from : goal.overflow_add-from
overflow_add-from c = omega (arith, body_fits c.args.k c.requires)

pub cell-requires : goal.cell-requires
cell-requires c = omega (arith, body_fits c.args.k c.requires)

pub returns-then-cell-s : goal.returns-then-cell-s
returns-then-cell-s c =
    let x = c.cell.ensures ∙ byte_at c.args.k c.requires c.start-from.result c.loop-i.i c.start-from.ensures (omega arith) in
    sym
    (c.loop-i.invariant
    ∙ begins_not (name_at c.args.k) c.args.s.now c.loop-i.i c.loop-i.i (omega arith) (omega arith) (λ e. c.if-cell-s.true (x ∙ e)))

pub loop-i-preserved : goal.loop-i-preserved
loop-i-preserved c =
    let x = c.cell.ensures ∙ byte_at c.args.k c.requires c.start-from.result c.loop-i.i c.start-from.ensures (omega arith) in
    c.loop-i.invariant
    ∙ begins_more (name_at c.args.k) c.args.s.now c.loop-i.i c.loop-i.i (omega arith) (omega arith) (sym x ∙ c.if-cell-s.false)

pub returns : goal.returns
returns c = sym (c.loop-i.invariant ∙ begins_done (name_at c.args.k) c.args.s.now c.loop-i.i c.loop-i.i (omega arith))
