use Rattle.std.proofs.Common.{◌∙◌, arith}
use Rattle.text.proofs.OverlayLaws.{writing_start, writing_on}
use Rattle.names.specs.Layout.{name_at}
use Rattle.names.proofs.LayoutLaws.{body_fits, byte_at}
use Rattle.names.proofs.put_name.Goals as goal

pub loop-i-init : goal.loop-i-init
loop-i-init c = writing_start c.args.at (name_at c.args.k) c.args.out.now

pub overflow_add-from : goal.overflow_add-from
overflow_add-from c = omega (arith, body_fits c.args.k c.requires.0)

pub cell-requires : goal.cell-requires
cell-requires c = omega (arith, body_fits c.args.k c.requires.0)

pub loop-i-preserved : goal.loop-i-preserved
loop-i-preserved c =
    let s = c.start-from in
    writing_on c.args.at (name_at c.args.k) c.args.out.now c.loop-i.out c.loop-i.i _ c.requires.1 (omega arith)
    (c.cell.ensures ∙ byte_at c.args.k c.requires.0 s.result c.loop-i.i s.ensures (omega arith)) c.loop-i.invariant
