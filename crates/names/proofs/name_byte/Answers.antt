-- A byte within the name is read from its body: `byte_at`; past its end the definition reads its default.
use Rattle.std.proofs.Common.{◌∙◌, arith}
use Rattle.names.proofs.LayoutLaws.{named, body_fits, byte_at}
use Rattle.names.proofs.name_byte.Goals as goal

pub start-requires : goal.start-requires
start-requires c = named c.args.k c.args.i (omega arith)

pub overflow_add-start : goal.overflow_add-start
overflow_add-start c = omega (arith, body_fits c.args.k (named c.args.k c.args.i (omega arith)))

pub cell-requires : goal.cell-requires
cell-requires c = omega (arith, body_fits c.args.k (named c.args.k c.args.i (omega arith)))

pub returns-then-i-name_len : goal.returns-then-i-name_len
returns-then-i-name_len c =
    c.cell.ensures ∙ byte_at c.args.k (named c.args.k c.args.i (omega arith)) c.start.result c.args.i c.start.ensures (omega arith)
