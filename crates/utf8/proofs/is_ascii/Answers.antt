-- One byte more, and at the end none is left.
use Rattle.std.proofs.Common.{sym, ◌∙◌, arith}
use Rattle.text.specs.Every.{all_end, all_on}
use Rattle.utf8.specs.Utf8.{ascii_byte}
use Rattle.utf8.proofs.is_ascii.Goals as goal

pub loop-b-preserved : goal.loop-b-preserved
loop-b-preserved c = c.loop-b.invariant ∙ all_on ascii_byte c.args.s.now c.loop-b.ok c.loop-b.b-index (omega arith)

pub returns : goal.returns
returns c = sym (c.loop-b.invariant ∙ all_end ascii_byte c.args.s.now c.loop-b.ok c.loop-b.b-index (omega arith))
