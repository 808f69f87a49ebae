use Rattle.std.proofs.Common.{arith}
use Rattle.packed.specs.RecordLaws.{parsed_small, parsed_whole}
use Rattle.terminal.proofs.put_nodes.Goals as goal

pub returns-then-out-count : goal.returns-then-out-count
returns-then-out-count c = parsed_small c.args.p.now c.args.out.now (omega arith) _ c.small.ensures (omega arith)

pub returns : goal.returns
returns c = parsed_whole c.args.p.now c.args.out.now (omega arith) _ _ c.answered.ensures (omega arith) c.put_nodes.ensures
