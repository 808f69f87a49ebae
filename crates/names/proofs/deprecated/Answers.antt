use Rattle.std.proofs.Common.{arith}
use Rattle.names.proofs.LayoutLaws.{says}
use Rattle.names.proofs.deprecated.Goals as goal

pub returns : goal.returns
returns c = grind (arith, (says c.args.k).deprecated)
