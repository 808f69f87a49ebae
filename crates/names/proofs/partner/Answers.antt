use Rattle.std.proofs.Common.{length, lt-ltb, le-ltb}
use Rattle.names.specs.Listed.{listed}
use Rattle.names.specs.Layout.{partner_of}
use Rattle.names.proofs.LayoutLaws.{counts}
use Rattle.names.proofs.partner.Goals as goal

pub mark-requires : goal.mark-requires
mark-requires c = omega counts

pub returns-then-k-lt-LICENCES : goal.returns-then-k-lt-LICENCES
unfolding partner_of
returns-then-k-lt-LICENCES c = simp (lt-ltb c.args.k (length listed) (omega counts), ← c.mark.ensures, c.after.ensures)

pub returns-else-k-lt-LICENCES : goal.returns-else-k-lt-LICENCES
unfolding partner_of
returns-else-k-lt-LICENCES c = simp (le-ltb c.args.k (length listed) (omega counts))
