use Rattle.std.proofs.Common.{◌∙◌}
use Rattle.names.proofs.LayoutLaws.{says}
use Rattle.names.proofs.later.Goals as goal

pub returns : goal.returns
returns c = c.partner.ensures ∙ (says c.args.k).later
