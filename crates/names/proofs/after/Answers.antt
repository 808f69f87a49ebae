use Rattle.text.specs.Tests.{tests}
use Rattle.names.specs.Layout.{after_of}
use Rattle.names.proofs.after.Goals as goal

pub returns-then-places-eq0 : goal.returns-then-places-eq0
unfolding after_of
returns-then-places-eq0 c = search tests

pub returns-else-places-eq0 : goal.returns-else-places-eq0
unfolding after_of
returns-else-places-eq0 c = search (tests, c.if-places-eq0.false)
