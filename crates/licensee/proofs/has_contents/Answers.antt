-- Three tests, the definition's own.
use Rattle.text.specs.Tests.{tests}
use Rattle.licensee.specs.Offers.{contents}
use Rattle.licensee.proofs.has_contents.Goals as goal

pub returns-then-file-lt1 : goal.returns-then-file-lt1
unfolding contents
returns-then-file-lt1 c = search tests

pub returns-then-c-gt64 : goal.returns-then-c-gt64
unfolding contents
returns-then-c-gt64 c = search tests

pub returns : goal.returns
unfolding contents
returns c = search tests
