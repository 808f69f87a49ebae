-- Equal kinds, and then the licences and the additions.
use Rattle.std.proofs.Common.{eq-eqb}
use Rattle.text.specs.Tests.{tests}
use Rattle.licensee.specs.Terms.{same_terms}
use Rattle.licensee.proofs.same_terms.Goals as goal

pub returns-then-a-b : goal.returns-then-a-b
unfolding same_terms
returns-then-a-b c = search tests

pub returns-then-same_term : goal.returns-then-same_term
unfolding same_terms
returns-then-same_term c =
    rw (eq-eqb _ _ c.if-a-b.false, ← c.same_term.ensures, c.if-same_term.true) c.same_term-then-same_term.ensures

pub returns-else-same_term : goal.returns-else-same_term
unfolding same_terms
returns-else-same_term c = rw (eq-eqb _ _ c.if-a-b.false, ← c.same_term.ensures, c.if-same_term.false)
