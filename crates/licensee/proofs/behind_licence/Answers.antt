-- Behind the licence, by the step there.
use Rattle.licensee.proofs.BodyLaws.{tokens_got, tokens_none, tokens_refused, no_with}
use Rattle.licensee.proofs.behind_licence.Goals as goal

pub returns-in_default : goal.returns-in_default
returns-in_default c = rw (tokens_refused _ _ c.strict.ensures c.scan.ensures c.in_default.is)

pub returns-in_default-step : goal.returns-in_default-step
returns-in_default-step c = rw (tokens_none _ _ c.strict.ensures c.scan.ensures c.in-Ok.is c.in_default-step.is)

pub returns-in_default-token : goal.returns-in_default-token
returns-in_default-token c =
    rw (tokens_got _ _ c.strict.ensures c.scan.ensures c.in-Ok.is c.in-Some.is, no_with c.in-Some.got.token _ c.in_default-token.not-With)

pub returns : goal.returns
returns c = rw (tokens_got _ _ c.strict.ensures c.scan.ensures c.in-Ok.is c.in-Some.is, c.in-With.is) c.behind_with.ensures
