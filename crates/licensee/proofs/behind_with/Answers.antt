-- Behind WITH, by the step there and the next.
use Rattle.std.proofs.Common.{rules, ◌≡◌, Some}
use Rattle.lexer.specs.declared.Got.{Got}
use Rattle.licensee.proofs.BodyLaws.{tokens_got, tokens_none, tokens_refused, step_fits}
use Rattle.licensee.proofs.behind_with.Goals as goal

pub returns-in_default : goal.returns-in_default
returns-in_default c = rw (tokens_none _ _ c.strict.ensures c.scan.ensures c.in_default.is (search rules))

pub returns-in_default-2 : goal.returns-in_default-2
returns-in_default-2 c = rw (tokens_refused _ _ c.strict.ensures c.scan.ensures c.in_default.is)

pub returns-in_default-scan : goal.returns-in_default-scan
returns-in_default-scan c =
    let g : (g : Got) × (c.in_default-scan.field-0 ≡ Some g) = search rules in
    rw (
      tokens_got _ _ c.strict.ensures c.scan.ensures c.in-Ok-Some.is c.in-Ok-Some.field-0-is,
      tokens_got _ _ c.strict-2.ensures c.scan-2.ensures c.in_default-scan.is g.1,
    )

pub returns-in_default-scan-2 : goal.returns-in_default-scan-2
returns-in_default-scan-2 c =
    rw (
      tokens_got _ _ c.strict.ensures c.scan.ensures c.in-Ok-Some.is c.in-Ok-Some.field-0-is,
      tokens_refused _ _ c.strict-2.ensures c.scan-2.ensures c.in_default-scan.is,
    )

pub addition_in-requires : goal.addition_in-requires
addition_in-requires c = step_fits _ _ _ _ c.args.body.small c.scan.ensures c.in-Ok-Some.is c.in-Ok-Some.field-0-is

pub returns : goal.returns
returns c =
    rw (
      tokens_got _ _ c.strict.ensures c.scan.ensures c.in-Ok-Some.is c.in-Ok-Some.field-0-is,
      tokens_none _ _ c.strict-2.ensures c.scan-2.ensures c.in-Ok-None.is c.in-Ok-None.field-0-is,
    )
    c.addition_in.ensures
