-- A body, by its check, its first step, the licence and what follows.
use Rattle.std.proofs.Common.{rules, sym, ◌∙◌}
use Rattle.licensee.proofs.BodyLaws.{tokens_got, tokens_none, tokens_refused, step_fits, body_bad, body_fine}
use Rattle.licensee.proofs.read_body.Goals as goal

pub returns-in_default : goal.returns-in_default
returns-in_default c = rw (body_bad _ _ _ (sym c.check.ensures ∙ c.in_default.is))

pub returns-in_default-scan : goal.returns-in_default-scan
returns-in_default-scan c =
    rw (body_fine _ _ _ (sym c.check.ensures ∙ c.in-Ok.is), tokens_none _ _ c.strict.ensures c.scan.ensures c.in_default-scan.is (search rules))

pub returns-in_default-scan-2 : goal.returns-in_default-scan-2
returns-in_default-scan-2 c =
    rw (body_fine _ _ _ (sym c.check.ensures ∙ c.in-Ok.is), tokens_refused _ _ c.strict.ensures c.scan.ensures c.in_default-scan.is)

pub licence_in-requires : goal.licence_in-requires
licence_in-requires c = step_fits _ _ _ _ c.args.body.small c.scan.ensures c.in-Ok-Some.is c.in-Ok-Some.field-0-is

pub returns-in_default-licence_in : goal.returns-in_default-licence_in
returns-in_default-licence_in c =
    rw (
      body_fine _ _ _ (sym c.check.ensures ∙ c.in-Ok.is),
      tokens_got _ _ c.strict.ensures c.scan.ensures c.in-Ok-Some.is c.in-Ok-Some.field-0-is,
      ← c.licence_in.ensures,
      c.in_default-licence_in.is,
    )

pub returns-in_default-behind_licence : goal.returns-in_default-behind_licence
returns-in_default-behind_licence c =
    rw (
      body_fine _ _ _ (sym c.check.ensures ∙ c.in-Ok.is),
      tokens_got _ _ c.strict.ensures c.scan.ensures c.in-Ok-Some.is c.in-Ok-Some.field-0-is,
      ← c.licence_in.ensures,
      c.in-Some.is,
      ← c.behind_licence.ensures,
      c.in_default-behind_licence.is,
    )

pub returns : goal.returns
returns c =
    rw (
      body_fine _ _ _ (sym c.check.ensures ∙ c.in-Ok.is),
      tokens_got _ _ c.strict.ensures c.scan.ensures c.in-Ok-Some.is c.in-Ok-Some.field-0-is,
      ← c.licence_in.ensures,
      c.in-Some.is,
      ← c.behind_licence.ensures,
      c.in-Some-behind_licence.is,
    )
