use Rattle.std.proofs.Common.{sym, ◌∙◌}
use Rattle.packed.specs.RecordLaws.{answers_of, parsed_refused}
use Rattle.terminal.proofs.tasgilfrem_parse.Goals as goal

pub returns-in-Err : goal.returns-in-Err
returns-in-Err c =
    answers_of c.args.text.now _ _ _ c.args.out.now _ _ (sym c.in-Err.is ∙ c.parse.ensures) c.from.ensures
    (parsed_refused c.args.out.now _ _ c.refused.ensures)
