-- The part of the table that is searched holds the exceptions, ascending.
use Rattle.std.proofs.Common.{List, sym, ◌∙◌, ap, subst}
use Prim.Native.String.{String}
use Rattle.names.specs.Listed.{listed_count}
use Rattle.names.specs.Lookup.{lookup, exception_of}
use Rattle.names.specs.Order.{Ascending}
use Rattle.names.specs.Rules.{exceptions_ascend}
use Rattle.names.proofs.LayoutLaws.{counts, part_exceptions}
use Rattle.names.proofs.exception.Goals as goal

pub find-requires : goal.find-requires
find-requires c =
    (omega counts, omega counts, subst Ascending (sym (part_exceptions _ _ listed_count (omega counts))) exceptions_ascend)

pub returns : goal.returns
unfolding exception_of
returns c =
    c.find.ensures ∙ ap (λ (ns : List String). lookup ns c.args.run.now) (part_exceptions _ _ listed_count (omega counts))
