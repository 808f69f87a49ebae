-- The part of the table that is searched holds the licences, ascending.
use Rattle.std.proofs.Common.{List, sym, ◌∙◌, ap, subst}
use Prim.Native.String.{String}
use Rattle.names.specs.Listed.{listed_count}
use Rattle.names.specs.Lookup.{lookup, licence_of}
use Rattle.names.specs.Order.{Ascending}
use Rattle.names.specs.Rules.{licences_ascend}
use Rattle.names.proofs.LayoutLaws.{counts, part_licences}
use Rattle.names.proofs.licence.Goals as goal

pub find-requires : goal.find-requires
find-requires c = (omega counts, omega counts, subst Ascending (sym (part_licences _ listed_count)) licences_ascend)

pub returns : goal.returns
unfolding licence_of
returns c = c.find.ensures ∙ ap (λ (ns : List String). lookup ns c.args.run.now) (part_licences _ listed_count)
