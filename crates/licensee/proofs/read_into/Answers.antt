-- The entries are read where the contents are whole.
use Rattle.std.proofs.Common.{sym, ap, ◌∙◌, arith}
use Rattle.licensee.specs.Terms.{accepted_of}
use Rattle.licensee.proofs.FileLaws.{contents_are, list_entries, list_cut}
use Rattle.licensee.proofs.read_into.Goals as goal

pub bounds-file-0 : goal.bounds-file-0
bounds-file-0 c = omega (arith, (contents_are _ (sym c.has_contents.ensures ∙ c.if-has_contents.true)).some)

pub read_entries-requires : goal.read_entries-requires
read_entries-requires c =
    let w = contents_are _ (sym c.has_contents.ensures ∙ c.if-has_contents.true) in
    (w.few, w.table, c.requires)

pub returns-then-has_contents : goal.returns-then-has_contents
returns-then-has_contents c =
    let e = list_entries _ (sym c.has_contents.ensures ∙ c.if-has_contents.true) in
    (c.read_entries.ensures.0 ∙ ap accepted_of (sym e), rw e c.read_entries.ensures.1)

pub returns-else-has_contents : goal.returns-else-has_contents
returns-else-has_contents c =
    let e = list_cut _ (sym c.has_contents.ensures ∙ c.if-has_contents.false) in
    (ap accepted_of (sym e), rw e tt)
