-- A GNU name has a function of its own; any other name gets a `+`.
use Rattle.std.proofs.Common.{length, sym, ◌∙◌, arith}
use Rattle.text.specs.Text.{ascii}
use Rattle.names.specs.Layout.{name_at}
use Rattle.names.proofs.LayoutLaws.{counts}
use Rattle.canonical.specs.Canonical.{plussed}
use Rattle.canonical.specs.PutLaws.{plussed_plain, room_front, room_behind, put_both}
use Rattle.canonical.proofs.put_plussed.Goals as goal

pub put_name-n-requires : goal.put_name-n-requires
put_name-n-requires c =
    let e = plussed_plain c.args.k c.requires.0 (sym c.gnu.ensures ∙ c.if-gnu.false) in
    (omega counts, room_front c.args.at (name_at c.args.k) (ascii "+") (plussed c.args.k) (length c.args.out.now) e c.requires.1)

pub put-requires : goal.put-requires
put-requires c =
    let a = c.args in
    let e = plussed_plain a.k c.requires.0 (sym c.gnu.ensures ∙ c.if-gnu.false) in
    room_behind a.at (name_at a.k) (ascii "+") a.out.now _ _ c.put_name-n.ensures (plussed a.k) e c.requires.1

pub returns : goal.returns
returns c =
    let a = c.args in
    let e = plussed_plain a.k c.requires.0 (sym c.gnu.ensures ∙ c.if-gnu.false) in
    put_both a.at (name_at a.k) (ascii "+") a.out.now _ _ c.put_name-n.ensures (plussed a.k) _ _ e (omega arith) c.put.ensures
