-- A GNU name and its `+` are the "-or-later" name; a name that has none is its own stem.
use Rattle.std.proofs.Common.{length, sym, ◌∙◌, arith}
use Rattle.text.specs.Text.{ascii}
use Rattle.names.specs.Layout.{name_at}
use Rattle.names.proofs.LayoutLaws.{counts}
use Rattle.canonical.specs.Canonical.{plussed}
use Rattle.canonical.specs.PutLaws.{plussed_later, plussed_suffixed, room_as, room_front, room_behind, put_as, put_both}
use Rattle.canonical.proofs.put_later.Goals as goal

pub put_name-requires : goal.put_name-requires
put_name-requires c =
    let w = plussed_later c.args.k _ (sym c.later.ensures ∙ c.in-Some.is) in
    (w.0, room_as c.args.at _ (plussed c.args.k) (length c.args.out.now) w.1 c.requires.2)

pub put_name-n-requires : goal.put_name-n-requires
put_name-n-requires c =
    let e = plussed_suffixed c.args.k c.requires.1 (sym c.later.ensures ∙ c.in-None.is) in
    (omega counts, room_front c.args.at (name_at c.args.k) (ascii "-or-later") (plussed c.args.k) (length c.args.out.now) e c.requires.2)

pub put-requires : goal.put-requires
put-requires c =
    let a = c.args in
    let e = plussed_suffixed a.k c.requires.1 (sym c.later.ensures ∙ c.in-None.is) in
    room_behind a.at (name_at a.k) (ascii "-or-later") a.out.now _ _ c.put_name-n.ensures (plussed a.k) e c.requires.2

pub returns-in-Some : goal.returns-in-Some
returns-in-Some c =
    let w = plussed_later c.args.k _ (sym c.later.ensures ∙ c.in-Some.is) in
    put_as c.args.at _ (plussed c.args.k) c.args.out.now _ _ w.1 c.put_name.ensures

pub returns-in-None : goal.returns-in-None
returns-in-None c =
    let a = c.args in
    let e = plussed_suffixed a.k c.requires.1 (sym c.later.ensures ∙ c.in-None.is) in
    put_both a.at (name_at a.k) (ascii "-or-later") a.out.now _ _ c.put_name-n.ensures (plussed a.k) _ _ e (omega arith) c.put.ensures
