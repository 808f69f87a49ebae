-- The exceptions stand behind the licences in the table.
use Rattle.std.proofs.Common.{length, sym, ap}
use Rattle.names.specs.Listed.{listed_count}
use Rattle.names.specs.Lookup.{exception_name}
use Rattle.names.proofs.LayoutLaws.{counts}
use Rattle.canonical.specs.Turn.{goes}
use Rattle.canonical.specs.PutLaws.{exception_at, room_as, put_as}
use Rattle.canonical.proofs.put_exception.Goals as goal

pub overflow_add-k : goal.overflow_add-k
overflow_add-k c = omega counts

pub put_name-len-requires : goal.put_name-len-requires
put_name-len-requires c =
    let w = exception_at _ c.args.k (sym listed_count) c.requires.0 in
    (w.0, room_as c.args.n _ (exception_name c.args.k) (length c.args.out.now) w.1 c.requires.1)

pub returns : goal.returns
returns c =
    let w = exception_at _ c.args.k (sym listed_count) c.requires.0 in
    let p = put_as c.args.n _ (exception_name c.args.k) c.args.out.now _ _ w.1 c.put_name-len.ensures in
    (ap (goes c.args.e) p.0, p.1)
