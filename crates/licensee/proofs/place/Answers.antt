-- Of a valid file it is known where each entry stands.
use Rattle.std.proofs.Common.{sym, ◌∙◌, arith}
use Rattle.licensee.specs.Offers.{list_of, offset, size}
use Rattle.licensee.proofs.FileLaws.{place_none, place_some, entry_room, has_wrong, has_past, has_in}
use Rattle.licensee.proofs.place.Goals as goal

pub returns-in_default : goal.returns-in_default
returns-in_default c =
    let a = c.args in
    sym (place_none a.file.now a.i (has_wrong a.i (list_of a.file.now) _ (sym c.check.ensures ∙ c.in_default.is)))

pub returns-then-c-i : goal.returns-then-c-i
returns-then-c-i c =
    let a = c.args in
    sym (place_none a.file.now a.i (has_past a.i (list_of a.file.now) _ (sym c.check.ensures ∙ c.in-Ok.is) c.if-c-i.true))

pub overflow_mul-i : goal.overflow_mul-i
overflow_mul-i c = omega (arith, (entry_room c.args.file.now c.args.i _ (sym c.check.ensures ∙ c.in-Ok.is) c.if-c-i.false).0)

pub overflow_add-i : goal.overflow_add-i
overflow_add-i c = omega (arith, (entry_room c.args.file.now c.args.i _ (sym c.check.ensures ∙ c.in-Ok.is) c.if-c-i.false).0)

pub get16-from-requires : goal.get16-from-requires
get16-from-requires c = omega (arith, (entry_room c.args.file.now c.args.i _ (sym c.check.ensures ∙ c.in-Ok.is) c.if-c-i.false).0)

pub overflow_mul-i-2 : goal.overflow_mul-i-2
overflow_mul-i-2 c = omega (arith, (entry_room c.args.file.now c.args.i _ (sym c.check.ensures ∙ c.in-Ok.is) c.if-c-i.false).0)

pub overflow_add-i-2 : goal.overflow_add-i-2
overflow_add-i-2 c = omega (arith, (entry_room c.args.file.now c.args.i _ (sym c.check.ensures ∙ c.in-Ok.is) c.if-c-i.false).0)

pub get16-n-requires : goal.get16-n-requires
get16-n-requires c = omega (arith, (entry_room c.args.file.now c.args.i _ (sym c.check.ensures ∙ c.in-Ok.is) c.if-c-i.false).0)

pub returns : goal.returns
unfolding offset size
returns c =
    let a = c.args in
    let n = place_some a.file.now a.i (has_in a.i (list_of a.file.now) _ (sym c.check.ensures ∙ c.in-Ok.is) c.if-c-i.false) in
    rw (c.get16-from.ensures.0, c.get16-n.ensures.0) (sym n)
