-- The byte behind the name says if the licence is written with a `+`.
use Rattle.std.proofs.Common.{length, sym, ◌∙◌}
use Rattle.canonical.specs.PutLaws.{piece_plussed, piece_alone, room_as, went_plussed, went_alone}
use Rattle.canonical.proofs.put_licence.Goals as goal

pub put_plussed-len-requires : goal.put_plussed-len-requires
put_plussed-len-requires c =
    let e = piece_plussed c.args.s.now c.args.k c.args.e (sym c.byte.ensures ∙ c.if-byte-eq43.true) in
    (c.requires.0, room_as c.args.n _ _ (length c.args.out.now) (sym e) c.requires.1)

pub put_alone-len-requires : goal.put_alone-len-requires
put_alone-len-requires c =
    let e = piece_alone c.args.s.now c.args.k c.args.e (λ h. c.if-byte-eq43.false (c.byte.ensures ∙ h)) in
    (c.requires.0, room_as c.args.n _ _ (length c.args.out.now) (sym e) c.requires.1)

pub returns-then-byte-eq43 : goal.returns-then-byte-eq43
returns-then-byte-eq43 c =
    let a = c.args in
    went_plussed a.s.now a.k a.e a.n a.out.now _ _ (sym c.byte.ensures ∙ c.if-byte-eq43.true) c.put_plussed-len.ensures

pub returns : goal.returns
returns c =
    let a = c.args in
    went_alone a.s.now a.k a.e a.n a.out.now _ _ (λ h. c.if-byte-eq43.false (c.byte.ensures ∙ h)) c.put_alone-len.ensures
