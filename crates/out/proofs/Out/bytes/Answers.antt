use Rattle.std.proofs.Common.{rules, arith, ◌≤◌, ◌++◌, length, take, sym, ap, ◌∙◌}
use Rattle.std.proofs.lemmas.Slice.{take-put_mid}
use Rattle.out.proofs.Room.{take-room}
use Rattle.out.proofs.Out.bytes.Goals as goal

pub returns : goal.returns
returns g c =
    let o = c.self.inside in
    let fits : o.len ≤ length o.bytes = omega (arith, c.self.told, c.self.invariant) in
    take-put_mid o.len _ o.bytes c.copy_from_slice.new.self _ (search rules) fits
    ∙ ap (λ zs. take o.len o.bytes ++ zs) (c.copy_from_slice.ensures.after ∙ ap (λ n. take n c.args.s.now) c.min-n.ensures)
    ∙ sym (take-room g.row.ROOM o.len o.bytes c.args.s.now fits c.self.invariant)
    ∙ ap (λ zs. take g.row.ROOM (zs ++ c.args.s.now)) c.self.view_is
