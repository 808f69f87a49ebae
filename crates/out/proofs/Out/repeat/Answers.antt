use Rattle.std.proofs.Common.{rules, arith, ◌≤◌, ◌-◌, ◌++◌, length, take, replicate, sym, ap, ◌∙◌}
use Rattle.std.proofs.lemmas.Slice.{take-put_mid}
use Rattle.out.proofs.Room.{take-room, replicate-room}
use Rattle.out.proofs.Out.repeat.Goals as goal

pub returns : goal.returns
returns g c =
    let o = c.self.inside in
    let fits : o.len ≤ length o.bytes = omega (arith, c.self.told, c.self.invariant) in
    take-put_mid o.len _ o.bytes c.fill.new.self _ (search rules) fits
    ∙ ap (λ zs. take o.len o.bytes ++ zs) (c.fill.ensures.after (λ y e. e) ∙ ap (λ n. replicate n c.args.b) (search rules ∙ c.min-n.ensures) ∙ replicate-room (g.row.ROOM - o.len) c.args.times c.args.b)
    ∙ sym (take-room g.row.ROOM o.len o.bytes (replicate c.args.times c.args.b) fits c.self.invariant)
    ∙ ap (λ zs. take g.row.ROOM (zs ++ replicate c.args.times c.args.b)) c.self.view_is
