-- A bare GNU name is written as its "-only" name, any other as itself.
use Rattle.std.proofs.Common.{length, unwrap_or, ap, ◌∙◌}
use Rattle.canonical.specs.Canonical.{alone}
use Rattle.canonical.specs.PutLaws.{alone_named, room_as, put_as}
use Rattle.canonical.proofs.put_alone.Goals as goal

pub put_name-requires : goal.put_name-requires
put_name-requires c =
    let a = c.args in
    let w = alone_named a.k _ c.requires.0 (c.unwrap_or-j.ensures ∙ ap (λ o. unwrap_or o a.k) c.only.ensures) in
    (w.0, room_as a.at _ (alone a.k) (length a.out.now) w.1 c.requires.1)

pub returns : goal.returns
returns c =
    let a = c.args in
    let w = alone_named a.k _ c.requires.0 (c.unwrap_or-j.ensures ∙ ap (λ o. unwrap_or o a.k) c.only.ensures) in
    put_as a.at _ (alone a.k) a.out.now _ _ w.1 c.put_name.ensures
