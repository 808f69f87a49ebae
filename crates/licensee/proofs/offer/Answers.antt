-- Offset, length and end are tested before the body is read.
use Rattle.std.proofs.Common.{sym, ◌∙◌}
use Rattle.text.specs.Text.{part}
use Rattle.licensee.proofs.FileLaws.{offer_unfit, offer_past, offer_in}
use Rattle.licensee.proofs.offer.Goals as goal

pub returns-then-from-a : goal.returns-then-from-a
returns-then-from-a c =
    let a = c.args in
    sym (offer_unfit a.file.now a.i a.a _ a.n c.get16-from.ensures.0 c.requires.2 c.if-from-a.true)

pub returns-then-file-a : goal.returns-then-file-a
returns-then-file-a c =
    let a = c.args in
    sym (offer_past a.file.now a.i a.a _ a.n c.get16-from.ensures.0 c.requires.2 c.if-file-a.true)

pub returns : goal.returns
unfolding part
returns c =
    let a = c.args in
    c.read_body.ensures
    ∙ sym (offer_in a.file.now a.i a.a _ a.n c.get16-from.ensures.0 c.requires.2 c.if-from-a.false c.if-file-a.false)
