-- What is found is more than 30, or poses the problem.
use Rattle.std.proofs.Common.{◌∙◌, arith, length-take-le}
use Rattle.minimize.proofs.PosedLaws.{pose_many, pose_some}
use Rattle.minimize.proofs.Sources.pose_list.Goals as goal

pub returns-then-k-gt30 : goal.returns-then-k-gt30
returns-then-k-gt30 c =
    let a = c.args in
    let n = c.put_leaves-n.ensures in
    let w = c.find-k.ensures in
    pose_many a.self.now.file.now a.self.now.text.now a.list.now a.nodes.now n.2 _ _ _ (w.0 ∙ rw n.0) (length-take-le _ _ (omega arith)) (w.1 ∙ rw n.0) (omega arith) _
    c.if-k-gt30.true

pub returns : goal.returns
returns c =
    let a = c.args in
    let n = c.put_leaves-n.ensures in
    let w = c.find-k.ensures in
    pose_some a.self.now.file.now a.self.now.text.now a.list.now a.nodes.now n.2 _ _ _ (w.0 ∙ rw n.0) (length-take-le _ _ (omega arith)) (w.1 ∙ rw n.0) (omega arith) _
    (omega arith) c.requires.1 c.put_masks.array_long c.put_masks.ensures c.find-k.array_long2
