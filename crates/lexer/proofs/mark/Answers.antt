use Rattle.std.proofs.Common.{◌∙◌, arith}
use Rattle.lexer.proofs.LexLaws.{mark_plus, mark_apart, mark_open, mark_close, mark_slash, mark_run}
use Rattle.lexer.proofs.mark.Goals as goal

pub returns-then-p-at : goal.returns-then-p-at
returns-then-p-at c = c.emit.ensures ∙ mark_plus _ _ _ _ (omega arith) c.if-b-eq43.true c.if-p-at.true

pub returns-then-b-eq43 : goal.returns-then-b-eq43
returns-then-b-eq43 c = mark_apart _ _ _ _ (omega arith) c.if-b-eq43.true c.if-p-at.false

pub returns-then-b-eq40 : goal.returns-then-b-eq40
returns-then-b-eq40 c = c.emit-then-b-eq40.ensures ∙ mark_open _ _ _ _ (omega arith) c.if-b-eq40.true

pub returns-then-b-eq41 : goal.returns-then-b-eq41
returns-then-b-eq41 c = c.emit-then-b-eq41.ensures ∙ mark_close _ _ _ _ (omega arith) c.if-b-eq41.true

pub returns-then-b-m : goal.returns-then-b-m
returns-then-b-m c =
    c.emit-then-b-m.ensures ∙ mark_slash _ _ _ _ (omega arith) c.if-b-eq43.false c.if-b-eq40.false c.if-b-eq41.false c.if-b-m.true

pub returns : goal.returns
returns c = c.run.ensures ∙ mark_run _ _ _ _ (omega arith) c.if-b-eq43.false c.if-b-eq40.false c.if-b-eq41.false c.if-b-m.false
