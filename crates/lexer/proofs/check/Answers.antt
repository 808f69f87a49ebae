use Rattle.std.proofs.Common.{sym, arith}
use Rattle.utf8.specs.BoundaryLaws.{boundary_le, ill_boundary}
use Rattle.lexer.proofs.Agree.{check_ill, check_fine}
use Rattle.lexer.proofs.check.Goals as goal

pub returns-then-start-s : goal.returns-then-start-s
returns-then-start-s c =
    let s = c.args.s.now in
    rw c.first_ill-start.ensures (sym (check_ill s (omega arith) (omega (arith, c.first_ill-start.ensures))))

pub returns : goal.returns
returns c =
    let s = c.args.s.now in
    sym (check_fine s (omega arith) (omega (arith, c.first_ill-start.ensures, boundary_le (ill_boundary s))))
