-- At the loop's head the first i bytes of the name are written.
use Rattle.text.proofs.OverlayLaws.{Writing}
use Rattle.names.specs.Layout.{name_at}
use Rattle.names.proofs.put_name.Given as goal

abbrev pub invariant-loop-i : goal.invariant-loop-i
invariant-loop-i l = Writing l.at (name_at l.k) l.initial.out l.out l.i
