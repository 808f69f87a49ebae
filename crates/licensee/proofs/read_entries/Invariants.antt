-- The licensees read so far stand in front of what is left of the entries.
use Rattle.licensee.proofs.FileLaws.{Walk}
use Rattle.licensee.proofs.read_entries.Given as goal

abbrev pub invariant-loop-i : goal.invariant-loop-i
invariant-loop-i l = Walk l.file l.c l.terms l.i l.a
