-- Whether what is left of the name begins what is left of the text is whether the whole name begins the text.
use Rattle.std.proofs.Common.{◌≡◌, drop}
use Rattle.text.specs.Text.{begins}
use Rattle.names.specs.Layout.{name_at}
use Rattle.names.proofs.begins.Given as goal

abbrev pub invariant-loop-i : goal.invariant-loop-i
invariant-loop-i l = begins (name_at l.k) l.s ≡ begins (drop l.i (name_at l.k)) (drop l.i l.s)
