-- The mask so far is that of the found licensees passed.
use Rattle.std.proofs.Common.{◌≡◌, take}
use Rattle.minimize.specs.Posed.{mask_of}
use Rattle.minimize.proofs.Sources.mask_of.Given as goal

abbrev pub invariant-loop-i : goal.invariant-loop-i
invariant-loop-i l = l.m ≡ mask_of l.self.file.now l.self.text.now (take l.i l.found) l.x
