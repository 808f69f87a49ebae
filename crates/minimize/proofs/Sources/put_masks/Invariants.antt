-- The nodes stored so far are those passed, with their masks.
use Rattle.std.proofs.Common.{◌≡◌, map, length, take}
use Rattle.minimize.specs.Posed.{masked}
use Rattle.minimize.proofs.Sources.put_masks.Given as goal

abbrev pub invariant-loop-i : goal.invariant-loop-i
invariant-loop-i l = (length l.to ≡ 127) × (take l.i l.to ≡ map (masked l.self.file.now l.self.text.now l.found) (take l.i l.nodes))
