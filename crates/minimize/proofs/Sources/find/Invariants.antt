-- The licensees stored so far, and their places, are those found among the ones listed so far.
use Rattle.std.proofs.Common.{◌≡◌, ◌≤◌, length, take}
use Rattle.minimize.specs.Posed.{found_terms, found_places}
use Rattle.minimize.proofs.Sources.find.Given as goal

abbrev pub invariant-loop-i : goal.invariant-loop-i
invariant-loop-i l =
    (l.k ≤ l.i) × (length l.found ≡ 64) × (length l.places ≡ 64)
    × (take l.k l.found ≡ found_terms l.self.file.now l.self.text.now l.leaves (take l.i l.list))
    × (take l.k l.places ≡ found_places l.self.file.now l.self.text.now l.leaves (take l.i l.list))
