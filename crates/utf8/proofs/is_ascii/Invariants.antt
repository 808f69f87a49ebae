-- What is left of the text decides the whole.
use Rattle.std.proofs.Common.{◌≡◌, drop}
use Rattle.std.specs.Prelude.{◌&&◌}
use Rattle.text.specs.Every.{all_of}
use Rattle.utf8.specs.Utf8.{ascii_byte}
use Rattle.utf8.proofs.is_ascii.Given as goal

abbrev pub invariant-loop-b : goal.invariant-loop-b
invariant-loop-b l = all_of ascii_byte l.s ≡ (l.ok && all_of ascii_byte (drop l.b-index l.s))
