-- No imprecise name from k on begins the text.
use Rattle.std.proofs.Common.{◌≡◌, ◌+◌, ◌≤◌, ◌<◌, ℕ, false, length}
use Rattle.text.specs.Text.{begins}
use Rattle.names.specs.Listed.{listed, exceptions, imprecise}
use Rattle.names.specs.Lookup.{bytes_at, imprecise_texts}
use Rattle.names.specs.Layout.{rows}
use Rattle.names.proofs.imprecise.Given as goal

abbrev pub invariant-loop-k : goal.invariant-loop-k
invariant-loop-k l =
    (l.k ≤ length rows)
    × ((j : ℕ) → l.k ≤ length listed + length exceptions + j → j < length imprecise → begins (bytes_at imprecise_texts j) l.rest ≡ false)
