-- No name up to k is the run: each has another length or stands before it.
use Rattle.std.proofs.Common.{◌≡◌, ℕ, ◌-◌, ◌<◌}
use Rattle.names.specs.Lookup.{bytes_at}
use Rattle.names.specs.Layout.{texts, part}
use Rattle.names.proofs.find.Given as goal

abbrev pub invariant-loop-k : goal.invariant-loop-k
invariant-loop-k l = (j : ℕ) → j < l.k - l.from → bytes_at (texts (part l.from l.to)) j ≡ l.run → ⊥
