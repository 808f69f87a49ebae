-- How the evaluator is run from a place on: a turn, and the end.
use Rattle.std.specs.Prelude.{ℕ, ◌+◌, ◌≤◌, ◌<◌, ◌≡◌, List, length, get_or, drop}
use Rattle.std.proofs.Common.{add-one, drop_of_length-le}
use Rattle.std.proofs.Math.Seq.{drop-cons}
use Rattle.masks.specs.declared.Node.{Node}
use Rattle.masks.specs.Value.{step, run}

module _ (nodes : List Node) (m st i : ℕ) where
  pub run_more : (d : Node) (r : ℕ) → i < length nodes → r ≡ step (get_or nodes i d) m st → run (drop (i + 1) nodes) m r ≡ run (drop i nodes) m st
  unfolding run
  run_more d r h e = rw (add-one, drop-cons nodes i d, e)

  pub run_end : length nodes ≤ i → run (drop i nodes) m st ≡ st
  unfolding run
  run_end h = rw (drop_of_length-le nodes h)
