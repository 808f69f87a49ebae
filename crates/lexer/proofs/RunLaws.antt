-- Laws of a text's runs: where they end, what they are made of, and that a run goes on behind each part of it.
use Rattle.std.specs.Prelude.{ℕ, ◌+◌, ◌<◌, ◌≤◌, ◌≡◌, true, List, length, get_or, drop}
use Rattle.text.specs.Text.{begins}
use Rattle.text.specs.Walk.{one}
use Rattle.text.specs.WalkLaws.{reach_ge, reach_le}
use Rattle.text.specs.Runs.{ref_byte, run_byte}
use Rattle.text.specs.RunLaws.{walk_all, walk_byte, walk_word, walk_through, ref_run, run_zero, ref_zero}
use Rattle.text.specs.Every.{All}
use Rattle.lexer.specs.Lex.{run_end, ref_end}

module _ (s : List ℕ) (at : ℕ) where
  -- a run does not end before it starts
  pub run_ge : at ≤ run_end s at
  unfolding run_end
  run_ge = reach_ge (one run_byte) s at

  -- a run ends inside the text
  pub run_le : at ≤ length s → run_end s at ≤ length s
  unfolding run_end
  run_le h = reach_le (one run_byte) s at h

  -- a reference's name does not end before it starts
  pub ref_ge : at ≤ ref_end s at
  unfolding ref_end
  ref_ge = reach_ge (one ref_byte) s at

  -- every byte of a run is a run byte
  pub run_all : (x : ℕ) → at ≤ x → x < run_end s at → run_byte (get_or s x 0) ≡ true
  unfolding run_end
  run_all x = walk_all run_byte run_zero s at x

  -- a run goes on behind a run byte
  pub run_byte_lem : run_byte (get_or s at 0) ≡ true → run_end s at ≡ run_end s (at + 1)
  unfolding run_end
  run_byte_lem e = walk_byte run_byte run_zero s at e

  -- a run goes on behind a word of run bytes
  pub run_word : (w : List ℕ) → All run_byte w → begins w (drop at s) ≡ true → run_end s at ≡ run_end s (at + length w)
  unfolding run_end
  run_word w h e = walk_word run_byte run_zero w s at h e

  -- a run goes on behind a reference's name
  pub run_ref : run_end s at ≡ run_end s (ref_end s at)
  unfolding run_end ref_end
  run_ref = walk_through run_byte ref_byte run_zero ref_zero ref_run s at
