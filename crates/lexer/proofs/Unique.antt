-- No second answer fits the contract of a public function of this crate. So mode, text and place decide a step, and mode and text all tokens.
use Rattle.std.specs.Prelude.{ℕ, List}
use Rattle.text.specs.One.{One, one}
use Rattle.mode.specs.declared.Mode.{Mode}
use Rattle.lexer.specs.declared.Cursor.{Cursor}
use Rattle.lexer.specs.Lex.{scan_of, check_of, step_of}

check_one : (s : List ℕ) → One (check_of s)
check_one s = one (check_of s)

scan_one : (s : List ℕ) (m : Mode) (at : ℕ) → One (scan_of s m at)
scan_one s m at = one (scan_of s m at)

step_one : (c : Cursor) (s : List ℕ) → One (step_of s c.mode c.at)
step_one c s = one (step_of s c.mode c.at)
