-- No second answer fits the contract of a public function of this crate: the cursor and the text decide a reader, and mode, text and place a step.
use Rattle.std.specs.Prelude.{ℕ, ◌≡◌, List}
use Rattle.std.proofs.Common.{sym, ◌∙◌}
use Rattle.std.specs.Borrow.{Bor}
use Rattle.text.specs.One.{One, one}
use Rattle.mode.specs.declared.Mode.{Mode}
use Rattle.lexer.specs.declared.Cursor.{Cursor}
use Rattle.lexer.specs.Lex.{step_of}
use Rattle.reader.specs.declared.Reader.{Reader}

-- two readers with the same cursor and the same text are the same: of `new` and of `moved`
reader_one : (c : Cursor) (t : Bor (List ℕ)) (r q : Reader) → (r.cursor ≡ c) × (r.text ≡ t) → (q.cursor ≡ c) × (q.text ≡ t) → r ≡ q
reader_one c t r q a b = λ i. record { cursor = (a.0 ∙ sym b.0) i; text = (a.1 ∙ sym b.1) i }

-- of `step`
step_one : (r : Reader) → One (step_of r.text.now r.cursor.mode r.cursor.at)
step_one r = one (step_of r.text.now r.cursor.mode r.cursor.at)

-- of `step_at`
step_at_one : (s : List ℕ) (m : Mode) (at : ℕ) → One (step_of s m at)
step_at_one s m at = one (step_of s m at)
