-- Known tokens are spelled in ASCII, so their spelling is well-formed, and may be read if it is short enough.
use Rattle.std.specs.Prelude.{◌≡◌, refl, Bool, true, List, [], ◌∷◌, ◌++◌, ℕ, ◌≤◌, length, Ok, Option, Some, None}
use Rattle.std.proofs.Common.{le-leb}
use Rattle.text.specs.Text.{ascii}
use Rattle.text.specs.Every.{all_of, All, all_of_lem, all_append}
use Rattle.text.specs.Runs.{ref_byte, run_byte}
use Rattle.text.specs.RunLaws.{ref_run, run_ascii}
use Rattle.utf8.specs.Utf8.{ascii_byte}
use Rattle.utf8.specs.Laws.{ascii_well}
use Rattle.names.specs.Lookup.{licence_name, exception_name}
use Rattle.names.specs.Shape.{licence_proper, exception_proper}
use Rattle.lexer.specs.Lex.{check_of}
use Rattle.lexer.proofs.Agree.{check_fine}
use Rattle.lexer.specs.Sign.{name, reference, unknown, exception, addition, plus, WITH, AND, OR, LP, RP, bad}
use Rattle.lexer.specs.Spelling.{Naming, Spoken, behind_doc, spell, spell_all}
use Rattle.lexer.specs.Apart.{KnownDoc, KnownRef, Known, AllKnown}

-- bytes that p picks are ASCII, if each byte that it picks is
all_low : (p : ℕ → Bool) → ((b : ℕ) → p b ≡ true → b ≤ 0x7F) → (n : List ℕ) → All p n → All ascii_byte n
all_low p low [] a = tt
all_low p low (b ∷ n) a = (le-leb b 0x7F (low b a.0), all_low p low n a.1)

run_low : (n : List ℕ) → All run_byte n → All ascii_byte n
run_low n a = all_low run_byte run_ascii n a

ref_low : (n : List ℕ) → All ref_byte n → All ascii_byte n
ref_low n a = all_low ref_byte (λ b e. run_ascii b (ref_run b e)) n a

doc_low : (d : Option (List ℕ)) (w : List ℕ) → KnownDoc d → All ascii_byte w → All ascii_byte (behind_doc d w)
unfolding all_of
doc_low None w g a = a
doc_low (Some d) w g a =
    all_append ascii_byte (ascii "DocumentRef-") (d ++ (ascii ":" ++ w)) (all_of_lem ascii_byte (ascii "DocumentRef-") refl)
    (all_append ascii_byte d (ascii ":" ++ w) (ref_low d g) (refl, a))

ref_spelled : (p : List ℕ) (r : Naming) → all_of ascii_byte p ≡ true → KnownRef r → All ascii_byte (behind_doc r.0 (p ++ r.1))
ref_spelled p r e g = doc_low r.0 (p ++ r.1) g.0 (all_append ascii_byte p r.1 (all_of_lem ascii_byte p e) (ref_low r.1 g.1))

spell_low : (x : Spoken) → Known x → All ascii_byte (spell x)
unfolding all_of
spell_low (name k p) g = run_low (licence_name k) (licence_proper k g).run
spell_low (reference r p) g = ref_spelled (ascii "LicenseRef-") r refl g
spell_low (unknown r p) g = absurd g
spell_low (exception k) g = run_low (exception_name k) (exception_proper k g).run
spell_low (addition r) g = ref_spelled (ascii "AdditionRef-") r refl g
spell_low plus g = all_of_lem ascii_byte (ascii "+") refl
spell_low WITH g = all_of_lem ascii_byte (ascii " WITH ") refl
spell_low AND g = all_of_lem ascii_byte (ascii " AND ") refl
spell_low OR g = all_of_lem ascii_byte (ascii " OR ") refl
spell_low LP g = all_of_lem ascii_byte (ascii "(") refl
spell_low RP g = all_of_lem ascii_byte (ascii ")") refl
spell_low bad g = absurd g

spelled_low : (w : List Spoken) → AllKnown w → All ascii_byte (spell_all w)
unfolding spell_all
spelled_low [] g = tt
spelled_low (x ∷ w) g = all_append ascii_byte (spell x) (spell_all w) (spell_low x g.0) (spelled_low w g.1)

-- the fact of every byte, as the test
all_test : (p : ℕ → Bool) (s : List ℕ) → All p s → all_of p s ≡ true
unfolding all_of
all_test p [] a = refl
all_test p (b ∷ s) a = rw a.0 (all_test p s a.1)

pub spelled_fine : (w : List Spoken) → AllKnown w → length (spell_all w) ≤ 1024 → check_of (spell_all w) ≡ (Ok tt)
spelled_fine w g h = check_fine (spell_all w) h (ascii_well (spell_all w) (all_test ascii_byte (spell_all w) (spelled_low w g)))
