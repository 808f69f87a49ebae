-- One step of the lexer. Document 01, "From bytes to tokens", sentence by sentence, with refusals 1 to 5 and 20 and their order.
use Rattle.refusal.specs.declared.Refusal.{Refusal}
use Rattle.lexer.specs.Step.{Step}
use Rattle.std.specs.Prelude.{ℕ, ◌+◌, cond, ◌&&◌, ◌||◌, List, length, get_or, drop, eqb, leb, ltb, Option, Some, None, Result, Ok, Err, ⊤}
use Rattle.text.specs.Text.{ascii, begins, same, part}
use Rattle.text.specs.Walk.{reach, one}
use Rattle.text.specs.Runs.{ref_byte, run_byte}
use Rattle.utf8.specs.Utf8.{first_ill, inside_of, past_white}
use Rattle.names.specs.Lookup.{licence_of, exception_of, imprecise_of}
use Rattle.names.specs.declared.Loose.{Loose}
use Rattle.refusal.specs.Refused.{span}
use Rattle.refusal.specs.declared.Span.{Span}
use Rattle.refusal.specs.declared.Refusal.TheVariants.{NotUtf8, TooLong, InvalidCharacters, UnknownTerm, SeparatedPlus, BadCursor}
use Rattle.mode.specs.declared.Mode.{Mode}
use Rattle.lexer.specs.declared.Token.{Token}
use Rattle.lexer.specs.declared.Token.TheVariants.{And, Or, With, Plus, Open, Close, Licence, Exception, LicenseRef, AdditionRef, Unknown}

-- "the longest run of ASCII letters, digits, `-`, `.`, `:`": where the run that starts at a place ends
unfoldable pub run_end : List ℕ → ℕ → ℕ
run_end s at = reach (one run_byte) s at

-- "A reference ends at the next `:`", or where its run does
unfoldable pub ref_end : List ℕ → ℕ → ℕ
ref_end s at = reach (one ref_byte) s at

-- "The run is tried in order": what the first try says that says something
abbrev pub or_else : Option (Token × ℕ) → Option (Token × ℕ) → Option (Token × ℕ)
or_else (Some x) w = Some x
or_else None w = w

-- "AND/and, OR/or, WITH/with", and no other spelling: the run r, which ends at e
unfoldable pub operator_of : List ℕ → ℕ → Option (Token × ℕ)
operator_of r e =
    cond (same r (ascii "AND") || same r (ascii "and")) (Some (And, e))
    (cond (same r (ascii "OR") || same r (ascii "or")) (Some (Or, e))
    (cond (same r (ascii "WITH") || same r (ascii "with")) (Some (With, e))
    None))

-- "licence", and "exception": the whole run is a listed name
abbrev pub found : (ℕ → Token) → ℕ → Option ℕ → Option (Token × ℕ)
found kind e (Some k) = Some (kind k, e)
found kind e None = None

-- "LicenseRef", and "AdditionRef": the prefix w at a place q, and a name after it, which may be empty. A prefix is made of run bytes, so
-- what stands at q in the text stands there in the run.
unfoldable pub ref_of : (Option Span → Span → Token) → List ℕ → Option Span → List ℕ → ℕ → Option (Token × ℕ)
ref_of kind w d s q =
    cond (begins w (drop q s))
    (Some (kind d (span (q + length w) (ref_end s (q + length w))), ref_end s (q + length w)))
    None

-- "DocumentRef with" one of them: "DocumentRef forms split at the first `:`", which is where ref_end from p on ends, if the run has one;
-- behind it stands the reference
unfoldable pub documented : (Option Span → Span → Token) → List ℕ → List ℕ → ℕ → Option (Token × ℕ)
documented kind w s p =
    cond (begins (ascii "DocumentRef-") (drop p s) && eqb (get_or s (ref_end s p) 0) 0x3A)
    (ref_of kind w (Some (span (p + 12) (ref_end s p))) s (ref_end s p + 1))
    None

-- "imprecise (if allowed)": the longest that begins the remaining text
abbrev pub hit : ℕ → Option Loose → Option (Token × ℕ)
hit p (Some x) = Some (Licence x.licence, p + x.len)
hit p None = None

unfoldable pub imprecise_at : List ℕ → Mode → ℕ → Option (Token × ℕ)
imprecise_at s m p = cond m.imprecise (hit p (imprecise_of (drop p s))) None

-- "unknown (if allowed)": the whole run
unfoldable pub unknown_of : Mode → ℕ → ℕ → Option (Token × ℕ)
unknown_of m p e = cond m.unknown (Some (Unknown (span p e), e)) None

-- the run from p to e, tried in order
unfoldable pub word_of : List ℕ → Mode → ℕ → ℕ → Option (Token × ℕ)
word_of s m p e =
    or_else (operator_of (part p e s) e)
    (or_else (found Licence e (licence_of (part p e s)))
    (or_else (found Exception e (exception_of (part p e s)))
    (or_else (documented LicenseRef (ascii "LicenseRef-") s p)
    (or_else (ref_of LicenseRef (ascii "LicenseRef-") None s p)
    (or_else (documented AdditionRef (ascii "AdditionRef-") s p)
    (or_else (ref_of AdditionRef (ascii "AdditionRef-") None s p)
    (or_else (imprecise_at s m p)
    (unknown_of m p e))))))))

-- the token t from a to e, and the cursor behind it
abbrev pub got : Mode → Token → ℕ → ℕ → Step
got m t a e = Ok (Some record { token = t; span = span a e; next = record { mode = m; at = e } })

-- what its tries said of the run from p to e; 4, "run not known: the run"
abbrev pub told : Mode → ℕ → ℕ → Option (Token × ℕ) → Step
told m p e (Some (t, x)) = got m t p x
told m p e None = Err (UnknownTerm (span p e))

-- 3, "no run begins here: here..end"
unfoldable pub run_of : List ℕ → Mode → ℕ → Step
run_of s m p =
    cond (eqb (run_end s p) p) (Err (InvalidCharacters (span p (length s))))
    (told m p (run_end s p) (word_of s m p (run_end s p)))

-- "Then `+`, `(`, `)`, and `/` as Or if allowed; else the longest run"; 5, "white space before `+`: that white space";
-- "At the end a step answers done". The step's white space goes from `at` to p.
unfoldable pub mark_of : List ℕ → Mode → ℕ → ℕ → Step
mark_of s m at p =
    cond (leb (length s) p) (Ok None)
    (cond (eqb (get_or s p 0) 0x2B) (cond (eqb p at) (got m Plus p (p + 1)) (Err (SeparatedPlus (span at p))))
    (cond (eqb (get_or s p 0) 0x28) (got m Open p (p + 1))
    (cond (eqb (get_or s p 0) 0x29) (got m Close p (p + 1))
    (cond (eqb (get_or s p 0) 0x2F && m.slash) (got m Or p (p + 1))
    (run_of s m p)))))

-- "White space is skipped first": the step in a text that was checked, from a place between two characters
unfoldable pub scan_of : List ℕ → Mode → ℕ → Step
scan_of s m at = mark_of s m at (past_white s at)

-- "Text is at most 1,024 bytes of well-formed UTF-8": 2, then 1, "p, where the first ill-formed sequence starts: p..p+1"
unfoldable pub check_of : List ℕ → Result ⊤ Refusal
check_of s =
    cond (ltb 1024 (length s)) (Err TooLong)
    (cond (ltb (first_ill s) (length s)) (Err (NotUtf8 (span (first_ill s) (first_ill s + 1)))) (Ok tt))

-- 20, "lexer place past the end or inside a character: the place given"
unfoldable pub from_of : List ℕ → Mode → ℕ → Step
from_of s m at = cond (ltb (length s) at || inside_of s at) (Err (BadCursor at)) (scan_of s m at)

-- what follows where the text may be read
abbrev pub if_fine : Result ⊤ Refusal → Step → Step
if_fine (Ok tt) st = st
if_fine (Err r) st = Err r

-- the step in any bytes, from any place: "2, 1, for a lexer step 20", then what stands there
unfoldable pub step_of : List ℕ → Mode → ℕ → Step
step_of s m at = if_fine (check_of s) (from_of s m at)
