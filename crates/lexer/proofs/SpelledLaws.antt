-- A token that is spelled is heard, and what stands behind it is heard next, in every mode.
use Rattle.std.specs.Prelude.{ℕ, suc, ◌+◌, ◌-◌, ◌<◌, ◌≤◌, ◌≡◌, Bool, true, false, cond, ◌&&◌, ◌||◌, List, [], ◌∷◌, ◌++◌, eqb, get_or, drop, Some, None, Option}
use Rattle.std.proofs.Math.Path.{refl, sym, ap}
use Rattle.std.proofs.Common.{◌∙◌, true≢false, inl, inr, append_assoc, length-append, drop-drop, ne_eqb}
use Rattle.std.proofs.Math.Decide.{dec_lt}
use native.Mathlib.Omega.{arith}
use Rattle.std.proofs.Math.ListN.{length, take}
use Rattle.std.proofs.lemmas.List.{get_or_at}
use Rattle.std.proofs.Math.Seq.{drop-append-add, drop-append_seam, take-append_seam}
use Rattle.std.proofs.lemmas.Bool.{lt-leb}
use Rattle.text.specs.Text.{ascii, begins, same, within, part}
use Rattle.text.specs.TextLaws.{begins_append, same_not, same_refl, within_below, within_above}
use Rattle.text.specs.Walk.{over, reach, one}
use Rattle.text.specs.WalkLaws.{reach_stop}
use Rattle.text.specs.Runs.{ref_byte, run_byte}
use Rattle.text.specs.RunLaws.{walk_word, ref_run, run_ascii, run_zero, ref_zero}
use Rattle.text.specs.Every.{all_of, All, all_of_lem, all_append}
use Rattle.utf8.specs.Utf8.{decoded, front, white_of, white_width, past_white}
use Rattle.utf8.specs.Laws.{Single, not_white, white_not, decoded_ascii}
use Rattle.names.specs.Lookup.{licence_name, exception_name}
use Rattle.names.specs.Listed.{listed, exceptions}
use Rattle.names.specs.Shape.{Proper, licence_proper, exception_proper}
use Rattle.names.proofs.Laws.{
  licence_found,
  exception_found,
  exception_not_licence,
  Unlisted,
  license_ref_unlisted,
  addition_ref_unlisted,
  document_ref_unlisted,
}
use Rattle.refusal.specs.Refused.{span}
use Rattle.refusal.specs.declared.Span.{Span}
use Rattle.mode.specs.declared.Mode.{Mode}
use Rattle.lexer.specs.declared.Token.{Token}
use Rattle.lexer.specs.declared.Token.TheVariants.{And, Or, With, Plus, Open, Close, Licence, Exception, LicenseRef, AdditionRef}
use Rattle.lexer.specs.Lex.{run_end, ref_end, or_else, operator_of, ref_of, word_of, got, told, run_of, mark_of, scan_of}
use Rattle.lexer.specs.Shape.{listed_of, named_of, document_of, ref_at, behind, referred_of, loose_of, other_of, grouped}
use Rattle.lexer.proofs.LexLaws.{mark_plus, mark_open, mark_close, mark_run}
use Rattle.lexer.specs.Sign.{name, reference, exception, addition, plus, WITH, AND, OR, LP, RP}
use Rattle.lexer.specs.Spelling.{Spoken, said, doc_bytes, heard, behind_doc}
use Rattle.lexer.specs.Apart.{KnownDoc, KnownRef}
use Rattle.lexer.proofs.Moved.{heard_say, heard_skip}

-- a byte from 0x21 to 0x7F is no white space
no_white : (b : ℕ) (t : List ℕ) → 0x21 ≤ b → b ≤ 0x7F → white_width (b ∷ t) ≡ 0
unfolding front
no_white b t h k =
    sym (white_not (record { code = b; width = 1 }) (b ∷ t) (decoded_ascii b _ _ _ k)
    (not_white b single (within_above 0x9 0xD b (omega arith)) (within_below 0x2000 0x200A b (omega arith))
    (within_below 0x2028 0x2029 b (omega arith))))
  where
    single : Single b → ⊥
    single (inl e) = omega arith
    single (inr (inl e)) = omega arith
    single (inr (inr (inl e))) = omega arith
    single (inr (inr (inr (inl e)))) = omega arith
    single (inr (inr (inr (inr (inl e))))) = omega arith
    single (inr (inr (inr (inr (inr (inl e)))))) = omega arith
    single (inr (inr (inr (inr (inr (inr e)))))) = omega arith

-- a byte of a run is none that is in no run
run_not : (c b : ℕ) → run_byte c ≡ false → run_byte b ≡ true → b ≡ c → ⊥
run_not c b n e q = true≢false (sym e ∙ ap run_byte q ∙ n)

-- a byte of a run is a visible one
run_low : (b : ℕ) → run_byte b ≡ true → 0x21 ≤ b
unfolding run_byte ref_byte
run_low b e = go (dec_lt b 0x21)
  where
    low : b < 0x21 → run_byte b ≡ false
    low h =
        simp (
          within_below 0x30 0x39 b (omega arith),
          within_below 0x41 0x5A b (omega arith),
          within_below 0x61 0x7A b (omega arith),
          ne_eqb b 0x2D (λ (q : b ≡ 0x2D). omega arith),
          ne_eqb b 0x2E (λ (q : b ≡ 0x2E). omega arith),
          ne_eqb b 0x3A (λ (q : b ≡ 0x3A). omega arith),
        )

    go : Dec (b < 0x21) → 0x21 ≤ b
    go (yes h) = absurd (true≢false (sym e ∙ low h))
    go (no h) = omega arith

-- the word w stands at a place of s, and r behind it
module _ (s : List ℕ) (at : ℕ) (w r : List ℕ) (there : drop at s ≡ w ++ r) where
  drop_there : drop (at + length w) s ≡ r
  drop_there = sym (drop-drop (length w) at s) ∙ ap (drop (length w)) there ∙ drop-append_seam w r

  part_there : part at (at + length w) s ≡ w
  unfolding part
  part_there =
      let e : at + length w - at ≡ length w = omega arith in
      ap (λ (n : ℕ). take n (drop at s)) e ∙ ap (take (length w)) there ∙ take-append_seam w r

  -- a walk over the bytes of w, and over none of r, ends between them
  walk_there : (p : ℕ → Bool) → p 0 ≡ false → All p w → one p r ≡ 0 → reach (one p) s at ≡ at + length w
  walk_there p z a e =
      walk_word p z w s at a (ap (begins w) there ∙ begins_append w r)
      ∙ reach_stop (one p) s (at + length w) (ap (one p) drop_there ∙ e)

-- what ends a run ends a reference
run_ref_end : (r : List ℕ) → one run_byte r ≡ 0 → one ref_byte r ≡ 0
unfolding one run_byte
run_ref_end [] e = refl
run_ref_end (b ∷ r) e = go (ref_byte b) (eqb b 0x3A) e
  where
    go : (x y : Bool) → cond {A = ℕ} (x || y) 1 0 ≡ 0 → cond {A = ℕ} x 1 0 ≡ 0
    go true y e = e
    go false y e = refl

-- bytes that are a run, where no run byte stands behind them
abbrev pub Run : List ℕ → Type 0
Run x = (0 < length x) × All run_byte x

-- a run is not skipped, and is no mark
scan_word : (m : Mode) (b : ℕ) (t : List ℕ) → run_byte b ≡ true → scan_of (b ∷ t) m 0 ≡ run_of (b ∷ t) m 0
unfolding scan_of past_white run_byte ref_byte within
scan_word m b t e =
    ap (mark_of (b ∷ t) m 0) (reach_stop white_width (b ∷ t) 0 (no_white b t (run_low b e) (run_ascii b e)))
    ∙ sym (mark_run (b ∷ t) m 0 0 (omega arith) (run_not 0x2B b refl e) (run_not 0x28 b refl e) (run_not 0x29 b refl e)
    (ap (λ (q : Bool). q && m.slash) (ne_eqb b 0x2F (run_not 0x2F b refl e))))

-- a run that ends at e is what its tries say
run_told : (s : List ℕ) (m : Mode) (p e : ℕ) → run_end s p ≡ e → p < e
    → run_of s m p ≡ told m p e (or_else (named_of (part p e s) e) (other_of s m p e))
unfolding run_of
run_told s m p e q h = simp (q, ne_eqb e p (λ (z : e ≡ p). omega arith), grouped)

-- so a run x at the front of a text is, with no run byte behind it
scan_run : (m : Mode) (x r : List ℕ) → Run x → one run_byte r ≡ 0
    → scan_of (x ++ r) m 0 ≡ told m 0 (length x) (or_else (named_of x (length x)) (other_of (x ++ r) m 0 (length x)))
unfolding run_end
scan_run m [] r run edge = absurd (omega arith)
scan_run m (b ∷ w) r run edge =
    let s = b ∷ (w ++ r) in
    let n : ℕ = length (b ∷ w) in
    let z : 0 + n ≡ n = omega arith in
    let e : run_end s 0 ≡ n = walk_there s 0 (b ∷ w) r refl run_byte run_zero run.1 edge ∙ z in
    let f : part 0 n s ≡ b ∷ w = ap (λ (k : ℕ). part 0 k s) (sym z) ∙ part_there s 0 (b ∷ w) r refl in
    scan_word m b (w ++ r) run.1.0 ∙ run_told s m 0 n e (omega arith)
    ∙ ap (λ (y : List ℕ). told m 0 n (or_else (named_of y n) (other_of s m 0 n))) f

-- what it says is heard
module _ (m : Mode) (x r : List ℕ) (run : Run x) (edge : one run_byte r ≡ 0) (t : Token) where
  abbrev Heard : Type 0
  Heard = heard (x ++ r) m 0 ≡ said (x ++ r) t ∷ heard r m 0

  heard_word : or_else (named_of x (length x)) (other_of (x ++ r) m 0 (length x)) ≡ Some (t, length x) → Heard
  heard_word h =
      heard_say (x ++ r) m t 0 (length x) (scan_run m x r run edge ∙ ap (told m 0 (length x)) h)
      ∙ ap (λ (y : List ℕ). said (x ++ r) t ∷ heard y m 0) (drop-append_seam x r)

  -- a run that its bytes alone tell
  heard_named : named_of x (length x) ≡ Some (t, length x) → Heard
  heard_named h = heard_word (ap (λ (y : Option (Token × ℕ)). or_else y (other_of (x ++ r) m 0 (length x))) h)

  -- a run that is a reference
  heard_referred : named_of x (length x) ≡ None → referred_of (x ++ r) 0 ≡ Some (t, length x) → Heard
  unfolding other_of
  heard_referred h k =
      heard_word (ap (λ (y : Option (Token × ℕ)). or_else y (other_of (x ++ r) m 0 (length x))) h
      ∙ ap (λ (y : Option (Token × ℕ)). or_else y (loose_of (x ++ r) m 0 (length x))) k)

-- different bytes, the other way round
same_flip : (a b : List ℕ) → same a b ≡ false → same b a ≡ false
same_flip a b e = same_not b a (λ q. true≢false (sym (same_refl a) ∙ ap (same a) (sym q) ∙ e))

-- a listed name is no operator
proper_operator : (n : List ℕ) (e : ℕ) → Proper n → operator_of n e ≡ None
unfolding operator_of
proper_operator n e h =
    simp (
      same_flip (ascii "AND") n h.upper_and,
      same_flip (ascii "and") n h.lower_and,
      same_flip (ascii "OR") n h.upper_or,
      same_flip (ascii "or") n h.lower_or,
      same_flip (ascii "WITH") n h.upper_with,
      same_flip (ascii "with") n h.lower_with,
    )

-- its bytes alone tell it
licence_named : (k e : ℕ) → k < length listed → named_of (licence_name k) e ≡ Some (Licence k, e)
unfolding named_of listed_of
licence_named k e h = simp (proper_operator (licence_name k) e (licence_proper k h), licence_found k h)

exception_named : (k e : ℕ) → k < length exceptions → named_of (exception_name k) e ≡ Some (Exception k, e)
unfolding named_of listed_of
exception_named k e h =
    simp (proper_operator (exception_name k) e (exception_proper k h), exception_not_licence k h, exception_found k h)

-- a listed name is a run
proper_run : (n : List ℕ) → Proper n → Run n
proper_run n p = (omega (arith, p.long), p.run)

pub licence_run : (k : ℕ) → k < length listed → Run (licence_name k)
licence_run k h = proper_run (licence_name k) (licence_proper k h)

pub exception_run : (k : ℕ) → k < length exceptions → Run (exception_name k)
exception_run k h = proper_run (exception_name k) (exception_proper k h)

-- a listed name, with no run byte behind it
module _ (m : Mode) (k : ℕ) (r : List ℕ) (edge : one run_byte r ≡ 0) where
  pub heard_licence : k < length listed → heard (licence_name k ++ r) m 0 ≡ name k tt ∷ heard r m 0
  heard_licence h =
      heard_named m (licence_name k) r (licence_run k h) edge (Licence k) (licence_named k (length (licence_name k)) h)

  pub heard_exception : k < length exceptions → heard (exception_name k ++ r) m 0 ≡ exception k ∷ heard r m 0
  heard_exception h =
      heard_named m (exception_name k) r (exception_run k h) edge (Exception k) (exception_named k (length (exception_name k)) h)

-- where the prefix of a reference stands, behind the document part if there is one, and what the lexer takes for that part
abbrev place_of : Option (List ℕ) → ℕ
place_of None = 0
place_of (Some d) = 12 + length d + 1

abbrev doc_of : Option (List ℕ) → Option Span
doc_of None = None
doc_of (Some d) = Some (span 12 (12 + length d))

-- bytes that may stand in a document part, behind its prefix
document_all : (p : ℕ → Bool) → all_of p (ascii "DocumentRef-") ≡ true → (d : List ℕ) → All p d → All p (ascii "DocumentRef-" ++ d)
document_all p e d a = all_append p (ascii "DocumentRef-") d (all_of_lem p (ascii "DocumentRef-") e) a

-- the bytes of a reference are bytes of a run
all_ref_run : (n : List ℕ) → All ref_byte n → All run_byte n
all_ref_run [] a = tt
all_ref_run (b ∷ n) a = (ref_run b a.0, all_ref_run n a.1)

-- what is put behind stands behind
behind_append : (o : Option (List ℕ)) (t r : List ℕ) → behind_doc o t ++ r ≡ behind_doc o (t ++ r)
behind_append None t r = refl
behind_append (Some d) t r = ap (λ (y : List ℕ). ascii "DocumentRef-" ++ y) (append_assoc d (ascii ":" ++ t) r)

-- how long it is, where its prefix stands, and that it is made of run bytes
behind_length : (o : Option (List ℕ)) (t : List ℕ) → length (behind_doc o t) ≡ place_of o + length t
behind_length None t = omega arith
behind_length (Some d) t = omega (arith, length-append d (ascii ":" ++ t))

behind_drop : (o : Option (List ℕ)) (t : List ℕ) → drop (place_of o) (behind_doc o t) ≡ t
behind_drop None t = refl
behind_drop (Some d) t =
    let e : 12 + length d + 1 ≡ 12 + (length d + 1) = omega arith in
    ap (λ (k : ℕ). drop k (behind_doc (Some d) t)) e ∙ sym (drop-drop (length d + 1) 12 (behind_doc (Some d) t))
    ∙ drop-append-add d (ascii ":" ++ t) 1

behind_run : (o : Option (List ℕ)) (t : List ℕ) → KnownDoc o → All run_byte t → All run_byte (behind_doc o t)
unfolding all_of run_byte ref_byte within
behind_run None t k a = a
behind_run (Some d) t k a = document_all run_byte refl (d ++ (ascii ":" ++ t)) (all_append run_byte d (ascii ":" ++ t) (all_ref_run d k) (refl, a))

-- the lexer finds the document part, and takes its bytes
behind_document : (o : Option (List ℕ)) (t : List ℕ) → KnownDoc o → begins (ascii "DocumentRef-") t ≡ false
    → document_of (behind_doc o t) 0 ≡ doc_of o
unfolding document_of begins ref_end one all_of ref_byte within
behind_document None t k e = simp e
behind_document (Some d) t k e =
    let s = behind_doc (Some d) t in
    let w = ascii "DocumentRef-" ++ d in
    let l : length w ≡ 12 + length d = omega arith in
    let f : ref_end s 0 ≡ 12 + length d =
    walk_there s 0 w (ascii ":" ++ t) refl ref_byte ref_zero (document_all ref_byte refl d k) refl ∙ omega arith in
    let g : get_or s (12 + length d) 0 ≡ 0x3A = get_or_at w 0x3A t 0 (12 + length d) l in
    simp (f, g)

behind_bytes : (o : Option (List ℕ)) (t : List ℕ) → doc_bytes (behind_doc o t) (doc_of o) ≡ o
behind_bytes None t = refl
behind_bytes (Some d) t = ap Some (part_there (behind_doc (Some d) t) 12 d (ascii ":" ++ t) refl)

-- what makes w the prefix of a kind of reference: it is made of run bytes, it is the one that is tried where it stands, and what it begins
-- has no document part and no name
record Prefix (kind : Option Span → Span → Token) (w : List ℕ) : Type 0 where
  run : All run_byte w
  some : 0 < length w
  tried : (s : List ℕ) (q : ℕ) (d : Option Span) (t : List ℕ) → drop q s ≡ w ++ t
      → ref_at s q d ≡ Some (kind d (span (q + length w) (ref_end s (q + length w))), ref_end s (q + length w))
  alone : (t : List ℕ) → begins (ascii "DocumentRef-") (w ++ t) ≡ false
  unnamed : (t : List ℕ) (e : ℕ) → named_of (w ++ t) e ≡ None

-- what is neither an operator nor listed has no name
unnamed_by : (x : List ℕ) (e : ℕ) → operator_of x e ≡ None → Unlisted x → named_of x e ≡ None
unfolding named_of listed_of
unnamed_by x e o u = simp (o, u.licence, u.exception)

license_prefix : Prefix LicenseRef (ascii "LicenseRef-")
unfolding all_of run_byte ref_byte within begins operator_of same ref_at ref_of
license_prefix =
    record {
      run = all_of_lem run_byte (ascii "LicenseRef-") refl;
      some = omega arith;
      tried = λ s q d t there. let b : begins (ascii "LicenseRef-") (drop q s) ≡ true = ap (begins (ascii "LicenseRef-")) there in simp b;
      alone = λ t. refl;
      unnamed = λ t e. unnamed_by (ascii "LicenseRef-" ++ t) e refl (license_ref_unlisted (ascii "LicenseRef-" ++ t) refl);
    }

addition_prefix : Prefix AdditionRef (ascii "AdditionRef-")
unfolding all_of run_byte ref_byte within begins operator_of same ref_at ref_of
addition_prefix =
    record {
      run = all_of_lem run_byte (ascii "AdditionRef-") refl;
      some = omega arith;
      tried = λ s q d t there. let b : begins (ascii "AdditionRef-") (drop q s) ≡ true = ap (begins (ascii "AdditionRef-")) there in
          let c : begins (ascii "LicenseRef-") (drop q s) ≡ false = ap (begins (ascii "LicenseRef-")) there in
          simp (b, c);
      alone = λ t. refl;
      unnamed = λ t e. unnamed_by (ascii "AdditionRef-" ++ t) e refl (addition_ref_unlisted (ascii "AdditionRef-" ++ t) refl);
    }

-- a reference is a run
prefix_run : (kind : Option Span → Span → Token) (w : List ℕ) → Prefix kind w → (o : Option (List ℕ)) (n : List ℕ) → KnownRef (o, n)
    → Run (behind_doc o (w ++ n))
prefix_run kind w p o n k = (
  omega (arith, behind_length o (w ++ n), length-append w n, p.some),
  behind_run o (w ++ n) k.0 (all_append run_byte w n p.run (all_ref_run n k.1)),
)

-- a reference o, n of a kind with the prefix w, and r behind it
module _ (kind : Option Span → Span → Token) (w : List ℕ) (prefix : Prefix kind w) (m : Mode) (o : Option (List ℕ)) (n r : List ℕ)
    (doc : KnownDoc o) (all : All ref_byte n) (edge : one run_byte r ≡ 0) where
  abbrev x : List ℕ
  x = behind_doc o (w ++ n)

  abbrev start : ℕ
  start = place_of o + length w

  abbrev token : Token
  token = kind (doc_of o) (span start (start + length n))

  laid : x ++ r ≡ behind_doc o (w ++ (n ++ r))
  laid = behind_append o (w ++ n) r ∙ ap (behind_doc o) (append_assoc w n r)

  -- the prefix stands behind the document part, and the name behind the prefix
  prefix_there : drop (place_of o) (x ++ r) ≡ w ++ (n ++ r)
  prefix_there = ap (drop (place_of o)) laid ∙ behind_drop o (w ++ (n ++ r))

  name_there : drop start (x ++ r) ≡ n ++ r
  name_there = drop_there (x ++ r) (place_of o) w (n ++ r) prefix_there

  name_end : ref_end (x ++ r) start ≡ start + length n
  unfolding ref_end
  name_end = walk_there (x ++ r) start n r name_there ref_byte ref_zero all (run_ref_end r edge)

  document_there : document_of (x ++ r) 0 ≡ doc_of o
  document_there = ap (λ (y : List ℕ). document_of y 0) laid ∙ behind_document o (w ++ (n ++ r)) doc (prefix.alone (n ++ r))

  whole : length x ≡ start + length n
  whole = omega (arith, behind_length o (w ++ n), length-append w n)

  behind_doc_lem : (o : Option (List ℕ)) → behind (x ++ r) 0 (doc_of o) ≡ ref_at (x ++ r) (place_of o) (doc_of o)
  behind_doc_lem None = refl
  behind_doc_lem (Some d) = refl

  referred : referred_of (x ++ r) 0 ≡ Some (token, length x)
  unfolding referred_of
  referred =
      ap (behind (x ++ r) 0) document_there ∙ behind_doc_lem o ∙ prefix.tried (x ++ r) (place_of o) (doc_of o) (n ++ r) prefix_there
      ∙ simp (name_end, whole)

  unnamed_ref : (o : Option (List ℕ)) (e : ℕ) → named_of (behind_doc o (w ++ n)) e ≡ None
  unfolding operator_of same begins
  unnamed_ref None e = prefix.unnamed n e
  unnamed_ref (Some d) e =
      unnamed_by (behind_doc (Some d) (w ++ n)) e refl (document_ref_unlisted (behind_doc (Some d) (w ++ n)) refl)

  heard_ref : heard (x ++ r) m 0 ≡ said (x ++ r) token ∷ heard r m 0
  heard_ref =
      heard_referred m x r (prefix_run kind w prefix o n (doc, all)) edge token (unnamed_ref o (length x)) referred

  document_bytes : doc_bytes (x ++ r) (doc_of o) ≡ o
  document_bytes = ap (λ (y : List ℕ). doc_bytes y (doc_of o)) laid ∙ behind_bytes o (w ++ (n ++ r))

  name_bytes_lem : part start (start + length n) (x ++ r) ≡ n
  name_bytes_lem = part_there (x ++ r) start n r name_there

-- so each kind of reference is
pub license_run : (o : Option (List ℕ)) (n : List ℕ) → KnownRef (o, n) → Run (behind_doc o (ascii "LicenseRef-" ++ n))
license_run o n k = prefix_run LicenseRef (ascii "LicenseRef-") license_prefix o n k

pub addition_run : (o : Option (List ℕ)) (n : List ℕ) → KnownRef (o, n) → Run (behind_doc o (ascii "AdditionRef-" ++ n))
addition_run o n k = prefix_run AdditionRef (ascii "AdditionRef-") addition_prefix o n k

-- a reference, with no run byte behind it
module _ (m : Mode) (o : Option (List ℕ)) (n r : List ℕ) (doc : KnownDoc o) (all : All ref_byte n) (edge : one run_byte r ≡ 0) where
  pub heard_license_ref : heard (behind_doc o (ascii "LicenseRef-" ++ n) ++ r) m 0 ≡ reference (o, n) tt ∷ heard r m 0
  heard_license_ref =
      let p = document_bytes LicenseRef (ascii "LicenseRef-") license_prefix m o n r doc all edge in
      let q = name_bytes_lem LicenseRef (ascii "LicenseRef-") license_prefix m o n r doc all edge in
      heard_ref LicenseRef (ascii "LicenseRef-") license_prefix m o n r doc all edge
      ∙ simp (p, q)

  pub heard_addition_ref : heard (behind_doc o (ascii "AdditionRef-" ++ n) ++ r) m 0 ≡ addition (o, n) ∷ heard r m 0
  heard_addition_ref =
      let p = document_bytes AdditionRef (ascii "AdditionRef-") addition_prefix m o n r doc all edge in
      let q = name_bytes_lem AdditionRef (ascii "AdditionRef-") addition_prefix m o n r doc all edge in
      heard_ref AdditionRef (ascii "AdditionRef-") addition_prefix m o n r doc all edge
      ∙ simp (p, q)

-- marks and operators, whatever stands behind them
module _ (m : Mode) (r : List ℕ) where
  scan_plus : scan_of (ascii "+" ++ r) m 0 ≡ got m Plus 0 1
  unfolding scan_of past_white reach over white_width front decoded white_of within
  scan_plus = sym (mark_plus (ascii "+" ++ r) m 0 0 (omega arith) refl refl)

  scan_open : scan_of (ascii "(" ++ r) m 0 ≡ got m Open 0 1
  unfolding scan_of past_white reach over white_width front decoded white_of within
  scan_open = sym (mark_open (ascii "(" ++ r) m 0 0 (omega arith) refl)

  scan_close : scan_of (ascii ")" ++ r) m 0 ≡ got m Close 0 1
  unfolding scan_of past_white reach over white_width front decoded white_of within
  scan_close = sym (mark_close (ascii ")" ++ r) m 0 0 (omega arith) refl)

  pub heard_plus : heard (ascii "+" ++ r) m 0 ≡ plus ∷ heard r m 0
  heard_plus = heard_say (ascii "+" ++ r) m Plus 0 1 scan_plus

  pub heard_open : heard (ascii "(" ++ r) m 0 ≡ LP ∷ heard r m 0
  heard_open = heard_say (ascii "(" ++ r) m Open 0 1 scan_open

  pub heard_close : heard (ascii ")" ++ r) m 0 ≡ RP ∷ heard r m 0
  heard_close = heard_say (ascii ")" ++ r) m Close 0 1 scan_close

  scan_and : scan_of (ascii " AND " ++ r) m 0 ≡ got m And 1 4
  unfolding scan_of past_white reach over white_width front decoded white_of within mark_of run_of run_end one run_byte ref_byte word_of operator_of same part
  scan_and = simp (lt-leb (length (ascii " AND " ++ r)) 1 (omega arith))

  scan_or : scan_of (ascii " OR " ++ r) m 0 ≡ got m Or 1 3
  unfolding scan_of past_white reach over white_width front decoded white_of within mark_of run_of run_end one run_byte ref_byte word_of operator_of same part
  scan_or = simp (lt-leb (length (ascii " OR " ++ r)) 1 (omega arith))

  scan_with : scan_of (ascii " WITH " ++ r) m 0 ≡ got m With 1 5
  unfolding scan_of past_white reach over white_width front decoded white_of within mark_of run_of run_end one run_byte ref_byte word_of operator_of same part
  scan_with = simp (lt-leb (length (ascii " WITH " ++ r)) 1 (omega arith))

-- the first byte behind the white space at the front is no `+`
abbrev pub Free : List ℕ → Type 0
Free r = get_or r (past_white r 0) 0 ≡ 0x2B → ⊥

-- before any other byte it does not matter where the white space starts
mark_same : (s : List ℕ) (m : Mode) (a b p : ℕ) → (get_or s p 0 ≡ 0x2B → ⊥) → mark_of s m a p ≡ mark_of s m b p
unfolding mark_of
mark_same s m a b p n = simp (ne_eqb (get_or s p 0) 0x2B n)

-- so a space there is not heard
module _ (m : Mode) (r : List ℕ) (free : Free r) where
  abbrev s : List ℕ
  s = 0x20 ∷ r

  white : past_white s 0 ≡ suc (past_white r 0)
  unfolding past_white reach over white_width front decoded white_of within
  white = omega arith

  white_on : past_white s 1 ≡ suc (past_white r 0)
  unfolding past_white reach
  white_on = omega arith

  scan_space : scan_of s m 0 ≡ scan_of s m 1
  unfolding scan_of
  scan_space = ap (mark_of s m 0) white ∙ mark_same s m 0 1 (suc (past_white r 0)) free ∙ ap (mark_of s m 1) (sym white_on)

  heard_space : heard s m 0 ≡ heard r m 0
  heard_space = heard_skip s m 1 (omega arith) scan_space

  pub heard_and : heard (ascii " AND " ++ r) m 0 ≡ AND ∷ heard r m 0
  heard_and = heard_say (ascii " AND " ++ r) m And 1 4 (scan_and m r) ∙ ap (λ (w : List Spoken). AND ∷ w) heard_space

  pub heard_or : heard (ascii " OR " ++ r) m 0 ≡ OR ∷ heard r m 0
  heard_or = heard_say (ascii " OR " ++ r) m Or 1 3 (scan_or m r) ∙ ap (λ (w : List Spoken). OR ∷ w) heard_space

  pub heard_with : heard (ascii " WITH " ++ r) m 0 ≡ WITH ∷ heard r m 0
  heard_with = heard_say (ascii " WITH " ++ r) m With 1 5 (scan_with m r) ∙ ap (λ (w : List Spoken). WITH ∷ w) heard_space

-- what begins with a run is free
pub free_run : (x r : List ℕ) → Run x → Free (x ++ r)
unfolding past_white run_byte ref_byte within
free_run [] r a = absurd (omega arith)
free_run (b ∷ x) r a =
    let s = b ∷ (x ++ r) in
    let h : run_byte b ≡ true = a.1.0 in
    let e : reach white_width s 0 ≡ 0 = reach_stop white_width s 0 (no_white b (x ++ r) (run_low b h) (run_ascii b h)) in
    rw e (run_not 0x2B b refl h)
