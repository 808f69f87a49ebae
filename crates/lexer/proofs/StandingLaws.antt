-- Laws of what a step's token is to the text that it stands in (Standing.antt), of `+`, and that a lexer which allows no unknown terms hands
-- out known tokens (Apart.antt). One walk through the definitions of a step serves all three.
use Rattle.lexer.specs.Step.{Step}
use Rattle.std.specs.Prelude.{ℕ, zero, suc, ◌+◌, ◌-◌, ◌<◌, ◌≤◌, ◌≡◌, Bool, false, ◌&&◌, ◌||◌, List, [], ◌∷◌, ◌++◌, leb, take, drop, Option, Some, None, Ok, Err}
use Rattle.std.proofs.Math.Path.{refl, ap}
use Rattle.std.proofs.Common.{sym, ◌∙◌, subst, true≢false, drop-cons, drop-drop, take-add, get_or-drop}
use Rattle.std.proofs.Math.Bool.{true}
use native.Mathlib.Omega.{arith}
use Rattle.std.proofs.Math.Dec.{eqb}
use Rattle.std.proofs.Math.ListN.{length, get_or}
use borrow.Author.Tests.{eqb-true, eqb-false, leb-false}
use Rattle.text.specs.Text.{ascii, same, begins, part, within}
use Rattle.text.specs.TextLaws.{begins_take, byte_in, same_eq, part_length}
use Rattle.text.specs.Tests.{both, by_cond}
use Rattle.text.specs.Every.{All}
use Rattle.text.specs.Runs.{ref_byte}
use Rattle.text.specs.RunLaws.{walk_all, ref_zero}
use Rattle.text.specs.WalkLaws.{reach_stop}
use Rattle.utf8.specs.Utf8.{decoded, front, white_of, white_width, past_white}
use Rattle.names.specs.Lookup.{licence_of, exception_of, imprecise_of, licence_name}
use Rattle.names.specs.Shape.{licence_proper}
use Rattle.names.proofs.Laws.{LicenceIs, ExceptionIs, licence_is, exception_is}
use Rattle.names.proofs.Fits.{LooseIs, imprecise_is}
use Rattle.names.specs.declared.Loose.{Loose}
use Rattle.refusal.specs.Refused.{span}
use Rattle.refusal.specs.declared.Span.{Span}
use Rattle.mode.specs.declared.Mode.{Mode}
use Rattle.lexer.specs.declared.Cursor.{Cursor}
use Rattle.lexer.specs.declared.Token.{Token}
use Rattle.lexer.specs.declared.Token.TheVariants.{
  And,
  Or,
  With,
  Plus,
  Open,
  Close,
  Licence,
  Exception,
  LicenseRef,
  AdditionRef,
  Unknown,
}
use Rattle.lexer.specs.Lex.{
  run_end,
  ref_end,
  or_else,
  operator_of,
  found,
  ref_of,
  documented,
  hit,
  imprecise_at,
  unknown_of,
  word_of,
  got,
  told,
  run_of,
  mark_of,
  scan_of,
}
use Rattle.lexer.specs.Tokens.{and_then, walked, tokens_of}
use Rattle.lexer.specs.Spelling.{Spoken, bytes_of, doc_bytes, said, said_of, heard, behind_doc}
use Rattle.lexer.specs.Standing.{Standing, StandingStep}
use Rattle.lexer.specs.Apart.{KnownDoc, KnownRef, KnownOrBad}
use Rattle.lexer.proofs.RunLaws.{run_ge, run_le, ref_ge}
use Rattle.lexer.proofs.LexLaws.{mark_plus}
use Rattle.lexer.proofs.Inner.{document_ge}

-- a part is what stands before a place of it, and then what stands from there on
part_join : (s : List ℕ) (a b c : ℕ) → a ≤ b → b ≤ c → part a c s ≡ part a b s ++ part b c s
unfolding part
part_join s a b c h k =
    let e : c - a ≡ b - a + (c - b) = omega arith in
    let f : a + (b - a) ≡ b = omega arith in
    ap (λ (n : ℕ). take n (drop a s)) e ∙ take-add (b - a) (c - b) (drop a s)
    ∙ ap (λ (t : List ℕ). take (b - a) (drop a s) ++ take (c - b) t) (drop-drop (b - a) a s ∙ ap (λ (n : ℕ). drop n s) f)

-- the part that a word takes up
part_word : (w s : List ℕ) (q : ℕ) → begins w (drop q s) ≡ true → part q (q + length w) s ≡ w
unfolding part
part_word w s q e =
    let n : q + length w - q ≡ length w = omega arith in
    ap (λ (n : ℕ). take n (drop q s)) n ∙ begins_take w (drop q s) e

-- the part that one byte takes up
part_byte : (s : List ℕ) (q b : ℕ) → get_or s q 0 ≡ b → 0 < b → part q (q + 1) s ≡ b ∷ []
unfolding part
part_byte s q b e h =
    let n : q + 1 - q ≡ 1 = omega arith in
    ap (λ (n : ℕ). take n (drop q s)) n ∙ ap (take 1) (drop-cons s q 0 (byte_in s q b e h)) ∙ ap (λ (b : ℕ). b ∷ []) e

-- a word, and what stands from its end up to e
word_join : (w s : List ℕ) (q e : ℕ) → begins w (drop q s) ≡ true → q + length w ≤ e → part q e s ≡ w ++ part (q + length w) e s
word_join w s q e b h =
    part_join s q (q + length w) e (omega arith) h ∙ ap (λ (t : List ℕ). t ++ part (q + length w) e s) (part_word w s q b)

-- a part is made of what p picks, where p picks each of its bytes
take_picked : (p : ℕ → Bool) (n : ℕ) (t : List ℕ) → ((i : ℕ) → i < n → p (get_or t i 0) ≡ true) → All p (take n t)
take_picked p zero t h = tt
take_picked p (suc n) [] h = tt
take_picked p (suc n) (b ∷ t) h = (h 0 (omega arith), take_picked p n t (λ i l. h (suc i) (omega arith)))

part_picked : (p : ℕ → Bool) (s : List ℕ) (a b : ℕ) → ((x : ℕ) → a ≤ x → x < b → p (get_or s x 0) ≡ true) → All p (part a b s)
unfolding part
part_picked p s a b h =
    take_picked p (b - a) (drop a s) (λ i l. ap p (get_or-drop a s i 0) ∙ h (a + i) (omega arith) (omega arith))

-- so a reference's name is made of a reference's bytes, and so is what stands from a place of it on
name_bytes_lem : (s : List ℕ) (p a : ℕ) → p ≤ a → All ref_byte (part a (ref_end s p) s)
unfolding ref_end
name_bytes_lem s p a h = part_picked ref_byte s a (ref_end s p) (λ x l k. walk_all ref_byte ref_zero s p x (omega arith) k)

-- a document part, its `:`, and what stands behind it up to e
document_join : (s : List ℕ) (p e : ℕ) → begins (ascii "DocumentRef-") (drop p s) ≡ true → get_or s (ref_end s p) 0 ≡ 0x3A
    → ref_end s p + 1 ≤ e
    → part p e s ≡ ascii "DocumentRef-" ++ (part (p + 12) (ref_end s p) s ++ (ascii ":" ++ part (ref_end s p + 1) e s))
document_join s p e b c h =
    let r = ref_end s p in
    let g = document_ge s p b in
    let colon : part r e s ≡ ascii ":" ++ part (r + 1) e s =
    part_join s r (r + 1) e (omega arith) h ∙ ap (λ (t : List ℕ). t ++ part (r + 1) e s) (part_byte s r 0x3A c (omega arith)) in
    word_join (ascii "DocumentRef-") s p e b (omega arith)
    ∙ ap (λ (t : List ℕ). ascii "DocumentRef-" ++ t)
    (part_join s (p + 12) r e g (omega arith) ∙ ap (λ (t : List ℕ). part (p + 12) r s ++ t) colon)

-- one of two spellings, both n bytes long
either_length : (r v w : List ℕ) (n : ℕ) → length v ≡ n → length w ≡ n → (same r v || same r w) ≡ true → length r ≡ n
either_length r v w n i j e = go (same r v) refl e
  where
    go : (b : Bool) → same r v ≡ b → (b || same r w) ≡ true → length r ≡ n
    go true q e = ap length (same_eq r v q) ∙ i
    go false q e = ap length (same_eq r w e) ∙ j

-- what else a step's token says: a `+` stands at the cursor, a reference's names are made of a reference's bytes, unknown terms are allowed
abbrev Besides : List ℕ → Mode → ℕ → Token → Type 0
Besides s m at And = Unit {0}
Besides s m at Or = Unit {0}
Besides s m at With = Unit {0}
Besides s m at Plus = get_or s at 0 ≡ 0x2B
Besides s m at Open = Unit {0}
Besides s m at Close = Unit {0}
Besides s m at (Licence k) = Unit {0}
Besides s m at (Exception k) = Unit {0}
Besides s m at (LicenseRef d n) = KnownRef (doc_bytes s d, bytes_of s n)
Besides s m at (AdditionRef d n) = KnownRef (doc_bytes s d, bytes_of s n)
Besides s m at (Unknown n) = m.unknown ≡ true

-- what the token t of a step from `at` is, at sp
abbrev Shown : List ℕ → Mode → ℕ → Token → Span → Type 0
Shown s m at t sp = Standing s t sp × Besides s m at t

abbrev ShownWord : List ℕ → Mode → ℕ → ℕ → Option (Token × ℕ) → Type 0
ShownWord s m at p (Some (t, x)) = Shown s m at t (span p x)
ShownWord s m at p None = Unit {0}

abbrev ShownStep : List ℕ → Mode → ℕ → Step → Type 0
ShownStep s m at (Ok (Some g)) = Shown s m at g.token g.span
ShownStep s m at (Ok None) = Unit {0}
ShownStep s m at (Err r) = Unit {0}

-- what two tries in order say
either_shown : (s : List ℕ) (m : Mode) (at p : ℕ) (v w : Option (Token × ℕ)) → ShownWord s m at p v → ShownWord s m at p w
    → ShownWord s m at p (or_else v w)
either_shown s m at p (Some (t, x)) w f g = f
either_shown s m at p None w f g = g

module _ (s : List ℕ) (m : Mode) (at p : ℕ) where
  abbrev Says : Option (Token × ℕ) → Type 0
  Says = ShownWord s m at p

  -- the whole run, from p to e
  module _ (e : ℕ) (some : p < e) (fits : e ≤ length s) where
    run_length : length (part p e s) ≡ e - p
    run_length = part_length p e s (omega arith) fits

    operator_shown : Says (operator_of (part p e s) e)
    unfolding operator_of
    operator_shown =
        let r = part p e s in
        by_cond Says (same r (ascii "AND") || same r (ascii "and")) _ _
        (λ x. (omega (arith, run_length, either_length r (ascii "AND") (ascii "and") 3 refl refl x), tt))
        (λ x. by_cond Says (same r (ascii "OR") || same r (ascii "or")) _ _ (λ y. (some, tt))
        (λ y. by_cond Says (same r (ascii "WITH") || same r (ascii "with")) _ _
        (λ w. (omega (arith, run_length, either_length r (ascii "WITH") (ascii "with") 4 refl refl w), tt)) (λ w. tt)))

    licence_shown : Says (found Licence e (licence_of (part p e s)))
    licence_shown = go (licence_of (part p e s)) (licence_is (part p e s))
      where
        go : (f : Option ℕ) → LicenceIs (part p e s) f → Says (found Licence e f)
        go (Some k) i =
            let l : length (licence_name k) ≡ length (part p e s) = ap length i.1 in
            (record { known = i.0; room = omega (arith, run_length, (licence_proper k i.0).long) }, tt)
        go None i = tt

    exception_shown : Says (found Exception e (exception_of (part p e s)))
    exception_shown = go (exception_of (part p e s)) (exception_is (part p e s))
      where
        go : (f : Option ℕ) → ExceptionIs (part p e s) f → Says (found Exception e f)
        go (Some k) i = ((i.0, sym i.1), tt)
        go None i = tt

    unknown_shown : Says (unknown_of m p e)
    unfolding unknown_of
    unknown_shown = by_cond Says m.unknown _ _ (λ x. (refl, x)) (λ x. tt)

  imprecise_shown : Says (imprecise_at s m p)
  unfolding imprecise_at
  imprecise_shown =
      by_cond Says m.imprecise _ _ (λ x. go (imprecise_of (drop p s)) (imprecise_is (drop p s))) (λ x. tt)
    where
      go : (l : Option Loose) → LooseIs (drop p s) l → Says (hit p l)
      go (Some x) i = (record { known = i.known; room = omega (arith, i.room) }, tt)
      go None i = tt

  -- a reference of either kind, with the prefix w
  module _ (kind : Option Span → Span → Token) (w : List ℕ)
      (is : (d : Option Span) (n sp : Span) → bytes_of s sp ≡ behind_doc (doc_bytes s d) (w ++ bytes_of s n) → KnownRef (doc_bytes s d, bytes_of s n)
      → Shown s m at (kind d n) sp) where
    -- at a place q, where the document part d stands from p up to there
    ref_shown : (d : Option Span) (q : ℕ) → ((e : ℕ) → q ≤ e → part p e s ≡ behind_doc (doc_bytes s d) (part q e s))
        → KnownDoc (doc_bytes s d) → Says (ref_of kind w d s q)
    unfolding ref_of
    ref_shown d q behind known =
        by_cond Says (begins w (drop q s)) _ _
        (λ x. let a = q + length w in
        let h = ref_ge s a in
        is d (span a (ref_end s a)) (span p (ref_end s a))
        (behind (ref_end s a) (omega arith) ∙ ap (behind_doc (doc_bytes s d)) (word_join w s q (ref_end s a) x h))
        (known, name_bytes_lem s a a (omega arith)))
        (λ x. tt)

    documented_shown : Says (documented kind w s p)
    unfolding documented
    documented_shown =
        by_cond Says (begins (ascii "DocumentRef-") (drop p s) && eqb (get_or s (ref_end s p) 0) 0x3A) _ _
        (λ x. let y = both (begins (ascii "DocumentRef-") (drop p s)) (eqb (get_or s (ref_end s p) 0) 0x3A) x in
        ref_shown (Some (span (p + 12) (ref_end s p))) (ref_end s p + 1)
        (λ e h. document_join s p e y.0 (eqb-true (get_or s (ref_end s p) 0) 0x3A y.1) h) (name_bytes_lem s p (p + 12) (omega arith)))
        (λ x. tt)

  word_shown : (e : ℕ) → p < e → e ≤ length s → Says (word_of s m p e)
  unfolding word_of
  word_shown e h k =
      let r = part p e s in
      let or = either_shown s m at p in
      or (operator_of r e) _ (operator_shown e h k)
      (or (found Licence e (licence_of r)) _ (licence_shown e h k)
      (or (found Exception e (exception_of r)) _ (exception_shown e h k)
      (or (documented LicenseRef (ascii "LicenseRef-") s p) _
      (documented_shown LicenseRef (ascii "LicenseRef-") (λ d n sp i j. (i, j)))
      (or (ref_of LicenseRef (ascii "LicenseRef-") None s p) _
      (ref_shown LicenseRef (ascii "LicenseRef-") (λ d n sp i j. (i, j)) None p (λ e i. refl) tt)
      (or (documented AdditionRef (ascii "AdditionRef-") s p) _
      (documented_shown AdditionRef (ascii "AdditionRef-") (λ d n sp i j. (i, j)))
      (or (ref_of AdditionRef (ascii "AdditionRef-") None s p) _
      (ref_shown AdditionRef (ascii "AdditionRef-") (λ d n sp i j. (i, j)) None p (λ e i. refl) tt)
      (or (imprecise_at s m p) (unknown_of m p e) imprecise_shown (unknown_shown e h k))))))))

  run_shown : p < length s → ShownStep s m at (run_of s m p)
  unfolding run_of
  run_shown h =
      by_cond (ShownStep s m at) (eqb (run_end s p) p) _ _ (λ x. tt)
      (λ x. go (word_of s m p (run_end s p))
      (word_shown (run_end s p) (omega (arith, run_ge s p, eqb-false (run_end s p) p x)) (run_le s p (omega arith))))
    where
      go : (w : Option (Token × ℕ)) → Says w → ShownStep s m at (told m p (run_end s p) w)
      go (Some (t, x)) i = i
      go None i = tt

  mark_shown : ShownStep s m at (mark_of s m at p)
  unfolding mark_of
  mark_shown =
      let P = ShownStep s m at in
      by_cond P (leb (length s) p) _ _ (λ x. tt)
      (λ x. by_cond P (eqb (get_or s p 0) 0x2B) _ _ (λ y. by_cond P (eqb p at) _ _ (λ z. (refl, plus y z)) (λ z. tt))
      (λ y. by_cond P (eqb (get_or s p 0) 0x28) _ _ (λ z. (refl, tt))
      (λ z. by_cond P (eqb (get_or s p 0) 0x29) _ _ (λ u. (refl, tt))
      (λ u. by_cond P (eqb (get_or s p 0) 0x2F && m.slash) _ _ (λ v. (omega arith, tt)) (λ v. run_shown (leb-false (length s) p x))))))
    where
      plus : eqb (get_or s p 0) 0x2B ≡ true → eqb p at ≡ true → get_or s at 0 ≡ 0x2B
      plus y z = ap (λ (x : ℕ). get_or s x 0) (sym (eqb-true p at z)) ∙ eqb-true (get_or s p 0) 0x2B y

scan_shown : (s : List ℕ) (m : Mode) (at : ℕ) → ShownStep s m at (scan_of s m at)
unfolding scan_of
scan_shown s m at = mark_shown s m at (past_white s at)

-- a step's token stands in its text as Standing.antt says
pub scan_standing : (s : List ℕ) (m : Mode) (at : ℕ) → StandingStep s (scan_of s m at)
scan_standing s m at = go (scan_of s m at) (scan_shown s m at)
  where
    go : (st : Step) → ShownStep s m at st → StandingStep s st
    go (Ok (Some g)) h = h.0
    go (Ok None) h = tt
    go (Err r) h = tt

-- a `+` is no white space
plus_white : (s : List ℕ) (at : ℕ) → get_or s at 0 ≡ 0x2B → white_width (drop at s) ≡ 0
unfolding white_width front decoded white_of within
plus_white s at e = rw (drop-cons s at 0 (byte_in s at 0x2B e (omega arith)), e)

plus_stays : (s : List ℕ) (at : ℕ) → get_or s at 0 ≡ 0x2B → past_white s at ≡ at
unfolding past_white
plus_stays s at e = reach_stop white_width s at (plus_white s at e)

-- a `+` is a token exactly where it stands at the cursor
pub plus_here : (s : List ℕ) (m : Mode) (at : ℕ) → get_or s at 0 ≡ 0x2B → scan_of s m at ≡ got m Plus at (at + 1)
unfolding scan_of
plus_here s m at e =
    ap (mark_of s m at) (plus_stays s at e) ∙ sym (mark_plus s m at at (byte_in s at 0x2B e (omega arith)) e refl)

pub plus_there : (s : List ℕ) (m : Mode) (at : ℕ) (sp : Span) (nx : Cursor) → scan_of s m at ≡ Ok (Some record { token = Plus; span = sp; next = nx }) → get_or s at 0 ≡ 0x2B
plus_there s m at sp nx e = (subst (ShownStep s m at) e (scan_shown s m at)).1

-- a token of a lexer that allows no unknown terms, and known tokens behind it
token_known : (s : List ℕ) (m : Mode) → m.unknown ≡ false → (at : ℕ) (t : Token) (sp : Span) (w : List Spoken) → Shown s m at t sp
    → KnownOrBad w → KnownOrBad (said s t ∷ w)
token_known s m u at And sp w h k = k
token_known s m u at Or sp w h k = k
token_known s m u at With sp w h k = k
token_known s m u at Plus sp w h k = k
token_known s m u at Open sp w h k = k
token_known s m u at Close sp w h k = k
token_known s m u at (Licence i) sp w h k = (h.0.known, k)
token_known s m u at (Exception i) sp w h k = (h.0.0, k)
token_known s m u at (LicenseRef d n) sp w h k = (h.1, k)
token_known s m u at (AdditionRef d n) sp w h k = (h.1, k)
token_known s m u at (Unknown n) sp w h k = absurd (true≢false (sym h.1 ∙ u))

walked_known : (s : List ℕ) (m : Mode) → m.unknown ≡ false → (n at : ℕ) → KnownOrBad (said_of s (walked (scan_of s m) n at))
unfolding walked
walked_known s m u zero at = tt
walked_known s m u (suc n) at = go (λ x. walked_known s m u n x) (scan_of s m at) (scan_shown s m at)
  where
    go : ((x : ℕ) → KnownOrBad (said_of s (walked (scan_of s m) n x))) → (st : Step) → ShownStep s m at st
        → KnownOrBad (said_of s (and_then st (walked (scan_of s m) n)))
    go ih (Ok (Some g)) h = token_known s m u at g.token g.span (said_of s (walked (scan_of s m) n g.next.at)) h (ih g.next.at)
    go ih (Ok None) h = tt
    go ih (Err r) h = refl

-- a lexer that allows no unknown terms hands out known tokens
pub heard_known : (s : List ℕ) (m : Mode) → m.unknown ≡ false → (at : ℕ) → KnownOrBad (heard s m at)
unfolding heard tokens_of
heard_known s m u at = walked_known s m u (suc (length s - at)) at
