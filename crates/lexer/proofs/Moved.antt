-- The lexer does not care where it stands: a step from a place on is the step from 0 in the text from there on, with its places moved. So a text
-- is heard token by token, each at the front of what is left.
use Rattle.lexer.specs.Step.{Step}
use Prim.Native.Nat.{ℕ, zero, suc, ◌+◌, ◌-◌, ◌≤◌}
use Rattle.std.specs.Prelude.{◌≡◌, Bool, true, false, cond, ◌&&◌, ◌||◌, leb, get_or, drop, Option, Some, None, Ok, Err}
use Rattle.std.proofs.Math.Path.{refl, ap}
use Rattle.std.proofs.Common.{sym, ◌∙◌, subst, add-zero, length-drop, drop-drop, get_or-drop, le-leb, leb-true, leb-false, eq-eqb, ne_eqb, eqb-true}
use mathlib.Core.List.{List, [], ◌∷◌}
use native.Mathlib.Omega.{arith}
use Rattle.std.proofs.Math.Dec.{eqb}
use Rattle.std.proofs.Math.ListN.{length}
use Rattle.std.proofs.lemmas.Bool.{lt-leb, eqb-false}
use Rattle.text.specs.Text.{ascii, same, begins, part}
use Rattle.text.specs.Walk.{over, reach, one}
use Rattle.text.specs.Runs.{ref_byte, run_byte}
use Rattle.utf8.specs.Utf8.{past_white, white_width}
use Rattle.names.specs.Lookup.{licence_of, exception_of, imprecise_of}
use Rattle.names.specs.declared.Loose.{Loose}
use Rattle.refusal.specs.Refused.{span}
use Rattle.refusal.specs.declared.Span.{Span}
use Rattle.refusal.specs.declared.Refusal.{Refusal}
use Rattle.refusal.specs.declared.Refusal.TheVariants as R
use Rattle.mode.specs.declared.Mode.{Mode}
use Rattle.lexer.specs.declared.Token.{Token}
use Rattle.lexer.specs.declared.Token.TheVariants.{
  And,
  Or,
  With,
  Plus,
  Open,
  Close,
  Licence,
  Exception,
  LicenseRef,
  AdditionRef,
  Unknown,
}
use Rattle.lexer.specs.Lex.{
  run_end,
  ref_end,
  or_else,
  operator_of,
  found,
  ref_of,
  documented,
  hit,
  imprecise_at,
  unknown_of,
  word_of,
  got,
  told,
  run_of,
  mark_of,
  scan_of,
}
use Rattle.lexer.specs.Tokens.{Tokens, done, refused, token, and_then, walked, tokens_of}
use Rattle.lexer.specs.Spelling.{Spoken, bytes_of, doc_bytes, said, said_of, heard}
use Rattle.lexer.proofs.Ahead.{Ahead, scan_ahead}
use Rattle.lexer.proofs.TokensLaws.{tokens_step}

-- k places further
abbrev pub move_span : ℕ → Span → Span
move_span k a = span (k + a.start) (k + a.end)

abbrev pub move_doc : ℕ → Option Span → Option Span
move_doc k None = None
move_doc k (Some d) = Some (move_span k d)

abbrev pub move_token : ℕ → Token → Token
move_token k And = And
move_token k Or = Or
move_token k With = With
move_token k Plus = Plus
move_token k Open = Open
move_token k Close = Close
move_token k (Licence i) = Licence i
move_token k (Exception i) = Exception i
move_token k (LicenseRef d n) = LicenseRef (move_doc k d) (move_span k n)
move_token k (AdditionRef d n) = AdditionRef (move_doc k d) (move_span k n)
move_token k (Unknown n) = Unknown (move_span k n)

-- only a span moves: the numbers of the other refusals are no places of a step
abbrev pub move_refusal : ℕ → Refusal → Refusal
move_refusal k (R.NotUtf8 a) = R.NotUtf8 (move_span k a)
move_refusal k R.TooLong = R.TooLong
move_refusal k (R.InvalidCharacters a) = R.InvalidCharacters (move_span k a)
move_refusal k (R.UnknownTerm a) = R.UnknownTerm (move_span k a)
move_refusal k (R.SeparatedPlus a) = R.SeparatedPlus (move_span k a)
move_refusal k (R.Unexpected a e) = R.Unexpected (move_span k a) e
move_refusal k (R.UnopenedParens a) = R.UnopenedParens (move_span k a)
move_refusal k (R.UnclosedParens a) = R.UnclosedParens (move_span k a)
move_refusal k (R.Empty a) = R.Empty (move_span k a)
move_refusal k (R.DeprecatedLicenseId a) = R.DeprecatedLicenseId (move_span k a)
move_refusal k (R.GnuNoPlus a) = R.GnuNoPlus (move_span k a)
move_refusal k (R.GnuPlusWithSuffix a) = R.GnuPlusWithSuffix (move_span k a)
move_refusal k (R.UnknownLicense a) = R.UnknownLicense (move_span k a)
move_refusal k (R.TooManyLeaves a) = R.TooManyLeaves (move_span k a)
move_refusal k (R.TooDeep a) = R.TooDeep (move_span k a)
move_refusal k (R.NoRoom n) = R.NoRoom n
move_refusal k (R.BadList n) = R.BadList n
move_refusal k (R.TooManyRequirements n) = R.TooManyRequirements n
move_refusal k R.RequirementsUnmet = R.RequirementsUnmet
move_refusal k (R.BadCursor n) = R.BadCursor n
move_refusal k R.NoBudget = R.NoBudget

abbrev pub move_step : ℕ → Step → Step
move_step k (Ok (Some g)) = Ok (Some record { token = move_token k g.token; span = move_span k g.span; next = record { mode = g.next.mode; at = k + g.next.at } })
move_step k (Ok None) = (Ok None)
move_step k (Err r) = Err (move_refusal k r)

-- what a try says
abbrev pub move_word : ℕ → Option (Token × ℕ) → Option (Token × ℕ)
move_word k (Some (t, e)) = Some (move_token k t, k + e)
move_word k None = None

abbrev pub move_tokens : ℕ → Tokens → Tokens
move_tokens k done = done
move_tokens k (refused r) = refused (move_refusal k r)
move_tokens k (token t a ts) = token (move_token k t) (move_span k a) (move_tokens k ts)

-- a choice whose test stays and whose two sides move
cond_move : {A : Type 0} (f : A → A) (b d : Bool) (x y u v : A) → b ≡ d → u ≡ f x → v ≡ f y → cond b u v ≡ f (cond d x y)
cond_move f b true x y u v e g h = ap (λ (q : Bool). cond q u v) e ∙ g
cond_move f b false x y u v e g h = ap (λ (q : Bool). cond q u v) e ∙ h

-- two tries in order
either_move : (k : ℕ) (v w x y : Option (Token × ℕ)) → x ≡ move_word k v → y ≡ move_word k w → or_else x y ≡ move_word k (or_else v w)
either_move k (Some (t, e)) w x y g h = ap (λ (z : Option (Token × ℕ)). or_else z y) g
either_move k None w x y g h = ap (λ (z : Option (Token × ℕ)). or_else z y) g ∙ h

assoc : (a b c : ℕ) → a + b + c ≡ a + (b + c)
assoc a b c = omega arith

module _ (k : ℕ) (s : List ℕ) where
  abbrev rest : List ℕ
  rest = drop k s

  drop_move : (p : ℕ) → drop (k + p) s ≡ drop p rest
  drop_move p = sym (drop-drop p k s)

  get_move : (p : ℕ) → get_or s (k + p) 0 ≡ get_or rest p 0
  get_move p = sym (get_or-drop k s p 0)

  part_move : (p e : ℕ) → part (k + p) (k + e) s ≡ part p e rest
  unfolding part
  part_move p e = let a : k + e - (k + p) ≡ e - p = omega arith in rw (a, drop_move p)

  pub reach_move : (f : List ℕ → ℕ) (p : ℕ) → reach f s (k + p) ≡ k + reach f (drop k s) p
  unfolding reach
  reach_move f p = let e : over f 0 (drop (k + p) s) ≡ over f 0 (drop p rest) = ap (over f 0) (drop_move p) in omega arith

  run_end_move : (p : ℕ) → run_end s (k + p) ≡ k + run_end rest p
  unfolding run_end
  run_end_move p = reach_move (one run_byte) p

  ref_end_move : (p : ℕ) → ref_end s (k + p) ≡ k + ref_end rest p
  unfolding ref_end
  ref_end_move p = reach_move (one ref_byte) p

  eqb_move : (p q : ℕ) → eqb (k + p) (k + q) ≡ eqb p q
  eqb_move p q = go (eqb p q) refl
    where
      go : (b : Bool) → eqb p q ≡ b → eqb (k + p) (k + q) ≡ b
      go true e = eq-eqb (k + p) (k + q) (omega (arith, eqb-true p q e))
      go false e = let h : p ≡ q → ⊥ = eqb-false p q e in ne_eqb (k + p) (k + q) (λ (x : k + p ≡ k + q). h (omega arith))

  -- the tries by the run's bytes alone
  operator_move : (r : List ℕ) (e : ℕ) → operator_of r (k + e) ≡ move_word k (operator_of r e)
  unfolding operator_of
  operator_move r e =
      cond_move (move_word k) (same r (ascii "AND") || same r (ascii "and")) _ _ _ _ _ refl refl
      (cond_move (move_word k) (same r (ascii "OR") || same r (ascii "or")) _ _ _ _ _ refl refl
      (cond_move (move_word k) (same r (ascii "WITH") || same r (ascii "with")) _ _ _ _ _ refl refl refl))

  licence_move : (e : ℕ) (f : Option ℕ) → found Licence (k + e) f ≡ move_word k (found Licence e f)
  licence_move e (Some i) = refl
  licence_move e None = refl

  exception_move : (e : ℕ) (f : Option ℕ) → found Exception (k + e) f ≡ move_word k (found Exception e f)
  exception_move e (Some i) = refl
  exception_move e None = refl

  -- a reference of either kind
  module _ (kind : Option Span → Span → Token) (w : List ℕ)
      (is : (d : Option Span) (n : Span) → kind (move_doc k d) (move_span k n) ≡ move_token k (kind d n)) where
    ref_move : (d : Option Span) (q : ℕ) → ref_of kind w (move_doc k d) s (k + q) ≡ move_word k (ref_of kind w d rest q)
    unfolding ref_of
    ref_move d q =
        cond_move (move_word k) (begins w (drop (k + q) s)) (begins w (drop q rest)) _ _ _ _
        (ap (begins w) (drop_move q)) (named (k + q + length w) (ref_end s (k + q + length w)) (assoc k q (length w)) ends) refl
      where
        ends : ref_end s (k + q + length w) ≡ k + ref_end rest (q + length w)
        ends = ap (ref_end s) (assoc k q (length w)) ∙ ref_end_move (q + length w)

        named : (a e : ℕ) → a ≡ k + (q + length w) → e ≡ k + ref_end rest (q + length w)
            → Some (kind (move_doc k d) (span a e), e)
            ≡ move_word k (Some (kind d (span (q + length w) (ref_end rest (q + length w))), ref_end rest (q + length w)))
        named a e f g = let h = is d (span (q + length w) (ref_end rest (q + length w))) in cc

    documented_move : (p : ℕ) → documented kind w s (k + p) ≡ move_word k (documented kind w rest p)
    unfolding documented
    documented_move p =
        cond_move (move_word k) _ (begins (ascii "DocumentRef-") (drop p rest) && eqb (get_or rest (ref_end rest p) 0) 0x3A) _ _ _ _ test
        (behind (ref_end s (k + p)) (ref_end_move p)) refl
      where
        test : (begins (ascii "DocumentRef-") (drop (k + p) s) && eqb (get_or s (ref_end s (k + p)) 0) 0x3A)
            ≡ (begins (ascii "DocumentRef-") (drop p rest) && eqb (get_or rest (ref_end rest p) 0) 0x3A)
        test = rw (drop_move p, ref_end_move p, get_move (ref_end rest p))

        behind : (e : ℕ) → e ≡ k + ref_end rest p → ref_of kind w (Some (span (k + p + 12) e)) s (e + 1)
            ≡ move_word k (ref_of kind w (Some (span (p + 12) (ref_end rest p))) rest (ref_end rest p + 1))
        behind e h =
            rw (h, assoc k p 12, assoc k (ref_end rest p) 1) (ref_move (Some (span (p + 12) (ref_end rest p))) (ref_end rest p + 1))

  module _ (m : Mode) where
    imprecise_move : (p : ℕ) → imprecise_at s m (k + p) ≡ move_word k (imprecise_at rest m p)
    unfolding imprecise_at
    imprecise_move p =
        cond_move (move_word k) m.imprecise _ _ _ _ _ refl
        (ap (λ (x : List ℕ). hit (k + p) (imprecise_of x)) (drop_move p) ∙ go (imprecise_of (drop p rest))) refl
      where
        go : (l : Option Loose) → hit (k + p) l ≡ move_word k (hit p l)
        go (Some x) = ap (λ (e : ℕ). Some (Licence x.licence, e)) (assoc k p x.len)
        go None = refl

    unknown_move : (p e : ℕ) → unknown_of m (k + p) (k + e) ≡ move_word k (unknown_of m p e)
    unfolding unknown_of
    unknown_move p e = cond_move (move_word k) m.unknown _ _ _ _ _ refl refl refl

    word_move : (p e : ℕ) → word_of s m (k + p) (k + e) ≡ move_word k (word_of rest m p e)
    unfolding word_of
    word_move p e =
        let r = part p e rest in
        let b = part_move p e in
        either_move k (operator_of r e) _ _ _ (ap (λ (x : List ℕ). operator_of x (k + e)) b ∙ operator_move r e)
        (either_move k (found Licence e (licence_of r)) _ _ _
        (ap (λ (x : List ℕ). found Licence (k + e) (licence_of x)) b ∙ licence_move e (licence_of r))
        (either_move k (found Exception e (exception_of r)) _ _ _
        (ap (λ (x : List ℕ). found Exception (k + e) (exception_of x)) b ∙ exception_move e (exception_of r))
        (either_move k (documented LicenseRef (ascii "LicenseRef-") rest p) _ _ _
        (documented_move LicenseRef (ascii "LicenseRef-") (λ d n. refl) p)
        (either_move k (ref_of LicenseRef (ascii "LicenseRef-") None rest p) _ _ _
        (ref_move LicenseRef (ascii "LicenseRef-") (λ d n. refl) None p)
        (either_move k (documented AdditionRef (ascii "AdditionRef-") rest p) _ _ _
        (documented_move AdditionRef (ascii "AdditionRef-") (λ d n. refl) p)
        (either_move k (ref_of AdditionRef (ascii "AdditionRef-") None rest p) _ _ _
        (ref_move AdditionRef (ascii "AdditionRef-") (λ d n. refl) None p)
        (either_move k (imprecise_at rest m p) (unknown_of m p e) _ _ (imprecise_move p) (unknown_move p e))))))))

    module _ (inside : k ≤ length s) where
      length_move : length s ≡ k + length rest
      length_move = omega (arith, length-drop k s)

      run_move : (p : ℕ) → run_of s m (k + p) ≡ move_step k (run_of rest m p)
      unfolding run_of
      run_move p =
          cond_move (move_step k) _ (eqb (run_end rest p) p) _ _ _ _
          (ap (λ (x : ℕ). eqb x (k + p)) (run_end_move p) ∙ eqb_move (run_end rest p) p)
          (ap (λ (x : ℕ). Err (R.InvalidCharacters (span (k + p) x))) length_move)
          (ap (λ (x : ℕ). told m (k + p) x (word_of s m (k + p) x)) (run_end_move p)
          ∙ ap (told m (k + p) (k + run_end rest p)) (word_move p (run_end rest p))
          ∙ go (word_of rest m p (run_end rest p)))
        where
          go : (w : Option (Token × ℕ)) → told m (k + p) (k + run_end rest p) (move_word k w) ≡ move_step k (told m p (run_end rest p) w)
          go (Some (t, x)) = refl
          go None = refl

      end_move : (p : ℕ) → leb (length s) (k + p) ≡ leb (length rest) p
      end_move p = go (leb (length rest) p) refl
        where
          go : (b : Bool) → leb (length rest) p ≡ b → leb (length s) (k + p) ≡ b
          go true e = le-leb (length s) (k + p) (omega (arith, leb-true (length rest) p e, length_move))
          go false e = lt-leb (length s) (k + p) (omega (arith, leb-false (length rest) p e, length_move))

      mark_move : (at p : ℕ) → mark_of s m (k + at) (k + p) ≡ move_step k (mark_of rest m at p)
      unfolding mark_of
      mark_move at p =
          cond_move (move_step k) _ (leb (length rest) p) _ _ _ _ (end_move p) refl
          (cond_move (move_step k) _ (eqb (get_or rest p 0) 0x2B) _ _ _ _ (byte 0x2B)
          (cond_move (move_step k) _ (eqb p at) _ _ _ _ (eqb_move p at) (one_on Plus) refl)
          (cond_move (move_step k) _ (eqb (get_or rest p 0) 0x28) _ _ _ _ (byte 0x28) (one_on Open)
          (cond_move (move_step k) _ (eqb (get_or rest p 0) 0x29) _ _ _ _ (byte 0x29) (one_on Close)
          (cond_move (move_step k) _ (eqb (get_or rest p 0) 0x2F && m.slash) _ _ _ _
          (ap (λ (b : Bool). b && m.slash) (byte 0x2F)) (one_on Or) (run_move p)))))
        where
          byte : (b : ℕ) → eqb (get_or s (k + p) 0) b ≡ eqb (get_or rest p 0) b
          byte b = ap (λ (x : ℕ). eqb x b) (get_move p)

          one_on : (t : Token) → got m t (k + p) (k + p + 1) ≡ got m t (k + p) (k + (p + 1))
          one_on t = ap (got m t (k + p)) (assoc k p 1)

      -- a step from a place on is the step in the text from there on, moved
      pub scan_move : (at : ℕ) → scan_of s m (k + at) ≡ move_step k (scan_of (drop k s) m at)
      unfolding scan_of past_white
      scan_move at = ap (mark_of s m (k + at)) (reach_move white_width at) ∙ mark_move at (reach white_width rest at)

      walked_move : (n p : ℕ) → walked (scan_of s m) n (k + p) ≡ move_tokens k (walked (scan_of rest m) n p)
      unfolding walked
      walked_move zero p = refl
      walked_move (suc n) p =
          ap (λ (st : Step). and_then st (walked (scan_of s m) n)) (scan_move p) ∙ go (λ x. walked_move n x) (scan_of rest m p)
        where
          go : ((x : ℕ) → walked (scan_of s m) n (k + x) ≡ move_tokens k (walked (scan_of rest m) n x)) → (st : Step)
              → and_then (move_step k st) (walked (scan_of s m) n) ≡ move_tokens k (and_then st (walked (scan_of rest m) n))
          go ih (Ok (Some g)) = ap (token (move_token k g.token) (move_span k g.span)) (ih g.next.at)
          go ih (Ok None) = refl
          go ih (Err r) = refl

      -- so are all tokens
      pub tokens_move : (at : ℕ) → tokens_of s m (k + at) ≡ move_tokens k (tokens_of (drop k s) m at)
      unfolding tokens_of
      tokens_move at =
          let e : length s - (k + at) ≡ length rest - at = omega (arith, length_move) in
          ap (λ (n : ℕ). walked (scan_of s m) (suc n) (k + at)) e ∙ walked_move (suc (length rest - at)) at

  -- a token that moves keeps its bytes
  bytes_move : (a : Span) → bytes_of s (move_span k a) ≡ bytes_of rest a
  bytes_move a = part_move a.start a.end

  doc_move : (d : Option Span) → doc_bytes s (move_doc k d) ≡ doc_bytes rest d
  doc_move None = refl
  doc_move (Some d) = ap Some (bytes_move d)

  pub said_move : (t : Token) → said s (move_token k t) ≡ said (drop k s) t
  said_move And = refl
  said_move Or = refl
  said_move With = refl
  said_move Plus = refl
  said_move Open = refl
  said_move Close = refl
  said_move (Licence i) = refl
  said_move (Exception i) = refl
  said_move (LicenseRef d n) = rw (doc_move d, bytes_move n)
  said_move (AdditionRef d n) = rw (doc_move d, bytes_move n)
  said_move (Unknown n) = rw (bytes_move n)

  all_said_move : (ts : Tokens) → said_of s (move_tokens k ts) ≡ said_of rest ts
  all_said_move done = refl
  all_said_move (refused r) = refl
  all_said_move (token t a ts) = let h = said_move t in let i = all_said_move ts in cc

  -- the tokens from a place on are those of the text from there on
  pub heard_from : (m : Mode) → k ≤ length s → heard s m k ≡ heard (drop k s) m 0
  unfolding heard
  heard_from m inside =
      ap (λ (x : ℕ). said_of s (tokens_of s m x)) (sym (add-zero k)) ∙ ap (said_of s) (tokens_move m inside 0)
      ∙ all_said_move (tokens_of rest m 0)

module _ (s : List ℕ) (m : Mode) where
  -- the tokens from 0 on, by the step's answer
  first_step : (st : Step) → scan_of s m 0 ≡ st → heard s m 0 ≡ said_of s (and_then st (tokens_of s m))
  unfolding heard
  first_step st h = ap (said_of s) (tokens_step s m 0 ∙ ap (λ (x : Step). and_then x (tokens_of s m)) h)

  -- one token, then what is heard behind it
  pub heard_say : (t : Token) (a e : ℕ) → scan_of s m 0 ≡ got m t a e → heard s m 0 ≡ said s t ∷ heard (drop e s) m 0
  unfolding heard
  heard_say t a e h =
      first_step (got m t a e) h
      ∙ ap (λ (w : List Spoken). said s t ∷ w) (heard_from e s m (inside (subst (Ahead s m 0) h (scan_ahead s m 0))))
    where
      inside : Ahead s m 0 (got m t a e) → e ≤ length s
      inside i = i.inside

  -- nothing but white space
  pub heard_end : scan_of s m 0 ≡ (Ok None) → heard s m 0 ≡ []
  heard_end h = first_step (Ok None) h

  -- a place from which the step is the same
  pub heard_skip : (k : ℕ) → k ≤ length s → scan_of s m 0 ≡ scan_of s m k → heard s m 0 ≡ heard (drop k s) m 0
  unfolding heard
  heard_skip k i h = first_step (scan_of s m k) h ∙ ap (said_of s) (sym (tokens_step s m k)) ∙ heard_from k s m i
