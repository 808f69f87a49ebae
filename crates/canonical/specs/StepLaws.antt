-- Laws of a turn of the code: what it writes and where it goes on make the canonical text of what is left, and what it writes is at most four
-- times as long as what it passes.
use Rattle.lexer.specs.Step.{Step}
use Rattle.std.specs.Prelude.{ℕ, ◌+◌, ◌-◌, ◌*◌, ◌<◌, ◌≤◌, ◌≡◌, Bool, cond, List, [], ◌++◌, length, get_or, take, Some, None, Ok, Err}
use Rattle.std.proofs.Math.Path.{refl, ap}
use Rattle.std.proofs.Common.{sym, ◌∙◌, true≢false, arith, length-append, length-take}
use Rattle.std.proofs.Math.Bool.{true, false}
use borrow.Author.Tests.{eqb-true, eq-eqb}
use Rattle.text.specs.Text.{ascii, ends}
use Rattle.text.specs.TextLaws.{byte_in, part_length}
use Rattle.names.specs.Lookup.{licence_name, gnu_of, is_bare, stem}
use Rattle.refusal.specs.Refused.{span}
use Rattle.refusal.specs.declared.Span.{Span}
use Rattle.mode.specs.Modes.{lax}
use Rattle.lexer.specs.declared.Cursor.{Cursor}
use Rattle.lexer.specs.declared.Got.{Got}
use Rattle.lexer.specs.declared.Token.{Token}
use Rattle.lexer.specs.declared.Token.TheVariants as T
use Rattle.lexer.specs.Lex.{got, scan_of}
use Rattle.lexer.specs.Tokens.{Tokens, done, refused, token, and_then, tokens_of}
use Rattle.lexer.proofs.TokensLaws.{tokens_step}
use Rattle.lexer.proofs.Ahead.{Ahead, TokenAt, scan_ahead}
use Rattle.lexer.specs.Spelling.{said, spell, bytes_of}
use Rattle.lexer.specs.Standing.{NameStands, Standing, StandingStep}
use Rattle.lexer.proofs.StandingLaws.{scan_standing, plus_here, plus_there}
use Rattle.canonical.specs.Canonical.{alone, plussed, is_plus, plus_next, Text, text, refuse, behind, canon_from}
use Rattle.canonical.specs.Turn.{plus_at, licence_piece, licence_next, goes, Turn, goes_on, token_turn, turn_of, piece, step_piece}

-- nothing before a text
pub behind_none : (x : Text) → behind [] x ≡ x
behind_none (text c) = refl
behind_none (refuse r) = refl

-- a licence just before does not matter where no `+` is first
pub canon_either : (s : List ℕ) (b c : Bool) (ts : Tokens) → plus_next ts ≡ false → canon_from s b ts ≡ canon_from s c ts
unfolding canon_from
canon_either s b c done e = refl
canon_either s b c (refused r) e = refl
canon_either s b c (token t sp ts) e = rw e

-- the canonical text of what is left of a text from a place on, where no listed licence stands just before it
abbrev pub Rest : List ℕ → ℕ → Text
Rest s at = canon_from s false (tokens_of s lax at)

module _ (s : List ℕ) (at : ℕ) where
  plus_is : plus_at s at ≡ true → get_or s at 0 ≡ 0x2B
  unfolding plus_at
  plus_is e = eqb-true (get_or s at 0) 0x2B e

  is_plus_lem : get_or s at 0 ≡ 0x2B → plus_at s at ≡ true
  unfolding plus_at
  is_plus_lem e = eq-eqb (get_or s at 0) 0x2B e

  -- the tokens, where the step is known
  tokens_by : (st : Step) → scan_of s lax at ≡ st → tokens_of s lax at ≡ and_then st (tokens_of s lax)
  tokens_by st e = tokens_step s lax at ∙ ap (λ (x : Step). and_then x (tokens_of s lax)) e

  -- where a `+` stands it is the next token
  tokens_plus : plus_at s at ≡ true → tokens_of s lax at ≡ token T.Plus (span at (at + 1)) (tokens_of s lax (at + 1))
  tokens_plus e = tokens_by (got lax T.Plus at (at + 1)) (plus_here s lax at (plus_is e))

  -- and nowhere else
  pub plus_next_lem : plus_next (tokens_of s lax at) ≡ plus_at s at
  plus_next_lem = go (plus_at s at) refl
    where
      by : plus_at s at ≡ false → (g : Got) → scan_of s lax at ≡ Ok (Some g) → (t : Token) → g.token ≡ t → is_plus t ≡ false
      by e g q T.And h = refl
      by e g q T.Or h = refl
      by e g q T.With h = refl
      by e g q T.Plus h = absurd (true≢false (sym (is_plus_lem (plus_there s lax at g.span g.next (q ∙ ap (λ (t : Token). Ok (Some record { token = t; span = g.span; next = g.next })) h))) ∙ e))
      by e g q T.Open h = refl
      by e g q T.Close h = refl
      by e g q (T.Licence k) h = refl
      by e g q (T.Exception k) h = refl
      by e g q (T.LicenseRef d x) h = refl
      by e g q (T.AdditionRef d x) h = refl
      by e g q (T.Unknown x) h = refl

      no : plus_at s at ≡ false → (st : Step) → scan_of s lax at ≡ st → plus_next (and_then st (tokens_of s lax)) ≡ false
      no e (Ok None) q = refl
      no e (Err r) q = refl
      no e (Ok (Some g)) q = by e g q g.token refl

      go : (b : Bool) → plus_at s at ≡ b → plus_next (tokens_of s lax at) ≡ b
      go true e = ap plus_next (tokens_plus e)
      go false e = ap plus_next (tokens_step s lax at) ∙ no e (scan_of s lax at) refl

  -- behind a listed licence, a `+` that stands here is passed over with it
  rest_plus : plus_at s at ≡ true → canon_from s true (tokens_of s lax at) ≡ Rest s (at + 1)
  unfolding canon_from
  rest_plus e = ap (canon_from s true) (tokens_plus e) ∙ behind_none (Rest s (at + 1))

  rest_no_plus : plus_at s at ≡ false → canon_from s true (tokens_of s lax at) ≡ Rest s at
  rest_no_plus e = canon_either s true false (tokens_of s lax at) (plus_next_lem ∙ e)

  -- a listed licence k that ends here, with the `+` behind it
  licence_rest : (k : ℕ) → behind (cond (plus_next (tokens_of s lax at)) (plussed k) (alone k)) (canon_from s true (tokens_of s lax at))
      ≡ behind (licence_piece s k at) (Rest s (licence_next s at))
  unfolding licence_piece licence_next
  licence_rest k =
      ap (λ (b : Bool). behind (cond b (plussed k) (alone k)) (canon_from s true (tokens_of s lax at))) plus_next_lem ∙ go (plus_at s at) refl
    where
      go : (b : Bool) → plus_at s at ≡ b → behind (cond b (plussed k) (alone k)) (canon_from s true (tokens_of s lax at))
          ≡ behind (cond b (plussed k) (alone k)) (Rest s (cond b (at + 1) at))
      go true e = ap (behind (plussed k)) (rest_plus e)
      go false e = ap (behind (alone k)) (rest_no_plus e)

-- what a listed licence costs: five bytes more than its name, and nine with a `+`
alone_cost : (k : ℕ) → length (alone k) ≤ length (licence_name k) + 5
unfolding alone
alone_cost k = go (is_bare k)
  where
    go : (b : Bool) → length (licence_name k ++ cond b (ascii "-only") []) ≤ length (licence_name k) + 5
    go true = omega (arith, length-append (licence_name k) (ascii "-only"))
    go false = omega (arith, length-append (licence_name k) [])

stem_short : (n : List ℕ) → length (stem n) ≤ length n
unfolding stem
stem_short n = go (ends (ascii "-only") n)
  where
    go : (b : Bool) → length (cond b (take (length n - 5) n) n) ≤ length n
    go true = omega (arith, length-take (length n - 5) n)
    go false = omega arith

plussed_cost : (k : ℕ) → length (plussed k) ≤ length (licence_name k) + 9
unfolding plussed
plussed_cost k = go (gnu_of k)
  where
    go : (b : Bool) → length (cond b (stem (licence_name k) ++ ascii "-or-later") (licence_name k ++ ascii "+")) ≤ length (licence_name k) + 9
    go true = omega (arith, length-append (stem (licence_name k)) (ascii "-or-later"), stem_short (licence_name k))
    go false = omega (arith, length-append (licence_name k) (ascii "+"))

-- the listed licence k that ends at e
licence_next_lem : (s : List ℕ) (e : ℕ) → e ≤ length s → (e ≤ licence_next s e) × (licence_next s e ≤ length s)
unfolding licence_next
licence_next_lem s e h = go (plus_at s e) refl
  where
    go : (b : Bool) → plus_at s e ≡ b → (e ≤ cond b (e + 1) e) × (cond b (e + 1) e ≤ length s)
    go true q = (omega arith, omega (arith, byte_in s e 0x2B (plus_is s e q) (omega arith)))
    go false q = (omega arith, h)

licence_cost : (s : List ℕ) (k e : ℕ) → length (licence_piece s k e) + 4 * e ≤ length (licence_name k) + 5 + 4 * licence_next s e
unfolding licence_piece licence_next
licence_cost s k e = go (plus_at s e)
  where
    go : (b : Bool) → length (cond b (plussed k) (alone k)) + 4 * e ≤ length (licence_name k) + 5 + 4 * cond b (e + 1) e
    go true = omega (arith, plussed_cost k)
    go false = omega (arith, alone_cost k)

-- a turn that passes from a place to another, with what it writes
pub record Going (s : List ℕ) (at : ℕ) (p : List ℕ) (to : ℕ) : Type 0 where
  pub rest : Rest s at ≡ behind p (Rest s to)
  pub ahead : at < to
  pub inside : to ≤ length s
  pub cost : length p ≤ 4 * (to - at)

-- what a turn from a place says of the rest, where n bytes are written before it and p by it
abbrev pub Turned : List ℕ → ℕ → ℕ → List ℕ → Turn → Type 0
Turned s at n p (Ok (Some q)) = Going s at p q.at × (q.len ≡ n + length p)
Turned s at n p (Ok None) = (Rest s at ≡ text []) × (p ≡ [])
Turned s at n p (Err r) = (Rest s at ≡ refuse r) × (p ≡ [])

module _ (s : List ℕ) (at : ℕ) where
  -- the rest, where the step is known
  rest_by : (st : Step) → scan_of s lax at ≡ st → Rest s at ≡ canon_from s false (and_then st (tokens_of s lax))
  rest_by st e = ap (canon_from s false) (tokens_by s at st e)

  module _ (n : ℕ) (sp : Span) (nx : Cursor) (a : TokenAt s lax at sp nx) where
    -- a token that is no licence and no `+`
    piece_goes : (p : List ℕ) → Rest s at ≡ behind p (Rest s nx.at) → length p ≤ 4 * (sp.end - sp.start)
        → Turned s at n p (Ok (Some (goes nx.at (n + length p))))
    piece_goes p e h =
        (record { rest = e; ahead = omega arith; inside = omega arith; cost = omega arith }, refl)

    -- one that is written as it stands
    stands_goes : (p : List ℕ) → Rest s at ≡ behind p (Rest s nx.at) → bytes_of s sp ≡ p → Turned s at n p (Ok (Some (goes nx.at (n + length p))))
    stands_goes p e q =
        piece_goes p e (omega (arith, ap length q, part_length sp.start sp.end s (omega arith) a.inside))

    licence_goes : (k : ℕ) → Rest s at ≡ behind (licence_piece s k nx.at) (Rest s (licence_next s nx.at)) → NameStands k sp
        → Turned s at n (licence_piece s k nx.at) (Ok (Some (goes (licence_next s nx.at) (n + length (licence_piece s k nx.at)))))
    licence_goes k e w =
        let h = licence_next_lem s nx.at (omega arith) in
        (record { rest = e; ahead = omega arith; inside = h.1; cost = omega (arith, licence_cost s k nx.at, w.room) }, refl)

  -- the turn of each token
  token_turned : (n : ℕ) (t : Token) (sp : Span) (nx : Cursor) → scan_of s lax at ≡ Ok (Some record { token = t; span = sp; next = nx }) → TokenAt s lax at sp nx → Standing s t sp
      → Turned s at n (piece s t nx.at) (goes_on (token_turn s n t sp nx.at))
  unfolding canon_from
  token_turned n T.And sp nx e a w = piece_goes n sp nx a (ascii " AND ") (rest_by _ e) (omega arith)
  token_turned n T.Or sp nx e a w = piece_goes n sp nx a (ascii " OR ") (rest_by _ e) (omega arith)
  token_turned n T.With sp nx e a w = piece_goes n sp nx a (ascii " WITH ") (rest_by _ e) (omega arith)
  token_turned n T.Plus sp nx e a w = (rest_by _ e, refl)
  token_turned n T.Open sp nx e a w = piece_goes n sp nx a (ascii "(") (rest_by _ e) (omega arith)
  token_turned n T.Close sp nx e a w = piece_goes n sp nx a (ascii ")") (rest_by _ e) (omega arith)
  token_turned n (T.Licence k) sp nx e a w =
      licence_goes n sp nx a k (rest_by _ e ∙ licence_rest s nx.at k) w
  token_turned n (T.Exception k) sp nx e a w =
      stands_goes n sp nx a (spell (said s (T.Exception k))) (rest_by _ e) w.1
  token_turned n (T.LicenseRef d x) sp nx e a w =
      stands_goes n sp nx a (spell (said s (T.LicenseRef d x))) (rest_by _ e) w
  token_turned n (T.AdditionRef d x) sp nx e a w =
      stands_goes n sp nx a (spell (said s (T.AdditionRef d x))) (rest_by _ e) w
  token_turned n (T.Unknown x) sp nx e a w =
      stands_goes n sp nx a (spell (said s (T.Unknown x))) (rest_by _ e) w

  -- every turn, by the step from a place: so `turn_of` and `stepPiece` say what the canonical text of the rest begins with and where it goes on
  pub turned : (n : ℕ) → Turned s at n (step_piece s (scan_of s lax at)) (turn_of s n (scan_of s lax at))
  unfolding canon_from
  turned n = go (scan_of s lax at) refl (scan_ahead s lax at) (scan_standing s lax at)
    where
      go : (st : Step) → scan_of s lax at ≡ st → Ahead s lax at st → StandingStep s st → Turned s at n (step_piece s st) (turn_of s n st)
      go (Ok None) e a w = (rest_by (Ok None) e, refl)
      go (Err r) e a w = (rest_by (Err r) e, refl)
      go (Ok (Some g)) e a w = token_turned n g.token g.span g.next e a w
