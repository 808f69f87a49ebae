-- A scan that every expression passes: how many parentheses are open, and which token stands before. It passes more than expressions: a name
-- may be barred by the mode, and may bar a `+`. The proofs' machinery, nothing to believe.
use Rattle.std.specs.Prelude.{◌≡◌, refl, Bool, true, cond, List, [], ◌∷◌, ◌++◌, ℕ, zero, suc, ◌+◌}
use Rattle.std.proofs.Common.{sym, ap, subst, ◌∙◌, append_assoc, append-nil, arith}
use Rattle.std.proofs.lemmas.Bool.{false≢true}
use Rattle.refusal.specs.declared.Expected.{Expected}
use Rattle.refusal.specs.declared.Expected.TheVariants as E
use Rattle.mode.specs.declared.Mode.{Mode}
use Rattle.lexer.specs.Sign.{Sign, name, reference, unknown, exception, addition, plus, WITH, AND, OR, LP, RP, bad}
use Rattle.grammar.specs.declared.Before.{Before}
use Rattle.grammar.specs.declared.Before.TheVariants.{Nothing, Joint, Listed, Term, Suffixed, With, Added, Closed}
use Rattle.grammar.specs.Leaves.{expected_after, takes_with}
use Rattle.grammar.specs.Tree.{Tree, size}
use Rattle.annex.specs.Annex.{Named, Item, Simple, id, id_later, ref, gnu_later, term, Additions, listed_one, ref_one, term_one, term_more, Operand, bare, with, Level, Derives, leaf, group, alone, joined, one, choice, Expression}
use Rattle.annex.specs.Faults.{Begins, Dead, Not, weight, opening, closing, joining, set_behind, set_from, set_after}

-- so many parentheses are open, behind such a token; or no expression begins so
pub data Scan : Type 0 where
  mid : ℕ → Before → Scan
  stuck : Scan

-- a parenthesis is closed, if one is open
abbrev pub down : ℕ → Scan
down zero = stuck
down (suc d) = mid d Closed

-- where an operand is expected
abbrev pub expects : {R S : Type 0} → ℕ → Sign R S → Scan
expects d (name k p) = mid d (Listed k)
expects d (reference r p) = mid d Suffixed
expects d (unknown r p) = mid d Term
expects d (exception k) = stuck
expects d (addition r) = stuck
expects d plus = stuck
expects d WITH = stuck
expects d AND = stuck
expects d OR = stuck
expects d LP = mid (suc d) Joint
expects d RP = stuck
expects d bad = stuck

-- after an operand, by what `+` and what WITH make
abbrev pub ended : {R S : Type 0} → Scan → Scan → ℕ → Sign R S → Scan
ended a b d (name k p) = stuck
ended a b d (reference r p) = stuck
ended a b d (unknown r p) = stuck
ended a b d (exception k) = stuck
ended a b d (addition r) = stuck
ended a b d plus = a
ended a b d WITH = b
ended a b d AND = mid d Joint
ended a b d OR = mid d Joint
ended a b d LP = stuck
ended a b d RP = down d
ended a b d bad = stuck

-- after WITH
abbrev pub adds : {R S : Type 0} → ℕ → Sign R S → Scan
adds d (name k p) = stuck
adds d (reference r p) = stuck
adds d (unknown r p) = mid d Term
adds d (exception k) = mid d Added
adds d (addition r) = mid d Added
adds d plus = stuck
adds d WITH = stuck
adds d AND = stuck
adds d OR = stuck
adds d LP = stuck
adds d RP = stuck
adds d bad = stuck

-- what `+` makes after an operand: it belongs to a listed name
abbrev pub on_plus : ℕ → Before → Scan
on_plus d Nothing = stuck
on_plus d Joint = stuck
on_plus d (Listed k) = mid d Suffixed
on_plus d Term = stuck
on_plus d Suffixed = stuck
on_plus d With = stuck
on_plus d Added = stuck
on_plus d Closed = stuck

-- what WITH makes after an operand
abbrev pub on_with : ℕ → Before → Scan
on_with d b = cond (takes_with b) (mid d With) stuck

-- one sign, behind such a token
abbrev pub move_at : {R S : Type 0} → ℕ → Before → Sign R S → Scan
move_at d Nothing x = expects d x
move_at d Joint x = expects d x
move_at d (Listed k) x = ended (mid d Suffixed) (mid d With) d x
move_at d Term x = ended stuck (mid d With) d x
move_at d Suffixed x = ended stuck (mid d With) d x
move_at d With x = adds d x
move_at d Added x = ended stuck stuck d x
move_at d Closed x = ended stuck stuck d x

-- one sign
abbrev pub move : {R S : Type 0} → Scan → Sign R S → Scan
move (mid d b) x = move_at d b x
move stuck x = stuck

-- all signs
abbrev pub scan : {R S : Type 0} → Scan → List (Sign R S) → Scan
scan k [] = k
scan k (x ∷ s) = scan (move k x) s

-- an operand has ended
abbrev pub Over : Before → Type 0
Over Nothing = ⊥
Over Joint = ⊥
Over (Listed k) = Unit {0}
Over Term = Unit {0}
Over Suffixed = Unit {0}
Over With = ⊥
Over Added = Unit {0}
Over Closed = Unit {0}

-- what WITH may follow is an ended operand
takes_over : (b : Before) → takes_with b ≡ true → Over b
takes_over Nothing h = absurd (false≢true h)
takes_over Joint h = absurd (false≢true h)
takes_over (Listed k) h = tt
takes_over Term h = tt
takes_over Suffixed h = tt
takes_over With h = absurd (false≢true h)
takes_over Added h = absurd (false≢true h)
takes_over Closed h = absurd (false≢true h)

module _ {R S : Type 0} where
  -- one step behind an ended operand
  pub after_ended : (b : Before) → Over b → (d : ℕ) (x : Sign R S) → move_at d b x ≡ ended (on_plus d b) (on_with d b) d x
  after_ended Nothing o d x = absurd o
  after_ended Joint o d x = absurd o
  after_ended (Listed k) o d x = refl
  after_ended Term o d x = refl
  after_ended Suffixed o d x = refl
  after_ended With o d x = absurd o
  after_ended Added o d x = refl
  after_ended Closed o d x = refl

  scan_stuck : (s : List (Sign R S)) → scan stuck s ≡ stuck
  scan_stuck [] = refl
  scan_stuck (x ∷ s) = scan_stuck s

  -- one sign more
  step : (k j : Scan) (x : Sign R S) (s : List (Sign R S)) → move k x ≡ j → scan k (x ∷ s) ≡ scan j s
  step k j x s h = ap (λ (k : Scan). scan k s) h

  -- WITH behind an operand that takes it
  on_with_lem : (b : Before) → takes_with b ≡ true → (d : ℕ) (s : List (Sign R S)) → scan (mid d b) (WITH ∷ s) ≡ scan (mid d With) s
  on_with_lem b h d s =
      step (mid d b) (on_with d b) WITH s (after_ended b (takes_over b h) d WITH)
      ∙ ap (λ (c : Bool). scan (cond c (mid d With) stuck) s) h

  -- signs that begin where an operand is expected and end behind an operand's last token
  pub record Passes (s : List (Sign R S)) : Type 0 where
    pub last : Before
    pub over : Over last
    pub goes : (d : ℕ) (y : List (Sign R S)) → scan (mid d Joint) (s ++ y) ≡ scan (mid d last) y

  -- additions, behind what takes WITH
  record PassesMore (z : List (Sign R S)) : Type 0 where
    last : Before
    over : Over last
    goes : (b : Before) → takes_with b ≡ true → (d : ℕ) (y : List (Sign R S)) → scan (mid d b) (z ++ y) ≡ scan (mid d last) y

  scans_more : {z : List (Sign R S)} {a : Named R} → Additions z a → PassesMore z
  scans_more (listed_one {k}) = record { last = Added; over = tt; goes = (λ b h d y. on_with_lem b h d (exception k ∷ y)) }
  scans_more (ref_one {r}) = record { last = Added; over = tt; goes = (λ b h d y. on_with_lem b h d (addition r ∷ y)) }
  scans_more (term_one {r} {p}) = record { last = Term; over = tt; goes = (λ b h d y. on_with_lem b h d (unknown r p ∷ y)) }
  scans_more (term_more {r} {p} {z} x) =
      record {
        last = (scans_more x).last;
        over = (scans_more x).over;
        goes = (λ b h d y. on_with_lem b h d (unknown r p ∷ (z ++ y)) ∙ (scans_more x).goes Term refl d y);
      }

  -- two levels and an operator between them
  scans_both : {s z : List (Sign R S)} (x : Sign R S) → ((b : Before) → Over b → (d : ℕ) → move_at d b x ≡ mid d Joint) → Passes s → Passes z
      → Passes (s ++ (x ∷ z))
  scans_both {s} {z} x f a b =
      record {
        last = b.last;
        over = b.over;
        goes = (λ d y. ap (scan (mid d Joint)) (append_assoc s (x ∷ z) y) ∙ a.goes d (x ∷ (z ++ y))
            ∙ step (mid d a.last) (mid d Joint) x (z ++ y) (f a.last a.over d) ∙ b.goes d y);
      }

  module _ {m : Mode} where
    -- a simple expression ends behind what takes WITH
    scans_simple : {s : List (Sign R S)} {l : Item R S} → Simple m s l
        → (b : Before) × (takes_with b ≡ true) × ((d : ℕ) (y : List (Sign R S)) → scan (mid d Joint) (s ++ y) ≡ scan (mid d b) y)
    scans_simple (id {k} x) = (Listed k, refl, (λ d y. refl))
    scans_simple (id_later x g) = (Suffixed, refl, (λ d y. refl))
    scans_simple ref = (Suffixed, refl, (λ d y. refl))
    scans_simple (gnu_later x g a i j) = (Suffixed, refl, (λ d y. refl))
    scans_simple term = (Term, refl, (λ d y. refl))

    scans_operand : {s : List (Sign R S)} {l : Item R S} → Operand m s l → Passes s
    scans_operand (bare x) =
        let e = scans_simple x in record { last = e.0; over = takes_over e.0 e.1; goes = e.2 }
    scans_operand (with {s} {z} x a) =
        let e = scans_simple x in
        record {
          last = (scans_more a).last;
          over = (scans_more a).over;
          goes = (λ d y. ap (scan (mid d Joint)) (append_assoc s z y) ∙ e.2 d (z ++ y) ∙ (scans_more a).goes e.0 e.1 d y);
        }

    -- every level passes
    pub scans : {v : Level} {s : List (Sign R S)} {t : Tree (Item R S)} → Derives m v s t → Passes s
    scans (leaf x) = scans_operand x
    scans (group {s} x) =
        let a = scans x in
        record {
          last = Closed;
          over = tt;
          goes = (λ d y. ap (scan (mid (suc d) Joint)) (append_assoc s (RP ∷ []) y) ∙ a.goes (suc d) (RP ∷ y)
              ∙ step (mid (suc d) a.last) (mid d Closed) RP y (after_ended a.last a.over (suc d) RP));
        }
    scans (alone x) = scans x
    scans (joined x y) = scans_both AND (λ b o d. after_ended b o d AND) (scans x) (scans y)
    scans (one x) = scans x
    scans (choice x y) = scans_both OR (λ b o d. after_ended b o d OR) (scans x) (scans y)

    -- a whole expression
    pub whole : {s : List (Sign R S)} {t : Tree (Item R S)} (x : Expression m s t) → scan (mid 0 Joint) s ≡ mid 0 (scans x).last
    whole {s} x = ap (scan (mid 0 Joint)) (sym (append-nil s)) ∙ (scans x).goes 0 []

  -- the scan of what begins `b ..`, and the set for 6 behind b
  pub record Stands (b : List (Sign R S)) (d : ℕ) (k : Before) : Type 0 where
    pub leads : (y : List (Sign R S)) → scan (mid 0 Joint) (b ++ y) ≡ scan (mid d k) y
    pub told : set_after b ≡ expected_after k

  -- the last sign tells the set
  set_last : (x : Expected) (b : List (Sign R S)) (y : Sign R S) → set_from x (b ++ (y ∷ [])) ≡ set_behind y
  set_last x [] y = refl
  set_last x (z ∷ b) y = set_last (set_behind z) b y

  -- one sign behind them, and its set
  pub stands_on : {b : List (Sign R S)} {d : ℕ} {k : Before} (x : Sign R S) (n : ℕ) (c : Before) → Stands b d k → move_at d k x ≡ mid n c
      → set_behind x ≡ expected_after c → Stands (b ++ (x ∷ [])) n c
  stands_on {b} {d} {k} x n c h e i = record {
    leads = (λ y. ap (scan (mid 0 Joint)) (append_assoc b (x ∷ []) y) ∙ h.leads (x ∷ y) ∙ step (mid d k) (mid n c) x y e);
    told = set_last E.Term b x ∙ i;
  }

  module _ (m : Mode) where
    -- a sign that no expression has there
    pub dead : {b : List (Sign R S)} {d : ℕ} {k : Before} (x : Sign R S) → Stands b d k → move_at d k x ≡ stuck → Dead m (b ++ (x ∷ []))
    dead {b} {d} {k} x h e z t w =
        let p : scan (mid 0 Joint) (b ++ (x ∷ z)) ≡ mid 0 (scans w).last =
        ap (scan (mid 0 Joint)) (sym (append_assoc b (x ∷ []) z)) ∙ whole w in
        let q : scan (mid 0 Joint) (b ++ (x ∷ z)) ≡ stuck = h.leads (x ∷ z) ∙ step (mid d k) stuck x z e ∙ scan_stuck z in
        let i : ◌≡◌ {A = ℕ} 0 1 = cc in omega arith

    -- no expression ends where an operand is not over, or a parenthesis is open
    pub no_whole : {b : List (Sign R S)} {d : ℕ} {k : Before} → Stands b d k → (Over k → d ≡ 0 → ⊥) → Not m b
    no_whole {b} {d} {k} h f t w =
        let e : mid d k ≡ mid 0 (scans w).last = sym (h.leads []) ∙ ap (scan (mid 0 Joint)) (append-nil b) ∙ whole w in
        let i : d ≡ 0 = cc in
        let j : (scans w).last ≡ k = cc in
        f (subst Over j (scans w).over) i

    -- what begins an expression does so with less
    pub cut : (a c : List (Sign R S)) → Begins m (a ++ c) → Begins m a
    cut a c h = (c ++ h.0, h.1, subst (λ (s : List (Sign R S)). Expression m s h.1) (append_assoc a c h.0) h.2)

  -- the weight of two lists
  pub weight_append : (f : Sign R S → ℕ) (s z : List (Sign R S)) → weight f (s ++ z) ≡ weight f s + weight f z
  weight_append f [] z = omega arith
  weight_append f (x ∷ s) z = omega (arith, weight_append f s z)

  -- no operators and no parentheses
  abbrev Light : List (Sign R S) → Type 0
  Light s = (weight joining s ≡ 0) × (weight opening s ≡ 0) × (weight closing s ≡ 0)

  light_simple : {m : Mode} {s : List (Sign R S)} {l : Item R S} → Simple m s l → Light s
  light_simple (id x) = (refl, refl, refl)
  light_simple (id_later x g) = (refl, refl, refl)
  light_simple ref = (refl, refl, refl)
  light_simple (gnu_later x g a i j) = (refl, refl, refl)
  light_simple term = (refl, refl, refl)

  light_more : {z : List (Sign R S)} {a : Named R} → Additions z a → Light z
  light_more listed_one = (refl, refl, refl)
  light_more ref_one = (refl, refl, refl)
  light_more term_one = (refl, refl, refl)
  light_more (term_more x) = let h = light_more x in (omega arith, omega arith, omega arith)

  light : {m : Mode} {s : List (Sign R S)} {l : Item R S} → Operand m s l → Light s
  light (bare x) = light_simple x
  light (with {s} {z} x a) =
      let k = light_simple x in
      let h = light_more a in
      (omega (arith, weight_append joining s z), omega (arith, weight_append opening s z), omega (arith, weight_append closing s z))

  -- one operator less than leaves, and parentheses that match
  pub weighs : {m : Mode} {v : Level} {s : List (Sign R S)} {t : Tree (Item R S)} → Derives m v s t
      → (weight joining s + 1 ≡ size t) × (weight opening s ≡ weight closing s)
  weighs (leaf x) = let h = light x in (omega arith, omega arith)
  weighs (group {s} x) = (
    omega (arith, (weighs x).0, weight_append joining s (RP ∷ [])),
    omega (arith, (weighs x).1, weight_append opening s (RP ∷ []), weight_append closing s (RP ∷ [])),
  )
  weighs (alone x) = weighs x
  weighs (joined {s} {z} x y) = (
    omega (arith, (weighs x).0, (weighs y).0, weight_append joining s (AND ∷ z)),
    omega (arith, (weighs x).1, (weighs y).1, weight_append opening s (AND ∷ z), weight_append closing s (AND ∷ z)),
  )
  weighs (one x) = weighs x
  weighs (choice {s} {z} x y) = (
    omega (arith, (weighs x).0, (weighs y).0, weight_append joining s (OR ∷ z)),
    omega (arith, (weighs x).1, (weighs y).1, weight_append opening s (OR ∷ z), weight_append closing s (OR ∷ z)),
  )
