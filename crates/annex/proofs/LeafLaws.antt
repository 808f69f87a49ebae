-- An operand of the annex that neither `+` nor WITH follows is read as one leaf, and the leaf is the operand's item.
use Rattle.std.specs.Prelude.{◌≡◌, Bool, true, false, cond, List, ◌++◌, ℕ, suc, ◌≤◌, ◌<◌, Option, Some, None, Ok, Err}
use Rattle.std.proofs.Math.Path.{refl}
use Rattle.std.proofs.Common.{sym, ap, subst, ◌∙◌, append_assoc}
use native.Mathlib.Omega.{arith}
use Rattle.text.specs.Tests.{by_cond}
use Rattle.names.specs.Lookup.{gnu_of, is_later, later_of}
use Rattle.refusal.specs.declared.Span.{Span}
use Rattle.refusal.specs.declared.Refusal.TheVariants.{GnuNoPlus}
use Rattle.mode.specs.declared.Mode.{Mode}
use Rattle.lexer.specs.declared.Token.{Token}
use Rattle.lexer.specs.declared.Token.TheVariants as T
use Rattle.lexer.specs.Tokens.{Tokens, done, refused, token}
use Rattle.lexer.specs.Sign.{Sign}
use Rattle.grammar.specs.declared.Leaf.{Leaf}
use Rattle.grammar.specs.declared.Before.{Before}
use Rattle.grammar.specs.declared.Before.TheVariants.{Listed, Term, Suffixed, With, Added}
use Rattle.grammar.specs.declared.Start.TheVariants.{Begins}
use Rattle.grammar.specs.Move.{Move}
use Rattle.grammar.specs.Leaves.{listed_leaf, ref_leaf, plussed, renamed, later_move, with_listed, with_ref, takes_with, is_with, start_of, name_start, gnu_move, plus_move, tail_move, move_of, moved, Tail, whole, broken, tail_of}
use Rattle.grammar.specs.Grammar.{count}
use Rattle.annex.specs.Annex.{Named, listed, referred, Item, item, adding, Allowed, Simple, id, id_later, ref, gnu_later, term, Additions, listed_one, ref_one, term_one, term_more, Operand, bare, with}
use Rattle.annex.specs.Signs.{View, sign_of, signs_of, item_of}
use Rattle.annex.proofs.Unique.{NoTail, Head}
use Rattle.annex.proofs.Ahead.{ahead}

-- a tail that leaves at most n tokens
abbrev Fewer : ℕ → Tail → Type 0
Fewer n (whole l b rest) = count rest ≤ n
Fewer n (broken r) = Unit {0}

module _ {R S : Type 0} (v : View R S) (m : Mode) (e : ℕ) where
  tail_fewer : (ts : Tokens) (b : Before) (l : Leaf) → Fewer (count ts) (tail_of m e b l ts)
  unfolding tail_of
  tail_fewer done b l = by_cond (Fewer 0) (is_with b) _ _ (λ h. tt) (λ h. omega arith)
  tail_fewer (refused r) b l = by_cond (Fewer 0) (is_with b) _ _ (λ h. tt) (λ h. omega arith)
  tail_fewer (token t sp ts) b l = go (tail_fewer ts) (move_of m b l t sp)
    where
      wider : (t : Tail) → Fewer (count ts) t → Fewer (suc (count ts)) t
      wider (whole l b rest) h = omega arith
      wider (broken r) h = tt

      go : ((b : Before) (l : Leaf) → Fewer (count ts) (tail_of m e b l ts)) → (k : Move)
          → Fewer (suc (count ts)) (moved b l (token t sp ts) (λ n c. tail_of m e c n ts) k)
      go ih (Ok (Some (n, c))) = wider (tail_of m e c n ts) (ih c n)
      go ih (Ok None) = omega arith
      go ih (Err r) = tt

  -- where no token continues it, a leaf has ended
  ended : (b : Before) → is_with b ≡ false → (l : Leaf) (ts : Tokens) → Head NoTail (signs_of v ts) → tail_of m e b l ts ≡ whole l b ts
  unfolding tail_of move_of
  ended b w l done h = rw w
  ended b w l (refused r) h = rw w
  ended b w l (token t sp ts) h = rw w (go t h)
    where
      go : (t : Token) → NoTail (sign_of v t sp) → moved b l (token t sp ts) (λ n c. tail_of m e c n ts) (tail_move m b l t sp) ≡ whole l b (token t sp ts)
      go T.And h = refl
      go T.Or h = refl
      go T.With h = absurd h
      go T.Plus h = absurd h
      go T.Open h = refl
      go T.Close h = refl
      go (T.Licence k) h = refl
      go (T.Exception k) h = refl
      go (T.LicenseRef d n) h = refl
      go (T.AdditionRef d n) h = refl
      go (T.Unknown n) h = refl

  -- a tail that reads a leaf of the item i, with the signs r behind it
  record Reads (t : Tail) (i : Item R S) (r : List (Sign R S)) : Type 0 where
    leaf : Leaf
    before : Before
    rest : Tokens
    is : t ≡ whole leaf before rest
    same : item_of v leaf ≡ i
    then : signs_of v rest ≡ r

  stopped_at : (b : Before) → is_with b ≡ false → (l : Leaf) (ts : Tokens) (r : List (Sign R S)) → signs_of v ts ≡ r → Head NoTail r
      → Reads (tail_of m e b l ts) (item_of v l) r
  stopped_at b w l ts r h s = record {
    leaf = l;
    before = b;
    rest = ts;
    is = ended b w l ts (subst (Head NoTail) (sym h) s);
    same = refl;
    then = h;
  }

  -- a tail that goes on at another leaf
  reads_on : (t u : Tail) {i : Item R S} {r : List (Sign R S)} → t ≡ u → Reads u i r → Reads t i r
  reads_on t u p h = record { leaf = h.leaf; before = h.before; rest = h.rest; is = p ∙ h.is; same = h.same; then = h.then }

  -- a WITH behind a leaf, and an addition
  with_on : (b : Before) → is_with b ≡ false → takes_with b ≡ true → (l : Leaf) (sp : Span) (ts : Tokens)
      → tail_of m e b l (token T.With sp ts) ≡ tail_of m e With l ts
  unfolding tail_of move_of
  with_on b w t l sp ts = rw (w, t)

  exception_on : (l : Leaf) (k : ℕ) (sp : Span) (ts : Tokens) → tail_of m e With l (token (T.Exception k) sp ts) ≡ tail_of m e Added (with_listed l k) ts
  unfolding tail_of move_of
  exception_on l k sp ts = refl

  addition_on : (l : Leaf) (d : Option Span) (n sp : Span) (ts : Tokens)
      → tail_of m e With l (token (T.AdditionRef d n) sp ts) ≡ tail_of m e Added (with_ref l d n) ts
  unfolding tail_of move_of
  addition_on l d n sp ts = refl

  unknown_on : (l : Leaf) (n sp : Span) (ts : Tokens) → tail_of m e With l (token (T.Unknown n) sp ts) ≡ tail_of m e Term (with_ref l None n) ts
  unfolding tail_of move_of
  unknown_on l n sp ts = refl

  reads_adds : {z : List (Sign R S)} {a : Named R} → Additions z a → (b : Before) → is_with b ≡ false → takes_with b ≡ true → (l : Leaf) (ts : Tokens)
      (r : List (Sign R S)) → signs_of v ts ≡ z ++ r → Head NoTail r → Reads (tail_of m e b l ts) (adding (item_of v l) a) r
  reads_adds (listed_one {k}) b w t l ts r h s =
      let x = ahead v ts h in
      let y = ahead v x.1 x.3 in
      reads_on (tail_of m e b l ts) (tail_of m e Added (with_listed l k) y.1)
      (ap (tail_of m e b l) x.2 ∙ with_on b w t l x.0 x.1 ∙ ap (tail_of m e With l) y.2 ∙ exception_on l k y.0 y.1)
      (stopped_at Added refl (with_listed l k) y.1 r y.3 s)
  reads_adds (ref_one {r = c}) b w t l ts r h s =
      let x = ahead v ts h in
      let y = ahead v x.1 x.3 in
      let z = y.3 in
      subst (λ (c : R). Reads (tail_of m e b l ts) (adding (item_of v l) (referred c)) r) y.2
      (reads_on (tail_of m e b l ts) (tail_of m e Added (with_ref l y.0 y.1) z.1)
      (ap (tail_of m e b l) x.2 ∙ with_on b w t l x.0 x.1 ∙ ap (tail_of m e With l) z.2 ∙ addition_on l y.0 y.1 z.0 z.1)
      (stopped_at Added refl (with_ref l y.0 y.1) z.1 r z.3 s))
  reads_adds term_one b w t l ts r h s =
      let x = ahead v ts h in
      let y = ahead v x.1 x.3 in
      let z = y.2 in
      subst (λ (c : R). Reads (tail_of m e b l ts) (adding (item_of v l) (referred c)) r) y.1
      (reads_on (tail_of m e b l ts) (tail_of m e Term (with_ref l None y.0) z.1)
      (ap (tail_of m e b l) x.2 ∙ with_on b w t l x.0 x.1 ∙ ap (tail_of m e With l) z.2 ∙ unknown_on l y.0 z.0 z.1)
      (stopped_at Term refl (with_ref l None y.0) z.1 r z.3 s))
  reads_adds (term_more i) b w t l ts r h s =
      let x = ahead v ts h in
      let y = ahead v x.1 x.3 in
      let z = y.2 in
      reads_on (tail_of m e b l ts) (tail_of m e Term (with_ref l None y.0) z.1)
      (ap (tail_of m e b l) x.2 ∙ with_on b w t l x.0 x.1 ∙ ap (tail_of m e With l) z.2 ∙ unknown_on l y.0 z.0 z.1)
      (reads_adds i Term refl refl (with_ref l None y.0) z.1 r z.3 s)

  -- tokens that begin with an operand's first, and come to a leaf of the item i behind its simple expression, with the signs r behind it
  record Simply (ts : Tokens) (i : Item R S) (r : List (Sign R S)) : Type 0 where
    first : Token
    span : Span
    behind : Tokens
    at : ts ≡ token first span behind
    start : Leaf
    begun : Before
    starts : start_of m first span ≡ Begins start begun
    leaf : Leaf
    before : Before
    rest : Tokens
    goes : tail_of m e begun start behind ≡ tail_of m e before leaf rest
    not_with_lem : is_with before ≡ false
    takes_with_lem : takes_with before ≡ true
    same : item_of v leaf ≡ i
    then : signs_of v rest ≡ r

  name_starts : (k : ℕ) (sp : Span) → Allowed m k → start_of m (T.Licence k) sp ≡ Begins (listed_leaf k sp) (Listed k)
  unfolding name_start
  name_starts k sp a = rw a

  plus_on : (k : ℕ) (sp sq : Span) (ts : Tokens) → gnu_of k ≡ false
      → tail_of m e (Listed k) (listed_leaf k sp) (token T.Plus sq ts) ≡ tail_of m e Suffixed (plussed (listed_leaf k sp)) ts
  unfolding tail_of move_of plus_move
  plus_on k sp sq ts g = rw g

  gnu_on : (k j : ℕ) (sp sq : Span) (ts : Tokens) → gnu_of k ≡ true → m.gnu_plus ≡ true → is_later k ≡ false → later_of k ≡ Some j
      → tail_of m e (Listed k) (listed_leaf k sp) (token T.Plus sq ts) ≡ tail_of m e Suffixed (renamed (listed_leaf k sp) j) ts
  unfolding tail_of move_of plus_move gnu_move
  gnu_on k j sp sq ts g p i f =
      rw (g, i, f)
      (ap
      (λ (b : Bool).
      moved (Listed k) (listed_leaf k sp) (token T.Plus sq ts) (λ n c. tail_of m e c n ts)
      (cond b (later_move (listed_leaf k sp) sq (Some j)) (Err (GnuNoPlus sq))))
      p)

  simply : {z : List (Sign R S)} {i : Item R S} → Simple m z i → (ts : Tokens) (r : List (Sign R S)) → signs_of v ts ≡ z ++ r → Simply ts i r
  simply (id {k} a) ts r h =
      let x = ahead v ts h in
      record {
        first = T.Licence k;
        span = x.0;
        behind = x.1;
        at = x.2;
        start = listed_leaf k x.0;
        begun = Listed k;
        starts = name_starts k x.0 a;
        leaf = listed_leaf k x.0;
        before = Listed k;
        rest = x.1;
        goes = refl;
        not_with_lem = refl;
        takes_with_lem = refl;
        same = ap (λ (p : S). item (listed k) false p) x.4;
        then = x.3;
      }
  simply (id_later {k} a g) ts r h =
      let x = ahead v ts h in
      let y = ahead v x.1 x.3 in
      record {
        first = T.Licence k;
        span = x.0;
        behind = x.1;
        at = x.2;
        start = listed_leaf k x.0;
        begun = Listed k;
        starts = name_starts k x.0 a;
        leaf = plussed (listed_leaf k x.0);
        before = Suffixed;
        rest = y.1;
        goes = ap (tail_of m e (Listed k) (listed_leaf k x.0)) y.2 ∙ plus_on k x.0 y.0 y.1 g;
        not_with_lem = refl;
        takes_with_lem = refl;
        same = ap (λ (p : S). item (listed k) true p) x.4;
        then = y.3;
      }
  simply ref ts r h =
      let w = ahead v ts h in
      let x = w.3 in
      let l : Leaf = ref_leaf w.0 w.1 x.0 in
      record {
        first = T.LicenseRef w.0 w.1;
        span = x.0;
        behind = x.1;
        at = x.2;
        start = l;
        begun = Suffixed;
        starts = refl;
        leaf = l;
        before = Suffixed;
        rest = x.1;
        goes = refl;
        not_with_lem = refl;
        takes_with_lem = refl;
        same = cc;
        then = x.3;
      }
  simply (gnu_later {k} {j} a g p i f) ts r h =
      let x = ahead v ts h in
      let y = ahead v x.1 x.3 in
      record {
        first = T.Licence k;
        span = x.0;
        behind = x.1;
        at = x.2;
        start = listed_leaf k x.0;
        begun = Listed k;
        starts = name_starts k x.0 a;
        leaf = renamed (listed_leaf k x.0) j;
        before = Suffixed;
        rest = y.1;
        goes = ap (tail_of m e (Listed k) (listed_leaf k x.0)) y.2 ∙ gnu_on k j x.0 y.0 y.1 g p i f;
        not_with_lem = refl;
        takes_with_lem = refl;
        same = ap (λ (p : S). item (listed j) false p) x.4;
        then = y.3;
      }
  simply term ts r h =
      let w = ahead v ts h in
      let x = w.2 in
      let l : Leaf = ref_leaf None w.0 x.0 in
      record {
        first = T.Unknown w.0;
        span = x.0;
        behind = x.1;
        at = x.2;
        start = l;
        begun = Term;
        starts = refl;
        leaf = l;
        before = Term;
        rest = x.1;
        goes = refl;
        not_with_lem = refl;
        takes_with_lem = refl;
        same = cc;
        then = x.3;
      }

  -- tokens that are read as a leaf of the item i, with the signs r behind it
  pub record Leafed (ts : Tokens) (i : Item R S) (r : List (Sign R S)) : Type 0 where
    pub first : Token
    pub span : Span
    pub behind : Tokens
    pub at : ts ≡ token first span behind
    pub start : Leaf
    pub begun : Before
    pub starts : start_of m first span ≡ Begins start begun
    pub leaf : Leaf
    pub before : Before
    pub rest : Tokens
    pub ends : tail_of m e begun start behind ≡ whole leaf before rest
    pub same : item_of v leaf ≡ i
    pub then : signs_of v rest ≡ r
    pub fewer : count rest < count ts

  leafed_of : (ts : Tokens) {i j : Item R S} {q r : List (Sign R S)} (x : Simply ts i q)
      → Reads (tail_of m e x.before x.leaf x.rest) j r → Leafed ts j r
  leafed_of ts x h =
      let w : count h.rest ≤ count x.behind = subst (Fewer (count x.behind)) (x.goes ∙ h.is) (tail_fewer x.behind x.begun x.start) in
      record {
        first = x.first;
        span = x.span;
        behind = x.behind;
        at = x.at;
        start = x.start;
        begun = x.begun;
        starts = x.starts;
        leaf = h.leaf;
        before = h.before;
        rest = h.rest;
        ends = x.goes ∙ h.is;
        same = h.same;
        then = h.then;
        fewer = omega (arith, w, ap count x.at);
      }

  -- an operand that neither `+` nor WITH follows is read as one leaf
  pub leafed : {z : List (Sign R S)} {i : Item R S} → Operand m z i → (ts : Tokens) (r : List (Sign R S)) → signs_of v ts ≡ z ++ r → Head NoTail r
      → Leafed ts i r
  leafed (bare {s} {l} o) ts r h n =
      let x : Simply ts l r = simply o ts r h in
      subst (λ (i : Item R S). Leafed ts i r) x.same
      (leafed_of ts x (stopped_at x.before x.not_with_lem x.leaf x.rest r x.then n))
  leafed (with {s} {z} {l} {a} o y) ts r h n =
      let x : Simply ts l (z ++ r) = simply o ts (z ++ r) (h ∙ append_assoc s z r) in
      subst (λ (i : Item R S). Leafed ts (adding i a) r) x.same
      (leafed_of ts x (reads_adds y x.before x.not_with_lem x.takes_with_lem x.leaf x.rest r x.then n))
