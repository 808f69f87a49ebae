-- Laws of the records: a leaf's cells read one by one, sixteen cells for each node, the loop that writes them, and what a parse answers of them.
use Rattle.std.specs.Prelude.{ℕ, ◌+◌, ◌*◌, ◌<◌, ◌≤◌, ◌≡◌, refl, List, [], ◌∷◌, ◌++◌, take, get_or, Some, None, Ok, Err}
use Rattle.std.proofs.Common.{sym, ap, ◌∙◌, subst, append_assoc, append-nil, add-one, arith, length-append, take-suc, length-take-le}
use Rattle.std.proofs.Math.Bool.{true, false}
use Rattle.std.proofs.Math.Dec.{leb}
use Rattle.std.proofs.Math.ListN.{length}
use borrow.Author.Tests.{le-leb, lt-leb}
use Rattle.text.specs.Overlay.{overlay}
use Rattle.text.proofs.OverlayLaws.{overlay_none, overlay_length, overlay_both}
use Rattle.refusal.specs.declared.Refusal.{Refusal}
use Rattle.mode.specs.declared.Mode.{Mode}
use Rattle.grammar.specs.declared.Licence.{Licence}
use Rattle.grammar.specs.declared.Licence.TheVariants as L
use Rattle.grammar.specs.declared.Addition.{Addition}
use Rattle.grammar.specs.declared.Addition.TheVariants as A
use Rattle.grammar.specs.declared.Leaf.{Leaf}
use Rattle.grammar.specs.declared.Node.{Node}
use Rattle.grammar.specs.declared.Node.TheVariants as N
use Rattle.grammar.specs.declared.Nodes.{Nodes}
use Rattle.grammar.specs.Parsed.{Parsed}
use Rattle.grammar.specs.Grammar.{parse_of, answer_of}
use Rattle.packed.specs.Records.{licence_cells, addition_cells, bit, leaf_cells, node_cells, records_of}
use Rattle.packed.specs.Packed.{refused_as, answered_as, small_as, parse_as, parse_cells}

-- the first six cells, read one by one
abbrev pub six : List ℕ → List ℕ
six a = get_or a 0 0 ∷ get_or a 1 0 ∷ get_or a 2 0 ∷ get_or a 3 0 ∷ get_or a 4 0 ∷ get_or a 5 0 ∷ []

licence_six : (x : Licence) → six (licence_cells x) ≡ licence_cells x
licence_six (L.Listed k) = refl
licence_six (L.Reference None n) = refl
licence_six (L.Reference (Some d) n) = refl

addition_six : (x : Addition) → six (addition_cells x) ≡ addition_cells x
addition_six A.Nothing = refl
addition_six (A.Listed k) = refl
addition_six (A.Reference None n) = refl
addition_six (A.Reference (Some d) n) = refl

-- a leaf's cells around six of the licence and six of the addition
abbrev around : Leaf → List ℕ → List ℕ → List ℕ
around l a x = 1 ∷ (a ++ (bit l.plus ∷ (x ++ (l.span.start ∷ l.span.end ∷ []))))

pub leaf_spread : (l : Leaf) (a x : List ℕ) → a ≡ licence_cells l.licence → x ≡ addition_cells l.addition
    → around l (six a) (six x) ≡ leaf_cells l
leaf_spread l a x e f =
    ap (λ (z : List ℕ). around l (six z) (six x)) e ∙ ap (λ (z : List ℕ). around l z (six x)) (licence_six l.licence)
    ∙ ap (λ (z : List ℕ). around l (licence_cells l.licence) (six z)) f ∙ ap (around l (licence_cells l.licence)) (addition_six l.addition)

-- sixteen cells for each node
pub node_length : (x : Node) → length (node_cells x) ≡ 16
node_length N.Blank = refl
node_length (N.Leaf l) = ap length (sym (leaf_spread l _ _ refl refl))
node_length N.And = refl
node_length N.Or = refl

records_length : (q : List Node) → length (records_of q) ≡ length q * 16
unfolding records_of
records_length [] = refl
records_length (x ∷ q) = omega (arith, length-append (node_cells x) (records_of q), node_length x, records_length q)

records_snoc : (q : List Node) (x : Node) → records_of (q ++ (x ∷ [])) ≡ records_of q ++ node_cells x
unfolding records_of
records_snoc [] x = append-nil (node_cells x)
records_snoc (y ∷ q) x =
    ap (λ (z : List ℕ). node_cells y ++ z) (records_snoc q x)
    ∙ sym (append_assoc (node_cells y) (records_of q) (node_cells x))

front_length : (q : List Node) (i : ℕ) → i ≤ length q → length (records_of (take i q)) ≡ i * 16
front_length q i h = records_length (take i q) ∙ ap (λ (n : ℕ). n * 16) (length-take-le i q h)

-- the loop that writes the records, where those of i nodes are written and b has become c
abbrev pub Recorded : List Node → List ℕ → List ℕ → ℕ → Type 0
Recorded q b c i = (c ≡ overlay 0 (records_of (take i q)) b) × (length c ≡ length b)

module _ (q : List Node) (b : List ℕ) where
  pub recorded_start : Recorded q b b 0
  unfolding records_of
  recorded_start = (sym (overlay_none 0 b), refl)

  pub recorded_on : (c e : List ℕ) (i : ℕ) (d : Node) → i < length q → i * 16 + 16 ≤ length b
      → e ≡ overlay (i * 16) (node_cells (get_or q i d)) c → Recorded q b c i → Recorded q b e (i + 1)
  recorded_on c e i d h k g w =
      let p = records_of (take i q) in
      let s = node_cells (get_or q i d) in
      let n : i * 16 ≡ 0 + length p = omega (arith, front_length q i (omega arith)) in
      let m : take (i + 1) q ≡ take i q ++ (get_or q i d ∷ []) = rw (add-one i) (take-suc q i d h) in (
        g ∙ ap (λ (z : List ℕ). overlay (i * 16) s z) w.0 ∙ ap (λ (z : ℕ). overlay z s (overlay 0 p b)) n ∙ overlay_both 0 b p s (omega arith)
            ∙ ap (λ (z : List ℕ). overlay 0 z b) (sym (ap records_of m ∙ records_snoc (take i q) (get_or q i d))),
        ap length g ∙ overlay_length (i * 16) c s (omega (arith, node_length (get_or q i d), w.1)) ∙ w.1,
      )

-- what a parse answers, and the cells then
abbrev pub Answers : Parsed → List ℕ → ℕ → List ℕ → Type 0
Answers p b r c = (r ≡ parse_as p b) × (c ≡ parse_cells p b)

-- the same, of the text and the mode
pub answers_of : (s : List ℕ) (m n : Mode) (p : Parsed) (b : List ℕ) (r : ℕ) (c : List ℕ) → p ≡ answer_of (parse_of s m) → m ≡ n → Answers p b r c
    → Answers (answer_of (parse_of s n)) b r c
answers_of s m n p b r c e f a =
    subst (λ (q : Parsed). Answers q b r c) (e ∙ ap (λ (x : Mode). answer_of (parse_of s x)) f) a

pub parsed_refused : (b : List ℕ) (x : Refusal) (r : ℕ) → r ≡ refused_as x → Answers (Err x) b r b
unfolding parse_as parse_cells
parsed_refused b x r e = (e, refl)

module _ (p : Nodes) (b : List ℕ) (h : p.count ≤ length p.nodes) where
  pub parsed_small : (r : ℕ) → r ≡ small_as p.count → length b < p.count * 16 → Answers (Ok p) b r b
  unfolding parse_as parse_cells
  parsed_small r f k =
      let n = length (records_of (take p.count p.nodes)) in
      let t : leb (p.count * 16) (length b) ≡ false = lt-leb (p.count * 16) (length b) k in
      let u : leb n (length b) ≡ false = lt-leb n (length b) (omega (arith, front_length p.nodes p.count h)) in
      (f ∙ rw t, rw u)

  pub parsed_whole : (r : ℕ) (c : List ℕ) → r ≡ answered_as 0 p.count → p.count * 16 ≤ length b
      → c ≡ overlay 0 (records_of (take p.count p.nodes)) b → Answers (Ok p) b r c
  unfolding parse_as parse_cells
  parsed_whole r c f k w =
      let n = length (records_of (take p.count p.nodes)) in
      let t : leb (p.count * 16) (length b) ≡ true = le-leb (p.count * 16) (length b) k in
      let u : leb n (length b) ≡ true = le-leb n (length b) (omega (arith, front_length p.nodes p.count h)) in
      (f ∙ rw t, w ∙ rw u)
