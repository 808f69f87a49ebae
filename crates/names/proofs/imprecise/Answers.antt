-- No imprecise name from k on begins the text, so the first that does on the way down is the longest: `longest_last`.
use Rattle.std.proofs.Common.{◌≡◌, ℕ, ◌+◌, ◌-◌, ◌≤◌, ◌<◌, true, false, List, length, drop, Some, sym, ◌∙◌, ap, arith}
use Rattle.std.proofs.Common.{eq-or-lt_of_le}
use mathlib.Core.Logic.{⊎_elim}
use Rattle.text.specs.Text.{begins}
use Rattle.text.specs.TextLaws.{part_rest}
use Rattle.names.specs.Listed.{listed, exceptions, imprecise}
use Rattle.names.specs.Lookup.{bytes_at, imprecise_texts, imprecise_of, stood}
use Rattle.names.specs.Layout.{rows, name_at, mark_at, placed}
use Rattle.names.proofs.LayoutLaws.{counts, rows_length, imprecise_row, imprecise_mark}
use Rattle.names.proofs.Longest.{longest_last, longest_none}
use Rattle.names.proofs.Fits.{stands_for_lem}
use Rattle.names.proofs.imprecise.Goals as goal

-- the place of the first imprecise name
abbrev first : ℕ
first = length listed + length exceptions

-- no imprecise name from the place k of the table on begins the text
abbrev NoneOf : List ℕ → ℕ → Type 0
NoneOf t k = (j : ℕ) → k ≤ first + j → j < length imprecise → begins (bytes_at imprecise_texts j) t ≡ false

module _ (t : List ℕ) (k : ℕ) (h : first < k) (l : k ≤ length rows) (n : NoneOf t k) where
  abbrev i : ℕ
  i = k - 1 - first

  place : first + i ≡ k - 1
  place = omega arith

  within : i < length imprecise
  within = omega (arith, rows_length)

  name : name_at (k - 1) ≡ bytes_at imprecise_texts i
  name = ap name_at (sym place) ∙ imprecise_row i

  hit : begins (name_at (k - 1)) t ≡ true → (x y : ℕ) → x ≡ mark_at (k - 1) → y ≡ length (name_at (k - 1))
      → Some record { licence = x; len = y } ≡ imprecise_of t
  unfolding placed
  hit b x y e f =
      let w = stands_for_lem i within in
      let m : x ≡ w.licence = e ∙ ap mark_at (sym place) ∙ imprecise_mark i within ∙ ap placed w.stands in
      let u : y ≡ length (bytes_at imprecise_texts i) = f ∙ ap length name in
      let z = ap (stood (length (bytes_at imprecise_texts i))) w.stands in
      let q = longest_last t i within (ap (λ (r : List ℕ). begins r t) (sym name) ∙ b) (λ j g. n j (omega arith)) in
      cc

  down : begins (name_at (k - 1)) t ≡ false → NoneOf t (k - 1)
  down b j g q =
      ⊎_elim
      (λ e. let z : i ≡ j = omega arith in ap (λ (m : ℕ). begins (bytes_at imprecise_texts m) t) (sym z) ∙ ap (λ (r : List ℕ). begins r t) (sym name) ∙ b)
      (λ e. n j (omega arith) q) (eq-or-lt_of_le g)

pub loop-k-init : goal.loop-k-init
loop-k-init c = (omega counts, λ j g q. absurd (omega counts))

pub begins-requires : goal.begins-requires
begins-requires c = omega arith

pub mark-requires : goal.mark-requires
mark-requires c = omega arith

pub len-requires : goal.len-requires
len-requires c = omega arith

-- the text at the place
rest : (s t : List ℕ) (at : ℕ) → t ≡ Rattle.text.specs.Text.part at (length s) s → t ≡ drop at s
rest s t at e = e ∙ part_rest _ _ s (omega arith)

pub returns-then-begins : goal.returns-then-begins
returns-then-begins c =
    hit c.cut-rest.result.now c.loop-k.k (omega counts) c.loop-k.invariant.0 c.loop-k.invariant.1 (sym c.begins.ensures ∙ c.if-begins.true)
    c.mark.result c.len.result c.mark.ensures c.len.ensures
    ∙ ap imprecise_of (rest c.args.s.now _ c.args.at c.cut-rest.ensures)

pub loop-k-preserved : goal.loop-k-preserved
loop-k-preserved c =
    (omega arith, down c.cut-rest.result.now c.loop-k.k (omega counts) c.loop-k.invariant.0 c.loop-k.invariant.1 (sym c.begins.ensures ∙ c.if-begins.false))

pub returns : goal.returns
returns c =
    sym (longest_none c.cut-rest.result.now (λ j. c.loop-k.invariant.1 j (omega counts)))
    ∙ ap imprecise_of (rest c.args.s.now _ c.args.at c.cut-rest.ensures)
