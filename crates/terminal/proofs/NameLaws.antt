-- Laws of the names that are handed out: which row of the table a listed name has, and that there is none past the end.
use Rattle.std.specs.Prelude.{ℕ, ◌+◌, ◌≤◌, ◌<◌, ◌≡◌, List, [], eqb, leb, length}
use Rattle.std.proofs.Math.Path.{sym, ap}
use Rattle.std.proofs.Common.{subst, ◌∙◌, arith}
use Rattle.std.proofs.Math.ListN.{length-map, get_or-eq_default}
use borrow.Author.Tests.{le-leb, lt-leb, eq-eqb, ne_eqb}
use Rattle.text.specs.Text.{ascii}
use Rattle.text.specs.Tests.{cond_true, cond_false}
use Rattle.text.specs.Overlay.{overlay}
use Rattle.text.proofs.OverlayLaws.{overlay_none}
use Rattle.names.specs.Name.{Listed}
use Rattle.names.specs.Listed.{listed, exceptions}
use Rattle.names.specs.Lookup.{bytes_at, licence_texts, licence_name, exception_name}
use Rattle.names.specs.Layout.{name_at}
use Rattle.names.proofs.LayoutLaws.{licence_row, exception_row}
use Rattle.packed.specs.Packed.{answered_as, small_as}
use Rattle.terminal.specs.Answers.{name_in, name_as, name_bytes}

module _ (k i : ℕ) where
  pub of_licences : k ≡ 0 → i < length listed → name_at i ≡ name_in k i
  unfolding name_in
  of_licences e h = licence_row i h ∙ sym (cond_true (eqb k 0) _ _ (eq-eqb k 0 e))

  pub of_exceptions : (k ≡ 0 → ⊥) → i < length exceptions → (l : ℕ) → l ≡ length listed → name_at (l + i) ≡ name_in k i
  unfolding name_in
  of_exceptions e h l q = ap (λ (n : ℕ). name_at (n + i)) q ∙ exception_row i h ∙ sym (cond_false (eqb k 0) _ _ (ne_eqb k 0 e))

  pub no_licence : k ≡ 0 → length listed ≤ i → name_in k i ≡ []
  unfolding name_in licence_name bytes_at licence_texts
  no_licence e h =
      cond_true (eqb k 0) _ _ (eq-eqb k 0 e)
      ∙ ap ascii (get_or-eq_default licence_texts "" (omega (arith, length-map listed (λ (n : Listed). n.text))))

  pub no_exception : (k ≡ 0 → ⊥) → length exceptions ≤ i → name_in k i ≡ []
  unfolding name_in exception_name bytes_at
  no_exception e h = cond_false (eqb k 0) _ _ (ne_eqb k 0 e) ∙ ap ascii (get_or-eq_default exceptions "" h)

module _ (n b : List ℕ) where
  -- the answer and the buffer where the name has room, and where it has none
  pub name_fits : length n ≤ length b → (name_as n b ≡ answered_as 0 (length n)) × (name_bytes n b ≡ overlay 0 n b)
  unfolding name_as name_bytes
  name_fits h = let e = le-leb (length n) (length b) h in (cond_true (leb (length n) (length b)) _ _ e, cond_true (leb (length n) (length b)) _ _ e)

  pub name_small : length b < length n → (name_as n b ≡ small_as (length n)) × (name_bytes n b ≡ b)
  unfolding name_as name_bytes
  name_small h = let e = lt-leb (length n) (length b) h in (cond_false (leb (length n) (length b)) _ _ e, cond_false (leb (length n) (length b)) _ _ e)

-- what stands for no name
pub name_none : (n b : List ℕ) → n ≡ [] → (answered_as 0 0 ≡ name_as n b) × (b ≡ name_bytes n b)
name_none n b e =
    subst (λ (l : List ℕ). (answered_as 0 0 ≡ name_as l b) × (b ≡ name_bytes l b)) (sym e)
    (let f = name_fits [] b (omega arith) in (sym f.0, sym (f.1 ∙ overlay_none 0 b)))
