-- The second demand's last sentence, proved: a text that reads in LAX keeps what Reread.antt promises of it. And what it comes to for a caller: of a
-- canonical text the answer is "unchanged".
use Rattle.std.specs.Prelude.{◌≡◌, refl, List, ℕ, ◌≤◌, length, Ok, IsOk}
use Rattle.std.proofs.Common.{sym, ◌∙◌, ap, subst, true≢false}
use Rattle.text.specs.Text.{same}
use Rattle.text.specs.Tests.{cond_true}
use Rattle.text.specs.TextLaws.{same_refl}
use Rattle.mode.specs.declared.Mode.{Mode}
use Rattle.mode.specs.Modes.{strict, lax}
use Rattle.lexer.specs.Lex.{check_of}
use Rattle.lexer.specs.Tokens.{tokens_of}
use Rattle.lexer.specs.Spelling.{Spoken, heard, spell_all}
use Rattle.lexer.specs.Apart.{AllKnown}
use Rattle.lexer.proofs.StandingLaws.{heard_known}
use Rattle.lexer.proofs.Back.{heard_back}
use Rattle.grammar.specs.declared.Leaf.{Leaf}
use Rattle.grammar.specs.declared.Node.{Node}
use Rattle.grammar.specs.Tree.{Tree, seen}
use Rattle.grammar.specs.Grammar.{Result, got, refused, parse_of}
use Rattle.grammar.specs.Grammar as Grammar
use Rattle.grammar.specs.TreeLaws.{postfix_one}
use Rattle.annex.specs.Annex.{Expression}
use Rattle.annex.specs.Signs.{spelled, signs_of, Fits}
use Rattle.annex.proofs.Held.{reads_fine, reads_derive, derives_reads}
use Rattle.canonical.specs.declared.Answer.TheVariants.{Unchanged}
use Rattle.canonical.specs.Canonical.{text, canonical_of, answer_of, buffer_of}
use Rattle.reread.specs.Reread.{Reads, by_bytes, as_only, Reread}
use Rattle.reread.specs.Same.{signs_heard}
use Rattle.reread.specs.Plain.{spelled_fine}
use Rattle.reread.proofs.Settle.{settled}
use Rattle.reread.proofs.Strictly.{Entry, settle_fits}
use Rattle.reread.proofs.Parted.{derives_apart, derives_known, settled_known}
use Rattle.reread.proofs.Fixed.{strict_settled}
use Rattle.reread.proofs.Composed.{composed}

-- known tokens that are an expression of STRICT, spelled
module _ (w : List Spoken) (known : AllKnown w) (t : Tree Entry) (fits : Fits strict w t) (short : length (spell_all w) ≤ 1024) where
  -- every mode hears them
  back : (m : Mode) → heard (spell_all w) m 0 ≡ w
  back m = heard_back m w known (derives_apart fits.derives)

  fine : check_of (spell_all w) ≡ (Ok tt)
  fine = spelled_fine w known short

  -- the text reads to their tree
  spelled_reads : (u : Tree Leaf) × Reads (spell_all w) strict u × (by_bytes (spell_all w) u ≡ t)
  spelled_reads =
      let e : w ≡ signs_of (spelled (spell_all w)) (tokens_of (spell_all w) strict 0) = sym (signs_heard (spell_all w) strict ∙ back strict) in
      let x = derives_reads (spelled (spell_all w)) (spell_all w) strict fine (subst (λ (y : List Spoken). Fits strict y t) e fits) in
      (x.0, record { last = x.1; rest = x.2; reads = x.3 }, x.4)

  -- and is its own canonical text
  spelled_same : canonical_of (spell_all w) ≡ text (spell_all w)
  spelled_same =
      composed (spell_all w) fine (subst (λ (y : List Spoken). Expression strict y t) (sym (back lax)) fits.derives)
      ∙ ap (λ (y : List Spoken). text (spell_all (settled y))) (back lax)
      ∙ ap (λ (y : List Spoken). text (spell_all y)) (strict_settled fits.derives)

-- the tokens of a text that reads are an expression of its tree
reads_fits : (s : List ℕ) (t : Tree Leaf) → Reads s lax t → Fits lax (heard s lax 0) (by_bytes s t)
reads_fits s t r =
    let x = reads_derive (spelled s) s lax r.reads in
    let e : x.0 ≡ t = sym (postfix_one t x.0 x.2) in
    subst (λ (u : Tree Leaf). Fits lax (heard s lax 0) (by_bytes s u)) e
    (subst (λ (y : List Spoken). Fits lax y (by_bytes s x.0)) (signs_heard s lax) x.1)

-- the theorem
pub reread : (s : List ℕ) (t : Tree Leaf) → Reads s lax t → Reread s t
reread s t r =
    let f : Fits lax (heard s lax 0) (by_bytes s t) = reads_fits s t r in
    let k : AllKnown (heard s lax 0) = derives_known f.derives (heard_known s lax refl 0) in
    let g : AllKnown (settled (heard s lax 0)) = settled_known (heard s lax 0) k in
    let x : Fits strict (settled (heard s lax 0)) (seen as_only (by_bytes s t)) = settle_fits (heard s lax 0) (by_bytes s t) f in
    record {
      canon = spell_all (settled (heard s lax 0));
      is = composed s (reads_fine (spelled s) s lax r.reads) f.derives;
      again = λ h. spelled_reads (settled (heard s lax 0)) g (seen as_only (by_bytes s t)) x h;
      same = λ h. spelled_same (settled (heard s lax 0)) g (seen as_only (by_bytes s t)) x h;
    }

-- a text that is its own canonical text is answered by "unchanged", and the buffer b stays as it is
pub own_unchanged : (c : List ℕ) → canonical_of c ≡ text c → (b : List ℕ) → answer_of c b (canonical_of c) ≡ Ok Unchanged
unfolding answer_of
own_unchanged c e b = ap (answer_of c b) e ∙ cond_true (same c c) _ _ (same_refl c)

pub own_buffer : (c : List ℕ) → canonical_of c ≡ text c → (b : List ℕ) → buffer_of c b (canonical_of c) ≡ b
unfolding buffer_of
own_buffer c e b = ap (buffer_of c b) e ∙ cond_true (same c c) _ _ (same_refl c)

-- so is the canonical text c of a text that reads in LAX
pub reread_unchanged : (s : List ℕ) (t : Tree Leaf) → Reads s lax t → (c : List ℕ) → canonical_of s ≡ text c → length c ≤ 1024
    → (b : List ℕ) → (answer_of c b (canonical_of c) ≡ Ok Unchanged) × (buffer_of c b (canonical_of c) ≡ b)
reread_unchanged s t r c e h b =
    let x : Reread s t = reread s t r in
    let p : text x.canon ≡ text c = sym x.is ∙ e in
    let q : x.canon ≡ c = cc in
    let z : canonical_of c ≡ text c = subst (λ (y : List ℕ). length y ≤ 1024 → canonical_of y ≡ text y) q x.same h in
    (own_unchanged c z b, own_buffer c z b)

-- a text that `parse` answers "read" reads to a tree
pub reads_some : (s : List ℕ) (m : Mode) → IsOk (Grammar.answer_of (parse_of s m)) → (t : Tree Leaf) × Reads s m t
reads_some s m h = go (parse_of s m) refl h
  where
    go : (r : Result) → parse_of s m ≡ r → IsOk (Grammar.answer_of r) → (t : Tree Leaf) × Reads s m t
    go (got q b ts) e h =
        let x = reads_derive (spelled s) s m e in
        (x.0, record { last = b; rest = ts; reads = e ∙ ap (λ (n : List Node). got n b ts) x.2 })
    go (refused r) e h = absurd (true≢false (sym h))

-- so the promise is kept of every text that `parse` answers "read" in LAX
pub demand : (s : List ℕ) → IsOk (Grammar.answer_of (parse_of s lax)) → (t : Tree Leaf) × Reads s lax t × Reread s t
demand s h = let x = reads_some s lax h in (x.0, x.1, reread s x.0 x.1)
