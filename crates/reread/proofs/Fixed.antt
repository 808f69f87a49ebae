-- What is settled stays so.
use Rattle.std.specs.Prelude.{◌≡◌, refl, List}
use Rattle.std.proofs.Common.{sym, ◌∙◌}
use Rattle.std.proofs.Math.Bool.{and-true}
use Rattle.std.proofs.lemmas.Bool.{false≢true}
use Rattle.names.specs.Lookup.{deprecated_of}
use Rattle.names.proofs.Partners.{current_settled}
use Rattle.mode.specs.Modes.{strict, lax}
use Rattle.lexer.specs.Spelling.{Spoken}
use Rattle.grammar.specs.Tree.{Tree}
use Rattle.annex.specs.Annex.{Simple, id, id_later, ref, gnu_later, term, bare, with, Level, Derives, leaf, group, alone, joined, one, choice}
use Rattle.annex.specs.Signs.{Fits}
use Rattle.reread.proofs.Settle.{settled_from, settled, settled_append}
use Rattle.reread.proofs.Strictly.{Entry, only_self, additions_settled, additions_no_plus, group_settled, and_settled, or_settled, settle_fits}

simple_fixed : {s : List Spoken} {l : Entry} → Simple strict s l → settled s ≡ s
unfolding settled settled_from
simple_fixed (id {k} a) = rw (only_self k (current_settled k (sym (and-true (deprecated_of k)) ∙ a)))
simple_fixed (id_later a g) = rw g
simple_fixed ref = refl
simple_fixed (gnu_later a g o f e) = absurd (false≢true o)
simple_fixed term = refl

-- an expression of STRICT is settled: it has no bare name, and no `+` behind a GNU name
pub strict_settled : {v : Level} {w : List Spoken} {t : Tree Entry} → Derives strict v w t → settled w ≡ w
strict_settled (leaf (bare x)) = simple_fixed x
strict_settled (leaf (with {s} {z} x d)) = settled_append s z (additions_no_plus d) ∙ cc (simple_fixed x, additions_settled d)
strict_settled (group {s} d) = group_settled s ∙ cc (strict_settled d)
strict_settled (alone d) = strict_settled d
strict_settled (joined {s} {z} d e) = and_settled s z ∙ cc (strict_settled d, strict_settled e)
strict_settled (one d) = strict_settled d
strict_settled (choice {s} {z} d e) = or_settled s z ∙ cc (strict_settled d, strict_settled e)

-- so what is settled once stays as it is
pub settled_again : (w : List Spoken) (t : Tree Entry) → Fits lax w t → settled (settled w) ≡ settled w
settled_again w t f = strict_settled (settle_fits w t f).derives
