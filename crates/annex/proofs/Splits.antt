-- Laws of splits: they compose, they give back the signs, and they leave no more tokens.
use Rattle.std.specs.Prelude.{◌≡◌, refl, List, ◌∷◌, ◌++◌, ◌≤◌}
use Rattle.std.proofs.Common.{ap, arith}
use Rattle.lexer.specs.Tokens.{Tokens}
use Rattle.lexer.specs.Sign.{Sign}
use Rattle.grammar.specs.Grammar.{count}
use Rattle.annex.specs.Signs.{View, sign_of, signs_of}
use Rattle.annex.specs.Faults.{Split, here, next}

module _ {R S : Type 0} {v : View R S} where
  -- two splits, one behind the other
  pub split_append : {all ts us : Tokens} {b c : List (Sign R S)} → Split v all b ts → Split v ts c us → Split v all (b ++ c) us
  split_append here k = k
  split_append (next h) k = next (split_append h k)

  -- the signs of a text that is split
  pub split_signs : {all ts : Tokens} {b : List (Sign R S)} → Split v all b ts → signs_of v all ≡ b ++ signs_of v ts
  split_signs here = refl
  split_signs (next {t} {sp} h) = ap {B = List (Sign R S)} (λ (z : List (Sign R S)). sign_of v t sp ∷ z) (split_signs h)

  -- no more tokens are left than there were
  pub split_count : {all ts : Tokens} {b : List (Sign R S)} → Split v all b ts → count ts ≤ count all
  split_count here = omega arith
  split_count (next h) = omega (arith, split_count h)
