-- The annex sees a text's tokens by their bytes as the lexer spells them.
use Rattle.std.specs.Prelude.{◌≡◌, refl, List, ℕ, Some, None, Option}
use Rattle.std.proofs.Common.{ap}
use Rattle.refusal.specs.declared.Span.{Span}
use Rattle.mode.specs.declared.Mode.{Mode}
use Rattle.lexer.specs.declared.Token.{Token}
use Rattle.lexer.specs.declared.Token.TheVariants as T
use Rattle.lexer.specs.Tokens.{Tokens, done, refused, token, tokens_of}
use Rattle.lexer.specs.Sign.{reference, addition}
use Rattle.lexer.specs.Spelling.{bytes_of, doc_bytes, said, said_of, heard}
use Rattle.grammar.specs.Leaves.{part_of}
use Rattle.annex.specs.Signs.{document, spelled, sign_of, signs_of}

module _ (s : List ℕ) where
  same_document : (d : Option Span) → document s (part_of d) ≡ doc_bytes s d
  same_document None = refl
  same_document (Some r) = refl

  sign_said : (t : Token) (sp : Span) → sign_of (spelled s) t sp ≡ said s t
  sign_said T.And sp = refl
  sign_said T.Or sp = refl
  sign_said T.With sp = refl
  sign_said T.Plus sp = refl
  sign_said T.Open sp = refl
  sign_said T.Close sp = refl
  sign_said (T.Licence k) sp = refl
  sign_said (T.Exception k) sp = refl
  sign_said (T.LicenseRef d n) sp = ap (λ (o : Option (List ℕ)). reference (o, bytes_of s n) tt) (same_document d)
  sign_said (T.AdditionRef d n) sp = ap (λ (o : Option (List ℕ)). addition (o, bytes_of s n)) (same_document d)
  sign_said (T.Unknown n) sp = refl

  pub signs_said : (ts : Tokens) → signs_of (spelled s) ts ≡ said_of s ts
  signs_said done = refl
  signs_said (refused r) = refl
  signs_said (token t sp ts) = cc (sign_said t sp, signs_said ts)

  -- so the signs of a text are what is heard of it
  pub signs_heard : (m : Mode) → signs_of (spelled s) (tokens_of s m 0) ≡ heard s m 0
  unfolding heard
  signs_heard m = signs_said (tokens_of s m 0)
