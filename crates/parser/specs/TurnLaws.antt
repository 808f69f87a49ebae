-- What the turns' proofs need of the names.
use Rattle.std.specs.Prelude.{◌≡◌, refl, ℕ, Option, Some, None}
use Rattle.std.proofs.Common.{arith}
use Rattle.names.specs.Listed.{listed}
use Rattle.names.specs.Lookup.{later_of}
use Rattle.names.proofs.Partners.{later_partner}
use Rattle.parser.specs.Turn.{SmallFound}

-- the place of an "-or-later" name fits 16 bits
pub later_small : (k : ℕ) → SmallFound (later_of k)
unfolding listed
later_small k = go (later_of k) refl
  where
    go : (f : Option ℕ) → later_of k ≡ f → SmallFound f
    go (Some j) e = omega (arith, (later_partner k j e).within)
    go None e = tt
