-- The modes. Document 01: "Mode is five free flags; STRICT and LAX as in `src/lexer.rs`". Their bits are those of the line protocol's MODE.
use Rattle.std.specs.Prelude.{ℕ, ◌/◌, ◌%◌, true, false, eqb}
use Rattle.mode.specs.declared.Mode.{Mode}

abbrev pub strict : Mode
strict = record { slash = false; imprecise = false; gnu_plus = false; deprecated = false; unknown = false }

abbrev pub lax : Mode
lax = record { slash = true; imprecise = true; gnu_plus = true; deprecated = true; unknown = false }

-- the flags by their bits: slash 1, imprecise 2, gnu_plus 4, deprecated 8, unknown 16
unfoldable pub mode_of : ℕ → Mode
mode_of n =
    record {
      slash = eqb (n % 2) 1;
      imprecise = eqb (n / 2 % 2) 1;
      gnu_plus = eqb (n / 4 % 2) 1;
      deprecated = eqb (n / 8 % 2) 1;
      unknown = eqb (n / 16 % 2) 1;
    }
