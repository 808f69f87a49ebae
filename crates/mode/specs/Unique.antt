-- No second answer fits the contract of a public function of this crate. And the bits 0 and 15 are STRICT and LAX.
use Rattle.std.specs.Prelude.{ℕ, ◌≡◌, refl}
use Rattle.text.specs.One.{One, one}
use Rattle.mode.specs.Modes.{strict, lax, mode_of}

strict_one : One strict
strict_one = one strict

lax_one : One lax
lax_one = one lax

of_one : (bits : ℕ) → One (mode_of bits)
of_one bits = one (mode_of bits)

pub bits_strict : mode_of 0 ≡ strict
unfolding mode_of
bits_strict = refl

pub bits_lax : mode_of 15 ≡ lax
unfolding mode_of
bits_lax = refl
