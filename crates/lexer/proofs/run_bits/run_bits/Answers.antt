-- The constant is the bit of each byte: antt computes them and compares.
use Rattle.std.proofs.Common.{refl}
use Rattle.text.specs.Text.{within}
use Rattle.text.specs.Runs.{ref_byte, run_byte}
use Rattle.lexer.specs.RunBits.{run_bits}
use Rattle.lexer.proofs.run_bits.run_bits.Goals as goal

pub returns : goal.returns
unfolding within ref_byte run_byte run_bits
returns c = refl
