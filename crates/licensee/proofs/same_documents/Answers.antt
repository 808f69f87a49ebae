-- The document part's places stand above the name's.
use Rattle.std.proofs.Common.{ℕ, ◌/◌, ◌%◌, ◌<◌, ◌≡◌, arith}
use Rattle.licensee.specs.Terms.{same_names, same_documents}
use Rattle.licensee.proofs.same_documents.Goals as goal

high : (x : ℕ) → x < 18446744073709551616 → x / 4294967296 / 65536 % 65536 ≡ x / 281474976710656
high x h = omega arith

pub returns : goal.returns
unfolding same_names same_documents
returns c = rw (high c.args.x c.ranges.x.fits, high c.args.y c.ranges.y.fits) at c.same_names.ensures
