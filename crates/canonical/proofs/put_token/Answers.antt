use Rattle.std.proofs.Common.{refl, sym}
use Rattle.text.proofs.OverlayLaws.{overlay_none}
use Rattle.canonical.proofs.put_token.Goals as goal

-- a `+` is refused, and nothing is written
pub returns-in-Plus : goal.returns-in-Plus
returns-in-Plus c = let a = c.args in rw c.in-Plus.is (refl, sym (overlay_none a.n a.out.now))
