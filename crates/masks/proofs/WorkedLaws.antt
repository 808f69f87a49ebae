-- What specs/Worked asks is answered as its table says: computed, under one claim.
use Rattle.std.specs.Prelude.{◌≡◌, refl, map}
use Rattle.text.specs.First.{first}
use Rattle.masks.specs.Masks.{has, spare, minimal, examined, stopped, searched, settled, listed, chosen}
use Rattle.masks.specs.Value.{shares, push, step, run, value}
use Rattle.masks.specs.Worked.{Case, sat, found, Question, Answer, answer, table}

worked : map (λ (w : (Case × Question) × Answer). answer w.0) table ≡ map (λ (w : (Case × Question) × Answer). w.1) table
unfolding table answer sat found shares push step run value has spare minimal examined stopped searched settled listed chosen first
worked = refl
