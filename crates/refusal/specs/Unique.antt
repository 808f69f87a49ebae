-- No second answer fits the contract of a public function of this crate.
use Rattle.text.specs.One.{One, one}
use Rattle.refusal.specs.declared.Expected.{Expected}
use Rattle.refusal.specs.declared.Refusal.{Refusal}
use Rattle.refusal.specs.Refused.{number_of, column_of, set_of}

number_one : (r : Refusal) → One (number_of r)
number_one r = one (number_of r)

last_column_one : (r : Refusal) → One (column_of r)
last_column_one r = one (column_of r)

set_one : (e : Expected) → One (set_of e)
set_one e = one (set_of e)
