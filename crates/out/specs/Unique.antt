-- No second answer fits the contract of a public function of this crate.
use Rattle.std.specs.Prelude.{ℕ, List, [], ◌∷◌, replicate}
use Rattle.text.specs.One.{One, one}
use Rattle.out.specs.Written.{nothing, front, count, put_behind}

new_one : One nothing
new_one = one nothing

len_one : (w : List ℕ) → One (count w)
len_one w = one (count w)

written_one : (len : ℕ) (bytes : List ℕ) → One (front len bytes)
written_one len bytes = one (front len bytes)

clear_one : One nothing
clear_one = one nothing

byte_one : (room : ℕ) (w : List ℕ) (b : ℕ) → One (put_behind room w (b ∷ []))
byte_one room w b = one (put_behind room w (b ∷ []))

bytes_one : (room : ℕ) (w s : List ℕ) → One (put_behind room w s)
bytes_one room w s = one (put_behind room w s)

repeat_one : (room : ℕ) (w : List ℕ) (b times : ℕ) → One (put_behind room w (replicate times b))
repeat_one room w b times = one (put_behind room w (replicate times b))
