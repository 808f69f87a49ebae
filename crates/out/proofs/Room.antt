-- What is added behind what was written, as far as there is room.
use Rattle.std.proofs.Common.{◌≡◌, ℕ, ◌+◌, ◌-◌, ◌≤◌, List, ◌++◌, length, take, replicate, min, sym, ap, ◌∙◌, arith}
use Rattle.std.proofs.lemmas.List.{length-take-le, take_min, length-replicate, take-replicate}
use Rattle.std.proofs.Math.Seq.{take-append-add}
use Rattle.std.proofs.Math.Nat.{min-le_right}

pub take-room : (room l : ℕ) (xs ys : List ℕ) → l ≤ length xs → l ≤ room → take room (take l xs ++ ys) ≡ take l xs ++ take (min (room - l) (length ys)) ys
take-room room l xs ys in_range has_room =
    let len = length-take-le l xs in_range in
    let room_is : room ≡ length (take l xs) + (room - l) = omega arith in
    ap (λ n. take n (take l xs ++ ys)) room_is
    ∙ take-append-add (take l xs) ys (room - l)
    ∙ ap (λ zs. take l xs ++ zs) (sym (take_min (room - l) ys))

pub replicate-room : (k n y : ℕ) → replicate (min k n) y ≡ take (min k (length (replicate n y))) (replicate n y)
replicate-room k n y = sym (ap (λ m. take (min k m) (replicate n y)) (length-replicate n y) ∙ take-replicate (min k n) n y (min-le_right k n))
