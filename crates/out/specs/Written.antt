-- What a program has written into an array, as far as there is room.
use Rattle.std.specs.Prelude.{ℕ, List, [], ◌++◌, length, take}

-- nothing yet
abbrev pub nothing : List ℕ
nothing = []

-- the first bytes of the array
abbrev pub front : ℕ → List ℕ → List ℕ
front len bytes = take len bytes

-- how many bytes
abbrev pub count : List ℕ → ℕ
count w = length w

-- more bytes behind those that are written: as many as there is room for
abbrev pub put_behind : ℕ → List ℕ → List ℕ → List ℕ
put_behind room w s = take room (w ++ s)
