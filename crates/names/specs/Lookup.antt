-- What a lookup answers. Nothing here says how it is searched.
-- Document 01: the run is tried as "licence; exception"; "Imprecise, exact case, the longest that begins the remaining text";
-- "the name (without "-only") becomes its "-or-later" name", or 13 "if no "-or-later" name is listed"; bare GNU names are written with "-only".
use Rattle.std.specs.Prelude.{ℕ, zero, suc, ◌-◌, Bool, cond, not, ◌&&◌, List, [], ◌∷◌, ◌++◌, map, length, get_or, take, Option, Some, None}
use Prim.Native.String.{String}
use Rattle.text.specs.Text.{ascii, same, ends}
use Rattle.names.specs.declared.Loose.{Loose}
use Rattle.names.specs.Name.{Listed, Imprecise, plain, standing}
use Rattle.names.specs.Listed.{listed, exceptions, imprecise}

-- the place of a run of bytes among texts, where the first of them has place i
unfoldable pub seek : ℕ → List String → List ℕ → Option ℕ
seek i [] run = None
seek i (n ∷ ns) run = cond (same (ascii n) run) (Some i) (seek (suc i) ns run)

-- the place of a run of bytes among texts
unfoldable pub lookup : List String → List ℕ → Option ℕ
lookup ns run = seek 0 ns run

-- the texts of the three parts
unfoldable pub licence_texts : List String
licence_texts = map (λ (n : Listed). n.text) listed

unfoldable pub imprecise_texts : List String
imprecise_texts = map (λ (n : Imprecise). n.text) imprecise

unfoldable pub licence_of : List ℕ → Option ℕ
licence_of run = lookup licence_texts run

unfoldable pub exception_of : List ℕ → Option ℕ
exception_of run = lookup exceptions run

-- the bytes of the text at a place, none past the end
unfoldable pub bytes_at : List String → ℕ → List ℕ
bytes_at ns k = ascii (get_or ns k "")

unfoldable pub licence_name : ℕ → List ℕ
licence_name k = bytes_at licence_texts k

unfoldable pub exception_name : ℕ → List ℕ
exception_name k = bytes_at exceptions k

-- the flags of a licence
unfoldable pub deprecated_of : ℕ → Bool
deprecated_of k = (get_or listed k (plain "")).deprecated

unfoldable pub gnu_of : ℕ → Bool
gnu_of k = (get_or listed k (plain "")).gnu

-- is a licence a GNU name that ends in "-or-later"
unfoldable pub is_later : ℕ → Bool
is_later k = gnu_of k && ends (ascii "-or-later") (licence_name k)

-- is a licence a bare GNU name, with neither suffix
unfoldable pub is_bare : ℕ → Bool
is_bare k = gnu_of k && (not (ends (ascii "-only") (licence_name k)) && not (ends (ascii "-or-later") (licence_name k)))

-- a name without "-only" at its end
unfoldable pub stem : List ℕ → List ℕ
stem n = cond (ends (ascii "-only") n) (take (length n - 5) n) n

-- the "-or-later" name of a GNU name, without "-only" first, if it is listed
unfoldable pub later_of : ℕ → Option ℕ
later_of k = cond (gnu_of k) (licence_of (stem (licence_name k) ++ ascii "-or-later")) None

-- the "-only" name of a bare GNU name, if it is listed
unfoldable pub only_of : ℕ → Option ℕ
only_of k = cond (is_bare k) (licence_of (licence_name k ++ ascii "-only")) None

-- the licence that an imprecise name stands for; each is listed (Fits.antt)
unfoldable pub stands_for : ℕ → Option ℕ
stands_for i = licence_of (ascii (get_or imprecise i (standing "" "")).licence)

-- an imprecise name of n bytes that stands for a licence
abbrev pub stood : ℕ → Option ℕ → Option Loose
stood n (Some k) = Some record { licence = k; len = n }
stood n None = None

-- the imprecise name that the first n bytes of a text are, else what is found without it
abbrev pub hit : ℕ → Option ℕ → Option Loose → Option Loose
hit n (Some i) shorter = stood n (stands_for i)
hit n None shorter = shorter

-- the longest imprecise name, of at most n bytes, that begins a text
unfoldable pub longest : ℕ → List ℕ → Option Loose
longest zero t = None
longest (suc n) t = hit (suc n) (lookup imprecise_texts (take (suc n) t)) (longest n t)

-- the longest imprecise name that begins a text
unfoldable pub imprecise_of : List ℕ → Option Loose
imprecise_of t = longest (length t) t
