-- Worked answers of the lookups, computed.
use Rattle.std.specs.Prelude.{◌≡◌, refl, Bool, true, false, List, [], ℕ, Option, Some, None}
use Prim.Native.String.{String}
use Rattle.text.specs.Text.{ascii, same, ends}
use Rattle.names.specs.declared.Loose.{Loose}
use Rattle.names.specs.Listed.{listed, exceptions, imprecise}
use Rattle.names.specs.Lookup.{
  seek,
  lookup,
  licence_texts,
  imprecise_texts,
  licence_of,
  exception_of,
  bytes_at,
  licence_name,
  deprecated_of,
  gnu_of,
  is_bare,
  stem,
  later_of,
  only_of,
  stands_for,
  longest,
  imprecise_of,
}

-- answers by name, none where there is none: a partner of a listed name, and an imprecise name's licence with the bytes it takes
abbrev named : Option ℕ → List ℕ
named (Some k) = licence_name k
named None = []

abbrev partner : (ℕ → Option ℕ) → Option ℕ → List ℕ
partner f (Some k) = named (f k)
partner f None = ascii "not listed"

abbrev later : String → List ℕ
later s = partner later_of (licence_of (ascii s))

abbrev only : String → List ℕ
only s = partner only_of (licence_of (ascii s))

abbrev deprecated : Option ℕ → Bool
deprecated (Some k) = deprecated_of k
deprecated None = false

abbrev taken : Option Loose → List ℕ × ℕ
taken (Some x) = (licence_name x.licence, x.len)
taken None = ([], 0)

abbrev loose : String → List ℕ × ℕ
loose s = taken (imprecise_of (ascii s))

pub worked : (licence_of (ascii "MIT") ≡ Some 20)
    × (licence_of (ascii "mit") ≡ None)
    × (licence_of (ascii "MI") ≡ None)
    × (exception_of (ascii "LLVM-exception") ≡ Some 4)
    × (exception_of (ascii "MIT") ≡ None)
    × (later "GPL-2.0" ≡ ascii "GPL-2.0-or-later")
    × (later "GPL-2.0-only" ≡ ascii "GPL-2.0-or-later")
    × (later "GPL-2.0-or-later" ≡ [])
    × (later "MIT" ≡ [])
    × (only "GPL-2.0" ≡ ascii "GPL-2.0-only")
    × (only "GPL-2.0-only" ≡ [])
    × (only "GPL-2.0-or-later" ≡ [])
    × (loose "apache2x" ≡ (ascii "Apache-2.0", 7))
    × (loose "apache" ≡ (ascii "Apache-2.0", 6))
    × (loose "apach" ≡ ([], 0))
    × (loose "gpl-3.0+" ≡ (ascii "GPL-3.0", 7))
    × (loose "Mit" ≡ ([], 0))
    × (deprecated (licence_of (ascii "GPL-2.0")) ≡ true)
    × (deprecated (licence_of (ascii "GPL-2.0-only")) ≡ false)
unfolding
    licence_of exception_of imprecise_of longest lookup seek same ends stem later_of only_of gnu_of deprecated_of is_bare stands_for
    licence_name bytes_at licence_texts imprecise_texts listed exceptions imprecise
worked = (refl, refl, refl, refl, refl, refl, refl, refl, refl, refl, refl, refl, refl, refl, refl, refl, refl, refl, refl)
