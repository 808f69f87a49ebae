-- The list file and its licensees. Document 01, "The accept list and the choice": "a count c from 0 to 64; c entries of offset (from the file's
-- start) and length, 16 bits each, low byte first; then the bodies, in order, no gap, nothing after. Lengths are 1 to 200. A body is STRICT text
-- of one licence, optionally WITH an addition; no `+`, no parenthesis; white space as in any text"; and 17, "(255; entries from 0 up, in each:
-- offset, length, end, body; 254)".
use Rattle.std.specs.Prelude.{ℕ, zero, suc, ◌+◌, ◌*◌, Bool, false, cond, ◌&&◌, List, [], ◌∷◌, eqb, leb, ltb, length, get_or, Option, Some, None, Result, Ok, Err, ⊤}
use Rattle.text.specs.Text.{part}
use Rattle.names.specs.Lookup.{deprecated_of}
use Rattle.refusal.specs.declared.Span.{Span}
use Rattle.refusal.specs.declared.Refusal.{Refusal}
use Rattle.refusal.specs.declared.Refusal.TheVariants.{BadList}
use Rattle.mode.specs.Modes.{strict}
use Rattle.lexer.specs.declared.Token.{Token}
use Rattle.lexer.specs.declared.Token.TheVariants as T
use Rattle.lexer.specs.Lex.{check_of}
use Rattle.lexer.specs.Tokens.{Tokens, done, refused, token, tokens_of}
use Rattle.grammar.specs.declared.Range.{Range}
use Rattle.grammar.specs.declared.Licence.{Licence}
use Rattle.grammar.specs.declared.Licence.TheVariants as L
use Rattle.grammar.specs.declared.Addition.{Addition}
use Rattle.grammar.specs.declared.Addition.TheVariants as A
use Rattle.licensee.specs.declared.Licensee.{Licensee}

-- a range of a body, which starts at a, in the file
abbrev pub range_from : ℕ → Span → Range
range_from a sp = record { start = a + sp.start; end = a + sp.end }

abbrev pub part_from : ℕ → Option Span → Option Range
part_from a None = None
part_from a (Some sp) = Some (range_from a sp)

-- a listed name: in STRICT none that is deprecated
unfoldable pub name_in : ℕ → Option Licence
name_in k = cond (deprecated_of k) None (Some (L.Listed k))

-- "one licence"
abbrev pub licence_in : ℕ → Token → Option Licence
licence_in a T.And = None
licence_in a T.Or = None
licence_in a T.With = None
licence_in a T.Plus = None
licence_in a T.Open = None
licence_in a T.Close = None
licence_in a (T.Licence k) = name_in k
licence_in a (T.Exception k) = None
licence_in a (T.LicenseRef d n) = Some (L.Reference (part_from a d) (range_from a n))
licence_in a (T.AdditionRef d n) = None
licence_in a (T.Unknown n) = None

-- "an addition"
abbrev pub addition_in : ℕ → Token → Option Addition
addition_in a T.And = None
addition_in a T.Or = None
addition_in a T.With = None
addition_in a T.Plus = None
addition_in a T.Open = None
addition_in a T.Close = None
addition_in a (T.Licence k) = None
addition_in a (T.Exception k) = Some (A.Listed k)
addition_in a (T.LicenseRef d n) = None
addition_in a (T.AdditionRef d n) = Some (A.Reference (part_from a d) (range_from a n))
addition_in a (T.Unknown n) = None

-- nothing follows
abbrev pub alone : Option Addition → Tokens → Option Addition
alone x done = x
alone x (refused r) = None
alone x (token t sp ts) = None

-- behind WITH: an addition, and nothing after it
abbrev pub behind_with : ℕ → Tokens → Option Addition
behind_with a done = None
behind_with a (refused r) = None
behind_with a (token t sp ts) = alone (addition_in a t) ts

-- what a token behind the licence leads to, if it is WITH
abbrev pub if_with : Token → Option Addition → Option Addition
if_with T.And x = None
if_with T.Or x = None
if_with T.With x = x
if_with T.Plus x = None
if_with T.Open x = None
if_with T.Close x = None
if_with (T.Licence k) x = None
if_with (T.Exception k) x = None
if_with (T.LicenseRef d n) x = None
if_with (T.AdditionRef d n) x = None
if_with (T.Unknown n) x = None

-- behind the licence: nothing, or WITH and an addition
abbrev pub behind_licence : ℕ → Tokens → Option Addition
behind_licence a done = Some A.Nothing
behind_licence a (refused r) = None
behind_licence a (token t sp ts) = if_with t (behind_with a ts)

-- what an entry's body is read as
abbrev pub Body : Type 0
Body = Result Licensee Refusal

-- 17, with the entry
abbrev pub wrong_entry : ℕ → Body
wrong_entry i = Err (BadList i)

abbrev pub joined : ℕ → Option Licence → Option Addition → Body
joined i None x = wrong_entry i
joined i (Some l) None = wrong_entry i
joined i (Some l) (Some x) = Ok (record { licence = l; addition = x })

abbrev pub offered : ℕ → ℕ → Tokens → Body
offered i a done = wrong_entry i
offered i a (refused r) = wrong_entry i
offered i a (token t sp ts) = joined i (licence_in a t) (behind_licence a ts)

-- "STRICT text": its refusals 2 and 1 are refusals of the entry
abbrev pub if_text : ℕ → Result ⊤ Refusal → Body → Body
if_text i (Ok tt) x = x
if_text i (Err r) x = wrong_entry i

-- the body b of entry i, which starts at a in the file
unfoldable pub body_of : ℕ → ℕ → List ℕ → Body
body_of i a b = if_text i (check_of b) (offered i a (tokens_of b strict 0))

-- "16 bits each, low byte first"
unfoldable pub at16 : List ℕ → ℕ → ℕ
at16 f i = get_or f i 0 + get_or f (i + 1) 0 * 256

abbrev pub count : List ℕ → ℕ
count f = get_or f 0 0

-- "c entries of offset (from the file's start) and length"
unfoldable pub offset : List ℕ → ℕ → ℕ
offset f i = at16 f (1 + 4 * i)

unfoldable pub size : List ℕ → ℕ → ℕ
size f i = at16 f (3 + 4 * i)

-- "offset, length, end": entry i, whose body is due at a
unfoldable pub placed : List ℕ → ℕ → ℕ → Bool
placed f i a = eqb (offset f i) a && (leb 1 (size f i) && (leb (size f i) 200 && leb (a + size f i) (length f)))

unfoldable pub offer_of : List ℕ → ℕ → ℕ → Body
offer_of f i a = cond (placed f i a) (body_of i a (part a (a + size f i) f)) (wrong_entry i)

-- the licensees of a valid file, in order; or the refusal 17
pub data Accepts : Type 0 where
  good : List Licensee → Accepts
  wrong : Refusal → Accepts

-- one licensee more in front
abbrev pub before : Licensee → Accepts → Accepts
before l (good ls) = good (l ∷ ls)
before l (wrong r) = wrong r

abbrev pub entry_then : Body → Accepts → Accepts
entry_then (Ok l) x = before l x
entry_then (Err r) x = wrong r

-- n entries from entry i on, of which the first body is due at a: "the bodies, in order, no gap, nothing after"; "254"
unfoldable pub entries_from : List ℕ → ℕ → ℕ → ℕ → Accepts
entries_from f zero i a = cond (eqb a (length f)) (good []) (wrong (BadList 254))
entries_from f (suc n) i a = entry_then (offer_of f i a) (entries_from f n (i + 1) (a + size f i))

-- "a count c from 0 to 64", and the contents whole: "255"
unfoldable pub contents : List ℕ → Bool
contents f = leb 1 (length f) && (leb (count f) 64 && leb (1 + 4 * count f) (length f))

unfoldable pub list_of : List ℕ → Accepts
list_of f = cond (contents f) (entries_from f (count f) 0 (1 + 4 * count f)) (wrong (BadList 255))

-- what `check` answers: the count, or 17
abbrev pub checked_of : Accepts → Result ℕ Refusal
checked_of (good ls) = Ok (length ls)
checked_of (wrong r) = Err r

-- is there an entry i
abbrev pub has_entry : ℕ → Accepts → Bool
has_entry i (good ls) = ltb i (length ls)
has_entry i (wrong r) = false

-- "A body is handed out as a part of the caller's file, never copied; an invalid file or an entry at or past c gives an empty part": its
-- bytes, and the place of the file at which they stand
unfoldable pub entry_of : List ℕ → ℕ → List ℕ
entry_of f i = cond (has_entry i (list_of f)) (part (offset f i) (offset f i + size f i) f) []

unfoldable pub entry_at : List ℕ → ℕ → ℕ
entry_at f i = cond (has_entry i (list_of f)) (offset f i) 0

-- the range of the file that the body takes
unfoldable pub place_of : List ℕ → ℕ → Span
place_of f i = cond (has_entry i (list_of f)) (record { start = offset f i; end = offset f i + size f i }) (record { start = 0; end = 0 })
