-- A leaf, token by token. Document 01, "From tokens to nodes": "Each leaf record holds its licence as either a listed name or a reference,
-- with plus flag, addition and the licence token's span"; "Which token may follow which is that of `parse_mode`"; the rules of `+` on GNU
-- names; "the last addition wins"; and "Sets for 6, by the token before".
use Rattle.std.specs.Prelude.{ℕ, Bool, true, false, cond, not, ◌&&◌, Option, Some, None, Ok, Err}
use Rattle.names.specs.Lookup.{deprecated_of, gnu_of, is_later, later_of}
use Rattle.refusal.specs.Refused.{span}
use Rattle.refusal.specs.declared.Span.{Span}
use Rattle.refusal.specs.declared.Expected.{Expected}
use Rattle.refusal.specs.declared.Expected.TheVariants as E
use Rattle.refusal.specs.declared.Refusal.{Refusal}
use Rattle.refusal.specs.declared.Refusal.TheVariants.{Unexpected, GnuNoPlus, GnuPlusWithSuffix, UnknownLicense}
use Rattle.mode.specs.declared.Mode.{Mode}
use Rattle.lexer.specs.declared.Token.{Token}
use Rattle.lexer.specs.declared.Token.TheVariants as T
use Rattle.lexer.specs.Tokens.{Tokens, done, refused, token}
use Rattle.grammar.specs.declared.Range.{Range}
use Rattle.grammar.specs.declared.Licence.TheVariants as L
use Rattle.grammar.specs.declared.Addition.TheVariants as A
use Rattle.grammar.specs.declared.Leaf.{Leaf}
use Rattle.grammar.specs.declared.Before.{Before}
use Rattle.grammar.specs.declared.Before.TheVariants.{Nothing, Joint, Listed, Term, Suffixed, With, Added, Closed}
use Rattle.grammar.specs.declared.Start.{Start}
use Rattle.grammar.specs.declared.Start.TheVariants.{Begins, Barred, Opens, Unfit}
use Rattle.grammar.specs.Move.{Move}

-- "reference texts are byte ranges"
abbrev pub range_of : Span → Range
range_of sp = record { start = sp.start; end = sp.end }

abbrev pub part_of : Option Span → Option Range
part_of None = None
part_of (Some sp) = Some (range_of sp)

-- "A listed name starts without the plus flag"
abbrev pub listed_leaf : ℕ → Span → Leaf
listed_leaf k sp = record { licence = L.Listed k; plus = false; addition = A.Nothing; span = range_of sp }

-- a reference; "An unknown term is a reference with no document part, its name the whole run"
abbrev pub ref_leaf : Option Span → Span → Span → Leaf
ref_leaf d n sp = record { licence = L.Reference (part_of d) (range_of n); plus = false; addition = A.Nothing; span = range_of sp }

-- a leaf with another licence, with the plus flag, with another addition
abbrev pub renamed : Leaf → ℕ → Leaf
renamed l k = record { licence = L.Listed k; plus = l.plus; addition = l.addition; span = l.span }

abbrev pub plussed : Leaf → Leaf
plussed l = record { licence = l.licence; plus = true; addition = l.addition; span = l.span }

abbrev pub with_listed : Leaf → ℕ → Leaf
with_listed l k = record { licence = l.licence; plus = l.plus; addition = A.Listed k; span = l.span }

abbrev pub with_ref : Leaf → Option Span → Span → Leaf
with_ref l d n = record { licence = l.licence; plus = l.plus; addition = A.Reference (part_of d) (range_of n); span = l.span }

-- "Sets for 6, by the token before"
abbrev pub expected_after : Before → Expected
expected_after Nothing = E.Term
expected_after Joint = E.Term
expected_after (Listed k) = E.Name
expected_after Term = E.Name
expected_after Suffixed = E.Suffixed
expected_after With = E.Addition
expected_after Added = E.Tail
expected_after Closed = E.Joint

-- WITH may follow a listed name, a LicenseRef, `+` and an unknown term, which "In unknown mode" may be an addition
abbrev pub takes_with : Before → Bool
takes_with Nothing = false
takes_with Joint = false
takes_with (Listed k) = true
takes_with Term = true
takes_with Suffixed = true
takes_with With = false
takes_with Added = false
takes_with Closed = false

-- is WITH before, so that an addition has to follow
abbrev pub is_with : Before → Bool
is_with Nothing = false
is_with Joint = false
is_with (Listed k) = false
is_with Term = false
is_with Suffixed = false
is_with With = true
is_with Added = false
is_with Closed = false

-- a leaf read whole, with the token before and the tokens behind; or refused inside
pub data Tail : Type 0 where
  whole : Leaf → Before → Tokens → Tail
  broken : Refusal → Tail

-- 6 behind WITH
abbrev pub no_addition : Span → Move
no_addition sp = Err (Unexpected sp E.Addition)

-- a token behind WITH: an addition, which takes the place of an earlier one ("the last addition wins"); anything else is 6
abbrev pub add_move : Leaf → Token → Span → Move
add_move l T.And sp = no_addition sp
add_move l T.Or sp = no_addition sp
add_move l T.With sp = no_addition sp
add_move l T.Plus sp = no_addition sp
add_move l T.Open sp = no_addition sp
add_move l T.Close sp = no_addition sp
add_move l (T.Licence k) sp = no_addition sp
add_move l (T.Exception k) sp = Ok (Some (with_listed l k, Added))
add_move l (T.LicenseRef d n) sp = no_addition sp
add_move l (T.AdditionRef d n) sp = Ok (Some (with_ref l d n, Added))
add_move l (T.Unknown n) sp = Ok (Some (with_ref l None n, Term))

-- "else the name (without "-only") becomes its "-or-later" name"; "13 if no "-or-later" name is listed"
abbrev pub later_move : Leaf → Span → Option ℕ → Move
later_move l sp (Some j) = Ok (Some (renamed l j, Suffixed))
later_move l sp None = Err (UnknownLicense sp)

abbrev pub with_after : Before → Leaf → Move
with_after b l = cond (takes_with b) (Ok (Some (l, With))) (Ok None)

module _ (m : Mode) where
  -- a listed name where a licence may stand: "deprecated names by mode"
  unfoldable pub name_start : ℕ → Span → Start
  name_start k sp = cond (deprecated_of k && not m.deprecated) Barred (Begins (listed_leaf k sp) (Listed k))

  abbrev pub start_of : Token → Span → Start
  start_of T.And sp = Unfit
  start_of T.Or sp = Unfit
  start_of T.With sp = Unfit
  start_of T.Plus sp = Unfit
  start_of T.Open sp = Opens
  start_of T.Close sp = Unfit
  start_of (T.Licence k) sp = name_start k sp
  start_of (T.Exception k) sp = Unfit
  start_of (T.LicenseRef d n) sp = Begins (ref_leaf d n sp) Suffixed
  start_of (T.AdditionRef d n) sp = Unfit
  start_of (T.Unknown n) sp = Begins (ref_leaf None n sp) Term

  -- "On GNU names `+` is refused unless allowed, then refused after "-or-later""
  unfoldable pub gnu_move : Leaf → ℕ → Span → Move
  gnu_move l k sp =
      cond m.gnu_plus (cond (is_later k) (Err (GnuPlusWithSuffix sp)) (later_move l sp (later_of k))) (Err (GnuNoPlus sp))

  -- any other listed name gets the plus flag
  unfoldable pub plus_move : Leaf → ℕ → Span → Move
  plus_move l k sp = cond (gnu_of k) (gnu_move l k sp) (Ok (Some (plussed l, Suffixed)))

  -- a `+` belongs to a listed name just before it
  abbrev pub plus_after : Before → Leaf → Span → Move
  plus_after Nothing l sp = Ok None
  plus_after Joint l sp = Ok None
  plus_after (Listed k) l sp = plus_move l k sp
  plus_after Term l sp = Ok None
  plus_after Suffixed l sp = Ok None
  plus_after With l sp = Ok None
  plus_after Added l sp = Ok None
  plus_after Closed l sp = Ok None

  -- a token behind a licence or an addition
  abbrev pub tail_move : Before → Leaf → Token → Span → Move
  tail_move b l T.And sp = Ok None
  tail_move b l T.Or sp = Ok None
  tail_move b l T.With sp = with_after b l
  tail_move b l T.Plus sp = plus_after b l sp
  tail_move b l T.Open sp = Ok None
  tail_move b l T.Close sp = Ok None
  tail_move b l (T.Licence k) sp = Ok None
  tail_move b l (T.Exception k) sp = Ok None
  tail_move b l (T.LicenseRef d n) sp = Ok None
  tail_move b l (T.AdditionRef d n) sp = Ok None
  tail_move b l (T.Unknown n) sp = Ok None

  unfoldable pub move_of : Before → Leaf → Token → Span → Move
  move_of b l t sp = cond (is_with b) (add_move l t sp) (tail_move b l t sp)

-- the leaf l, with the token b before, at the tokens ts, of which the first is such a move; `on` reads on behind it
abbrev pub moved : Before → Leaf → Tokens → (Leaf → Before → Tail) → Move → Tail
moved b l ts on (Ok (Some (n, c))) = on n c
moved b l ts on (Ok None) = whole l b ts
moved b l ts on (Err r) = broken r

-- where no token stands: after WITH the refusal r, else the leaf has ended
abbrev pub stopped : Before → Leaf → Tokens → Refusal → Tail
stopped b l ts r = cond (is_with b) (broken r) (whole l b ts)

-- the rest of a leaf, in a text of e bytes
unfoldable pub tail_of : Mode → ℕ → Before → Leaf → Tokens → Tail
tail_of m e b l done = stopped b l done (Unexpected (span e e) E.Addition)
tail_of m e b l (refused r) = stopped b l (refused r) r
tail_of m e b l (token t sp ts) = moved b l (token t sp ts) (λ n c. tail_of m e c n ts) (move_of m b l t sp)
