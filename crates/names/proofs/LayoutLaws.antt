-- Laws of the layout: what stands where in the table, and that the names there are the listed ones.
use Rattle.std.specs.Prelude.{ℕ, zero, suc, ◌+◌, ◌*◌, ◌-◌, ◌/◌, ◌%◌, ◌^◌, ◌≤◌, ◌<◌, ◌≡◌, refl, Bool, true, false, ◌&&◌, eqb, ltb, take, drop, Option, Some, None}
use Prim.Native.String.{String}
use Rattle.std.proofs.Math.Path.{sym, ap}
use Rattle.std.proofs.Common.{◌∙◌, zero-add, add-zero, add_assoc, div-one, le_of_suc-le-suc, not-suc-le-zero, length-take, length-drop, pow-add, get_or-take, get_or-drop, drop-cons, take_at, drop_at, drop-drop, eqb-true, ltb-true, lt-ltb, le-ltb, eq-eqb, ne_eqb}
use mathlib.Core.List.{List, [], ◌∷◌, ◌++◌, map, map-append, append_assoc}
use Rattle.std.proofs.Math.Nat.{zero-div, div-div-eq-div-mul, div-add-mod}
use Rattle.std.proofs.Math.Decide.{dec_lt}
use native.Mathlib.Omega.{arith}
use Rattle.std.proofs.Math.ListN.{length, get_or, length-append, get_or-append, get_or-map, get_or-eq_default}
use Rattle.std.proofs.lemmas.List.{length-map}
use Rattle.std.proofs.Math.Seq.{get_or-append-add, drop-nil}
use Rattle.std.proofs.Math.Nat.{pow-succ'}
use Rattle.std.specs.Int.{w64, byte_at as byte_of, bytes_low_first, to_le_bytes}
use Rattle.text.specs.Text.{ascii, same, ends}
use Rattle.text.specs.Tests.{both, cond_false}
use Rattle.text.specs.Every.{all_of, All, all_of_lem}
use Rattle.names.specs.Listed.{listed, exceptions, imprecise, listed_count, exceptions_count, imprecise_count, table_bytes, table_words}
use Rattle.names.specs.Lookup.{seek, lookup, licence_texts, imprecise_texts, licence_of, bytes_at, licence_name, exception_name, deprecated_of, gnu_of, is_later, is_bare, stem, later_of, only_of, stands_for}
use Rattle.names.specs.Shape.{licence_texts_lem, imprecise_texts_lem}
use Rattle.names.proofs.Partners.{past, later_partner, only_partner}
use Rattle.names.specs.Layout.{Row, row, bit, distance, after_of, mark_of, marked, placed, stood_for, rows, directory, bodies, table_of, value, pack, words, texts, name_at, start_at, mark_at, part, flag_of, partner_of}

-- Bytes in words.

small : ℕ → Bool
small b = ltb b 256

-- what is left of a number of bytes without its first
value_rest : (b : ℕ) (s : List ℕ) → b < 256 → value (b ∷ s) / 256 ≡ value s
unfolding value
value_rest b s h = omega arith

-- the j-th byte of a number of bytes
digit : (s : List ℕ) (j : ℕ) → All small s → value s / 256 ^ j % 256 ≡ get_or s j 0
unfolding value small
digit [] j a = rw zero-div
digit (b ∷ s) zero a = let h : b < 256 = ltb-true b 256 a.0 in omega arith
digit (b ∷ s) (suc j) a =
    let h : b < 256 = ltb-true b 256 a.0 in
    rw (pow-succ' 256 j, ← div-div-eq-div-mul (value (b ∷ s)) 256 (256 ^ j), value_rest b s h) (digit s j a.1)

-- a number's byte i, as the library takes it
worth : (i n : ℕ) → byte_of i n ≡ n / 256 ^ i % 256
worth zero n = ap (λ (m : ℕ). m % 256) (sym (div-one n))
worth (suc i) n = refl

low_at : (i k n j : ℕ) → j < k → get_or (bytes_low_first i k n) j 0 ≡ n / 256 ^ (i + j) % 256
low_at i zero n j h = absurd (not-suc-le-zero h)
low_at i (suc k) n zero h = rw (add-zero i) (worth i n)
low_at i (suc k) n (suc j) h =
    let e : i + suc j ≡ suc i + j = omega arith in
    rw e (low_at (suc i) k n j (le_of_suc-le-suc h))

small_take : (n : ℕ) (s : List ℕ) → All small s → All small (take n s)
small_take zero s a = tt
small_take (suc n) [] a = tt
small_take (suc n) (b ∷ s) a = (a.0, small_take n s a.1)

small_drop : (n : ℕ) (s : List ℕ) → All small s → All small (drop n s)
small_drop zero s a = a
small_drop (suc n) [] a = tt
small_drop (suc n) (b ∷ s) a = small_drop n s a.1

length_pack : (n : ℕ) (s : List ℕ) → length (pack n s) ≡ n
unfolding pack
length_pack zero s = refl
length_pack (suc n) s = ap suc (length_pack n (drop 8 s))

pack_at : (n : ℕ) (s : List ℕ) (i : ℕ) → i < n → get_or (pack n s) i 0 ≡ value (take 8 (drop (8 * i) s))
unfolding pack
pack_at zero s i h = absurd (not-suc-le-zero h)
pack_at (suc n) s zero h = refl
pack_at (suc n) s (suc i) h =
    let e : 8 * suc i ≡ 8 + 8 * i = omega arith in
    pack_at n (drop 8 s) i (le_of_suc-le-suc h) ∙ rw (e, drop-drop (8 * i) 8 s)

packed : (n : ℕ) (s : List ℕ) (i : ℕ) → All small s → i < 8 * n → get_or (to_le_bytes w64 (get_or (pack n s) (i / 8) 0)) (i % 8) 0 ≡ get_or s i 0
packed n s i a h =
    let z : 0 + i % 8 ≡ i % 8 = omega arith in
    low_at 0 8 (get_or (pack n s) (i / 8) 0) (i % 8) (omega arith)
    ∙ rw (z, pack_at n s (i / 8) (omega arith))
    (digit (take 8 (drop (8 * (i / 8)) s)) (i % 8) (small_take 8 (drop (8 * (i / 8)) s) (small_drop (8 * (i / 8)) s a))
    ∙ get_or-take 8 (drop (8 * (i / 8)) s) (i % 8) 0 (omega arith)
    ∙ get_or-drop (8 * (i / 8)) s (i % 8) 0
    ∙ ap (λ (m : ℕ). get_or s m 0) (div-add-mod i 8))

-- computed: the table has its bytes, and each is one
sized : List ℕ → Bool
sized s = eqb (length s) table_bytes && all_of small s

table_sized : sized (table_of rows) ≡ true
unfolding sized small all_of same ends listed exceptions imprecise seek lookup licence_texts imprecise_texts licence_of bytes_at licence_name deprecated_of gnu_of is_later is_bare stem later_of only_of stands_for distance mark_of marked placed stood_for rows directory bodies table_of
table_sized = refl

pub table_length : length (table_of rows) ≡ table_bytes
unfolding sized
table_length = eqb-true (length (table_of rows)) table_bytes (both (eqb (length (table_of rows)) table_bytes) (all_of small (table_of rows)) table_sized).0

table_small : All small (table_of rows)
unfolding sized
table_small = all_of_lem small (table_of rows) (both (eqb (length (table_of rows)) table_bytes) (all_of small (table_of rows)) table_sized).1

pub words_length : length words ≡ table_words
unfolding words
words_length = length_pack table_words (table_of rows)

-- the byte i of the table is in its word
pub cell_at : (i : ℕ) → i < table_bytes → get_or (to_le_bytes w64 (get_or words (i / 8) 0)) (i % 8) 0 ≡ get_or (table_of rows) i 0
unfolding words
cell_at i h = packed table_words (table_of rows) i table_small (omega arith)

bytes_up : (j : ℕ) → 2 ^ (8 * j) ≡ 256 ^ j
bytes_up zero = refl
bytes_up (suc j) =
    let e : 8 * suc j ≡ 8 + 8 * j = omega arith in
    rw (e, pow-add 2 8 (8 * j), pow-succ' 256 j, bytes_up j)

-- and the lowest byte of what is left when its word is shifted by the bytes before it
pub cell_low : (i : ℕ) → i < table_bytes → get_or (to_le_bytes w64 (get_or words (i / 8) 0 / 2 ^ (8 * (i % 8)))) 0 0 ≡ get_or (table_of rows) i 0
cell_low i h =
    let z : 0 + i % 8 ≡ i % 8 = omega arith in
    let e : get_or (to_le_bytes w64 (get_or words (i / 8) 0)) (i % 8) 0 ≡ get_or words (i / 8) 0 / 256 ^ (i % 8) % 256
    = low_at 0 8 (get_or words (i / 8) 0) (i % 8) (omega arith) ∙ rw z in
    rw (bytes_up (i % 8)) (sym e ∙ cell_at i h)

-- Rows in the table.

-- the directory from its row k on is the directory of the rows from k on
directory_drop : (at : ℕ) (ns : List Row) (k : ℕ) → drop (5 * k) (directory at ns) ≡ directory (at + length (bodies (take k ns))) (drop k ns)
unfolding directory bodies
directory_drop at [] k = rw (drop-nil (5 * k), drop-nil {A = Row} k)
directory_drop at (n ∷ ns) zero = ap (λ (m : ℕ). directory m (n ∷ ns)) (sym (add-zero at))
directory_drop at (n ∷ ns) (suc k) =
    let e : 5 * suc k ≡ suc (suc (suc (suc (suc (5 * k))))) = omega arith in
    let m : at + length (ascii n.text) + length (bodies (take k ns)) ≡ at + length (ascii n.text ++ bodies (take k ns))
    = omega (arith, length-append (ascii n.text) (bodies (take k ns))) in
    rw e (directory_drop (at + length (ascii n.text)) ns k) ∙ ap (λ (m : ℕ). directory m (drop k ns)) m

length_directory : (at : ℕ) (ns : List Row) → length (directory at ns) ≡ 5 * length ns
unfolding directory
length_directory at [] = refl
length_directory at (n ∷ ns) =
    let h : length (directory (at + length (ascii n.text)) ns) ≡ 5 * length ns = length_directory (at + length (ascii n.text)) ns in
    omega arith

-- the bodies are those of the rows up to k and those of the rows from k on
bodies_split : (ns : List Row) (k : ℕ) → bodies ns ≡ bodies (take k ns) ++ bodies (drop k ns)
unfolding bodies
bodies_split ns zero = refl
bodies_split [] (suc k) = refl
bodies_split (n ∷ ns) (suc k) =
    ap (λ (s : List ℕ). ascii n.text ++ s) (bodies_split ns k) ∙ sym (append_assoc (ascii n.text) (bodies (take k ns)) (bodies (drop k ns)))

-- the directory lies within the table
pub directory_fits : 5 * length rows ≤ table_bytes
unfolding table_of
directory_fits =
    omega (arith, table_length, length-append (directory (5 * length rows) rows) (bodies rows), length_directory (5 * length rows) rows)

-- past the names there is none
pub unnamed : (k : ℕ) → length rows ≤ k → name_at k ≡ []
unfolding name_at bytes_at texts
unnamed k h = ap ascii (get_or-eq_default (texts rows) "" (omega (arith, length-map rows (λ (n : Row). n.text))))

pub named : (k i : ℕ) → i < length (name_at k) → k < length rows
named k i h = go (dec_lt k (length rows))
  where
    go : Dec (k < length rows) → k < length rows
    go (yes l) = l
    go (no l) = absurd (omega (arith, ap length (unnamed k (omega arith))))

-- the five bytes of a directory's entry
abbrev entry : ℕ → List ℕ
entry k = start_at k % 256 ∷ start_at k / 256 ∷ length (name_at k) ∷ mark_at k % 256 ∷ mark_at k / 256 ∷ []

module _ (k : ℕ) (h : k < length rows) where
  the : Row
  the = get_or rows k (row "" 0)

  name_is : ascii the.text ≡ name_at k
  unfolding the name_at bytes_at texts
  name_is = ap ascii (sym (get_or-map (λ (n : Row). n.text) rows k (row "" 0)))

  -- the directory's entry
  beyond : List ℕ
  beyond = directory (start_at k + length (ascii the.text)) (drop (suc k) rows)

  entry_here : drop (5 * k) (directory (5 * length rows) rows) ≡ entry k ++ beyond
  unfolding directory the start_at mark_at beyond
  entry_here =
      directory_drop (5 * length rows) rows k
      ∙ ap (directory (start_at k)) (drop-cons rows k (row "" 0) h)
      ∙ ap (λ (n : ℕ). start_at k % 256 ∷ start_at k / 256 ∷ n ∷ mark_at k % 256 ∷ mark_at k / 256 ∷ beyond) (ap length name_is)

  entry_at : (j : ℕ) → j < 5 → get_or (table_of rows) (5 * k + j) 0 ≡ get_or (entry k) j 0
  unfolding table_of
  entry_at j l =
      get_or-append (directory (5 * length rows) rows) (bodies rows) 0 (5 * k + j) (omega (arith, length_directory (5 * length rows) rows))
      ∙ sym (get_or-drop (5 * k) (directory (5 * length rows) rows) j 0)
      ∙ ap (λ (s : List ℕ). get_or s j 0) entry_here
      ∙ get_or-append (entry k) beyond 0 j l

  pub start_at_lem : get_or (table_of rows) (5 * k) 0 + 256 * get_or (table_of rows) (5 * k + 1) 0 ≡ start_at k
  start_at_lem =
      let z : 5 * k ≡ 5 * k + 0 = omega arith in
      omega (arith, ap (λ (i : ℕ). get_or (table_of rows) i 0) z, entry_at 0 (omega arith), entry_at 1 (omega arith))

  pub length_at : get_or (table_of rows) (5 * k + 2) 0 ≡ length (name_at k)
  length_at = entry_at 2 (omega arith)

  pub mark_at_lem : get_or (table_of rows) (5 * k + 3) 0 + 256 * get_or (table_of rows) (5 * k + 4) 0 ≡ mark_at k
  mark_at_lem = omega (arith, entry_at 3 (omega arith), entry_at 4 (omega arith))

  -- the body lies within the table, and holds the name's bytes
  from_here : bodies (drop k rows) ≡ name_at k ++ bodies (drop (suc k) rows)
  unfolding bodies the
  from_here = rw (drop-cons rows k (row "" 0) h, ← name_is)

  pub body_fits : start_at k + length (name_at k) ≤ table_bytes
  unfolding start_at table_of
  body_fits =
      omega (
        arith,
        table_length,
        length-append (directory (5 * length rows) rows) (bodies rows),
        length_directory (5 * length rows) rows,
        ap length (bodies_split rows k),
        length-append (bodies (take k rows)) (bodies (drop k rows)),
        ap length from_here,
        length-append (name_at k) (bodies (drop (suc k) rows)),
      )

  pub byte_at : (at i : ℕ) → at ≡ start_at k → i < length (name_at k) → get_or (table_of rows) (at + i) 0 ≡ get_or (name_at k) i 0
  unfolding start_at table_of
  byte_at at i q l =
      let e : at + i ≡ length (directory (5 * length rows) rows) + (length (bodies (take k rows)) + i)
      = omega (arith, length_directory (5 * length rows) rows) in
      ap (λ (m : ℕ). get_or (table_of rows) m 0) e
      ∙ get_or-append-add (directory (5 * length rows) rows) (bodies rows) (length (bodies (take k rows)) + i) 0
      ∙ ap (λ (s : List ℕ). get_or s (length (bodies (take k rows)) + i) 0) (bodies_split rows k)
      ∙ get_or-append-add (bodies (take k rows)) (bodies (drop k rows)) i 0
      ∙ ap (λ (s : List ℕ). get_or s i 0) from_here
      ∙ get_or-append (name_at k) (bodies (drop (suc k) rows)) 0 i l

-- The names of the table are the listed ones.

texts_marked : (k : ℕ) (ns : List String) → texts (marked k ns) ≡ ns
unfolding texts marked
texts_marked k [] = refl
texts_marked k (n ∷ ns) = ap (λ (l : List String). n ∷ l) (texts_marked (suc k) ns)

texts_plain : (ns : List String) → texts (map (λ (s : String). row s 0) ns) ≡ ns
unfolding texts
texts_plain [] = refl
texts_plain (n ∷ ns) = ap (λ (l : List String). n ∷ l) (texts_plain ns)

texts_stood : (i : ℕ) (ns : List String) → texts (stood_for i ns) ≡ ns
unfolding texts stood_for
texts_stood i [] = refl
texts_stood i (n ∷ ns) = ap (λ (l : List String). n ∷ l) (texts_stood (suc i) ns)

texts_append : (a b : List Row) → texts (a ++ b) ≡ texts a ++ texts b
unfolding texts
texts_append a b = map-append (λ (n : Row). n.text) a b

texts_take : (n : ℕ) (ns : List Row) → texts (take n ns) ≡ take n (texts ns)
unfolding texts
texts_take zero ns = refl
texts_take (suc n) [] = refl
texts_take (suc n) (r ∷ ns) = ap (λ (l : List String). r.text ∷ l) (texts_take n ns)

texts_drop : (n : ℕ) (ns : List Row) → texts (drop n ns) ≡ drop n (texts ns)
unfolding texts
texts_drop zero ns = refl
texts_drop (suc n) [] = refl
texts_drop (suc n) (r ∷ ns) = texts_drop n ns

texts_rows : texts rows ≡ licence_texts ++ (exceptions ++ imprecise_texts)
unfolding rows
texts_rows =
    texts_append (marked 0 licence_texts) (map (λ (s : String). row s 0) exceptions ++ stood_for 0 imprecise_texts)
    ∙ rw (texts_append (map (λ (s : String). row s 0) exceptions) (stood_for 0 imprecise_texts), texts_marked 0 licence_texts, texts_plain exceptions, texts_stood 0 imprecise_texts)

texts_length : length (texts rows) ≡ length rows
unfolding texts
texts_length = length-map rows (λ (n : Row). n.text)

pub rows_length : length rows ≡ length listed + length exceptions + length imprecise
rows_length =
    omega (
      arith,
      texts_length,
      ap length texts_rows,
      length-append licence_texts (exceptions ++ imprecise_texts),
      length-append exceptions imprecise_texts,
      licence_texts_lem,
      imprecise_texts_lem,
    )

-- how many names each part has, and all of them
pub ruleset counts = (arith, rows_length, listed_count, exceptions_count, imprecise_count)

-- the parts
part_texts : (from to : ℕ) → texts (part from to) ≡ take (to - from) (drop from (texts rows))
unfolding part
part_texts from to = texts_take (to - from) (drop from rows) ∙ ap (take (to - from)) (texts_drop from rows)

pub part_licences : (n : ℕ) → length listed ≡ n → texts (part 0 n) ≡ licence_texts
part_licences n e =
    part_texts 0 n
    ∙ ap (take (n - 0)) texts_rows
    ∙ take_at licence_texts (exceptions ++ imprecise_texts) (n - 0) (omega (arith, licence_texts_lem))

pub part_exceptions : (m n : ℕ) → length listed ≡ m → m + length exceptions ≡ n → texts (part m n) ≡ exceptions
part_exceptions m n e f =
    part_texts m n
    ∙ ap (λ (l : List String). take (n - m) (drop m l)) texts_rows
    ∙ ap (take (n - m)) (drop_at licence_texts (exceptions ++ imprecise_texts) m (licence_texts_lem ∙ e))
    ∙ take_at exceptions imprecise_texts (n - m) (omega arith)

-- a place of a part is a place of the table
pub part_length : (from to : ℕ) → to ≤ length rows → length (texts (part from to)) ≡ to - from
part_length from to h = rw (part_texts from to) (simp (length-take, length-drop) (omega (arith, texts_length)))

pub part_at : (from to k : ℕ) → from ≤ k → k < to → bytes_at (texts (part from to)) (k - from) ≡ name_at k
unfolding name_at bytes_at
part_at from to k h l =
    let e : from + (k - from) ≡ k = omega arith in
    ap ascii
    (ap (λ (s : List String). get_or s (k - from) "") (part_texts from to)
    ∙ get_or-take (to - from) (drop from (texts rows)) (k - from) "" (omega arith)
    ∙ get_or-drop from (texts rows) (k - from) ""
    ∙ ap (λ (m : ℕ). get_or (texts rows) m "") e)

-- the names by parts
pub licence_row : (k : ℕ) → k < length listed → name_at k ≡ licence_name k
unfolding name_at licence_name bytes_at
licence_row k h =
    ap ascii
    (ap (λ (s : List String). get_or s k "") texts_rows
    ∙ get_or-append licence_texts (exceptions ++ imprecise_texts) "" k (omega (arith, licence_texts_lem)))

after_licences : (k : ℕ) → get_or (texts rows) (length listed + k) "" ≡ get_or (exceptions ++ imprecise_texts) k ""
after_licences k =
    ap (λ (s : List String). get_or s (length listed + k) "") texts_rows
    ∙ ap (λ (n : ℕ). get_or (licence_texts ++ (exceptions ++ imprecise_texts)) (n + k) "") (sym licence_texts_lem)
    ∙ get_or-append-add licence_texts (exceptions ++ imprecise_texts) k ""

pub exception_row : (k : ℕ) → k < length exceptions → name_at (length listed + k) ≡ exception_name k
unfolding name_at exception_name bytes_at
exception_row k h = ap ascii (after_licences k ∙ get_or-append exceptions imprecise_texts "" k h)

pub imprecise_row : (i : ℕ) → name_at (length listed + length exceptions + i) ≡ bytes_at imprecise_texts i
unfolding name_at bytes_at
imprecise_row i =
    ap ascii
    (ap (λ (n : ℕ). get_or (texts rows) n "") (add_assoc (length listed) (length exceptions) i)
    ∙ after_licences (length exceptions + i)
    ∙ get_or-append-add exceptions imprecise_texts i "")

-- What a mark says.

-- a licence's mark, and that of an imprecise name
marked_at : (i : ℕ) (ns : List String) (k : ℕ) → k < length ns → (get_or (marked i ns) k (row "" 0)).mark ≡ mark_of (i + k)
unfolding marked
marked_at i [] k h = absurd (not-suc-le-zero h)
marked_at i (n ∷ ns) zero h = ap mark_of (sym (add-zero i))
marked_at i (n ∷ ns) (suc k) h = let e : suc i + k ≡ i + suc k = omega arith in marked_at (suc i) ns k (le_of_suc-le-suc h) ∙ ap mark_of e

stood_at : (i : ℕ) (ns : List String) (k : ℕ) → k < length ns → (get_or (stood_for i ns) k (row "" 0)).mark ≡ placed (stands_for (i + k))
unfolding stood_for
stood_at i [] k h = absurd (not-suc-le-zero h)
stood_at i (n ∷ ns) zero h = ap (λ (j : ℕ). placed (stands_for j)) (sym (add-zero i))
stood_at i (n ∷ ns) (suc k) h =
    let e : suc i + k ≡ i + suc k = omega arith in
    stood_at (suc i) ns k (le_of_suc-le-suc h) ∙ ap (λ (j : ℕ). placed (stands_for j)) e

licence_rows : List Row
licence_rows = marked 0 licence_texts

exception_rows : List Row
exception_rows = map (λ (s : String). row s 0) exceptions

imprecise_rows : List Row
imprecise_rows = stood_for 0 imprecise_texts

licence_rows_length : length licence_rows ≡ length listed
unfolding licence_rows texts
licence_rows_length =
    sym (length-map licence_rows (λ (n : Row). n.text)) ∙ ap length (texts_marked 0 licence_texts) ∙ licence_texts_lem

exception_rows_length : length exception_rows ≡ length exceptions
unfolding exception_rows
exception_rows_length = length-map exceptions (λ (s : String). row s 0)

pub licence_mark : (k : ℕ) → k < length listed → mark_at k ≡ mark_of k
unfolding mark_at rows licence_rows exception_rows imprecise_rows
licence_mark k h =
    ap (λ (r : Row). r.mark) (get_or-append licence_rows (exception_rows ++ imprecise_rows) (row "" 0) k (omega (arith, licence_rows_length)))
    ∙ marked_at 0 licence_texts k (omega (arith, licence_texts_lem))
    ∙ ap mark_of (zero-add k)

pub imprecise_mark : (i : ℕ) → i < length imprecise → mark_at (length listed + length exceptions + i) ≡ placed (stands_for i)
unfolding mark_at rows licence_rows exception_rows imprecise_rows
imprecise_mark i h =
    let e : length listed + length exceptions + i ≡ length licence_rows + (length exception_rows + i)
    = omega (arith, licence_rows_length, exception_rows_length) in
    ap mark_at e
    ∙ ap (λ (r : Row). r.mark)
    (get_or-append-add licence_rows (exception_rows ++ imprecise_rows) (length exception_rows + i) (row "" 0)
    ∙ get_or-append-add exception_rows imprecise_rows i (row "" 0))
    ∙ stood_at 0 imprecise_texts i (omega (arith, imprecise_texts_lem))
    ∙ ap (λ (j : ℕ). placed (stands_for j)) (zero-add i)

-- the distance of a partner that stands within 15 places after k
near_after : (k : ℕ) (f : Option ℕ) → ((j : ℕ) → f ≡ Some j → (k < j) × (j < k + 16)) → (distance k f < 16) × (after_of k (distance k f) ≡ f)
unfolding distance after_of
near_after k (Some j) n =
    let w = n j refl in
    let q : k + (j - k) ≡ j = omega arith in
    (omega arith, cond_false (eqb (j - k) 0) None (Some (k + (j - k))) (ne_eqb (j - k) 0 (λ z. omega arith)) ∙ ap Some q)
near_after k None n = (omega arith, refl)

bit_test : (b : Bool) (n : ℕ) → n ≡ bit b → eqb n 1 ≡ b
bit_test true n e = eq-eqb n 1 e
bit_test false n e = ne_eqb n 1 (λ z. omega arith)

bit_small : (b : Bool) → bit b < 2
bit_small true = omega arith
bit_small false = omega arith

-- what the mark m of the licence k says
pub record Marked (k m : ℕ) : Type 0 where
  pub deprecated : eqb (m % 2) 1 ≡ deprecated_of k
  pub gnu : eqb (m / 2 % 2) 1 ≡ gnu_of k
  pub or_later : eqb (m / 4 % 2) 1 ≡ is_later k
  pub later : after_of k (m / 8 % 16) ≡ later_of k
  pub only : after_of k (m / 128 % 16) ≡ only_of k

pub mark_says : (k : ℕ) → k < length listed → Marked k (mark_at k)
unfolding mark_of
mark_says k h =
    let l = near_after k (later_of k) (λ j e. let p = later_partner k j e in (p.after, p.near)) in
    let o = near_after k (only_of k) (λ j e. let p = only_partner k j e in (p.after, p.near)) in
    let m : mark_at k ≡ mark_of k = licence_mark k h in
    let a : bit (deprecated_of k) < 2 = bit_small (deprecated_of k) in
    let b : bit (gnu_of k) < 2 = bit_small (gnu_of k) in
    let c : bit (is_later k) < 2 = bit_small (is_later k) in
    let x : mark_at k / 8 % 16 ≡ distance k (later_of k) = omega arith in
    let y : mark_at k / 128 % 16 ≡ distance k (only_of k) = omega arith in
    record {
      deprecated = bit_test (deprecated_of k) (mark_at k % 2) (omega arith);
      gnu = bit_test (gnu_of k) (mark_at k / 2 % 2) (omega arith);
      or_later = bit_test (is_later k) (mark_at k / 4 % 2) (omega arith);
      later = ap (after_of k) x ∙ l.1;
      only = ap (after_of k) y ∙ o.1;
    }

-- what the flags and partners in the mark of the licence k say
pub record Says (k : ℕ) : Type 0 where
  pub deprecated : flag_of k 1 ≡ deprecated_of k
  pub gnu : flag_of k 2 ≡ gnu_of k
  pub or_later : flag_of k 4 ≡ is_later k
  pub later : partner_of k 8 ≡ later_of k
  pub only : partner_of k 128 ≡ only_of k

flag_in : (k flag : ℕ) → k < length listed → flag_of k flag ≡ eqb (mark_at k / flag % 2) 1
unfolding flag_of
flag_in k flag h = simp (lt-ltb k (length listed) h)

flag_past : (k flag : ℕ) → length listed ≤ k → flag_of k flag ≡ false
unfolding flag_of
flag_past k flag h = simp (le-ltb k (length listed) h)

partner_in : (k unit : ℕ) → k < length listed → partner_of k unit ≡ after_of k (mark_at k / unit % 16)
unfolding partner_of
partner_in k unit h = simp (lt-ltb k (length listed) h)

partner_past : (k unit : ℕ) → length listed ≤ k → partner_of k unit ≡ None
unfolding partner_of
partner_past k unit h = simp (le-ltb k (length listed) h)

pub says : (k : ℕ) → Says k
says k = go (dec_lt k (length listed))
  where
    go : Dec (k < length listed) → Says k
    go (yes h) =
        let w = mark_says k h in
        let one : mark_at k / 1 % 2 ≡ mark_at k % 2 = omega arith in
        record {
          deprecated = flag_in k 1 h ∙ ap (λ (m : ℕ). eqb m 1) one ∙ w.deprecated;
          gnu = flag_in k 2 h ∙ w.gnu;
          or_later = flag_in k 4 h ∙ w.or_later;
          later = partner_in k 8 h ∙ w.later;
          only = partner_in k 128 h ∙ w.only;
        }
    go (no h) =
        let l : length listed ≤ k = omega arith in
        let p = past k l in
        record {
          deprecated = flag_past k 1 l ∙ sym p.deprecated;
          gnu = flag_past k 2 l ∙ sym p.gnu;
          or_later = flag_past k 4 l ∙ sym p.later;
          later = partner_past k 8 l ∙ sym p.no_later;
          only = partner_past k 128 l ∙ sym p.no_only;
        }
