-- The rows that came of an ask: their identifiers ascend, and so they are at most as many as the table's rows.
use Rattle.std.proofs.Common.{◌≡◌, ℕ, zero, suc, ◌+◌, ◌*◌, ◌/◌, ◌%◌, ◌<◌, ◌≤◌, true, ◌&&◌, List, [], ◌∷◌, ◌++◌, length, map, take, drop, sym, ◌∙◌, ap, refl, arith, nat_lt, nat_le, ltb-true, leb-true, length-append}
use Rattle.std.proofs.Math.Nat.{mod-add-div', suc-mul}
use Rattle.std.proofs.lemmas.List.{length-drop, take-append-le, drop-append-le}
use Rattle.ghost_model.specs.core.Schema.{Kind}
use Rattle.ghost_model.specs.core.Channel.{Catalog, Ask, count_of}
use Rattle.ghost_model.specs.core.Asks.{kinds_of, row_width, RowCells, row_in, rows_from, rows_in, ascend_from}
use Rattle.ghost_model.specs.core.NextMove.{are_cells, rows_fit, last_identifier}
use Rattle.ghost_model.proofs.ChannelLemmas.Tests.{both_hold, hold_both}

abbrev pub identifiers : List RowCells → List ℕ
identifiers rows = map (λ (row : RowCells). row.identifier) rows

pub rows_counted : (width count : ℕ) (bytes : List ℕ) → length (rows_from width count bytes) ≡ count
unfolding rows_from
rows_counted width zero bytes = refl
rows_counted width (suc count) bytes = ap suc (rows_counted width count (drop width bytes))

ascend_joined : (before : ℕ) (xs ys : List RowCells) → ascend_from before (identifiers xs) ≡ true
    → ascend_from (last_identifier before xs) (identifiers ys) ≡ true → ascend_from before (identifiers (xs ++ ys)) ≡ true
ascend_joined before [] ys a b = b
ascend_joined before (x ∷ xs) ys a b =
    let both = both_hold (nat_lt before x.identifier) (ascend_from x.identifier (identifiers xs)) a in
    hold_both _ _ both.one (ascend_joined x.identifier xs ys both.other b)

pub last_joined : (before : ℕ) (xs ys : List RowCells) → last_identifier before (xs ++ ys) ≡ last_identifier (last_identifier before xs) ys
last_joined before [] ys = refl
last_joined before (x ∷ xs) ys = last_joined x.identifier xs ys

module _ (catalog : Catalog) (ask : Ask) where
  abbrev width : ℕ
  width = row_width catalog.schema ask

  abbrev kinds : List Kind
  kinds = kinds_of catalog.schema ask

  -- the bytes are whole rows that ascend to this last one
  pub record Came (bytes : List ℕ) (last : ℕ) : Type 0 where
    pub count : ℕ
    pub size : length bytes ≡ count * width
    pub ascend : ascend_from 0 (identifiers (rows_from width count bytes)) ≡ true
    pub final : last_identifier 0 (rows_from width count bytes) ≡ last
    pub few : count ≤ last
    pub most : last ≤ count_of catalog ask.table

  pub none_came : Came [] 0
  unfolding rows_from
  none_came = record { count = 0; size = omega arith; ascend = refl; final = refl; few = omega arith; most = omega arith }

  some_width : 0 < width
  some_width = omega arith

  -- rows after rows
  pub rows_joined : (count more : ℕ) (bytes others : List ℕ) → length bytes ≡ count * width
      → rows_from width (count + more) (bytes ++ others) ≡ rows_from width count bytes ++ rows_from width more others
  unfolding rows_from
  rows_joined zero more [] others size = let none : 0 + more ≡ more = omega arith in ap (λ n. rows_from width n others) none
  rows_joined zero more (byte ∷ bytes) others size = let bad : ⊥ = omega (arith, size) in absurd bad
  rows_joined (suc count) more bytes others size =
      let next : suc count + more ≡ suc (count + more) = omega arith in
      let product = suc-mul count width in
      let enough : width ≤ length bytes = omega (arith, size, product) in
      let dropped = length-drop width bytes in
      let rest : length (drop width bytes) ≡ count * width = omega (arith, size, product, dropped) in
      ap (λ n. rows_from width n (bytes ++ others)) next
      ∙ ap (λ (taken : List ℕ). row_in taken ∷ rows_from width (count + more) (drop width (bytes ++ others))) (take-append-le width bytes others enough)
      ∙ ap (λ (left : List ℕ). row_in (take width bytes) ∷ rows_from width (count + more) left) (drop-append-le width bytes others enough)
      ∙ ap (λ (rows : List RowCells). row_in (take width bytes) ∷ rows) (rows_joined count more (drop width bytes) others rest)

  -- rows that fit after one with an identifier
  record Climb (last : ℕ) (rows : List RowCells) : Type 0 where
    ascend : ascend_from last (identifiers rows) ≡ true
    few : last + length rows ≤ last_identifier last rows
    most : last ≤ count_of catalog ask.table → last_identifier last rows ≤ count_of catalog ask.table

  climbs : (last : ℕ) (rows : List RowCells) → rows_fit (count_of catalog ask.table) last kinds rows ≡ true → Climb last rows
  unfolding rows_fit
  climbs last [] fit = record { ascend = refl; few = omega arith; most = λ h. h }
  climbs last (row ∷ later) fit =
      let all = count_of catalog ask.table in
      let both = both_hold (nat_lt last row.identifier && nat_le row.identifier all && are_cells kinds row.cells) (rows_fit all row.identifier kinds later) fit in
      let front = both_hold (nat_lt last row.identifier && nat_le row.identifier all) (are_cells kinds row.cells) both.one in
      let bounds = both_hold (nat_lt last row.identifier) (nat_le row.identifier all) front.one in
      let higher : last < row.identifier = ltb-true last row.identifier bounds.one in
      let within : row.identifier ≤ all = leb-true row.identifier all bounds.other in
      let on = climbs row.identifier later both.other in
      let few = on.few in
      record {
        ascend = hold_both _ _ bounds.one on.ascend;
        few = omega (arith, few, higher);
        most = λ h. on.most within;
      }

  -- the rows of a frame that fits, after rows that came
  pub more_came : (bytes payload : List ℕ) (last : ℕ) → Came bytes last → length payload % width ≡ 0
      → rows_fit (count_of catalog ask.table) last kinds (rows_in catalog.schema ask payload) ≡ true
      → Came (bytes ++ payload) (last_identifier last (rows_in catalog.schema ask payload))
  more_came bytes payload last came whole fit =
      let more = length payload / width in
      let rows : List RowCells = rows_from width more payload in
      let before : List RowCells = rows_from width came.count bytes in
      let divided = mod-add-div' (length payload) width in
      let size : length payload ≡ more * width = omega (arith, divided, whole) in
      let joined : rows_from width (came.count + more) (bytes ++ payload) ≡ before ++ rows = rows_joined came.count more bytes payload came.size in
      let climb : Climb last rows = climbs last rows fit in
      let many : length rows ≡ more = rows_counted width more payload in
      let few = came.few in
      let higher = climb.few in
      record {
        count = came.count + more;
        size = length-append bytes payload ∙ ap (λ n. n + length payload) came.size ∙ ap (λ n. came.count * width + n) size ∙ sym (spread came.count more width);
        ascend =
            ap (λ (all : List RowCells). ascend_from 0 (identifiers all)) joined
            ∙ ascend_joined 0 before rows came.ascend (ap (λ n. ascend_from n (identifiers rows)) came.final ∙ climb.ascend);
        final =
            ap (last_identifier 0) joined ∙ last_joined 0 before rows ∙ ap (λ n. last_identifier n rows) came.final;
        few = omega (arith, few, higher, many);
        most = climb.most came.most;
      }
    where
      spread : (a b c : ℕ) → (a + b) * c ≡ a * c + b * c
      spread a b c = grind arith
