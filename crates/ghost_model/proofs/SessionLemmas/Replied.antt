-- That the rows that meet an ask may be sent in any packing, and are read back.
use Rattle.std.proofs.Common.{◌≡◌, ℕ, zero, suc, ◌+◌, ◌*◌, ◌<◌, ◌≤◌, ◌^◌, true, false, ◌&&◌, List, [], ◌∷◌, ◌++◌, length, map, drop, sym, ◌∙◌, ap, subst, refl, arith, lit<, length-append, Option, Some, slice_get, unwrap_or}
use Rattle.std.specs.Prelude.{nat_lt, nat_le, flat_map, if◌then◌else◌, sum, slice_index, All, option_to_list, option_and_then, is_some}
use Rattle.std.specs.List.{list_all}
use Rattle.std.specs.Int.{to_be_bytes, w32}
use Rattle.std.proofs.lemmas.List.Sums.{sum_by-cons}
use Rattle.std.proofs.lemmas.List.{length-map}
use Rattle.std.proofs.lemmas.Bool.{lt-ltb, le-leb, ltb-true, leb-true}
use Rattle.std.proofs.Math.Nat.{mul_comm}
use Rattle.ghost_model.specs.core.Schema.{Schema, Kind, Column, columns_of, column_at, is_shown, is_visible}
use Rattle.ghost_model.specs.core.Values.{Value, Text, Row, Rows, Database}
use Rattle.ghost_model.specs.core.Query.{Query}
use Rattle.ghost_model.specs.core.Channel.{Catalog, count_of, Ask}
use Rattle.ghost_model.specs.core.Database.{is_of_kind, rows_of, row_counts, IsDatabase}
use Rattle.ghost_model.specs.laws.ShortWords.{reply_row}
use Rattle.ghost_model.specs.forms.Cells.{cell_width, encode_cell}
use Rattle.ghost_model.specs.readings.CellReading.{decode_cell}
use Rattle.ghost_model.specs.forms.Frames.{AreBytes, most_payload}
use Rattle.ghost_model.specs.core.Asks.{RowCells, row_bytes, kind_or_none, kind_at, kinds_of, row_width}
use Rattle.ghost_model.specs.laws.ChannelLaws.{IsReplyRow}
use Rattle.ghost_model.specs.core.NextMove.{are_cells, rows_fit, last_identifier}
use Rattle.ghost_model.specs.core.Split.{cells, are_of_kinds, value_at, asked_value, visible_places, RowValues, replied, meets_tests, replies_from, visible_rows, reply_rows, public_of}
use Rattle.ghost_model.proofs.MeaningLemmas.PartsByFlags.{visible_rows_at}
use Rattle.ghost_model.specs.core.Honest.{fits_frame}
use Rattle.ghost_model.specs.laws.HostLaws.{AreGroups}
use Rattle.ghost_model.specs.core.Replies.{values_in}
use Rattle.ghost_model.proofs.ChannelLemmas.Tests.{false_is_not, BothHold, both_hold, hold_both, take_front, drop_front}
use Rattle.ghost_model.proofs.ChannelLemmas.Asks.{cell_is_read, cell_length}
use Rattle.ghost_model.proofs.SessionLemmas.Accepted.{Each}
use Rattle.ghost_model.proofs.SessionLemmas.Limits.{high_bytes, append_bytes, cell_bytes}
use Rattle.ghost_model.proofs.SessionLemmas.Whole.{shown_part, visible_value, shown_within, there_is}

-- cells of values of their kinds
pub cells_length : (kinds : List Kind) (values : Row) → are_of_kinds kinds values ≡ true → length (cells kinds values) ≡ sum (map cell_width kinds)
cells_length [] [] e = refl
cells_length [] (value ∷ values) e = absurd (false_is_not e)
cells_length (kind ∷ kinds) [] e = absurd (false_is_not e)
cells_length (kind ∷ kinds) (value ∷ values) e =
    let both : BothHold (is_of_kind kind value) (are_of_kinds kinds values) = both_hold _ _ e in
    let one = cell_length kind value both.one in
    let more : sum (map cell_width (kind ∷ kinds)) ≡ cell_width kind + sum (map cell_width kinds) = sum_by-cons (λ (n : ℕ). n) (cell_width kind) (map cell_width kinds) in
    let rest = cells_length kinds values both.other in
    let joined = length-append (encode_cell kind value) (cells kinds values) in
    omega (arith, one, more, rest, joined)

cells_are : (kinds : List Kind) (values : Row) → are_of_kinds kinds values ≡ true → are_cells kinds (cells kinds values) ≡ true
cells_are [] [] e = refl
cells_are [] (value ∷ values) e = absurd (false_is_not e)
cells_are (kind ∷ kinds) [] e = absurd (false_is_not e)
cells_are (kind ∷ kinds) (value ∷ values) e =
    let both : BothHold (is_of_kind kind value) (are_of_kinds kinds values) = both_hold _ _ e in
    let size = cell_length kind value both.one in
    hold_both _ _
    (ap (λ (bytes : List ℕ). is_some (decode_cell kind bytes)) (take_front (cell_width kind) (encode_cell kind value) (cells kinds values) size) ∙ ap (λ (o : Option Value). is_some o) (cell_is_read kind value both.one))
    (ap (λ (bytes : List ℕ). are_cells kinds bytes) (drop_front (cell_width kind) (encode_cell kind value) (cells kinds values) size) ∙ cells_are kinds values both.other)

cells_bytes : (kinds : List Kind) (values : Row) → are_of_kinds kinds values ≡ true → AreBytes (cells kinds values)
cells_bytes [] values e = λ i. lit< tt
cells_bytes (kind ∷ kinds) [] e = λ i. lit< tt
cells_bytes (kind ∷ kinds) (value ∷ values) e =
    let both : BothHold (is_of_kind kind value) (are_of_kinds kinds values) = both_hold _ _ e in
    append_bytes (encode_cell kind value) (cells kinds values) (cell_bytes kind value both.one) (cells_bytes kinds values both.other)

pub cells_back : (kinds : List Kind) (values : Row) → are_of_kinds kinds values ≡ true → values_in kinds (cells kinds values) ≡ values
cells_back [] [] e = refl
cells_back [] (value ∷ values) e = absurd (false_is_not e)
cells_back (kind ∷ kinds) [] e = absurd (false_is_not e)
cells_back (kind ∷ kinds) (value ∷ values) e =
    let both : BothHold (is_of_kind kind value) (are_of_kinds kinds values) = both_hold _ _ e in
    let size = cell_length kind value both.one in
    ap (λ (bytes : List ℕ). option_to_list (decode_cell kind bytes) ++ values_in kinds (drop (cell_width kind) (encode_cell kind value ++ cells kinds values))) (take_front (cell_width kind) (encode_cell kind value) (cells kinds values) size)
    ∙ (ap (λ (o : Option Value). option_to_list o ++ values_in kinds (drop (cell_width kind) (encode_cell kind value ++ cells kinds values))) (cell_is_read kind value both.one)
    ∙ ap (λ (rest : Row). value ∷ rest) (ap (λ (bytes : List ℕ). values_in kinds bytes) (drop_front (cell_width kind) (encode_cell kind value) (cells kinds values) size) ∙ cells_back kinds values both.other))

-- a row of a reply that may be sent
pub record IsSendable (schema : Schema) (ask : Ask) (row : RowCells) : Type 0 where
  pub is_row : IsReplyRow schema ask row
  pub bytes : AreBytes (row_bytes row)

-- a reply's row with values of the kinds that are asked for
pub record IsOfKinds (schema : Schema) (ask : Ask) (row : RowValues) : Type 0 where
  pub fits : row.identifier < 2 ^ 32
  pub kinds : are_of_kinds (kinds_of schema ask) row.values ≡ true

sendable : (schema : Schema) (ask : Ask) (row : RowValues) → IsOfKinds schema ask row → IsSendable schema ask (reply_row schema ask row)
sendable schema ask row is = record {
  is_row = record { identifier = is.fits; width = ap (λ (n : ℕ). 4 + n) (cells_length (kinds_of schema ask) row.values is.kinds) };
  bytes = append_bytes (to_be_bytes w32 row.identifier) (cells (kinds_of schema ask) row.values) (high_bytes 4 row.identifier) (cells_bytes (kinds_of schema ask) row.values is.kinds);
}

pub all_sendable : (schema : Schema) (ask : Ask) (rows : List RowValues) → Each (IsOfKinds schema ask) rows → Each (IsSendable schema ask) (map (reply_row schema ask) rows)
all_sendable schema ask [] e = tt
all_sendable schema ask (row ∷ rows) e = (sendable schema ask row e.0, all_sendable schema ask rows e.1)

-- groups of rows that may be sent
record SplitFits (count last : ℕ) (kinds : List Kind) (one other : List RowCells) : Type 0 where
  front : rows_fit count last kinds one ≡ true
  back : rows_fit count (last_identifier last one) kinds other ≡ true

split_fits : (count last : ℕ) (kinds : List Kind) (one other : List RowCells) → rows_fit count last kinds (one ++ other) ≡ true → SplitFits count last kinds one other
unfolding rows_fit
split_fits count last kinds [] other e = record { front = refl; back = e }
split_fits count last kinds (row ∷ one) other e =
    let both : BothHold (nat_lt last row.identifier && nat_le row.identifier count && are_cells kinds row.cells) (rows_fit count row.identifier kinds (one ++ other)) = both_hold _ _ e in
    let later : SplitFits count row.identifier kinds one other = split_fits count row.identifier kinds one other both.other in
    record { front = hold_both _ _ both.one later.front; back = later.back }

record SplitEach (schema : Schema) (ask : Ask) (one other : List RowCells) : Type 0 where
  front : Each (IsSendable schema ask) one
  back : Each (IsSendable schema ask) other

split_each : (schema : Schema) (ask : Ask) (one other : List RowCells) → Each (IsSendable schema ask) (one ++ other) → SplitEach schema ask one other
split_each schema ask [] other e = record { front = tt; back = e }
split_each schema ask (row ∷ one) other e = let later = split_each schema ask one other e.1 in record { front = (e.0, later.front); back = later.back }

pub all_rows : (schema : Schema) (ask : Ask) (rows : List RowCells) → Each (IsSendable schema ask) rows → All (IsReplyRow schema ask) rows
all_rows schema ask [] e k d less = absurd (omega (arith, less))
all_rows schema ask (row ∷ rows) e zero d less = e.0.is_row
all_rows schema ask (row ∷ rows) e (suc k) d less = all_rows schema ask rows e.1 k d (omega (arith, less))

all_bytes : (schema : Schema) (ask : Ask) (rows : List RowCells) → Each (IsSendable schema ask) rows → AreBytes (flat_map row_bytes rows)
all_bytes schema ask [] e = λ i. lit< tt
all_bytes schema ask (row ∷ rows) e = append_bytes (row_bytes row) (flat_map row_bytes rows) e.0.bytes (all_bytes schema ask rows e.1)

pub are_groups :
    (catalog : Catalog) (ask : Ask) (last : ℕ) (packing : List (List RowCells)) → list_all (fits_frame (row_width catalog.schema ask)) packing ≡ true
    → rows_fit (count_of catalog ask.table) last (kinds_of catalog.schema ask) (flat_map (λ group. group) packing) ≡ true
    → Each (IsSendable catalog.schema ask) (flat_map (λ group. group) packing) → AreGroups catalog ask last packing
are_groups catalog ask last [] fits ascend each = tt
are_groups catalog ask last (group ∷ packing) fits ascend each =
    let both : BothHold (fits_frame (row_width catalog.schema ask) group) (list_all (fits_frame (row_width catalog.schema ask)) packing) = both_hold _ _ fits in
    let frame : BothHold (nat_lt 0 (length group)) (nat_le (row_width catalog.schema ask * length group) most_payload) = both_hold _ _ both.one in
    let size : row_width catalog.schema ask * length group ≤ 2040 = leb-true (row_width catalog.schema ask * length group) 2040 frame.other in
    let turned : row_width catalog.schema ask * length group ≡ length group * row_width catalog.schema ask = mul_comm (row_width catalog.schema ask) (length group) in
    let split = split_fits (count_of catalog ask.table) last (kinds_of catalog.schema ask) group (flat_map (λ g. g) packing) ascend in
    let parts = split_each catalog.schema ask group (flat_map (λ g. g) packing) each in (
      record { some = ltb-true 0 (length group) frame.one; fits = subst (λ (n : ℕ). n ≤ 2040) turned size; ascends = split.front; widths = all_rows catalog.schema ask group parts.front; bytes = all_bytes catalog.schema ask group parts.front },
      are_groups catalog ask (last_identifier last group) packing both.other split.back parts.back,
    )

count_in : (database : Database) (table : ℕ) → slice_index (row_counts database) table ≡ length (rows_of database table)
count_in [] table = refl
count_in (rows ∷ database) zero = refl
count_in (rows ∷ database) (suc table) = count_in database table

pub count_is : (catalog : Catalog) (database : Database) (table : ℕ) → row_counts database ≡ catalog.counts → count_of catalog table ≡ length (rows_of database table)
count_is catalog database table e = ap (λ (counts : List ℕ). slice_index counts table) (sym e) ∙ count_in database table

module _ (schema : Schema) (database : Database) (is : IsDatabase schema database) (asked : Query) (ask : Ask)
    (visible : list_all (is_visible schema ask.table) ask.columns ≡ true) (few : length (rows_of database ask.table) < 2 ^ 32) where
  abbrev shown : Row → Row
  shown = shown_part schema database is asked ask.table

  abbrev shown_places : List ℕ
  shown_places = visible_places schema ask.table

  values_kinds :
      (place : ℕ) (row : Row) (columns : List ℕ) → slice_get (rows_of database ask.table) place ≡ Some row → list_all (is_visible schema ask.table) columns ≡ true
      → are_of_kinds (map (kind_at schema ask.table) columns) (map (asked_value shown_places (shown row)) columns) ≡ true
  values_kinds place row [] h v = refl
  values_kinds place row (column ∷ columns) h v =
      let both : BothHold (is_visible schema ask.table column) (list_all (is_visible schema ask.table) columns) = both_hold _ _ v in
      let seen : BothHold (nat_lt 0 column) (is_shown (column_at schema ask.table column)) = both_hold _ _ both.one in
      let within : column < length (columns_of schema ask.table) = shown_within (columns_of schema ask.table) column seen.other in
      let value = there_is row column (omega (arith, within, is.widths ask.table (suc place) row h)) in
      let declared = there_is (columns_of schema ask.table) column within in
      let found : value_at shown_places (shown row) column ≡ Some value.0 = visible_value schema database is asked ask.table place column row h both.one ∙ value.1 in
      let kind : is_of_kind (kind_at schema ask.table column) value.0 ≡ true =
      ap (λ (o : Option Column). is_of_kind (kind_or_none o) value.0) declared.1
      ∙ is.kinds ask.table (suc place) column value.0 declared.0 (ap (λ (o : Option Row). option_and_then (λ r. slice_get r column) o) h ∙ value.1) declared.1 in
      ap (λ (o : Option Value). are_of_kinds (kind_at schema ask.table column ∷ map (kind_at schema ask.table) columns) (unwrap_or o (Text []) ∷ (map (asked_value shown_places (shown row)) columns))) found
      ∙ hold_both _ _ kind (values_kinds place row columns h both.other)

  record IsGood (last : ℕ) (rows : List RowValues) : Type 0 where
    kinds : Each (IsOfKinds schema ask) rows
    fits : rows_fit (length (rows_of database ask.table)) last (kinds_of schema ask) (map (reply_row schema ask) rows) ≡ true

  good_from :
      (some : Rows) (before last : ℕ) → last ≤ before → before + length some ≤ length (rows_of database ask.table)
      → ((place : ℕ) (row : Row) → slice_get some place ≡ Some row → slice_get (rows_of database ask.table) (before + place) ≡ Some row)
      → IsGood last (replies_from (suc before) shown_places ask (map shown some))
  unfolding replies_from rows_fit
  good_from [] before last low high at = record { kinds = tt; fits = refl }
  good_from (row ∷ some) before last low high at =
      let later : (l : ℕ) → l ≤ suc before → IsGood l (replies_from (suc before + 1) shown_places ask (map shown some)) = λ l h.
      subst (λ (n : ℕ). IsGood l (replies_from n shown_places ask (map shown some))) (omega arith)
      (good_from some (suc before) l h (omega (arith, high))
      (λ place other e. let moved : before + suc place ≡ suc before + place = omega arith in subst (λ (n : ℕ). slice_get (rows_of database ask.table) n ≡ Some other) moved (at (suc place) other e))) in
      let here : slice_get (rows_of database ask.table) before ≡ Some row =
      subst (λ (n : ℕ). slice_get (rows_of database ask.table) n ≡ Some row) (omega arith) (at 0 row refl) in
      let values : are_of_kinds (kinds_of schema ask) (map (asked_value shown_places (shown row)) ask.columns) ≡ true = values_kinds before row ask.columns here visible in
      (elim (meets_tests shown_places ask.tests (shown row)) as (λ v. IsGood last (if v then replied shown_places ask (suc before) (shown row) ∷ replies_from (suc before + 1) shown_places ask (map shown some) else replies_from (suc before + 1) shown_places ask (map shown some))) [
        | true ↦ (let rest = later (suc before) (omega arith) in
            record {
              kinds = (record { fits = omega (arith, high, few); kinds = values }, rest.kinds);
              fits = hold_both _ _
                  (hold_both _ _ (hold_both _ _ (lt-ltb last (suc before) (omega (arith, low))) (le-leb (suc before) (length (rows_of database ask.table)) (omega (arith, high)))) (cells_are (kinds_of schema ask) (map (asked_value shown_places (shown row)) ask.columns) values))
                  rest.fits;
            })
        | false ↦ later last (omega (arith, low))
      ])

  all_good : IsGood 0 (visible_rows schema (public_of schema database) ask)
  all_good =
      subst (λ (rows : Rows). IsGood 0 (replies_from 1 shown_places ask rows)) (sym (visible_rows_at schema database is.tables ask.table))
      (good_from (rows_of database ask.table) 0 0 (omega arith) (omega arith)
      (λ place row e. subst (λ (n : ℕ). slice_get (rows_of database ask.table) n ≡ Some row) (omega arith) e))

  count_from : (some : Rows) (at : ℕ) → length (replies_from at shown_places ask some) ≤ length some
  unfolding replies_from
  count_from [] at = omega arith
  count_from (row ∷ some) at =
      let rest = count_from some (at + 1) in
      (elim (meets_tests shown_places ask.tests row) as (λ v. length (if v then replied shown_places ask at row ∷ replies_from (at + 1) shown_places ask some else replies_from (at + 1) shown_places ask some) ≤ suc (length some)) [ true ↦ omega (arith, rest) | false ↦ omega (arith, rest) ])

  -- the rows of the reply to an ask
  pub record AreRepliable : Type 0 where
    pub kinds : Each (IsOfKinds schema ask) (visible_rows schema (public_of schema database) ask)
    pub ascend : rows_fit (length (rows_of database ask.table)) 0 (kinds_of schema ask) (reply_rows schema (public_of schema database) ask) ≡ true
    pub few_rows : length (reply_rows schema (public_of schema database) ask) < 2 ^ 32

  pub repliable : AreRepliable
  repliable =
      let good = all_good in
      let size = length-map (visible_rows schema (public_of schema database) ask) (reply_row schema ask) in
      let count : length (visible_rows schema (public_of schema database) ask) ≤ length (rows_of database ask.table) =
      subst (λ (rows : Rows). length (replies_from 1 shown_places ask rows) ≤ length (rows_of database ask.table)) (sym (visible_rows_at schema database is.tables ask.table))
      (let few_shown = count_from (map shown (rows_of database ask.table)) 1 in let same = length-map (rows_of database ask.table) shown in omega (arith, few_shown, same)) in
      record { kinds = good.kinds; ascend = good.fits; few_rows = omega (arith, size, count, few) }

-- what is read back of a reply's rows
pub rows_back : (schema : Schema) (ask : Ask) (rows : List RowValues) → Each (IsOfKinds schema ask) rows → map (λ (row : RowCells). record { identifier = row.identifier; values = values_in (kinds_of schema ask) row.cells }) (map (reply_row schema ask) rows) ≡ rows
rows_back schema ask [] e = refl
rows_back schema ask (row ∷ rows) e =
    ap (λ (values : Row). record { identifier = row.identifier; values = values } ∷ map (λ (other : RowCells). record { identifier = other.identifier; values = values_in (kinds_of schema ask) other.cells }) (map (reply_row schema ask) rows)) (cells_back (kinds_of schema ask) row.values e.0.kinds)
    ∙ ap (λ (rest : List RowValues). row ∷ rest) (rows_back schema ask rows e.1)
