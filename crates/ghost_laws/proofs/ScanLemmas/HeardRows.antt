-- The rows that any host replies with: where the payload of a ROWS frame fits its ask, the cells of its rows spell one
-- value for each asked column, of its kind; and so do all rows that came of an ask.
use Rattle.std.proofs.Common.{◌≡◌, ℕ, zero, suc, ◌+◌, ◌*◌, ◌/◌, ◌%◌, ◌<◌, ◌≤◌, Bool, true, false, ◌&&◌, List, [], ◌∷◌, ◌++◌, length, take, drop, sym, ◌∙◌, ap, refl, arith, eqb-true, nat_lt, nat_le, length-append, if◌then◌else◌}
use Rattle.std.specs.Prelude.{◌==◌}
use Rattle.std.specs.List.{list_all}
use Rattle.std.proofs.Math.Nat.{mul-div_cancel, mod-add-div', suc-mul}
use Rattle.std.proofs.lemmas.Bool.{ltb-false}
use Rattle.std.proofs.lemmas.List.{length-take-le, length-drop, take-append-le, drop-append-le}
use Rattle.std.proofs.lemmas.List.Folds.{list_all-append}
use Rattle.ghost_model.specs.core.Schema.{Schema, Kind}
use Rattle.ghost_model.specs.core.Channel.{Ask, Frame, HelloFrame, AskFrame, MoreFrame, ByeFrame, RowsFrame, DoneFrame, SorryFrame}
use Rattle.ghost_model.specs.forms.Frames.{AreBytes, kind_in, size_in, serial_in, payload_in, frame_in, most_payload}
use Rattle.ghost_model.specs.laws.ShortWords.{payload_number}
use Rattle.ghost_model.specs.core.Asks.{kinds_of, row_width, RowCells, row_in, rows_from, rows_in}
use Rattle.ghost_model.specs.core.NextMove.{are_cells, rows_fit, reply_size_fits}
use Rattle.ghost_model.specs.core.Split.{are_of_kinds}
use Rattle.ghost_model.specs.core.Replies.{values_in}
use Rattle.ghost_model.proofs.ChannelLemmas.Tests.{hold_both}
use Rattle.ghost_model.proofs.MeaningLemmas.OneRow.{both_true}
use Rattle.ghost_laws.proofs.ScanLemmas.Cells.{bytes_taken, bytes_dropped, cells_spell}

-- what a frame has that is one of rows
skip : (b : Bool) (one other : Frame) (serial : ℕ) (payload : List ℕ) → (one ≡ RowsFrame serial payload → ⊥)
    → (if b then one else other) ≡ RowsFrame serial payload → other ≡ RowsFrame serial payload
skip true one other serial payload never e = absurd (never e)
skip false one other serial payload never e = e

here : (b : Bool) (number : ℕ) (bytes : List ℕ) (other : Frame) (serial : ℕ) (payload : List ℕ) → (other ≡ RowsFrame serial payload → ⊥)
    → (if b then RowsFrame number bytes else other) ≡ RowsFrame serial payload → (b ≡ true) × (bytes ≡ payload)
here true number bytes other serial payload never e = (refl, payload_same e)
  where
    payload_or : Frame → List ℕ
    payload_or (RowsFrame _ it) = it
    payload_or _ = []

    payload_same : RowsFrame number bytes ≡ RowsFrame serial payload → bytes ≡ payload
    payload_same same = ap payload_or same
here false number bytes other serial payload never e = absurd (never e)

last_no : (b : Bool) (number total code serial : ℕ) (payload : List ℕ) → (if b then DoneFrame number total else SorryFrame number code) ≡ RowsFrame serial payload → ⊥
last_no true number total code serial payload e = cc
last_no false number total code serial payload e = cc

pub replied_in : (part : List ℕ) (serial : ℕ) (payload : List ℕ) → frame_in part ≡ RowsFrame serial payload
    → ((kind_in part == 18) ≡ true) × (payload_in part ≡ payload)
replied_in part serial payload e =
    let kind = kind_in part in
    let a = skip (kind == 1) (HelloFrame (payload_number (payload_in part))) _ serial payload (λ never. cc) e in
    let b = skip (kind == 2) (AskFrame (serial_in part) (payload_in part)) _ serial payload (λ never. cc) a in
    let c = skip (kind == 3) (MoreFrame (serial_in part)) _ serial payload (λ never. cc) b in
    let d = skip (kind == 4) ByeFrame _ serial payload (λ never. cc) c in
    let f = skip (kind == 17) _ _ serial payload (λ never. cc) d in
    here (kind == 18) (serial_in part) (payload_in part) _ serial payload (last_no (kind == 19) _ _ _ serial payload) f

module _ (schema : Schema) (ask : Ask) where
  abbrev kinds : List Kind
  kinds = kinds_of schema ask

  abbrev width : ℕ
  width = row_width schema ask

  -- whether the cells of a row spell a value for each asked column
  abbrev pub is_good : RowCells → Bool
  is_good row = are_of_kinds kinds (values_in kinds row.cells)

  pub record AreRows (bytes : List ℕ) : Type 0 where
    pub count : ℕ
    pub size : length bytes ≡ count * width
    pub good : list_all is_good (rows_from width count bytes) ≡ true

  pub no_rows : AreRows []
  unfolding rows_from
  no_rows = record { count = 0; size = omega arith; good = refl }

  some_width : 0 < width
  some_width = omega arith

  pub all_rows : (bytes : List ℕ) → AreRows bytes → list_all is_good (rows_in schema ask bytes) ≡ true
  all_rows bytes are =
      let many : length bytes / width ≡ are.count = ap (λ n. n / width) are.size ∙ mul-div_cancel are.count some_width in
      ap (λ n. list_all is_good (rows_from width n bytes)) many ∙ are.good

  -- rows that fit are good
  fitting_good : (count : ℕ) (bytes : List ℕ) → AreBytes bytes → (rows last : ℕ) → rows_fit rows last kinds (rows_from width count bytes) ≡ true
      → list_all is_good (rows_from width count bytes) ≡ true
  unfolding rows_from rows_fit
  fitting_good zero bytes h rows last fit = refl
  fitting_good (suc count) bytes h rows last fit =
      let row = row_in (take width bytes) in
      let both = both_true (nat_lt last row.identifier && nat_le row.identifier rows && are_cells kinds row.cells) _ fit in
      let cells = both_true (nat_lt last row.identifier && nat_le row.identifier rows) (are_cells kinds row.cells) both.0 in
      hold_both _ _ (cells_spell kinds row.cells (bytes_dropped 4 (take width bytes) (bytes_taken width bytes h)) cells.1)
      (fitting_good count (drop width bytes) (bytes_dropped width bytes h) rows row.identifier both.1)

  -- rows after rows
  rows_joined : (count more : ℕ) (bytes others : List ℕ) → length bytes ≡ count * width
      → rows_from width (count + more) (bytes ++ others) ≡ rows_from width count bytes ++ rows_from width more others
  unfolding rows_from
  rows_joined zero more [] others size = let none : 0 + more ≡ more = omega arith in ap (λ n. rows_from width n others) none
  rows_joined zero more (byte ∷ bytes) others size = let bad : ⊥ = omega (arith, size) in absurd bad
  rows_joined (suc count) more bytes others size =
      let next : suc count + more ≡ suc (count + more) = omega arith in
      let product = suc-mul count width in
      let enough : width ≤ length bytes = omega (arith, size, product) in
      let dropped = length-drop width bytes in
      let rest : length (drop width bytes) ≡ count * width = omega (arith, size, product, dropped) in
      ap (λ n. rows_from width n (bytes ++ others)) next
      ∙ ap (λ (taken : List ℕ). row_in taken ∷ rows_from width (count + more) (drop width (bytes ++ others))) (take-append-le width bytes others enough)
      ∙ ap (λ (left : List ℕ). row_in (take width bytes) ∷ rows_from width (count + more) left) (drop-append-le width bytes others enough)
      ∙ ap (λ (rows : List RowCells). row_in (take width bytes) ∷ rows) (rows_joined count more (drop width bytes) others rest)

  -- the rows of a frame that fits, after rows that came
  pub rows_more : (bytes payload : List ℕ) → AreRows bytes → AreBytes payload → length payload % width ≡ 0
      → (rows last : ℕ) → rows_fit rows last kinds (rows_in schema ask payload) ≡ true → AreRows (bytes ++ payload)
  rows_more bytes payload are h whole rows last fit =
      let more = length payload / width in
      let divided = mod-add-div' (length payload) width in
      let size : length payload ≡ more * width = omega (arith, divided, whole) in
      let both = length-append bytes payload in
      record {
        count = are.count + more;
        size = both ∙ ap (λ n. n + length payload) are.size ∙ ap (λ n. are.count * width + n) size ∙ sym (spread are.count more width);
        good =
            ap (list_all is_good) (rows_joined are.count more bytes payload are.size)
            ∙ list_all-append is_good (rows_from width are.count bytes) (rows_from width more payload)
            ∙ hold_both _ _ are.good (fitting_good more payload h rows last fit);
      }
    where
      spread : (a b c : ℕ) → (a + b) * c ≡ a * c + b * c
      spread a b c = grind arith

  -- a payload that the header names
  pub payload_whole : (part : List ℕ) → nat_lt (length part) (8 + size_in part) ≡ false → length (payload_in part) ≡ size_in part
  payload_whole part h =
      let enough = ltb-false (length part) (8 + size_in part) h in
      let dropped = length-drop 8 part in
      length-take-le (size_in part) (drop 8 part) (omega (arith, enough, dropped))

  pub size_whole : (part : List ℕ) → (kind_in part == 18) ≡ true → reply_size_fits width (kind_in part) (size_in part) ≡ true → size_in part % width ≡ 0
  size_whole part kind fits =
      let rows : (nat_lt 0 (size_in part) && size_in part % width == 0 && nat_le (size_in part) most_payload) ≡ true =
      sym (ap (λ v. if v then nat_lt 0 (size_in part) && size_in part % width == 0 && nat_le (size_in part) most_payload else if kind_in part == 19 then size_in part == 4 else kind_in part == 20 && size_in part == 1) kind) ∙ fits in
      let both = both_true (nat_lt 0 (size_in part) && size_in part % width == 0) (nat_le (size_in part) most_payload) rows in
      let divides = both_true (nat_lt 0 (size_in part)) (size_in part % width == 0) both.0 in
      eqb-true (size_in part % width) 0 divides.1
