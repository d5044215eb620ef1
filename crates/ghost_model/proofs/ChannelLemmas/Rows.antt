-- Lemmas on the bytes of a reply's rows.
use Rattle.std.proofs.Common.{◌≡◌, ℕ, zero, suc, ◌+◌, ◌*◌, ◌/◌, ◌%◌, ◌<◌, ◌≤◌, ◌^◌, List, [], ◌∷◌, ◌++◌, length, take, drop, sym, ◌∙◌, ap, refl, arith, length-append, w32}
use Rattle.std.specs.Prelude.{flat_map, All}
use Rattle.std.specs.Int.{to_be_bytes, from_be_bytes}
use Rattle.std.proofs.Math.Nat.{mul-suc, suc-mul, div-add-mod}
use Rattle.std.proofs.lemmas.List.{nil_from_length, length-take-le, length-drop, take-append-drop}
use Rattle.std.proofs.lemmas.Nat.{from_be_bytes-to_be_bytes_4, be_bytes_4, div-mul-add}
use Rattle.ghost_model.specs.core.Schema.{Schema}
use Rattle.ghost_model.specs.core.Channel.{Ask}
use Rattle.ghost_model.specs.forms.Frames.{AreBytes}
use Rattle.ghost_model.specs.core.Asks.{RowCells, row_bytes, row_in, rows_from, rows_in, row_width}
use Rattle.ghost_model.specs.laws.ChannelLaws.{IsReplyRow}
use Rattle.ghost_model.proofs.ChannelLemmas.{bytes_take, bytes_drop}
use Rattle.ghost_model.proofs.ChannelLemmas.Tests.{take_front, drop_front}

abbrev row_of : ℕ → List ℕ → RowCells
row_of identifier cells = record { identifier = identifier; cells = cells }

row_is_read : (row : RowCells) → row.identifier < 2 ^ 32 → row_in (row_bytes row) ≡ row
row_is_read row h = ap (λ (n : ℕ). row_of n row.cells) (from_be_bytes-to_be_bytes_4 row.identifier h)

row_is_spelled : (bytes : List ℕ) → 4 ≤ length bytes → AreBytes bytes → row_bytes (row_in bytes) ≡ bytes
row_is_spelled bytes m h =
    let four : to_be_bytes w32 (from_be_bytes w32 (take 4 bytes)) ≡ take 4 bytes =
    be_bytes_4 (take 4 bytes) (from_be_bytes w32 (take 4 bytes)) (length-take-le 4 bytes m) (bytes_take 4 bytes h) refl in
    ap (λ (xs : List ℕ). xs ++ drop 4 bytes) four ∙ take-append-drop 4 bytes

cons_rows : (a b : RowCells) (cs ds : List RowCells) → a ≡ b → cs ≡ ds → a ∷ cs ≡ b ∷ ds
cons_rows a b cs ds p q = cc

module _ (schema : Schema) (ask : Ask) where
  row_length : (row : RowCells) → IsReplyRow schema ask row → length (row_bytes row) ≡ row_width schema ask
  row_length row h = omega (arith, h.width)

  pub rows_length : (rows : List RowCells) → All (IsReplyRow schema ask) rows → length (flat_map row_bytes rows) ≡ length rows * row_width schema ask
  rows_length [] all = omega arith
  rows_length (row ∷ rows) all =
      let split : length (flat_map row_bytes (row ∷ rows)) ≡ length (row_bytes row) + length (flat_map row_bytes rows) = length-append (row_bytes row) (flat_map row_bytes rows) in
      let one : length (row_bytes row) ≡ row_width schema ask = row_length row (all 0 row (omega arith)) in
      let more : length (flat_map row_bytes rows) ≡ length rows * row_width schema ask = rows_length rows (λ k d less. all (suc k) d (omega (arith, less))) in
      split ∙ (ap (λ (n : ℕ). n + length (flat_map row_bytes rows)) one
      ∙ (ap (λ (n : ℕ). row_width schema ask + n) more ∙ omega (arith, suc-mul (length rows) (row_width schema ask))))

  rows_back : (rows : List RowCells) → All (IsReplyRow schema ask) rows → rows_from (row_width schema ask) (length rows) (flat_map row_bytes rows) ≡ rows
  unfolding rows_from
  rows_back [] all = refl
  rows_back (row ∷ rows) all =
      let here : IsReplyRow schema ask row = all 0 row (omega arith) in
      let size : length (row_bytes row) ≡ row_width schema ask = row_length row here in
      cons_rows _ row _ rows
      (ap row_in (take_front (row_width schema ask) (row_bytes row) (flat_map row_bytes rows) size) ∙ row_is_read row here.identifier)
      (ap (λ (bs : List ℕ). rows_from (row_width schema ask) (length rows) bs) (drop_front (row_width schema ask) (row_bytes row) (flat_map row_bytes rows) size)
      ∙ rows_back rows (λ k d less. all (suc k) d (omega (arith, less))))

  pub spelled_rows_are_read : (rows : List RowCells) → All (IsReplyRow schema ask) rows → rows_in schema ask (flat_map row_bytes rows) ≡ rows
  spelled_rows_are_read rows all =
      let width : ℕ = row_width schema ask in
      let size : length (flat_map row_bytes rows) ≡ length rows * row_width schema ask + 0 = omega (arith, rows_length rows all) in
      let count : length (flat_map row_bytes rows) / row_width schema ask ≡ length rows =
      ap (λ (n : ℕ). n / row_width schema ask) size ∙ div-mul-add (length rows) (row_width schema ask) 0 (omega arith) in
      ap (λ (n : ℕ). rows_from (row_width schema ask) n (flat_map row_bytes rows)) count ∙ rows_back rows all

bytes_back : (width count : ℕ) (bytes : List ℕ) → 4 ≤ width → length bytes ≡ width * count → AreBytes bytes → flat_map row_bytes (rows_from width count bytes) ≡ bytes
unfolding rows_from
bytes_back width zero bytes m e h = sym (nil_from_length bytes (omega (arith, e)))
bytes_back width (suc count) bytes m e h =
    let size : length bytes ≡ width * count + width = e ∙ mul-suc width count in
    let front : length (take width bytes) ≡ width = length-take-le width bytes (omega (arith, size)) in
    let back : length (drop width bytes) ≡ width * count = omega (arith, length-drop width bytes, size) in
    ap (λ (xs : List ℕ). xs ++ flat_map row_bytes (rows_from width count (drop width bytes)))
    (row_is_spelled (take width bytes) (omega (arith, front, m)) (bytes_take width bytes h))
    ∙ (ap (λ (xs : List ℕ). take width bytes ++ xs) (bytes_back width count (drop width bytes) m back (bytes_drop width bytes h))
    ∙ take-append-drop width bytes)

pub read_rows_are_spelled : (schema : Schema) (ask : Ask) (payload : List ℕ) → AreBytes payload → length payload % row_width schema ask ≡ 0 → flat_map row_bytes (rows_in schema ask payload) ≡ payload
read_rows_are_spelled schema ask payload h e =
    let parts = div-add-mod (length payload) (row_width schema ask) in
    bytes_back (row_width schema ask) (length payload / row_width schema ask) payload (omega arith) (omega (arith, parts, e)) h
