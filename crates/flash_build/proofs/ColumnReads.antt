-- A column file that was read, in the words of its catalog; and the columns of a table, one after another.
use Rattle.std.proofs.Common.{◌≡◌, refl, ap, sym, ◌∙◌, subst, ℕ, ◌+◌, ◌-◌, ◌^◌, ◌<◌, ◌≤◌, Bool, true, false, cond, List, [], ◌∷◌, length, length-append, Some, slice_get, is_some, inl, inr, arith}
use Rattle.std.specs.Prelude.{IsTrue}
use Rattle.std.proofs.lemmas.Bool.{cases_lt}
use Rattle.std.proofs.lemmas.Option.{slice_get_within}
use Rattle.ghost_model.specs.core.Schema.{Schema}
use Rattle.ghost_model.specs.core.Values.{Value}
use Rattle.ghost_model.specs.core.Channel.{Catalog}
use Rattle.ghost_model.specs.core.Database.{is_of_kind}
use Rattle.ghost_model.specs.core.Asks.{kind_at}
use Rattle.ghost_model.specs.forms.Runs.{Run, page_of, slot_of, record_at, found_in}
use Rattle.ghost_model.specs.forms.Layout.{is_hidden, count_of, static_end, need, Cells, column_file}
use Rattle.ghost_model.specs.forms.Slots.{child_rows, is_in_range, spelled, IsDamagedIn, may_stand, in_slot}
use Rattle.ghost_model.specs.laws.FlashLaws.{hidden_before}
use Rattle.ghost_model.specs.laws.LayoutLaws.{RecordsStandWithin, StandWithin}
use Rattle.ghost_model.specs.laws.LayoutSums.{column_pages}
use Rattle.ghost_model.proofs.LayoutLemmas.Order.{sum_next, sums_rise}
use Rattle.edge_traits.specs.Devices.{Device}
use Rattle.flash_pages.specs.Reads.{WasRead}
use Rattle.flash_pages.specs.Runs.{HasRun}
use Rattle.ghost_base.specs.Runs.{run_of}
use Rattle.flash_layout.specs.Limits.{HasLayout}
use Rattle.hidden_columns.specs.declared.file.ColumnFile.{ColumnFile}
use Rattle.hidden_columns.specs.Files.{IsFileOf, IsReadable, HasNoValue, BlamesSlot, slot_value, slot_bytes, value_spelled, slot_page}
use Rattle.hidden_columns.specs.Laws.{value_on}
use Rattle.flash_build.specs.declared.faults.ReadFault.{ReadFault}
use Rattle.flash_build.specs.declared.faults.ReadFault.TheVariants as fault
use Rattle.flash_build.specs.Reading.{BlamesRow, Stands}
use Rattle.flash_build.specs.ReadColumns.{AddsRows, AddsHidden, AddsColumn, IsColumnRead, AreColumnsRead, IsDamagedCell, DamagesRows, DamagesColumn, DamagesTable}
use Rattle.flash_build.proofs.TableFiles.{pages_of_file}
use Rattle.flash_build.proofs.CellReads.{last_or_before, within_some, is_some_of}

-- a device with the static part has the run of each hidden column
has_static : (cat : Catalog) (table column : ℕ) (device : Device) → HasLayout cat → RecordsStandWithin
    → is_hidden cat.schema table column ≡ true → static_end cat ≤ device.page_count → device.page_count < 2 ^ 32
    → HasRun device (column_file cat table column)
has_static cat table column device laid stand h enough small =
    let most = laid.narrow.most table column in
    let least = laid.narrow.least table column h in
    let within : StandWithin (column_file cat table column) = stand (column_file cat table column) least (omega (arith, most)) in
    let end = laid.order.within table column h in
    let static = laid.order.static in
    record {
      some = least;
      fits = omega (arith, most);
      pages = λ i low. let here = within.page i low in omega (arith, here, end, static, enough);
      small = small;
    }

pub readable_there : (cat : Catalog) (table column : ℕ) (device : Device) (file : ColumnFile) → HasLayout cat → RecordsStandWithin
    → is_hidden cat.schema table column ≡ true → static_end cat ≤ device.page_count → device.page_count < 2 ^ 32
    → IsFileOf cat table column file
    → ((other : Device) → need cat ≤ other.page_count → other.page_count < 2 ^ 32 → IsReadable other file) → IsReadable device file
readable_there cat table column device file laid stand h enough small is readable =
    let few = laid.few.need in
    let whole : IsReadable (record device { page_count = need cat }) file = readable (record device { page_count = need cat }) (omega arith) (omega (arith, few)) in
    record {
      has = subst (λ (r : Run). HasRun device r) (sym is.run_is) (has_static cat table column device laid stand h enough small);
      wide = whole.wide;
      narrow = whole.narrow;
      plain = whole.plain;
    }

module _ (cat : Catalog) (table column : ℕ) (file : ColumnFile) (is : IsFileOf cat table column file) where
  -- how many rows it has
  pub rows_of_file : file.run.count ≡ count_of cat table
  rows_of_file = ap (λ (r : Run). r.count) is.run_is

  spelled_as : (bytes : List ℕ) → spelled (kind_at cat.schema table column) (child_rows cat table column) bytes ≡ value_spelled file bytes
  spelled_as bytes = λ i. spelled (sym is.kind_is i) (sym is.range_is i) bytes

  value_as : (page : ℕ → List ℕ) (place : ℕ) → slot_value page file (place + 1) ≡ spelled (kind_at cat.schema table column) (child_rows cat table column) (record_at page (column_file cat table column) place)
  value_as page place =
      let e : place + 1 - 1 ≡ place = omega arith in
      ap (λ n. value_spelled file (record_at page (run_of file.run) n)) e
      ∙ (λ i. spelled (is.kind_is i) (is.range_is i) (record_at page (is.run_is i) place))

  bytes_as : (page : ℕ → List ℕ) (place : ℕ) → slot_bytes page file (place + 1) ≡ record_at page (column_file cat table column) place
  bytes_as page place =
      let e : place + 1 - 1 ≡ place = omega arith in
      ap (λ n. record_at page (run_of file.run) n) e ∙ ap (λ (r : Run). record_at page r place) is.run_is

  -- the values of its rows
  pub column_read : {told : Bool} {page : ℕ → List ℕ} {values : List Value} → AddsRows told page file 0 file.run.count [] values → IsColumnRead told page cat table column values
  column_read {told = told} {page = page} {values = values} rows =
      let same : values ≡ rows.more = rows.added in
      let P : (place : ℕ) (value : Value) → slice_get values place ≡ Some value → slice_get rows.more place ≡ Some value =
      λ place value e. ap (λ (vs : List Value). slice_get vs place) (sym same) ∙ e in
      record {
        long = let many = rows.many in let size = ap (λ (vs : List Value). length vs) same in omega (arith, many, size, rows_of_file);
        kinds = λ place value e. subst (λ k. IsTrue (is_of_kind k value)) is.kind_is (rows.column place value (P place value e)).kind;
        ranges = λ place value e. subst (λ r. IsTrue (is_in_range r value)) is.range_is (rows.column place value (P place value e)).range;
        spelled = λ is_told place value e.
            let here : 0 + place + 1 ≡ place + 1 = omega arith in
            let back : place + 1 - 1 ≡ place = omega arith in
            ap (λ n. spelled (kind_at cat.schema table column) (child_rows cat table column) (record_at page (column_file cat table column) n)) back
            ∙ (sym (value_as page place) ∙ (ap (λ n. slot_value page file n) (sym here) ∙ rows.spelled is_told place value (P place value e)));
      }

  blames_as : {since : ℕ} {device : Device} {place number slot found : ℕ} → place < file.run.count → BlamesSlot since device file (place + 1) number slot found
      → BlamesRow since device cat table column place number slot found
  blames_as {since = since} {device = device} {place = place} within blames =
      let e : place + 1 - 1 ≡ place = omega arith in
      record {
        within = omega (arith, within, rows_of_file);
        page_is = blames.page_is ∙ (ap (λ n. page_of (run_of file.run) n) e ∙ ap (λ (r : Run). page_of r place) is.run_is);
        slot_is = blames.slot_is ∙ (ap (λ n. slot_of (run_of file.run) n) e ∙ ap (λ (r : Run). slot_of r place) is.run_is);
        bytes = blames.bytes;
        read = subst (λ (r : Run). WasRead since device r place blames.bytes) is.run_is (subst (λ n. WasRead since device (run_of file.run) n blames.bytes) e blames.read);
        wide = blames.wide ∙ ap (λ (r : Run). r.width) is.run_is;
        no_value = spelled_as blames.bytes ∙ blames.no_value;
        found_is = blames.found_is;
      }

  damaged_as : {page : ℕ → List ℕ} {place number slot found : ℕ} → is_hidden cat.schema table column ≡ true → place < count_of cat table
      → number ≡ page_of (column_file cat table column) place → slot ≡ slot_of (column_file cat table column) place
      → HasNoValue page file (place + 1) found → IsDamagedIn cat page (Cells table column) place number slot found
  damaged_as {page = page} {place = place} h within number slot none = record {
    has = h;
    within = within;
    page_is = number;
    slot_is = slot;
    damaged = inl (ap is_some (sym (value_as page place) ∙ none.no_value));
    found_is = none.found_is ∙ ap found_in (bytes_as page place);
  }

  pub column_damaged : (told : Bool) (since : ℕ) (page : ℕ → List ℕ) (device : Device) (e : ReadFault) → is_hidden cat.schema table column ≡ true
      → DamagesRows told since page device file 0 e → DamagesColumn told since page device cat table column e
  column_damaged told since page device fault.NoMemory h damaged = tt
  column_damaged told since page device fault.Flash h damaged = tt
  column_damaged told since page device (fault.Damaged number slot found) h damaged =
      let blames = blames_as damaged.within damaged.damaged.blames in
      record {
        place = damaged.place;
        at = record {
          hidden = h;
          blames = blames;
          damaged = λ is_told. damaged_as h blames.within blames.page_is blames.slot_is (damaged.damaged.stands is_told);
          rows = λ is_told row low there within. ap is_some (sym (value_as page row)) ∙ damaged.before is_told row (omega arith) low;
        };
      }

-- the calls for a column are at most its file's pages
pub column_calls : (cat : Catalog) (table column : ℕ) (file : ColumnFile) (before now : ℕ) → HasLayout cat → RecordsStandWithin → is_hidden cat.schema table column ≡ true
    → IsFileOf cat table column file → (0 ≡ file.run.count → now ≡ before)
    → (0 < file.run.count → now + slot_page file (0 + 1) ≤ before + (slot_page file file.run.count + 1)) → now ≤ before + column_pages cat table column
column_calls cat table column file before now laid stand h is none some =
    let most = laid.narrow.most table column in
    let least = laid.narrow.least table column h in
    let within : StandWithin (column_file cat table column) = stand (column_file cat table column) least (omega (arith, most)) in
    let pages = pages_of_file cat table column h in
    let run = is.run_is in
    elim (cases_lt 0 file.run.count) [
      | inl more ↦
          let many = ap (λ (r : Run). r.count) run in
          let here = some more in
          let last = ap (λ (r : Run). page_of r (file.run.count - 1)) run in
          let first = ap (λ (r : Run). r.first) run in
          let low = within.page (file.run.count - 1) (omega (arith, more, many)) in
          omega (arith, here, last, first, low, pages)
      | inr not_more ↦ (let same = none (omega (arith, not_more)) in omega (arith, same))
    ]

-- how many hidden columns there are before one
before_next : (schema : Schema) (table column : ℕ) → hidden_before schema table (column + 1) ≡ hidden_before schema table column + cond (is_hidden schema table column) 1 0
before_next schema table column = sum_next (λ k. cond (is_hidden schema table k) 1 0) column

before_rise : (schema : Schema) (table column later : ℕ) → column ≤ later → hidden_before schema table column ≤ hidden_before schema table later
before_rise schema table column later low = sums_rise (λ k. cond (is_hidden schema table k) 1 0) column later low

pub before_less : (schema : Schema) (table column later : ℕ) → is_hidden schema table column ≡ true → column < later → hidden_before schema table column < hidden_before schema table later
before_less schema table column later h less =
    let next = before_next schema table column in
    let one = ap {B = ℕ} (λ b. cond b 1 0) h in
    let rise = before_rise schema table (column + 1) later (omega (arith, less)) in
    omega (arith, next, one, rise)

none_more : {told : Bool} {page : ℕ → List ℕ} {cat : Catalog} {table done : ℕ} {columns now : List (List Value)} → is_hidden cat.schema table done ≡ false
    → now ≡ columns → AreColumnsRead told page cat table done columns → AreColumnsRead told page cat table (done + 1) now
none_more {told = told} {page = page} {cat = cat} {table = table} {done = done} {columns = columns} h same are =
    subst (λ (now : List (List Value)). AreColumnsRead told page cat table (done + 1) now) (sym same)
    (record {
      many = let next = before_next cat.schema table done in let none = ap {B = ℕ} (λ b. cond b 1 0) h in let many = are.many in omega (arith, next, none, many);
      long = are.long;
      each = λ column values low hidden e.
          elim (cases_lt column done) [
            | inl less ↦ are.each column values less hidden e
            | inr more ↦
                let here : column ≡ done = omega (arith, low, more) in
                let is_done : is_hidden cat.schema table column ≡ false = ap (is_hidden cat.schema table) here ∙ h in
                absurd (cc (is_done, hidden))
          ];
    })

one_more : {told : Bool} {page : ℕ → List ℕ} {cat : Catalog} {table done : ℕ} {columns now : List (List Value)} → is_hidden cat.schema table done ≡ true
    → AddsHidden told page cat table done columns now → AreColumnsRead told page cat table done columns → AreColumnsRead told page cat table (done + 1) now
one_more {told = told} {page = page} {cat = cat} {table = table} {done = done} {columns = columns} h adds are =
    subst (λ (now : List (List Value)). AreColumnsRead told page cat table (done + 1) now) (sym adds.added)
    (record {
      many =
          let next = before_next cat.schema table done in
          let one = ap {B = ℕ} (λ b. cond b 1 0) h in
          let many = are.many in
          let size = length-append columns (adds.values ∷ []) in
          omega (arith, next, one, many, size);
      long = λ at values e.
          elim (last_or_before columns adds.values at values e) [
            | inl old ↦ are.long at values old
            | inr new ↦ ap (λ (vs : List Value). length vs) (sym new.1) ∙ adds.read.long
          ];
      each = λ column values low hidden e.
          let many = are.many in
          elim (last_or_before columns adds.values (hidden_before cat.schema table column) values e) [
            | inl old ↦
                (let within = slice_get_within columns (hidden_before cat.schema table column) values old in
                elim (cases_lt column done) [
                  | inl less ↦ are.each column values less hidden old
                  | inr more ↦
                      let here : column ≡ done = omega (arith, low, more) in
                      let same = ap (hidden_before cat.schema table) here in
                      absurd (omega (arith, within, many, same))
                ])
            | inr new ↦
                (elim (cases_lt column done) [
                  | inl less ↦
                      let below = before_less cat.schema table column done hidden less in
                      absurd (omega (arith, below, many, new.0))
                  | inr more ↦
                      let here : done ≡ column = omega (arith, low, more) in
                      subst (λ (vs : List Value). IsColumnRead told page cat table column vs) new.1
                      (subst (λ k. IsColumnRead told page cat table k adds.values) here adds.read)
                ])
          ];
    })

pub column_more : {told : Bool} {page later : ℕ → List ℕ} {cat : Catalog} {table done : ℕ} {columns now : List (List Value)} → later ≡ page
    → AreColumnsRead told page cat table done columns → AddsColumn told later cat table done columns now → AreColumnsRead told page cat table (done + 1) now
column_more {told = told} {page = page} {later = later} {cat = cat} {table = table} {done = done} {columns = columns} {now = now} same are adds =
    let here : AddsColumn told page cat table done columns now = subst (λ p. AddsColumn told p cat table done columns now) same adds in
    by_flag (is_hidden cat.schema table done) refl (λ h. none_more h (here.none h) are) (λ h. one_more h (here.one h) are)
  where
    by_flag : {P : Type 0} (b : Bool) → is_hidden cat.schema table done ≡ b → (is_hidden cat.schema table done ≡ false → P) → (is_hidden cat.schema table done ≡ true → P) → P
    by_flag true e without held = held e
    by_flag false e without held = without e

-- the values of a hidden column of those
pub record HasColumn (told : Bool) (page : ℕ → List ℕ) (cat : Catalog) (table column : ℕ) (columns : List (List Value)) : Type 0 where
  pub values : List Value
  pub there : slice_get columns (hidden_before cat.schema table column) ≡ Some values
  pub read : IsColumnRead told page cat table column values

pub has_column : {told : Bool} {page : ℕ → List ℕ} {cat : Catalog} {table done : ℕ} {columns : List (List Value)} → AreColumnsRead told page cat table done columns
    → (column : ℕ) → column < done → is_hidden cat.schema table column ≡ true → HasColumn told page cat table column columns
has_column {cat = cat} {table = table} {done = done} {columns = columns} are column low h =
    let many = are.many in
    let less = before_less cat.schema table column done h low in
    let found = within_some columns (hidden_before cat.schema table column) (omega (arith, many, less)) in
    record { values = found.0; there = found.1; read = are.each column found.0 low h found.1 }

-- the slots of columns that were read spell values
pub column_stands : {told : Bool} {page : ℕ → List ℕ} {cat : Catalog} {table column : ℕ} {values : List Value} → IsColumnRead told page cat table column values
    → told ≡ true → (row : ℕ) → Stands page cat table column row
column_stands {page = page} {cat = cat} {table = table} {column = column} {values = values} read is_told row h within =
    let long = read.long in
    let at = within_some values row (omega (arith, long, within)) in
    let back : row ≡ row + 1 - 1 = omega arith in
    let here : may_stand cat (Cells table column) (in_slot page cat (Cells table column) row) ≡ is_some (value_on page cat table column (row + 1)) =
    ap (λ n. is_some (spelled (kind_at cat.schema table column) (child_rows cat table column) (record_at page (column_file cat table column) n))) back in
    here ∙ is_some_of (value_on page cat table column (row + 1)) at.0 (read.spelled is_told row at.0 at.1)

pub columns_stand : {told : Bool} {page : ℕ → List ℕ} {cat : Catalog} {table done : ℕ} {columns : List (List Value)} → AreColumnsRead told page cat table done columns
    → told ≡ true → (column row : ℕ) → column < done → Stands page cat table column row
columns_stand are is_told column row low h within = column_stands (has_column are column low h).read is_told row h within

pub table_damaged : (since : ℕ) (device : Device) {told : Bool} {page later : ℕ → List ℕ} {cat : Catalog} {table column : ℕ} {columns : List (List Value)} (e : ReadFault) → later ≡ page
    → AreColumnsRead told page cat table column columns → DamagesColumn told since later device cat table column e → DamagesTable told since page device cat table e
table_damaged since device fault.NoMemory same are damaged = tt
table_damaged since device fault.Flash same are damaged = tt
table_damaged since device {told = told} {cat = cat} {table = table} {column = column} (fault.Damaged number slot found) same are damaged = record {
  column = column;
  place = damaged.place;
  at = subst (λ p. IsDamagedCell told since p device cat table column damaged.place number slot found) same damaged.at;
  columns = λ is_told other row low. columns_stand are is_told other row low;
}
