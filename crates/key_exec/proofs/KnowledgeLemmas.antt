-- What is known of the pages, and what of it stays.
use Rattle.std.proofs.Common.{◌≡◌, ◌∙◌, inl, inr, ◌≤◌, ◌<◌, ◌+◌, ◌-◌, ℕ, Bool, true, false, not, List, [], ◌∷◌, length, if◌then◌else◌, ap, sym, refl, arith, is_some}
use Rattle.ghost_model.specs.core.Schema.{is_empty}
use Rattle.ghost_model.specs.core.Values.{Database}
use Rattle.ghost_model.specs.core.Channel.{Catalog}
use Rattle.ghost_model.specs.core.Query.{Query}
use Rattle.visible_spool.specs.declared.half.Half.{Half}
use Rattle.ghost_model.specs.core.Asks.{kind_at}
use Rattle.ghost_model.specs.forms.Runs.{Run, Stores, page_of, record_at, run_end, run_pages, found_in}
use Rattle.ghost_model.specs.forms.Layout.{is_hidden, count_of, width_at, descendants_of, static_end, files_end, Cells, column_file, subtree_table}
use Rattle.ghost_model.specs.forms.Slots.{child_rows, spelled, may_stand, IsWrong, in_slot}
use Rattle.ghost_model.specs.laws.SchemaTrees.{IsTree}
use Rattle.ghost_model.specs.forms.Catalog.{IsCatalog}
use Rattle.ghost_model.specs.laws.LayoutLaws.{LayoutIsSmall, FilesLieInOrder, RecordsStandWithin, FilesLieAsSummed}
use Rattle.ghost_model.specs.laws.LayoutSums as sums
use Rattle.flash_pages.proofs.RunFrames.{record_kept, stores_kept}
use Rattle.hidden_columns.specs.Laws.{ColumnsGiveValues}
use Rattle.leakless_plan.specs.declared.plan.Plan.{Plan}
use Rattle.leakless_plan.specs.declared.plan.Plan.TheVariants as plans
use Rattle.ghost_model.specs.core.Database.{IsDatabase, row_counts}
use Rattle.ghost_model.specs.core.Split.{hidden_of}
use Rattle.ghost_model.specs.forms.Flash.{HoldsFiles}
use Rattle.ghost_model.specs.laws.FlashLaws.{HoldingsAreKept}
use Rattle.climbing_index.specs.Laws.{IsOf}
use Rattle.candidate_gathering.specs.known.Laws.{HeldFilesAreKnown, KnowledgeStays}
use Rattle.key_exec.specs.Plans.{by_indexes}
use Rattle.key_exec.specs.Reading.{Knows, KnowsBut, KnowsBy, KnowsButBy}
use Rattle.key_exec.specs.Blaming.{IsDamaged, IsDamagedInScan}
use Rattle.key_exec.specs.Laws.{KeepsStatic}

-- ---- columns that are held

-- a column that is held is so but for damaged slots
pub held_but :
    ColumnsGiveValues → (told : Bool) (page : ℕ → List ℕ) (cat : Catalog) (database : Database) → IsTree cat.schema → Knows told page cat database
    → KnowsBut told page cat database
held_but columns told page cat database tree knows = record {
  is_told = knows.is_told;
  is = knows.is;
  counts = knows.counts;
  columns = λ table column hidden identifier some within value on.
      let has = columns page cat database tree knows.is knows.counts knows.columns table column hidden identifier some within in
      has.of_hidden ∙ sym has.on_pages ∙ on;
}

not_both : (b : Bool) → b ≡ true → b ≡ false → ⊥
not_both b is isnt = true_false (sym is ∙ isnt)
  where
    true_false : true ≡ false → ⊥
    true_false e = cc

-- and no slot is damaged; cells of a column keep no order
no_damaged :
    (page : ℕ → List ℕ) (cat : Catalog) (table column place : ℕ)
    → may_stand cat (Cells table column) (in_slot page cat (Cells table column) place) ≡ true
    → IsWrong page cat (Cells table column) place → ⊥
no_damaged page cat table column place may (inl not) = not_both (may_stand cat (Cells table column) (in_slot page cat (Cells table column) place)) may not
no_damaged page cat table column place may (inr out) = not_both true refl out

no_scan_damage :
    ColumnsGiveValues → (told : Bool) (page : ℕ → List ℕ) (cat : Catalog) (asked : Query) (top side : ℕ) (half : Half) (database : Database) (number slot found : ℕ) → IsTree cat.schema
    → Knows told page cat database → IsDamagedInScan told page cat asked top side half number slot found → ⊥
no_scan_damage columns told page cat asked top side half database number slot found tree knows (inl is) =
    let cell = is.cell in
    let at = cell.stands knows.is_told in
    let has = columns page cat database tree knows.is knows.counts knows.columns is.table is.column cell.hidden (cell.place + 1) (omega arith) (omega (arith, cell.within)) in
    let same : cell.place + 1 - 1 ≡ cell.place = omega arith in
    no_damaged page cat is.table is.column cell.place
    (ap is_some (ap (λ place. spelled (kind_at cat.schema is.table is.column) (child_rows cat is.table is.column) (record_at page (column_file cat is.table is.column) place)) (sym same) ∙ has.on_pages))
    at.damaged
no_scan_damage columns told page cat asked top side half database number slot found tree knows (inr is) = not_both told knows.is_told is.row.untold

-- ---- by either plan

-- pages that hold all files
database_is : (told : Bool) (page : ℕ → List ℕ) (cat : Catalog) (database : Database) → KnowsBy by_indexes told page cat database → IsOf cat database
database_is told page cat database knows = record { proper = knows.1.proper; is = knows.0.is; counts = knows.0.counts }

pub held_but_by :
    ColumnsGiveValues → HeldFilesAreKnown → (by : Plan) (told : Bool) (page : ℕ → List ℕ) (cat : Catalog) (database : Database) → IsTree cat.schema
    → KnowsBy by told page cat database → KnowsButBy by told page cat database
held_but_by columns known plans.Scan told page cat database tree knows = held_but columns told page cat database tree knows
held_but_by columns known (plans.Linked forced) told page cat database tree knows = (
  held_but columns told page cat database tree knows.0,
  record { right = page; are = known page cat database (database_is told page cat database knows) knows.1.files },
)

scan_known :
    (told : Bool) (page : ℕ → List ℕ) (cat : Catalog) (database : Database) → told ≡ true → IsDatabase cat.schema database
    → row_counts database ≡ cat.counts → HoldsFiles page cat (hidden_of cat.schema database) → Knows told page cat database
scan_known told page cat database is_told is counts files =
    record { is_told = is_told; is = is; counts = counts; columns = files.columns; subtrees = files.subtrees }

pub held_known :
    (by : Plan) (told : Bool) (page : ℕ → List ℕ) (cat : Catalog) (database : Database) → told ≡ true → IsDatabase cat.schema database
    → row_counts database ≡ cat.counts → IsCatalog cat → HoldsFiles page cat (hidden_of cat.schema database) → KnowsBy by told page cat database
held_known plans.Scan told page cat database is_told is counts proper files = scan_known told page cat database is_told is counts files
held_known (plans.Linked forced) told page cat database is_told is counts proper files =
    (scan_known told page cat database is_told is counts files, record { proper = proper; files = files })

pub no_damage :
    ColumnsGiveValues → HeldFilesAreKnown → (by : Plan) (told : Bool) (page : ℕ → List ℕ) (cat : Catalog) (asked : Query) (top side : ℕ) (half : Half) (database : Database) (number slot found : ℕ)
    → IsTree cat.schema → KnowsBy by told page cat database → IsDamaged by told page cat asked top side half number slot found → ⊥
no_damage columns known plans.Scan told page cat asked top side half database number slot found tree knows is =
    no_scan_damage columns told page cat asked top side half database number slot found tree knows is
no_damage columns known (plans.Linked forced) told page cat asked top side half database number slot found tree knows is =
    (is database (held_but_by columns known by_indexes told page cat database tree knows)).never knows.1.files

-- ---- static pages

-- a slot of a column file lies in a static page
pub slot_is_static :
    LayoutIsSmall → FilesLieInOrder → RecordsStandWithin → (cat : Catalog) → IsTree cat.schema → (table column place : ℕ)
    → is_hidden cat.schema table column ≡ true → place < count_of cat table → page_of (column_file cat table column) place < static_end cat
slot_is_static small order stand cat tree table column place hidden within =
    let narrow = small.narrow cat tree in
    let most : width_at cat.schema table column ≤ 65 = narrow.most table column in
    let least : 0 < width_at cat.schema table column = narrow.least table column hidden in
    let lie = order cat in
    let before = (stand (column_file cat table column) least (omega (arith, most))).page place within in
    let inside : run_end (column_file cat table column) ≤ files_end cat = lie.within table column hidden in
    let rounded : files_end cat ≤ static_end cat = lie.static in
    omega (arith, before, inside, rounded)

-- so each of them has the bytes that it had
pub slot_kept :
    LayoutIsSmall → FilesLieInOrder → RecordsStandWithin → (page now : ℕ → List ℕ) (cat : Catalog) → IsTree cat.schema → KeepsStatic cat page now
    → (table column place : ℕ) → is_hidden cat.schema table column ≡ true → place < count_of cat table
    → record_at now (column_file cat table column) place ≡ record_at page (column_file cat table column) place
slot_kept small order stand page now cat tree keeps table column place hidden within =
    record_kept page now (column_file cat table column) place
    (keeps (page_of (column_file cat table column) place) (slot_is_static small order stand cat tree table column place hidden within))

columns_kept :
    LayoutIsSmall → FilesLieInOrder → RecordsStandWithin → (told : Bool) (page now : ℕ → List ℕ) (cat : Catalog) (database : Database) → IsTree cat.schema
    → KeepsStatic cat page now → KnowsBut told page cat database → KnowsBut told now cat database
columns_kept small order stand told page now cat database tree keeps knows = record {
  is_told = knows.is_told;
  is = knows.is;
  counts = knows.counts;
  columns = λ table column hidden identifier some within value on.
      knows.columns table column hidden identifier some within value
      (ap (spelled (kind_at cat.schema table column) (child_rows cat table column))
      (sym (slot_kept small order stand page now cat tree keeps table column (identifier - 1) hidden (omega (arith, some, within)))) ∙ on);
}

damaged_kept :
    (page now : ℕ → List ℕ) (cat : Catalog) (table column place : ℕ)
    → in_slot now cat (Cells table column) place ≡ in_slot page cat (Cells table column) place
    → IsWrong page cat (Cells table column) place → IsWrong now cat (Cells table column) place
damaged_kept page now cat table column place same (inl not) = inl (ap (may_stand cat (Cells table column)) same ∙ not)
damaged_kept page now cat table column place same (inr out) = absurd (not_both true refl out)

scan_damage_kept :
    LayoutIsSmall → FilesLieInOrder → RecordsStandWithin → (told : Bool) (page now : ℕ → List ℕ) (cat : Catalog) (asked : Query) (top side : ℕ) (half : Half) (number slot found : ℕ) → IsTree cat.schema
    → KeepsStatic cat page now → IsDamagedInScan told page cat asked top side half number slot found → IsDamagedInScan told now cat asked top side half number slot found
scan_damage_kept small order stand told page now cat asked top side half number slot found tree keeps (inl is) =
    let cell = is.cell in
    let same = slot_kept small order stand page now cat tree keeps is.table is.column cell.place cell.hidden cell.within in
    inl (record {
      table = is.table;
      column = is.column;
      read_for = is.read_for;
      cell = record {
        place = cell.place;
        hidden = cell.hidden;
        within = cell.within;
        page_is = cell.page_is;
        slot_is = cell.slot_is;
        bytes = cell.bytes;
        wide = cell.wide;
        may_not = cell.may_not;
        found_is = cell.found_is;
        stands = λ t.
            let at = cell.stands t in
            record {
              has = at.has;
              within = at.within;
              page_is = at.page_is;
              slot_is = at.slot_is;
              damaged = damaged_kept page now cat is.table is.column cell.place same at.damaged;
              found_is = at.found_is ∙ ap found_in (sym same);
            };
      };
    })
scan_damage_kept small order stand told page now cat asked top side half number slot found tree keeps (inr is) = inr is

-- a run within the static pages stays
run_static :
    {page now : ℕ → List ℕ} (cat : Catalog) (run : Run) (records : List (List ℕ)) → KeepsStatic cat page now → RecordsStandWithin → 0 < run.width → run.width ≤ 2048
    → run_end run ≤ static_end cat → Stores page run records → Stores now run records
run_static cat run records keeps stand least most inside stores =
    stores_kept
    (λ place within. keeps (page_of run place) (omega (arith, inside, (stand run least most).page place within)))
    (λ place within. keeps (run.first + place) (omega (arith, inside, within)))
    stores

some_of : {X : Type 0} (xs : List X) → is_empty xs ≡ false → 0 < length xs
some_of [] none = cc
some_of (x ∷ xs) none = omega arith

subtree_inside :
    FilesLieAsSummed → FilesLieInOrder → (cat : Catalog) (table : ℕ) → table < length cat.schema → is_empty (descendants_of cat.schema table) ≡ false
    → run_end (subtree_table cat table) ≤ static_end cat
subtree_inside summed order cat table low some =
    let sum = summed cat in
    let lie = order cat in
    let first : (subtree_table cat table).first ≡ sums.subtree_begin cat table = sum.subtree_table table low in
    let pages : sums.subtree_pages cat table ≡ run_pages (subtree_table cat table) =
    ap (λ empty. if empty then 0 else layout_pages cat table) some in
    let next : sums.table_begin cat (table + 1) ≡ sums.table_begin cat table + sums.table_pages cat table = lie.next_table table in
    let last : sums.table_begin cat (table + 1) ≤ sums.table_begin cat (length cat.schema) = lie.tables (table + 1) (length cat.schema) (omega (arith, low)) in
    let end : files_end cat ≡ sums.table_begin cat (length cat.schema) = sum.files_end in
    let rounded : files_end cat ≤ static_end cat = lie.static in
    by (sums.table_begin cat table) (sums.columns_pages cat table) (sums.subtree_pages cat table)
    (sums.indexes_pages cat table + sums.id_index_pages cat table) (sums.table_begin cat (table + 1)) (sums.table_begin cat (length cat.schema)) (files_end cat) (static_end cat)
    (subtree_table cat table).first (run_pages (subtree_table cat table)) first pages next last end rounded
  where
    layout_pages : Catalog → ℕ → ℕ
    layout_pages cat table = run_pages (subtree_table cat table)

    by : (begin columns subtree later after last end static first pages : ℕ) → first ≡ begin + columns → subtree ≡ pages → after ≡ begin + (columns + (subtree + later))
        → after ≤ last → end ≡ last → end ≤ static → first + pages ≤ static
    by begin columns subtree later after last end static first pages a b c d e f = omega (arith, a, b, c, d, e, f)

scan_files_kept :
    LayoutIsSmall → FilesLieInOrder → FilesLieAsSummed → RecordsStandWithin → (told : Bool) (page now : ℕ → List ℕ) (cat : Catalog) (database : Database) → IsTree cat.schema
    → KeepsStatic cat page now → Knows told page cat database → Knows told now cat database
scan_files_kept small order summed stand told page now cat database tree keeps knows = record {
  is_told = knows.is_told;
  is = knows.is;
  counts = knows.counts;
  columns = λ table column hidden.
      let narrow = small.narrow cat tree in
      let most : width_at cat.schema table column ≤ 65 = narrow.most table column in
      let inside : run_end (column_file cat table column) ≤ files_end cat = (order cat).within table column hidden in
      let rounded : files_end cat ≤ static_end cat = (order cat).static in
      run_static cat (column_file cat table column) _ keeps stand (narrow.least table column hidden) (omega (arith, most)) (omega (arith, inside, rounded))
      (knows.columns table column hidden);
  subtrees = λ table low some.
      let most : sums.subtree_width cat.schema table ≤ 48 = (small.narrow cat tree).subtree table in
      let least : 0 < length (descendants_of cat.schema table) = some_of (descendants_of cat.schema table) some in
      run_static cat (subtree_table cat table) _ keeps stand (omega (arith, least)) (omega (arith, most)) (subtree_inside summed order cat table low some)
      (knows.subtrees table low some);
}

-- ---- what stays, by either plan

pub columns_kept_by :
    LayoutIsSmall → FilesLieInOrder → RecordsStandWithin → KnowledgeStays → (by : Plan) (told : Bool) (page now : ℕ → List ℕ) (cat : Catalog) (database : Database) → IsTree cat.schema
    → KeepsStatic cat page now → KnowsButBy by told page cat database → KnowsButBy by told now cat database
columns_kept_by small order stand stays plans.Scan told page now cat database tree keeps knows = columns_kept small order stand told page now cat database tree keeps knows
columns_kept_by small order stand stays (plans.Linked forced) told page now cat database tree keeps knows = (
  columns_kept small order stand told page now cat database tree keeps knows.0,
  record { right = knows.1.right; are = stays.pages page now knows.1.right cat database keeps knows.1.are },
)

pub damage_kept :
    LayoutIsSmall → FilesLieInOrder → RecordsStandWithin → KnowledgeStays → (by : Plan) (told : Bool) (page now : ℕ → List ℕ) (cat : Catalog) (asked : Query) (top side : ℕ) (half : Half) (number slot found : ℕ)
    → IsTree cat.schema → KeepsStatic cat page now → IsDamaged by told page cat asked top side half number slot found → IsDamaged by told now cat asked top side half number slot found
damage_kept small order stand stays plans.Scan told page now cat asked top side half number slot found tree keeps is =
    scan_damage_kept small order stand told page now cat asked top side half number slot found tree keeps is
damage_kept small order stand stays (plans.Linked forced) told page now cat asked top side half number slot found tree keeps is = λ database knows.
    stays.bad_by page now cat asked forced top database tree keeps number slot found
    (is database (columns_kept_by small order stand stays by_indexes told now page cat database tree (λ at low. sym (keeps at low)) knows))

pub files_kept :
    LayoutIsSmall → FilesLieInOrder → FilesLieAsSummed → RecordsStandWithin → HoldingsAreKept → (by : Plan) (told : Bool) (page now : ℕ → List ℕ) (cat : Catalog) (database : Database) → IsTree cat.schema
    → KeepsStatic cat page now → KnowsBy by told page cat database → KnowsBy by told now cat database
files_kept small order summed stand holdings plans.Scan told page now cat database tree keeps knows =
    scan_files_kept small order summed stand told page now cat database tree keeps knows
files_kept small order summed stand holdings (plans.Linked forced) told page now cat database tree keeps knows = (
  scan_files_kept small order summed stand told page now cat database tree keeps knows.0,
  record {
    proper = knows.1.proper;
    files = holdings.files page now cat (hidden_of cat.schema database) tree
        (λ number from to. (let rounded : files_end cat ≤ static_end cat = (order cat).static in keeps number (omega (arith, to, rounded))))
        knows.1.files;
  },
)
