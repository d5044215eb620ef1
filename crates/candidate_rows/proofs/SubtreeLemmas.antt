-- The subtree key table of the top table: its tables, its pages, and the rows of its records.
use Rattle.std.proofs.Common.{◌≡◌, ◌∙◌, ◌⊎◌, inl, inr, ℕ, zero, suc, ◌+◌, ◌-◌, ◌^◌, ◌<◌, ◌≤◌, Bool, true, false, ◌&&◌, ◌||◌, nat_lt, not, cond, List, [], ◌∷◌, length, map, filter, get_or, slice_get, slice_set, drop, count_by, is_none, is_some, Option, Some, None, sym, subst, refl, ap, ap₂, arith}
use Rattle.std.specs.Prelude.{⊤, if◌then◌else◌, ◌==◌}
use Rattle.std.specs.List.{list_any, range_with_len}
use Rattle.std.proofs.lemmas.Bool.{eqb-true, eqb-false, ltb-true, lt-ltb}
use Rattle.std.proofs.lemmas.Bool.Decides.{nat_tests}
use Rattle.std.proofs.lemmas.List.{get_or-set_other, length-set}
use Rattle.std.proofs.lemmas.List.Sums.{sum_by-set}
use Rattle.ghost_model.specs.core.Schema.{Schema, is_empty, ancestor, IsAtOrBelow}
use Rattle.ghost_model.specs.core.Values.{Database}
use Rattle.ghost_model.specs.core.Channel.{Catalog}
use Rattle.ghost_model.specs.core.Query.{is_among}
use Rattle.ghost_model.specs.core.Database.{IsDatabase}
use Rattle.ghost_model.specs.core.Split.{hidden_of}
use Rattle.ghost_model.specs.laws.SchemaTrees.{IsTree}
use Rattle.ghost_model.specs.laws.FlashLaws.{RowsLeadByHiddenValues}
use Rattle.ghost_model.specs.laws.LayoutLaws.{RecordsStandWithin, StandWithin, LevelsAreAncestors}
use Rattle.ghost_model.specs.forms.Runs.{Run, run_pages, page_of}
use Rattle.ghost_model.specs.forms.Layout.{levels_of, above_of, is_below, tables_of, descendants_of, count_of, static_end, subtree_table}
use Rattle.ghost_model.specs.forms.Flash.{leads_to}
use Rattle.flash_layout.specs.Limits.{HasLayout}
use Rattle.arrayvec.specs.ArrayVec.{ArrayVec}
use Rattle.edge_traits.specs.Devices.{Device}
use Rattle.subtree_keys.specs.declared.table.SubtreeTable.{SubtreeTable}
use Rattle.subtree_keys.specs.Tables as subtrees
use Rattle.subtree_keys.specs.Tables.{IsTableOf, AreRowsOf, slot_page}
use Rattle.subtree_keys.specs.Laws.{LeadsTo}
use Rattle.candidate_rows.specs.declared.plan.SubtreeFile.{SubtreeFile}
use Rattle.candidate_rows.specs.declared.plan.RowPlan.{RowPlan}
use Rattle.flash_layout.specs.Ranges.{IsRowOf, Suffices}
use Rattle.candidate_rows.specs.Plans.{IsSubtreeFile, AreSubtreeKeys, HasWays, has_below, needs_ways}
use Rattle.candidate_rows.specs.Working.{IsLedTo, spread_over}
use Rattle.candidate_rows.proofs.TestLemmas.{count_cons}

-- ---- the tables below

both_are : (a b : Bool) → (a && b) ≡ true → (a ≡ true) × (b ≡ true)
both_are true b e = (refl, e)
both_are false b e = cc

in_range : (from count table : ℕ) → is_among (range_with_len from count) table ≡ true → table < from + count
in_range from zero table e = absurd (cc (e))
in_range from (suc count) table e = by (from == table) refl (λ h. in_range (from + 1) count table h) e
  where
    by : (b : Bool) → (from == table) ≡ b → (is_among (range_with_len (from + 1) count) table ≡ true → table < from + 1 + count)
        → (b || is_among (range_with_len (from + 1) count) table) ≡ true → table < from + suc count
    by true same rest h = let it = eqb-true from table same in omega (arith, it)
    by false same rest h = let later = rest h in omega (arith, later)

in_filtered : (q : ℕ → Bool) (tables : List ℕ) (table : ℕ) → is_among (filter q tables) table ≡ true → (is_among tables table ≡ true) × (q table ≡ true)
in_filtered q [] table e = absurd (cc (e))
in_filtered q (first ∷ tables) table e =
    by (q first) refl (λ h. let rest = in_filtered q tables table h in (ap (λ b. (first == table) || b) rest.0 ∙ any (first == table), rest.1)) e
  where
    any : (b : Bool) → (b || true) ≡ true
    any true = refl
    any false = refl

    here : q first ≡ true → (is_among (filter q tables) table ≡ true → (is_among (first ∷ tables) table ≡ true) × (q table ≡ true))
        → (b : Bool) → (first == table) ≡ b → (b || is_among (filter q tables) table) ≡ true → (is_among (first ∷ tables) table ≡ true) × (q table ≡ true)
    here held later true same rest = (ap (λ b. b || is_among tables table) same, ap q (sym (eqb-true first table same)) ∙ held)
    here held later false same rest = later rest

    by : (b : Bool) → q first ≡ b → (is_among (filter q tables) table ≡ true → (is_among (first ∷ tables) table ≡ true) × (q table ≡ true))
        → is_among (if b then first ∷ filter q tables else filter q tables) table ≡ true → (is_among (first ∷ tables) table ≡ true) × (q table ≡ true)
    by false held later h = later h
    by true held later h = here held later (first == table) refl h

range_has : (from count table : ℕ) → from ≤ table → table < from + count → is_among (range_with_len from count) table ≡ true
range_has from zero table low high = absurd (omega (arith, low, high))
range_has from (suc count) table low high =
    by (from == table) refl (λ other. range_has (from + 1) count table (further from table low other) (omega (arith, high)))
  where
    further : (a b : ℕ) → a ≤ b → (a ≡ b → ⊥) → a + 1 ≤ b
    further a b up apart = grind (arith, up, apart)

    by : (b : Bool) → (from == table) ≡ b → ((from ≡ table → ⊥) → is_among (range_with_len (from + 1) count) table ≡ true)
        → ((from == table) || is_among (range_with_len (from + 1) count) table) ≡ true
    by true same rest = ap (λ b. b || is_among (range_with_len (from + 1) count) table) same
    by false same rest = ap (λ b. b || is_among (range_with_len (from + 1) count) table) same ∙ rest (eqb-false from table same)

filter_has : (q : ℕ → Bool) (tables : List ℕ) (table : ℕ) → is_among tables table ≡ true → q table ≡ true → is_among (filter q tables) table ≡ true
filter_has q [] table e held = e
filter_has q (first ∷ tables) table e held = by (first == table) refl (λ h. filter_has q tables table h held) e
  where
    passed : (b : Bool) → is_among (filter q tables) table ≡ true → is_among (if b then first ∷ filter q tables else filter q tables) table ≡ true
    passed false h = h
    passed true h = ap (λ b. (first == table) || b) h ∙ any (first == table)
      where
        any : (b : Bool) → (b || true) ≡ true
        any true = refl
        any false = refl

    by : (b : Bool) → (first == table) ≡ b → (is_among tables table ≡ true → is_among (filter q tables) table ≡ true) → (b || is_among tables table) ≡ true
        → is_among (if q first then first ∷ filter q tables else filter q tables) table ≡ true
    by true same rest h =
        ap (λ b. is_among (if b then first ∷ filter q tables else filter q tables) table) (ap q (eqb-true first table same) ∙ held)
        ∙ ap (λ b. b || is_among (filter q tables) table) same
    by false same rest h = passed (q first) (rest h)

pub first_among : (table : ℕ) (later : List ℕ) → is_among (table ∷ later) table ≡ true
first_among table later = ap (λ b. b || is_among later table) (itself table)
  where
    itself : (n : ℕ) → (n == n) ≡ true
    itself n = grind (arith, nat_tests)

pub later_among : (first : ℕ) (later : List ℕ) (table : ℕ) → is_among later table ≡ true → is_among (first ∷ later) table ≡ true
later_among first later table e = ap (λ b. (first == table) || b) e ∙ any (first == table)
  where
    any : (b : Bool) → (b || true) ≡ true
    any true = refl
    any false = refl

-- a table that is found at some place
found_at : (table : ℕ) (xs : List ℕ) → list_any (λ above. above == table) xs ≡ true → (k : ℕ) × (slice_get xs k ≡ Some table)
found_at table [] e = absurd (cc (e))
found_at table (x ∷ xs) e = by (x == table) refl (λ h. found_at table xs h) e
  where
    by : (b : Bool) → (x == table) ≡ b → (list_any (λ above. above == table) xs ≡ true → (k : ℕ) × (slice_get xs k ≡ Some table))
        → (b || list_any (λ above. above == table) xs) ≡ true → (k : ℕ) × (slice_get (x ∷ xs) k ≡ Some table)
    by true same rest h = (0, ap Some (eqb-true x table same))
    by false same rest h = let at = rest h in (suc at.0, at.1)

stands_at : (table : ℕ) (xs : List ℕ) (k : ℕ) → slice_get xs k ≡ Some table → list_any (λ above. above == table) xs ≡ true
stands_at table [] k e = absurd (cc (e))
stands_at table (x ∷ xs) zero e = let same : x ≡ table = cc in ap (λ b. b || list_any (λ above. above == table) xs) (ap (λ y. y == table) same ∙ itself table)
  where
    itself : (n : ℕ) → (n == n) ≡ true
    itself n = grind (arith, nat_tests)
stands_at table (x ∷ xs) (suc k) e = ap (λ b. (x == table) || b) (stands_at table xs k e) ∙ any (x == table)
  where
    any : (b : Bool) → (b || true) ≡ true
    any true = refl
    any false = refl

one_later : (xs : List ℕ) (k x : ℕ) → slice_get (drop 1 xs) k ≡ Some x → slice_get xs (suc k) ≡ Some x
one_later [] k x e = absurd (cc (e))
one_later (y ∷ xs) k x e = e

one_earlier : (xs : List ℕ) (k x : ℕ) → slice_get xs (suc k) ≡ Some x → slice_get (drop 1 xs) k ≡ Some x
one_earlier [] k x e = absurd (cc (e))
one_earlier (y ∷ xs) k x e = e

-- a table of a record lies below the top table
pub descends : LevelsAreAncestors → (schema : Schema) → IsTree schema → (top table : ℕ) → is_among (descendants_of schema top) table ≡ true
    → (table < length schema) × IsAtOrBelow schema top table
descends levels schema tree top table e =
    let both = in_filtered (is_below schema top) (tables_of schema) table e in
    let low = in_range 0 (length schema) table both.0 in
    let there : table < length schema = omega (arith, low) in
    let at = found_at top (above_of schema table) both.1 in
    (there, (suc at.0, sym (levels schema tree table (suc at.0) there) ∙ one_later (levels_of schema table) at.0 top at.1))

-- and each table further down is one of a record
pub has_descendant : LevelsAreAncestors → (schema : Schema) → IsTree schema → (steps top table : ℕ) → table < length schema → ancestor schema (suc steps) table ≡ Some top
    → is_among (descendants_of schema top) table ≡ true
has_descendant levels schema tree steps top table there up =
    filter_has (is_below schema top) (tables_of schema) table (range_has 0 (length schema) table (omega arith) (omega (arith, there)))
    (stands_at top (above_of schema table) steps (one_earlier (levels_of schema table) steps top (levels schema tree table (suc steps) there ∙ up)))

pub some_among : (tables : List ℕ) (table : ℕ) → is_among tables table ≡ true → is_empty tables ≡ false
some_among [] table h = absurd (cc (h))
some_among (x ∷ tables) table h = refl

-- ---- its pages

some_there : (xs : List ℕ) → is_empty xs ≡ false → 0 < length xs
some_there [] e = absurd (cc (e))
some_there (x ∷ xs) e = omega arith

-- they lie below the spool
below_spool : (cat : Catalog) (table : ℕ) → HasLayout cat → RecordsStandWithin → table < length cat.schema → is_empty (descendants_of cat.schema table) ≡ false
    → (place : ℕ) → place < count_of cat table → page_of (subtree_table cat table) place < static_end cat
below_spool cat table layout stand there below place low =
    let run = subtree_table cat table in
    let most = layout.narrow.subtree table in
    let tables = some_there (descendants_of cat.schema table) below in
    let stands : StandWithin run = stand run (omega (arith, tables)) (omega (arith, most)) in
    let pages = ap (λ b. cond b 0 (run_pages run)) below in
    let first = layout.sums.subtree_table table there in
    let next = layout.order.next_table table in
    let later = layout.order.tables (table + 1) (length cat.schema) (omega (arith, there)) in
    let end = layout.sums.files_end in
    let static = layout.order.static in
    let here = stands.page place low in
    omega (arith, here, pages, first, next, later, end, static)

pub subtree_file : (cat : Catalog) (top number : ℕ) (table : SubtreeTable) (below : ArrayVec ℕ) → HasLayout cat → RecordsStandWithin → top < length cat.schema
    → is_empty (descendants_of cat.schema top) ≡ false → IsTableOf cat top table → below.items ≡ descendants_of cat.schema top
    → ((device : Device) → Suffices cat device → subtrees.IsReadable device table)
    → IsSubtreeFile cat top (record { table = table; below = below; number = number })
subtree_file cat top number table below layout stand there some is below_are readable = record {
  there = there;
  some_below = some;
  table_is = is;
  below_are = below_are;
  few_below = λ other among.
      let low = in_range 0 (length cat.schema) other (in_filtered (is_below cat.schema top) (tables_of cat.schema) other (ap (λ (xs : List ℕ). is_among xs other) (sym below_are) ∙ among)).0 in
      let few = layout.tree.few_tables in
      omega (arith, low, few);
  readable = readable;
  static = λ identifier low high.
      subst (λ (r : Run). page_of r (identifier - 1) < static_end cat) (sym is.run_is)
      (below_spool cat top layout stand there some (identifier - 1) (omega (arith, low, high)));
}

-- its records are as many as the rows of the top table, and their pages have numbers of 32 bits
pub rows_of_table : (cat : Catalog) (top : ℕ) (file : SubtreeFile) → IsSubtreeFile cat top file → file.table.run.count ≡ count_of cat top
rows_of_table cat top file is = ap (λ (r : Run). r.count) is.table_is.run_is

pub small_page : (cat : Catalog) (device : Device) (top : ℕ) (file : SubtreeFile) (identifier : ℕ) → IsSubtreeFile cat top file → Suffices cat device
    → 1 ≤ identifier → identifier ≤ count_of cat top → slot_page file.table identifier < 2 ^ 32
small_page cat device top file identifier is enough some within =
    let readable = is.readable device enough in
    let rows = rows_of_table cat top file is in
    let there = readable.has.pages (identifier - 1) (omega (arith, rows, some, within)) in
    let small = readable.has.small in
    below there small
  where
    below : {a b c : ℕ} → a < b → b < c → a < c
    below low high = omega (arith, low, high)

-- ---- rows of tables, one for each

abbrev pub AreEach : (ℕ → ℕ → Type 0) → (tables rows : List ℕ) → Type 0
AreEach P [] [] = ⊤
AreEach P [] (_ ∷ _) = ⊥
AreEach P (_ ∷ _) [] = ⊥
AreEach P (table ∷ tables) (row ∷ rows) = P table row × AreEach P tables rows

pub each_long : (P : ℕ → ℕ → Type 0) (tables rows : List ℕ) → AreEach P tables rows → length rows ≡ length tables
each_long P [] [] are = refl
each_long P [] (_ ∷ _) are = absurd are
each_long P (_ ∷ _) [] are = absurd are
each_long P (_ ∷ tables) (_ ∷ rows) are = ap suc (each_long P tables rows are.1)

rows_each : (cat : Catalog) (tables rows : List ℕ) → AreRowsOf (map (count_of cat) tables) rows → AreEach (IsRowOf cat) tables rows
rows_each cat [] [] are = tt
rows_each cat [] (_ ∷ _) are = absurd (let count = are.count in omega (arith, count))
rows_each cat (_ ∷ _) [] are = absurd (let count = are.count in omega (arith, count))
rows_each cat (table ∷ tables) (row ∷ rows) are = (
  record { some = are.some 0 (omega arith); within = are.within 0 (omega arith) },
  rows_each cat tables rows (record {
    count = (let count = are.count in omega (arith, count));
    some = λ place low. are.some (suc place) (omega (arith, low));
    within = λ place low. are.within (suc place) (omega (arith, low));
  }),
)

pub rows_of_record : (cat : Catalog) (top : ℕ) (file : SubtreeFile) (rows : List ℕ) → IsSubtreeFile cat top file → AreRowsOf file.table.rows.items rows
    → AreEach (IsRowOf cat) file.below.items rows
rows_of_record cat top file rows is are =
    subst (λ (tables : List ℕ). AreEach (IsRowOf cat) tables rows) (sym is.below_are)
    (rows_each cat (descendants_of cat.schema top) rows (subst (λ (counts : List ℕ). AreRowsOf counts rows) is.table_is.rows_are are))

led_each : (f : ℕ → Option ℕ) (P : ℕ → ℕ → Type 0) (tables rows : List ℕ) → ((table row : ℕ) → is_among tables table ≡ true → f table ≡ Some row → P table row)
    → map Some rows ≡ map f tables → AreEach P tables rows
led_each f P [] [] each e = tt
led_each f P [] (_ ∷ _) each e = absurd (cc (e))
led_each f P (_ ∷ _) [] each e = absurd (cc (e))
led_each f P (table ∷ tables) (row ∷ rows) each e =
    let here : f table ≡ Some row = cc in
    let later : map Some rows ≡ map f tables = cc in (
      each table row (ap (λ b. b || is_among tables table) (itself table)) here,
      led_each f P tables rows (λ other one among h. each other one (ap (λ b. (table == other) || b) among ∙ any (table == other)) h) later,
    )
  where
    itself : (n : ℕ) → (n == n) ≡ true
    itself n = grind (arith, nat_tests)

    any : (b : Bool) → (b || true) ≡ true
    any true = refl
    any false = refl

pub led_of_record : LevelsAreAncestors → RowsLeadByHiddenValues → (cat : Catalog) (database : Database) (top identifier : ℕ) (file : SubtreeFile) (rows : List ℕ)
    → IsTree cat.schema → IsDatabase cat.schema database → IsSubtreeFile cat top file → LeadsTo cat (hidden_of cat.schema database) top identifier rows
    → AreEach (IsLedTo cat.schema database top identifier) file.below.items rows
led_of_record levels alike cat database top identifier file rows tree is_database is led =
    subst (λ (tables : List ℕ). AreEach (IsLedTo cat.schema database top identifier) tables rows) (sym is.below_are)
    (led_each (leads_to cat.schema (hidden_of cat.schema database) top identifier) (IsLedTo cat.schema database top identifier) (descendants_of cat.schema top) rows
    (λ table row among h. record {
      below = (descends levels cat.schema tree top table among).1;
      led = sym (alike cat.schema database tree is_database top identifier table) ∙ h;
    }) led)

-- ---- rows that are put over those that were reached

set_case : (xs : List (Option ℕ)) (at row table one : ℕ) → get_or (slice_set xs at (Some row)) table None ≡ Some one
    → ((table ≡ at) × (row ≡ one)) ⊎ (get_or xs table None ≡ Some one)
set_case [] at row table one e = absurd (cc (e))
set_case (x ∷ xs) zero row zero one e = let same : row ≡ one = cc in inl (refl, same)
set_case (x ∷ xs) zero row (suc table) one e = inr e
set_case (x ∷ xs) (suc at) row zero one e = inr e
set_case (x ∷ xs) (suc at) row (suc table) one e = by (set_case xs at row table one e)
  where
    by : ((table ≡ at) × (row ≡ one)) ⊎ (get_or xs table None ≡ Some one) → ((suc table ≡ suc at) × (row ≡ one)) ⊎ (get_or xs table None ≡ Some one)
    by (inl h) = inl (ap suc h.0, h.1)
    by (inr h) = inr h

pub spread_rows : (P : ℕ → ℕ → Type 0) (tables rows : List ℕ) (reached : List (Option ℕ)) → AreEach P tables rows
    → ((table row : ℕ) → get_or reached table None ≡ Some row → P table row)
    → (table row : ℕ) → get_or (spread_over tables rows reached) table None ≡ Some row → P table row
spread_rows P [] rows reached are before = before
spread_rows P (_ ∷ _) [] reached are before = absurd are
spread_rows P (first ∷ tables) (one ∷ rows) reached are before =
    spread_rows P tables rows (slice_set reached first (Some one)) are.1 (λ table row h. by table row (set_case reached first one table row h))
  where
    by : (table row : ℕ) → ((table ≡ first) × (one ≡ row)) ⊎ (get_or reached table None ≡ Some row) → P table row
    by table row (inl h) = subst (λ t. P t row) (sym h.0) (subst (P first) h.1 are.0)
    by table row (inr h) = before table row h

set_some : (xs : List (Option ℕ)) (at row table one : ℕ) → get_or xs table None ≡ Some one → (other : ℕ) × (get_or (slice_set xs at (Some row)) table None ≡ Some other)
set_some [] at row table one e = absurd (cc (e))
set_some (x ∷ xs) zero row zero one e = (row, refl)
set_some (x ∷ xs) zero row (suc table) one e = (one, e)
set_some (x ∷ xs) (suc at) row zero one e = (one, e)
set_some (x ∷ xs) (suc at) row (suc table) one e = set_some xs at row table one e

pub spread_some : (tables rows : List ℕ) (reached : List (Option ℕ)) (table one : ℕ) → get_or reached table None ≡ Some one
    → (other : ℕ) × (get_or (spread_over tables rows reached) table None ≡ Some other)
spread_some [] rows reached table one e = (one, e)
spread_some (_ ∷ _) [] reached table one e = (one, e)
spread_some (first ∷ tables) (row ∷ rows) reached table one e =
    let now = set_some reached first row table one e in
    spread_some tables rows (slice_set reached first (Some row)) table now.0 now.1

pub spread_long : (tables rows : List ℕ) (reached : List (Option ℕ)) → length (spread_over tables rows reached) ≡ length reached
spread_long [] rows reached = refl
spread_long (_ ∷ _) [] reached = refl
spread_long (first ∷ tables) (row ∷ rows) reached = spread_long tables rows (slice_set reached first (Some row)) ∙ length-set reached first (Some row)

-- fewer tables were not reached
set_most : (xs : List (Option ℕ)) (at row : ℕ) → count_by is_none (slice_set xs at (Some row)) ≤ count_by is_none xs
set_most [] at row = omega arith
set_most (x ∷ xs) zero row =
    let before = count_cons is_none x xs in
    let now : count_by is_none (Some row ∷ xs) ≡ 0 + count_by is_none xs = count_cons is_none (Some row) xs in
    omega (arith, before, now)
set_most (x ∷ xs) (suc at) row =
    let before = count_cons is_none x xs in
    let now = count_cons is_none x (slice_set xs at (Some row)) in
    let rest = set_most xs at row in
    omega (arith, before, now, rest)

spread_most : (tables rows : List ℕ) (reached : List (Option ℕ)) → count_by is_none (spread_over tables rows reached) ≤ count_by is_none reached
spread_most [] rows reached = omega arith
spread_most (_ ∷ _) [] reached = omega arith
spread_most (first ∷ tables) (row ∷ rows) reached =
    let later = spread_most tables rows (slice_set reached first (Some row)) in
    let here = set_most reached first row in
    omega (arith, later, here)

pub none_set : (xs : List (Option ℕ)) (i x : ℕ) → i < length xs → get_or xs i None ≡ None → count_by is_none (slice_set xs i (Some x)) < count_by is_none xs
none_set xs i x within e =
    let f : Option ℕ → ℕ = λ o. cond (is_none o) 1 0 in
    let one : f (get_or xs i None) ≡ 1 = ap f e in
    let sums = sum_by-set f xs i (Some x) None within in
    less sums one
  where
    less : {a b c : ℕ} → a + c ≡ b + 0 → c ≡ 1 → a < b
    less sums one = omega (arith, sums, one)

pub spread_less : (tables rows : List ℕ) (reached : List (Option ℕ)) (table : ℕ) → length rows ≡ length tables → is_among tables table ≡ true
    → table < length reached → get_or reached table None ≡ None → count_by is_none (spread_over tables rows reached) < count_by is_none reached
spread_less [] rows reached table long among within none = absurd (cc (among))
spread_less (first ∷ tables) [] reached table long among within none = absurd (omega (arith, long))
spread_less (first ∷ tables) (row ∷ rows) reached table long among within none =
    by (first == table) refl (λ h still low. spread_less tables rows (slice_set reached first (Some row)) table (omega (arith, long)) h low still) among
  where
    now : List (Option ℕ)
    now = slice_set reached first (Some row)

    by : (b : Bool) → (first == table) ≡ b
        → (is_among tables table ≡ true → get_or now table None ≡ None → table < length now → count_by is_none (spread_over tables rows now) < count_by is_none now)
        → (b || is_among tables table) ≡ true → count_by is_none (spread_over tables rows now) < count_by is_none reached
    by true same rest h =
        let it = eqb-true first table same in
        let less = none_set reached first row (omega (arith, it, within)) (ap (λ t. get_or reached t None) it ∙ none) in
        let later = spread_most tables rows (slice_set reached first (Some row)) in
        omega (arith, less, later)
    by false same rest h =
        let other = eqb-false first table same in
        let size = length-set reached first (Some row) in
        let still = get_or-set_other reached first table (Some row) None (λ e. other (sym e)) in
        let less = rest h (still ∙ none) (omega (arith, size, within)) in
        let most = set_most reached first row in
        omega (arith, less, most)

pub below_it : (schema : Schema) (table : ℕ) → has_below schema table ≡ true → (table < length schema) × (is_empty (descendants_of schema table) ≡ false)
below_it schema table e =
    let both = both_are (nat_lt table (length schema)) (not (is_empty (descendants_of schema table))) e in
    (ltb-true table (length schema) both.0, shown (is_empty (descendants_of schema table)) both.1)
  where
    shown : (b : Bool) → not b ≡ true → b ≡ false
    shown true h = cc
    shown false h = refl

pub below_there : (schema : Schema) (table : ℕ) → table < length schema → is_empty (descendants_of schema table) ≡ false → has_below schema table ≡ true
below_there schema table there some = ap₂ (λ a b. a && not b) (lt-ltb table (length schema) there) some

-- a plan of candidates has its ways: there is no subtree key table only where none is needed
pub ways_by : (cat : Catalog) (plan : RowPlan) (keys : Option SubtreeFile) → is_some keys ≡ needs_ways cat plan → AreSubtreeKeys cat plan.top keys → HasWays cat plan keys
ways_by cat plan None e is = inr (sym e)
ways_by cat plan (Some file) e is = is
