-- The structures and areas of a catalog follow one another.
use Rattle.std.proofs.Common.{◌≡◌, refl, ap, sym, ◌∙◌, subst, ℕ, zero, suc, ◌+◌, ◌-◌, ◌*◌, ◌<◌, ◌≤◌, Bool, true, false, not, cond, ◌==◌, List, [], ◌∷◌, ◌++◌, length, map, filter, flat_map, sum_by, arith}
use Rattle.std.specs.List.{range_with_len}
use Rattle.std.proofs.Math.Nat.{div-zero}
use Rattle.std.proofs.lemmas.List.Sums.{sum_by-cons}
use Rattle.ghost_model.specs.core.Schema.{is_empty}
use Rattle.ghost_model.specs.core.Channel.{Catalog}
use Rattle.ghost_model.specs.forms.Runs.{pages_of, per_page}
use Rattle.ghost_model.specs.forms.Layout.{below, is_hidden, hidden_columns, width_at, levels_of, above_of, descendants_of, count_of, Structure, ColumnFile, SubtreeTable, ClimbingIndex, IdIndex, structures, level_files, files_pages, structure_pages, public_pages, static_end, spool_pages, half_pages, spool_area, visible_columns, spool_end, scratch_pages, scratch_area, scratch_end, need}
use Rattle.ghost_model.specs.laws.ShortWords.{has_spool, spool_areas, scratch_areas, appended_areas, structures_of, column_count}
use Rattle.ghost_model.specs.laws.LayoutSums.{column_pages, level_pages, levels_pages, directory_width, directory_pages, index_pages, subtree_width, table_pages, table_begin, column_begin, subtree_begin, indexes_begin, index_begin, id_index_begin}
use Rattle.ghost_model.specs.laws.LayoutLaws.{LieFrom, Follow, block_room}

-- the sum over one number more
pub sum_to : (g : ℕ → ℕ) (a n : ℕ) → sum_by g (range_with_len a (suc n)) ≡ sum_by g (range_with_len a n) + g (a + n)
sum_to g a zero = let e : a + 0 ≡ a = omega arith in rw e refl
sum_to g a (suc n) =
    let here = sum_by-cons g a (range_with_len (a + 1) (suc n)) in
    let before = sum_by-cons g a (range_with_len (a + 1) n) in
    let later = sum_to g (a + 1) n in
    let e : a + suc n ≡ a + 1 + n = omega arith in
    let last = ap g e in
    omega (arith, here, before, later, last)

pub sum_below : (g : ℕ → ℕ) (n : ℕ) → sum_by g (below (suc n)) ≡ sum_by g (below n) + g n
sum_below g n = let e : 0 + n ≡ n = omega arith in sum_to g 0 n ∙ ap (λ k. sum_by g (below n) + g k) e

-- things after things
pub follow_on : {X : Type 0} (first room : X → ℕ) (xs more : List X) (begin middle after : ℕ)
    → LieFrom first room begin xs middle → LieFrom first room middle more after → LieFrom first room begin (xs ++ more) after
follow_on first room [] more begin middle after h g = subst (λ k. LieFrom first room k more after) (sym h) g
follow_on first room (x ∷ xs) more begin middle after h g = (h.0, follow_on first room xs more (begin + room x) middle after h.1 g)

-- the runs of some numbers in a row, those of each beginning where those of the one before end
pub follow_each : {X : Type 0} (first room : X → ℕ) (runs : ℕ → List X) (at : ℕ → ℕ) (most : ℕ)
    → ((k : ℕ) → k < most → LieFrom first room (at k) (runs k) (at (k + 1)))
    → (a n : ℕ) → a + n ≤ most → LieFrom first room (at a) (flat_map runs (range_with_len a n)) (at (a + n))
follow_each first room runs at most each a zero few = let e : a ≡ a + 0 = omega arith in ap at e
follow_each first room runs at most each a (suc n) few =
    let e : a + 1 + n ≡ a + suc n = omega arith in
    follow_on first room (runs a) (flat_map runs (range_with_len (a + 1) n)) (at a) (at (a + 1)) (at (a + suc n))
    (each a (omega (arith, few)))
    (subst (λ k. LieFrom first room (at (a + 1)) (flat_map runs (range_with_len (a + 1) n)) (at k)) e
    (follow_each first room runs at most each (a + 1) n (omega (arith, few))))

-- the same, where sums over the numbers before say where they begin
follow_sums : {X : Type 0} (first room : X → ℕ) (runs : ℕ → List X) (g : ℕ → ℕ) (begin most : ℕ)
    → ((k : ℕ) → k < most → LieFrom first room (begin + sum_by g (below k)) (runs k) (begin + sum_by g (below k) + g k))
    → LieFrom first room begin (flat_map runs (below most)) (begin + sum_by g (below most))
follow_sums first room runs g begin most each =
    let none : begin + sum_by g (below 0) ≡ begin = omega arith in
    let all : 0 + most ≡ most = omega arith in
    subst (λ b. LieFrom first room b (flat_map runs (below most)) (begin + sum_by g (below most))) none
    (subst (λ k. LieFrom first room (begin + sum_by g (below 0)) (flat_map runs (below most)) (begin + sum_by g (below k))) all
    (follow_each first room runs (λ k. begin + sum_by g (below k)) most
    (λ k low.
    let more = sum_below g k in
    let one : sum_by g (below (k + 1)) ≡ sum_by g (below (suc k)) = let e : k + 1 ≡ suc k = omega arith in ap (λ n. sum_by g (below n)) e in
    let e : begin + sum_by g (below k) + g k ≡ begin + sum_by g (below (k + 1)) = omega (arith, more, one) in
    subst (λ after. LieFrom first room (begin + sum_by g (below k)) (runs k) after) e (each k low)) 0 most (omega arith)))

kept_one : {X : Type 0} (runs : ℕ → List X) (b : Bool) (k : ℕ) (ks : List ℕ) (later : List X) → flat_map runs ks ≡ later
    → flat_map runs (cond b (k ∷ ks) ks) ≡ cond b (runs k) [] ++ later
kept_one runs true k ks later e = ap (λ more. runs k ++ more) e
kept_one runs false k ks later e = e

flat_map_kept : {X : Type 0} (runs : ℕ → List X) (test : ℕ → Bool) (ks : List ℕ)
    → flat_map runs (filter test ks) ≡ flat_map (λ k. cond (test k) (runs k) []) ks
flat_map_kept runs test [] = refl
flat_map_kept runs test (k ∷ ks) =
    kept_one runs (test k) k (filter test ks) (flat_map (λ j. cond (test j) (runs j) []) ks) (flat_map_kept runs test ks)

follow_one : {X : Type 0} (first room : X → ℕ) (runs : List X) (b : Bool) (begin size pages : ℕ) → (b ≡ true → LieFrom first room begin runs (begin + pages))
    → size ≡ cond b pages 0 → LieFrom first room begin (cond b runs []) (begin + size)
follow_one first room runs true begin size pages h e = subst (λ n. LieFrom first room begin runs (begin + n)) (sym e) (h refl)
follow_one first room runs false begin size pages h e = omega (arith, e)

-- the same of those numbers alone that pass a test; the others take no page
pub follow_kept : {X : Type 0} (first room : X → ℕ) (runs : ℕ → List X) (test : ℕ → Bool) (pages g : ℕ → ℕ) (begin most : ℕ)
    → ((k : ℕ) → test k ≡ true → LieFrom first room (begin + sum_by g (below k)) (runs k) (begin + sum_by g (below k) + pages k))
    → ((k : ℕ) → g k ≡ cond (test k) (pages k) 0)
    → LieFrom first room begin (flat_map runs (filter test (below most))) (begin + sum_by g (below most))
follow_kept first room runs test pages g begin most each sizes =
    subst (λ files. LieFrom first room begin files (begin + sum_by g (below most))) (sym (flat_map_kept runs test (below most)))
    (follow_sums first room (λ k. cond (test k) (runs k) []) g begin most
    (λ k low. follow_one first room (runs k) (test k) (begin + sum_by g (below k)) (g k) (pages k) (each k) (sizes k)))

-- single runs
pub map_single : {X : Type 0} (run : ℕ → X) (ks : List ℕ) → map run ks ≡ flat_map (λ k. run k ∷ []) ks
map_single run [] = refl
map_single run (k ∷ ks) = ap (λ more. run k ∷ more) (map_single run ks)

pub follow_single : {X : Type 0} (first room : X → ℕ) (run : ℕ → X) (test : ℕ → Bool) (pages g : ℕ → ℕ) (begin most : ℕ)
    → ((k : ℕ) → test k ≡ true → first (run k) ≡ begin + sum_by g (below k))
    → ((k : ℕ) → room (run k) ≡ pages k)
    → ((k : ℕ) → g k ≡ cond (test k) (pages k) 0)
    → LieFrom first room begin (map run (filter test (below most))) (begin + sum_by g (below most))
follow_single first room run test pages g begin most firsts rooms sizes =
    subst (λ files. LieFrom first room begin files (begin + sum_by g (below most))) (sym (map_single run (filter test (below most))))
    (follow_kept first room (λ k. run k ∷ []) test pages g begin most
    (λ k e. (firsts k e, ap (λ n. begin + sum_by g (below k) + n) (rooms k))) sizes)

-- where the structures lie, by sums, and the pages that each takes
abbrev pub begins : Catalog → Structure → ℕ
begins cat (ColumnFile table column) = column_begin cat table column
begins cat (SubtreeTable table) = subtree_begin cat table
begins cat (ClimbingIndex table column) = index_begin cat table column
begins cat (IdIndex table) = id_index_begin cat table

abbrev pub file_pages : ℕ × ℕ → ℕ
file_pages file = pages_of file.0 file.1

pub no_bytes : (count : ℕ) → pages_of count 0 ≡ 0
no_bytes count = div-zero (count + (per_page 0 - 1))

pub levels_are : (cat : Catalog) (tables : List ℕ) → files_pages (level_files cat tables) ≡ levels_pages cat tables
levels_are cat [] = refl
levels_are cat (table ∷ tables) =
    let one = sum_by-cons file_pages (count_of cat table, 4) (level_files cat tables) in
    let same = sum_by-cons (level_pages cat) table tables in
    let rest = levels_are cat tables in
    omega (arith, one, same, rest)

pub one_file : (count width : ℕ) → files_pages ((count, width) ∷ []) ≡ pages_of count width
one_file count width = let one = sum_by-cons file_pages (count, width) [] in omega (arith, one)

pub some_width : (each count : ℕ) (tables : List ℕ)
    → pages_of count (each * length tables) ≡ cond (is_empty tables) 0 (pages_of count (each * length tables))
some_width each count [] = let e : each * 0 ≡ 0 = omega arith in ap (pages_of count) e ∙ no_bytes count
some_width each count (table ∷ tables) = refl

pub id_pages : (cat : Catalog) (count : ℕ) (tables : List ℕ)
    → files_pages ((count, 8 * length tables) ∷ level_files cat tables)
    ≡ cond (is_empty tables) 0 (pages_of count (8 * length tables) + levels_pages cat tables)
id_pages cat count [] = one_file count 0 ∙ no_bytes count
id_pages cat count (table ∷ tables) =
    let one = sum_by-cons file_pages (count, 8 * length (table ∷ tables)) (level_files cat (table ∷ tables)) in
    let rest = levels_are cat (table ∷ tables) in
    omega (arith, one, rest)

module _ (cat : Catalog) where
  index_is : (table column : ℕ)
      → structure_pages cat (ClimbingIndex table column)
      ≡ 1 + (directory_pages cat table column + levels_pages cat (levels_of cat.schema table))
  index_is table column =
      let directory : ℕ × ℕ = (count_of cat table, directory_width cat.schema table column) in
      let levels = level_files cat (levels_of cat.schema table) in
      let first = sum_by-cons file_pages (1, 4) (directory ∷ levels) in
      let second = sum_by-cons file_pages directory levels in
      let rest = levels_are cat (levels_of cat.schema table) in
      omega (arith, first, second, rest)

  follow_columns : (table : ℕ)
      → LieFrom (begins cat) (structure_pages cat) (table_begin cat table) (map (ColumnFile table) (hidden_columns cat.schema table)) (subtree_begin cat table)
  follow_columns table =
      follow_single (begins cat) (structure_pages cat) (ColumnFile table) (is_hidden cat.schema table)
      (λ column. pages_of (count_of cat table) (width_at cat.schema table column)) (column_pages cat table)
      (table_begin cat table) (column_count cat.schema table) (λ column e. refl)
      (λ column. one_file (count_of cat table) (width_at cat.schema table column)) (λ column. refl)

  follow_indexes : (table : ℕ)
      → LieFrom (begins cat) (structure_pages cat) (indexes_begin cat table) (map (ClimbingIndex table) (hidden_columns cat.schema table)) (id_index_begin cat table)
  follow_indexes table =
      follow_single (begins cat) (structure_pages cat) (ClimbingIndex table) (is_hidden cat.schema table)
      (λ column. 1 + (directory_pages cat table column + levels_pages cat (levels_of cat.schema table))) (index_pages cat table)
      (indexes_begin cat table) (column_count cat.schema table) (λ column e. refl) (index_is table) (λ column. refl)

  follow_table : (table : ℕ)
      → LieFrom (begins cat) (structure_pages cat) (table_begin cat table) (structures_of cat.schema table) (table_begin cat table + table_pages cat table)
  follow_table table =
      let below_it = one_file (count_of cat table) (subtree_width cat.schema table) ∙ some_width 4 (count_of cat table) (descendants_of cat.schema table) in
      let middle : indexes_begin cat table ≡ subtree_begin cat table + structure_pages cat (SubtreeTable table) = omega (arith, below_it) in
      let above_it = id_pages cat (count_of cat table) (above_of cat.schema table) in
      let end : id_index_begin cat table + structure_pages cat (IdIndex table) ≡ table_begin cat table + table_pages cat table = omega (arith, above_it) in
      let rest = map (ClimbingIndex table) (hidden_columns cat.schema table) ++ IdIndex table ∷ [] in
      follow_on (begins cat) (structure_pages cat) (map (ColumnFile table) (hidden_columns cat.schema table)) (SubtreeTable table ∷ rest)
      (table_begin cat table) (subtree_begin cat table) (table_begin cat table + table_pages cat table) (follow_columns table) (
        refl,
        subst (λ b. LieFrom (begins cat) (structure_pages cat) b rest (table_begin cat table + table_pages cat table)) middle
            (follow_on (begins cat) (structure_pages cat) (map (ClimbingIndex table) (hidden_columns cat.schema table)) (IdIndex table ∷ [])
            (indexes_begin cat table) (id_index_begin cat table) (table_begin cat table + table_pages cat table) (follow_indexes table) (refl, end)),
      )

  pub follow_structures :
      LieFrom (begins cat) (structure_pages cat) (public_pages cat) (structures cat.schema) (table_begin cat (length cat.schema))
  follow_structures =
      follow_sums (begins cat) (structure_pages cat) (structures_of cat.schema) (table_pages cat) (public_pages cat) (length cat.schema)
      (λ table low. follow_table table)

  -- the spool and scratch
  unless : (b : Bool) (n : ℕ) → cond b 0 n ≡ cond (not b) n 0
  unless true n = refl
  unless false n = refl

  pub follow_spool : (half begin : ℕ) → static_end cat + half * half_pages cat ≡ begin
      → Follow block_room begin (spool_areas cat half) (begin + half_pages cat)
  follow_spool half begin e =
      follow_single (λ run. run.first) block_room (spool_area cat half) (has_spool cat.schema) (λ table. block_room (spool_area cat half table)) (spool_pages cat)
      begin (length cat.schema)
      (λ table h. omega (arith, e))
      (λ table. refl) (λ table. unless (is_empty (visible_columns cat.schema table)) (block_room (spool_area cat half table)))

  -- six areas, or eight
  areas_follow : (six : Bool)
      → Follow block_room (spool_end cat) (map (scratch_area cat) (below (cond six 6 8))) (spool_end cat + cond six 6 8 * scratch_pages cat)
  areas_follow true = (omega arith, (omega arith, (omega arith, (omega arith, (omega arith, (omega arith, omega arith))))))
  areas_follow false =
      (omega arith, (omega arith, (omega arith, (omega arith, (omega arith, (omega arith, (omega arith, (omega arith, omega arith))))))))

  pub follow_scratch : Follow block_room (spool_end cat) (scratch_areas cat) (scratch_end cat)
  follow_scratch = areas_follow (cat.version == 1)

  pub follow_appended : Follow block_room (scratch_end cat) (appended_areas cat) (need cat)
  follow_appended = (omega arith, (omega arith, omega arith))
