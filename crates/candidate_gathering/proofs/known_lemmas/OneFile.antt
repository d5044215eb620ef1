-- A page of a static file is one of no other: by the number of a page the table is found in whose files it lies, then the kind of file,
-- the column, and the part of an index.
use Rattle.std.proofs.Common.{◌≡◌, ◌∙◌, refl, ap, sym, subst, ℕ, zero, suc, ◌+◌, ◌<◌, ◌≤◌, Bool, true, false, cond, not, nat_lt, List, [], ◌∷◌, length, take, arith}
use Rattle.std.proofs.lemmas.Bool.{and_parts, ltb-false, ltb-true}
use Rattle.std.proofs.lemmas.List.{take-take}
use Rattle.std.proofs.lemmas.List.Sums.{sum_by_more, sum_by-take-le}
use Rattle.ghost_model.specs.core.Schema.{is_empty}
use Rattle.ghost_model.specs.core.Channel.{Catalog}
use Rattle.ghost_model.specs.forms.Runs.{Run, run_end, run_pages}
use Rattle.ghost_model.specs.forms.Layout.{is_hidden, levels_of, above_of, descendants_of, File, Cells, Subtrees, IndexHeader, IndexDirectory, IndexLevel, IdDirectory, IdLevel, run_of_file, subtree_table}
use Rattle.ghost_model.specs.forms.Slots.{has_file}
use Rattle.ghost_model.specs.laws.LayoutSums as sums
use Rattle.ghost_model.specs.laws.LayoutLaws.{LieAsSummed, LieInOrder}
use Rattle.ghost_model.specs.laws.SchemaTrees.{IsTree}
use Rattle.ghost_model.specs.laws.ShortWords.{column_count}
use Rattle.ghost_model.proofs.LayoutLemmas.Order.{sums_rise}
use Rattle.candidate_gathering.proofs.known_lemmas.TablesThere.{low_is_table, high_is_table}

-- numbers that never fall
abbrev Rises : (ℕ → ℕ) → Type 0
Rises f = (a b : ℕ) → a ≤ b → f a ≤ f b

abbrev IsAt : (f : ℕ → ℕ) (at number : ℕ) → Type 0
IsAt f at number = (f at ≤ number) × (number < f (at + 1))

one_place : (f : ℕ → ℕ) → Rises f → (number a b : ℕ) → IsAt f a number → IsAt f b number → a ≡ b
one_place f rises number a b at other = by (nat_lt a b) refl (nat_lt b a) refl
  where
    by : (less : Bool) → nat_lt a b ≡ less → (more : Bool) → nat_lt b a ≡ more → a ≡ b
    by true less more any =
        let low : a < b = ltb-true a b less in
        let up = rises (a + 1) b (omega (arith, low)) in
        absurd (omega (arith, up, at.1, other.0))
    by false less true more =
        let low : b < a = ltb-true b a more in
        let up = rises (b + 1) a (omega (arith, low)) in
        absurd (omega (arith, up, at.0, other.1))
    by false less false more =
        let high : b ≤ a = ltb-false a b less in
        let low : a ≤ b = ltb-false b a more in
        omega (arith, high, low)

-- the files of a structure by number: where there is no other, one lies on all pages up to this one
abbrev whole : (number : ℕ) → ℕ → ℕ
whole number zero = 0
whole number (suc part) = suc number + part

whole_rises : (number : ℕ) → Rises (whole number)
whole_rises number zero b low = omega arith
whole_rises number (suc a) zero low = absurd (omega (arith, low))
whole_rises number (suc a) (suc b) low = omega (arith, low)

whole_at : (number : ℕ) → IsAt (whole number) 0 number
whole_at number = (omega arith, omega arith)

-- the place of a file: its table, its kind, its column, and its part
abbrev table_in : File → ℕ
table_in (Cells table column) = table
table_in (Subtrees table) = table
table_in (IndexHeader table column) = table
table_in (IndexDirectory table column) = table
table_in (IndexLevel table column level) = table
table_in (IdDirectory table) = table
table_in (IdLevel table level) = table

abbrev kind_in : File → ℕ
kind_in (Cells table column) = 0
kind_in (Subtrees table) = 1
kind_in (IndexHeader table column) = 2
kind_in (IndexDirectory table column) = 2
kind_in (IndexLevel table column level) = 2
kind_in (IdDirectory table) = 3
kind_in (IdLevel table level) = 3

abbrev column_in : File → ℕ
column_in (Cells table column) = column
column_in (Subtrees table) = 0
column_in (IndexHeader table column) = column
column_in (IndexDirectory table column) = column
column_in (IndexLevel table column level) = column
column_in (IdDirectory table) = 0
column_in (IdLevel table level) = 0

abbrev part_in : File → ℕ
part_in (Cells table column) = 0
part_in (Subtrees table) = 0
part_in (IndexHeader table column) = 0
part_in (IndexDirectory table column) = 1
part_in (IndexLevel table column level) = suc (suc level)
part_in (IdDirectory table) = 0
part_in (IdLevel table level) = suc level

abbrev file_at : (kind table column part : ℕ) → File
file_at zero table column part = Cells table column
file_at (suc zero) table column part = Subtrees table
file_at (suc (suc zero)) table column zero = IndexHeader table column
file_at (suc (suc zero)) table column (suc zero) = IndexDirectory table column
file_at (suc (suc zero)) table column (suc (suc level)) = IndexLevel table column level
file_at (suc (suc (suc kind))) table column zero = IdDirectory table
file_at (suc (suc (suc kind))) table column (suc level) = IdLevel table level

file_is : (file : File) → file_at (kind_in file) (table_in file) (column_in file) (part_in file) ≡ file
file_is (Cells table column) = refl
file_is (Subtrees table) = refl
file_is (IndexHeader table column) = refl
file_is (IndexDirectory table column) = refl
file_is (IndexLevel table column level) = refl
file_is (IdDirectory table) = refl
file_is (IdLevel table level) = refl

module _ (cat : Catalog) where
  -- where the kinds of a table's files begin, the columns of a kind, and the parts of an index
  abbrev kinds : (table : ℕ) → ℕ → ℕ
  kinds table zero = sums.table_begin cat table
  kinds table (suc zero) = sums.subtree_begin cat table
  kinds table (suc (suc zero)) = sums.indexes_begin cat table
  kinds table (suc (suc (suc zero))) = sums.id_index_begin cat table
  kinds table (suc (suc (suc (suc more)))) = sums.id_index_begin cat table + sums.id_index_pages cat table

  abbrev columns : (number table kind : ℕ) → ℕ → ℕ
  columns number table zero = sums.column_begin cat table
  columns number table (suc zero) = whole number
  columns number table (suc (suc zero)) = sums.index_begin cat table
  columns number table (suc (suc (suc kind))) = whole number

  abbrev index_parts : (table column : ℕ) → ℕ → ℕ
  index_parts table column zero = sums.index_begin cat table column
  index_parts table column (suc zero) = sums.index_begin cat table column + 1
  index_parts table column (suc (suc level)) =
      sums.index_begin cat table column + 1 + sums.directory_pages cat table column + sums.levels_pages cat (take level (levels_of cat.schema table))

  abbrev id_parts : (table : ℕ) → ℕ → ℕ
  id_parts table zero = sums.id_index_begin cat table
  id_parts table (suc level) = sums.id_index_begin cat table + sums.id_directory_pages cat table + sums.levels_pages cat (take level (above_of cat.schema table))

  abbrev parts : (number table kind column : ℕ) → ℕ → ℕ
  parts number table zero column = whole number
  parts number table (suc zero) column = whole number
  parts number table (suc (suc zero)) column = index_parts table column
  parts number table (suc (suc (suc kind))) column = id_parts table

  kinds_rise : (table : ℕ) → Rises (kinds table)
  kinds_rise table a b low = by a b low
    where
      first : (b : ℕ) → kinds table 0 ≤ kinds table b
      first zero = omega arith
      first (suc zero) = omega arith
      first (suc (suc zero)) = omega arith
      first (suc (suc (suc zero))) = omega arith
      first (suc (suc (suc (suc more)))) = omega arith

      second : (b : ℕ) → kinds table 1 ≤ kinds table (suc b)
      second zero = omega arith
      second (suc zero) = omega arith
      second (suc (suc zero)) = omega arith
      second (suc (suc (suc more))) = omega arith

      third : (b : ℕ) → kinds table 2 ≤ kinds table (suc (suc b))
      third zero = omega arith
      third (suc zero) = omega arith
      third (suc (suc more)) = omega arith

      fourth : (b : ℕ) → kinds table 3 ≤ kinds table (suc (suc (suc b)))
      fourth zero = omega arith
      fourth (suc more) = omega arith

      by : (a b : ℕ) → a ≤ b → kinds table a ≤ kinds table b
      by zero b low = first b
      by (suc zero) zero low = absurd (omega (arith, low))
      by (suc zero) (suc b) low = second b
      by (suc (suc zero)) zero low = absurd (omega (arith, low))
      by (suc (suc zero)) (suc zero) low = absurd (omega (arith, low))
      by (suc (suc zero)) (suc (suc b)) low = third b
      by (suc (suc (suc zero))) zero low = absurd (omega (arith, low))
      by (suc (suc (suc zero))) (suc zero) low = absurd (omega (arith, low))
      by (suc (suc (suc zero))) (suc (suc zero)) low = absurd (omega (arith, low))
      by (suc (suc (suc zero))) (suc (suc (suc b))) low = fourth b
      by (suc (suc (suc (suc a)))) zero low = absurd (omega (arith, low))
      by (suc (suc (suc (suc a)))) (suc zero) low = absurd (omega (arith, low))
      by (suc (suc (suc (suc a)))) (suc (suc zero)) low = absurd (omega (arith, low))
      by (suc (suc (suc (suc a)))) (suc (suc (suc zero))) low = absurd (omega (arith, low))
      by (suc (suc (suc (suc a)))) (suc (suc (suc (suc b)))) low = omega arith

  columns_rise : (number table kind : ℕ) → Rises (columns number table kind)
  columns_rise number table zero a b low = let rise = sums_rise (sums.column_pages cat table) a b low in omega (arith, rise)
  columns_rise number table (suc zero) a b low = whole_rises number a b low
  columns_rise number table (suc (suc zero)) a b low = let rise = sums_rise (sums.index_pages cat table) a b low in omega (arith, rise)
  columns_rise number table (suc (suc (suc kind))) a b low = whole_rises number a b low

  levels_rise : (tables : List ℕ) (a b : ℕ) → a ≤ b → sums.levels_pages cat (take a tables) ≤ sums.levels_pages cat (take b tables)
  levels_rise tables a b low =
      let part = sum_by-take-le (sums.level_pages cat) (take b tables) a in
      let L : List ℕ → Type 0 = λ xs. sums.levels_pages cat xs ≤ sums.levels_pages cat (take b tables) in
      subst L (take-take a b tables low) part

  parts_rise : (number table kind column : ℕ) → Rises (parts number table kind column)
  parts_rise number table zero column a b low = whole_rises number a b low
  parts_rise number table (suc zero) column a b low = whole_rises number a b low
  parts_rise number table (suc (suc zero)) column zero zero low = omega arith
  parts_rise number table (suc (suc zero)) column zero (suc zero) low = omega arith
  parts_rise number table (suc (suc zero)) column zero (suc (suc b)) low = omega arith
  parts_rise number table (suc (suc zero)) column (suc zero) zero low = absurd (omega (arith, low))
  parts_rise number table (suc (suc zero)) column (suc zero) (suc zero) low = omega arith
  parts_rise number table (suc (suc zero)) column (suc zero) (suc (suc b)) low = omega arith
  parts_rise number table (suc (suc zero)) column (suc (suc a)) zero low = absurd (omega (arith, low))
  parts_rise number table (suc (suc zero)) column (suc (suc a)) (suc zero) low = absurd (omega (arith, low))
  parts_rise number table (suc (suc zero)) column (suc (suc a)) (suc (suc b)) low = let rise = levels_rise (levels_of cat.schema table) a b (omega (arith, low)) in omega (arith, rise)
  parts_rise number table (suc (suc (suc kind))) column zero zero low = omega arith
  parts_rise number table (suc (suc (suc kind))) column zero (suc b) low = omega arith
  parts_rise number table (suc (suc (suc kind))) column (suc a) zero low = absurd (omega (arith, low))
  parts_rise number table (suc (suc (suc kind))) column (suc a) (suc b) low = let rise = levels_rise (above_of cat.schema table) a b (omega (arith, low)) in omega (arith, rise)

  -- a page lies where the file does
  pub record LiesAt (number table kind column part : ℕ) : Type 0 where
    pub at_table : IsAt (sums.table_begin cat) table number
    pub at_kind : IsAt (kinds table) kind number
    pub at_column : IsAt (columns number table kind) column number
    pub at_part : IsAt (parts number table kind column) part number

  one_spot : LieInOrder cat → (number : ℕ) (file other : File) → LiesAt number (table_in file) (kind_in file) (column_in file) (part_in file)
      → LiesAt number (table_in other) (kind_in other) (column_in other) (part_in other) → file ≡ other
  one_spot order number file other here there =
      let tables = one_place (sums.table_begin cat) order.tables number (table_in file) (table_in other) here.at_table there.at_table in
      let K : ℕ → Type 0 = λ t. IsAt (kinds t) (kind_in other) number in
      let sorts = one_place (kinds (table_in file)) (kinds_rise (table_in file)) number (kind_in file) (kind_in other) here.at_kind (subst K (sym tables) there.at_kind) in
      let C : ℕ → ℕ → Type 0 = λ t k. IsAt (columns number t k) (column_in other) number in
      let Ct : ℕ → Type 0 = λ t. C t (kind_in other) in
      let Ck : ℕ → Type 0 = λ k. C (table_in file) k in
      let held = one_place (columns number (table_in file) (kind_in file)) (columns_rise number (table_in file) (kind_in file)) number (column_in file) (column_in other) here.at_column
      (subst Ck (sym sorts) (subst Ct (sym tables) there.at_column)) in
      let P : ℕ → ℕ → ℕ → Type 0 = λ t k c. IsAt (parts number t k c) (part_in other) number in
      let Pt : ℕ → Type 0 = λ t. P t (kind_in other) (column_in other) in
      let Pk : ℕ → Type 0 = λ k. P (table_in file) k (column_in other) in
      let Pc : ℕ → Type 0 = λ c. P (table_in file) (kind_in file) c in
      let piece = one_place (parts number (table_in file) (kind_in file) (column_in file)) (parts_rise number (table_in file) (kind_in file) (column_in file)) number (part_in file) (part_in other)
      here.at_part (subst Pc (sym held) (subst Pk (sym sorts) (subst Pt (sym tables) there.at_part))) in
      sym (file_is file)
      ∙ (λ i. file_at (sorts i) (tables i) (held i) (piece i))
      ∙ file_is other

  module _ (tree : IsTree cat.schema) (laid : LieAsSummed cat) (order : LieInOrder cat) (number : ℕ) where
    -- where a kind's pages end in those of its table
    in_table : (table kind : ℕ) → kind < 4 → IsAt (kinds table) kind number → IsAt (sums.table_begin cat) table number
    in_table table kind low at =
        let next = order.next_table table in
        let from = kinds_rise table 0 kind (omega arith) in
        let to = kinds_rise table (kind + 1) 4 (omega (arith, low)) in
        (omega (arith, from, at.0), omega (arith, next, to, at.1))

    in_cells : (table column : ℕ) → is_hidden cat.schema table column ≡ true → (first : (run_of_file cat (Cells table column)).first ≤ number) → number < run_end (run_of_file cat (Cells table column))
        → LiesAt number table 0 column 0
    in_cells table column h from to =
        let first = laid.column_file table column h in
        let pages = ap (λ b. cond b (run_pages (run_of_file cat (Cells table column))) 0) h in
        let next = order.next_column table column in
        let there = order.there_are table column h in
        let begin = sums_rise (sums.column_pages cat table) 0 column (omega arith) in
        let rise = sums_rise (sums.column_pages cat table) (column + 1) (column_count cat.schema table) (omega (arith, there.1)) in
        let at_column : IsAt (sums.column_begin cat table) column number = (omega (arith, first, from), omega (arith, first, to, pages, next)) in
        let at_kind : IsAt (kinds table) 0 number = (omega (arith, at_column.0), omega (arith, at_column.1, rise)) in
        record { at_table = in_table table 0 (omega arith) at_kind; at_kind = at_kind; at_column = at_column; at_part = whole_at number }

    in_subtrees : (table : ℕ) → is_empty (descendants_of cat.schema table) ≡ false → (subtree_table cat table).first ≤ number → number < run_end (subtree_table cat table)
        → LiesAt number table 1 0 0
    in_subtrees table below from to =
        let first = laid.subtree_table table (high_is_table cat.schema table below) in
        let pages = ap (λ b. cond b 0 (run_pages (subtree_table cat table))) below in
        let at_kind : IsAt (kinds table) 1 number = (omega (arith, first, from), omega (arith, first, to, pages)) in
        record { at_table = in_table table 1 (omega arith) at_kind; at_kind = at_kind; at_column = whole_at number; at_part = whole_at number }

    -- a part of the index of a column
    in_index : (table column part : ℕ) → is_hidden cat.schema table column ≡ true → IsAt (index_parts table column) part number
        → number < sums.index_begin cat table column + (1 + (sums.directory_pages cat table column + sums.levels_pages cat (levels_of cat.schema table)))
        → LiesAt number table 2 column part
    in_index table column part h at end =
        let pages = ap (λ b. cond b (1 + (sums.directory_pages cat table column + sums.levels_pages cat (levels_of cat.schema table))) 0) h in
        let next = order.next_index table column in
        let there = order.there_are table column h in
        let rise = sums_rise (sums.index_pages cat table) (column + 1) (column_count cat.schema table) (omega (arith, there.1)) in
        let from = parts_rise number table 2 column 0 part (omega arith) in
        let at_column : IsAt (sums.index_begin cat table) column number = (omega (arith, from, at.0), omega (arith, end, pages, next)) in
        let at_kind : IsAt (kinds table) 2 number = (omega (arith, at_column.0), omega (arith, at_column.1, rise)) in
        record { at_table = in_table table 2 (omega arith) at_kind; at_kind = at_kind; at_column = at_column; at_part = at }

    in_ids : (table part : ℕ) → is_empty (above_of cat.schema table) ≡ false → IsAt (id_parts table) part number
        → number < sums.id_index_begin cat table + (sums.id_directory_pages cat table + sums.levels_pages cat (above_of cat.schema table))
        → LiesAt number table 3 0 part
    in_ids table part above at end =
        let pages = ap (λ b. cond b 0 (sums.id_directory_pages cat table + sums.levels_pages cat (above_of cat.schema table))) above in
        let from = parts_rise number table 3 0 0 part (omega arith) in
        let at_kind : IsAt (kinds table) 3 number = (omega (arith, from, at.0), omega (arith, end, pages)) in
        record { at_table = in_table table 3 (omega arith) at_kind; at_kind = at_kind; at_column = whole_at number; at_part = at }

    not_empty : (b : Bool) → not b ≡ true → b ≡ false
    not_empty true e = absurd (cc e)
    not_empty false e = refl

    some_of : (xs : List ℕ) (level : ℕ) → level < length xs → is_empty xs ≡ false
    some_of [] level low = absurd (omega (arith, low))
    some_of (x ∷ xs) level low = refl

    pub lies_at : (file : File) → has_file cat.schema file ≡ true → (run_of_file cat file).first ≤ number → number < run_end (run_of_file cat file)
        → LiesAt number (table_in file) (kind_in file) (column_in file) (part_in file)
    lies_at (Cells table column) has from to = in_cells table column has from to
    lies_at (Subtrees table) has from to = in_subtrees table (not_empty (is_empty (descendants_of cat.schema table)) has) from to
    lies_at (IndexHeader table column) has from to =
        let first = laid.index_header table column has in
        in_index table column 0 has (omega (arith, first, from), omega (arith, first, to)) (omega (arith, first, to))
    lies_at (IndexDirectory table column) has from to =
        let first = laid.index_directory table column has in
        in_index table column 1 has (omega (arith, first, from), omega (arith, first, to)) (omega (arith, first, to))
    lies_at (IndexLevel table column level) has from to =
        let both = and_parts (is_hidden cat.schema table column) (nat_lt level (length (levels_of cat.schema table))) has in
        let low = ltb-true level (length (levels_of cat.schema table)) both.1 in
        let levels = levels_of cat.schema table in
        let is = laid.index_level table column level both.0 low in
        let first = ap (λ (r : Run). r.first) is in
        let ends = ap run_end is in
        let more = sum_by_more (sums.level_pages cat) levels level 0 low in
        let within = sum_by-take-le (sums.level_pages cat) levels (level + 1) in
        let up : suc (suc level) + 1 ≡ suc (suc (level + 1)) = omega arith in
        let behind = ap (index_parts table column) up in
        in_index table column (suc (suc level)) both.0 (omega (arith, first, from), omega (arith, behind, ends, to, more)) (omega (arith, ends, to, more, within))
    lies_at (IdDirectory table) has from to =
        let above = not_empty (is_empty (above_of cat.schema table)) has in
        let first = laid.id_directory table (low_is_table cat.schema tree table above) in
        in_ids table 0 above (omega (arith, first, from), omega (arith, first, to)) (omega (arith, first, to))
    lies_at (IdLevel table level) has from to =
        let low = ltb-true level (length (above_of cat.schema table)) has in
        let levels = above_of cat.schema table in
        let above = some_of levels level low in
        let is = laid.id_level table level (low_is_table cat.schema tree table above) low in
        let first = ap (λ (r : Run). r.first) is in
        let ends = ap run_end is in
        let more = sum_by_more (sums.level_pages cat) levels level 0 low in
        let within = sum_by-take-le (sums.level_pages cat) levels (level + 1) in
        let up : suc level + 1 ≡ suc (level + 1) = omega arith in
        let behind = ap (id_parts table) up in
        in_ids table (suc level) above (omega (arith, first, from), omega (arith, behind, ends, to, more)) (omega (arith, ends, to, more, within))

    pub one_file : (file other : File) → has_file cat.schema file ≡ true → has_file cat.schema other ≡ true
        → (run_of_file cat file).first ≤ number → number < run_end (run_of_file cat file)
        → (run_of_file cat other).first ≤ number → number < run_end (run_of_file cat other) → file ≡ other
    one_file file other has too from to low high = one_spot order number file other (lies_at file has from to) (lies_at other too low high)
