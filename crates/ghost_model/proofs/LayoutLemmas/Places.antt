-- The sums give the places of files.
use Rattle.std.proofs.Common.{◌≡◌, refl, ap, sym, ◌∙◌, subst, ℕ, zero, suc, ◌+◌, ◌<◌, Bool, true, false, not, cond, ◌&&◌, ◌==◌, List, [], ◌∷◌, ◌++◌, length, map, take, filter, flat_map, sum_by, slice_get, slice_index, get_or, inl, inr, arith}
use Rattle.std.specs.List.{range_with_len, before_first, take-map}
use Rattle.std.proofs.lemmas.Bool.{cases_lt, and_parts, eqb-true, eq-eqb}
use Rattle.std.proofs.lemmas.List.{append_assoc, map-append}
use Rattle.std.proofs.lemmas.List.Elements.{filter-append}
use Rattle.std.proofs.lemmas.List.Sums.{sum_by-cons, sum_by_more, take_while-cons}
use Rattle.std.proofs.lemmas.Grind.{flat_map-append}
use Rattle.std.proofs.lemmas.Option.{slice_get_past}
use Rattle.std.proofs.Math.Seq.{take-length}
use Rattle.ghost_model.specs.core.Schema.{Schema, columns_or_none, columns_of}
use Rattle.ghost_model.specs.core.Channel.{Catalog}
use Rattle.ghost_model.specs.forms.Runs.{Run, run_pages}
use Rattle.ghost_model.specs.forms.Gaps.{room_of}
use Rattle.ghost_model.specs.forms.Layout.{below, is_hidden, hidden_columns, levels_of, above_of, count_of, Structure, ColumnFile, SubtreeTable, ClimbingIndex, IdIndex, is_same, structures, level_files, files_of, files_pages, structure_pages, public_pages, first_page, run_of, files_end, static_end, half_pages, spool_end}
use Rattle.ghost_model.specs.laws.ShortWords.{static_files, spool_areas, structures_of, column_count}
use Rattle.ghost_model.specs.laws.LayoutSums.{levels_pages, directory_width, id_directory_width, directory_pages, id_directory_pages, index_begin, id_index_begin, table_begin}
use Rattle.ghost_model.specs.laws.LayoutSums as sums
use Rattle.ghost_model.specs.laws.LayoutLaws.{LieFrom, Follow, block_room, FollowOneAnother, LieAsSummed}
use Rattle.ghost_model.proofs.LayoutLemmas.Columns.{hidden_or_none}
use Rattle.ghost_model.proofs.LayoutLemmas.Following.{follow_on, follow_each, map_single, begins, file_pages, levels_are, follow_structures, follow_spool, follow_scratch, follow_appended}

pub table_there : (schema : Schema) (table column : ℕ) → is_hidden schema table column ≡ true → table < length schema
table_there schema table column h =
    elim (cases_lt table (length schema)) [
      | inl less ↦ less
      | inr past ↦ (let none : is_hidden schema table column ≡ false = ap (λ held. hidden_or_none (slice_get (columns_or_none held) column)) (slice_get_past schema table past) in
          let clash : false ≡ true = sym none ∙ h in absurd (cc (clash)))
    ]

pub column_there : (schema : Schema) (table column : ℕ) → is_hidden schema table column ≡ true → column < column_count schema table
column_there schema table column h =
    elim (cases_lt column (column_count schema table)) [
      | inl less ↦ less
      | inr past ↦ (let none : is_hidden schema table column ≡ false = ap hidden_or_none (slice_get_past (columns_of schema table) column past) in
          let clash : false ≡ true = sym none ∙ h in absurd (cc (clash)))
    ]

-- an element stands in a list
record Among {X : Type 0} (x : X) (xs : List X) : Type 0 where
  before : List X
  after : List X
  is : xs ≡ before ++ x ∷ after

in_left : {X : Type 0} {x : X} {xs : List X} (more : List X) → Among x xs → Among x (xs ++ more)
in_left {x = x} more m = record {
  before = m.before;
  after = m.after ++ more;
  is = ap (λ ys. ys ++ more) m.is ∙ append_assoc m.before (x ∷ m.after) more;
}

in_right : {X : Type 0} {x : X} {xs : List X} (more : List X) → Among x xs → Among x (more ++ xs)
in_right {x = x} more m = record {
  before = more ++ m.before;
  after = m.after;
  is = ap (λ ys. more ++ ys) m.is ∙ sym (append_assoc more m.before (x ∷ m.after));
}

first_of_all : {X : Type 0} (x : X) (xs : List X) → Among x (x ∷ xs)
first_of_all x xs = record { before = []; after = xs; is = refl }

mapped : {X Y : Type 0} {x : X} {xs : List X} (f : X → Y) → Among x xs → Among (f x) (map f xs)
mapped {x = x} f m = record {
  before = map f m.before;
  after = map f m.after;
  is = ap (map f) m.is ∙ map-append f m.before (x ∷ m.after);
}

passed : {X : Type 0} {x : X} {xs : List X} (test : X → Bool) → test x ≡ true → Among x xs → Among x (filter test xs)
passed {x = x} test h m = record {
  before = filter test m.before;
  after = filter test m.after;
  is =
      ap (filter test) m.is
      ∙ (filter-append test m.before (x ∷ m.after)
      ∙ ap (λ b. filter test m.before ++ cond b (x ∷ filter test m.after) (filter test m.after)) h);
}

in_each : {X Y : Type 0} {x : X} {y : Y} {xs : List X} (f : X → List Y) → Among y (f x) → Among x xs → Among y (flat_map f xs)
in_each {x = x} {y = y} f one m =
    subst (Among y) (sym (ap (flat_map f) m.is ∙ flat_map-append f m.before (x ∷ m.after)))
    (in_right (flat_map f m.before) (in_left (flat_map f m.after) one))

in_range : (from k count : ℕ) → k < count → Among (from + k) (range_with_len from count)
in_range from k zero low = absurd (omega (arith, low))
in_range from zero (suc count) low =
    let e : from ≡ from + 0 = omega arith in subst (λ n. Among n (range_with_len from (suc count))) e (first_of_all from (range_with_len (from + 1) count))
in_range from (suc k) (suc count) low =
    let e : from + 1 + k ≡ from + suc k = omega arith in
    subst (λ n. Among n (range_with_len from (suc count))) e (in_right (from ∷ []) (in_range (from + 1) k count (omega (arith, low))))

in_below : (k count : ℕ) → k < count → Among k (below count)
in_below k count low = let e : 0 + k ≡ k = omega arith in subst (λ n. Among n (below count)) e (in_range 0 k count low)

-- structures that are told to be the same are
same_numbers : (a b c d : ℕ) → (a == b && c == d) ≡ true → (a ≡ b) × (c ≡ d)
same_numbers a b c d e = let both = and_parts (a == b) (c == d) e in (eqb-true a b both.0, eqb-true c d both.1)

same_is : (one other : Structure) → is_same one other ≡ true → one ≡ other
same_is (ColumnFile table column) (ColumnFile other at) e = let same = same_numbers table other column at e in λ i. ColumnFile (same.0 i) (same.1 i)
same_is (ColumnFile table column) (SubtreeTable other) e = absurd (cc (e))
same_is (ColumnFile table column) (ClimbingIndex other at) e = absurd (cc (e))
same_is (ColumnFile table column) (IdIndex other) e = absurd (cc (e))
same_is (SubtreeTable table) (ColumnFile other at) e = absurd (cc (e))
same_is (SubtreeTable table) (SubtreeTable other) e = ap SubtreeTable (eqb-true table other e)
same_is (SubtreeTable table) (ClimbingIndex other at) e = absurd (cc (e))
same_is (SubtreeTable table) (IdIndex other) e = absurd (cc (e))
same_is (ClimbingIndex table column) (ColumnFile other at) e = absurd (cc (e))
same_is (ClimbingIndex table column) (SubtreeTable other) e = absurd (cc (e))
same_is (ClimbingIndex table column) (ClimbingIndex other at) e = let same = same_numbers table other column at e in λ i. ClimbingIndex (same.0 i) (same.1 i)
same_is (ClimbingIndex table column) (IdIndex other) e = absurd (cc (e))
same_is (IdIndex table) (ColumnFile other at) e = absurd (cc (e))
same_is (IdIndex table) (SubtreeTable other) e = absurd (cc (e))
same_is (IdIndex table) (ClimbingIndex other at) e = absurd (cc (e))
same_is (IdIndex table) (IdIndex other) e = ap IdIndex (eqb-true table other e)

itself : (one : Structure) → is_same one one ≡ true
itself (ColumnFile table column) = λ i. eq-eqb table table refl i && eq-eqb column column refl i
itself (SubtreeTable table) = eq-eqb table table refl
itself (ClimbingIndex table column) = λ i. eq-eqb table table refl i && eq-eqb column column refl i
itself (IdIndex table) = eq-eqb table table refl

-- where things lie one after another, each begins after the room of those before it
module _ {X : Type 0} (first room : X → ℕ) (same : X → Bool) (x : X) (own : same x ≡ true) (only : (y : X) → same y ≡ true → x ≡ y) where
  none_before : (y : X) (ys : List X) → same y ≡ true → sum_by room (before_first same (y ∷ ys)) ≡ 0
  none_before y ys e =
      ap (sum_by room) (take_while-cons (λ z. not (same z)) y ys ∙ ap (λ b. cond (not b) (y ∷ before_first same ys) []) e)

  one_before : (y : X) (ys : List X) → same y ≡ false → sum_by room (before_first same (y ∷ ys)) ≡ room y + sum_by room (before_first same ys)
  one_before y ys e =
      ap (sum_by room) (take_while-cons (λ z. not (same z)) y ys ∙ ap (λ b. cond (not b) (y ∷ before_first same ys) []) e)
      ∙ sum_by-cons room y (before_first same ys)

  begins_by : (b : Bool) (y : X) (ys : List X) (begin : ℕ) → same y ≡ b → first y ≡ begin
      → begin + room y + sum_by room (before_first same ys) ≡ first x
      → begin + sum_by room (before_first same (y ∷ ys)) ≡ first x
  begins_by true y ys begin e here later = let none = none_before y ys e in let is = ap first (only y e) in omega (arith, none, is, here)
  begins_by false y ys begin e here later = let one = one_before y ys e in omega (arith, one, later)

  begins_after : (before after : List X) (begin end : ℕ) → LieFrom first room begin (before ++ x ∷ after) end
      → begin + sum_by room (before_first same (before ++ x ∷ after)) ≡ first x
  begins_after [] after begin end lies = let none = none_before x after own in omega (arith, none, lies.0)
  begins_after (y ∷ before) after begin end lies =
      begins_by (same y) y (before ++ x ∷ after) begin refl lies.0 (begins_after before after (begin + room y) end lies.1)

whole_room : {X : Type 0} (first room : X → ℕ) (xs : List X) (begin end : ℕ) → LieFrom first room begin xs end → begin + sum_by room xs ≡ end
whole_room first room [] begin end lies = omega (arith, lies)
whole_room first room (x ∷ xs) begin end lies =
    let one = sum_by-cons room x xs in let rest = whole_room first room xs (begin + room x) end lies.1 in omega (arith, one, rest)

-- the runs of things that lie one after another
spread : {X : Type 0} (first room : X → ℕ) (runs : X → List Run) (xs : List X) (begin end : ℕ) → LieFrom first room begin xs end
    → ((x : X) → Among x xs → Follow run_pages (first x) (runs x) (first x + room x))
    → Follow run_pages begin (flat_map runs xs) end
spread first room runs [] begin end lies each = lies
spread first room runs (x ∷ xs) begin end lies each =
    follow_on (λ run. run.first) run_pages (runs x) (flat_map runs xs) begin (begin + room x) end
    (subst (λ b. Follow run_pages b (runs x) (b + room x)) lies.0 (each x (first_of_all x xs)))
    (spread first room runs xs (begin + room x) end lies.1 (λ y m. each y (in_right (x ∷ []) m)))

level_at : (cat : Catalog) (tables : List ℕ) (level : ℕ) → level < length tables
    → get_or (level_files cat tables) level (0, 0) ≡ (count_of cat (slice_index tables level), 4)
level_at cat [] level low = absurd (omega (arith, low))
level_at cat (table ∷ tables) zero low = refl
level_at cat (table ∷ tables) (suc level) low = level_at cat tables level (omega (arith, low))

levels_before : (cat : Catalog) (tables : List ℕ) (level : ℕ) → files_pages (take level (level_files cat tables)) ≡ levels_pages cat (take level tables)
levels_before cat tables level =
    ap files_pages (take-map (λ table. (count_of cat table, 4)) level tables) ∙ levels_are cat (take level tables)

runs_same : {run file : Run} → run.first ≡ file.first → run.count ≡ file.count → run.width ≡ file.width → run ≡ file
runs_same first count width = λ i. record { first = first i; count = count i; width = width i }

module _ (cat : Catalog) where
  of_table : (one : Structure) (table : ℕ) → table < length cat.schema → Among one (structures_of cat.schema table) → Among one (structures cat.schema)
  of_table one table low m = in_each (structures_of cat.schema) m (in_below table (length cat.schema) low)

  hidden_there : (table column : ℕ) → is_hidden cat.schema table column ≡ true → Among column (hidden_columns cat.schema table)
  hidden_there table column h =
      passed (is_hidden cat.schema table) h (in_below column (column_count cat.schema table) (column_there cat.schema table column h))

  file_there : (table column : ℕ) → is_hidden cat.schema table column ≡ true → Among (ColumnFile table column) (structures cat.schema)
  file_there table column h =
      of_table (ColumnFile table column) table (table_there cat.schema table column h)
      (in_left (SubtreeTable table ∷ (map (ClimbingIndex table) (hidden_columns cat.schema table) ++ IdIndex table ∷ []))
      (mapped (ColumnFile table) (hidden_there table column h)))

  subtree_there : (table : ℕ) → table < length cat.schema → Among (SubtreeTable table) (structures cat.schema)
  subtree_there table low =
      of_table (SubtreeTable table) table low
      (in_right (map (ColumnFile table) (hidden_columns cat.schema table))
      (first_of_all (SubtreeTable table) (map (ClimbingIndex table) (hidden_columns cat.schema table) ++ IdIndex table ∷ [])))

  index_there : (table column : ℕ) → is_hidden cat.schema table column ≡ true → Among (ClimbingIndex table column) (structures cat.schema)
  index_there table column h =
      of_table (ClimbingIndex table column) table (table_there cat.schema table column h)
      (in_right (map (ColumnFile table) (hidden_columns cat.schema table))
      (in_right (SubtreeTable table ∷ []) (in_left (IdIndex table ∷ []) (mapped (ClimbingIndex table) (hidden_there table column h)))))

  id_there : (table : ℕ) → table < length cat.schema → Among (IdIndex table) (structures cat.schema)
  id_there table low =
      of_table (IdIndex table) table low
      (in_right (map (ColumnFile table) (hidden_columns cat.schema table))
      (in_right (SubtreeTable table ∷ [])
      (in_right (map (ClimbingIndex table) (hidden_columns cat.schema table)) (first_of_all (IdIndex table) []))))

  place_is : (one : Structure) → Among one (structures cat.schema) → (place : ℕ)
      → first_page cat one place ≡ begins cat one + files_pages (take place (files_of cat one))
  unfolding first_page
  place_is one m place =
      let lies = subst (λ all. LieFrom (begins cat) (structure_pages cat) (public_pages cat) all (table_begin cat (length cat.schema))) m.is (follow_structures cat) in
      let begin = begins_after (begins cat) (structure_pages cat) (is_same one) one (itself one) (same_is one) m.before m.after (public_pages cat) (table_begin cat (length cat.schema)) lies in
      ap (λ all. public_pages cat + sum_by (structure_pages cat) (before_first (is_same one) all) + files_pages (take place (files_of cat one))) m.is
      ∙ ap (λ n. n + files_pages (take place (files_of cat one))) begin

  pub end_is : files_end cat ≡ table_begin cat (length cat.schema)
  unfolding files_end
  end_is = whole_room (begins cat) (structure_pages cat) (structures cat.schema) (public_pages cat) (table_begin cat (length cat.schema)) (follow_structures cat)

  first_is : (one : Structure) → Among one (structures cat.schema) → first_page cat one 0 ≡ begins cat one
  first_is one m = let place = place_is one m 0 in omega (arith, place)

  directory_is : (table column : ℕ) → is_hidden cat.schema table column ≡ true
      → first_page cat (ClimbingIndex table column) 1 ≡ index_begin cat table column + 1
  directory_is table column h =
      let place = place_is (ClimbingIndex table column) (index_there table column h) 1 in
      let header = sum_by-cons file_pages (1, 4) [] in
      omega (arith, place, header)

  level_is : (table column level : ℕ) → is_hidden cat.schema table column ≡ true → level < length (levels_of cat.schema table)
      → room_of (run_of cat (ClimbingIndex table column) (2 + level)) ≡ sums.summed_index_level cat table column level
  level_is table column level h low =
      let directory : ℕ × ℕ = (count_of cat table, directory_width cat.schema table column) in
      let levels = level_files cat (levels_of cat.schema table) in
      let place = place_is (ClimbingIndex table column) (index_there table column h) (suc (suc level)) in
      let header = sum_by-cons file_pages (1, 4) (directory ∷ take level levels) in
      let next = sum_by-cons file_pages directory (take level levels) in
      let before = levels_before cat (levels_of cat.schema table) level in
      let e : 2 + level ≡ suc (suc level) = omega arith in
      let at = level_at cat (levels_of cat.schema table) level low in
      let file : Run = record {
        first = index_begin cat table column + 1 + directory_pages cat table column + levels_pages cat (take level (levels_of cat.schema table));
        count = count_of cat (slice_index (levels_of cat.schema table) level);
        width = 4;
      } in
      let same : run_of cat (ClimbingIndex table column) (suc (suc level)) ≡ file =
      runs_same (omega (arith, place, header, next, before)) (ap (λ file. file.0) at) (ap (λ file. file.1) at) in
      ap (λ place. room_of (run_of cat (ClimbingIndex table column) place)) e ∙ ap room_of same

  id_level_is : (table level : ℕ) → table < length cat.schema → level < length (above_of cat.schema table)
      → room_of (run_of cat (IdIndex table) (1 + level)) ≡ sums.summed_id_level cat table level
  id_level_is table level there low =
      let directory : ℕ × ℕ = (count_of cat table, id_directory_width cat.schema table) in
      let levels = level_files cat (above_of cat.schema table) in
      let place = place_is (IdIndex table) (id_there table there) (suc level) in
      let next = sum_by-cons file_pages directory (take level levels) in
      let before = levels_before cat (above_of cat.schema table) level in
      let e : 1 + level ≡ suc level = omega arith in
      let at = level_at cat (above_of cat.schema table) level low in
      let file : Run = record {
        first = id_index_begin cat table + id_directory_pages cat table + levels_pages cat (take level (above_of cat.schema table));
        count = count_of cat (slice_index (above_of cat.schema table) level);
        width = 4;
      } in
      let same : run_of cat (IdIndex table) (suc level) ≡ file =
      runs_same (omega (arith, place, next, before)) (ap (λ file. file.0) at) (ap (λ file. file.1) at) in
      ap (λ place. room_of (run_of cat (IdIndex table) place)) e ∙ ap room_of same

  pub lie_as_summed : LieAsSummed cat
  lie_as_summed = record {
    column_file = λ table column h. first_is (ColumnFile table column) (file_there table column h);
    subtree_table = λ table there. first_is (SubtreeTable table) (subtree_there table there);
    index_header = λ table column h. first_is (ClimbingIndex table column) (index_there table column h);
    index_directory = directory_is;
    index_level = level_is;
    id_directory = λ table there. first_is (IdIndex table) (id_there table there);
    id_level = id_level_is;
    files_end = end_is;
  }

  follow_files : (one : Structure) → Among one (structures cat.schema)
      → Follow run_pages (begins cat one) (map (run_of cat one) (below (length (files_of cat one)))) (begins cat one + structure_pages cat one)
  follow_files one m =
      let files = files_of cat one in
      let all : 0 + length files ≡ length files = omega arith in
      let none : begins cat one + files_pages (take 0 files) ≡ begins cat one = omega arith in
      let whole : begins cat one + files_pages (take (0 + length files) files) ≡ begins cat one + structure_pages cat one =
      ap (λ n. begins cat one + files_pages (take n files)) all ∙ ap (λ some. begins cat one + files_pages some) (take-length files) in
      let lies = follow_each (λ run. run.first) run_pages (λ k. run_of cat one k ∷ []) (λ k. begins cat one + files_pages (take k files)) (length files)
      (λ k low. (place_is one m k, let more = sum_by_more file_pages files k (0, 0) low in omega (arith, more))) 0 (length files) (omega arith) in
      subst (λ b. Follow run_pages b (map (run_of cat one) (below (length files))) (begins cat one + structure_pages cat one)) none
      (subst (λ e. Follow run_pages (begins cat one + files_pages (take 0 files)) (map (run_of cat one) (below (length files))) e) whole
      (subst (λ runs. Follow run_pages (begins cat one + files_pages (take 0 files)) runs (begins cat one + files_pages (take (0 + length files) files))) (sym (map_single (run_of cat one) (below (length files)))) lies))

  pub follow_one_another : FollowOneAnother cat
  follow_one_another = record {
    files =
        (subst (λ end. Follow run_pages (public_pages cat) (static_files cat) end) (sym end_is)
        (spread (begins cat) (structure_pages cat) (λ one. map (run_of cat one) (below (length (files_of cat one)))) (structures cat.schema)
        (public_pages cat) (table_begin cat (length cat.schema)) (follow_structures cat) follow_files));
    rounded = omega arith;
    first_half = follow_spool cat 0 (static_end cat) (omega arith);
    second_half =
        (let end : static_end cat + half_pages cat + half_pages cat ≡ spool_end cat = omega arith in
        subst (λ after. Follow block_room (static_end cat + half_pages cat) (spool_areas cat 1) after) end
        (follow_spool cat 1 (static_end cat + half_pages cat) (omega arith)));
    scratch = follow_scratch cat;
    appended = follow_appended cat;
  }
