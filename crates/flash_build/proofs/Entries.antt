-- The levels of an index: as many rows at each as its table has, ranks among the entries, and the lists that they make.
use Rattle.std.proofs.Common.{Some, ◌≡◌, refl, ap, sym, ◌∙◌, subst, ℕ, suc, ◌+◌, ◌-◌, ◌<◌, ◌≤◌, List, [], ◌∷◌, length, map, drop, get_or, Vec, arith}
use Rattle.std.specs.Global.{Global}
use Rattle.std.specs.List.{All, AllByRecursion}
use Rattle.std.proofs.lemmas.Option.{slice_get_within}
use Rattle.std.proofs.lemmas.List.{length-map, get_or-map}
use Rattle.std.proofs.lemmas.List.Elements.{All-get_or, All-from_get_or, All-from_recursion}
use Rattle.std.proofs.lemmas.List.FromFn.{length-range_with_len, get_or-range_with_len}
use Rattle.ghost_model.specs.core.Schema.{Schema, ancestor}
use Rattle.ghost_model.specs.core.Channel.{Catalog}
use Rattle.ghost_model.specs.core.Split.{Hidden}
use Rattle.ghost_model.specs.laws.SchemaTrees.{IsTree}
use Rattle.ghost_model.specs.forms.Runs.{Run}
use Rattle.ghost_model.specs.forms.Layout.{below, count_of, levels_of, above_of}
use Rattle.ghost_model.specs.forms.Flash.{id_lists}
use Rattle.ghost_model.specs.laws.LayoutSums as sums
use Rattle.ghost_model.specs.laws.LayoutLaws.{LevelsAreAncestors}
use Rattle.index_lists.specs.Ranks.{of_referred}
use Rattle.index_lists.specs.Lists.{lists_of}
use Rattle.index_lists.specs.Laws.{LeadAs, IdListsByRanks}
use Rattle.index_files.specs.Files.{AreLevels, counts_of, level_pages, level_file}
use Rattle.index_files.specs.Laws.{FilesOfTables}
use Rattle.flash_build.specs.Levels.{RankedAbove, AreRankedAbove, items_of}

-- a way up begins with its table
first_ancestor : (schema : Schema) (table : ℕ) → ancestor schema 0 table ≡ Some table
unfolding ancestor
first_ancestor schema table = refl

-- a table is the first of its levels
pub own_there : (schema : Schema) → LevelsAreAncestors → IsTree schema → (table : ℕ) → table < length schema → 0 < length (levels_of schema table)
own_there schema are tree table there = slice_get_within (levels_of schema table) 0 table (are schema tree table 0 there ∙ first_ancestor schema table)

module _ (cat : Catalog) (hidden : Hidden) (table : ℕ) (own : List ℕ) where
  pub long_at : (from : ℕ) (ranks : List ℕ) → RankedAbove cat hidden table own from ranks → length ranks ≡ count_of cat from
  long_at from ranks a = ap length a.same ∙ (length-map a.reached (λ r. get_or own (r - 1) 0) ∙ a.lead.long)

  rest : (t : ℕ) (ts : List ℕ) (x : List ℕ) (xs : List (List ℕ)) → AreRankedAbove cat hidden table own (t ∷ ts) (x ∷ xs) → AreRankedAbove cat hidden table own ts xs
  rest t ts x xs a = record {
    count = (let c = a.count in omega (arith, c));
    each = λ level low. a.each (suc level) (omega (arith, low));
  }

  pub but_own : (tables : List ℕ) (vs : List (Vec ℕ Global)) → AreRankedAbove cat hidden table own tables (map items_of vs)
      → AreRankedAbove cat hidden table own (drop 1 tables) (map items_of (drop 1 vs))
  but_own [] [] a = a
  but_own [] (v ∷ vs) a = absurd (let c = a.count in omega (arith, c))
  but_own (t ∷ ts) [] a = absurd (let c = a.count in omega (arith, c))
  but_own (t ∷ ts) (v ∷ vs) a = rest t ts v.items (map items_of vs) a

  pub counts_are : (tables : List ℕ) (all : List (List ℕ)) → AreRankedAbove cat hidden table own tables all → counts_of all ≡ map (count_of cat) tables
  counts_are [] [] a = refl
  counts_are [] (x ∷ xs) a = absurd (let c = a.count in omega (arith, c))
  counts_are (t ∷ ts) [] a = absurd (let c = a.count in omega (arith, c))
  counts_are (t ∷ ts) (x ∷ xs) a =
      let here = long_at t x (a.each 0 (omega arith)) in
      let later = counts_are ts xs (rest t ts x xs a) in
      λ i. here i ∷ later i

  -- ranks among so many entries, at each level
  within_at : (entries : ℕ) → length own ≡ count_of cat table → All (λ rank. rank < entries) own → (from : ℕ) (ranks : List ℕ)
      → RankedAbove cat hidden table own from ranks → All (λ rank. rank < entries) ranks
  within_at entries size within from ranks a =
      let held = λ (r : ℕ). get_or own (r - 1) 0 in
      let many = length-map a.reached held in
      subst (λ (rs : List ℕ). All (λ rank. rank < entries) rs) (sym a.same)
      (All-from_get_or (λ rank. rank < entries) (of_referred own a.reached) 0 (λ k low.
      let at : k < length a.reached = omega (arith, low, many) in
      let real = All-get_or (λ row. 0 < row) a.reached k 0 at a.lead.above in
      let there = All-get_or (λ row. row ≤ count_of cat table) a.reached k 0 at a.lead.within in
      let good = All-get_or (λ rank. rank < entries) own (get_or a.reached k 0 - 1) 0 (omega (arith, real, there, size)) within in
      omega (arith, good, get_or-map held a.reached k 0 0 at)))

  few_each : ((from : ℕ) → count_of cat from ≤ 1000000) → (tables : List ℕ) (vs : List (Vec ℕ Global)) → AreRankedAbove cat hidden table own tables (map items_of vs)
      → AllByRecursion (λ (v : Vec ℕ Global). length v.items < 2097152) vs
  few_each few [] [] a = tt
  few_each few [] (v ∷ vs) a = absurd (let c = a.count in omega (arith, c))
  few_each few (t ∷ ts) [] a = tt
  few_each few (t ∷ ts) (v ∷ vs) a =
      let long = long_at t v.items (a.each 0 (omega arith)) in
      let most = few t in
      (omega (arith, long, most), few_each few ts vs (rest t ts v.items (map items_of vs) a))

  pub all_few : ((from : ℕ) → count_of cat from ≤ 1000000) → (tables : List ℕ) (vs : List (Vec ℕ Global)) → AreRankedAbove cat hidden table own tables (map items_of vs)
      → All (λ (v : Vec ℕ Global). length v.items < 2097152) vs
  all_few few tables vs a = All-from_recursion (λ (v : Vec ℕ Global). length v.items < 2097152) vs (few_each few tables vs a)

  ranked_each : (entries : ℕ) → length own ≡ count_of cat table → All (λ rank. rank < entries) own → (tables : List ℕ) (vs : List (Vec ℕ Global))
      → AreRankedAbove cat hidden table own tables (map items_of vs) → AllByRecursion (λ (v : Vec ℕ Global). All (λ rank. rank < entries) v.items) vs
  ranked_each entries size within [] [] a = tt
  ranked_each entries size within [] (v ∷ vs) a = absurd (let c = a.count in omega (arith, c))
  ranked_each entries size within (t ∷ ts) [] a = tt
  ranked_each entries size within (t ∷ ts) (v ∷ vs) a =
      (within_at entries size within t v.items (a.each 0 (omega arith)), ranked_each entries size within ts vs (rest t ts v.items (map items_of vs) a))

  pub all_ranked : (entries : ℕ) → length own ≡ count_of cat table → All (λ rank. rank < entries) own → (tables : List ℕ) (vs : List (Vec ℕ Global))
      → AreRankedAbove cat hidden table own tables (map items_of vs) → All (λ (v : Vec ℕ Global). All (λ rank. rank < entries) v.items) vs
  all_ranked entries size within tables vs a =
      All-from_recursion (λ (v : Vec ℕ Global). All (λ rank. rank < entries) v.items) vs (ranked_each entries size within tables vs a)

  -- the pages of the level files
  pub pages_are : FilesOfTables → (tables : List ℕ) (all : List (List ℕ)) → AreRankedAbove cat hidden table own tables all
      → level_pages (counts_of all) ≡ sums.levels_pages cat tables
  pages_are files tables all a = ap level_pages (counts_are tables all a) ∙ files.pages (count_of cat) tables

  -- levels whose lists follow from where rows lead
  pub are_levels :
      FilesOfTables → (tables : List ℕ) (all : List (List ℕ)) → AreRankedAbove cat hidden table own tables all
      → (entries begin : ℕ) (lists : ℕ → List (List ℕ)) (file : ℕ → Run)
      → ((from : ℕ) (reached : List ℕ) → LeadAs cat hidden from table reached → lists_of (of_referred own reached) entries ≡ lists from)
      → ((level : ℕ) → level < length tables → file level ≡ sums.level_file cat begin tables level)
      → AreLevels all entries begin tables lists file
  are_levels files tables all a entries begin lists file make at = record {
    many = sym a.count;
    lists_are = λ level low.
        let there : level < length tables = (let c = a.count in omega (arith, low, c)) in
        let here = a.each level there in
        ap (λ rs. lists_of rs entries) here.same ∙ make (get_or tables level 0) here.reached here.lead;
    files_are = λ level low.
        let there : level < length tables = (let c = a.count in omega (arith, low, c)) in
        at level there ∙ (sym (files.file (count_of cat) tables begin level there) ∙ ap (λ counts. level_file begin counts level) (sym (counts_are tables all a)));
  }

-- the places of rows
pub places_of : (n : ℕ) (rows : List ℕ) → ((k : ℕ) → k < length rows → (0 < get_or rows k 0) × (get_or rows k 0 ≤ n))
    → of_referred (below n) rows ≡ map (λ row. row - 1) rows
places_of n [] each = refl
places_of n (row ∷ rows) each =
    let first = each 0 (omega arith) in
    let real = first.0 in
    let there = first.1 in
    let e : 0 + (row - 1) ≡ row - 1 = omega arith in
    let here : get_or (below n) (row - 1) 0 ≡ row - 1 = get_or-range_with_len 0 n (row - 1) 0 (omega (arith, real, there)) ∙ e in
    let later = places_of n rows (λ k low. each (suc k) (omega (arith, low))) in
    λ i. here i ∷ later i

pub id_lists_are : IdListsByRanks → (cat : Catalog) (hidden : Hidden) (table from : ℕ) (reached : List ℕ) → LeadAs cat hidden from table reached
    → lists_of (of_referred (below (count_of cat table)) reached) (count_of cat table) ≡ id_lists cat hidden table from
id_lists_are law cat hidden table from reached lead =
    ap (λ ranks. lists_of ranks (count_of cat table))
    (places_of (count_of cat table) reached (λ k low. (All-get_or (λ row. 0 < row) reached k 0 low lead.above, All-get_or (λ row. row ≤ count_of cat table) reached k 0 low lead.within)))
    ∙ law cat hidden table from reached lead

pub all_below : (n : ℕ) → All (λ rank. rank < n) (below n)
all_below n = All-from_get_or (λ rank. rank < n) (below n) 0 (λ k low.
    let size = length-range_with_len 0 n in
    let at = get_or-range_with_len 0 n k 0 (omega (arith, low, size)) in
    omega (arith, low, size, at))

-- an index that has a level has one less above it
pub above_many : (schema : Schema) (table : ℕ) → 0 < length (levels_of schema table) → 1 + length (above_of schema table) ≡ length (levels_of schema table)
above_many schema table some = one_less (levels_of schema table) some
  where
    one_less : (xs : List ℕ) → 0 < length xs → 1 + length (drop 1 xs) ≡ length xs
    one_less [] low = absurd (omega (arith, low))
    one_less (x ∷ xs) low = omega arith
