-- Where pages have an index but for slots that are out of range by themselves, its entries have their lists.
use Rattle.std.proofs.Common.{◌≡◌, ◌∙◌, ℕ, zero, suc, ◌+◌, ◌*◌, ◌<◌, ◌≤◌, true, ◌&&◌, nat_le, List, [], ◌∷◌, ◌++◌, length, map, drop, take, get_or, ap, sym, refl, arith}
use Rattle.std.specs.List.{range_with_len}
use Rattle.std.specs.Option.{option_map}
use Rattle.std.proofs.lemmas.Bool.{and_parts, le-leb}
use Rattle.std.proofs.lemmas.List.{drop-drop}
use Rattle.std.proofs.lemmas.Option.{slice_get-get_or}
use Rattle.ghost_model.specs.core.Channel.{Catalog}
use Rattle.ghost_model.specs.forms.Layout.{count_of}
use Rattle.ghost_model.specs.forms.Runs.{number_in}
use Rattle.ghost_model.specs.forms.Slots.{is_row, list_end}
use Rattle.ghost_model.specs.laws.ShortWords.{first_listed}
use Rattle.ghost_base.specs.declared.runs.ListRef.{ListRef}
use Rattle.ghost_base.specs.Runs.{run_of}
use Rattle.flash_pages.proofs.ListFrames.{listed_from-get}
use Rattle.climbing_index.specs.declared.directory.Directory.{Directory}
use Rattle.climbing_index.specs.Directories.{are_places, entry_bytes, entry_stands, file_of, place_bytes, spells}
use Rattle.climbing_index.specs.Laws.{HasList, HasListBut, IsListOf}
use Rattle.climbing_index.proofs.Entries.{ends_within}
use Rattle.spill_pass.specs.Lists.{IsOrdered, id_of}
use Rattle.entry_lists.specs.Entries.{HasEntry, HaveEntries, IsListIn, level_at, level_run}
use Rattle.entry_lists.proofs.Ascending.{Ascends}

-- the list of which an entry's bytes say where it stands at a level
abbrev pub list_at : Directory → (bytes : List ℕ) → (level : ℕ) → ListRef
list_at directory bytes level = record {
  run = level_run directory level;
  first = first_listed (place_bytes directory bytes level);
  count = number_in (place_bytes directory bytes level) 4;
}

-- it lies within the level file
pub list_inside : (directory : Directory) (bytes : List ℕ) (level : ℕ) → entry_stands directory bytes ≡ true
    → level < length directory.levels.items → IsListIn directory level (list_at directory bytes level)
list_inside directory bytes level stands low =
    let both = and_parts (spells directory.kind (take directory.cell bytes)) (are_places directory.levels.items (drop directory.cell bytes)) stands in
    let held = slice_get-get_or directory.levels.items level (record { first = 0; count = 0 }) low in
    let within = ends_within directory.levels.items (drop directory.cell bytes) both.1 level (level_at directory level) held in
    let same = ap list_end (drop-drop (8 * level) directory.cell bytes) in
    record { run_is = refl; inside = omega (arith, same, within) }

-- by right pages it is the entry's list
pub listed : (right : ℕ → List ℕ) (directory : Directory) (entry level : ℕ) → entry_stands directory (entry_bytes right directory entry) ≡ true
    → level < length directory.levels.items → IsListOf right directory entry level (list_at directory (entry_bytes right directory entry) level)
listed right directory entry level stands low = record {
  listed = record { stands = stands; place = record { first = refl; count = refl } };
  run = ap (option_map file_of) (slice_get-get_or directory.levels.items level (record { first = 0; count = 0 }) low);
}

-- an identifier of a row is not one that no row has
row_is : (cat : Catalog) (from id : ℕ) → 0 < id → id ≤ count_of cat from → is_row cat from id ≡ true
row_is cat from id some few = ap (λ b. b && nat_le id (count_of cat from)) (le-leb 1 id some) ∙ le-leb id (count_of cat from) few

module _ (page right : ℕ → List ℕ) (cat : Catalog) (from : ℕ) (directory : Directory) (level : ℕ) (low : level < length directory.levels.items)
    (entry : ℕ) (within : entry < directory.run.count) (stands : entry_stands directory (entry_bytes right directory entry) ≡ true)
    (same : entry_stands directory (entry_bytes page directory entry) ≡ true → entry_bytes page directory entry ≡ entry_bytes right directory entry)
    (ids : List ℕ) (has : HasList right (list_at directory (entry_bytes right directory entry) level) ids)
    (but : HasListBut page cat from (list_at directory (entry_bytes right directory entry) level) ids)
    (ascend : Ascends 1 (1 + count_of cat from) ids) where
  abbrev list : ListRef
  list = list_at directory (entry_bytes right directory entry) level

  ids_are : (i : ℕ) → i < list.count → id_of right list i ≡ get_or ids i 0
  ids_are i less =
      let here : i ≡ 0 + i = omega arith in
      ap (id_of right list) here ∙ sym (listed_from-get right (run_of list.run) list.first 0 list.count i less) ∙ ap (λ xs. get_or xs i 0) has.ids

  -- where the pages have an identifier of a row it is the right one
  ordered : IsOrdered page right (count_of cat from) list
  ordered = record {
    above = λ i less. omega (arith, ids_are i less, ascend.from i (omega (arith, less, has.count)));
    order = λ i j later less. omega (arith, ids_are i (omega (arith, later, less)), ids_are j less, ascend.order i j later (omega (arith, less, has.count)));
    within = λ i less. omega (arith, ids_are i less, ascend.below i (omega (arith, less, has.count)));
    same = λ i less some few. but.each i less (row_is cat from (id_of page list i) some few) ∙ sym (ids_are i less);
  }

  pub has_entry : HasEntry page right (count_of cat from) directory level entry ids
  has_entry = record {
    within = within;
    list = list;
    lies = list_inside directory (entry_bytes right directory entry) level stands low;
    place = record { first = refl; count = refl };
    same = same;
    ordered = ordered;
    count = has.count;
    ids_are = ids_are;
  }

module _ (page right : ℕ → List ℕ) (rows : ℕ) (directory : Directory) (level : ℕ) where
  pub have_range : (lists : ℕ → List ℕ) (first count : ℕ)
      → ((entry : ℕ) → first ≤ entry → entry < first + count → HasEntry page right rows directory level entry (lists entry))
      → HaveEntries page right rows directory level (range_with_len first count) (map lists (range_with_len first count))
  have_range lists first zero each = tt
  have_range lists first (suc count) each =
      (each first (omega arith) (omega arith), have_range lists (first + 1) count (λ entry low high. each entry (omega (arith, low)) (omega (arith, high))))

  pub have_both : (entries others : List ℕ) (lists later : List (List ℕ)) → HaveEntries page right rows directory level entries lists
      → HaveEntries page right rows directory level others later → HaveEntries page right rows directory level (entries ++ others) (lists ++ later)
  have_both [] others [] later have rest = rest
  have_both [] others (ids ∷ lists) later have rest = absurd have
  have_both (entry ∷ entries) others [] later have rest = absurd have
  have_both (entry ∷ entries) others (ids ∷ lists) later have rest = (have.0, have_both entries others lists later have.1 rest)
