-- A place that reading a list gets to, where no identifier of a row is read, is a damaged slot of its level file.
use Rattle.std.proofs.Common.{◌≡◌, refl, sym, subst, ap, ◌∙◌, ℕ, zero, suc, ◌+◌, ◌*◌, ◌<◌, ◌≤◌, true, false, ◌&&◌, nat_le, nat_lt, List, length, take, drop, get_or, slice_index, Option, Some, None, option_map, arith}
use Rattle.std.proofs.lemmas.Bool.{and_parts, false_from_ne_true, leb-true, lt-ltb}
use Rattle.std.proofs.lemmas.List.{drop-drop}
use Rattle.std.proofs.lemmas.Option.{slice_get-get_or}
use Rattle.ghost_model.specs.forms.Runs.{Run, found_in, number_in, page_of, record_at, slot_of}
use Rattle.ghost_model.specs.forms.Gaps.{Reading, after_code, are_codes, bytes_at, code_at, last_of, listed, reading_at, reading_of, rest_at}
use Rattle.ghost_model.specs.forms.Layout.{width_at, count_of, levels_of, above_of}
use Rattle.ghost_model.specs.forms.Slots.{code_stands, list_end}
use Rattle.ghost_model.specs.laws.LayoutLaws.{FilesLieAsSummed}
use Rattle.ghost_model.specs.laws.ShortWords.{first_listed, id_directory, id_level, index_directory, index_level}
use Rattle.ghost_base.specs.declared.runs.ListRef.{ListRef}
use Rattle.ghost_base.specs.Runs.{run_of}
use Rattle.climbing_index.specs.declared.directory.Directory.{Directory}
use Rattle.climbing_index.specs.declared.directory.LevelFile.{LevelFile}
use Rattle.climbing_index.specs.Directories.{are_places, entry_bytes, entry_stands, file_of, place_bytes, spells}
use Rattle.climbing_index.specs.Laws.{BrokenCodesAreDamaged, IsBrokenAt, IsListOf}
use Rattle.climbing_index.specs.Searches.{rows_of}
use Rattle.climbing_index.proofs.Entries.{ends_within}
use Rattle.climbing_index.proofs.HeldIndexes.{same_entry, same_id_entry}
use Rattle.climbing_index.proofs.LevelFiles.{how_many}
use Rattle.climbing_index.proofs.ListedValues.{run_at}
use Rattle.climbing_index.proofs.Readings.{code_inside, listed_is, of_codes, reading_inside, reading_next, some_code}

-- an entry's list lies in its run
list_inside : (page : ℕ → List ℕ) (directory : Directory) (entry level : ℕ) (list : ListRef) → IsListOf page directory entry level list
    → level < length directory.levels.items → list.first + list.count ≤ (run_of list.run).count
list_inside page directory entry level list given low =
    let bytes = entry_bytes page directory entry in
    let d : LevelFile = record { first = 0; count = 0 } in
    let both = and_parts (spells directory.kind (take directory.cell bytes)) (are_places directory.levels.items (drop directory.cell bytes)) given.listed.stands in
    let held = slice_get-get_or directory.levels.items level d low in
    let file = get_or directory.levels.items level d in
    let within = ends_within directory.levels.items (drop directory.cell bytes) both.1 level file held in
    let same = ap list_end (drop-drop (8 * level) directory.cell bytes) in
    let run : Some (file_of file) ≡ Some (run_of list.run) = sym (ap (option_map file_of) held) ∙ given.run in
    let one : file_of file ≡ run_of list.run = cc in
    let size = ap (λ (r : Run). r.count) one in
    let first = given.listed.place.first in
    let count = given.listed.place.count in
    omega (arith, within, same, size, first, count)

module _ (page : ℕ → List ℕ) (run : Run) (codes : are_codes run ≡ true) (begin at place last : ℕ)
    (gets : reading_of page run begin at ≡ Some (record { place = place; last = last })) where
  abbrev place_or_none : Option Reading → ℕ
  place_or_none None = 0
  place_or_none (Some reading) = reading.place

  -- reading does not leave the run
  pub place_inside : begin < run.count → place < run.count
  place_inside low = by_number at gets
    where
      by_number : (at : ℕ) → reading_of page run begin at ≡ Some (record { place = place; last = last }) → place < run.count
      by_number zero is = let same : begin ≡ place = ap place_or_none is in omega (arith, same, low)
      by_number (suc at) is =
          reading_inside page run.first run.count begin at (record { place = place; last = last }) (sym (of_codes page run codes begin (suc at)) ∙ is)

  pub reading_is : reading_at page run.first run.count begin at ≡ Some (record { place = place; last = last })
  reading_is = sym (of_codes page run codes begin at) ∙ gets

  -- what is read next is no identifier of a row, and so no code that may stand there
  pub broken : (rows : ℕ) → (0 < listed page run begin at → listed page run begin at ≤ rows → ⊥)
      → code_stands rows (option_map (λ code. (last + code.0, code.1)) (code_at page run.first run.count place)) ≡ false
  broken rows out = by_code (code_at page run.first run.count place) refl
    where
      reading : Reading
      reading = record { place = place; last = last }

      next : listed page run begin at ≡ last_of (option_map (after_code page run.first run.count (record { place = place; last = last })) (code_at page run.first run.count place))
      next = listed_is page run codes begin at ∙ ap last_of (reading_next page run.first run.count begin at (Some reading) reading_is)

      by_code : (found : Option (ℕ × ℕ)) → code_at page run.first run.count place ≡ found
          → code_stands rows (option_map (λ code. (last + code.0, code.1)) found) ≡ false
      by_code None e = refl
      by_code (Some code) e =
          let is : listed page run begin at ≡ last + code.0 = next ∙ ap (λ o. last_of (option_map (after_code page run.first run.count reading) o)) e in
          let some = some_code (rest_at page run.first place) code (code_inside page run.first run.count place code e).0 in
          false_from_ne_true (nat_le (last + code.0) rows)
          (λ t. let most = leb-true (last + code.0) rows t in out (omega (arith, is, some)) (omega (arith, is, most)))

-- the same of a list of which one says it
module _ (page : ℕ → List ℕ) (list : ListRef) (rows place number slot found : ℕ) (is : IsBrokenAt page list rows place number slot found)
    (file : Run) (codes : are_codes file ≡ true) (file_is : run_of list.run ≡ file) where
  pub gets_there : reading_of page file list.first is.at ≡ Some (record { place = place; last = is.last })
  gets_there = ap (λ r. reading_of page r list.first is.at) (sym file_is) ∙ is.gets

  pub out_there : 0 < listed page file list.first is.at → listed page file list.first is.at ≤ rows → ⊥
  out_there = subst (λ r. 0 < listed page r list.first is.at → listed page r list.first is.at ≤ rows → ⊥) file_is is.out

pub broken_codes : FilesLieAsSummed → BrokenCodesAreDamaged
broken_codes laid = record {
  values = λ page cat table column h index is entry level room told low list given place number slot found bad.
      let file = index_level cat table column level in
      let rows = count_of cat (slice_index (levels_of cat.schema table) level) in
      let file_is = run_at (index_level cat table column) (length (levels_of cat.schema table)) index.directory.levels.items is.levels_are level low (run_of list.run) given.run in
      let gets = gets_there page list rows place number slot found bad file refl file_is in
      let size = how_many (index_level cat table column) (length (levels_of cat.schema table)) index.directory.levels.items is.levels_are in
      let inside = list_inside page index.directory entry level list given (omega (arith, size, low)) in
      let same = ap (λ (r : Run). r.count) file_is in
      let within = bad.within in
      let count : rows_of index ≡ count_of cat table = ap (λ (r : Run). r.count) is.run_is in
      let header = ap (λ r. number_in (record_at page r 0) 0) is.header_is in
      let bytes : place_bytes index.directory (entry_bytes page index.directory entry) level ≡ drop (width_at cat.schema table column + 8 * level) (record_at page (index_directory cat table column) entry) =
      λ i. drop (is.cell_is i + 8 * level) (record_at page (is.run_is i) entry) in
      let first : list.first ≡ number_in (drop (width_at cat.schema table column + 8 * level) (record_at page (index_directory cat table column) entry)) 0 =
      given.listed.place.first ∙ ap first_listed bytes in
      let long = given.listed.place.count ∙ ap (λ b. number_in b 4) bytes in
      record {
        has = ap (λ b. b && nat_lt level (length (levels_of cat.schema table))) h ∙ lt-ltb level (length (levels_of cat.schema table)) low;
        within = place_inside page file refl list.first bad.at place bad.last gets (omega (arith, inside, same, within));
        page_is = bad.page_is ∙ ap (λ r. page_of r place) file_is;
        slot_is = bad.slot_is ∙ ap (λ r. slot_of r place) file_is;
        damaged = record {
          entry = entry;
          there = omega (arith, room, told, count, header);
          stands =
              sym
              (ap (λ r. entry_stands index.directory (record_at page r entry)) is.run_is
              ∙ same_entry cat (laid cat) table column h index is (record_at page (index_directory cat table column) entry))
              ∙ given.listed.stands;
          i = bad.at;
          within = omega (arith, within, long);
          last = bad.last;
          gets = ap (λ n. reading_at page file.first file.count n bad.at) (sym first) ∙ reading_is page file refl list.first bad.at place bad.last gets;
          kept = bad.kept;
          broken = broken page file refl list.first bad.at place bad.last gets rows (out_there page list rows place number slot found bad file refl file_is);
        };
        found_is = bad.found_is ∙ ap (λ r. found_in (bytes_at page r place)) file_is;
      };
  identifiers = λ page cat table inside_is index is entry level there low list given place number slot found bad.
      let file = id_level cat table level in
      let rows = count_of cat (slice_index (above_of cat.schema table) level) in
      let file_is = run_at (id_level cat table) (length (above_of cat.schema table)) index.directory.levels.items is.levels_are level low (run_of list.run) given.run in
      let gets = gets_there page list rows place number slot found bad file refl file_is in
      let size = how_many (id_level cat table) (length (above_of cat.schema table)) index.directory.levels.items is.levels_are in
      let inside = list_inside page index.directory entry level list given (omega (arith, size, low)) in
      let same = ap (λ (r : Run). r.count) file_is in
      let within = bad.within in
      let e : 0 + 8 * level ≡ 8 * level = omega arith in
      let bytes : place_bytes index.directory (entry_bytes page index.directory entry) level ≡ drop (8 * level) (record_at page (id_directory cat table) entry) =
      (λ i. drop (is.cell_is i + 8 * level) (record_at page (is.run_is i) entry)) ∙ ap (λ n. drop n (record_at page (id_directory cat table) entry)) e in
      let first : list.first ≡ number_in (drop (8 * level) (record_at page (id_directory cat table) entry)) 0 =
      given.listed.place.first ∙ ap first_listed bytes in
      let long = given.listed.place.count ∙ ap (λ b. number_in b 4) bytes in
      record {
        has = lt-ltb level (length (above_of cat.schema table)) low;
        within = place_inside page file refl list.first bad.at place bad.last gets (omega (arith, inside, same, within));
        page_is = bad.page_is ∙ ap (λ r. page_of r place) file_is;
        slot_is = bad.slot_is ∙ ap (λ r. slot_of r place) file_is;
        damaged = record {
          entry = entry;
          there = there;
          stands =
              sym
              (ap (λ r. entry_stands index.directory (record_at page r entry)) is.run_is
              ∙ same_id_entry cat (laid cat) table inside_is index is (record_at page (id_directory cat table) entry))
              ∙ given.listed.stands;
          i = bad.at;
          within = omega (arith, within, long);
          last = bad.last;
          gets = ap (λ n. reading_at page file.first file.count n bad.at) (sym first) ∙ reading_is page file refl list.first bad.at place bad.last gets;
          kept = bad.kept;
          broken = broken page file refl list.first bad.at place bad.last gets rows (out_there page list rows place number slot found bad file refl file_is);
        };
        found_is = bad.found_is ∙ ap (λ r. found_in (bytes_at page r place)) file_is;
      };
}
