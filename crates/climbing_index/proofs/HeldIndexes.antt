-- A search over an index that pages hold finds by the column's values.
use Rattle.std.proofs.Common.{◌≡◌, refl, sym, ap, ◌∙◌, ℕ, suc, ◌^◌, ◌<◌, ◌≤◌, Bool, true, false, ◌&&◌, nat_le, inl, inr, List, [], ◌∷◌, length, take, drop, get_or, Option, Some, None, slice_get, is_some, arith}
use Rattle.std.specs.Prelude.{if◌then◌else◌}
use Rattle.std.specs.Option.{option_map}
use Rattle.std.specs.Cmp.Lexicographic.{slice_cmp}
use Rattle.std.specs.Ordering.{nat_cmp}
use Rattle.std.proofs.Math.Seq.{take-append_seam}
use Rattle.std.proofs.lemmas.Map.Keys.{Less-from_sorted}
use Rattle.std.proofs.lemmas.List.Elements.{Contains-get_or}
use Rattle.std.proofs.lemmas.Option.{slice_get-get_or}
use Rattle.ghost_model.specs.forms.Layout as layout
use Rattle.ghost_model.specs.core.Schema as schema
use Rattle.ghost_model.specs.core.Channel.{Catalog}
use Rattle.ghost_model.specs.core.Asks.{kind_at}
use Rattle.ghost_model.specs.core.Split.{Hidden}
use Rattle.ghost_model.specs.readings.CellReading.{decode_cell}
use Rattle.ghost_model.specs.laws.LayoutLaws.{LieAsSummed, AreFew, LayoutIsSmall, FilesLieAsSummed}
use Rattle.ghost_model.specs.laws.FlashLaws.{CellsFit, HiddenCellsFit}
use Rattle.ghost_model.specs.laws.RunLaws.{NumbersAreRead}
use Rattle.ghost_model.specs.forms.Runs.{record_at, number_in}
use Rattle.ghost_model.specs.forms.Layout.{is_hidden, width_at, count_of, levels_of, above_of}
use Rattle.ghost_model.specs.laws.ShortWords.{index_directory, index_level, id_level}
use Rattle.ghost_model.specs.forms.Flash.{AreValues, hidden_cells, directory_record, value_lists}
use Rattle.ghost_model.specs.forms.Slots as slots
use Rattle.ghost_base.specs.Views.{kind_of}
use Rattle.ghost_base.specs.declared.kind.Kind.{Kind}
use Rattle.climbing_index.specs.declared.directory.LevelFile.{LevelFile}
use Rattle.climbing_index.specs.declared.index.ClimbingIndex.{ClimbingIndex}
use Rattle.climbing_index.specs.Directories.{spells, are_places, entry_stands}
use Rattle.climbing_index.specs.declared.index.IdIndex.{IdIndex}
use Rattle.climbing_index.specs.Indexes.{IsIndexOf, IsIdIndexOf}
use Rattle.climbing_index.specs.Searches.{HasIndex, entries_told, header_bytes, header_count, header_stands, rows_of}
use Rattle.climbing_index.specs.Holding.{HoldsIndexBut}
use Rattle.climbing_index.specs.Laws.{IsOfValues, SearchesFindByValues}
use Rattle.climbing_index.proofs.LevelFiles.{how_many, at_level, its_level, index_level_room, id_level_room}

-- so few entries are told
told_few : (page : ℕ → List ℕ) (index : ClimbingIndex) (cells : List (List ℕ)) → HasIndex page index cells → (k : ℕ) → length cells < 2 ^ k
    → entries_told page index < 2 ^ k
told_few page index cells has k few =
    elim has.header [
      | inl same ↦ (let most = at_most (header_stands (rows_of index) (header_bytes page index)) (header_count page index) in omega (arith, same, most, few))
      | inr wrong ↦ (let none : entries_told page index ≡ 0 = ap (λ b. if b then header_count page index else 0) wrong in omega (arith, none, few))
    ]
  where
    at_most : (b : Bool) (n : ℕ) → (if b then n else 0) ≤ n
    at_most true n = omega arith
    at_most false n = omega arith

-- the words of an index are those of the layout's slots
abbrev by_kind : Option schema.Kind → List ℕ → Bool
by_kind None bytes = true
by_kind (Some kind) bytes = is_some (decode_cell kind bytes)

spells_by : (kind : Option Kind) (bytes : List ℕ) → spells kind bytes ≡ by_kind (option_map kind_of kind) bytes
spells_by None bytes = refl
spells_by (Some kind) bytes = refl

same_places : (cat : Catalog) (levels : List LevelFile) (tables : List ℕ) → length levels ≡ length tables
    → ((level : ℕ) (file : LevelFile) → slice_get levels level ≡ Some file → file.count ≡ slots.level_room cat (get_or tables level 0))
    → (bytes : List ℕ) → are_places levels bytes ≡ slots.are_places cat tables bytes
same_places cat [] [] size counts bytes = refl
same_places cat [] (table ∷ tables) size counts bytes = absurd (omega (arith, size))
same_places cat (level ∷ levels) [] size counts bytes = absurd (omega (arith, size))
same_places cat (level ∷ levels) (table ∷ tables) size counts bytes =
    let here = counts 0 level refl in
    let rest = same_places cat levels tables (omega (arith, size)) (λ k file at. counts (suc k) file at) (drop 8 bytes) in
    ap (λ n. nat_le (slots.list_end bytes) n && are_places levels (drop 8 bytes)) here
    ∙ ap (λ b. nat_le (slots.list_end bytes) (slots.level_room cat table) && b) rest

-- and those of an id index
pub same_id_entry : (cat : Catalog) → LieAsSummed cat → (table : ℕ) → table < length cat.schema → (index : IdIndex) → IsIdIndexOf cat table index
    → (bytes : List ℕ) → entry_stands index.directory bytes ≡ slots.may_stand cat (layout.IdDirectory table) bytes
same_id_entry cat laid table there index is bytes =
    let levels = index.directory.levels.items in
    let count = length (above_of cat.schema table) in
    let size = how_many (id_level cat table) count levels is.levels_are in
    let places = same_places cat levels (above_of cat.schema table) size
    (λ level one at.
    let low = its_level (id_level cat table) count levels is.levels_are level one at in
    ap (λ r. r.count) (at_level (id_level cat table) count levels is.levels_are level one at) ∙ id_level_room cat table level low) in
    ap (λ n. spells index.directory.kind (take n bytes) && are_places levels (drop n bytes)) is.cell_is
    ∙ (ap (λ k. spells k (take 0 bytes) && are_places levels (drop 0 bytes)) is.kind_is ∙ places bytes)

-- a value is as wide as its column
pub value_wide : (cat : Catalog) (hidden : Hidden) → CellsFit cat hidden → (table column : ℕ) → is_hidden cat.schema table column ≡ true
    → (values : List (List ℕ)) → AreValues (hidden_cells cat.schema hidden table column) values → (entry : ℕ) → entry < length values
    → length (get_or values entry []) ≡ width_at cat.schema table column
value_wide cat hidden fit table column h values are entry low =
    let value = get_or values entry [] in
    let cells = hidden_cells cat.schema hidden table column in
    let has = are.only value (Contains-get_or values entry [] low) in
    fit.width table column has.0 value h (slice_get-get_or cells has.0 value has.1 ∙ ap Some has.2)

module _ (cat : Catalog) (laid : LieAsSummed cat) (table column : ℕ) (hidden_is : is_hidden cat.schema table column ≡ true)
    (index : ClimbingIndex) (is : IsIndexOf cat table column index) where
  pub same_entry : (bytes : List ℕ) → entry_stands index.directory bytes ≡ slots.may_stand cat (layout.IndexDirectory table column) bytes
  same_entry bytes =
      let levels = index.directory.levels.items in
      let count = length (levels_of cat.schema table) in
      let size = how_many (index_level cat table column) count levels is.levels_are in
      let places = same_places cat levels (levels_of cat.schema table) size
      (λ level one at.
      let low = its_level (index_level cat table column) count levels is.levels_are level one at in
      ap (λ r. r.count) (at_level (index_level cat table column) count levels is.levels_are level one at) ∙ index_level_room cat table column level low) in
      ap (λ n. spells index.directory.kind (take n bytes) && are_places levels (drop n bytes)) is.cell_is
      ∙ (ap (λ b. b && are_places levels (drop (width_at cat.schema table column) bytes))
      (spells_by index.directory.kind (take (width_at cat.schema table column) bytes)
      ∙ ap (λ k. by_kind k (take (width_at cat.schema table column) bytes)) is.kind_is)
      ∙ ap (λ b. is_some (decode_cell (kind_at cat.schema table column) (take (width_at cat.schema table column) bytes)) && b)
      (places (drop (width_at cat.schema table column) bytes)))

  module _ (page : ℕ → List ℕ) (hidden : Hidden) (few : AreFew cat) (fit : CellsFit cat hidden) (read : NumbersAreRead) (values : List (List ℕ))
      (holds : HoldsIndexBut page cat hidden table column values) where
    pub value_width : (entry : ℕ) → entry < length values → length (get_or values entry []) ≡ width_at cat.schema table column
    value_width entry low = value_wide cat hidden fit table column hidden_is values holds.are_values entry low

    pub of_values : IsOfValues page index values
    of_values =
        let rows = few.rows table in
        let size = holds.few in
        let w = width_at cat.schema table column in
        let has : HasIndex page index values = record {
          header = elim holds.header [
            | inl e ↦ inl (ap (λ r. number_in (record_at page r 0) 0) is.header_is ∙ (ap (λ b. number_in b 0) e ∙ read (length values) (omega (arith, rows, size))))
            | inr wrong ↦ inr ((λ i. header_stands (is.run_is i).count (record_at page (is.header_is i) 0)) ∙ wrong)
          ];
          entries = λ entry low.
              elim (holds.entries entry low) [
                | inl e ↦ inl ((λ i. take (is.cell_is i) (record_at page (is.run_is i) entry))
                    ∙ (ap (take w) e
                    ∙ (ap (λ n. take n (directory_record values (levels_of cat.schema table) (value_lists cat hidden table column values) entry)) (sym (value_width entry low))
                    ∙ take-append_seam (get_or values entry []) _)))
                | inr wrong ↦ inr (ap (λ r. entry_stands index.directory (record_at page r entry)) is.run_is
                    ∙ (same_entry (record_at page (index_directory cat table column) entry) ∙ wrong))
              ];
        } in
        record {
          has = has;
          few = λ k low. told_few page index values has k low;
          ascend = λ entry later less low. Less-from_sorted (slice_cmp nat_cmp) values entry later [] holds.are_values.ascending less low;
        }

pub by_values : HiddenCellsFit → LayoutIsSmall → FilesLieAsSummed → NumbersAreRead → SearchesFindByValues
by_values fit small laid read page cat hidden limited goes table column h values holds index is =
    of_values cat (laid cat) table column h index is page hidden (small.few cat limited) (fit cat hidden limited.tree goes) read values holds
