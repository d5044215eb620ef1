-- A slot that is damaged of lists of entries is one that the layout's slots call so.
use Rattle.std.proofs.Common.{◌≡◌, ◌∙◌, ℕ, ◌+◌, ◌<◌, ◌≤◌, true, inl, inr, List, length, ap, sym, subst, arith}
use Rattle.std.specs.Prelude.{◌⊎◌, Contains, Some, option_map}
use Rattle.std.proofs.lemmas.List.FromFn.{length-range_with_len, get_or-range_with_len}
use Rattle.std.proofs.lemmas.List.Elements.{Contains-append_cases}
use Rattle.std.proofs.lemmas.Option.{slice_get-get_or}
use Rattle.ghost_model.specs.core.Channel.{Catalog}
use Rattle.ghost_model.specs.forms.Layout.{is_hidden, count_of, levels_of, above_of, IndexLevel, IdLevel}
use Rattle.ghost_model.specs.laws.ShortWords.{index_level, id_level}
use Rattle.ghost_model.specs.forms.Slots.{IsDamagedIn, IsDamagedSlot}
use Rattle.ghost_base.specs.declared.runs.Run.{Run}
use Rattle.ghost_base.specs.declared.runs.ListRef.{ListRef}
use Rattle.ghost_base.specs.Runs.{run_of}
use Rattle.climbing_index.specs.declared.directory.Directory.{Directory}
use Rattle.climbing_index.specs.declared.index.ClimbingIndex.{ClimbingIndex}
use Rattle.climbing_index.specs.declared.index.IdIndex.{IdIndex}
use Rattle.climbing_index.specs.declared.search.Group.{Group}
use Rattle.climbing_index.specs.Indexes.{IsIndexOf, IsIdIndexOf}
use Rattle.climbing_index.specs.Directories.{HasDamage, entry_stands, file_of}
use Rattle.climbing_index.specs.Laws.{BrokenCodesAreDamaged, DamageIsOfSlots, IsBrokenAt, IsListOf}
use Rattle.climbing_index.specs.Searches.{header_count, rows_of}
use Rattle.climbing_index.proofs.LevelFiles.{how_many}
use Rattle.spill_pass.specs.Lists.{OutOfRowsIn}
use Rattle.entry_lists.specs.declared.entries.EntryLists.{EntryLists}
use Rattle.entry_lists.specs.Entries.{IsListOfEntry, entries_in, entries_of}
use Rattle.entry_lists.specs.Laws.{AreListsOf, IdListsDamageSlots, ValueListsDamageSlots, rows_at}

-- an entry still to come is one of so many
in_group : (group : Group) (entries entry : ℕ) → group.first + group.count ≤ entries → Contains (entries_in group) entry → entry < entries
in_group group entries entry within has =
    let low : has.0 < group.count = omega (arith, has.1, length-range_with_len group.first group.count) in
    omega (arith, within, low, get_or-range_with_len group.first group.count has.0 entry low, has.2)

comes_within : (directory : Directory) (levels entries : ℕ) (lists : EntryLists) (entry : ℕ) → AreListsOf directory levels entries lists
    → Contains (entries_of lists) entry → entry < entries
comes_within directory levels entries lists entry are comes =
    elim (Contains-append_cases (entries_in lists.first) (entries_in lists.second) entry comes) [
      | inl one ↦ in_group lists.first entries entry are.first one
      | inr one ↦ in_group lists.second entries entry are.second one
    ]

-- so is one before the end of a group
given_within : (directory : Directory) (levels entries : ℕ) (lists : EntryLists) (entry : ℕ) → AreListsOf directory levels entries lists
    → (entry < lists.first.first + lists.first.count) ⊎ (entry < lists.second.first + lists.second.count) → entry < entries
given_within directory levels entries lists entry are before =
    elim before [
      | inl low ↦ omega (arith, low, are.first)
      | inr low ↦ omega (arith, low, are.second)
    ]

-- its list is one that a call gives, which lies in the file of its level
pub given_list : (page : ℕ → List ℕ) (one directory : Directory) (level entry : ℕ) (list : ListRef) → one ≡ directory → level < length directory.levels.items
    → IsListOfEntry page one level entry list → IsListOf page directory entry level list
given_list page one directory level entry list same low is =
    let E : Directory → Type 0 = λ d. IsListOfEntry page d level entry list in
    let own = subst E same is in
    record {
      listed = own.listed;
      run =
          ap (option_map file_of) (slice_get-get_or directory.levels.items level (record { first = 0; count = 0 }) low)
          ∙ ap (λ (r : Run). Some (run_of r)) (sym own.lies.run_is);
    }

-- reading it gets to the slot
broken_at : (page : ℕ → List ℕ) (list : ListRef) (rows number slot found : ℕ) → (out : OutOfRowsIn page list rows number slot found)
    → IsBrokenAt page list rows out.place number slot found
broken_at page list rows number slot found out = record {
  at = out.at;
  within = out.within;
  last = out.last;
  gets = out.gets;
  kept = out.kept;
  page_is = out.page_is;
  slot_is = out.slot_is;
  found_is = out.found_is;
  out = out.out;
}

-- the slot is blamed as one of the directory
pub directory_damage : (page : ℕ → List ℕ) (one directory : Directory) → one ≡ directory → (entry number slot found : ℕ)
    → HasDamage page (run_of one.run) (entry_stands one) entry number slot found → HasDamage page (run_of directory.run) (entry_stands directory) entry number slot found
directory_damage page one directory is entry number slot found damage =
    let D : Directory → Type 0 = λ d. HasDamage page (run_of d.run) (entry_stands d) entry number slot found in subst D is damage

pub code_damage : BrokenCodesAreDamaged → (page : ℕ → List ℕ) (cat : Catalog) (table column : ℕ) → is_hidden cat.schema table column ≡ true
    → (index : ClimbingIndex) → IsIndexOf cat table column index
    → (directory : Directory) → directory ≡ index.directory → (level : ℕ) → level < length (levels_of cat.schema table)
    → (entry : ℕ) → entry < rows_of index → entry < header_count page index → (list : ListRef) → IsListOfEntry page directory level entry list
    → (number slot found : ℕ) → (out : OutOfRowsIn page list (rows_at cat (levels_of cat.schema table) level) number slot found)
    → IsDamagedIn cat page (IndexLevel table column level) out.place number slot found
code_damage broken page cat table column h index is directory same level low entry inside told list of number slot found out =
    let levels = levels_of cat.schema table in
    let depth = how_many (index_level cat table column) (length levels) index.directory.levels.items is.levels_are in
    broken.values page cat table column h index is entry level inside told low list
    (given_list page directory index.directory level entry list same (omega (arith, depth, low)) of) out.place number slot found
    (broken_at page list (rows_at cat levels level) number slot found out)

pub id_code_is_damaged : BrokenCodesAreDamaged → (page : ℕ → List ℕ) (cat : Catalog) (table : ℕ) → table < length cat.schema
    → (index : IdIndex) → IsIdIndexOf cat table index
    → (directory : Directory) → directory ≡ index.directory → (level : ℕ) → level < length (above_of cat.schema table)
    → (entry : ℕ) → entry < count_of cat table → (list : ListRef) → IsListOfEntry page directory level entry list
    → (number slot found : ℕ) → (out : OutOfRowsIn page list (rows_at cat (above_of cat.schema table) level) number slot found)
    → IsDamagedIn cat page (IdLevel table level) out.place number slot found
id_code_is_damaged broken page cat table there index is directory same level low entry inside list of number slot found out =
    let levels = above_of cat.schema table in
    let depth = how_many (id_level cat table) (length levels) index.directory.levels.items is.levels_are in
    broken.identifiers page cat table there index is entry level inside low list
    (given_list page directory index.directory level entry list same (omega (arith, depth, low)) of) out.place number slot found
    (broken_at page list (rows_at cat levels level) number slot found out)

pub id_code_damage : BrokenCodesAreDamaged → (page : ℕ → List ℕ) (cat : Catalog) (table : ℕ) → table < length cat.schema
    → (index : IdIndex) → IsIdIndexOf cat table index
    → (directory : Directory) → directory ≡ index.directory → (level : ℕ) → level < length (above_of cat.schema table)
    → (entry : ℕ) → entry < count_of cat table → (list : ListRef) → IsListOfEntry page directory level entry list
    → (number slot found : ℕ) → OutOfRowsIn page list (rows_at cat (above_of cat.schema table) level) number slot found
    → IsDamagedSlot cat page number slot found
id_code_damage broken page cat table there index is directory same level low entry inside list of number slot found out = record {
  file = IdLevel table level;
  place = out.place;
  at = id_code_is_damaged broken page cat table there index is directory same level low entry inside list of number slot found out;
}

pub value_lists_damage : DamageIsOfSlots → BrokenCodesAreDamaged → ValueListsDamageSlots
value_lists_damage damage broken page cat table column h index is lists are told number slot found damaged =
    let levels = length (levels_of cat.schema table) in
    elim damaged [
      | inl one ↦ damage.list page cat table column h index is one.entry
          (comes_within index.directory levels (rows_of index) lists one.entry are one.comes)
          (comes_within index.directory levels (header_count page index) lists one.entry told one.comes)
          number slot found (directory_damage page lists.directory index.directory are.directory_is one.entry number slot found one.damage)
      | inr code ↦ record {
        file = IndexLevel table column lists.level;
        place = code.out.place;
        at = code_damage broken page cat table column h index is lists.directory are.directory_is lists.level are.level code.may.entry
            (given_within index.directory levels (rows_of index) lists code.may.entry are code.may.before)
            (given_within index.directory levels (header_count page index) lists code.may.entry told code.may.before)
            code.list code.may.is number slot found code.out;
      }
    ]

pub id_lists_damage : DamageIsOfSlots → BrokenCodesAreDamaged → IdListsDamageSlots
id_lists_damage damage broken page cat table there above index is lists are number slot found damaged =
    let levels = length (above_of cat.schema table) in
    elim damaged [
      | inl one ↦ damage.id_list page cat table there above index is one.entry
          (comes_within index.directory levels (count_of cat table) lists one.entry are one.comes)
          number slot found (directory_damage page lists.directory index.directory are.directory_is one.entry number slot found one.damage)
      | inr code ↦ id_code_damage broken page cat table there index is lists.directory are.directory_is lists.level are.level code.may.entry
          (given_within index.directory levels (count_of cat table) lists code.may.entry are code.may.before)
          code.list code.may.is number slot found code.out
    ]
