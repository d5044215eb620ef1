-- What is blamed is a damaged slot of a file that is read, of which pages that hold all files have none.
use Rattle.std.proofs.Common.{◌≡◌, ◌∙◌, ap, inl, ℕ, ◌+◌, ◌<◌, Bool, List, length, arith}
use Rattle.ghost_model.specs.core.Values.{Database}
use Rattle.ghost_model.specs.core.Channel.{Catalog}
use Rattle.ghost_model.specs.core.Query.{Query}
use Rattle.ghost_model.specs.forms.Runs.{id_at, number_in}
use Rattle.ghost_model.specs.laws.LayoutLaws.{FilesLieAsSummed}
use Rattle.ghost_model.specs.forms.Layout.{File}
use Rattle.ghost_base.specs.Runs.{run_of}
use Rattle.flash_pages.proofs.ListFrames.{listed_by_width}
use Rattle.climbing_index.specs.Laws.{BrokenCodesAreDamaged, IsOf}
use Rattle.hidden_columns.specs.Laws.{FilesAreOfColumns}
use Rattle.subtree_keys.specs.Laws.{TablesAreOfSlots}
use Rattle.candidate_gathering.specs.known.Known.{IsBadSlotIn, IsBadSlotOf, IsListFile, IsReadCrossing, IsReadByIndexes}
use Rattle.candidate_gathering.specs.known.Laws.{DamageIsBad, HeldFilesHaveNoDamage, RepliesHaveNoDamage}
use Rattle.candidate_gathering.proofs.known_lemmas.BlamedFiles.{IsDamagedFor, cell_is, entries_is, identifiers_is, record_is, replies_is, search_is}

module _ (none : HeldFilesHaveNoDamage) (summed : FilesLieAsSummed) (broken : BrokenCodesAreDamaged) (cells : FilesAreOfColumns) (records : TablesAreOfSlots) where
  slot_is_bad : (page : ℕ → List ℕ) (cat : Catalog) (database : Database) → IsOf cat database
      → (read : File → Type 0) (number slot found : ℕ) → IsDamagedFor page cat read number slot found → IsBadSlotIn page cat database read number slot found
  slot_is_bad page cat database of read number slot found bad = record {
    file = bad.file;
    place = bad.place;
    read_for = bad.read_for;
    damaged = bad.damaged;
    never = λ holds. none page cat database of holds number slot found (record { file = bad.file; place = bad.place; at = bad.damaged });
  }

  for_query : (page : ℕ → List ℕ) (cat : Catalog) (asked : Query) (crosses : Bool) (top : ℕ) (database : Database) (number slot found : ℕ)
      → IsBadSlotIn page cat database (IsReadByIndexes cat asked top) number slot found → IsBadSlotOf page cat asked crosses top database number slot found
  for_query page cat asked crosses top database number slot found bad = record {
    file = bad.file;
    place = bad.place;
    read_for = inl bad.read_for;
    damaged = bad.damaged;
    never = bad.never;
  }

  pub are_bad : DamageIsBad
  are_bad = record {
    slots = λ page cat asked crosses top database of file place is number slot found damaged.
        slot_is_bad page cat database of (IsReadCrossing cat asked crosses top) number slot found (record { file = file; place = place; read_for = is; damaged = damaged });
    search = λ page cat asked top database of table column index level at compared number slot found fails.
        slot_is_bad page cat database of (IsListFile cat asked top) number slot found (search_is summed broken page cat asked top table column index level at compared number slot found fails);
    entries = λ page cat asked top database of table column index level at compared first second a b c d lists are number slot found damaged.
        slot_is_bad page cat database of (IsListFile cat asked top) number slot found
        (entries_is summed broken page cat asked top table column index level at compared first second a b c d lists are number slot found damaged);
    identifiers = λ page cat asked top database of table index level at sought first second a b lists are number slot found damaged.
        slot_is_bad page cat database of (IsListFile cat asked top) number slot found
        (identifiers_is summed broken page cat asked top table index level at sought first second a b lists are number slot found damaged);
    replies = λ page cat asked top database of table index level at sought lists are number slot found damaged.
        slot_is_bad page cat database of (IsListFile cat asked top) number slot found (replies_is summed broken page cat asked top table index level at sought lists are number slot found damaged);
    cell = λ page cat asked crosses top database of table column file is selected identifier row number slot found on_page in_place fails.
        for_query page cat asked crosses top database number slot found (slot_is_bad page cat database of (IsReadByIndexes cat asked top) number slot found
        (cell_is cells page cat asked top table column file is selected identifier row number slot found on_page in_place fails));
    record_of = λ page cat asked crosses top database of file is wanted identifier row number slot found on_page in_place fails.
        for_query page cat asked crosses top database number slot found (slot_is_bad page cat database of (IsReadByIndexes cat asked top) number slot found (record_is records page cat asked top file is wanted identifier row number slot found on_page in_place fails));
  }

-- the records of a reply have identifiers of rows
pub no_reply_damage : RepliesHaveNoDamage
no_reply_damage page reply wide held holds number slot found out =
    let inside : out.at < length held = omega (arith, out.within, holds.has.count) in
    let here : 0 + out.at ≡ out.at = omega arith in
    let id = listed_by_width page (run_of reply.run) 0 out.at wide
    ∙ (ap (id_at page (run_of reply.run)) here ∙ ap (λ bytes. number_in bytes 0) (holds.has.each out.at out.within)) in
    out.out (omega (arith, id, holds.are.some out.at inside)) (omega (arith, id, holds.are.within out.at inside))
