-- What is blamed of runs that may be was found in a file that is read, or, where pages are not told, in a reply or in scratch; and the
-- file is the one in which the slot is damaged.
use Rattle.std.proofs.Common.{◌≡◌, ◌∙◌, ap, refl, sym, subst, ℕ, ◌-◌, ◌/◌, ◌%◌, ◌<◌, ◌≤◌, inl, inr, Bool, true, false, not, ◌&&◌, ◌||◌, nat_eq, nat_le, nat_lt, List, [], ◌∷◌, length, drop, Option, arith}
use Rattle.std.specs.Prelude.{if◌then◌else◌}
use Rattle.std.specs.List.{list_any}
use Rattle.std.proofs.lemmas.Bool.{and_parts, or_cases, leb-true, ltb-true, eqb-true}
use Rattle.ghost_model.specs.core.Schema.{Schema, ancestor, is_empty}
use Rattle.ghost_model.specs.core.Channel.{Catalog}
use Rattle.ghost_model.specs.core.Query.{Query}
use Rattle.ghost_model.specs.forms.Layout.{above_of, descendants_of, is_hidden, levels_of, scratch_end, spool_end, File, Cells, Subtrees, IndexHeader, IndexDirectory, IndexLevel, IdDirectory, IdLevel, run_of_file}
use Rattle.ghost_model.specs.forms.Runs.{Run, cell_in, found_in, page_of, per_page, record_at, run_end}
use Rattle.ghost_model.specs.forms.Slots.{has_file, in_slot}
use Rattle.ghost_model.specs.laws.LayoutLaws.{FilesLieAsSummed, FilesLieInOrder, LayoutIsSmall, RecordsStandWithin}
use Rattle.ghost_model.proofs.LayoutLemmas.Small.{some_in}
use Rattle.edge_traits.specs.Devices.{Device}
use Rattle.flash_pages.specs.Reads.{bytes_in}
use Rattle.flash_pages.proofs.ListFrames.{records_by_width}
use Rattle.id_merge.specs.Since.{IsBlamed}
use Rattle.leakless_plan.specs.declared.form.Form.{Form}
use Rattle.visible_spool.specs.Areas.{half_begin, half_end}
use Rattle.candidate_gathering.specs.known.Found.{InFile, InReplies, InScratch, WasFoundAt, WasFoundBetween, WasFoundByForms}
use Rattle.candidate_gathering.specs.known.Laws.{BadSlotsAreRead, BlamedAreFound}
use Rattle.candidate_gathering.specs.known.May.{files_in, is_column, is_run_read, is_same_run, lies_in, since_for}
use Rattle.candidate_gathering.specs.known.Reading.{IsBadSlotBy, IsReadByForms, is_read_by}
use Rattle.candidate_gathering.proofs.known_lemmas.FilePages.{is_static}
use Rattle.candidate_gathering.proofs.known_lemmas.Listed.{run_is, some_of}
use Rattle.candidate_gathering.proofs.known_lemmas.OneFile.{one_file}

not_told : (b : Bool) → not b ≡ true → b ≡ false
not_told true e = absurd (cc e)
not_told false e = refl

-- pages of a run rise
pages_rise : (run : Run) (place later : ℕ) → place ≤ later → page_of run place ≤ page_of run later
pages_rise run place later low = let rise = div_rises place later (per_page run.width) low in omega (arith, rise)
  where
    div_rises : (a b n : ℕ) → a ≤ b → a / n ≤ b / n
    div_rises a b n low = grind (arith, low)

-- a page of a run that lies between two others does
lies_between : (low high : ℕ) (run : Run) → lies_in low high run ≡ true → (place : ℕ) → place < run.count → (low ≤ page_of run place) × (page_of run place < high)
lies_between low high run lies place within =
    elim (or_cases (nat_eq run.count 0) (nat_le low (page_of run 0) && nat_lt (page_of run (run.count - 1)) high) lies) [
      | inl none ↦ (let e = eqb-true run.count 0 none in absurd (omega (arith, e, within)))
      | inr inside ↦ (
          let ends = and_parts (nat_le low (page_of run 0)) (nat_lt (page_of run (run.count - 1)) high) inside in
          let from = leb-true low (page_of run 0) ends.0 in
          let to = ltb-true (page_of run (run.count - 1)) high ends.1 in
          let up = pages_rise run 0 place (omega arith) in
          let down = pages_rise run place (run.count - 1) (omega (arith, within)) in
          (omega (arith, from, up), omega (arith, to, down)))
    ]

-- ---- what a slot of a file has of its page

-- a table of which a column is hidden has levels, its own first
levels_some : (schema : Schema) (table column : ℕ) → is_hidden schema table column ≡ true → 0 < length (levels_of schema table)
unfolding ancestor
levels_some [] table column hidden = absurd (cc hidden)
levels_some (first ∷ later) table column hidden = omega arith

module _ (cat : Catalog) (bytes : List ℕ) where
  by_record : (run : Run) (place : ℕ) → 4 ≤ run.width → bytes_in bytes run place ≡ record_at (λ _. bytes) run place
  unfolding record_at
  by_record run place wide =
      ap (λ (codes : Bool). if codes then drop (place % (2048 / run.width)) bytes else cell_in bytes run.width (place % (2048 / run.width)))
      (records_by_width run wide)

  -- where it is no column's, what stands at a place of its run as a list's
  slot_read : (file : File) (place : ℕ) → has_file cat.schema file ≡ true → is_column file ≡ false
      → bytes_in bytes (run_of_file cat file) place ≡ in_slot (λ _. bytes) cat file place
  slot_read (Cells table column) place has other = absurd (cc other)
  slot_read (Subtrees table) place has other =
      let some = some_in (descendants_of cat.schema table) (not_told (is_empty (descendants_of cat.schema table)) has) in
      by_record (run_of_file cat (Subtrees table)) place (omega (arith, some))
  slot_read (IndexHeader table column) place has other = by_record (run_of_file cat (IndexHeader table column)) place (omega arith)
  slot_read (IndexDirectory table column) place has other =
      let some = levels_some cat.schema table column has in
      by_record (run_of_file cat (IndexDirectory table column)) place (omega (arith, some))
  slot_read (IndexLevel table column level) place has other = refl
  slot_read (IdDirectory table) place has other =
      let some = some_in (above_of cat.schema table) (not_told (is_empty (above_of cat.schema table)) has) in
      by_record (run_of_file cat (IdDirectory table)) place (omega (arith, some))
  slot_read (IdLevel table level) place has other = refl

module _ (told : Bool) (calls : ℕ) (device : Device) (cat : Catalog) (asked : Query) (forced : Option Form) (top side number slot found : ℕ)
    (blamed : IsBlamed (since_for told calls cat asked forced top side) device number slot found) where
  found_at : WasFoundAt calls device blamed.run (λ bytes. bytes_in bytes blamed.run) number slot found
  found_at = record {
    place = blamed.place;
    within = blamed.within;
    page_is = blamed.page_is;
    slot_is = blamed.slot_is;
    bytes = blamed.read.bytes;
    gave = blamed.read.gave;
    found_is = blamed.found_is ∙ ap found_in blamed.read.are;
  }

  found_in_file : (file : File) → has_file cat.schema file ≡ true → is_column file ≡ false → blamed.run ≡ run_of_file cat file
      → WasFoundAt calls device (run_of_file cat file) (λ bytes. in_slot (λ _. bytes) cat file) number slot found
  found_in_file file has other same =
      let W : Run → Type 0 = λ run. WasFoundAt calls device run (λ bytes. bytes_in bytes run) number slot found in
      let at = subst W same found_at in
      record {
        place = at.place;
        within = at.within;
        page_is = at.page_is;
        slot_is = at.slot_is;
        bytes = at.bytes;
        gave = at.gave;
        found_is = at.found_is ∙ ap found_in (slot_read cat at.bytes file at.place has other);
      }

  between : (low high : ℕ) → 4 ≤ blamed.run.width → lies_in low high blamed.run ≡ true → WasFoundBetween calls device low high number slot found
  between low high wide lies =
      let at = lies_between low high blamed.run lies blamed.place blamed.within in
      let page = blamed.page_is in
      let from = at.0 in
      let to = at.1 in
      record { from = omega (arith, page, from); to = omega (arith, page, to); run = blamed.run; width = wide; at = found_at }

  is_found : WasFoundByForms told calls device cat asked forced top side number slot found
  is_found =
      let files = list_any (is_run_read cat asked forced top blamed.run) (files_in cat.schema) in
      let replies = lies_in (half_begin cat side) (half_end cat side) blamed.run in
      let scratch = lies_in (spool_end cat) (scratch_end cat) blamed.run in
      elim (or_cases files (not told && (nat_le 4 blamed.run.width && (replies || scratch))) blamed.may) [
        | inl static ↦ (
            let one = some_of (is_run_read cat asked forced top blamed.run) (files_in cat.schema) static in
            let file = one.item in
            let read = is_read_by cat asked forced top file && is_same_run blamed.run (run_of_file cat file) in
            let first = and_parts (has_file cat.schema file) (not (is_column file) && read) one.passes in
            let second = and_parts (not (is_column file)) read first.1 in
            let rest = and_parts (is_read_by cat asked forced top file) (is_same_run blamed.run (run_of_file cat file)) second.1 in
            InFile (record {
              file = file;
              has = first.0;
              read_for = rest.0;
              at = found_in_file file first.0 (not_told (is_column file) second.0) (run_is blamed.run (run_of_file cat file) rest.1);
            }))
        | inr other ↦ (
            let parts = and_parts (not told) (nat_le 4 blamed.run.width && (replies || scratch)) other in
            let untold = not_told told parts.0 in
            let records = and_parts (nat_le 4 blamed.run.width) (replies || scratch) parts.1 in
            let wide = leb-true 4 blamed.run.width records.0 in
            elim (or_cases replies scratch records.1) [
              | inl one ↦ InReplies untold (between (half_begin cat side) (half_end cat side) wide one)
              | inr one ↦ InScratch untold (between (spool_end cat) (scratch_end cat) wide one)
            ])
      ]

pub are_found : BlamedAreFound
are_found told calls device cat asked forced top side number slot found blamed = is_found told calls device cat asked forced top side number slot found blamed

-- ---- where pages are told

pub bad_are_read : FilesLieAsSummed → FilesLieInOrder → LayoutIsSmall → RecordsStandWithin → BadSlotsAreRead
bad_are_read summed orders small stand page cat asked crosses forced top side database tree since device number slot found bad was = by was
  where
    in_run : (file : File) → has_file cat.schema file ≡ true → (place : ℕ) → place < (run_of_file cat file).count → number ≡ page_of (run_of_file cat file) place
        → ((run_of_file cat file).first ≤ number) × (number < run_end (run_of_file cat file))
    in_run file has place low at =
        let static = is_static cat tree (small.narrow cat tree) (summed cat) (orders cat) file has in
        let before = (stand (run_of_file cat file) static.some static.fits).page place low in
        (omega (arith, at), omega (arith, at, before))

    by : WasFoundByForms true since device cat asked forced top side number slot found → IsBadSlotBy page cat asked forced top database number slot found
    by (InReplies untold between) = absurd (cc untold)
    by (InScratch untold between) = absurd (cc untold)
    by (InFile one) =
        let damaged = bad.damaged in
        let static = is_static cat tree (small.narrow cat tree) (summed cat) (orders cat) bad.file damaged.has in
        let inside : bad.place < (run_of_file cat bad.file).count = let room = static.room page in let low = damaged.within in omega (arith, low, room) in
        let here = in_run bad.file damaged.has bad.place inside damaged.page_is in
        let there = in_run one.file one.has one.at.place one.at.within one.at.page_is in
        let same = one_file cat tree (summed cat) (orders cat) number bad.file one.file damaged.has one.has here.0 here.1 there.0 there.1 in
        record {
          file = bad.file;
          place = bad.place;
          read_for = subst (IsReadByForms cat asked forced top) (sym same) one.read_for;
          damaged = bad.damaged;
          never = bad.never;
        }
