-- What is left where the last pages of the lists and of their places are written.
use Rattle.std.proofs.Common.{◌≡◌, ◌∙◌, ℕ, ◌+◌, ◌-◌, ◌*◌, ◌/◌, ◌<◌, ◌≤◌, ◌⊎◌, Bool, true, false, List, [], ◌++◌, map, ap, sym, refl, subst, arith}
use Rattle.std.specs.List.{concat}
use Rattle.std.proofs.lemmas.List.{append-nil}
use Rattle.ghost_model.specs.forms.Runs.{number_cell, Stores, page_of, per_page}
use Rattle.ghost_base.specs.declared.runs.Run.{Run}
use Rattle.ghost_base.specs.Runs.{run_of}
use Rattle.edge_traits.specs.Devices.{Device, KeepsPages, ChangesOnly}
use Rattle.page_pool.specs.Pools.{Pool, AreOut}
use Rattle.page_pool.specs.Laws.{SameBuffer}
use Rattle.flash_pages.specs.declared.writer.RunWriter.{RunWriter}
use Rattle.flash_pages.specs.Writing.{reach}
use Rattle.flash_pages.specs.Writers.{CanWrite, HasPut, IsRunOf, next_page, waits}
use Rattle.flash_pages.proofs.LeaseFrames.{put_kept}
use Rattle.flash_pages.proofs.RunFrames.{stores_kept}
use Rattle.id_merge.specs.declared.merge.Merge.{Merge}
use Rattle.spill_pass.specs.declared.merging.MergeInto.{MergeInto}
use Rattle.spill_pass.specs.declared.groups.Groups.{Groups}
use Rattle.spill_pass.specs.Merging.{area_pages, area_end}
use Rattle.spill_pass.specs.Grouping.{IsGrouping, IsGrouped, GoesOn, StoresLists, groups_held, places_end, places_of}
use Rattle.spill_pass.proofs.Writing.{wrote}
use Rattle.spill_pass.proofs.Going.{finish_changes, finish_in_area, some_wait, same_pool}
use Rattle.spill_pass.proofs.Grouping.{goes_into, place_within, places_below, apart_pages, same_beside_area, entered_still}
use Rattle.spill_pass.proofs.Closing.{put_goes, place_reach, can_place_later, other_apart}
use Rattle.spill_pass.proofs.Listing.{none_yet}

-- the lists
pub finish_lists_goes :
    {told : Bool} {before now : Device} {pool later : Pool} (old : Groups) (writer : RunWriter) → IsGrouping told before pool old
    → ChangesOnly (next_page old.into.writer.filler) (reach (next_page old.into.writer.filler) old.into.writer.filler.erase) before now
    → (waits old.into.writer.filler ≡ false → KeepsPages before now) → later ≡ pool → writer ≡ old.into.writer
    → GoesOn before now pool later old (record { into = record { merge = old.into.merge; writer = writer; rows = old.into.rows }; places = old.places; begun = old.begun; size = old.size })
finish_lists_goes {told = told} old writer is changes kept same writer_is =
    goes_into {told = told} old _ is.leases
    (wrote old.into writer is.merging (finish_in_area is.merging changes kept)
    (same_pool old.into.writer.lease same) (ap (λ (w : RunWriter). w.lease) writer_is) (ap (λ (w : RunWriter). w.filler.first) writer_is))

-- the places
places_waiting : (pages held count size : ℕ) → pages * 256 + held ≡ count → 2 * count ≤ size + 1 → 0 < held → pages * 512 < size
places_waiting pages held count size whole few some = omega arith

pub can_finish :
    {told : Bool} {before : Device} {pool : Pool} (groups : Groups) (now : Device) → IsGrouping told before pool groups
    → ChangesOnly groups.into.writer.filler.first (area_end groups.into) before now → waits groups.places.filler ≡ true → CanWrite now groups.places.filler
can_finish groups now is changes wait =
    can_place_later groups now is changes.page_count (entered_still groups is changes)
    (places_waiting groups.places.filler.pages groups.places.filler.held groups.places.filler.count groups.size (places_below groups is) is.placed (some_wait groups.places.filler.held wait))

pub finish_places_in_area :
    {told : Bool} {device before now : Device} {pool : Pool} (groups : Groups) → IsGrouping told device pool groups
    → ChangesOnly (next_page groups.places.filler) (reach (next_page groups.places.filler) groups.places.filler.erase) before now
    → (waits groups.places.filler ≡ false → KeepsPages before now) → ChangesOnly groups.places.filler.first (places_end groups) before now
finish_places_in_area groups is changes kept =
    finish_changes (waits groups.places.filler) changes (omega arith)
    (λ wait. place_reach groups is
    (places_waiting groups.places.filler.pages groups.places.filler.held groups.places.filler.count groups.size (places_below groups is) is.placed (some_wait groups.places.filler.held wait)))
    kept

pub finish_places_goes :
    {told : Bool} {device before now : Device} {held pool later : Pool} (old : Groups) (into : MergeInto) (places : RunWriter) → IsGrouping told device held old
    → AreOut pool (groups_held (record { into = into; places = old.places; begun = old.begun; size = old.size }))
    → ChangesOnly (next_page old.places.filler) (reach (next_page old.places.filler) old.places.filler.erase) before now
    → (waits old.places.filler ≡ false → KeepsPages before now) → later ≡ pool → places ≡ old.places
    → GoesOn before now pool later (record { into = into; places = old.places; begun = old.begun; size = old.size }) (record { into = into; places = places; begun = old.begun; size = old.size })
finish_places_goes old into places is are changes kept same places_is =
    put_goes (record { into = into; places = old.places; begun = old.begun; size = old.size }) places are (finish_places_in_area old is changes kept)
    (same_pool old.places.lease same) (ap (λ (w : RunWriter). w.lease) places_is) (ap (λ (w : RunWriter). w.filler.first) places_is)

-- a run of records of four bytes lies in the area of so many rows
page_of_area : (first i count rows : ℕ) → i < count → count ≤ rows → first + i / 512 < first + area_pages rows
page_of_area first i count rows within few = omega arith

place_of_area : (first place count rows : ℕ) → place < (count + 511) / 512 → count ≤ rows → first + place < first + area_pages rows
place_of_area first place count rows within few = omega arith

pub finished_stores :
    {told : Bool} {before mid now : Device} {pool then : Pool} (lists : List (List ℕ)) (old : Groups) (run places : Run)
    → IsGrouping told before pool old
    → ChangesOnly old.into.writer.filler.first (area_end old.into) before mid → ChangesOnly old.places.filler.first (places_end old) mid now
    → then ≡ pool → IsRunOf old.into.writer.filler run
    → ((records : List (List ℕ)) → HasPut told before.page pool old.into.writer records → Stores mid.page (run_of run) records)
    → ((records : List (List ℕ)) → HasPut told mid.page then old.places records → Stores now.page (run_of places) records)
    → (ids : List ℕ) → ids ≡ [] → HasPut told before.page pool old.into.writer (map number_cell (concat lists ++ ids))
    → HasPut told before.page pool old.places (places_of 0 lists) → StoresLists now.page lists (record { places = places; lists = run })
finished_stores {told = told} {before = before} {mid = mid} {now = now} {pool = pool} {then = then} lists old run places is one two same run_is stores places_stores ids none was_put was_placed =
    let H : List ℕ → Type 0 = λ ids. HasPut told before.page pool old.into.writer (map number_cell (concat lists ++ ids)) in
    let I : List ℕ → Type 0 = λ ids. HasPut told before.page pool old.into.writer (map number_cell ids) in
    let put = subst I (append-nil (concat lists)) (subst H none was_put) in
    let apart : (number : ℕ) → old.into.writer.filler.first ≤ number → number < area_end old.into → (number < old.places.filler.first) ⊎ (places_end old ≤ number) =
    λ number from to. other_apart number is.apart from to in
    let first_is = run_is.first in
    let ends =
    place_within old.places.filler.first old.places.filler.pages old.places.filler.held old.places.filler.count old.size is.area.block (places_below old is) is.placed in
    let W : ℕ → Type 0 = λ width. (i : ℕ) → i < run.count → run.first + i / per_page width < old.into.writer.filler.first + area_pages old.into.rows in
    let V : ℕ → Type 0 = λ width. (place : ℕ) → place < (run.count + (per_page width - 1)) / per_page width → run.first + place < old.into.writer.filler.first + area_pages old.into.rows in
    let width = sym (run_is.width ∙ is.merging.width) in
    let few : run.count ≤ old.into.rows = omega (arith, run_is.count, is.merging.count) in
    let pages = subst W width (λ i within. omega (arith, page_of_area run.first i run.count old.into.rows within few, first_is)) in
    let rests = subst V width (λ place within. omega (arith, place_of_area run.first place run.count old.into.rows within few, first_is)) in
    let P : Pool → Type 0 = λ p. SameBuffer pool p old.places.lease in
    record {
      ids =
          stores_kept
          (λ i within. (same_beside_area (page_of (run_of run) i) two (apart (page_of (run_of run) i) (omega (arith, first_is)) (pages i within))).bytes)
          (λ place within. (same_beside_area (run.first + place) two (apart (run.first + place) (omega (arith, first_is)) (rests place within))).bytes)
          (stores (map number_cell (concat lists)) put);
      places =
          places_stores (places_of 0 lists)
          (put_kept old.places
          (λ tells number from to. (same_beside_area number one (apart_pages number is.apart from (omega (arith, to, ends.0)))).bytes)
          (subst P (sym same) (record { bytes = refl; filled = refl })) was_placed);
    }

pub finished_lists :
    {told : Bool} {right : ℕ → List ℕ} {first : Merge} {lists : List (List ℕ)} {before mid now : Device} {pool then : Pool} (old : Groups) (run places : Run)
    → told ≡ true → IsGrouping told before pool old → old.into.merge.last ≡ 0
    → ChangesOnly old.into.writer.filler.first (area_end old.into) before mid → ChangesOnly old.places.filler.first (places_end old) mid now
    → then ≡ pool → IsRunOf old.into.writer.filler run
    → ((records : List (List ℕ)) → HasPut told before.page pool old.into.writer records → Stores mid.page (run_of run) records)
    → ((records : List (List ℕ)) → HasPut told mid.page then old.places records → Stores now.page (run_of places) records)
    → IsGrouped told right first lists before.page pool old → StoresLists now.page lists (record { places = places; lists = run })
finished_lists {lists = lists} old run places is_told is last one two same run_is stores places_stores was =
    let g = was.gathers in
    finished_stores lists old run places is one two same run_is stores places_stores g.ids (none_yet g last) g.put was.places
