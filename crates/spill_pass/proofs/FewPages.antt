-- How many pages lists take at most.
use Rattle.std.proofs.Common.{◌≡◌, ℕ, ◌-◌, ◌*◌, ◌<◌, ◌≤◌, Bool, true, false, if◌then◌else◌, refl, arith}
use Rattle.ghost_model.specs.forms.Runs.{pages_of}
use Rattle.flash_pages.specs.declared.filler.RunFiller.{RunFiller}
use Rattle.flash_pages.specs.Writers.{finish_calls, next_page, waits}
use Rattle.flash_pages.specs.Writing.{erases, page_calls}
use Rattle.flash_pages.proofs.Fillings.{whole_pages}
use Rattle.spill_pass.specs.FewPages.{FreshListIsShort, FreshRecordsAreShort, WritesFewPages}
use Rattle.spill_pass.specs.Sources.{IsIdWidth, Codes, Identifiers}
use Rattle.spill_pass.proofs.FreshLists.{few_pages, fresh_pages, pages_most}
use Rattle.spill_pass.proofs.Going.{some_wait}
use Rattle.spill_pass.proofs.Writing.{few_page_calls}

some_width : (width : ℕ) → IsIdWidth width → 0 < width
some_width width (Codes is) = omega (arith, is)
some_width width (Identifiers is) = omega (arith, is)

small_width : (width : ℕ) → IsIdWidth width → width ≤ 2048
small_width width (Codes is) = omega (arith, is)
small_width width (Identifiers is) = omega (arith, is)

pub fresh_list : FreshListIsShort
fresh_list pool run fresh width =
    omega (
      arith,
      fresh_pages pool run fresh (some_width run.list.run.width width) (small_width run.list.run.width width),
      few_pages run.list.run run.list.count width,
    )

pub fresh_records : FreshRecordsAreShort
fresh_records pool run fresh some fits = omega (arith, fresh_pages pool run fresh some fits, pages_most run.list.run run.list.count some fits)

pub writes_few : WritesFewPages
writes_few writer width = omega (arith, whole_pages writer 4 writer.count width refl)

-- the last page makes two calls at most, where records wait for it
waiting_calls : (wait : Bool) (calls held : ℕ) → calls ≤ 2 → (wait ≡ true → 0 < held) → (if wait then calls else 0) ≤ 2 * held
waiting_calls true calls held few some = omega (arith, few, some refl)
waiting_calls false calls held few some = omega arith

waiting_few : (wait : Bool) (calls : ℕ) → calls ≤ 2 → (if wait then calls else 0) ≤ 2
waiting_few true calls few = few
waiting_few false calls few = omega arith

-- so the calls of all pages are two a page at most
pub finish_by_pages :
    (writer : RunFiller) → writer.width ≡ 4 → finish_calls writer ≤ 2 * (pages_of writer.count 4 - writer.pages)
finish_by_pages writer width =
    let page = page_calls (next_page writer) writer.erase in
    let few = few_page_calls (erases (next_page writer) writer.erase) in
    omega (
      arith,
      whole_pages writer 4 writer.count width refl,
      waiting_calls (waits writer) page writer.held few (some_wait writer.held),
      waiting_few (waits writer) page few,
    )
