-- Areas that lie behind a page.
use Rattle.std.specs.Prelude.{◌≡◌, ℕ, ◌+◌, ◌*◌, ◌%◌, ◌^◌, ◌<◌, ◌≤◌}
use Rattle.ghost_model.specs.forms.Runs.{pages_of}
use Rattle.ghost_base.specs.declared.runs.Run.{Run}
use Rattle.edge_traits.specs.Devices.{Device}
use Rattle.flash_pages.specs.Runs.{HasRun}
use Rattle.ghost_base.specs.Runs.{run_of}
use Rattle.spill_pass.specs.declared.reduce.Areas.{Areas}
use Rattle.spill_pass.specs.Merging.{area_pages}
use Rattle.merge_tests.specs.declared.unions.Sources.{Sources}

-- each area begins where the one before it ends, with room for one identifier or list more
pub record LiesFrom (first rows size : ℕ) (areas : Areas) : Type 0 where
  pub to : areas.to ≡ first
  pub lists : areas.lists ≡ first + area_pages (rows + 1)
  pub other_lists : areas.other_lists ≡ first + 2 * area_pages (rows + 1)
  pub places : areas.places ≡ first + 3 * area_pages (rows + 1)
  pub other_places : areas.other_places ≡ first + 3 * area_pages (rows + 1) + area_pages (size + 1)

-- a run lies before a page, and a device has pages for the areas from there on
pub record IsBefore (first : ℕ) (run : Run) (width : ℕ) : Type 0 where
  pub width_is : run.width ≡ width
  pub pages : run.first + pages_of run.count width ≤ first

pub record HasRoomFor (device : Device) (first rows size : ℕ) : Type 0 where
  pub block : first % 64 ≡ 0
  pub pages : first + 3 * area_pages (rows + 1) + 2 * area_pages (size + 1) ≤ device.page_count
  pub small : device.page_count < 2 ^ 32

-- lists one behind another lie before a page, and may be read
pub record AreSources (device : Device) (first : ℕ) (sources : Sources) : Type 0 where
  pub lists_run : HasRun device (run_of sources.lists)
  pub places_run : HasRun device (run_of sources.places)
  pub lists_before : IsBefore first sources.lists 4
  pub places_before : IsBefore first sources.places 8
  pub at : sources.at ≤ sources.places.count
  pub next : sources.next ≤ sources.lists.count
  pub few : sources.lists.count ≤ 2000000
