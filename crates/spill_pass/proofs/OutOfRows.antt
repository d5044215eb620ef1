-- A slot without an identifier of the rows, on pages that are as they were.
use Rattle.std.proofs.Common.{◌≡◌, ◌∙◌, ℕ, ◌+◌, ◌<◌, ◌≤◌, List, ap, sym, arith}
use Rattle.ghost_model.specs.forms.Runs.{found_in, page_of}
use Rattle.ghost_base.specs.declared.runs.ListRef.{ListRef}
use Rattle.ghost_base.specs.Runs.{run_of}
use Rattle.flash_pages.proofs.CodePlaces.{bytes_kept, place_inside}
use Rattle.flash_pages.proofs.ListFrames.{listed_kept, reading_of_kept}
use Rattle.spill_pass.specs.Lists.{OutOfRowsIn, id_of}

pub out_kept :
    (page now : ℕ → List ℕ) (list : ListRef) (rows number slot found : ℕ) → list.first + list.count ≤ list.run.count
    → ((i : ℕ) → i < list.run.count → now (page_of (run_of list.run) i) ≡ page (page_of (run_of list.run) i))
    → OutOfRowsIn now list rows number slot found → OutOfRowsIn page list rows number slot found
out_kept page now list rows number slot found inside same out =
    let run = run_of list.run in
    let there = place_inside now run list.first out.at out.place out.last (omega (arith, out.within, inside)) out.gets in
    let is : id_of now list out.at ≡ id_of page list out.at = listed_kept page now run list.first out.at (omega (arith, out.within, inside)) same in
    record {
      at = out.at;
      within = out.within;
      place = out.place;
      last = out.last;
      gets = sym (reading_of_kept page now run list.first out.at (omega (arith, out.within, inside)) same) ∙ out.gets;
      kept = out.kept;
      page_is = out.page_is;
      slot_is = out.slot_is;
      found_is = out.found_is ∙ ap found_in (bytes_kept page now run out.place there same);
      out = λ some few. out.out (omega (arith, is, some)) (omega (arith, is, few));
    }
