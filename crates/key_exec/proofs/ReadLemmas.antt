-- Where a slot lies that the work on a candidate blames: in a file that the plan reads for the query, or, where the pages are not told, in a
-- reply.
use Rattle.std.proofs.Common.{◌≡◌, ◌∙◌, ◌-◌, ◌<◌, ◌&&◌, ℕ, Bool, true, false, not, nat_eq, List, Option, Result, Ok, Err, refl, ap, subst, arith}
use Rattle.std.specs.Prelude.{IfErr}
use Rattle.std.proofs.lemmas.Bool.Decides.{nat_tests}
use Rattle.ghost_model.specs.core.Channel.{Catalog}
use Rattle.ghost_model.specs.core.Query.{Query}
use Rattle.ghost_model.specs.forms.Layout.{Cells, Subtrees, column_file, subtree_table}
use Rattle.ghost_model.specs.forms.Runs.{Run, cell_in, found_in, page_of, record_at, slot_of}
use Rattle.ghost_base.specs.Runs.{run_of}
use Rattle.edge_traits.specs.Devices.{Device}
use Rattle.flash_pages.specs.declared.fault.PageFault.{PageFault}
use Rattle.flash_pages.specs.Reads.{WasRead}
use Rattle.flash_pages.proofs.ListFrames.{records_by_width, was_listed}
use Rattle.flash_pages.specs.declared.fault.PageFault.TheVariants.{Flash, Damaged}
use Rattle.visible_spool.specs.declared.half.Half.{Half}
use Rattle.visible_spool.specs.Halves.{reply_of}
use Rattle.visible_spool.specs.Sparing.{IsHalf}
use Rattle.candidate_rows.specs.declared.plan.RowPlan.{RowPlan}
use Rattle.candidate_rows.specs.Working.{IsNeed, Need, NoNeed, OfSlot, OfRow, OfRecord}
use Rattle.candidate_rows.specs.Laws.{wants_below}
use Rattle.candidate_rows.specs.Steps.{BlamesNeeded, FailsNeeded}
use Rattle.candidate_gathering.specs.known.Found.{InFile, InReplies, WasFoundAt}
use Rattle.leakless_plan.specs.declared.form.Form.{Form}
use Rattle.leakless_plan.specs.declared.plan.Plan.TheVariants as plans
use Rattle.key_exec.specs.declared.job.Went.{Went}
use Rattle.key_exec.specs.Blaming.{BlamesRead}
use Rattle.key_exec.proofs.BlameLemmas.{not_whole}
use Rattle.key_exec.proofs.ChosenLemmas.{IsChosen}

-- the record at a place, by the bytes of its page
in_page : (bytes : List ℕ) (run : Run) (place : ℕ) → cell_in bytes run.width (slot_of run place) ≡ record_at (λ number. bytes) run place
unfolding record_at
in_page bytes run place = refl

-- one of a run
module _ (since : ℕ) (now : Device) (run run' : Run) (same : run ≡ run') (place number slot found : ℕ) (bytes : List ℕ) where
  pub at_run : place < run'.count → number ≡ page_of run place → slot ≡ slot_of run place → WasRead since now run place bytes → found ≡ found_in bytes
      → WasFoundAt since now run' (λ held i. record_at (λ at. held) run' i) number slot found
  at_run within page_is slot_is read found_is =
      let was : WasRead since now run' place bytes = subst (λ (r : Run). WasRead since now r place bytes) same read in
      record {
        place = place;
        within = within;
        page_is = page_is ∙ ap (λ (r : Run). page_of r place) same;
        slot_is = slot_is ∙ ap (λ (r : Run). slot_of r place) same;
        bytes = was.bytes;
        gave = was.gave;
        found_is = found_is ∙ ap found_in (was.record_is ∙ in_page was.bytes run' place);
      }

-- ---- the work on a candidate

both_so : (a b : Bool) → a ≡ true → b ≡ true → (a && b) ≡ true
both_so true b is so = so
both_so false b is so = absurd (cc (is))

same_table : (n : ℕ) → nat_eq n n ≡ true
same_table n = grind (arith, nat_tests)

module _ (told : Bool) (since : ℕ) (before now : Device) (forced : Option Form) (cat : Catalog) (asked : Query) (side : ℕ) (half : Half) (plan : RowPlan)
    (is_half : IsHalf told cat side before half) where
  untold : (is_told : Bool) → told ≡ is_told → (told ≡ true → ⊥) → told ≡ false
  untold true is never = absurd (never is)
  untold false is never = is

  need_was_read : (need : Need) (fault : PageFault) → IsNeed cat plan need → IsChosen cat asked plan.top need → BlamesNeeded since now half need fault → (told ≡ true → FailsNeeded before.page half need fault)
      → BlamesRead (plans.Linked forced) told since now cat asked plan.top side half fault
  need_was_read need Flash needed chosen blames fails = tt
  need_was_read NoNeed (Damaged number slot found) needed chosen blames fails = absurd blames
  need_was_read (OfSlot at) (Damaged number slot found) needed chosen blames fails =
      let place = at.identifier - 1 in
      InFile (record {
        file = Cells chosen.table chosen.column;
        has = chosen.file.hidden;
        read_for = chosen.needed;
        at = at_run since now (run_of at.file.run) (column_file cat chosen.table chosen.column) chosen.file.file_is.run_is place number slot found blames.bytes
            (omega (arith, chosen.some, chosen.within)) blames.page_is blames.slot_is blames.read blames.found_is;
      })
  need_was_read (OfRow look) (Damaged number slot found) needed chosen blames fails =
      let lies = is_half.lies look.table needed blames.place blames.within in
      let run = run_of (reply_of half look.table).run in
      let listed = was_listed (records_by_width run (is_half.readable look.table needed).sound.wide) blames.read in
      InReplies (untold told refl (not_whole told cat side before half look (Damaged number slot found) needed is_half fails)) (record {
        from = omega (arith, lies.0, blames.page_is);
        to = omega (arith, lies.1, blames.page_is);
        run = run;
        width = (is_half.readable look.table needed).sound.wide;
        at = record {
          place = blames.place;
          within = blames.within;
          page_is = blames.page_is;
          slot_is = blames.slot_is;
          bytes = listed.bytes;
          gave = listed.gave;
          found_is = blames.found_is ∙ ap found_in listed.are;
        };
      })
  need_was_read (OfRecord file identifier) (Damaged number slot found) needed chosen blames fails =
      let place = identifier - 1 in
      let of = needed.file_is in
      InFile (record {
        file = Subtrees plan.top;
        has = ap not of.some_below;
        read_for = both_so (nat_eq plan.top plan.top) (wants_below cat.schema asked plan.top) (same_table plan.top) chosen;
        at = at_run since now (run_of file.table.run) (subtree_table cat plan.top) of.table_is.run_is place number slot found blames.bytes
            (omega (arith, needed.some, needed.within)) blames.page_is blames.slot_is blames.read blames.found_is;
      })

  pub needed_was_read : (need : Need) (result : Result Went PageFault) → IsNeed cat plan need → IsChosen cat asked plan.top need → IfErr result (BlamesNeeded since now half need)
      → (told ≡ true → IfErr result (FailsNeeded before.page half need)) → IfErr result (BlamesRead (plans.Linked forced) told since now cat asked plan.top side half)
  needed_was_read need (Ok went) needed chosen blames fails = tt
  needed_was_read need (Err fault) needed chosen blames fails = need_was_read need fault needed chosen blames fails
