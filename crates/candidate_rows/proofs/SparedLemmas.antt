-- Work on a row where others spared the static pages and the half of its replies.
use Rattle.std.proofs.Common.{◌≡◌, ◌∙◌, ◌-◌, ◌<◌, ℕ, true, List, Option, None, Some, ap, sym, subst, refl, arith}
use Rattle.std.specs.Prelude.{is_some}
use Rattle.ghost_model.specs.core.Channel.{Catalog}
use Rattle.ghost_model.specs.core.Values.{Database}
use Rattle.ghost_model.specs.forms.Runs.{Run, record_at, page_of, slot_of, cell_in}
use Rattle.ghost_model.specs.forms.Layout.{descendants_of, static_end, subtree_table}
use Rattle.edge_traits.specs.Devices.{Device}
use Rattle.flash_pages.proofs.RunFrames.{records_kept}
use Rattle.subtree_keys.specs.Laws.{rows_spelled}
use Rattle.visible_spool.specs.declared.half.Half.{Half}
use Rattle.visible_spool.specs.declared.search.Search.{Search}
use Rattle.visible_spool.specs.Halves.{reply_of}
use Rattle.visible_spool.specs.Replies.{HoldsRows}
use Rattle.visible_spool.specs.Sparing.{AreInHalf, SparesHalf, SparedRepliesStay}
use Rattle.candidate_rows.specs.declared.next.Look.{Look}
use Rattle.candidate_rows.specs.declared.plan.RowPlan.{RowPlan}
use Rattle.candidate_rows.specs.declared.plan.SubtreeFile.{SubtreeFile}
use Rattle.candidate_rows.specs.Plans.{HasWays}
use Rattle.candidate_rows.specs.Working.{HasKeysBut, IsSoughtNext, look_of}
use Rattle.candidate_rows.specs.Laws.{WorkStaysReady, WorkStillStands}
use Rattle.candidate_rows.proofs.StepLemmas.{look_low}

pub stays_ready : SparedRepliesStay → WorkStaysReady
stays_ready stay cat asked side before now half plan work spares is = record {
  plan_is = is.plan_is;
  suffices = record { pages = omega (arith, is.suffices.pages, spares.page_count); small = omega (arith, is.suffices.small, spares.page_count) };
  replies = λ table there. stay cat side before now (reply_of half table) spares (is.replies table there);
  place = is.place;
  tables = is.tables;
  puts = is.puts;
  places = is.places;
  rows = is.rows;
  below = is.below;
  search = is.search;
}

-- rows that stand in a half now stood there before
rows_before :
    (cat : Catalog) (side : ℕ) (before now : Device) (half : Half) (table : ℕ) (rows : List (List ℕ)) → table < 12
    → SparesHalf cat side before now → AreInHalf cat side half → HoldsRows now.page (reply_of half table) rows → HoldsRows before.page (reply_of half table) rows
rows_before cat side before now half table rows there spares lies holds = record {
  has = records_kept (λ place within.
      let at = lies table there place within in
      sym (spares.half _ at.0 at.1).bytes) holds.has;
  are = holds.are;
}

sought_still :
    (cat : Catalog) (side : ℕ) (before now : Device) (half : Half) (look : Option Look) (search : Search) → ((one : Look) → look ≡ Some one → one.table < 12)
    → SparesHalf cat side before now → AreInHalf cat side half → IsSoughtNext before.page half look search → IsSoughtNext now.page half look search
sought_still cat side before now half None search low spares lies sought = tt
sought_still cat side before now half (Some look) search low spares lies sought = λ rows holds.
    sought rows (rows_before cat side before now half look.table rows (low look refl) spares lies holds)

-- a record of the subtree key table is as it was
same_record : (page now : ℕ → List ℕ) (run : Run) (place : ℕ) → now (page_of run place) ≡ page (page_of run place) → record_at now run place ≡ record_at page run place
unfolding record_at
same_record page now run place same = ap (λ (bytes : List ℕ). cell_in bytes run.width (slot_of run place)) same

keys_still :
    (cat : Catalog) (side : ℕ) (before now : Device) (plan : RowPlan) (database : Database) (found : Option SubtreeFile) → plan.keys ≡ found → HasWays cat plan found
    → SparesHalf cat side before now → HasKeysBut before.page cat database plan → HasKeysBut now.page cat database plan
keys_still cat side before now plan database None e ways spares keys = λ some. absurd (clash (ap is_some (sym e) ∙ some))
  where
    clash : is_some {T = SubtreeFile} None ≡ true → ⊥
    clash h = cc
keys_still cat side before now plan database (Some file) e is spares keys = λ some identifier low high rows on.
    let run = subtree_table cat plan.top in
    let static = subst (λ (r : Run). page_of r (identifier - 1) < static_end cat) is.table_is.run_is (is.static identifier low high) in
    let same = same_record before.page now.page run (identifier - 1) (spares.static (page_of run (identifier - 1)) static).bytes in
    keys some identifier low high rows (ap (rows_spelled cat (descendants_of cat.schema plan.top)) (sym same) ∙ on)

pub still_stands : WorkStillStands
still_stands cat asked side before now half given database identifier plan work spares lies is stands = record {
  row = stands.row;
  top = stands.top;
  rows = stands.rows;
  sifted = stands.sifted;
  keys = keys_still cat side before now plan database plan.keys refl is.plan_is.ways spares stands.keys;
  met = stands.met;
  values = stands.values;
  sought = sought_still cat side before now half (look_of plan work) work.search (λ look e. look_low cat asked before half plan work is look e) spares lies stands.sought;
}
