-- What others write, and what jobs write, spares a half of the spool.
use Rattle.std.proofs.Common.{◌+◌, ◌-◌, ◌*◌, ◌≤◌, ◌<◌, ℕ, zero, suc, arith}
use Rattle.ghost_model.specs.core.Channel.{Catalog}
use Rattle.ghost_model.specs.forms.Layout.{static_end, half_pages}
use Rattle.edge_traits.specs.Devices.{Device, KeepsPages, ChangesOnly}
use Rattle.edge_traits.proofs.DeviceFrames.{kept_trans, same_kept, changes_kept, changes_trans}
use Rattle.visible_spool.specs.Areas.{half_begin, half_end}
use Rattle.visible_spool.specs.Sparing.{SparesHalf}
use Rattle.leakless_plan.specs.declared.plan.Plan.{Plan}
use Rattle.leakless_plan.specs.declared.plan.Plan.TheVariants as plans
use Rattle.key_exec.specs.Reading.{KeepsBy}

-- pages below a region, or from its end on, are none of it
static_low : (side static half page : ℕ) → page < static → page < static + side * half
static_low side static half page low = omega (arith, low)

apart_low : (static half page : ℕ) → page < static + (0 + 1) * half → page < static + (1 - 0) * half
apart_low static half page low = omega (arith, low)

apart_high : (static half page : ℕ) → static + 1 * half ≤ page → static + ((1 - 1) + 1) * half ≤ page
apart_high static half page high = omega (arith, high)

pub others_spare : (cat : Catalog) (side : ℕ) (before now : Device) → side < 2 → ChangesOnly (half_begin cat (1 - side)) (half_end cat (1 - side)) before now
    → SparesHalf cat side before now
others_spare cat zero before now low changes = record {
  page_count = changes.page_count;
  static = λ number within. changes.below number (static_low 1 (static_end cat) (half_pages cat) number within);
  half = λ number from to. changes.below number (apart_low (static_end cat) (half_pages cat) number to);
  never_falls = changes.never_falls;
  gave = changes.gave;
}
others_spare cat (suc zero) before now low changes = record {
  page_count = changes.page_count;
  static = λ number within. changes.below number (static_low 0 (static_end cat) (half_pages cat) number within);
  half = λ number from to. changes.above number (apart_high (static_end cat) (half_pages cat) number from);
  never_falls = changes.never_falls;
  gave = changes.gave;
}
others_spare cat (suc (suc side)) before now low changes = absurd (omega (arith, low))

spool_low : (static half page : ℕ) → page < static → page < static + 2 * half
spool_low static half page low = omega (arith, low)

half_low : (side static half page : ℕ) → side < 2 → page < static + (side + 1) * half → page < static + 2 * half
half_low zero static half page low within = omega (arith, within)
half_low (suc zero) static half page low within = within
half_low (suc (suc side)) static half page low within = absurd (omega (arith, low))

pub jobs_spare : (by : Plan) (cat : Catalog) (side : ℕ) (before now : Device) → side < 2 → KeepsBy by cat before now → SparesHalf cat side before now
jobs_spare plans.Scan cat side before now low kept = record {
  page_count = kept.page_count;
  static = λ number within. same_kept kept number;
  half = λ number from to. same_kept kept number;
  never_falls = kept.never_falls;
  gave = kept.gave;
}
jobs_spare (plans.Linked forced) cat side before now low changes = record {
  page_count = changes.page_count;
  static = λ number within. changes.below number (spool_low (static_end cat) (half_pages cat) number within);
  half = λ number from to. changes.below number (half_low side (static_end cat) (half_pages cat) number low to);
  never_falls = changes.never_falls;
  gave = changes.gave;
}

pub readers_keep : (by : Plan) (cat : Catalog) (before now : Device) → KeepsPages before now → KeepsBy by cat before now
readers_keep plans.Scan cat before now kept = kept
readers_keep (plans.Linked forced) cat before now kept = changes_kept kept _ _

pub kept_stays : (by : Plan) (cat : Catalog) (first before now : Device) → KeepsBy by cat first before → KeepsBy by cat before now → KeepsBy by cat first now
kept_stays plans.Scan cat first before now one two = kept_trans one two
kept_stays (plans.Linked forced) cat first before now one two = changes_trans one two
