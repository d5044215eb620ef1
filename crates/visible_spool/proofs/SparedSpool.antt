-- What stays of what is at hand where others use other pages and buffers.
use Rattle.std.proofs.Common.{◌≡◌, ◌∙◌, ap, refl, ℕ, ◌+◌, ◌-◌, ◌%◌, ◌<◌, ◌≤◌, Bool, true, false, List, get_or, arith}
use Rattle.std.proofs.lemmas.Nat.{le-div}
use Rattle.ghost_model.specs.forms.Runs.{pages_of, per_page}
use Rattle.ghost_model.specs.forms.Layout.{in_blocks}
use Rattle.edge_traits.specs.Devices.{Device, SamePage}
use Rattle.page_pool.specs.Pools.{Pool}
use Rattle.flash_pages.specs.Writing.{block_end}
use Rattle.flash_pages.proofs.Fillings.{whole_pages}
use Rattle.flash_pages.proofs.LeaseFrames.{put_kept}
use Rattle.visible_spool.specs.declared.hand.Hand.{Hand}
use Rattle.visible_spool.specs.declared.spool.Spool.{Spool}
use Rattle.visible_spool.specs.Areas.{no_area}
use Rattle.visible_spool.specs.Sides.{is_marked}
use Rattle.visible_spool.specs.Hands.{CanPut, HasRows, area_end}
use Rattle.visible_spool.specs.Spools.{IsHeld, IsSpooling, PushedIf, is_at}
use Rattle.visible_spool.specs.SpoolLaws.{Spares, StaysSpooling, StillPushed}
use Rattle.visible_spool.proofs.HandLemmas.{begin_kept}
use Rattle.visible_spool.proofs.Spooling.{area_kept, its_text, some_text}

-- the pages that were written, and the block that was begun, lie in the area
pages_within : (device : Device) (hand : Hand) → CanPut device hand → hand.writer.filler.pages ≤ pages_of hand.reply.rows hand.reply.run.width
pages_within device hand can =
    let f = hand.writer.filler in
    let wide = can.begins.wide in
    let narrow = can.begins.narrow in
    let one = le-div 1 2048 hand.reply.run.width (omega (arith, wide)) (omega (arith, narrow)) in
    let all = whole_pages f hand.reply.run.width f.count can.width refl in
    let few = can.few in
    let within = can.within in
    le-div f.pages (hand.reply.rows + (per_page hand.reply.run.width - 1)) (per_page hand.reply.run.width) (omega (arith, one)) (omega (arith, all, few, within))

block_within : (first pages count : ℕ) → first % 64 ≡ 0 → pages ≤ count → block_end (first + pages) ≤ first + in_blocks count
block_within first pages count block within = omega (arith, block, within)

can_spared : (before now : Device) (hand : Hand) → now.page_count ≡ before.page_count
    → ((number : ℕ) → hand.reply.run.first ≤ number → number < area_end hand.reply → SamePage before now number) → CanPut before hand → CanPut now hand
can_spared before now hand count same can =
    let first = can.first in
    let within = pages_within before hand can in
    let block = block_within hand.reply.run.first hand.writer.filler.pages (pages_of hand.reply.rows hand.reply.run.width) can.begins.block within in
    let e = ap (λ n. block_end (n + hand.writer.filler.pages)) first in
    record {
      begins = begin_kept before now hand.reply count can.begins;
      first = can.first;
      width = can.width;
      erase = can.erase;
      few = can.few;
      within = can.within;
      entered = λ erases number from to. (same number (omega (arith, from, first)) (omega (arith, to, e, block))).blank ∙ can.entered erases number from to;
    }

held_spared : (before now : Device) (pool later : Pool) (spool : Spool) → Spares before now pool later spool → IsHeld before spool → IsHeld now spool
held_spared before now pool later spool spares is = record {
  there = is.there;
  holder = is.holder;
  first = is.first;
  rows = is.rows;
  visible = is.visible;
  wide = is.wide;
  width = is.width;
  can = λ unmarked. can_spared before now spool.hand spares.page_count spares.area (is.can unmarked);
}

pub stays_spooling : StaysSpooling
stays_spooling before now pool later spool spares is =
    let small = is.small in
    let count = spares.page_count in
    record {
      out = spares.out;
      areas = λ table there. area_kept before now (get_or spool.areas.items table no_area) spares.page_count (is.areas table there);
      few = is.few;
      small = omega (arith, small, count);
      hand = λ some. held_spared before now pool later spool spares (is.hand some);
    }

rows_spared : (told : Bool) (before now : Device) (pool later : Pool) (spool : Spool) (rows : List (List ℕ)) → Spares before now pool later spool → CanPut before spool.hand
    → HasRows told before.page pool spool.hand rows → HasRows told now.page later spool.hand rows
rows_spared told before now pool later spool rows spares can was =
    let first = can.first in
    let within = pages_within before spool.hand can in
    record {
      put = put_kept spool.hand.writer (λ is_told number from to. (spares.area number (omega (arith, from, first)) (omega (arith, to, first, within))).bytes) spares.buffer was.put;
      are = was.are;
      last = was.last;
    }

pushed_by : (told : Bool) (before now : Device) (pool later : Pool) (spool : Spool) (text table : ℕ) (rows : List (List ℕ)) (b : Bool) → is_at spool text table ≡ b → 0 < text
    → is_marked spool.sides text ≡ false → Spares before now pool later spool → IsSpooling before pool spool → PushedIf b told before.page pool spool rows → PushedIf b told now.page later spool rows
pushed_by told before now pool later spool text table rows true at some unmarked spares is was =
    let e : spool.hand.text ≡ text = its_text text table spool.hand.text spool.hand.table at in
    let held = is.hand (some_text spool.hand.text (omega (arith, e, some))) in
    rows_spared told before now pool later spool rows spares (held.can (ap (λ n. is_marked spool.sides n) e ∙ unmarked)) was
pushed_by told before now pool later spool text table rows false at some unmarked spares is was = was

pub still_pushed : StillPushed
still_pushed told before now pool later spool text table rows some unmarked spares is was =
    pushed_by told before now pool later spool text table rows (is_at spool text table) refl some unmarked spares is was
