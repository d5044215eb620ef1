-- The frame at hand lies in a buffer of its own: what is written there touches neither the replies nor the text that is told.
use Rattle.std.proofs.Common.{◌≡◌, ◌+◌, ℕ, Bool, false, List, [], refl, sym, ◌∙◌, Option, Some, None}
use Rattle.std.specs.Prelude.{◌≢◌, ◌%◌}
use Rattle.ghost_model.specs.core.Channel.{Catalog, Journal}
use Rattle.ghost_model.specs.forms.Layout.{spool_end, scratch_end}
use Rattle.edge_traits.specs.Devices.{Device}
use Rattle.edge_traits.proofs.DeviceFrames.{changes_kept, kept_same}
use Rattle.page_pool.specs.Pools.{Pool, ChangesPage, bytes_at}
use Rattle.page_pool.specs.Laws.{KeepsOut}
use Rattle.page_pool.proofs.Leases.{change_keeps_out, change_elsewhere, out_kept}
use Rattle.channel_pump.specs.declared.state.Pump.{Pump}
use Rattle.channel_pump.specs.declared.state.ReplyState.TheVariants as state_is
use Rattle.session_laws.specs.TextEnds.{heard_in}
use Rattle.leakless_plan.specs.declared.plan.Plan.{Plan}
use Rattle.key_lines.specs.Handing.{Handed}
use Rattle.key_exec.specs.Telling as lines
use Rattle.key_exec.specs.Laws.{TellingIsSpared}
use Rattle.key_exec.specs.Ready.{Spares}
use Rattle.key_exec.specs.declared.telling.Telling.{Telling}
use Rattle.key_session.specs.Kept.{IsKept}
use Rattle.key_session.specs.Laws.{RepliesStayKept}
use Rattle.key_session.specs.Telling.{SessionSide}
use Rattle.key_session.specs.Going.{CanRun, IsAmid, IsApart, IsOutAlone, IsRunning, RunIsSpared, Runs, leases_of}
use Rattle.key_session.specs.declared.replies.Replies.{Replies}
use Rattle.key_session.specs.declared.teller.Teller.{Teller}
use Rattle.key_session.proofs.Beginning.{telling_spared}
use Rattle.key_session.proofs.Moving.{alone_kept, half_below, spares_telling}

-- what is written to the buffer of the replies is not written to that of the frame
pub frame_still : (pool more : Pool) (frame lease : ℕ) → frame ≢ lease → ChangesPage pool more lease → bytes_at more frame ≡ bytes_at pool frame
frame_still pool more frame lease apart changes = changes.bytes frame apart

pub out_still : (pool more last : Pool) (frame lease : ℕ) → ChangesPage pool more frame → ChangesPage more last lease → KeepsOut pool last
out_still pool more last frame lease one other = record { out = other.out ∙ one.out; size = other.size ∙ one.size }

-- a page was written into the buffer of the frame
module _ (pool more : Pool) (frame : ℕ) (teller : Teller) (kept : Replies) (apart : IsApart pool frame teller kept) (changes : ChangesPage pool more frame) where
  pub apart_written : IsApart more frame teller kept
  apart_written = record { out = alone_kept (leases_of teller.running) frame pool more (change_keeps_out changes) apart.out; replies = apart.replies }

  kept_written : RepliesStayKept → (told : Bool) (device : Device) (catalog : Catalog) (texts : List (List ℕ)) (journal : Journal) (low top : ℕ) → IsKept told device pool catalog (heard_in catalog texts journal) low top kept
      → IsKept told device more catalog (heard_in catalog texts journal) low top kept
  kept_written stays told device catalog texts journal low top is =
      stays told device device pool more catalog (heard_in catalog texts journal) low top kept (changes_kept (kept_same device) (spool_end catalog) (scratch_end catalog))
      (out_kept (change_keeps_out changes) is.spooling.out) (change_elsewhere changes (λ same. apart.replies (sym same))) is

  spares : (told : Bool) (catalog : Catalog) (number : ℕ) (device : Device) (telling : Telling) → IsOutAlone (lines.leases_of telling) pool frame → Spares catalog (number % 2) device device pool more (lines.leases_of telling)
  spares told catalog number device telling out =
      spares_telling catalog (number % 2) device device pool more frame telling (half_below number) (changes_kept (kept_same device) _ _) changes out

  pub run_written : (plan : Plan) (told : Bool) (catalog : Catalog) (device : Device) (number lease : ℕ) → RunIsSpared teller.running → CanRun plan told catalog device pool number lease teller.running
      → CanRun plan told catalog device more number lease teller.running
  run_written plan told catalog device number lease spared run = by teller.running spared apart.out run
    where
      by : (running : Option Telling) → RunIsSpared running → IsOutAlone (leases_of running) pool frame → CanRun plan told catalog device pool number lease running → CanRun plan told catalog device more number lease running
      by None spared out run = record { can = tt; alone = alone_kept [] lease pool more (change_keeps_out changes) run.alone }
      by (Some telling) spared out run = record {
        can = spared.0 plan told catalog (number % 2) device device pool more (spares told catalog number device telling out) run.can;
        alone = alone_kept (lines.leases_of telling) lease pool more (change_keeps_out changes) run.alone;
      }

  module _ (stays : RepliesStayKept) (plan : Plan) (told : Bool) (catalog : Catalog) (texts : List (List ℕ)) (journal : Journal) (since : SessionSide) (sink : Handed) (device : Device) (pump : Pump) where
    running_written : (last : Handed) (telling : Telling) → TellingIsSpared telling → IsOutAlone (lines.leases_of telling) pool frame
        → IsRunning plan told catalog texts journal teller.count since.flash last (record { sink = sink; flash = device }) pool kept telling
        → IsRunning plan told catalog texts journal teller.count since.flash last (record { sink = sink; flash = device }) more kept telling
    running_written last telling spared out running = record {
      start = running.start;
      half = running.half;
      taken = record {
        number = running.taken.number;
        written = running.taken.written;
        stands = running.taken.stands;
        came = running.taken.came;
        is_state = running.taken.is_state;
        given = running.taken.given;
        files = running.taken.files;
        under_way = spared plan told catalog ((teller.count + 1) % 2) device device pool more (spares told catalog (teller.count + 1) device telling out) running.taken.written state_is.Done false running.half running.start last sink
            running.taken.under_way;
      };
      query = running.query;
      accepted = running.accepted;
      unmarked = running.unmarked;
    }

    pub amid_written : RunIsSpared teller.running → IsAmid plan told catalog texts journal since (record { sink = sink; flash = device }) pool pump teller kept
        → IsAmid plan told catalog texts journal since (record { sink = sink; flash = device }) more pump teller kept
    amid_written spared amid = record {
      plan = amid.plan;
      sink = amid.sink;
      going = record {
        top = amid.going.top;
        telling = telling_spared plan told catalog texts journal amid.going.top since amid.sink device device pool more _ teller.count teller.counts kept (changes_kept (kept_same device) _ _) refl
            (kept_written stays told device catalog texts journal (teller.count + 1) amid.going.top amid.going.telling.kept) amid.going.telling;
        settled = amid.going.settled;
        onward = amid.going.onward;
      };
      running = by teller.running spared apart.out amid.running;
    }
      where
        by : (running : Option Telling) → RunIsSpared running → IsOutAlone (leases_of running) pool frame
            → Runs plan told catalog texts journal teller.count since.flash amid.sink (record { sink = sink; flash = device }) pool kept running
            → Runs plan told catalog texts journal teller.count since.flash amid.sink (record { sink = sink; flash = device }) more kept running
        by None spared out runs = runs
        by (Some telling) spared out runs = running_written amid.sink telling spared.1 out runs
