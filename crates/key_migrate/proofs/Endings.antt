-- How a call ended that made nothing.
use Rattle.std.proofs.Common.{◌≤◌, ◌+◌, inl, inr, ℕ, Bool, Err, arith}
use Rattle.std.specs.Prelude.{min}
use Rattle.ghost_model.specs.core.Causes.{last_count}
use Rattle.ghost_model.specs.core.Channel.{Catalog}
use Rattle.ghost_model.specs.core.Database.{IsDatabase}
use Rattle.edge_traits.specs.Devices.{Device}
use Rattle.flash_build.specs.Reading.{BlamesCell}
use Rattle.key_inputs.specs.Outside.{Outside}
use Rattle.key_words.specs.Words.{Migrate}
use Rattle.key_migrate.specs.Preparing.{TellsPreparing}
use Rattle.key_migrate.specs.Reading.{TellsKey, TellsParts}
use Rattle.key_migrate.specs.Results.{EndsMigrate, MakesNothing, new_catalog}
use Rattle.key_migrate.specs.Stages.{IsRead, IsWholeKey, Source}
use Rattle.key_migrate.specs.declared.failures.MigrateFailure.{MigrateFailure}
use Rattle.key_migrate.specs.declared.failures.MigrateFailure.TheVariants as failure

pub unopened : (told : Bool) (words : Migrate) (before after : Outside) (fault : MigrateFailure) → MakesNothing told words before after
    → after.device.calls ≤ before.device.calls + 10 → TellsKey told words.flash before.device after.device fault
    → EndsMigrate {T = Unit {0}} told words (Err fault) before after
unopened told words before after failure.NoMemory nothing early tells = inl (record { nothing = nothing; closed = tells })
unopened told words before after (failure.NullName item) nothing early tells = absurd tells
unopened told words before after failure.Depot nothing early tells = absurd tells
unopened told words before after failure.Flash nothing early tells = inl (record { nothing = nothing; early = early })
unopened told words before after failure.Sink nothing early tells = absurd tells
unopened told words before after (failure.OldTooSmall needed had) nothing early tells = tells
unopened told words before after (failure.TooSmall needed had) nothing early tells = absurd tells
unopened told words before after failure.NotAKey nothing early tells = tells
unopened told words before after (failure.Damaged number slot found) nothing early tells = absurd tells
unopened told words before after failure.NotTheFile nothing early tells = absurd tells

-- a slot that was blamed since one count of calls was blamed since an earlier one
blamed_since : (since earlier : ℕ) (device : Device) (cat : Catalog) (number slot found : ℕ) → earlier ≤ since
    → BlamesCell since device cat number slot found → BlamesCell earlier device cat number slot found
blamed_since since earlier device cat number slot found less blames = record {
  table = blames.table;
  column = blames.column;
  place = blames.place;
  hidden = blames.hidden;
  row = record {
    within = blames.row.within;
    page_is = blames.row.page_is;
    slot_is = blames.row.slot_is;
    bytes = blames.row.bytes;
    read = record {
      bytes = blames.row.read.bytes;
      gave = record {
        at = blames.row.read.gave.at;
        from = omega (arith, less, blames.row.read.gave.from);
        gave = blames.row.read.gave.gave;
      };
      record_is = blames.row.read.record_is;
    };
    wide = blames.row.wide;
    no_value = blames.row.no_value;
    found_is = blames.row.found_is;
  };
}

pub unread : (told : Bool) (words : Migrate) (before after : Outside) (cat : Catalog) (since : ℕ) (fault : MigrateFailure) → MakesNothing told words before after
    → min before.device.calls last_count ≤ since → IsWholeKey told words.flash before.device after.device cat
    → TellsParts told words before.files since after.device cat fault → EndsMigrate {T = Unit {0}} told words (Err fault) before after
unread told words before after cat since failure.NoMemory nothing from key tells =
    inr (inl (record { nothing = nothing; cat = cat; taken = record { key = key; taken = tells.taken }; some = tells.some }))
unread told words before after cat since (failure.NullName item) nothing from key tells = record { cat = cat; key = key; refused = tells }
unread told words before after cat since failure.Depot nothing from key tells =
    inl (record { nothing = nothing; cat = cat; taken = record { key = key; taken = tells } })
unread told words before after cat since failure.Flash nothing from key tells =
    inr (inl (record {
      nothing = nothing;
      opened = after.device;
      cat = cat;
      public = tells.public;
      image = record { taken = record { key = key; taken = tells.taken }; goes_with = tells.public_is.goes_with; image = tells.public_is.image };
    }))
unread told words before after cat since failure.Sink nothing from key tells = absurd tells
unread told words before after cat since (failure.OldTooSmall needed had) nothing from key tells = absurd tells
unread told words before after cat since (failure.TooSmall needed had) nothing from key tells = absurd tells
unread told words before after cat since failure.NotAKey nothing from key tells = absurd tells
unread told words before after cat since (failure.Damaged number slot found) nothing from key tells =
    let public = tells.before in
    record {
      cat = cat;
      public = public.public;
      image = record { taken = record { key = key; taken = public.taken }; goes_with = public.public_is.goes_with; image = public.public_is.image };
      first = tells.damaged.first;
      holds_none = tells.damaged.holds_none;
      read = blamed_since since (min before.device.calls last_count) after.device cat number slot found from tells.damaged.read;
    }
unread told words before after cat since failure.NotTheFile nothing from key tells =
    record { cat = cat; taken = record { key = key; taken = tells.taken }; none = tells.none }

pub unprepared : (told : Bool) (words : Migrate) (before after : Outside) (source : Source) (fault : MigrateFailure) → MakesNothing told words before after
    → IsRead told words before.files before.device source → IsDatabase (new_catalog words source).schema source.database
    → TellsPreparing (new_catalog words source) words.blocks fault
    → EndsMigrate {T = Unit {0}} told words (Err fault) before after
unprepared told words before after source failure.NoMemory nothing read proper tells =
    inr (inr (record { source = source; ready = record { read = read; proper = proper; enough = tells }; files = nothing.files }))
unprepared told words before after source (failure.NullName item) nothing read proper tells = absurd tells
unprepared told words before after source failure.Depot nothing read proper tells = absurd tells
unprepared told words before after source failure.Flash nothing read proper tells = absurd tells
unprepared told words before after source failure.Sink nothing read proper tells = absurd tells
unprepared told words before after source (failure.OldTooSmall needed had) nothing read proper tells = absurd tells
unprepared told words before after source (failure.TooSmall needed had) nothing read proper tells = record { source = source; read = read; small = tells }
unprepared told words before after source failure.NotAKey nothing read proper tells = absurd tells
unprepared told words before after source (failure.Damaged number slot found) nothing read proper tells = absurd tells
unprepared told words before after source failure.NotTheFile nothing read proper tells = absurd tells
