-- How `gen` ended, beside how its session ended: that is told where all lines were printed.
use Rattle.std.specs.Prelude.{◌≡◌, Bool, true, false, ⊤}
use Rattle.key_commands.specs.declared.local.ends.LocalEnd.{LocalEnd}
use Rattle.key_commands.specs.declared.local.ends.LocalEnd.TheVariants as local_end
use Rattle.key_commands.specs.declared.local.ends.LocalFailure.{LocalFailure}
use Rattle.key_commands.specs.declared.local.ends.LocalFailure.TheVariants as local_failure
use Rattle.key_commands.specs.declared.generate.ends.GenEnd.{GenEnd}
use Rattle.key_commands.specs.declared.generate.ends.GenEnd.TheVariants as ends

abbrev pub is_sink : GenEnd → Bool
is_sink ends.Sink = true
is_sink _ = false

-- the session ended so, where a write that failed is not told before it
abbrev pub EndsAs : GenEnd → LocalEnd → Type 0
EndsAs ends.Ok session = session ≡ local_end.Ok
EndsAs ends.Sink session = ⊤
EndsAs ends.Flash session = session ≡ local_end.Flash
EndsAs (ends.Damaged damage) session = session ≡ local_end.Damaged damage

-- whether a session can end so that prints nowhere and keeps no journal
abbrev pub is_held : LocalEnd → Bool
is_held local_end.Sink = false
is_held local_end.Depot = false
is_held _ = true

-- whether the making of the flash can fail so
abbrev pub IsUnmadeBy : LocalFailure → Type 0
IsUnmadeBy local_failure.Depot = ⊥
IsUnmadeBy (local_failure.Input broken) = ⊥
IsUnmadeBy _ = ⊤
