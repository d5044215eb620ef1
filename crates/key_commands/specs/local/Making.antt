-- What the making of the flash may be answered.
use Rattle.std.specs.Prelude.{Result, Err, ⊤}
use Rattle.key_commands.specs.declared.local.ends.LocalFailure.{LocalFailure}
use Rattle.key_commands.specs.declared.local.ends.LocalFailure.TheVariants as failure

abbrev pub IsOfMaking : {T : Type 0} → Result T LocalFailure → Type 0
IsOfMaking (Err failure.Depot) = ⊥
IsOfMaking (Err (failure.Input broken)) = ⊥
IsOfMaking _ = ⊤
