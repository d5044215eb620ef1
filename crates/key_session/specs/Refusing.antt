-- The first ask that the host refused.
use Rattle.std.specs.Prelude.{ℕ, Bool, List, [], ◌∷◌, Option, None, Some, if◌then◌else◌}
use Rattle.std.specs.Option.{option_or}
use Rattle.ghost_model.specs.core.NextMove.{EndedAsk, Ending, Answered, Refused}
use Rattle.channel_pump.specs.declared.state.Event.{Event}
use Rattle.channel_pump.specs.declared.state.Event.TheVariants as event_is

abbrev pub code_of : Ending → Option ℕ
code_of (Answered _) = None
code_of (Refused code) = Some code

-- the code of the first ask that was refused
abbrev pub first_code : List EndedAsk → Option ℕ
first_code [] = None
first_code (end ∷ ends) = option_or (code_of end.ending) (first_code ends)

-- the code of an event that refuses an ask, where one is awaited
abbrev pub code_on : (is_awaited : Bool) → Event → Option ℕ
code_on is_awaited (event_is.Sorry code) = if is_awaited then Some code else None
code_on is_awaited _ = None
