-- What a session over a drawn clinic is known by.
use Rattle.std.proofs.Common.{◌≡◌, ℕ, Bool, true, false, refl, arith}
use Rattle.ghost_model.specs.core.Causes.{Rose}
use Rattle.local_links.specs.Counting.{with_more}
use Rattle.key_inputs.specs.Outside.{Risen}
use Rattle.key_commands.specs.generate.Counting.{counted}
use Rattle.key_commands.specs.generate.Ends.{is_held}
use Rattle.key_commands.specs.local.Sessions.{is_sink, told_by_end}
use Rattle.key_commands.specs.declared.local.ends.LocalEnd.{LocalEnd}
use Rattle.key_commands.specs.declared.local.ends.LocalEnd.TheVariants as ends

-- a count that began at nothing
pub from_nothing : (before more now : ℕ) → before ≡ 0 → now ≡ with_more before more → now ≡ counted more
from_nothing before more now none is = omega (arith, none, is)

-- nothing has failed that cannot fail
pub never_rose : Rose 0 0 → ⊥
never_rose rose = let bad : ⊥ = omega (arith, rose) in bad

false_is_not : false ≡ true → ⊥
false_is_not e = cc

pub never : (b : Bool) → (b ≡ true → ⊥) → b ≡ false
never true cannot = absurd (cannot refl)
never false cannot = refl

-- a session that writes to no file and to no sink that fails
pub held_so : (end : LocalEnd) → is_sink end ≡ false → ((told_by_end end).depot ≡ Risen → false ≡ true) → is_held end ≡ true
held_so ends.Ok wrote kept = refl
held_so ends.Sink wrote kept = cc
held_so ends.Depot wrote kept = absurd (false_is_not (kept refl))
held_so ends.Flash wrote kept = refl
held_so (ends.Damaged damage) wrote kept = refl
