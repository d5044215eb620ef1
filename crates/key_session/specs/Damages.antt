-- The damage that texts met: each text that it ended names a slot that is damaged, one that is read for this text and that the session
-- read for it, and the first of them in the order of the texts is the one that is told.
use Rattle.std.specs.Prelude.{◌≡◌, ℕ, ◌+◌, ◌%◌, Bool, true, false, List, map, take, slice_get, Option, Some, is_some}
use Rattle.std.specs.List.{list_any}
use Rattle.ghost_model.specs.core.Channel.{Catalog}
use Rattle.ghost_model.specs.core.Lines.{Reason}
use Rattle.visible_spool.specs.declared.half.Half.{Half}
use Rattle.edge_traits.specs.Devices.{Device}
use Rattle.leakless_plan.specs.declared.plan.Plan.{Plan}
use Rattle.key_exec.specs.Texts.{IsDamagedFor, WasDamagedFor}
use Rattle.key_exec.specs.declared.damage.Damage.{Damage}
use Rattle.key_session.specs.Counting.{first_of, is_damage, AreCounted}
use Rattle.key_session.specs.declared.counts.Counts.{Counts}

-- something is so of the text at a place, of the half of the spool that its replies lie in, and of some replies
pub record IsSoOfText (texts : List (List ℕ)) (place : ℕ) (IsSo : (text : List ℕ) → (side : ℕ) → Half → Type 0) : Type 0 where
  pub text : List ℕ
  pub stands : slice_get texts place ≡ Some text
  pub half : Half
  pub is : IsSo text ((place + 1) % 2) half

-- A damaged slot that is read for the text at a place, whatever the pages hold. By the indexes it is one of a static file that is read
-- for this text by these, where what the static files are of is known.
abbrev pub IsSlotOf : (by : Plan) (pages_told : Bool) (page : ℕ → List ℕ) → Catalog → (texts : List (List ℕ)) (place : ℕ) → Damage → Type 0
IsSlotOf by pages_told page catalog texts place damage =
    IsSoOfText texts place (λ text side half. IsDamagedFor by pages_told page catalog text side half damage.page damage.slot damage.found)

-- for one of the texts
abbrev pub IsSlot : (by : Plan) (pages_told : Bool) (page : ℕ → List ℕ) → Catalog → (texts : List (List ℕ)) → Damage → Type 0
IsSlot by pages_told page catalog texts damage = (place : ℕ) × IsSlotOf by pages_told page catalog texts place damage

-- of the texts with these reasons that at a place is the first that damage ended
pub record IsFirstDamaged (reasons : List Reason) (place : ℕ) : Type 0 where
  pub none_before : list_any is_damage (take place reasons) ≡ false
  pub reason : Reason
  pub stands : slice_get reasons place ≡ Some reason
  pub damaged : is_damage reason ≡ true

-- the session read it there for the text at a place, from so many calls on: in a slot of a file that the plan reads for this text, or,
-- only where the pages are not told, of the half of the spool in which its replies lie, or of scratch
abbrev pub WasRead : (by : Plan) (pages_told : Bool) (since : ℕ) → Device → Catalog → (texts : List (List ℕ)) (place : ℕ) → Damage → Type 0
WasRead by pages_told since device catalog texts place damage =
    IsSoOfText texts place (λ text side half. WasDamagedFor by pages_told since device catalog text side half damage.page damage.slot damage.found)

-- and so of each text that met one of these, which stand in the order of the texts
abbrev pub AreRead : (by : Plan) (pages_told : Bool) (since : ℕ) → Device → Catalog → (texts : List (List ℕ)) → (damages : List (Option Damage)) → Type 0
AreRead by pages_told since device catalog texts damages =
    (place : ℕ) (damage : Damage) → slice_get damages place ≡ Some (Some damage) → WasRead by pages_told since device catalog texts place damage

-- some texts have these reasons, and this is the damage that the first of them met that damage ended
pub record MeetsFirst (by : Plan) (pages_told : Bool) (page : ℕ → List ℕ) (catalog : Catalog) (texts : List (List ℕ)) (reasons : List Reason) (first : Option Damage) : Type 0 where
  -- of each text, in the order of the reasons
  pub damages : List (Option Damage)
  pub by_reason : map is_some damages ≡ map is_damage reasons
  pub each : (place : ℕ) (damage : Damage) → slice_get damages place ≡ Some (Some damage) → IsSlotOf by pages_told page catalog texts place damage
  pub first_is : first ≡ first_of damages

-- the texts with these reasons were counted, and the first damage was kept
pub record AreKept (by : Plan) (pages_told : Bool) (page : ℕ → List ℕ) (catalog : Catalog) (texts : List (List ℕ)) (reasons : List Reason) (counts : Counts) : Type 0 where
  pub counted : AreCounted reasons counts
  pub met : MeetsFirst by pages_told page catalog texts reasons counts.damage
