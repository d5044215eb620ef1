-- What the lines of a session are to its plan: they are the same by each. Take two sessions of one script with one catalog, each by a
-- plan of its own, over a flash of its own, with page buffers and pace of its own, and with whatever host. Where they went by the same
-- journal, and the pages of each are those of one database, the same bytes are handed on, as long as the flash is no reason for lines.
use Rattle.std.specs.Prelude.{◌≡◌, ℕ, Bool, false, List}
use Rattle.std.specs.List.{list_any}
use Rattle.ghost_model.specs.core.Causes.{Rose}
use Rattle.ghost_model.specs.core.Values.{Database}
use Rattle.ghost_model.specs.core.Channel.{Catalog, Journal}
use Rattle.ghost_model.specs.core.Lines.{Reason}
use Rattle.ghost_model.specs.laws.SchemaTrees.{IsTree}
use Rattle.leakless_plan.specs.declared.plan.Plan.{Plan}
use Rattle.key_lines.specs.Handing.{Handed, Hands}
use Rattle.key_exec.specs.Reading.{KnowsBy, KnowsButBy}
use Rattle.key_session.specs.Counting.{is_flash, is_damage}
use Rattle.key_session.specs.Running.{HasRun}
use Rattle.key_session.specs.Telling.{SessionSide}
use Rattle.key_session.specs.declared.tally.Tally.{Tally}

-- the same bytes were handed on: each sink took all of them where no write failed, and else a front of them
pub record HandTheSame (since now other_since other_now : Handed) : Type 0 where
  pub bytes : List ℕ
  pub one : Hands bytes since now
  pub other : Hands bytes other_since other_now

-- the pages are those of a database, but for damaged slots, and no text met one of these or a failure of the flash
pub record MeetsNothing (by : Plan) (told : Bool) (catalog : Catalog) (database : Database) (since : SessionSide) (reasons : List Reason) : Type 0 where
  pub pages : KnowsButBy by told since.flash.page catalog database
  pub undamaged : list_any is_damage reasons ≡ false
  pub unfailed : list_any is_flash reasons ≡ false

-- the pages are those of a database, and the flash did not fail
pub record HoldsUnfailed (by : Plan) (told : Bool) (catalog : Catalog) (database : Database) (since now : SessionSide) : Type 0 where
  pub pages : KnowsBy by told since.flash.page catalog database
  pub unfailed : Rose since.flash.faults now.flash.faults → ⊥

-- whatever links they went by
abbrev pub PlansAgree : (goes other_goes : Journal → Type 0) → Type 0
PlansAgree goes other_goes =
    (catalog : Catalog) (at : List ℕ) (texts : List (List ℕ)) (failed fails other_failed other_fails : ℕ) (by other_by : Plan) (told other_told : Bool)
    (since now other_since other_now : SessionSide) (tally other_tally : Tally)
    → (one : HasRun goes failed fails by told catalog at texts since now tally)
    → (other : HasRun other_goes other_failed other_fails other_by other_told catalog at texts other_since other_now other_tally)
    → one.journal ≡ other.journal
    → (database : Database) → MeetsNothing by told catalog database since one.reasons.reasons
    → MeetsNothing other_by other_told catalog database other_since other.reasons.reasons
    → HandTheSame since.sink now.sink other_since.sink other_now.sink

-- and over pages that hold all that a plan goes by no text meets damage
abbrev pub HeldPlansAgree : (goes other_goes : Journal → Type 0) → Type 0
HeldPlansAgree goes other_goes =
    (catalog : Catalog) (at : List ℕ) (texts : List (List ℕ)) (failed fails other_failed other_fails : ℕ) (by other_by : Plan) (told other_told : Bool)
    (since now other_since other_now : SessionSide) (tally other_tally : Tally)
    → (one : HasRun goes failed fails by told catalog at texts since now tally)
    → (other : HasRun other_goes other_failed other_fails other_by other_told catalog at texts other_since other_now other_tally)
    → one.journal ≡ other.journal
    → IsTree catalog.schema → (database : Database) → HoldsUnfailed by told catalog database since now
    → HoldsUnfailed other_by other_told catalog database other_since other_now
    → HandTheSame since.sink now.sink other_since.sink other_now.sink
