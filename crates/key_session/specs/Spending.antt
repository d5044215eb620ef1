-- What is spent for the texts of a session: the calls of the flash that their jobs make, by the plan `pre`.
use Rattle.std.specs.Prelude.{◌≡◌, ℕ, suc, ◌+◌, ◌-◌, ◌≤◌, min, Bool, true, List, take, sum_by, slice_get, Option, Some, None, Ok}
use Rattle.ghost_model.specs.core.Causes.{Rose, last_count}
use Rattle.ghost_model.specs.core.Schema.{Schema}
use Rattle.ghost_model.specs.core.Values.{Database}
use Rattle.ghost_model.specs.core.Query.{Query}
use Rattle.ghost_model.specs.readings.QueryReading.{reading}
use Rattle.ghost_model.specs.core.Channel.{Catalog, Journal}
use Rattle.ghost_model.specs.core.Asks.{asked_of}
use Rattle.ghost_model.specs.core.Lines.{all_done}
use Rattle.ghost_model.specs.core.NextMove.{ended_of}
use Rattle.ghost_model.specs.core.Replies.{replies}
use Rattle.ghost_model.specs.core.Split.{public_of}
use Rattle.ghost_model.specs.laws.SessionLaws.{whole_replies}
use Rattle.edge_traits.specs.Devices.{Device, Counts}
use Rattle.key_exec.specs.Plans.{by_pre}
use Rattle.key_exec.specs.Reading.{KnowsBy}
use Rattle.key_exec.specs.Telling.{spent_of}
use Rattle.key_exec.specs.Within.{text_work}
use Rattle.key_exec.specs.declared.telling.Telling.{Telling}
use Rattle.key_session.specs.declared.teller.Teller.{Teller}

-- the counts of a flash never fall, but for their last value
pub record CountsStay (before now : Device) : Type 0 where
  pub calls : min before.calls last_count ≤ now.calls
  pub faults : min before.faults last_count ≤ now.faults

-- what a job counts rose by the calls of the flash
pub record AreCountedBy (spent total before now : ℕ) : Type 0 where
  pub rises : spent ≤ total
  pub counts : Counts (total - spent) before now

-- for the text that is told now, if there is one
abbrev pub spent_by : Option Telling → ℕ
spent_by None = 0
spent_by (Some telling) = spent_of telling

-- the work of the texts that were told, and what was spent for the one that is told now
abbrev pub spent_for : Schema → Database → (texts : List (List ℕ)) → Teller → ℕ
spent_for schema database texts teller = sum_by (text_work schema database) (take teller.count texts) + spent_by teller.running

-- the pages hold all files of a database, and once all asks of the text at a place were ended by DONE, its replies are whole
pub record IsServedText (pages_told : Bool) (page : ℕ → List ℕ) (catalog : Catalog) (texts : List (List ℕ)) (journal : Journal) (place : ℕ) (database : Database) : Type 0 where
  pub pages : KnowsBy by_pre pages_told page catalog database
  pub honest : (written : List ℕ) (asked : Query) → slice_get texts place ≡ Some written → reading catalog.schema written ≡ Ok asked
      → all_done catalog.schema asked (ended_of catalog (asked_of catalog.schema texts) journal (suc place)) ≡ true
      → replies catalog (asked_of catalog.schema texts) journal (suc place) ≡ whole_replies catalog.schema (public_of catalog.schema database) asked

-- the calls of a slice are spent for its text, where the flash does not fail
abbrev pub SpendsCalls : (pages_told : Bool) (page : ℕ → List ℕ) → Catalog → (texts : List (List ℕ)) → Journal → (before now : Device) → (old new : Teller) → Type 0
SpendsCalls pages_told page catalog texts journal before now old new =
    (database : Database) → IsServedText pages_told page catalog texts journal old.count database
    → (Rose before.faults now.faults → ⊥)
    → now.calls + spent_for catalog.schema database texts old ≤ before.calls + spent_for catalog.schema database texts new
