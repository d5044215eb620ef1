-- A session that answers all its texts: the host is honest and holds the public part of a database, the flash holds its
-- hidden part, and neither the flash nor the sink failed. And how often such a session calls the flash, whatever the sink did.
use Rattle.std.specs.Prelude.{◌≡◌, ℕ, ◌+◌, ◌≤◌, Bool, false, List}
use Rattle.ghost_model.specs.core.Causes.{Rose}
use Rattle.ghost_model.specs.core.Values.{Database}
use Rattle.ghost_model.specs.core.Channel.{Catalog, Journal}
use Rattle.ghost_model.specs.core.Honest.{IsHonest}
use Rattle.ghost_model.specs.core.Printed.{printed}
use Rattle.ghost_model.specs.core.Split.{public_of}
use Rattle.edge_traits.specs.Written.{grown}
use Rattle.leakless_plan.specs.declared.plan.Plan.{Plan}
use Rattle.key_exec.specs.Plans.{by_pre}
use Rattle.key_exec.specs.Reading.{KnowsBy}
use Rattle.key_session.specs.Calls.{session_calls}
use Rattle.key_session.specs.Telling.{SessionSide}
use Rattle.key_session.specs.declared.tally.Tally.{Tally}
use Rattle.key_session.specs.declared.tally.SessionStatus.TheVariants as status

pub record IsSound (by : Plan) (told : Bool) (cat : Catalog) (database : Database) (journal : Journal) (since now : SessionSide) : Type 0 where
  pub host : IsHonest cat (public_of cat.schema database) journal
  pub pages : KnowsBy by told since.flash.page cat database
  pub flash : Rose since.flash.faults now.flash.faults → ⊥
  pub sink : now.sink.failed ≡ false

-- the sink took all that the texts print over the database
pub record AnswersAll (cat : Catalog) (texts : List (List ℕ)) (database : Database) (since now : SessionSide) (tally : Tally) : Type 0 where
  pub printed_all : now.sink.written ≡ grown since.sink.written (printed cat.schema texts database)
  pub status_is : tally.status ≡ status.Ok

-- whichever database it is
abbrev pub AnswersWhereSound : (by : Plan) (told : Bool) → Catalog → (texts : List (List ℕ)) → Journal → (since now : SessionSide) → Tally → Type 0
AnswersWhereSound by told cat texts journal since now tally =
    (database : Database) → IsSound by told cat database journal since now
    → AnswersAll cat texts database since now tally

-- what of this the calls of the flash depend on: whatever the sink took
pub record IsWellServed (by : Plan) (told : Bool) (cat : Catalog) (database : Database) (journal : Journal) (since now : SessionSide) : Type 0 where
  pub host : IsHonest cat (public_of cat.schema database) journal
  pub pages : KnowsBy by told since.flash.page cat database
  pub flash : Rose since.flash.faults now.flash.faults → ⊥

-- by the plan `pre` the flash was called no more often than its texts take
abbrev pub CallsAreFew : (by : Plan) (told : Bool) → Catalog → (texts : List (List ℕ)) → Journal → (since now : SessionSide) → Type 0
CallsAreFew by told cat texts journal since now =
    (database : Database) → by ≡ by_pre → IsWellServed by told cat database journal since now
    → now.flash.calls ≤ since.flash.calls + session_calls cat.schema database texts
