-- A session between two steps, and how often it has called the flash so far, where its texts are answered by the plan `pre`.
use Rattle.std.specs.Prelude.{◌≡◌, ℕ, ◌+◌, ◌*◌, ◌≤◌, min, Bool, false, List, [], ◌∷◌, ◌++◌, length, None, ⊤}
use Rattle.ghost_model.specs.core.Causes.{Rose, last_count}
use Rattle.ghost_model.specs.core.Channel.{Catalog, Journal}
use Rattle.ghost_model.specs.core.Honest.{IsSetting}
use Rattle.ghost_model.specs.core.Lines.{was_refused}
use Rattle.ghost_model.specs.core.NextMove.{IsProper, IsFinished}
use Rattle.ghost_model.specs.core.Values.{Database}
use Rattle.page_pool.specs.Pools.{Pool}
use Rattle.session_laws.specs.HonestSessions.{IsHonestSession}
use Rattle.session_laws.specs.TextEnds.{heard_in}
use Rattle.leakless_plan.specs.declared.plan.Plan.{Plan}
use Rattle.key_exec.specs.Plans.{by_pre}
use Rattle.key_exec.specs.Reading.{KnowsBy}
use Rattle.key_session.specs.Answering.{CallsAreFew}
use Rattle.key_session.specs.Filling.{pages_heard}
use Rattle.key_session.specs.Going.{IsLive, WasMoved, WasSliced}
use Rattle.key_session.specs.Spending.{spent_for}
use Rattle.key_session.specs.Telling.{SessionSide}
use Rattle.key_session.specs.declared.session.Session.{Session}
use Rattle.key_session.specs.declared.teller.Teller.{Teller}

-- so far a session with an honest host, which goes on so to its end, over pages that hold; the flash did not fail
pub record IsServedSoFar (told : Bool) (catalog : Catalog) (database : Database) (texts : List (List ℕ)) (journal : Journal) (since now : SessionSide) : Type 0 where
  pub at : List ℕ
  pub rest : Journal
  pub honest : IsHonestSession catalog database at texts (journal ++ rest)
  pub finished : IsFinished (journal ++ rest)
  pub unrefused : was_refused (heard_in catalog texts journal).ended ≡ false
  pub pages : KnowsBy by_pre told since.flash.page catalog database
  pub flash : Rose since.flash.faults now.flash.faults → ⊥

-- the flash was called no more often than the texts took so far, and the pages of replies that came so far
abbrev pub CallsSoFar : (told : Bool) → Catalog → (texts : List (List ℕ)) → Journal → (since now : SessionSide) → Teller → Type 0
CallsSoFar told catalog texts journal since now teller =
    (database : Database) → IsServedSoFar told catalog database texts journal since now
    → now.flash.calls ≤ since.flash.calls + (spent_for catalog.schema database texts teller + 2 * pages_heard catalog.schema (heard_in catalog texts journal))

-- a session between two steps
pub record HasCome (goes : Journal → Type 0) (by : Plan) (pages_told : Bool) (texts : List (List ℕ)) (since now : SessionSide) (pool : Pool) (session : Session) : Type 0 where
  pub journal : Journal
  pub went : goes journal
  pub live : IsLive by pages_told texts journal since now pool session
  pub faults : min since.flash.faults last_count ≤ now.flash.faults
  pub few_calls : by ≡ by_pre → CallsSoFar pages_told session.cat.now texts journal since now session.teller

-- so it is after a move and after a slice, and at the end it took few calls
pub record StepsTakeFewCalls : Type 0 where
  pub moved : (told : Bool) (texts : List (List ℕ)) (journal : Journal) (since before now : SessionSide) (pool : Pool) (old new : Session)
      (step : WasMoved (λ went. ⊤) by_pre told texts journal since before now pool old new)
      → CallsSoFar told old.cat.now texts journal since before old.teller
      → CallsSoFar told old.cat.now texts (journal ++ step.made ∷ []) since now new.teller
  pub sliced : (told : Bool) (texts : List (List ℕ)) (journal : Journal) (since before now : SessionSide) (pool : Pool) (old new : Session)
      → min since.flash.faults last_count ≤ before.flash.faults
      → WasSliced (λ went. ⊤) by_pre told texts journal since before now pool old new
      → CallsSoFar told old.cat.now texts journal since before old.teller
      → CallsSoFar told old.cat.now texts journal since now new.teller
  pub ended : (plan : Plan) (told : Bool) (catalog : Catalog) (at : List ℕ) (texts : List (List ℕ)) (journal : Journal) (since now : SessionSide) (teller : Teller)
      → IsSetting catalog texts → IsProper catalog at texts journal → IsFinished journal → teller.count ≡ length texts → teller.running ≡ None
      → (plan ≡ by_pre → CallsSoFar told catalog texts journal since now teller)
      → CallsAreFew plan told catalog texts journal since now
