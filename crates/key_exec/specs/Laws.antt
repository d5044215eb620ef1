-- Laws of jobs, and of texts that are told.
use Rattle.std.specs.Prelude.{◌≡◌, ℕ, ◌-◌, ◌^◌, ◌<◌, ◌≤◌, Bool, true, List}
use Rattle.ghost_model.specs.core.Schema.{Schema}
use Rattle.ghost_model.specs.core.Values.{Database}
use Rattle.ghost_model.specs.core.Channel.{Catalog}
use Rattle.ghost_model.specs.core.Query.{Query}
use Rattle.ghost_model.specs.core.Replies.{Reply}
use Rattle.ghost_model.specs.core.Database.{IsDatabase, row_counts}
use Rattle.ghost_model.specs.core.Split.{hidden_of}
use Rattle.ghost_model.specs.forms.Flash.{HoldsFiles}
use Rattle.ghost_model.specs.forms.Catalog.{IsCatalog}
use Rattle.ghost_model.specs.laws.SchemaTrees.{IsTree}
use Rattle.ghost_laws.specs.Selected.{AreWholeReplies}
use Rattle.edge_traits.specs.Devices.{Device, KeepsPages, ChangesOnly}
use Rattle.page_pool.specs.Pools.{Pool}
use Rattle.visible_spool.specs.declared.half.Half.{Half}
use Rattle.visible_spool.specs.Sparing.{AreInHalf, SparesHalf}
use Rattle.visible_spool.specs.Areas.{half_begin, half_end}
use Rattle.candidate_rows.specs.Steps.{WereGiven, AreBlankOrRead}
use Rattle.key_exec.specs.declared.job.Job.{Job}
use Rattle.key_exec.specs.Jobs.{leases_of}
use Rattle.key_exec.specs.Costs.{JobCosts}
use Rattle.leakless_plan.specs.declared.plan.Plan.{Plan}
pub use Rattle.candidate_gathering.specs.known.Known.{KeepsStatic}
use Rattle.key_exec.specs.Reading.{KnowsBy, KnowsButBy, KnowsAll, KeepsBy, AreOfAsked, AreAllAsked}
use Rattle.candidate_gathering.specs.known.Found.{WasFoundInFile}
use Rattle.key_exec.specs.Blaming.{IsDamaged, IsReadBy, WasDamaged}
use Rattle.key_exec.specs.Ready.{IsReady, JobGiven, Stands, Spares}
use Rattle.key_lines.specs.Handing.{Handed}
use Rattle.channel_pump.specs.declared.state.ReplyState.{ReplyState}
use Rattle.key_exec.specs.Telling.{CanTell, IsUnderWay}
use Rattle.key_exec.specs.Telling as telling
use Rattle.key_exec.specs.declared.telling.Telling.{Telling}

-- replies to all asks of a query are about its asked tables alone, and about all of them
abbrev pub WholeRepliesAreOfAsked : Type 0
WholeRepliesAreOfAsked = (schema : Schema) (asked : Query) (given : List Reply) → AreWholeReplies schema asked given → AreOfAsked schema asked given

abbrev pub WholeRepliesAreOfAll : Type 0
WholeRepliesAreOfAll = (schema : Schema) (asked : Query) (given : List Reply) → AreWholeReplies schema asked given → AreAllAsked schema asked given

-- who knows that pages hold the hidden columns knows that they hold them but for damaged slots; and no slot is damaged then
abbrev pub KnowledgeIsEnough : Type 0
KnowledgeIsEnough =
    (by : Plan) (told : Bool) (page : ℕ → List ℕ) (cat : Catalog) (database : Database) → IsTree cat.schema → KnowsBy by told page cat database
    → KnowsButBy by told page cat database

-- pages that hold all static files are enough for each plan
abbrev pub HeldPagesAreKnown : Type 0
HeldPagesAreKnown =
    (by : Plan) (told : Bool) (page : ℕ → List ℕ) (cat : Catalog) (database : Database) → told ≡ true → IsDatabase cat.schema database
    → row_counts database ≡ cat.counts → IsCatalog cat → HoldsFiles page cat (hidden_of cat.schema database) → KnowsBy by told page cat database

abbrev pub DamageIsNeverMet : Type 0
DamageIsNeverMet =
    (by : Plan) (told : Bool) (page : ℕ → List ℕ) (cat : Catalog) (asked : Query) (top side : ℕ) (half : Half) (database : Database) (number slot found : ℕ) → IsTree cat.schema
    → KnowsBy by told page cat database → IsDamaged by told page cat asked top side half number slot found → ⊥

-- where the static pages are as they were, what is known of them stays known, and a slot stays damaged
abbrev pub PagesStayKnown : Type 0
PagesStayKnown =
    (by : Plan) (told : Bool) (page now : ℕ → List ℕ) (cat : Catalog) (database : Database) → IsTree cat.schema → KeepsStatic cat page now
    → KnowsBy by told page cat database → KnowsBy by told now cat database

abbrev pub PagesStayKnownBut : Type 0
PagesStayKnownBut =
    (by : Plan) (told : Bool) (page now : ℕ → List ℕ) (cat : Catalog) (database : Database) → IsTree cat.schema → KeepsStatic cat page now
    → KnowsButBy by told page cat database → KnowsButBy by told now cat database

abbrev pub DamageStays : Type 0
DamageStays =
    (by : Plan) (told : Bool) (page now : ℕ → List ℕ) (cat : Catalog) (asked : Query) (top side : ℕ) (half : Half) (number slot found : ℕ) → IsTree cat.schema → KeepsStatic cat page now
    → IsDamaged by told page cat asked top side half number slot found → IsDamaged by told now cat asked top side half number slot found

-- where the pages are told, a slot that a read gave and that is blamed lies in a file that the plan reads, whatever the pages hold
abbrev pub ToldDamageLiesInFiles : Type 0
ToldDamageLiesInFiles =
    (by : Plan) (since : ℕ) (device : Device) (cat : Catalog) (asked : Query) (top side : ℕ) (half : Half) (number slot found : ℕ)
    → WasDamaged by true since device cat asked top side half number slot found → WasFoundInFile since device cat (IsReadBy by cat asked top) number slot found

-- what is known with a query and its replies stays known where the static pages and the half of the replies are spared
abbrev pub KnowledgeIsSpared : Type 0
KnowledgeIsSpared =
    (by : Plan) (told : Bool) (cat : Catalog) (side : ℕ) (before now : Device) (asked : Query) (database : Database) (half : Half) (given : List Reply)
    → SparesHalf cat side before now → AreInHalf cat side half
    → KnowsAll by told before.page cat asked database half given → KnowsAll by told now.page cat asked database half given

-- a job is ready as it was where others spared its half and its buffers, and stands for the same
abbrev pub JobStaysReady : Job → Type 0
JobStaysReady job =
    (cat : Catalog) (asked : Query) (side : ℕ) (told : Bool) (before now : Device) (pool later : Pool)
    → Spares cat side before now pool later (leases_of job)
    → IsReady cat asked side told before pool job → IsReady cat asked side told now later job

abbrev pub JobStillStands : Job → Type 0
JobStillStands job =
    (cat : Catalog) (asked : Query) (side : ℕ) (told : Bool) (before now : Device) (pool later : Pool) (database : Database) (given : List Reply)
    → Spares cat side before now pool later (leases_of job) → IsReady cat asked side told before pool job
    → Stands cat asked database given told before.page pool job → Stands cat asked database given told now.page later job

-- it costs as much as before
abbrev pub JobStillCosts : Job → Type 0
JobStillCosts job =
    (cat : Catalog) (asked : Query) (side : ℕ) (told : Bool) (before now : Device) (pool later : Pool) (database : Database) (given : List Reply) (cost : ℕ)
    → Spares cat side before now pool later (leases_of job) → IsReady cat asked side told before pool job
    → JobCosts cat asked database given told before.page pool job cost → JobCosts cat asked database given told now.page later job cost

-- and what its buffers hold was read since the same count of calls
abbrev pub JobStaysGiven : Job → Type 0
JobStaysGiven job =
    (cat : Catalog) (asked : Query) (side : ℕ) (told : Bool) (before now : Device) (pool later : Pool)
    → Spares cat side before now pool later (leases_of job) → IsReady cat asked side told before pool job
    → (since : ℕ) → JobGiven cat asked side told since before pool job → JobGiven cat asked side told since now later job

abbrev pub BuffersStayGiven : Type 0
BuffersStayGiven =
    (cat : Catalog) (side : ℕ) (before now : Device) (pool later : Pool) (leases : List ℕ) (since : ℕ)
    → Spares cat side before now pool later leases → WereGiven since before pool leases → WereGiven since now later leases

abbrev pub BuffersStayBlankOrRead : Type 0
BuffersStayBlankOrRead =
    (cat : Catalog) (side : ℕ) (before now : Device) (pool later : Pool) (leases : List ℕ) (start : ℕ)
    → Spares cat side before now pool later leases → AreBlankOrRead start before.calls pool leases → AreBlankOrRead start now.calls later leases

-- a text that is told may go on, and is under way, where others use other pages and buffers
abbrev pub TellingStaysAble : Telling → Type 0
TellingStaysAble one =
    (by : Plan) (told : Bool) (cat : Catalog) (side : ℕ) (before now : Device) (pool later : Pool) → Spares cat side before now pool later (telling.leases_of one)
    → CanTell by told cat side before pool one → CanTell by told cat side now later one

abbrev pub TellingIsSpared : Telling → Type 0
TellingIsSpared one =
    (by : Plan) (told : Bool) (cat : Catalog) (side : ℕ) (before now : Device) (pool later : Pool) → Spares cat side before now pool later (telling.leases_of one)
    → (text : List ℕ) (state : ReplyState) (is_marked : Bool) (half : Half) (start : Device) (first last : Handed)
    → IsUnderWay by told cat side text state is_marked half start before first last pool one → IsUnderWay by told cat side text state is_marked half start now first last later one

-- what writes only to the other half spares a half, and what a job by a plan writes spares both
abbrev pub OthersSpareHalves : Type 0
OthersSpareHalves =
    (cat : Catalog) (side : ℕ) (before now : Device) → side < 2
    → ChangesOnly (half_begin cat (1 - side)) (half_end cat (1 - side)) before now → SparesHalf cat side before now

abbrev pub JobsSpareHalves : Type 0
JobsSpareHalves =
    (by : Plan) (cat : Catalog) (side : ℕ) (before now : Device) → side < 2 → KeepsBy by cat before now → SparesHalf cat side before now

-- what reads alone leaves is what a job by each plan may leave, one slice after another
abbrev pub ReadersKeep : Type 0
ReadersKeep = (by : Plan) (cat : Catalog) (before now : Device) → KeepsPages before now → KeepsBy by cat before now

abbrev pub KeptStays : Type 0
KeptStays = (by : Plan) (cat : Catalog) (first before now : Device) → KeepsBy by cat first before → KeepsBy by cat before now → KeepsBy by cat first now

-- so many steps of a text are left at most
abbrev pub most_left : ℕ
most_left = 2 ^ 61

abbrev pub FewStepsAreLeft : Type 0
FewStepsAreLeft =
    (by : Plan) (told : Bool) (cat : Catalog) (side : ℕ) (device : Device) (pool : Pool) (one : Telling) → CanTell by told cat side device pool one
    → telling.left_of one ≤ most_left
