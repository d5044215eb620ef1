-- A text while it is told, a line or a few calls on the flash at a time. What it needs, whatever the pages hold, stands apart
-- from what it stands for: which of its rows were given, and which are left.
use Rattle.std.specs.Prelude.{◌≡◌, ℕ, ◌≤◌, ⊤, Bool, true, false, not, List, [], ◌∷◌, ◌++◌, ◌+◌, length, map, codes, count_by, Option, None, Some, Ok, Err}
use Rattle.std.specs.List.{concat}
use Rattle.ghost_model.specs.core.Schema.{Schema}
use Rattle.ghost_model.specs.core.Values.{Row, Database}
use Rattle.ghost_model.specs.core.Channel.{Catalog}
use Rattle.ghost_model.specs.core.Query.{Query}
use Rattle.ghost_model.specs.readings.QueryReading.{reading}
use Rattle.ghost_model.specs.core.Split.{hidden_of}
use Rattle.ghost_model.specs.core.Replies.{Reply, answer_from}
use Rattle.ghost_model.specs.core.Printed.{row_line, answer_lines, word_line, refusal_line}
use Rattle.ghost_model.specs.forms.QueryWork.{work}
use Rattle.ghost_model.specs.refusals.QueryMeaning.{Refusal}
use Rattle.ghost_model.specs.laws.SchemaTrees.{IsTree}
use Rattle.edge_traits.specs.Devices.{Device}
use Rattle.page_pool.specs.Pools.{Pool, AreOut, others_out}
use Rattle.spj_parse.specs.Resolved.{IsMeant}
use Rattle.spj_parse.specs.Views.{refusal_of}
use Rattle.visible_spool.specs.declared.half.Half.{Half}
use Rattle.visible_spool.specs.Sparing.{SparesHalf}
use Rattle.key_lines.specs.Handing.{Handed, Hands}
use Rattle.key_lines.specs.Told.{IsTold}
use Rattle.key_lines.specs.declared.told.ToldText.{ToldText}
use Rattle.candidate_rows.specs.Rows.{HoldsReplies}
use Rattle.condition_lists.specs.CostLaws.{AreHonest}
use Rattle.key_exec.specs.declared.job.Job.{Job}
use Rattle.key_exec.specs.Jobs as jobs
use Rattle.key_exec.specs.Jobs.{is_over, rows_left}
use Rattle.key_exec.specs.Costs.{JobCosts}
use Rattle.leakless_plan.specs.declared.plan.Plan.{Plan}
use Rattle.leakless_plan.specs.declared.plan.Plan.TheVariants as plan
use Rattle.key_exec.specs.Plans.{by_pre}
use Rattle.key_exec.specs.Reading.{KnowsButBy, AreOfAsked, AreAllAsked, AreOfRows}
use Rattle.key_exec.specs.Ready.{IsReady, JobGiven, Stands}
use Rattle.channel_pump.specs.declared.state.ReplyState.{ReplyState}
use Rattle.channel_pump.specs.declared.state.ReplyState.TheVariants as state_is
use Rattle.key_exec.specs.Texts.{IsAccepted, IsDone, IsToldBy, ToldCalls, ToldBlames, ToldReads, Why, broken_line}
use Rattle.key_exec.specs.declared.telling.Telling.{Telling}
use Rattle.key_exec.specs.declared.telling.Stage.{Stage}
use Rattle.key_exec.specs.declared.telling.Stage.TheVariants.{Refused, Broken, Marked, Answering}
use Rattle.key_exec.specs.declared.text.Told.{Told}
use Rattle.key_exec.specs.declared.text.Told.TheVariants as told

-- the leases that a text has out
abbrev pub leases_in : Stage → List ℕ
leases_in (Refused refusal) = []
leases_in (Broken state) = []
leases_in Marked = []
leases_in (Answering job) = jobs.leases_of job

abbrev pub leases_of : Telling → List ℕ
leases_of telling = leases_in telling.stage

-- how many steps are left at most
abbrev pub left_in : Stage → ℕ
left_in (Refused refusal) = 1
left_in (Broken state) = 1
left_in Marked = 1
left_in (Answering job) = jobs.left job

abbrev pub left_of : Telling → ℕ
left_of telling = left_in telling.stage

-- how many calls on the flash its job made
abbrev pub spent_in : Stage → ℕ
spent_in (Refused refusal) = 0
spent_in (Broken state) = 0
spent_in Marked = 0
spent_in (Answering job) = job.at.spent

abbrev pub spent_of : Telling → ℕ
spent_of telling = spent_in telling.stage

-- what is told of it: the rule by which it is refused, and how many of its rows were given
abbrev pub told_at : Stage → ToldText
told_at (Refused refusal) = record { refusal = Some refusal; rows = 0 }
told_at (Broken state) = record { refusal = None; rows = 0 }
told_at Marked = record { refusal = None; rows = 0 }
told_at (Answering job) = record { refusal = None; rows = job.at.given }

abbrev pub told_of : Telling → ToldText
told_of telling = told_at telling.stage

-- a text whose rows a job gives
abbrev pub answering : (number : ℕ) → Job → Telling
answering number job = record { number = number; stage = Answering job }

-- ---- what it needs

-- beside these leases two buffers are out at most, and there are as many as a pool has at least
pub record HasRoom (leases : List ℕ) (pool : Pool) : Type 0 where
  pub enough : 8 ≤ length pool.pages
  pub free : length pool.pages ≤ count_by not (others_out pool leases) + 2

-- a job by a plan goes on
pub record CanGoOn (by : Plan) (told : Bool) (cat : Catalog) (side : ℕ) (device : Device) (pool : Pool) (job : Job) : Type 0 where
  pub by_is : job.by ≡ by
  pub asked : Query
  pub ready : IsReady cat asked side told device pool job
  pub going : is_over job ≡ false

abbrev pub NeedsIn : Plan → (told : Bool) → Catalog → (side : ℕ) → Device → Pool → Stage → Type 0
NeedsIn by told cat side device pool (Refused refusal) = ⊤
NeedsIn by told cat side device pool (Broken state) = ⊤
NeedsIn by told cat side device pool Marked = ⊤
NeedsIn by told cat side device pool (Answering job) = CanGoOn by told cat side device pool job

-- by a plan over a catalog, with replies in one half of the spool
pub record CanTell (by : Plan) (told : Bool) (cat : Catalog) (side : ℕ) (device : Device) (pool : Pool) (telling : Telling) : Type 0 where
  pub needs : NeedsIn by told cat side device pool telling.stage
  pub out : AreOut pool (leases_of telling)
  pub room : HasRoom (leases_of telling) pool

-- by some plan over some catalog, with replies in some half
pub record CanTellSomewhere (told : Bool) (device : Device) (pool : Pool) (telling : Telling) : Type 0 where
  pub by : Plan
  pub cat : Catalog
  pub side : ℕ
  pub can : CanTell by told cat side device pool telling

-- ---- what it stands for

-- a half holds the replies to the asks of a query: one about each table that it asks for, and about no other, with rows of that table
pub record AreRepliesTo (page : ℕ → List ℕ) (cat : Catalog) (asked : Query) (half : Half) (replies : List Reply) : Type 0 where
  pub held : HoldsReplies page cat.schema asked half replies
  pub of_asked : AreOfAsked cat.schema asked replies
  pub all_asked : AreAllAsked cat.schema asked replies
  pub of_rows : AreOfRows cat replies

abbrev pub AreRepliesOf : (page : ℕ → List ℕ) → Catalog → (text : List ℕ) → Half → List Reply → Type 0
AreRepliesOf page cat text half replies = (asked : Query) → reading cat.schema text ≡ Ok asked → AreRepliesTo page cat asked half replies

-- the pages are those of a database, but for slots that may not stand as they do, and the half holds the replies to the text's asks
pub record KnowsText (by : Plan) (pages_told : Bool) (page : ℕ → List ℕ) (cat : Catalog) (text : List ℕ) (half : Half) (replies : List Reply) (database : Database) : Type 0 where
  pub pages : KnowsButBy by pages_told page cat database
  pub of_text : AreRepliesOf page cat text half replies

-- these rows were given, and those that are left come behind them in the answer
pub record AreLeft (cat : Catalog) (asked meant : Query) (replies : List Reply) (pages_told : Bool) (page : ℕ → List ℕ) (pool : Pool) (given : List Row) (job : Job) (database : Database) : Type 0 where
  pub answer : answer_from cat.schema (hidden_of cat.schema database) meant replies ≡ given ++ rows_left cat asked database replies job
  pub stands : Stands cat asked database replies pages_told page pool job

-- by the indexes, the calls that were made and those that are still made at most are the work of the query
pub record IsPaid (cat : Catalog) (asked meant : Query) (replies : List Reply) (pages_told : Bool) (page : ℕ → List ℕ) (pool : Pool) (job : Job) (database : Database) : Type 0 where
  pub still : ℕ
  pub costs : JobCosts cat asked database replies pages_told page pool job still
  pub enough : job.at.spent + still ≤ work cat.schema database meant

-- some rows were given, whatever the pages hold; where they hold a database, from the front of the text's answer
pub record HasGiven (by : Plan) (pages_told : Bool) (cat : Catalog) (side : ℕ) (text : List ℕ) (half : Half) (start device : Device) (before now : Handed) (pool : Pool) (job : Job) : Type 0 where
  pub asked : Query
  pub read : IsMeant cat.schema text asked
  pub tree : IsTree cat.schema
  pub by_is : job.by ≡ by
  pub half_is : job.at.half ≡ half
  pub ready : IsReady cat asked side pages_told device pool job
  -- what its buffers hold was read since, of files that the plan reads
  pub reads : JobGiven cat asked side pages_told start.calls device pool job
  pub given : List Row
  pub handed_on : Hands (concat (map row_line given)) before now
  pub counted : job.at.given ≡ length given
  pub left : (database : Database) (replies : List Reply) → KnowsText by pages_told start.page cat text half replies database
      → AreLeft cat asked read.meant replies pages_told device.page pool given job database
  -- by the indexes, where the host is honest
  pub paid : by ≡ by_pre → (database : Database) (replies : List Reply) → KnowsText by pages_told start.page cat text half replies database
      → AreHonest cat database read.meant replies → IsPaid cat asked read.meant replies pages_told device.page pool job database

abbrev pub IsAtStage : Plan → (pages_told : Bool) (cat : Catalog) (side : ℕ) (text : List ℕ) → ReplyState → (is_marked : Bool) → Half → (start device : Device) (before now : Handed) → Pool → Stage → Type 0
IsAtStage by pages_told cat side text state is_marked half start device before now pool (Refused refusal) =
    (reading cat.schema text ≡ Err (refusal_of refusal)) × (now ≡ before)
IsAtStage by pages_told cat side text state is_marked half start device before now pool (Broken one) =
    IsAccepted cat.schema text (state ≡ state_is.Done → ⊥) × ((one ≡ state) × (now ≡ before))
IsAtStage by pages_told cat side text state is_marked half start device before now pool Marked =
    IsAccepted cat.schema text (IsDone state is_marked true) × (now ≡ before)
IsAtStage by pages_told cat side text state is_marked half start device before now pool (Answering job) =
    IsDone state is_marked false × HasGiven by pages_told cat side text half start device before now pool job

-- A text is told by a plan and by the replies in a half, since the flash and the sink were as at the first. It stays so as long as the pages of
-- that half, those of the catalog's columns and the buffers of its leases stay as they are.
pub record IsUnderWay (by : Plan) (pages_told : Bool) (cat : Catalog) (side : ℕ) (text : List ℕ) (state : ReplyState) (is_marked : Bool) (half : Half) (start device : Device) (before now : Handed) (pool : Pool) (telling : Telling) : Type 0 where
  pub kept : SparesHalf cat side start device
  pub at : IsAtStage by pages_told cat side text state is_marked half start device before now pool telling.stage

-- ---- what it told

-- the lines of a text, whatever the pages hold
pub record AreRefusalLines (schema : Schema) (number : ℕ) (text : List ℕ) (lines : List (List ℕ)) : Type 0 where
  pub refusal : Refusal
  pub refused : reading schema text ≡ Err refusal
  pub are : lines ≡ refusal_line number refusal ∷ []

pub record AreCountedLines (number : ℕ) (lines : List (List ℕ)) : Type 0 where
  pub rows : List Row
  pub are : lines ≡ answer_lines number rows

pub record AreCutLines (number : ℕ) (word : List ℕ) (lines : List (List ℕ)) : Type 0 where
  pub rows : List Row
  pub are : lines ≡ map row_line rows ++ word_line number word ∷ []

abbrev pub AreLinesOf : Schema → (number : ℕ) (text : List ℕ) (lines : List (List ℕ)) → Told → Type 0
AreLinesOf schema number text lines told.Refused = AreRefusalLines schema number text lines
AreLinesOf schema number text lines told.Answered = AreCountedLines number lines
AreLinesOf schema number text lines told.Host = lines ≡ broken_line number (codes "host")
AreLinesOf schema number text lines told.Link = lines ≡ broken_line number (codes "link")
AreLinesOf schema number text lines told.Protocol = lines ≡ broken_line number (codes "protocol")
AreLinesOf schema number text lines told.Marked = lines ≡ broken_line number (codes "flash")
AreLinesOf schema number text lines told.Flash = AreCutLines number (codes "flash") lines
AreLinesOf schema number text lines (told.Damaged damage) = AreCutLines number (codes "damaged") lines

-- The half has the replies to the asks of a text, all of which came to their end, where pages are told: what has to be so, by the
-- indexes, where a slot is blamed.
pub record HasReplies (page : ℕ → List ℕ) (cat : Catalog) (text : List ℕ) (half : Half) : Type 0 where
  pub replies : List Reply
  pub are : AreRepliesOf page cat text half replies

abbrev pub AreThere : Plan → (pages_told : Bool) (page : ℕ → List ℕ) → Catalog → (text : List ℕ) → ReplyState → (is_marked : Bool) → Half → Type 0
AreThere plan.Scan pages_told page cat text state is_marked half = ⊤
AreThere (plan.Linked forced) pages_told page cat text state is_marked half = IsDone state is_marked false → pages_told ≡ true → HasReplies page cat text half

-- The text was told to its end, since the flash and the sink were as at the first. Where the pages are those of a database, but
-- for slots that may not stand as they do, its lines are of its answer over it.
pub record HasTold (by : Plan) (pages_told : Bool) (cat : Catalog) (side number : ℕ) (text : List ℕ) (state : ReplyState) (is_marked : Bool) (half : Half) (start device : Device) (before now : Handed) (result : Told) (one : ToldText) : Type 0 where
  pub called : ToldCalls start.calls device.calls result
  pub blames : AreThere by pages_told start.page cat text state is_marked half → ToldBlames by pages_told start.page cat text side half result
  pub read : ToldReads by pages_told start.calls device cat text side half result
  pub told_by : IsToldBy cat.schema text state is_marked result
  pub lines : List (List ℕ)
  pub handed_on : Hands (concat lines) before now
  pub are : AreLinesOf cat.schema number text lines result
  pub entry : IsTold cat.schema text lines one
  pub why : (database : Database) (replies : List Reply) → KnowsButBy by pages_told start.page cat database
      → (IsDone state is_marked false → AreRepliesOf start.page cat text half replies)
      → Why cat.schema (hidden_of cat.schema database) replies number text state lines result

-- after a step a text that is answered is under way as before, or it was told
abbrev pub GoesOn : Plan → (pages_told : Bool) (cat : Catalog) (side : ℕ) (text : List ℕ) → ReplyState → (is_marked : Bool) → Half → (start device : Device) (before now : Handed) → Pool → Telling → Option Told → Type 0
GoesOn by pages_told cat side text state is_marked half start device before now pool telling None =
    IsAccepted cat.schema text (IsDone state is_marked false) × IsUnderWay by pages_told cat side text state is_marked half start device before now pool telling
GoesOn by pages_told cat side text state is_marked half start device before now pool telling (Some result) =
    HasTold by pages_told cat side telling.number text state is_marked half start device before now result (told_of telling)
