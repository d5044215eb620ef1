-- What the job of a text may cost by the indexes: the work of its query.
use Rattle.std.specs.Prelude.{◌≡◌, ℕ, ◌≤◌, ⊤, Bool, false, List, Option, Some, None, Result, Ok, Err}
use Rattle.ghost_model.specs.core.Schema.{Schema}
use Rattle.ghost_model.specs.core.Values.{Database}
use Rattle.ghost_model.specs.core.Channel.{Catalog}
use Rattle.ghost_model.specs.core.Query.{Query}
use Rattle.ghost_model.specs.core.Replies.{Reply}
use Rattle.ghost_model.specs.forms.QueryWork.{work}
use Rattle.ghost_model.specs.readings.QueryReading.{reading}
use Rattle.visible_spool.specs.declared.half.Half.{Half}
-- the replies are those of an honest host
pub use Rattle.condition_lists.specs.CostLaws.{AreHonest}
use Rattle.channel_pump.specs.declared.state.ReplyState.{ReplyState}
use Rattle.key_exec.specs.Plans.{by_pre}
use Rattle.key_exec.specs.Reading.{KnowsButBy}
use Rattle.key_exec.specs.Texts.{IsDone}
use Rattle.key_exec.specs.Telling.{AreRepliesOf}
use Rattle.key_exec.specs.declared.text.Told.{Told}
use Rattle.key_exec.specs.declared.text.Told.TheVariants as told

-- all calls for a text: none where it is refused
abbrev pub reading_work : {Refusal : Type 0} → Schema → Database → Result Query Refusal → ℕ
reading_work schema database (Ok asked) = work schema database asked
reading_work schema database (Err refusal) = 0

abbrev pub text_work : Schema → Database → (text : List ℕ) → ℕ
text_work schema database text = reading_work schema database (reading schema text)

-- the pages are those of a database, but for damaged slots, and the half has the replies of an honest host to the asks of a text
pub record IsServed (pages_told : Bool) (page : ℕ → List ℕ) (cat : Catalog) (text : List ℕ) (state : ReplyState) (is_marked : Bool) (half : Half) (database : Database) (replies : List Reply) : Type 0 where
  pub pages : KnowsButBy by_pre pages_told page cat database
  pub of_text : IsDone state is_marked false → AreRepliesOf page cat text half replies
  pub honest : IsDone state is_marked false → (asked : Query) → reading cat.schema text ≡ Ok asked → AreHonest cat database asked replies

-- so many calls were made, unless the flash failed or a slot is blamed
abbrev pub SpentWithin : (spent most : ℕ) → Option Told → Type 0
SpentWithin spent most None = spent ≤ most
SpentWithin spent most (Some told.Refused) = spent ≤ most
SpentWithin spent most (Some told.Answered) = spent ≤ most
SpentWithin spent most (Some told.Host) = spent ≤ most
SpentWithin spent most (Some told.Link) = spent ≤ most
SpentWithin spent most (Some told.Protocol) = spent ≤ most
SpentWithin spent most (Some told.Marked) = spent ≤ most
SpentWithin spent most (Some told.Flash) = ⊤
SpentWithin spent most (Some (told.Damaged damage)) = ⊤
