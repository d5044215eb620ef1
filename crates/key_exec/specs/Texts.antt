-- What the lines of a text tell, by the state of its replies.
use Rattle.std.specs.Prelude.{◌≡◌, ℕ, ⊤, Bool, true, false, List, [], ◌∷◌, ◌++◌, map, codes, Option, None, Some, Ok, Err}
use Rattle.std.specs.List.{concat}
use Rattle.ghost_model.specs.core.Causes.{Rose}
use Rattle.ghost_model.specs.core.Schema.{Schema}
use Rattle.ghost_model.specs.core.Values.{Row}
use Rattle.ghost_model.specs.core.Channel.{Catalog}
use Rattle.ghost_model.specs.core.Query.{Query, top_of}
use Rattle.ghost_model.specs.refusals.QueryMeaning.{Refusal}
use Rattle.ghost_model.specs.readings.QueryReading.{reading}
use Rattle.ghost_model.specs.core.Split.{Hidden}
use Rattle.ghost_model.specs.core.Replies.{Reply, answer_from}
use Rattle.ghost_model.specs.core.Printed.{row_line, answer_lines, word_line, refusal_line}
use Rattle.edge_traits.specs.Devices.{Device}
use Rattle.visible_spool.specs.declared.half.Half.{Half}
use Rattle.leakless_plan.specs.declared.plan.Plan.{Plan}
use Rattle.key_exec.specs.Blaming.{IsDamaged, WasDamaged}
use Rattle.key_lines.specs.Handing.{Handed, Hands}
use Rattle.channel_pump.specs.declared.state.ReplyState.{ReplyState}
use Rattle.channel_pump.specs.declared.state.ReplyState.TheVariants as state_is
use Rattle.key_exec.specs.declared.text.Told.{Told}
use Rattle.key_exec.specs.declared.text.Told.TheVariants as told

-- some of the rows from the front, and a word behind them
pub record AreFrontLines (number : ℕ) (word : List ℕ) (rows : List Row) (lines : List (List ℕ)) : Type 0 where
  pub given : List Row
  pub left : List Row
  pub front : rows ≡ given ++ left
  pub are : lines ≡ map row_line given ++ word_line number word ∷ []

abbrev pub AreAnswerLines : (number : ℕ) (rows : List Row) (lines : List (List ℕ)) → Told → Type 0
AreAnswerLines number rows lines told.Refused = ⊥
AreAnswerLines number rows lines told.Answered = lines ≡ answer_lines number rows
AreAnswerLines number rows lines told.Host = ⊥
AreAnswerLines number rows lines told.Link = ⊥
AreAnswerLines number rows lines told.Protocol = ⊥
AreAnswerLines number rows lines told.Marked = AreFrontLines number (codes "flash") rows lines
AreAnswerLines number rows lines told.Flash = AreFrontLines number (codes "flash") rows lines
AreAnswerLines number rows lines (told.Damaged damage) = AreFrontLines number (codes "damaged") rows lines

-- the line of what ended the asks of a text, by the state of its replies
abbrev pub broken_line : (number : ℕ) (word : List ℕ) → List (List ℕ)
broken_line number word = word_line number word ∷ []

abbrev pub AreBrokenLines : (number : ℕ) (state : ReplyState) (lines : List (List ℕ)) → Told → Type 0
AreBrokenLines number state lines told.Refused = ⊥
AreBrokenLines number state lines told.Answered = ⊥
AreBrokenLines number state lines told.Host = (state ≡ state_is.Host) × (lines ≡ broken_line number (codes "host"))
AreBrokenLines number state lines told.Link = ((state ≡ state_is.Protocol → ⊥) × (state ≡ state_is.Host → ⊥)) × (lines ≡ broken_line number (codes "link"))
AreBrokenLines number state lines told.Protocol = (state ≡ state_is.Protocol) × (lines ≡ broken_line number (codes "protocol"))
AreBrokenLines number state lines told.Marked = ⊥
AreBrokenLines number state lines told.Flash = ⊥
AreBrokenLines number state lines (told.Damaged damage) = ⊥

pub record TellsBroken (number : ℕ) (state : ReplyState) (before after : Handed) (result : Told) : Type 0 where
  pub lines : List (List ℕ)
  pub handed : Hands (concat lines) before after
  pub are : AreBrokenLines number state lines result

-- why a text has these lines
pub record IsRefusal (schema : Schema) (number : ℕ) (text : List ℕ) (lines : List (List ℕ)) (result : Told) : Type 0 where
  pub refusal : Refusal
  pub refused : reading schema text ≡ Err refusal
  pub are : lines ≡ refusal_line number refusal ∷ []
  pub is_told : result ≡ told.Refused

pub record IsAnswer (schema : Schema) (kept : Hidden) (given : List Reply) (number : ℕ) (text : List ℕ) (state : ReplyState) (lines : List (List ℕ)) (result : Told) : Type 0 where
  pub query : Query
  pub accepted : reading schema text ≡ Ok query
  pub done : state ≡ state_is.Done
  pub are : AreAnswerLines number (answer_from schema kept query given) lines result

pub record IsBroken (schema : Schema) (number : ℕ) (text : List ℕ) (state : ReplyState) (lines : List (List ℕ)) (result : Told) : Type 0 where
  pub query : Query
  pub accepted : reading schema text ≡ Ok query
  pub not_done : state ≡ state_is.Done → ⊥
  pub are : AreBrokenLines number state lines result

pub data Why (schema : Schema) (kept : Hidden) (given : List Reply) (number : ℕ) (text : List ℕ) (state : ReplyState) (lines : List (List ℕ)) (result : Told) : Type 0 where
  is_refused : IsRefusal schema number text lines result → Why schema kept given number text state lines result
  is_answered : IsAnswer schema kept given number text state lines result → Why schema kept given number text state lines result
  is_broken : IsBroken schema number text state lines result → Why schema kept given number text state lines result

-- the flash is blamed by a step exactly where its count of faults rose. It had risen before the first step of a text whose replies
-- could not be written
abbrev pub ToldTells : (before now : ℕ) → Told → Type 0
ToldTells before now told.Refused = now ≡ before
ToldTells before now told.Answered = now ≡ before
ToldTells before now told.Host = now ≡ before
ToldTells before now told.Link = now ≡ before
ToldTells before now told.Protocol = now ≡ before
ToldTells before now told.Marked = now ≡ before
ToldTells before now told.Flash = Rose before now
ToldTells before now (told.Damaged damage) = now ≡ before

abbrev pub StepTells : (before now : ℕ) → Option Told → Type 0
StepTells before now None = now ≡ before
StepTells before now (Some result) = ToldTells before now result

-- a flash that failed a step was called, and one whose slot is blamed
abbrev pub ToldCalls : (before now : ℕ) → Told → Type 0
ToldCalls before now told.Refused = ⊤
ToldCalls before now told.Answered = ⊤
ToldCalls before now told.Host = ⊤
ToldCalls before now told.Link = ⊤
ToldCalls before now told.Protocol = ⊤
ToldCalls before now told.Marked = ⊤
ToldCalls before now told.Flash = Rose before now
ToldCalls before now (told.Damaged damage) = Rose before now

-- why a text is told so, whatever the pages of the flash hold: its reading, and the state of its replies
pub record IsRefusedText (schema : Schema) (text : List ℕ) : Type 0 where
  pub refusal : Refusal
  pub refused : reading schema text ≡ Err refusal

pub record IsAccepted (schema : Schema) (text : List ℕ) (Came : Type 0) : Type 0 where
  pub query : Query
  pub accepted : reading schema text ≡ Ok query
  pub came : Came

-- all asks of the text came to their end, and its replies are marked so
abbrev pub IsDone : ReplyState → (is_marked wanted : Bool) → Type 0
IsDone state is_marked wanted = (state ≡ state_is.Done) × (is_marked ≡ wanted)

abbrev pub IsToldBy : Schema → (text : List ℕ) → ReplyState → (is_marked : Bool) → Told → Type 0
IsToldBy schema text state is_marked told.Refused = IsRefusedText schema text
IsToldBy schema text state is_marked told.Answered = IsAccepted schema text (IsDone state is_marked false)
IsToldBy schema text state is_marked told.Host = IsAccepted schema text (state ≡ state_is.Host)
IsToldBy schema text state is_marked told.Link = IsAccepted schema text ((state ≡ state_is.Done → ⊥) × ((state ≡ state_is.Protocol → ⊥) × (state ≡ state_is.Host → ⊥)))
IsToldBy schema text state is_marked told.Protocol = IsAccepted schema text (state ≡ state_is.Protocol)
IsToldBy schema text state is_marked told.Marked = IsAccepted schema text (IsDone state is_marked true)
IsToldBy schema text state is_marked told.Flash = IsAccepted schema text (IsDone state is_marked false)
IsToldBy schema text state is_marked (told.Damaged damage) = IsAccepted schema text (IsDone state is_marked false)

-- something is so of the query that a text means, and of the top one of its tables
pub record IsSoOfQuery (schema : Schema) (text : List ℕ) (IsSo : Query → (top : ℕ) → Type 0) : Type 0 where
  pub query : Query
  pub means : reading schema text ≡ Ok query
  pub top : ℕ
  pub top_is : top_of schema query ≡ Some top
  pub is : IsSo query top

-- a slot that is blamed for a text by a plan, with its replies in one half of the spool: where all rows are looked at it is one that is
-- read for its query
abbrev pub IsDamagedFor : Plan → (pages_told : Bool) (page : ℕ → List ℕ) → Catalog → (text : List ℕ) → (side : ℕ) → Half → (number slot found : ℕ) → Type 0
IsDamagedFor by pages_told page catalog text side half number slot found =
    IsSoOfQuery catalog.schema text (λ query top. IsDamaged by pages_told page catalog query top side half number slot found)

abbrev pub WasDamagedFor : Plan → (pages_told : Bool) (since : ℕ) → Device → Catalog → (text : List ℕ) → (side : ℕ) → Half → (number slot found : ℕ) → Type 0
WasDamagedFor by pages_told since device catalog text side half number slot found =
    IsSoOfQuery catalog.schema text (λ query top. WasDamaged by pages_told since device catalog query top side half number slot found)

-- a slot that is blamed has bytes that may not stand in it: where all rows are looked at, whatever the pages hold
abbrev pub ToldBlames : Plan → (pages_told : Bool) (page : ℕ → List ℕ) → Catalog → (text : List ℕ) → (side : ℕ) → Half → Told → Type 0
ToldBlames by pages_told page catalog text side half told.Refused = ⊤
ToldBlames by pages_told page catalog text side half told.Answered = ⊤
ToldBlames by pages_told page catalog text side half told.Host = ⊤
ToldBlames by pages_told page catalog text side half told.Link = ⊤
ToldBlames by pages_told page catalog text side half told.Protocol = ⊤
ToldBlames by pages_told page catalog text side half told.Marked = ⊤
ToldBlames by pages_told page catalog text side half told.Flash = ⊤
ToldBlames by pages_told page catalog text side half (told.Damaged damage) = IsDamagedFor by pages_told page catalog text side half damage.page damage.slot damage.found

-- a slot that is blamed has bytes that a read gave, from so many calls on
abbrev pub ToldReads : Plan → (pages_told : Bool) (since : ℕ) → Device → Catalog → (text : List ℕ) → (side : ℕ) → Half → Told → Type 0
ToldReads by pages_told since device catalog text side half told.Refused = ⊤
ToldReads by pages_told since device catalog text side half told.Answered = ⊤
ToldReads by pages_told since device catalog text side half told.Host = ⊤
ToldReads by pages_told since device catalog text side half told.Link = ⊤
ToldReads by pages_told since device catalog text side half told.Protocol = ⊤
ToldReads by pages_told since device catalog text side half told.Marked = ⊤
ToldReads by pages_told since device catalog text side half told.Flash = ⊤
ToldReads by pages_told since device catalog text side half (told.Damaged damage) = WasDamagedFor by pages_told since device catalog text side half damage.page damage.slot damage.found
