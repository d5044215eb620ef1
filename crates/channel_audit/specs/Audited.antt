-- Where an audit stands, and what it says of a line.
use Rattle.std.specs.Prelude.{◌≡◌, ◌≤◌, ℕ, ◌++◌, min, List, [], ◌∷◌, length, take, Option, Some, None}
use Rattle.ghost_model.specs.core.Channel as channel
use Rattle.ghost_model.specs.core.Channel.{Catalog, Entry, Journal}
use Rattle.ghost_model.specs.core.Asks.{NumberedAsk}
use Rattle.ghost_model.specs.core.NextMove.{next_with}
use Rattle.channel_pump.specs.Sessions.{IsLive}
use Rattle.ghost_model.specs.core.Recorded.{Tells, BeginsProperly, IsWrongAt, all_lines}
use Rattle.channel_audit.specs.declared.audit.Audit.{Audit}
use Rattle.channel_audit.specs.declared.audit.Due.{Due}
use Rattle.channel_audit.specs.declared.audit.Due.TheVariants as due_is
use Rattle.channel_audit.specs.declared.audit.Step.{Step}
use Rattle.channel_audit.specs.declared.audit.Step.TheVariants.{Fine, Wrong, NotALine}

-- the audit stands behind a journal each of whose moves is the next one
abbrev pub IsAudited : Catalog → (asks : List NumberedAsk) → Journal → Audit → Type 0
IsAudited catalog asks journal audit = IsLive catalog [] asks journal audit.pump audit.page

-- the move that is due, whose bytes stand in a page
abbrev pub move_due : Due → (page : List ℕ) → Option channel.Move
move_due due_is.Dial page = Some (channel.Dial [])
move_due (due_is.Send count) page = Some (channel.Send (take count page))
move_due (due_is.Take most) page = Some (channel.Take most)
move_due due_is.Close page = Some channel.Close
move_due due_is.Nothing page = None

-- what is due fits a page
abbrev pub FitsPage : Due → Type 0
FitsPage (due_is.Send count) = count ≤ 2048
FitsPage (due_is.Take most) = most ≤ 2048
FitsPage _ = Unit {0}

-- what is told of a move: its kind, how many bytes it sends, and how many it asks for, as far as these are counted
abbrev pub kind_of : channel.Move → Due
kind_of (channel.Dial _) = due_is.Dial
kind_of (channel.Send bytes) = due_is.Send (length bytes)
kind_of (channel.Take most) = due_is.Take (min most 100000)
kind_of channel.Close = due_is.Close
kind_of _ = due_is.Nothing

abbrev pub kind_of_next : Option channel.Move → Due
kind_of_next None = due_is.Nothing
kind_of_next (Some move) = kind_of move

-- the line tells the next move, and the audit stands behind it
pub record GoesOn (catalog : Catalog) (asks : List NumberedAsk) (journal : Journal) (text : List ℕ) (after : Audit) : Type 0 where
  pub made : Entry
  pub tells : Tells text made
  pub audited : IsAudited catalog asks (journal ++ made ∷ []) after

-- the line tells a move that is not the next one
pub record GoesWrong (catalog : Catalog) (asks : List NumberedAsk) (journal : Journal) (text : List ℕ) (told due : Due) : Type 0 where
  pub made : Entry
  pub tells : Tells text made
  pub wrong : next_with catalog [] asks journal ≡ Some made.move → ⊥
  pub told_is : told ≡ kind_of made.move
  pub due_is : due ≡ kind_of_next (next_with catalog [] asks journal)

-- what an audit behind a journal says of a line
abbrev pub Judges : Catalog → (asks : List NumberedAsk) → Journal → (text : List ℕ) → Step → (after : Audit) → Type 0
Judges catalog asks journal text Fine after = GoesOn catalog asks journal text after
Judges catalog asks journal text (Wrong told due) after = GoesWrong catalog asks journal text told due
Judges catalog asks journal text NotALine after = (made : Entry) → Tells text made → ⊥

-- an audit stands in a file behind the lines of proper moves: so many bytes and moves were passed, and this is the rest
pub record StandsIn (catalog : Catalog) (asks : List NumberedAsk) (file rest : List ℕ) (audit : Audit) (passed moves : ℕ) : Type 0 where
  pub journal : Journal
  pub begins : BeginsProperly catalog asks file journal rest
  pub audited : IsAudited catalog asks journal audit
  pub passed_is : length (all_lines begins.texts) ≡ passed
  pub moves_is : length journal ≡ moves

-- the move with this number is the first of a file that is not the next one; this is told of it, and of the one that was due
pub record IsWrongMove (catalog : Catalog) (asks : List NumberedAsk) (file : List ℕ) (at : ℕ) (told due : Due) : Type 0 where
  pub wrong : IsWrongAt catalog asks file at
  pub told_is : told ≡ kind_of wrong.made.move
  pub due_is : due ≡ kind_of_next (next_with catalog [] asks wrong.journal)
