-- What a run of lines does to a journal's file. Each line goes to the end of the file, until an append fails; after that
-- no line is appended, and of the file nothing more is known. The other files stay. A count of faults rises exactly where
-- an append fails.
use Rattle.std.specs.Prelude.{◌≡◌, ◌≤◌, ℕ, Bool, true, false, List, [], Option, None, Some}
use Rattle.std.specs.FinMap as map
use Rattle.ghost_model.specs.core.Causes.{Rose}
use Rattle.ghost_model.specs.core.Channel as channel
use Rattle.edge_traits.specs.Files.{Files, or_empty, SameBut}
use Rattle.edge_traits.specs.Written.{grown}
use Rattle.local_links.specs.declared.journal.Move.{Move}
use Rattle.local_links.specs.declared.journal.Move.TheVariants.{Dial, Send, Take, Close}
use Rattle.local_links.specs.declared.journal.Answer.{Answer}
use Rattle.local_links.specs.declared.journal.Answer.TheVariants.{Made, Piece, End, Failed}

abbrev pub move_view : Move → channel.Move
move_view (Dial address) = channel.Dial address.now
move_view (Send bytes) = channel.Send bytes.now
move_view (Take most) = channel.Take most
move_view Close = channel.Close

abbrev pub answer_view : Answer → channel.Answer
answer_view Made = channel.Made
answer_view (Piece bytes) = channel.Piece bytes.now
answer_view End = channel.End
answer_view Failed = channel.Failed

abbrev pub entry_of : Move → Answer → channel.Entry
entry_of move answer = record { move = move_view move; answer = answer_view answer }

-- the bytes that go with a move
abbrev pub move_bytes : Move → List ℕ
move_bytes (Dial _) = []
move_bytes (Send bytes) = bytes.now
move_bytes (Take _) = []
move_bytes Close = []

-- the bytes of an answer
abbrev pub answer_bytes : Answer → List ℕ
answer_bytes Made = []
answer_bytes (Piece bytes) = bytes.now
answer_bytes End = []
answer_bytes Failed = []

-- where a journal's file stands: what the depot tells and counts, and whether an append failed
pub record Log : Type 0 where
  pub contents : Option Files
  pub faults : ℕ
  pub append_faults : ℕ
  pub failed : Bool

abbrev pub log : Option Files → (faults append_faults : ℕ) → (failed : Bool) → Log
log contents faults append_faults failed =
    record { contents = contents; faults = faults; append_faults = append_faults; failed = failed }

-- the bytes of a file, none for a file that is not there, where the depot tells its files
abbrev pub told_file : Option Files → (name : List ℕ) → Option (List ℕ)
told_file None name = None
told_file (Some files) name = Some (or_empty (map.get files name))

-- from one standing to a later one, lines with these bytes were to be appended to the named file
pub record Extends (name text : List ℕ) (before after : Log) : Type 0 where
  -- where no append failed, the file has grown by the lines
  pub grew : after.failed ≡ false → told_file after.contents name ≡ grown (told_file before.contents name) text
  pub others : SameBut name before.contents after.contents
  -- after a failure nothing is appended
  pub stays_failed : before.failed ≡ true → after ≡ before
  pub never_falls : before.faults ≤ after.faults
  pub appends_never_fall : before.append_faults ≤ after.append_faults
  -- both counts rise where an append failed
  pub rose : before.failed ≡ false → after.failed ≡ true → Rose before.faults after.faults
  pub appends_rose : before.failed ≡ false → after.failed ≡ true → Rose before.append_faults after.append_faults
  -- and stay where none failed
  pub same : after.failed ≡ false → after.faults ≡ before.faults
  pub appends_same : after.failed ≡ false → after.append_faults ≡ before.append_faults
