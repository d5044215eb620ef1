-- A host of the code in the words of the definition.
use Rattle.std.specs.Prelude.{◌≡◌, ℕ, List, length, Some}
use Rattle.std.specs.String.{string_bytes}
use Rattle.ghost_model.specs.core.Channel.{Frame}
use Rattle.ghost_model.specs.forms.Catalog.{catalog_bytes}
use Rattle.ghost_model.specs.core.Host.{Holding, Stand, Response, answer_to}
use Rattle.host_exec.specs.Saying.{Stands, Says, Refuses}
use Rattle.host_exec.specs.Replies.{source_of}
use Rattle.host_exec.specs.Steps.{steps_left}
use Rattle.host_exec.specs.Holdings.{HoldsFile}
use Rattle.host_exec.specs.declared.host.Host.{Host}
use Rattle.host_exec.specs.declared.stage.Stage.{Stage}
use Rattle.host_exec.specs.declared.stage.Stage.TheVariants.{Answering}

-- the name of the host's file
abbrev pub name_of : Host → List ℕ
name_of host = string_bytes host.name

-- a host holds this, where its file has these bytes
abbrev pub Holds : Holding → (file : List ℕ) → Host → Type 0
Holds held file host = HoldsFile held host.catalog host.starts.items file

-- a host has these frames still to say, and then stands there
abbrev pub StandsAs : Host → (file : List ℕ) → (owed : List Frame) → Stand → Type 0
StandsAs host file owed stand = Stands (catalog_bytes host.catalog) (source_of host.reply file) host.stage owed stand

-- a host takes or says at most so many frames more
abbrev pub steps_of : Host → ℕ
steps_of host = steps_left (length (catalog_bytes host.catalog)) host.stage

-- a host holds what it held before
pub record IsSameHost (before after : Host) : Type 0 where
  pub name : name_of after ≡ name_of before
  pub catalog : after.catalog ≡ before.catalog
  pub starts : after.starts.items ≡ before.starts.items

-- a frame of the key was answered
pub record IsAnswered (held : Holding) (file : List ℕ) (stand : Stand) (frame : Frame) (after : Host) : Type 0 where
  pub answered : Response
  pub answer : answer_to held stand frame ≡ Some answered
  pub stands : StandsAs after file answered.says answered.stand

-- the host refused to go on with the reply that it owed a frame of, since the count of faults rose; no depot that is sure
-- of the file leads to that
pub record Refused (Sure : Type 0) (host : Host) (before after size : ℕ) (out : List ℕ) (stage : Stage) : Type 0 where
  pub serial : ℕ
  pub place : ℕ
  pub sent : ℕ
  pub owed : host.stage ≡ Answering serial place sent
  pub refuses : Refuses Sure before after serial size out stage

abbrev pub RefusedAs : (Sure : Type 0) → (old : Host) → (before after size : ℕ) → (out : List ℕ) → (new : Host) → Type 0
RefusedAs Sure old before after size out new = Refused Sure old before after size out new.stage

-- the next of the frames was said
abbrev pub SaysAs : (new : Host) → (file : List ℕ) → (owed : List Frame) → Stand → (size : ℕ) → (out : List ℕ) → Type 0
SaysAs new file owed stand size out = Says (catalog_bytes new.catalog) (source_of new.reply file) owed stand size out new.stage
