-- A host of the code, with what it said and the key did not take yet, as a desk.
use Rattle.std.specs.Prelude.{◌≡◌, ◌<◌, ◌⊎◌, ℕ, ◌-◌, Option, Some, List, ◌++◌, take, drop, flat_map}
use Rattle.ghost_model.specs.core.Causes.{Rose}
use Rattle.ghost_model.specs.core.Channel.{Frame}
use Rattle.ghost_model.specs.forms.Frames.{frame_bytes}
use Rattle.ghost_model.specs.core.Host.{Holding, Stand}
use Rattle.edge_traits.specs.Files.{Files, file_of}
use Rattle.host_exec.specs.Hosts.{Holds, StandsAs, name_of}
use Rattle.host_exec.specs.declared.host.Host.{Host}
use Rattle.local_links.specs.declared.speech.Speech.{Speech}

-- how many bytes of a frame were said and not taken
abbrev pub size_of : Speech → ℕ
size_of speech = speech.to - speech.from

-- these bytes
abbrev pub kept : Speech → List ℕ
kept speech = take (speech.to - speech.from) (drop speech.from speech.page)

-- a host that holds this owes these bytes and then stands there, where the files of its depot are these
pub record Owes (held : Holding) (contents : Option Files) (host : Host) (speech : Speech) (bytes : List ℕ) (stand : Stand) : Type 0 where
  pub file : List ℕ
  pub found : file_of contents (name_of host) ≡ Some file
  pub holds : Holds held file host
  pub frames : List Frame
  pub stands : StandsAs host file frames stand
  pub owed : bytes ≡ kept speech ++ flat_map frame_bytes frames

-- the host came nearer to the session's end, or the speech stays, and has bytes
abbrev pub Nearer : (steps size later_steps later_size : ℕ) → Type 0
Nearer steps size later_steps later_size =
    (later_steps < steps) ⊎ ((later_steps ≡ steps) × (later_size ≡ size) × (0 < later_size))

-- no reading of the host's file fails: the depot is sure of that file, or its count of faults did not rise
abbrev pub ReadsWell : (Sure : Type 0) → (before after : ℕ) → Type 0
ReadsWell Sure before after = Sure ⊎ (Rose before after → ⊥)
