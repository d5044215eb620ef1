-- What a host sends for the bytes of a key where its file cannot be read at times.
use Rattle.std.specs.Prelude.{ℕ, suc, Bool, true, false, List, [], ◌∷◌, length, drop, flat_map, Option, MatchOption, ⊤}
use Rattle.ghost_model.specs.core.Channel.{Frame}
use Rattle.ghost_model.specs.forms.Frames.{frame_bytes}
use Rattle.ghost_model.specs.core.Host.{Holding, Stand, Greeting, answer_as, said_with_refusals, bad_with_refusals, frames_of}
use Rattle.ghost_model.specs.core.NextMove.{InvalidFrame}

-- how many answers are refused
abbrev pub times : (refused : List Bool) → ℕ
times [] = 0
times (false ∷ later) = times later
times (true ∷ later) = suc (times later)

-- each of these answers, refused or not, is one that the host gives
unfoldable pub AreGiven : Holding → (refused : List Bool) → List Frame → Stand → Type 0
AreGiven held [] frames stand = ⊤
AreGiven held (this ∷ refused) [] stand = ⊥
AreGiven held (this ∷ refused) (frame ∷ later) stand =
    MatchOption (answer_as this held stand frame) ⊥ (λ answered. AreGiven held refused later answered.stand)

-- the bytes that a host that stands there says to the next bytes of a key
abbrev pub sends_refusing : Holding → (refused : List Bool) → Stand → (key : List ℕ) → List ℕ
sends_refusing held refused stand key = flat_map frame_bytes (said_with_refusals held refused (frames_of key) stand)

-- the first frame of the next bytes of a key that is out of its place, so many bytes having come before
abbrev pub bad_refusing : Holding → (refused : List Bool) → Stand → (at : ℕ) → (key : List ℕ) → Option InvalidFrame
bad_refusing held refused stand at key =
    bad_with_refusals held (drop (length (flat_map frame_bytes (frames_of key))) key) refused (frames_of key) at stand

-- what a host sends for the bytes of a key
abbrev pub host_sends_refusing : Holding → (refused : List Bool) → (key : List ℕ) → List ℕ
host_sends_refusing held refused key = sends_refusing held refused Greeting key

-- the first frame of a key that is no frame of it in its place
abbrev pub bad_request_refusing : Holding → (refused : List Bool) → (key : List ℕ) → Option InvalidFrame
bad_request_refusing held refused key = bad_refusing held refused Greeting 0 key
