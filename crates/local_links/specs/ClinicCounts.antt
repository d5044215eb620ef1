-- What is counted of a session over the clinic, and of one whose first frame could not be sent.
use Rattle.std.specs.Prelude.{◌≡◌, [], ◌∷◌}
use Rattle.ghost_model.specs.core.Channel.{HelloFrame, Send, Failed, Journal}
use Rattle.ghost_model.specs.forms.Frames.{frame_bytes}
use Rattle.ghost_model.specs.examples.Channel.{cardio_journal, dialled, closed}
use Rattle.edge_traits.specs.Links.{entry}
use Rattle.local_links.specs.Counting.{moves_in, bytes_sent, bytes_taken}

abbrev pub unsent_journal : Journal
unsent_journal = dialled [] ∷ entry (Send (frame_bytes (HelloFrame 1))) Failed ∷ closed ∷ []

pub record CountsOfTheClinic : Type 0 where
  pub moves : moves_in cardio_journal ≡ 12
  pub sent : bytes_sent cardio_journal ≡ 50
  pub taken : bytes_taken cardio_journal ≡ 418
  pub moves_of_the_failed : moves_in unsent_journal ≡ 3
  pub handed_over : bytes_sent unsent_journal ≡ 12
  pub nothing_taken : bytes_taken unsent_journal ≡ 0
