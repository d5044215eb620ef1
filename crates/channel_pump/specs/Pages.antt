-- A page keeps the part of the frame at hand through every move but a take.
use Rattle.std.specs.Prelude.{◌≡◌, ℕ, List, [], ◌∷◌, ◌++◌}
use Rattle.ghost_model.specs.core.Channel.{Catalog, Entry, Journal}
use Rattle.ghost_model.specs.core.Asks.{NumberedAsk}
use Rattle.ghost_model.specs.core.Moves.{piece_of}
use Rattle.channel_pump.specs.State.{Keeps}

pub record PagesKeep : Type 0 where
  -- before the first move there is no part
  pub first : (catalog : Catalog) (asks : List NumberedAsk) (page : List ℕ) → Keeps catalog asks [] page
  pub later :
      (catalog : Catalog) (asks : List NumberedAsk) (journal : Journal) (entry : Entry) (page : List ℕ)
      → piece_of entry.answer ≡ [] → Keeps catalog asks journal page → Keeps catalog asks (journal ++ entry ∷ []) page
