use Rattle.std.proofs.Common.{◌≡◌, ℕ, List, [], ◌∷◌, ◌++◌, length, take, refl, sym, ◌∙◌, subst}
use Rattle.ghost_model.specs.core.Channel.{Catalog, Entry, Journal}
use Rattle.ghost_model.specs.core.Asks.{NumberedAsk}
use Rattle.ghost_model.specs.core.Moves.{piece_of}
use Rattle.ghost_model.specs.core.NextMove.{Heard, Standing, standing_after, at_first}
use Rattle.channel_pump.specs.State.{Keeps}
use Rattle.channel_pump.proofs.JournalLemmas.{hear_none, left_more}
use Rattle.channel_pump.proofs.ReportLemmas.{silent}
use Rattle.channel_pump.proofs.laws.pages_keep_the_part.Goals as goal

keeps_first : (catalog : Catalog) (asks : List NumberedAsk) (page : List ℕ) → Keeps catalog asks [] page
keeps_first catalog asks page =
    subst (λ (h : Heard). take (length h.part) page ≡ h.part) (sym (hear_none catalog asks (at_first catalog))) refl

keeps_later : (catalog : Catalog) (asks : List NumberedAsk) (journal : Journal) (entry : Entry) (page : List ℕ) → piece_of entry.answer ≡ []
    → Keeps catalog asks journal page → Keeps catalog asks (journal ++ entry ∷ []) page
keeps_later catalog asks journal entry page none k =
    subst (λ (l : Standing). take (length l.heard.part) page ≡ l.heard.part)
    (sym (left_more catalog asks journal entry ∙ silent catalog asks (standing_after catalog asks journal) entry none)) k

pub returns : goal.returns
returns c = record { first = keeps_first; later = keeps_later }
