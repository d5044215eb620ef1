-- Pages that a gathering reads: those of indexes, and those of its own half of the spool.
use Rattle.std.specs.Prelude.{◌≡◌, ℕ, ◌<◌, ◌≤◌, ◌⊎◌, true, List, length}
use Rattle.ghost_model.specs.core.Channel.{Catalog}
use Rattle.ghost_model.specs.forms.Layout.{static_end}
use Rattle.spill_pass.specs.Sources.{Source}
use Rattle.visible_spool.specs.Areas.{half_begin, half_end}
use Rattle.visible_spool.specs.Replies.{id_of}

-- the identifiers of rows are no higher than a number
abbrev pub HaveIdsUpTo : (rows : ℕ) → (held : List (List ℕ)) → Type 0
HaveIdsUpTo rows held = (place : ℕ) → place < length held → id_of held place ≤ rows

-- a page of the static files, or one of a half of the spool
abbrev pub IsReadPage : Catalog → (side number : ℕ) → Type 0
IsReadPage cat side number = (number < static_end cat) ⊎ ((half_begin cat side ≤ number) × (number < half_end cat side))

-- a source reads no others
abbrev pub ReadsOnly : Catalog → (side : ℕ) → Source → Type 0
ReadsOnly cat side source = (number : ℕ) → source.uses number ≡ true → IsReadPage cat side number
