-- What the pump is told of an ask, beside the ask of the definitions: the bytes of its payload, the kinds of the asked
-- columns and the number of its table's rows, for a catalog.
use Rattle.std.specs.Prelude.{◌≡◌, ℕ, ◌+◌, ◌≤◌, ◌/◌, List, [], ◌∷◌, length, map, sum}
use Rattle.ghost_model.specs.core.Schema as schema
use Rattle.ghost_model.specs.forms.Cells.{cell_width}
use Rattle.ghost_model.specs.core.Channel.{Catalog, count_of}
use Rattle.ghost_model.specs.core.Asks.{NumberedAsk, RowCells, ask_payload, kinds_of, rows_from}
use Rattle.channel_pump.specs.Forms.{Form}

abbrev pub form_kinds : Form → List schema.Kind
form_kinds form = form.kinds

-- the form is that of the ask, for a catalog
pub record IsAskForm (catalog : Catalog) (form : Form) (asked : NumberedAsk) : Type 0 where
  pub text : form.text ≡ asked.text
  pub payload : form.payload ≡ ask_payload catalog.schema asked.ask
  pub kinds : form_kinds form ≡ kinds_of catalog.schema asked.ask
  pub rows : form.rows ≡ count_of catalog asked.ask.table
  pub in_script : form.text ≤ 64
  pub ask : form.ask ≡ asked.ask

-- the forms are those of the asks, one by one
abbrev pub AreAsked : Catalog → List Form → List NumberedAsk → Type 0
AreAsked catalog [] [] = Unit {0}
AreAsked catalog (form ∷ forms) (asked ∷ asks) = IsAskForm catalog form asked × AreAsked catalog forms asks
AreAsked catalog [] (_ ∷ _) = ⊥
AreAsked catalog (_ ∷ _) [] = ⊥

-- the width of a row of the reply
abbrev pub width_of : List schema.Kind → ℕ
width_of kinds = 4 + sum (map cell_width kinds)

-- the rows of a payload with cells of these kinds
abbrev pub rows_with : List schema.Kind → List ℕ → List RowCells
rows_with kinds payload = rows_from (width_of kinds) (length payload / width_of kinds) payload
