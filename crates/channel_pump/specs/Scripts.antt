-- The asks of a script over a catalog, as the pump sees them.
use Rattle.std.specs.Prelude.{◌≡◌, ◌≤◌, ℕ, true, List, [], ◌∷◌, length, map, IsTrue}
use Rattle.std.specs.List.{list_all}
use Rattle.ghost_model.specs.core.Schema.{Schema, Kind}
use Rattle.ghost_model.specs.core.Channel.{Catalog, count_of}
use Rattle.ghost_model.specs.core.Asks.{NumberedAsk, ask_payload, kinds_of}
use Rattle.script_asks.specs.Left.{are_proper}
use Rattle.channel_pump.specs.Forms.{Form}
use Rattle.channel_pump.specs.Narrow.{is_narrow}

abbrev pub form_asked : Catalog → NumberedAsk → Form
form_asked catalog asked = record {
  text = asked.text;
  payload = ask_payload catalog.schema asked.ask;
  kinds = kinds_of catalog.schema asked.ask;
  rows = count_of catalog asked.ask.table;
  ask = asked.ask;
}

abbrev pub forms_asked : Catalog → List NumberedAsk → List Form
forms_asked catalog asks = map (form_asked catalog) asks

-- the payload of the first of some asks
abbrev pub payload_held : Schema → List NumberedAsk → List ℕ
payload_held schema [] = []
payload_held schema (asked ∷ _) = ask_payload schema asked.ask

-- the kinds of the columns of the first of some asks
abbrev pub kinds_held : Schema → List NumberedAsk → List Kind
kinds_held schema [] = []
kinds_held schema (asked ∷ _) = kinds_of schema asked.ask

-- this is the payload of the first of these asks and the kinds of its columns, and a key may send each of the asks
pub record IsHeld (catalog : Catalog) (asks : List NumberedAsk) (payload : List ℕ) (kinds : List Kind) : Type 0 where
  pub proper : are_proper catalog.schema asks ≡ true
  pub its_payload : payload ≡ payload_held catalog.schema asks
  pub short : length payload ≤ 2040
  pub its_kinds : kinds ≡ kinds_held catalog.schema asks
  pub narrow : IsTrue (list_all is_narrow kinds)
