-- An ask as the pump sees it: the number of its text, the ask itself, the bytes of its payload, the kinds of the asked
-- columns and the number of its table's rows.
use Rattle.std.specs.Prelude.{◌≡◌, ℕ, List, [], ◌∷◌, map}
use Rattle.ghost_model.specs.core.Schema.{Kind}
use Rattle.ghost_model.specs.core.Channel.{Ask}
use Rattle.ghost_base.specs.Views.{kind_of}
use Rattle.channel_codec.specs.AskViews.{ask_view}
use Rattle.channel_pump.specs.declared.forms.AskForm.{AskForm}

pub record Form : Type 0 where
  pub text : ℕ
  pub ask : Ask
  pub payload : List ℕ
  pub kinds : List Kind
  pub rows : ℕ

abbrev pub form_of : AskForm → Form
form_of form = record { text = form.text; ask = ask_view form.ask.now; payload = form.payload.now; kinds = map kind_of form.kinds.now; rows = form.rows }

-- the first of these asks is this one, of the text with this number
abbrev pub IsFirst : List Form → (text : ℕ) → Ask → Type 0
IsFirst [] text ask = ⊥
IsFirst (form ∷ _) text ask = (form.text ≡ text) × (form.ask ≡ ask)
