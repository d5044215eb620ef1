-- What a line that was read tells.
use Rattle.std.specs.Prelude.{◌≡◌, ℕ, Bool, true, false, List, [], ◌∷◌, ◌++◌}
use Rattle.ghost_model.specs.core.Channel as channel
use Rattle.ghost_model.specs.core.Channel.{Answer, Entry}
use Rattle.ghost_model.specs.core.Recorded.{number, TellsMove, lacks}
use Rattle.channel_audit.specs.declared.line.Line.{Line}
use Rattle.channel_audit.specs.declared.line.Line.TheVariants.{Dial, Send, Take, Close}
use Rattle.channel_audit.specs.declared.line.Given.{Given}
use Rattle.channel_audit.specs.declared.line.Given.TheVariants.{Piece, End, Failed}

-- a text is cut at the first byte of this value
pub record Cuts (byte : ℕ) (text first rest : List ℕ) : Type 0 where
  pub joined : text ≡ first ++ byte ∷ rest
  pub lacking : lacks byte first ≡ true

abbrev pub done_as : (well : Bool) → Answer
done_as true = channel.Made
done_as false = channel.Failed

abbrev pub given_as : Given → Answer
given_as (Piece bytes) = channel.Piece bytes.now
given_as End = channel.End
given_as Failed = channel.Failed

abbrev pub entry : channel.Move → Answer → Entry
entry move answer = record { move = move; answer = answer }

abbrev pub entry_of : Line → Entry
entry_of (Dial well) = entry (channel.Dial []) (done_as well)
entry_of (Send bytes well) = entry (channel.Send bytes.now) (done_as well)
entry_of (Take digits given) = entry (channel.Take (number digits.now)) (given_as given)
entry_of Close = entry channel.Close channel.Made

-- a text tells what was read of it
abbrev pub IsRead : (text : List ℕ) → Line → Type 0
IsRead text line = TellsMove (entry_of line).move (entry_of line).answer text
