-- The reply to the ask that is awaited is begun.
use Rattle.std.specs.Prelude.{◌≡◌, ℕ, ◌≤◌, ◌+◌, Bool, true, Some, None}
use Rattle.ghost_model.specs.core.Channel.{Catalog}
use Rattle.ghost_model.specs.core.Asks.{NumberedAsk}
use Rattle.ghost_model.specs.core.NextMove.{Heard}
use Rattle.edge_traits.specs.Devices.{Device}
use Rattle.page_pool.specs.Pools.{Pool}
use Rattle.channel_pump.specs.Sessions.{asked_in}
use Rattle.key_session.specs.Kept.{IsKept}
use Rattle.key_session.specs.declared.replies.Replies.{Replies}

-- a text is none before those that are not told, nor one behind the two of them whose replies are kept
pub record IsWithin (low top text : ℕ) : Type 0 where
  pub numbered : 1 ≤ text
  pub least : top ≤ text
  pub from : low ≤ text
  pub near : text ≤ low + 1

-- its reply is at hand
pub record IsOpen (text last : ℕ) (replies : Replies) : Type 0 where
  pub begun : replies.is_open ≡ true
  pub hand : replies.hand.text ≡ text
  pub last_is : last ≡ text

pub record IsAwaiting (told : Bool) (device : Device) (pool : Pool) (catalog : Catalog) (heard : Heard) (low top : ℕ) (old new : Replies) : Type 0 where
  pub last : ℕ
  pub kept : IsKept told device pool catalog heard low last new
  -- where an ask is awaited its text is the last whose reply was begun, and else that is the last as before
  pub awaited : (asked : NumberedAsk) → asked_in heard.awaits ≡ Some asked → IsOpen asked.text last new
  pub still : asked_in heard.awaits ≡ None → last ≡ top
