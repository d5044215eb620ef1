-- Why a session ends.
use Rattle.std.proofs.Common.{◌≡◌, true, List, refl}
use Rattle.ghost_model.specs.core.Channel.{Catalog}
use Rattle.ghost_model.specs.core.Asks.{NumberedAsk}
use Rattle.ghost_model.specs.core.NextMove as next
use Rattle.ghost_model.specs.core.NextMove.{Awaits, AwaitsCatalog, AwaitsNothing, Standing}
use Rattle.channel_pump.specs.declared.state.Pump.{Pump}
use Rattle.channel_pump.specs.declared.state.Phase.{Phase}
use Rattle.channel_pump.specs.declared.state.Phase.TheVariants.{Greeting, Reply, Over}
use Rattle.channel_pump.specs.declared.state.Stage.{Stage}
use Rattle.channel_pump.specs.declared.state.Stage.TheVariants.{Dialling, Sending, Taking, Closing, Closed}
use Rattle.channel_pump.specs.declared.state.Cause.{Cause}
use Rattle.channel_pump.specs.declared.state.Cause.TheVariants.{Finished, Link, Protocol}
use Rattle.channel_pump.specs.State.{IsLeft, IsAwaiting, IsStage, IsCause, cause_at, is_over, has_stopped, has_broken}
use Rattle.channel_pump.specs.Progress.{EndsBy, EndsAs}

nothing_awaited : (catalog : Catalog) (p : Pump) (phase : Phase) (awaits : Awaits) → IsAwaiting catalog p phase awaits → is_over phase ≡ true → awaits ≡ AwaitsNothing
nothing_awaited catalog p phase AwaitsNothing h e = refl
nothing_awaited catalog p Greeting (AwaitsCatalog bytes) h e = cc
nothing_awaited catalog p Greeting (next.AwaitsReply _ _ _ _ _) h e = absurd h
nothing_awaited catalog p Reply (AwaitsCatalog bytes) h e = absurd h
nothing_awaited catalog p Reply (next.AwaitsReply _ _ _ _ _) h e = cc
nothing_awaited catalog p Over (AwaitsCatalog bytes) h e = absurd h
nothing_awaited catalog p Over (next.AwaitsReply _ _ _ _ _) h e = absurd h

module _ (catalog : Catalog) (asks : List NumberedAsk) (p : Pump) (l : Standing) (h : IsLeft catalog asks p l) where
  by_cause : (cause : Cause) → IsCause p l cause → l.stopped ≡ has_stopped (Closing cause) → l.heard.broken ≡ has_broken (Closing cause) → EndsBy l cause
  by_cause Finished c s b = (nothing_awaited catalog p p.phase l.heard.awaits h.awaits c.phase, s, b)
  by_cause Link c s b = (s, b)
  by_cause (Protocol kind place) c s b = (s, b, c.its_kind, c.its_place)

  by_stage : (s : Stage) → IsStage catalog p l s → l.stopped ≡ has_stopped s → l.heard.broken ≡ has_broken s → EndsAs l (cause_at s)
  by_stage Dialling i s b = (s, b)
  by_stage (Sending _) i s b = (s, b)
  by_stage Taking i s b = (s, b)
  by_stage (Closing cause) i s b = by_cause cause i s b
  by_stage (Closed cause) i s b = by_cause cause i s b

  pub ends_as : EndsAs l (cause_at p.stage)
  ends_as = by_stage p.stage h.stage h.stopped h.broken
