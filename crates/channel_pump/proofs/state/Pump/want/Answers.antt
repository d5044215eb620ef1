use Rattle.ghost_model.specs.core.NextMove.{standing_after}
use Rattle.channel_pump.proofs.ReportLemmas.{wants_dial, wants_send, wants_take, wants_close}
use Rattle.channel_pump.proofs.state.Pump.want.Goals as goal

pub returns-in-Dialling-clause-next : goal.returns-in-Dialling-clause-next
returns-in-Dialling-clause-next c catalog at asks journal h = wants_dial catalog at asks c.args.self.now (standing_after catalog asks journal) h c.in-Dialling.is

pub returns-in-Sending-clause-next : goal.returns-in-Sending-clause-next
returns-in-Sending-clause-next c catalog at asks journal h = (_, wants_send catalog at asks c.args.self.now (standing_after catalog asks journal) _ h c.in-Sending.is)

pub returns-in-Taking-clause-next : goal.returns-in-Taking-clause-next
returns-in-Taking-clause-next c catalog at asks journal h = wants_take catalog at asks c.args.self.now (standing_after catalog asks journal) h c.in-Taking.is

pub returns-in-Closing-clause-next : goal.returns-in-Closing-clause-next
returns-in-Closing-clause-next c catalog at asks journal h = wants_close catalog at asks c.args.self.now (standing_after catalog asks journal) _ h c.in-Closing.is
