use Rattle.std.proofs.Common.{◌<◌, ◌≤◌, ℕ, List, subst, ap, ◌∙◌, arith}
use Rattle.ghost_model.specs.core.Channel.{RowsFrame}
use Rattle.ghost_model.specs.forms.Frames.{frame_bytes}
use Rattle.host_exec.specs.Saying.{left_from}
use Rattle.host_exec.specs.Replies.{source_of}
use Rattle.host_exec.proofs.Groups.{none_gathered, said_done, said_rows}
use Rattle.host_exec.proofs.saying.say_rows.Goals as goal

pub returns-then-batch-eq0-clause-said : goal.returns-then-batch-eq0-clause-said
returns-then-batch-eq0-clause-said g c catalog file owed stand is stands =
    let source = source_of c.args.reply.now file in
    let all = left_from source c.args.place in
    let gathered = c.in_ok-next.ensures.gathered file all is stands.1 (none_gathered all _ _ c.new-batch.ensures.count c.new-batch.ensures.none) in
    said_done catalog source c.gather.new.piece c.args.serial c.args.place c.args.sent c.in_ok-next.next owed stand _ _ _ _ stands
    (subst (λ (n : ℕ). 0 < n) c.args.reply.now.full c.args.reply.now.some) gathered c.if-batch-eq0.true (λ h. c.in_ok-next.ensures.stops h ∙ c.args.reply.now.full)
    c.put_frame-size.ensures.bytes

pub returns-clause-said : goal.returns-clause-said
returns-clause-said g c catalog file owed stand is stands =
    let source = source_of c.args.reply.now file in
    let all = left_from source c.args.place in
    let gathered = c.in_ok-next.ensures.gathered file all is stands.1 (none_gathered all _ _ c.new-batch.ensures.count c.new-batch.ensures.none) in
    said_rows catalog source c.gather.new.piece c.args.serial c.args.place c.args.sent c.in_ok-next.next owed stand _ _ _ _ stands
    (subst (λ (n : ℕ). 0 < n) c.args.reply.now.full c.args.reply.now.some) gathered (omega (arith, c.if-batch-eq0.false))
    (subst (λ (n : ℕ). c.gather.new.batch.rows ≤ n) c.args.reply.now.full c.in_ok-next.ensures.room.few) (λ h. c.in_ok-next.ensures.stops h ∙ c.args.reply.now.full)
    (c.put_frame-size-2.ensures.bytes ∙ ap (λ (bs : List ℕ). frame_bytes (RowsFrame c.args.serial bs)) c.as_slice.ensures.value)
    (c.in_ok-next.ensures.ahead file is stands.1)
