use Rattle.std.proofs.Common.{◌∙◌, sym}
use Rattle.ghost_model.specs.core.Moves as moves
use Rattle.local_links.specs.Journaling.{entry_of}
use Rattle.local_links.specs.Appending.{one_append, with_answer}
use Rattle.local_links.proofs.journal.record.Goals as goal

pub returns : goal.returns
returns g c =
    with_answer c.args.name.now (moves.line (entry_of c.args.made.now c.args.answer.now)) _ _ _ _ _ c.is_err.result (sym c.is_err.ensures.value)
    (one_append c.args.name.now (moves.line (entry_of c.args.made.now c.args.answer.now)) c.as_slice.result.now
    (g.D.Depot.contents c.args.depot.now) (g.D.Depot.contents c.append.new.self)
    (g.D.Depot.faults c.args.depot.now) (g.D.Depot.faults c.append.new.self)
    (g.D.Depot.append_faults c.args.depot.now) (g.D.Depot.append_faults c.append.new.self)
    c.append.result c.args.failed c.append.ensures.cause c.append.ensures.append_cause c.append.ensures.appended c.append.ensures.others
    (c.as_slice.ensures.value ∙ c.line_of-line.ensures) c.if-failed.false)
