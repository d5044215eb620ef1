use Rattle.std.proofs.Common.{refl, ap, ◌∙◌}
use Rattle.channel_audit.specs.declared.line.Line.TheVariants as line_is
use Rattle.channel_audit.specs.declared.line.Given.{Given}
use Rattle.channel_audit.proofs.Moving.{took_piece}
use Rattle.channel_audit.proofs.replay.ReplayLink.take.Goals as goal

pub returns-else-bytes-buf-clause-moved : goal.returns-else-bytes-buf-clause-moved
returns-else-bytes-buf-clause-moved c = record {
  between = _;
  moved = record {
    same = refl;
    answered = took_piece c.args.self.now.line c.in-Take.digits c.in-Piece.bytes _ c.copy_from_slice.new.self _
        (c.in-Take.is ∙ ap (λ (g : Given). line_is.Take c.in-Take.digits g) c.in-Piece.is) c.copy_from_slice.ensures.after;
  };
  later = refl;
}
