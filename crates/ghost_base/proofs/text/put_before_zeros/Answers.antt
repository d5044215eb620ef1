use Rattle.std.proofs.Common.{◌++◌, ◌∙◌, ap, ap₂, length, drop}
use Rattle.ghost_base.proofs.TextCells.{zeros_behind}
use Rattle.ghost_base.proofs.text.put_before_zeros.Goals as goal

pub returns : goal.returns
returns c = record {
  places = ap₂ (λ front back. front ++ back) c.copy_from_slice.ensures.after
      (ap (λ bytes. drop (length c.args.text.now) bytes) c.requires.zeros ∙ zeros_behind (length c.args.text.now));
}
