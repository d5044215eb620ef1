use Rattle.generated_clinic.proofs.Written.{text_more}
use Rattle.generated_clinic.proofs.scripts.script.Goals as goal

pub loop-before-preserved : goal.loop-before-preserved
loop-before-preserved c =
    text_more c.loop-before.before c.loop-before.script.items c.put_text.new.script.items c.extend_from_slice.new.self.items
    c.loop-before.invariant c.in_ok-put_text.ensures.text c.in_ok-extend_from_slice.ensures.items
