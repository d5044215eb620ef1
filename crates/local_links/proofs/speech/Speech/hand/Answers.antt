use Rattle.std.proofs.Common.{rules, ◌∙◌, ap, take}
use Rattle.local_links.proofs.Desks.{handed_on}
use Rattle.local_links.proofs.speech.Speech.hand.Goals as goal

pub returns-clause-handed : goal.returns-clause-handed
returns-clause-handed c =
    handed_on c.args.self.now.page c.args.self.now.from c.args.self.now.to c.min-count.result c.copy_from_slice.new.self c.split_at_mut-place.result.1.now
    (c.copy_from_slice.ensures.after ∙ (c.split_at-2.ensures.front ∙ ap (take c.min-count.result) c.split_at.ensures.back)) (search rules) (search rules)
