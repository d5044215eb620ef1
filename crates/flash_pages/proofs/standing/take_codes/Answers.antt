use Rattle.std.proofs.Common.{◌∙◌}
use Rattle.flash_pages.proofs.CodeSteps.{takes_more, takes_trans}
use Rattle.flash_pages.proofs.standing.take_codes.Goals as goal

pub loop-stand-preserved : goal.loop-stand-preserved
loop-stand-preserved c =
    let short = c.take_short_codes-stand.ensures in
    let so_far = takes_trans _ _ _ _ _ _ _ c.loop-stand.invariant c.if-stand-page.true short.takes in
    takes_more _ _ _ _ _ _ _ so_far (short.same_page ∙ c.if-stand-page.true) c.if-stand-count.false c.in-Some.ensures.takes
