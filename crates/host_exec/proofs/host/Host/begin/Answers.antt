use Rattle.std.proofs.Common.{MatchOption, subst}
use Rattle.host_exec.specs.Checked.{IsImage, IsNoImage}
use Rattle.host_exec.proofs.host.Host.begin.Goals as goal

pub returns-in-Ok-None-clause-bad : goal.returns-in-Ok-None-clause-bad
returns-in-Ok-None-clause-bad g c e file is =
    subst (λ o. MatchOption o (IsNoImage file) (λ opened. IsImage opened.catalog file)) c.in-Ok-None.field-0-is (c.in-Ok-None.ensures.opened file is)

pub returns-in-Ok-clause-image : goal.returns-in-Ok-clause-image
returns-in-Ok-clause-image g c file is =
    subst (λ o. MatchOption o (IsNoImage file) (λ opened. IsImage opened.catalog file)) c.in-Ok-Some.field-0-is (c.in-Ok-Some.ensures.opened file is)

pub returns-in-Err-from_str-clause-memory : goal.returns-in-Err-from_str-clause-memory
returns-in-Err-from_str-clause-memory g c e file is none =
    let image = subst (λ o. MatchOption o (IsNoImage file) (λ opened. IsImage opened.catalog file)) c.in-Ok-Some.field-0-is (c.in-Ok-Some.ensures.opened file is) in
    none c.in-Ok-Some.opened.catalog image.public image.current image.spells
