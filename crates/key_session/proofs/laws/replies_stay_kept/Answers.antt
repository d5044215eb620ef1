use Rattle.key_session.proofs.KeptLaws.{stay_kept}
use Rattle.key_session.proofs.laws.replies_stay_kept.Goals as goal

pub returns : goal.returns
returns c = record { kept = stay_kept c.the_spool_is_spared.ensures.stays c.the_spool_is_spared.ensures.pushed c.replies_stay_readable.ensures.readable c.replies_are_kept.ensures.kept }
