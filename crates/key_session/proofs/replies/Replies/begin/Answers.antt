use Rattle.std.proofs.Common.{false, refl}
use Rattle.key_session.specs.Kept.{with_lease}
use Rattle.key_session.proofs.KeptLaws.{first_kept, spooling_with, out_somewhere}
use Rattle.key_session.proofs.replies.Replies.begin.Goals as goal

pub returns-clause-kept : goal.returns-clause-kept
returns-clause-kept c = λ told device pool lease need small out.
    let some = out_somewhere _ in
    first_kept c.texts_without_rows.ensures.none told device pool c.args.cat.now (with_lease lease (record { spool = c.begin.result; hand = c.none.result; is_open = false })) small
    (spooling_with device some.0 pool c.begin.result lease c.begin.ensures.none (c.begin.ensures.ready device some.0 need small some.1) out) c.begin.ensures.areas c.begin.ensures.none
    c.begin.ensures.even c.begin.ensures.odd refl
