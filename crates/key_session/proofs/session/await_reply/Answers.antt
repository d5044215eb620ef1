use Rattle.std.proofs.Common.{◌∙◌, refl, sym}
use Rattle.ghost_model.specs.core.Moves.{taken}
use Rattle.ghost_model.specs.core.NextMove.{heard}
use Rattle.key_session.proofs.Attending.{same_asked, begun_reply, none_asked}
use Rattle.key_session.proofs.session.await_reply.Goals as goal

pub returns-in-Some-clause-kept : goal.returns-in-Some-clause-kept
returns-in-Some-clause-kept c = λ told device pool asks journal low top after fits within kept.
    let awaits = (heard c.args.cat.now asks (taken journal)).awaits in
    let awaited = sym (same_asked awaits) ∙ sym (c.in-Some.ensures.awaited c.args.cat.now asks journal after) in
    let is = within _ awaited in
    begun_reply told device pool c.args.cat.now (heard c.args.cat.now asks (taken journal)) low top c.args.replies.now c.open.new.self _ awaited c.open.ensures.open
    (c.open.ensures.at told device pool c.args.cat.now (heard c.args.cat.now asks (taken journal)) _ low top awaited refl kept)
    (c.open.ensures.kept told device pool c.args.cat.now (heard c.args.cat.now asks (taken journal)) _ low top (sym c.schema.ensures.value) awaited refl refl is.least is.near fits kept)

pub returns-in-None-clause-kept : goal.returns-in-None-clause-kept
returns-in-None-clause-kept c = λ told device pool asks journal low top after fits within kept.
    none_asked told device pool c.args.cat.now (heard c.args.cat.now asks (taken journal)) low top c.args.replies.now
    (sym (same_asked (heard c.args.cat.now asks (taken journal)).awaits) ∙ sym (c.in-None.ensures.awaited c.args.cat.now asks journal after)) kept
