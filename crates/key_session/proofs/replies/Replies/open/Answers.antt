use Rattle.std.proofs.Common.{sym, subst, refl}
use Rattle.ghost_model.specs.core.Schema.{Schema}
use Rattle.key_session.specs.Kept.{IsAskOf}
use Rattle.key_session.proofs.KeptLaws.{opened}
use Rattle.key_session.proofs.RowsHeard.{is_awaited}
use Rattle.key_session.proofs.replies.Replies.open.Goals as goal

pub returns-then-not-self-clause-kept : goal.returns-then-not-self-clause-kept
returns-then-not-self-clause-kept c = λ told device pool catalog heard asked low top is_schema awaited its_text its_ask up near fits k.
    let is = is_awaited catalog heard.ended heard.rows heard.awaits asked fits awaited in
    opened told device pool catalog heard asked low top c.args.text c.args.self.now _ c.if-not-self.true refl refl awaited its_text up near fits
    (subst (λ (s : Schema). IsAskOf s asked c.of-self.result) (sym is_schema) (c.of-self.ensures.ask asked is.1.numbered its_text its_ask)) k
