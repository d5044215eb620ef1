use Rattle.std.proofs.Common.{ap, subst, ◌∙◌, List, ℕ}
use Rattle.ghost_model.specs.forms.Catalog.{catalog_bytes}
use Rattle.ghost_model.specs.core.Host.{answer_to}
use Rattle.channel_codec.specs.Views.{frame_view}
use Rattle.host_exec.specs.Replies.{source_of}
use Rattle.host_exec.specs.Taken.{TakesAsk}
use Rattle.host_exec.proofs.Answered.{listening_at, no_ask, taken_leads}
use Rattle.host_exec.proofs.host.Host.hear_ask.Goals as goal

pub returns-in-None-clause-answered : goal.returns-in-None-clause-answered
returns-in-None-clause-answered c held file stand holds stands =
    let at = listening_at (catalog_bytes c.args.self.now.catalog) (source_of c.args.self.now.reply file) c.args.self.now.stage c.args.next stand c.requires.stage stands in
    ap (λ f. answer_to held stand (frame_view f)) c.in-Ask.is
    ∙ no_ask held c.args.self.now.catalog c.in-Ask.serial c.args.next c.in-Ask.payload.now stand holds.catalog_is c.in-None.ensures.none at

pub returns-in-Some-clause-answered : goal.returns-in-Some-clause-answered
returns-in-Some-clause-answered c held file stand holds stands =
    let at = listening_at (catalog_bytes c.args.self.now.catalog) (source_of c.args.self.now.reply file) c.args.self.now.stage c.args.next stand c.requires.stage stands in
    let taken = subst (λ (starts : List ℕ). TakesAsk c.args.self.now.catalog starts c.in-Ask.payload.now c.in-Some.reply) c.deref.ensures.0 c.in-Some.ensures.taken in
    let leads = taken_leads held c.args.self.now.catalog c.args.self.now.starts.items file c.in-Ask.payload.now c.in-Some.reply c.in-Ask.serial c.args.next stand holds taken c.if-serial-next.false at in
    record {
      answered = leads.answered;
      answer = ap (λ f. answer_to held stand (frame_view f)) c.in-Ask.is ∙ leads.answer;
      stands = leads.stands;
    }
