use Rattle.std.proofs.Common.{rules, refl, sym}
use Rattle.channel_codec.specs.Views.{frame_view}
use Rattle.host_exec.specs.Replies.{source_of}
use Rattle.ghost_model.specs.forms.Catalog.{catalog_bytes}
use Rattle.host_exec.proofs.Answered.{turned_leads}
use Rattle.host_exec.proofs.Silence.{silent}
use Rattle.host_exec.proofs.host.Host.feed.Goals as goal

pub returns-in-Some-clause-answered : goal.returns-in-Some-clause-answered
returns-in-Some-clause-answered c held file stand holds free stands =
    let leads = turned_leads held c.args.self.now.catalog (source_of c.args.self.now.reply file) c.args.self.now.stage c.in-Some.stage (frame_view c.args.frame.now) stand holds.catalog_is (sym c.in-Some.ensures.turned) stands in
    record { answered = leads.answered; answer = leads.answer; stands = leads.stands }

pub returns-in-Some-clause-silent : goal.returns-in-Some-clause-silent
returns-in-Some-clause-silent c file stand stands =
    silent (catalog_bytes c.args.self.now.catalog) (source_of c.args.self.now.reply file) c.args.self.now.reply.rows c.args.self.now.reply.piece.rows c.args.self.now.stage stand c.args.self.now.within stands

pub returns-in_default : goal.returns-in_default
returns-in_default c = record {
  same = search rules;
  kept = λ _. refl;
  farewell = λ e. search rules;
  busy = λ _. refl;
  fewer = λ e. search rules;
  silent = λ file stand stands.
      silent (catalog_bytes c.args.self.now.catalog) (source_of c.args.self.now.reply file) c.args.self.now.reply.rows c.args.self.now.reply.piece.rows c.args.self.now.stage stand c.args.self.now.within stands;
  answered = search rules;
}
