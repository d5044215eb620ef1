use Rattle.std.proofs.Common.{◌≡◌, ap, sym, ◌∙◌}
use Rattle.ghost_model.specs.forms.Frames.{Found, got_of}
use Rattle.channel_codec.specs.Views.{frame_view, got_view}
use Rattle.local_links.proofs.Desks.{heard_frame, heard_nothing, short_not_found, bad_not_found}
use Rattle.local_links.proofs.host_link.HostLink.hear.Goals as goal

pub returns-in-Frame-clause-heard : goal.returns-in-Frame-clause-heard
returns-in-Frame-clause-heard g c held desk at free =
    let got : got_of c.args.bytes.now ≡ Found (frame_view c.in-Frame.frame) = sym (c.frame_of.ensures) ∙ ap got_view c.in-Frame.is in
    let heard = heard_frame held (g.D.Depot.contents c.args.self.now.depot) c.args.self.now.host c.feed-taken.new.self c.args.self.now.speech desk c.args.bytes.now (frame_view c.in-Frame.frame)
    c.feed-taken.result got c.feed-taken.ensures.same c.feed-taken.ensures.kept
    (λ file stand holds stands. c.feed-taken.ensures.answered held file stand holds (c.feed-taken.ensures.silent file stand stands) stands) free at in
    record { desk = heard.desk; serves = heard.hears; stands = heard.owes }

pub returns-in-Short-clause-heard : goal.returns-in-Short-clause-heard
returns-in-Short-clause-heard g c held desk at free =
    let heard = heard_nothing held (g.D.Depot.contents c.args.self.now.depot) c.args.self.now.host c.args.self.now.speech desk c.args.bytes.now
    (short_not_found c.args.bytes.now c.in-Short.field-0 (sym (c.frame_of.ensures) ∙ ap got_view c.in-Short.is)) at in
    record { desk = heard.desk; serves = heard.hears; stands = heard.owes }

pub returns-in-Bad-clause-heard : goal.returns-in-Bad-clause-heard
returns-in-Bad-clause-heard g c held desk at free =
    let heard = heard_nothing held (g.D.Depot.contents c.args.self.now.depot) c.args.self.now.host c.args.self.now.speech desk c.args.bytes.now
    (bad_not_found c.args.bytes.now c.in-Bad.field-0 (sym (c.frame_of.ensures) ∙ ap got_view c.in-Bad.is)) at in
    record { desk = heard.desk; serves = heard.hears; stands = heard.owes }
