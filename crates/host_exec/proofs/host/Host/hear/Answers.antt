use Rattle.std.proofs.Common.{◌≡◌, refl, ap, sym, ◌∙◌}
use Rattle.ghost_model.specs.forms.Frames.{Found, got_of}
use Rattle.channel_codec.specs.Views.{frame_view, got_view}
use Rattle.host_exec.proofs.Heard.{was_heard, was_refused, bad_begins}
use Rattle.host_exec.proofs.Going.{rule_broken}
use Rattle.host_exec.proofs.host.Host.hear.Goals as goal

pub returns-then-feed-clause-cut : goal.returns-then-feed-clause-cut
returns-then-feed-clause-cut c whole =
    let got : got_of c.args.bytes.now ≡ Found (frame_view c.in-Frame.frame) = sym (c.frame_of.ensures) ∙ ap got_view c.in-Frame.is in
    let exact = whole.exact (frame_view c.in-Frame.frame) got in
    record {
      frame = frame_view c.in-Frame.frame;
      fits = exact.0;
      spelled = exact.1;
      last = λ over. c.if-feed.ensures.farewell refl over;
    }

pub returns-then-feed-clause-heard : goal.returns-then-feed-clause-heard
returns-then-feed-clause-heard c whole held file stand holds stands =
    let got : got_of c.args.bytes.now ≡ Found (frame_view c.in-Frame.frame) = sym (c.frame_of.ensures) ∙ ap got_view c.in-Frame.is in
    was_heard held file stand c.args.bytes.now (frame_view c.in-Frame.frame) c.feed.new.self whole got
    (c.if-feed.ensures.answered held file stand holds (c.feed.ensures.silent file stand stands) stands)

pub returns-else-feed-clause-heard : goal.returns-else-feed-clause-heard
returns-else-feed-clause-heard c whole held file stand holds stands =
    let got : got_of c.args.bytes.now ≡ Found (frame_view c.in-Frame.frame) = sym (c.frame_of.ensures) ∙ ap got_view c.in-Frame.is in
    was_refused held stand c.args.bytes.now (frame_view c.in-Frame.frame) c.kind_in.result whole got c.kind_in.ensures
    (c.if-feed.ensures.answered held file stand holds (c.feed.ensures.silent file stand stands) stands)

pub returns-else-feed-clause-named : goal.returns-else-feed-clause-named
returns-else-feed-clause-named c = record { long = c.requires.long; first = sym c.kind_in.ensures }

pub returns-in-Bad-clause-named : goal.returns-in-Bad-clause-named
returns-in-Bad-clause-named c = record { long = c.requires.long; first = bad_begins c.args.bytes.now c.in-Bad.kind (sym (c.frame_of.ensures) ∙ ap got_view c.in-Bad.is) }

pub returns-in-Bad-clause-heard : goal.returns-in-Bad-clause-heard
returns-in-Bad-clause-heard c whole held file stand holds stands = rule_broken held stand c.args.bytes.now c.in-Bad.kind (sym (c.frame_of.ensures) ∙ ap got_view c.in-Bad.is)
