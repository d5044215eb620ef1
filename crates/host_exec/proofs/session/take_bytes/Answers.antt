use Rattle.std.proofs.Common.{◌≡◌, ◌+◌, ◌++◌, rules, ap, sym, subst, ◌∙◌, length, take, append_assoc, length-append, arith, false}
use Rattle.channel_codec.specs.Views.{frame_view, got_view}
use Rattle.edge_traits.proofs.CountLemmas.{counting_more}
use Rattle.host_exec.specs.Sessions.{IsWhole}
use Rattle.host_exec.proofs.Heard.{came_as, came_more, lost_more, front_of, whole_header, whole_frame, found_not_short, bad_not_short}
use Rattle.host_exec.proofs.session.take_bytes.Goals as goal

pub returns-then-not-fill_whole-2-clause-came : goal.returns-then-not-fill_whole-2-clause-came
returns-then-not-fill_whole-2-clause-came g c =
    lost_more _ _ _ c.fill_whole.new.buf (λ one other first second. counting_more _ _ _ _ _ _ (λ a b x y. g.met.L.Link.joins _ _ _ a b x y) one other first second) c.if-not-fill_whole.ensures.came c.if-not-fill_whole-2.ensures.came

pub returns-else-not-fill_whole-2-clause-whole : goal.returns-else-not-fill_whole-2-clause-whole
returns-else-not-fill_whole-2-clause-whole g c =
    let header = c.fill_whole.new.buf in
    let payload = c.fill_whole-in-Short.new.buf in
    let later = c.split_at_mut-payload.result.1.now in
    let one : length header ≡ 8 = search rules in
    let other : length payload ≡ c.in-Short.missing = search rules in
    let front : take (8 + c.in-Short.missing) (header ++ (payload ++ later)) ≡ header ++ payload =
    ap (take (8 + c.in-Short.missing)) (sym (append_assoc header payload later))
    ∙ front_of (8 + c.in-Short.missing) (header ++ payload) later (length-append header payload ∙ (let e : length header + length payload ≡ 8 + c.in-Short.missing = omega (arith, one, other) in e)) in
    subst IsWhole (sym front)
    (whole_frame header payload c.in-Short.missing one other c.are_bytes.ensures c.are_bytes-in-Short.ensures (sym (c.frame_of.ensures) ∙ ap got_view c.in-Short.is))

pub returns-else-not-fill_whole-2-clause-came : goal.returns-else-not-fill_whole-2-clause-came
returns-else-not-fill_whole-2-clause-came g c =
    let header = c.fill_whole.new.buf in
    let payload = c.fill_whole-in-Short.new.buf in
    let later = c.split_at_mut-payload.result.1.now in
    let one : length header ≡ 8 = search rules in
    let other : length payload ≡ c.in-Short.missing = search rules in
    let front : take (8 + c.in-Short.missing) (header ++ (payload ++ later)) ≡ header ++ payload =
    ap (take (8 + c.in-Short.missing)) (sym (append_assoc header payload later))
    ∙ front_of (8 + c.in-Short.missing) (header ++ payload) later (length-append header payload ∙ (let e : length header + length payload ≡ 8 + c.in-Short.missing = omega (arith, one, other) in e)) in
    came_as _ _ _ false (sym front)
    (came_more _ _ _ header payload false (λ one other first second. counting_more _ _ _ _ _ _ (λ a b x y. g.met.L.Link.joins _ _ _ a b x y) one other first second) c.if-not-fill_whole.ensures.came c.if-not-fill_whole-2.ensures.came)

pub returns-in-Frame : goal.returns-in-Frame
returns-in-Frame g c =
    let header = c.fill_whole.new.buf in
    let one : length header ≡ 8 = search rules in
    let front : take 8 (header ++ c.split_at_mut-header.result.1.now) ≡ header = front_of 8 header c.split_at_mut-header.result.1.now one in
    record {
      short = omega arith;
      long = omega arith;
      whole = subst IsWhole (sym front)
          (whole_header header one c.are_bytes.ensures (found_not_short header (frame_view c.in-Frame.field-0) (sym (c.frame_of.ensures) ∙ ap got_view c.in-Frame.is)));
      came = came_as _ _ _ false (sym front) c.if-not-fill_whole.ensures.came;
    }

pub returns-in-Bad : goal.returns-in-Bad
returns-in-Bad g c =
    let header = c.fill_whole.new.buf in
    let one : length header ≡ 8 = search rules in
    let front : take 8 (header ++ c.split_at_mut-header.result.1.now) ≡ header = front_of 8 header c.split_at_mut-header.result.1.now one in
    record {
      short = omega arith;
      long = omega arith;
      whole = subst IsWhole (sym front)
          (whole_header header one c.are_bytes.ensures (bad_not_short header c.in-Bad.field-0 (sym (c.frame_of.ensures) ∙ ap got_view c.in-Bad.is)));
      came = came_as _ _ _ false (sym front) c.if-not-fill_whole.ensures.came;
    }
