use Rattle.std.proofs.Common.{◌≡◌, ℕ, ◌+◌, ◌++◌, ◌∷◌, [], ◌∙◌, ap, sym, subst, List, length, take, arith}
use Rattle.std.proofs.lemmas.List.{take_more}
use Rattle.ghost_model.specs.forms.Runs.{per_page}
use Rattle.edge_traits.specs.Devices.{Counts}
use Rattle.edge_traits.proofs.DeviceFrames.{changes_wider, counts_more}
use Rattle.flash_pages.specs.Writers.{HasWritten, next_page, fills}
use Rattle.flash_pages.proofs.Fillings.{plain_reach, page_left, pages_at_end, others_more, put_calls_plain, whole_pages, few_held}
use Rattle.flash_pages.proofs.filling.write_run.Goals as goal

pub loop-i-preserved : goal.loop-i-preserved
loop-i-preserved g c =
    let cells = g.C.Records.records c.args.source.now in
    let before = g.F.Flash.state c.args.flash.now in
    let now = g.F.Flash.state c.put.new.flash in
    let was = c.loop-i.invariant in
    let put = c.in_ok-put.ensures in
    let old = c.loop-i.writer in
    let new = c.put.new.self in
    let width = put.same.width ∙ was.width in
    let count : new.count ≡ c.loop-i.i + 1 = omega (arith, put.counted, was.count) in
    let all = whole_pages new c.args.width (c.loop-i.i + 1) width count in
    let few = few_held new c.args.width width in
    record {
      first = put.same.first ∙ was.first;
      width = width;
      erase = put.same.erase ∙ was.erase;
      count = count;
      written =
          let P : List (List ℕ) → Type 0 = λ r. HasWritten g.F.Flash.told now.page c.put.new.buf new r in
          subst P
          (ap (λ x. take c.loop-i.i cells ++ x ∷ []) c.record.ensures ∙ sym (take_more cells c.loop-i.i [] (omega arith)))
          (put.appended (take c.loop-i.i cells) was.written);
      others =
          others_more (fills old) c.args.first old.pages new.pages was.others
          (changes_wider put.others (c.args.first + old.pages) (c.args.first + old.pages + 1)
          (omega (arith, was.first)) (omega (arith, was.first, plain_reach (next_page old) old.erase was.erase)))
          put.unwritten put.pages;
      exact =
          let P : ℕ → Type 0 = λ n. Counts n before.calls now.calls in
          subst P
          (ap (λ k. old.pages + k) (put_calls_plain old was.erase) ∙ sym put.pages)
          (counts_more was.exact put.exact);
      deep_reads = put.deep_reads ∙ was.deep_reads;
      faults = put.cause.other ∙ was.faults;
      room = λ less. page_left new.pages new.held (per_page c.args.width) (length cells) (omega (arith, few)) (omega (arith, all, less));
      last = λ end. pages_at_end new.pages new.held (per_page c.args.width) (length cells) few (all ∙ end);
    }
