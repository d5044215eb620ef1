use Rattle.std.proofs.Common.{◌≡◌, ◌+◌, ◌∙◌, ap, sym, subst, refl, Err, length, arith, rules}
use Rattle.ghost_model.specs.forms.Runs.{Run}
use Rattle.ghost_model.specs.laws.LayoutSums as sums
use Rattle.ghost_model.specs.laws.WorkLaws.{index_written}
use Rattle.flash_build.specs.Building.{Wrote}
use Rattle.flash_pages.proofs.RunFrames.{can_fill_part}
use Rattle.flash_build.proofs.Writes.{on_ok, written, written_as, wrote_after, wrote_as, fails, can_as, can_fill_rest}
use Rattle.flash_build.proofs.ValueEntries as entries
use Rattle.flash_build.proofs.indexes.write_whole.Goals as goal

pub write_number-requires : goal.write_number-requires
write_number-requires g c =
    let cat = c.args.laid.now in
    let laid = c.layout_laws.ensures.layout in
    let first = ap (λ (r : Run). r.first) c.index_header-header.ensures.run ∙ laid.sums.index_header c.args.table c.args.column c.requires.hidden in
    let whole = entries.pages_whole cat c.args.hidden.now c.args.table c.args.column laid c.requires.hidden c.args.ranking.ranks.items c.args.ranking.shown.items c.requires.ranks c.requires.few in
    record { can = can_as (sym first) refl (can_fill_part c.requires.can (sums.index_begin cat c.args.table c.args.column) 1 (omega arith) (omega (arith, whole))) }

pub write_ranked-requires-clause-can : goal.write_ranked-requires-clause-can
write_ranked-requires-clause-can g c =
    let cat = c.args.laid.now in
    let laid = c.layout_laws.ensures.layout in
    let first = ap (λ (r : Run). r.first) c.index_header-header.ensures.run ∙ laid.sums.index_header c.args.table c.args.column c.requires.hidden in
    let whole = entries.pages_whole cat c.args.hidden.now c.args.table c.args.column laid c.requires.hidden c.args.ranking.ranks.items c.args.ranking.shown.items c.requires.ranks c.requires.few in
    can_fill_rest c.requires.can c.in_ok-write_number.ensures.wrote.others (omega (arith, first)) (omega arith) (omega (arith, whole))

pub returns-in_err-write_number-clause-wrote : goal.returns-in_err-write_number-clause-wrote
returns-in_err-write_number-clause-wrote g c =
    let cat = c.args.laid.now in
    let table = c.args.table in
    let column = c.args.column in
    let laid = c.layout_laws.ensures.layout in
    let e = c.in_err-write_number.field-0.0 in
    let same : c.from_residual.result ≡ Err e = search rules in
    let first = ap (λ (r : Run). r.first) c.index_header-header.ensures.run ∙ laid.sums.index_header table column c.requires.hidden in
    let whole = entries.pages_whole cat c.args.hidden.now table column laid c.requires.hidden c.args.ranking.ranks.items c.args.ranking.shown.items c.requires.ranks c.requires.few in
    let all = entries.written_is cat c.args.hidden.now table column laid c.requires.hidden c.args.ranking.ranks.items c.args.ranking.shown.items c.requires.ranks c.requires.few c.values_are_counted.ensures in
    subst (λ r. Wrote (sums.index_begin cat table column) (sums.index_begin cat table column + sums.index_pages cat table column) (index_written cat c.args.hidden.now table column)
    (g.F.Flash.state c.args.flash.now) (g.F.Flash.state c.write_number.new.flash) r) (sym same)
    (fails e c.in_err-write_number.ensures.wrote (sums.index_begin cat table column) (sums.index_begin cat table column + sums.index_pages cat table column) (index_written cat c.args.hidden.now table column)
    (omega (arith, first)) (omega (arith, first, whole)) (omega (arith, all)))

pub returns-clause-holds : goal.returns-clause-holds
returns-clause-holds g c =
    let cat = c.args.laid.now in
    let laid = c.layout_laws.ensures.layout in
    let number : c.len-values.result ≡ length c.args.ranking.shown.items = c.len-values.ensures ∙ c.args.ranking.shown.ok.0 in
    on_ok c.write_ranked.result
    (λ stand told.
    entries.index_holds cat c.args.hidden.now c.args.table c.args.column laid c.requires.hidden c.args.ranking.ranks.items c.args.ranking.shown.items c.requires.ranks c.requires.few
    _ c.index_header-header.ensures.run c.len-values.result number (c.in_ok-write_number.ensures.stores told) c.write_ranked.ensures.wrote.others (stand told))
    c.write_ranked.ensures.holds

pub returns-clause-wrote : goal.returns-clause-wrote
returns-clause-wrote g c =
    let cat = c.args.laid.now in
    let table = c.args.table in
    let column = c.args.column in
    let laid = c.layout_laws.ensures.layout in
    let first = ap (λ (r : Run). r.first) c.index_header-header.ensures.run ∙ laid.sums.index_header table column c.requires.hidden in
    let all = entries.written_is cat c.args.hidden.now table column laid c.requires.hidden c.args.ranking.ranks.items c.args.ranking.shown.items c.requires.ranks c.requires.few c.values_are_counted.ensures in
    let head = written_as first (ap (λ n. n + 1) first) refl (written c.in_ok-write_number.ensures.wrote) in
    let whole = entries.pages_whole cat c.args.hidden.now table column laid c.requires.hidden c.args.ranking.ranks.items c.args.ranking.shown.items c.requires.ranks c.requires.few in
    wrote_as c.write_ranked.result refl refl all
    (wrote_after c.write_ranked.result (omega arith) (omega (arith, whole)) head c.write_ranked.ensures.wrote)
