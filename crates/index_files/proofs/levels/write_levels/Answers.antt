use Rattle.std.proofs.Common.{◌≡◌, ◌∙◌, ◌+◌, ◌≤◌, refl, ap, sym, subst, length, Ok, Err, true, rules, arith}
use Rattle.ghost_model.specs.forms.Runs.{pages_of}
use Rattle.ghost_model.specs.forms.Gaps.{StoresBytes, level_bytes}
use Rattle.index_lists.specs.Lists.{lists_of}
use Rattle.index_files.specs.Directory.{AreBeginsOf}
use Rattle.index_files.specs.Files.{ranks_of, counts_of, level_pages, level_written, written_pages}
use Rattle.index_files.specs.Levels.{level_run}
use Rattle.index_files.specs.Writing.{Writes}
use Rattle.index_files.proofs.Frames.{written, can_as}
use Rattle.index_files.proofs.Starts.{BeginsBefore, begins_one_more, ranks_at}
use Rattle.index_files.proofs.LevelFiles.{LevelsWritten, can_fill_level, levels_more, levels_fail, next_fits}
use Rattle.index_files.proofs.levels.write_levels.Goals as goal

pub write_level-requires-clause-can : goal.write_level-requires-clause-can
write_level-requires-clause-can g c =
    can_as refl (ap (λ rs. pages_of (length rs) 4) (sym c.deref.ensures.value))
    (can_fill_level c.args.levels.now c.args.entries c.args.begin c.loop-ranks.first c.loop-ranks.ranks-index c.ranks-item.result c.ranks-item.is
    c.loop-ranks-test.true c.loop-ranks.invariant.levels c.requires.can)

pub returns-in_err-write_level-clause-writes : goal.returns-in_err-write_level-clause-writes
returns-in_err-write_level-clause-writes g c =
    let levels = c.args.levels.now in
    let entries = c.args.entries in
    let first = c.loop-ranks.first in
    let e = c.in_err-write_level.field-0.0 in
    let same : c.from_residual-in_err-write_level.result ≡ Err e = search rules in
    let all = level_pages (counts_of (ranks_of levels)) in
    let middle = g.F.Flash.state c.loop-ranks.flash in
    let now = g.F.Flash.state c.write_level.new.flash in
    let step =
    subst (λ rs. Writes first (first + pages_of (length rs) 4) (level_written entries rs) middle now (Err e)) c.deref.ensures.value
    c.in_err-write_level.ensures.writes in
    subst (λ r. Writes c.args.begin (c.args.begin + all) (written_pages (ranks_of levels) entries) (g.F.Flash.state c.args.flash.now) now r) (sym same)
    (levels_fail levels entries c.args.begin first c.loop-ranks.ranks-index c.ranks-item.result c.ranks-item.is c.loop-ranks-test.true
    c.loop-ranks.invariant.levels e step)

pub overflow_add-first : goal.overflow_add-first
overflow_add-first g c =
    let rows : c.len.result ≡ length c.ranks-item.result.items = omega (arith, c.len.ensures, c.ranks-item.result.ok) in
    let pages = c.pages_of_level.ensures.pages ∙ ap (λ n. pages_of n 4) rows in
    omega (
      arith,
      pages,
      next_fits c.args.levels.now c.args.entries c.args.begin c.loop-ranks.first c.loop-ranks.ranks-index c.ranks-item.result c.ranks-item.is
          c.loop-ranks-test.true c.loop-ranks.invariant.levels c.requires.can,
    )

pub loop-ranks-preserved : goal.loop-ranks-preserved
loop-ranks-preserved g c =
    let low = c.loop-ranks-test.true in
    let ranks = c.ranks-item.result in
    let done = c.loop-ranks.ranks-index in
    let first = c.loop-ranks.first in
    let levels = c.args.levels.now in
    let entries = c.args.entries in
    let was = c.loop-ranks.invariant in
    let one = c.in_ok-write_level.field-0 in
    let wrote = c.in_ok-write_level.ensures in
    let rows : c.len.result ≡ length ranks.items = omega (arith, c.len.ensures, ranks.ok) in
    let pages = c.pages_of_level.ensures.pages ∙ ap (λ n. pages_of n 4) rows in
    let before = g.F.Flash.state c.args.flash.now in
    let middle = g.F.Flash.state c.loop-ranks.flash in
    let now = g.F.Flash.state c.write_level.new.flash in
    let value = c.deref.ensures.value in
    let step =
    subst (λ rs. Writes first (first + pages_of (length rs) 4) (level_written entries rs) middle now (Ok one)) value wrote.writes in
    let stores =
    subst (λ rs. g.F.Flash.told ≡ true → StoresBytes now.page (level_run first (length rs)) (level_bytes (lists_of rs entries))) value wrote.stores in
    let fits = subst (λ rs. level_written entries rs ≤ pages_of (length rs) 4) value wrote.fits in
    let begins = subst (λ rs. AreBeginsOf (lists_of rs entries) entries one.items) (value ∙ sym (ranks_at levels done ranks c.ranks-item.is low)) wrote.begins in
    record {
      levels =
          subst (λ n. LevelsWritten g.F.Flash.told (ranks_of levels) entries c.args.begin (first + n) before now (done + 1)) (sym pages)
          (levels_more levels entries c.args.begin first done ranks c.ranks-item.is low was.levels (written step) fits stores);
      begins =
          subst (λ xs. BeginsBefore (ranks_of levels) entries (done + 1) (ranks_of xs)) (sym c.push_reserved.ensures.items)
          (begins_one_more (ranks_of levels) entries done c.loop-ranks.begins.items one was.begins begins);
      taken = omega (arith, c.push_reserved.ensures.len, was.taken);
      room = c.push_reserved.ensures.capacity ∙ was.room;
      order = search rules;
    }
