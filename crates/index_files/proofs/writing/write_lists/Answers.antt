use Rattle.std.proofs.Common.{◌<◌, ap, sym, length, arith}
use Rattle.std.proofs.lemmas.List.{length-map}
use Rattle.ghost_model.specs.forms.Gaps.{level_bytes}
use Rattle.index_files.specs.Files.{counts_of, items_of, level_file, ranks_of}
use Rattle.index_files.proofs.Frames.{on_ok}
use Rattle.index_files.proofs.LevelFiles.{bytes_above, bytes_as}
use Rattle.index_files.proofs.writing.write_lists.Goals as goal

pub returns-clause-holds : goal.returns-clause-holds
returns-clause-holds g c =
    let levels = c.args.levels.now in
    on_ok c.write_directory.result
    (λ stores told tables lists file are. record {
      places = stores told c.args.begin tables lists file are;
      levels = λ level low.
          let there : level < length (ranks_of levels) = omega (arith, low, are.many) in
          bytes_as (sym (are.files_are level there)) (ap (λ ls. level_bytes ls) (are.lists_are level there))
          (bytes_above (level_file c.args.begin (counts_of (ranks_of levels)) level) _ c.write_directory.ensures.writes.others
          (omega (arith, c.requires.order)) (c.in_ok-begins.ensures.stores told level (omega (arith, there, length-map levels items_of))));
    })
    c.write_directory.ensures.stores
