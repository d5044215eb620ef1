use Rattle.std.proofs.Common.{◌∙◌, ◌+◌, ◌<◌, refl, ap, sym, subst, length, arith}
use Rattle.std.proofs.lemmas.List.{length-map}
use Rattle.ghost_model.specs.forms.Runs.{pages_of}
use Rattle.index_files.specs.Files.{items_of, ranks_of}
use Rattle.index_files.specs.Directory.{AreStarts}
use Rattle.index_files.proofs.Frames.{can_as, on_ok, runs_same, stores_as, writes_as}
use Rattle.index_files.proofs.DirectoryRecords.{records_count, records_get, record_width, same_records, can_be_read}
use Rattle.index_files.proofs.writing.write_directory.Goals as goal

pub invariant_of-entries : goal.invariant_of-entries
invariant_of-entries g c =
    let levels = c.args.levels.now in
    let are = subst (λ xs. AreStarts (ranks_of levels) c.args.directory.count (ranks_of xs)) (sym c.deref.ensures.value) c.in-Ok.ensures.starts in
    record {
      readable =
          can_be_read (g.H.Records.records c.args.heads.now) (ranks_of levels) (ranks_of c.deref.result.now) (ranks_of c.args.begins.now)
          c.args.directory.count c.args.directory.width (sym c.requires.entries) are c.requires.begins c.requires.fits
          (λ entry low. omega (arith, c.requires.widths entry low, length-map levels items_of));
    }

pub write_records-requires-clause-widths : goal.write_records-requires-clause-widths
write_records-requires-clause-widths g c = λ i low.
    let levels = c.args.levels.now in
    let heads = g.H.Records.records c.args.heads.now in
    let starts = ranks_of c.deref.result.now in
    let begins = ranks_of c.args.begins.now in
    let are = subst (λ xs. AreStarts (ranks_of levels) c.args.directory.count (ranks_of xs)) (sym c.deref.ensures.value) c.in-Ok.ensures.starts in
    let there : i < length heads = omega (arith, low, records_count heads starts begins) in
    ap length (records_get heads starts begins i there)
    ∙ (record_width heads starts begins i ∙ omega (arith, c.requires.widths i there, are.many, length-map levels items_of))

pub write_records-requires-clause-can : goal.write_records-requires-clause-can
write_records-requires-clause-can g c =
    let count = c.requires.entries ∙ sym (records_count (g.H.Records.records c.args.heads.now) (ranks_of c.deref.result.now) (ranks_of c.args.begins.now)) in
    can_as refl (ap (λ n. pages_of n c.args.directory.width) count) c.requires.can

pub returns-in-Ok-clause-stores : goal.returns-in-Ok-clause-stores
returns-in-Ok-clause-stores g c =
    let levels = c.args.levels.now in
    let heads = g.H.Records.records c.args.heads.now in
    let starts = ranks_of c.deref.result.now in
    let begins = ranks_of c.args.begins.now in
    let are = subst (λ xs. AreStarts (ranks_of levels) c.args.directory.count (ranks_of xs)) (sym c.deref.ensures.value) c.in-Ok.ensures.starts in
    on_ok c.write_records.result
    (λ stores told begin tables lists file levels_are.
    stores_as (runs_same refl (records_count heads starts begins ∙ sym c.requires.entries) refl)
    (same_records c.lists_stand_between.ensures heads (ranks_of levels) starts begins c.args.directory.count begin tables lists file (sym c.requires.entries)
    are c.requires.begins levels_are)
    (stores told))
    c.write_records.ensures.stores

pub returns-in-Ok-clause-writes : goal.returns-in-Ok-clause-writes
returns-in-Ok-clause-writes g c =
    let count = records_count (g.H.Records.records c.args.heads.now) (ranks_of c.deref.result.now) (ranks_of c.args.begins.now) ∙ sym c.requires.entries in
    let pages = ap (λ n. pages_of n c.args.directory.width) count in
    writes_as c.write_records.result refl (ap (λ n. c.args.directory.first + n) pages) pages c.write_records.ensures.writes
