use Rattle.std.proofs.Common.{◌≡◌, ap, map, refl}
use Rattle.spj_parse.specs.Views.{field_of}
use Rattle.key_inputs.specs.Outside.{outside}
use Rattle.key_words.specs.Views.{migrate_view}
use Rattle.key_migrate.specs.Items.{migrated}
use Rattle.key_migrate.proofs.Endings.{unread}
use Rattle.key_migrate.proofs.Readings.{Laws, nothing_made, rows_ready, unprepared_ends}
use Rattle.key_migrate.proofs.Sources.{renewed_catalog, whole_kept}
use Rattle.key_migrate.proofs.reading.read_old.Goals as goal

pub returns-in-Ok-read_parts-clause-rows : goal.returns-in-Ok-read_parts-clause-rows
returns-in-Ok-read_parts-clause-rows g c =
    let words = migrate_view c.args.words.now in
    let cat = c.in-Ok.cat in
    let parts = c.in-Ok-read_parts.parts in
    let laws : Laws = record {
      one = c.catalogs_have_one_spelling.ensures;
      split = c.split_is_rejoined.ensures;
      goes = c.public_parts_go_with_catalogs.ensures;
      widened = c.widened_schemas_keep_databases.ensures;
    } in
    let now : c.renewed-cat.result ≡ migrated cat words.null =
    renewed_catalog cat c.with_columns.result c.renewed-cat.result words.null (map field_of parts.fields.items) (map field_of c.deref.result.now)
    c.in-Ok-read_parts.ensures.parts.taken (ap (map field_of) c.deref.ensures.0) c.with_columns.ensures.catalog c.renewed-cat.ensures in
    rows_ready laws g.F.Flash.told words (g.D.Depot.contents c.args.depot.now) (g.F.Flash.state c.args.flash.now) (g.F.Flash.state c.open_key.new.flash) cat c.renewed-cat.result parts
    c.prepare.result c.legal_parts_rejoin.ensures.rejoin c.in-Ok.ensures.key c.in-Ok-read_parts.ensures.parts now c.prepare.ensures.prepared

pub returns-in-Ok-read_parts-clause-ends : goal.returns-in-Ok-read_parts-clause-ends
returns-in-Ok-read_parts-clause-ends g c = λ written sink_faults.
    let words = migrate_view c.args.words.now in
    let cat = c.in-Ok.cat in
    let parts = c.in-Ok-read_parts.parts in
    let opened = g.F.Flash.state c.open_key.new.flash in
    let laws : Laws = record {
      one = c.catalogs_have_one_spelling.ensures;
      split = c.split_is_rejoined.ensures;
      goes = c.public_parts_go_with_catalogs.ensures;
      widened = c.widened_schemas_keep_databases.ensures;
    } in
    let now : c.renewed-cat.result ≡ migrated cat words.null =
    renewed_catalog cat c.with_columns.result c.renewed-cat.result words.null (map field_of parts.fields.items) (map field_of c.deref.result.now)
    c.in-Ok-read_parts.ensures.parts.taken (ap (map field_of) c.deref.ensures.0) c.with_columns.ensures.catalog c.renewed-cat.ensures in
    let before = outside (g.D.Depot.contents c.args.depot.now) (g.D.Depot.faults c.args.depot.now) (g.D.Depot.append_faults c.args.depot.now) (g.F.Flash.state c.args.flash.now) written sink_faults in
    let after = outside (g.D.Depot.contents c.read_parts.new.depot) (g.D.Depot.faults c.read_parts.new.depot) (g.D.Depot.append_faults c.read_parts.new.depot) (g.F.Flash.state c.read_parts.new.flash) written sink_faults in
    unprepared_ends laws g.F.Flash.told words before after opened cat c.renewed-cat.result parts c.prepare.result c.legal_parts_rejoin.ensures.rejoin c.in-Ok.ensures.key
    c.in-Ok-read_parts.ensures.parts now
    (nothing_made g.F.Flash.told words before after opened c.in-Ok.ensures.name c.in-Ok.ensures.kept c.in-Ok-read_parts.ensures.kept c.in-Ok-read_parts.ensures.same refl)
    c.prepare.ensures.told

pub returns-in-Err-read_parts-clause-ends : goal.returns-in-Err-read_parts-clause-ends
returns-in-Err-read_parts-clause-ends g c = λ written sink_faults.
    let words = migrate_view c.args.words.now in
    let opened = g.F.Flash.state c.open_key.new.flash in
    let before = outside (g.D.Depot.contents c.args.depot.now) (g.D.Depot.faults c.args.depot.now) (g.D.Depot.append_faults c.args.depot.now) (g.F.Flash.state c.args.flash.now) written sink_faults in
    let after = outside (g.D.Depot.contents c.read_parts.new.depot) (g.D.Depot.faults c.read_parts.new.depot) (g.D.Depot.append_faults c.read_parts.new.depot) (g.F.Flash.state c.read_parts.new.flash) written sink_faults in
    unread g.F.Flash.told words before after c.in-Ok.cat opened.calls c.in-Err-read_parts.failure
    (nothing_made g.F.Flash.told words before after opened c.in-Ok.ensures.name c.in-Ok.ensures.kept c.in-Err-read_parts.ensures.kept c.in-Err-read_parts.ensures.same refl)
    c.in-Ok.ensures.calls_stay (whole_kept c.in-Ok.ensures.key c.in-Err-read_parts.ensures.kept) c.in-Err-read_parts.ensures.told
