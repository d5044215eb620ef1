use Rattle.std.proofs.Common.{◌+◌, ◌∙◌, ap, sym, subst, length, map, arith}
use Rattle.std.proofs.lemmas.List.{length-map}
use Rattle.ghost_model.specs.forms.Runs.{Run, pages_of, run_pages}
use Rattle.ghost_model.specs.forms.Layout as layout
use Rattle.flash_build.specs.Levels.{AreLed, items_of, numbers_records}
use Rattle.flash_build.proofs.Writes.{wrote_as, can_as, stores_as, on_ok, runs_same}
use Rattle.flash_build.proofs.TableFiles.{pages_of_subtree}
use Rattle.flash_build.proofs.Leading.{led_many, led_long, led_records}
use Rattle.flash_build.proofs.NumberRecords.{records_count, records_get, record_width}
use Rattle.flash_build.proofs.subtrees.write_some.Goals as goal

pub invariant_of-source : goal.invariant_of-source
invariant_of-source g c =
    let cat = c.args.laid.now in
    let columns = map items_of c.deref.result.now in
    let led : AreLed cat c.args.hidden.now c.args.table (layout.descendants_of cat.schema c.args.table) columns =
    subst (λ xs. AreLed cat c.args.hidden.now c.args.table (layout.descendants_of cat.schema c.args.table) (map items_of xs)) (sym c.deref.ensures.value) c.in-Ok.ensures.led in
    let many = led_many cat c.args.hidden.now c.args.table (layout.descendants_of cat.schema c.args.table) columns led in
    let same = length-map c.deref.result.now items_of in
    let few = c.layout_laws.ensures.layout.narrow.descendants c.args.table in
    let count = ap (λ (r : Run). r.count) c.subtree_table-run.ensures.run in
    record {
      few = omega (arith, many, same, few);
      long = λ column low.
          led_long cat c.args.hidden.now c.args.table (layout.descendants_of cat.schema c.args.table) columns led column (omega (arith, low, same)) ∙ sym count;
    }

pub write_records-requires-clause-fits : goal.write_records-requires-clause-fits
write_records-requires-clause-fits g c =
    let width = ap (λ (r : Run). r.width) c.subtree_table-run.ensures.run in
    let narrow = c.layout_laws.ensures.layout.narrow.subtree c.args.table in
    omega (arith, width, narrow)

pub write_records-requires-clause-widths : goal.write_records-requires-clause-widths
write_records-requires-clause-widths g c = λ i low.
    let cat = c.args.laid.now in
    let columns = map items_of c.deref.result.now in
    let led : AreLed cat c.args.hidden.now c.args.table (layout.descendants_of cat.schema c.args.table) columns =
    subst (λ xs. AreLed cat c.args.hidden.now c.args.table (layout.descendants_of cat.schema c.args.table) (map items_of xs)) (sym c.deref.ensures.value) c.in-Ok.ensures.led in
    let many = led_many cat c.args.hidden.now c.args.table (layout.descendants_of cat.schema c.args.table) columns led in
    let width = ap (λ (r : Run). r.width) c.subtree_table-run.ensures.run in
    let rows = c.subtree_table-run.result.count in
    let size = records_count columns rows in
    let one = record_width columns i in
    ap length (records_get columns rows i (omega (arith, low, size))) ∙ omega (arith, one, many, width)

pub write_records-requires-clause-can : goal.write_records-requires-clause-can
write_records-requires-clause-can g c =
    let cat = c.args.laid.now in
    let run = c.subtree_table-run.ensures.run in
    let rows = c.subtree_table-run.result.count in
    let pages =
    ap (λ n. pages_of n c.subtree_table-run.result.width) (records_count (map items_of c.deref.result.now) rows)
    ∙ (ap run_pages run ∙ sym (pages_of_subtree cat c.args.table c.requires.some)) in
    let first = ap (λ (r : Run). r.first) run ∙ c.layout_laws.ensures.layout.sums.subtree_table c.args.table c.requires.there in
    can_as (sym first) (sym pages) c.requires.can

pub returns-in-Ok-clause-stores : goal.returns-in-Ok-clause-stores
returns-in-Ok-clause-stores g c =
    let cat = c.args.laid.now in
    let columns = map items_of c.deref.result.now in
    let led : AreLed cat c.args.hidden.now c.args.table (layout.descendants_of cat.schema c.args.table) columns =
    subst (λ xs. AreLed cat c.args.hidden.now c.args.table (layout.descendants_of cat.schema c.args.table) (map items_of xs)) (sym c.deref.ensures.value) c.in-Ok.ensures.led in
    let run = c.subtree_table-run.ensures.run in
    let rows = c.subtree_table-run.result.count in
    let count = ap (λ (r : Run). r.count) run in
    let records = ap (numbers_records columns) count ∙ led_records cat c.args.hidden.now c.args.table columns led in
    let many = records_count columns rows in
    on_ok c.write_records.result
    (λ stores told.
    stores_as
    (runs_same (ap (λ (r : Run). r.first) run) (many ∙ count) (ap (λ (r : Run). r.width) run)) records (stores told))
    c.write_records.ensures.stores

pub returns-in-Ok-clause-wrote : goal.returns-in-Ok-clause-wrote
returns-in-Ok-clause-wrote g c =
    let cat = c.args.laid.now in
    let run = c.subtree_table-run.ensures.run in
    let rows = c.subtree_table-run.result.count in
    let pages =
    ap (λ n. pages_of n c.subtree_table-run.result.width) (records_count (map items_of c.deref.result.now) rows)
    ∙ (ap run_pages run ∙ sym (pages_of_subtree cat c.args.table c.requires.some)) in
    let first = ap (λ (r : Run). r.first) run ∙ c.layout_laws.ensures.layout.sums.subtree_table c.args.table c.requires.there in
    wrote_as c.write_records.result first (λ i. first i + pages i) pages c.write_records.ensures.wrote
