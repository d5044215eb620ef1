use Rattle.std.proofs.Common.{◌≡◌, ◌∙◌, ap, subst, OnOk, ℕ, List, length, ◌++◌, ◌∷◌, []}
use Rattle.std.specs.Prelude.{codes, decimal}
use Rattle.std.specs.List.{sum}
use Rattle.edge_traits.specs.Written.{grown}
use Rattle.key_migrate.specs.Results.{migrated_line}
use Rattle.key_migrate.proofs.Lines.{in_seven}
use Rattle.key_migrate.proofs.line.print_line.Goals as goal

pub returns-clause-printed : goal.returns-clause-printed
returns-clause-printed g c =
    let line = in_seven _ _ _ _ _ _ _ c.new-line.ensures c.put.ensures.items c.put_number.ensures.items c.put-2.ensures.items c.put_number-2.ensures.items c.put-3.ensures.items c.put_number-3.ensures.items c.put-4.ensures.items in
    let tables : c.tables.result ≡ length c.args.cat.now.schema = c.tables.ensures.count ∙ ap length c.schema.ensures.value in
    let text = λ (tables rows version : ℕ). codes "= migrated tables " ++ (decimal tables ++ (codes " rows " ++ (decimal rows ++ (codes " version " ++ (decimal version ++ 10 ∷ []))))) in
    let numbers = ap (λ n. text n c.rows_of.result c.version_of.result) tables
    ∙ (ap (λ n. text (length c.args.cat.now.schema) n c.version_of.result) c.rows_of.ensures.value
    ∙ ap (λ n. text (length c.args.cat.now.schema) (sum c.args.cat.now.counts) n) c.version_of.ensures.value) in
    let whole : c.as_slice.result.now ≡ migrated_line c.args.cat.now = c.as_slice.ensures.value ∙ (line ∙ numbers) in
    subst (λ (bytes : List ℕ). OnOk c.write_all.result (g.O.Sink.written c.write_all.new.sink ≡ grown (g.O.Sink.written c.args.out.now) bytes)) whole
    c.write_all.ensures.whole
