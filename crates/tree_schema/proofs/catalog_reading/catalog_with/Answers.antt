use Rattle.std.proofs.Common.{◌≡◌, ℕ, List, ◌++◌, length, sym, ap, ◌∙◌}
use Rattle.ghost_model.specs.core.Schema.{Schema}
use Rattle.ghost_model.specs.core.Channel.{Catalog}
use Rattle.ghost_model.specs.forms.Catalog.{catalog_bytes}
use Rattle.tree_schema.specs.Catalogs.{catalog_of_version}
use Rattle.tree_schema.specs.Views.{version_of}
use Rattle.tree_schema.proofs.catalog_reading.catalog_with.Goals as goal

same_catalog : (cat : Catalog) (version : ℕ) (schema : Schema) (counts : List ℕ) (generation : ℕ) → cat.version ≡ version
    → cat.schema ≡ schema → counts ≡ cat.counts → cat.generation ≡ generation → cat ≡ catalog_of_version version schema counts generation
same_catalog cat version schema counts generation v e h k =
    ap (λ (n : ℕ). record cat { version = n }) v
    ∙ (ap (λ (s : Schema). catalog_of_version version s cat.counts cat.generation) e
    ∙ (ap (λ (c : List ℕ). catalog_of_version version schema c cat.generation) (sym h) ∙ ap (catalog_of_version version schema counts) k))

pub returns-else-begins_with-clause-none : goal.returns-else-begins_with-clause-none
returns-else-begins_with-clause-none c = λ cat later front version schema generation counted.
    let one_each : length cat.counts ≡ c.tables.result =
    front.proper.counted ∙ (ap (λ (s : Schema). length s) schema ∙ sym c.tables.ensures.count) in
    let counts = c.in-Some.ensures.only cat.counts later one_each front.proper.few_rows counted in
    let same = same_catalog cat (version_of c.args.version) c.args.schema c.in-Some.counts.items c.args.generation version schema counts generation ∙ sym c.of_version-cat.ensures in
    c.begins_with.ensures.no c.if-begins_with.false front.rest (front.begins ∙ ap (λ (k : Catalog). catalog_bytes k ++ front.rest) same)
