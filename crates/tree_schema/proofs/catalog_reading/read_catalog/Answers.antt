use Rattle.std.proofs.Common.{◌≡◌, ◌++◌, Option, Some, None, Ok, IfNone, sym, ap, ◌∙◌}
use Rattle.ghost_model.specs.readings.SchemaReading.{schema_reading}
use Rattle.ghost_model.specs.forms.Catalog.{canonical_text, counts_bytes}
use Rattle.tree_schema.proofs.CatalogParts.{has_parts}
use Rattle.tree_schema.proofs.catalog_reading.read_catalog.Goals as goal

if_none : {X : Type 0} {P Q : Type 0} (found : Option X) → (P → Q) → IfNone found P → IfNone found Q
if_none None f p = f p
if_none (Some x) f p = p

pub returns-in_default-clause-none : goal.returns-in_default-clause-none
returns-in_default-clause-none c = λ cat front.
    c.in_default.ensures.only cat.version cat.generation (canonical_text cat.schema) (counts_bytes cat.counts ++ front.rest)
    (has_parts c.args.bytes.now cat front (c.no_catalog_is_long.ensures cat front.proper))

pub returns-in-Ok-clause-none : goal.returns-in-Ok-clause-none
returns-in-Ok-clause-none c = if_none c.catalog_with.result (λ none cat front.
    let parts = c.in-Some.ensures.only cat.version cat.generation (canonical_text cat.schema) (counts_bytes cat.counts ++ front.rest)
    (has_parts c.args.bytes.now cat front (c.no_catalog_is_long.ensures cat front.proper)) in
    let read : Ok cat.schema ≡ Ok c.in-Ok.schema =
    sym (c.in-Ok.ensures.reading ∙ (ap schema_reading parts.same_text ∙ (c.one_schema_reading.ensures.read (canonical_text cat.schema) cat.schema).1 front.proper.meant)) in
    none cat front.rest front (sym parts.same_version) (cc) (sym parts.same_generation) parts.same_later) c.catalog_with.ensures.none

pub returns-in-Err-clause-none : goal.returns-in-Err-clause-none
returns-in-Err-clause-none c = λ cat front.
    let parts = c.in-Some.ensures.only cat.version cat.generation (canonical_text cat.schema) (counts_bytes cat.counts ++ front.rest)
    (has_parts c.args.bytes.now cat front (c.no_catalog_is_long.ensures cat front.proper)) in
    let read = c.in-Err.ensures.reading ∙ (ap schema_reading parts.same_text ∙ (c.one_schema_reading.ensures.read (canonical_text cat.schema) cat.schema).1 front.proper.meant) in
    cc
