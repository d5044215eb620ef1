use Rattle.std.proofs.Common.{Ok, map, sym, ap, ◌∙◌}
use Rattle.ghost_model.specs.readings.SchemaReading.{schema_judged}
use Rattle.tree_schema.specs.Drafts.{table_of}
use Rattle.tree_schema.proofs.reading.read_schema.Goals as goal

pub returns-in-Ok-Some : goal.returns-in-Ok-Some
returns-in-Ok-Some c =
    let reads = rw c.in-Ok-Some.field-0-is at c.in-Ok-Some.ensures.read in
    record { reading = c.judge.ensures.reading ∙ ap schema_judged (ap Ok (ap (map table_of) c.deref.ensures.0 ∙ reads.keeps) ∙ sym reads.reads) }
