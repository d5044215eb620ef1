use Rattle.std.proofs.Common.{sym, ap, ◌∙◌}
use Rattle.ghost_model.specs.core.Schema.{first_of}
use Rattle.spj_parse.specs.Drafts.{column_of}
use Rattle.spj_parse.specs.Names.{fields_in}
use Rattle.spj_parse.specs.Views.{field_of}
use Rattle.spj_parse.proofs.NameLemmas.{meant, all_taken, first_found}
use Rattle.spj_parse.proofs.names.first_meaning.Goals as goal

pub returns-in-Some : goal.returns-in-Some
returns-in-Some c = record {
  first = sym (first_found (fields_in c.args.schema.now (column_of c.args.column)) c.args.from.now c.loop-table.table-index (field_of c.in-Some.field) c.loop-table.invariant c.in-Some.ensures.fields c.loop-table-test.true)
      ∙ ap first_of (meant c.args.schema.now c.args.from.now (column_of c.args.column));
}

pub returns : goal.returns
returns c = record {
  first = ap first_of (sym c.loop-table.invariant
      ∙ all_taken (fields_in c.args.schema.now (column_of c.args.column)) c.args.from.now c.loop-table.table-index c.loop-table-test.false
      ∙ meant c.args.schema.now c.args.from.now (column_of c.args.column));
}
