use Rattle.std.proofs.Common.{List, ◌<◌, length, sym, subst, ap, ◌∙◌, option_map}
use Rattle.std.specs.Prelude.{option_to_list}
use Rattle.ghost_model.specs.core.Query.{Field}
use Rattle.spj_parse.specs.Drafts.{column_of}
use Rattle.spj_parse.specs.Names.{fields_in}
use Rattle.spj_parse.specs.Views.{field_of}
use Rattle.spj_parse.proofs.NameLemmas.{meant, all_taken, several_of}
use Rattle.spj_parse.proofs.names.meaning_of.Goals as goal

pub returns-then-is_some : goal.returns-then-is_some
returns-then-is_some c = record {
  meaning = subst (λ (fields : List Field). 1 < length fields) (meant c.args.schema.now c.args.from.now (column_of c.args.column))
      (several_of (fields_in c.args.schema.now (column_of c.args.column)) c.args.from.now c.loop-table.table-index c.loop-table.found c.in-Some.field
      c.if-is_some.ensures c.loop-table.invariant c.in-Some.ensures.fields c.loop-table-test.true);
}

pub returns-in-None : goal.returns-in-None
returns-in-None c = record {
  meaning = sym (meant c.args.schema.now c.args.from.now (column_of c.args.column))
      ∙ sym (all_taken (fields_in c.args.schema.now (column_of c.args.column)) c.args.from.now c.loop-table.table-index c.loop-table-test.false)
      ∙ sym c.loop-table.invariant ∙ ap (λ found. option_to_list (option_map field_of found)) c.in-None.is;
}

pub returns-in-Some-found : goal.returns-in-Some-found
returns-in-Some-found c = record {
  meaning = sym (meant c.args.schema.now c.args.from.now (column_of c.args.column))
      ∙ sym (all_taken (fields_in c.args.schema.now (column_of c.args.column)) c.args.from.now c.loop-table.table-index c.loop-table-test.false)
      ∙ sym c.loop-table.invariant ∙ ap (λ found. option_to_list (option_map field_of found)) c.in-Some-found.is;
}
