use Rattle.std.proofs.Common.{◌≡◌, ℕ, List, sym, subst}
use Rattle.ghost_model.specs.refusals.Tokens.{in_lower_case}
use Rattle.spj_parse.proofs.NameLemmas.{lower_table}
use Rattle.spj_parse.proofs.names.is_table_called.Goals as goal

pub is_name-requires : goal.is_name-requires
is_name-requires c = record {
  lower = subst (λ (name : List ℕ). in_lower_case name ≡ name) (sym c.deref.ensures.0) (lower_table _ (c.schemas_are_trees.ensures _ c.tables.ensures.declared) c.args.table _ c.in-Some.ensures);
}
