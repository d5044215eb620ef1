use Rattle.std.proofs.Common.{true, false, refl, ap, sym, ◌∙◌}
use Rattle.spj_parse.specs.Conditions.{IsClear}
use Rattle.spj_parse.proofs.ReadingLemmas.{judged_by, from_are, kind_in, literal_in}
use Rattle.ghost_model.specs.refusals.QueryMeaning.{resolved}
use Rattle.spj_parse.proofs.GatheredLemmas.{gathered, selected_are, joins_are}
use Rattle.spj_parse.proofs.ComparedLemmas.{compared_are}
use Rattle.spj_parse.specs.Views.{grouped}
use Rattle.spj_parse.proofs.GroupedLemmas.{groups_again, members_end}
use Rattle.spj_parse.proofs.GroupedLemmas.{mixed_in}
use Rattle.spj_parse.proofs.QueryViews.{ended_by}
use Rattle.spj_parse.proofs.reading.read_query.Goals as goal

pub returns-then-has_unknown_columns-clause-refusal : goal.returns-then-has_unknown_columns-clause-refusal
returns-then-has_unknown_columns-clause-refusal c =
    let tree = c.in_default.ensures.tree.tree in
    let h = c.in_default.ensures.tree.read in
    let over = c.if-is_over_limit.ensures.over tree h in
    let f = from_are c.args.schema.now c.args.text.now tree c.as_slice-from.result.now h (sym over) (c.as_slice-from.ensures.value ∙ c.from_tables-tables.ensures.tables) in
    judged_by c.args.schema.now c.args.text.now tree h false false true _ _ _ _ _ over (c.if-has_unknown_tables.ensures.unknown tree h) (c.if-has_unknown_columns.ensures.unknown tree h f) refl refl refl refl refl

pub returns-then-is_ambiguous-clause-refusal : goal.returns-then-is_ambiguous-clause-refusal
returns-then-is_ambiguous-clause-refusal c =
    let tree = c.in_default.ensures.tree.tree in
    let h = c.in_default.ensures.tree.read in
    let over = c.if-is_over_limit.ensures.over tree h in
    let f = from_are c.args.schema.now c.args.text.now tree c.as_slice-from.result.now h (sym over) (c.as_slice-from.ensures.value ∙ c.from_tables-tables.ensures.tables) in
    judged_by c.args.schema.now c.args.text.now tree h false false false true _ _ _ _ over (c.if-has_unknown_tables.ensures.unknown tree h) (c.if-has_unknown_columns.ensures.unknown tree h f) (c.if-is_ambiguous.ensures.ambiguous tree h f) refl refl refl refl

pub returns-then-any_condition_passes-clause-refusal : goal.returns-then-any_condition_passes-clause-refusal
returns-then-any_condition_passes-clause-refusal c =
    let tree = c.in_default.ensures.tree.tree in
    let h = c.in_default.ensures.tree.read in
    let over = c.if-is_over_limit.ensures.over tree h in
    let f = from_are c.args.schema.now c.args.text.now tree c.as_slice-from.result.now h (sym over) (c.as_slice-from.ensures.value ∙ c.from_tables-tables.ensures.tables) in
    let column = c.if-has_unknown_columns.ensures.unknown tree h f in
    let ambiguous = c.if-is_ambiguous.ensures.ambiguous tree h f in
    let k : IsClear c.args.schema.now tree = record { known = sym column; single = sym ambiguous } in
    let kind = kind_in c.args.schema.now c.args.text.now tree c.as_slice-from.result.now true h f k c.if-any_condition_passes.ensures.passes in
    judged_by c.args.schema.now c.args.text.now tree h false false false false true _ _ _ over (c.if-has_unknown_tables.ensures.unknown tree h) column ambiguous kind refl refl refl

pub returns-then-any_condition_passes-2-clause-refusal : goal.returns-then-any_condition_passes-2-clause-refusal
returns-then-any_condition_passes-2-clause-refusal c =
    let tree = c.in_default.ensures.tree.tree in
    let h = c.in_default.ensures.tree.read in
    let over = c.if-is_over_limit.ensures.over tree h in
    let f = from_are c.args.schema.now c.args.text.now tree c.as_slice-from.result.now h (sym over) (c.as_slice-from.ensures.value ∙ c.from_tables-tables.ensures.tables) in
    let column = c.if-has_unknown_columns.ensures.unknown tree h f in
    let ambiguous = c.if-is_ambiguous.ensures.ambiguous tree h f in
    let k : IsClear c.args.schema.now tree = record { known = sym column; single = sym ambiguous } in
    let kind = kind_in c.args.schema.now c.args.text.now tree c.as_slice-from.result.now false h f k c.if-any_condition_passes.ensures.passes in
    let literal = literal_in c.args.schema.now c.args.text.now tree c.as_slice-from.result.now true h f k c.if-any_condition_passes-2.ensures.passes in
    judged_by c.args.schema.now c.args.text.now tree h false false false false false true _ _ over (c.if-has_unknown_tables.ensures.unknown tree h) column ambiguous kind literal refl refl

pub returns-then-is_unlinked-clause-refusal : goal.returns-then-is_unlinked-clause-refusal
returns-then-is_unlinked-clause-refusal c =
    let tree = c.in_default.ensures.tree.tree in
    let h = c.in_default.ensures.tree.read in
    let over = c.if-is_over_limit.ensures.over tree h in
    let f = from_are c.args.schema.now c.args.text.now tree c.as_slice-from.result.now h (sym over) (c.as_slice-from.ensures.value ∙ c.from_tables-tables.ensures.tables) in
    let column = c.if-has_unknown_columns.ensures.unknown tree h f in
    let ambiguous = c.if-is_ambiguous.ensures.ambiguous tree h f in
    let k : IsClear c.args.schema.now tree = record { known = sym column; single = sym ambiguous } in
    let kind = kind_in c.args.schema.now c.args.text.now tree c.as_slice-from.result.now false h f k c.if-any_condition_passes.ensures.passes in
    let literal = literal_in c.args.schema.now c.args.text.now tree c.as_slice-from.result.now false h f k c.if-any_condition_passes-2.ensures.passes in
    judged_by c.args.schema.now c.args.text.now tree h false false false false false false true _ over (c.if-has_unknown_tables.ensures.unknown tree h) column ambiguous kind literal (c.if-is_unlinked.ensures.unlinked tree h f k) refl

pub returns-then-are_mixed-clause-refusal : goal.returns-then-are_mixed-clause-refusal
returns-then-are_mixed-clause-refusal c =
    let tree = c.in_default.ensures.tree.tree in
    let h = c.in_default.ensures.tree.read in
    let over = c.if-is_over_limit.ensures.over tree h in
    let f = from_are c.args.schema.now c.args.text.now tree c.as_slice-from.result.now h (sym over) (c.as_slice-from.ensures.value ∙ c.from_tables-tables.ensures.tables) in
    let column = c.if-has_unknown_columns.ensures.unknown tree h f in
    let ambiguous = c.if-is_ambiguous.ensures.ambiguous tree h f in
    let k : IsClear c.args.schema.now tree = record { known = sym column; single = sym ambiguous } in
    let kind = kind_in c.args.schema.now c.args.text.now tree c.as_slice-from.result.now false h f k c.if-any_condition_passes.ensures.passes in
    let literal = literal_in c.args.schema.now c.args.text.now tree c.as_slice-from.result.now false h f k c.if-any_condition_passes-2.ensures.passes in
    let schema_tree = c.schemas_are_trees.ensures c.args.schema.now c.tables.ensures.declared in
    let members = compared_are c.args.schema.now schema_tree c.args.text.now tree c.as_slice-from.result.now _ h (sym over) f k (sym kind) (sym literal) c.members-compared.ensures.members in
    let mixed = mixed_in c.args.schema.now tree _ _ true members c.as_slice.ensures.value c.if-are_mixed.ensures.mixed in
    judged_by c.args.schema.now c.args.text.now tree h false false false false false false false true over (c.if-has_unknown_tables.ensures.unknown tree h) column ambiguous kind literal (c.if-is_unlinked.ensures.unlinked tree h f k) mixed

pub of-requires : goal.of-requires
of-requires c =
    let tree = c.in_default.ensures.tree.tree in
    let h = c.in_default.ensures.tree.read in
    let over = c.if-is_over_limit.ensures.over tree h in
    let f = from_are c.args.schema.now c.args.text.now tree c.as_slice-from.result.now h (sym over) (c.as_slice-from.ensures.value ∙ c.from_tables-tables.ensures.tables) in
    let column = c.if-has_unknown_columns.ensures.unknown tree h f in
    let ambiguous = c.if-is_ambiguous.ensures.ambiguous tree h f in
    let k : IsClear c.args.schema.now tree = record { known = sym column; single = sym ambiguous } in
    let kind = kind_in c.args.schema.now c.args.text.now tree c.as_slice-from.result.now false h f k c.if-any_condition_passes.ensures.passes in
    let literal = literal_in c.args.schema.now c.args.text.now tree c.as_slice-from.result.now false h f k c.if-any_condition_passes-2.ensures.passes in
    let schema_tree = c.schemas_are_trees.ensures c.args.schema.now c.tables.ensures.declared in
    let members = compared_are c.args.schema.now schema_tree c.args.text.now tree c.as_slice-from.result.now _ h (sym over) f k (sym kind) (sym literal) c.members-compared.ensures.members in
    let mixed = mixed_in c.args.schema.now tree _ _ false members c.as_slice.ensures.value c.if-are_mixed.ensures.mixed in
    record {
      read = record {
        schema = c.args.schema.now;
        declared = c.tables.ensures.declared;
        text = c.args.text.now;
        meant = record {
          meant = resolved c.args.schema.now tree;
          reads = judged_by c.args.schema.now c.args.text.now tree h false false false false false false false false over (c.if-has_unknown_tables.ensures.unknown tree h) column ambiguous kind literal (c.if-is_unlinked.ensures.unlinked tree h f k) mixed;
          once = gathered c.args.schema.now tree _ _ _ _ (sym c.as_slice-from.ensures.value ∙ f)
              (selected_are c.args.schema.now c.args.text.now tree c.as_slice-from.result.now _ h (sym over) f k c.selected-fields.ensures.fields)
              (joins_are c.args.schema.now c.args.text.now tree c.as_slice-from.result.now _ (sym over) f c.joins-joined.ensures.joins)
              (ap grouped members ∙ groups_again (resolved c.args.schema.now tree).conditions);
        };
      };
      ended = ended_by c.members-compared.result.items _ members (members_end (resolved c.args.schema.now tree).conditions);
    }

pub returns-clause-meaning : goal.returns-clause-meaning
returns-clause-meaning c =
    let tree = c.in_default.ensures.tree.tree in
    let h = c.in_default.ensures.tree.read in
    let over = c.if-is_over_limit.ensures.over tree h in
    let f = from_are c.args.schema.now c.args.text.now tree c.as_slice-from.result.now h (sym over) (c.as_slice-from.ensures.value ∙ c.from_tables-tables.ensures.tables) in
    let column = c.if-has_unknown_columns.ensures.unknown tree h f in
    let ambiguous = c.if-is_ambiguous.ensures.ambiguous tree h f in
    let k : IsClear c.args.schema.now tree = record { known = sym column; single = sym ambiguous } in
    let kind = kind_in c.args.schema.now c.args.text.now tree c.as_slice-from.result.now false h f k c.if-any_condition_passes.ensures.passes in
    let literal = literal_in c.args.schema.now c.args.text.now tree c.as_slice-from.result.now false h f k c.if-any_condition_passes-2.ensures.passes in
    let schema_tree = c.schemas_are_trees.ensures c.args.schema.now c.tables.ensures.declared in
    let members = compared_are c.args.schema.now schema_tree c.args.text.now tree c.as_slice-from.result.now _ h (sym over) f k (sym kind) (sym literal) c.members-compared.ensures.members in
    let mixed = mixed_in c.args.schema.now tree _ _ false members c.as_slice.ensures.value c.if-are_mixed.ensures.mixed in
    record {
      meant = resolved c.args.schema.now tree;
      reads = judged_by c.args.schema.now c.args.text.now tree h false false false false false false false false over (c.if-has_unknown_tables.ensures.unknown tree h) column ambiguous kind literal (c.if-is_unlinked.ensures.unlinked tree h f k) mixed;
      once = c.of.ensures.query
          ∙ gathered c.args.schema.now tree _ _ _ _ (sym c.as_slice-from.ensures.value ∙ f)
          (selected_are c.args.schema.now c.args.text.now tree c.as_slice-from.result.now _ h (sym over) f k c.selected-fields.ensures.fields)
          (joins_are c.args.schema.now c.args.text.now tree c.as_slice-from.result.now _ (sym over) f c.joins-joined.ensures.joins)
          (ap grouped members ∙ groups_again (resolved c.args.schema.now tree).conditions);
    }
