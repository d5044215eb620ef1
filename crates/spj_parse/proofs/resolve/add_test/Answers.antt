use Rattle.std.specs.Prelude.{map, option_to_list, Option}
use Rattle.std.proofs.Common.{ap, subst, sym, ◌∙◌}
use Rattle.ghost_base.specs.Views.{operator_of}
use Rattle.ghost_model.specs.core.Query as query
use Rattle.ghost_model.specs.refusals.QueryMeaning as meaning
use Rattle.spj_parse.specs.Drafts.{literal_of, test_text_of}
use Rattle.spj_parse.specs.Conditions.{first_alone}
use Rattle.spj_parse.specs.Adding.{Adds}
use Rattle.spj_parse.specs.Items as items
use Rattle.spj_parse.specs.Resolved as resolved
use Rattle.spj_parse.specs.Views.{field_of, member_of}
use Rattle.spj_parse.proofs.ResolveLemmas.{adds_lone}
use Rattle.spj_parse.proofs.resolve.add_test.Goals as goal

pub returns-in-Some : goal.returns-in-Some
returns-in-Some c = record {
  added =
      let operator = operator_of c.in-Compares.operator in
      let found : query.Field = field_of c.in-Some.field in
      let literal = resolved.literal_kept (literal_of c.in-Compares.literal) in
      subst (Adds member_of 16 c.args.kept.now.items c.keep.new.kept.items)
      (ap (λ (one : Option query.Field). map (λ field. resolved.flagged c.args.more field (query.Compared operator literal)) (option_to_list one)) c.in-Some.ensures.first
      ∙ ap (λ test. resolved.members_with (first_alone c.args.schema.now c.args.from.now) (items.Tests (test_text_of test) c.args.more)) (sym c.in-Compares.is))
      (adds_lone member_of 16 _ _ _ _ c.keep.ensures.room c.keep.ensures.full
      (c.member.ensures.member ∙ ap (λ value. resolved.flagged c.args.more found (query.Compared operator value)) c.literal_value.ensures.value));
}

pub returns-in-Some-first_meaning : goal.returns-in-Some-first_meaning
returns-in-Some-first_meaning c = record {
  added =
      let found : query.Field = field_of c.in-Some-first_meaning.field in
      subst (Adds member_of 16 c.args.kept.now.items c.keep-in-Some-first_meaning.new.kept.items)
      (ap (λ (one : Option query.Field). map (λ field. resolved.flagged c.args.more field (meaning.null_test c.in-TestsNull.negated)) (option_to_list one)) c.in-Some-first_meaning.ensures.first
      ∙ ap (λ test. resolved.members_with (first_alone c.args.schema.now c.args.from.now) (items.Tests (test_text_of test) c.args.more)) (sym c.in-TestsNull.is))
      (adds_lone member_of 16 _ _ _ _ c.keep-in-Some-first_meaning.ensures.room c.keep-in-Some-first_meaning.ensures.full
      (c.member-in-Some-first_meaning.ensures.member ∙ ap (λ test. resolved.flagged c.args.more found test) c.null_test.ensures.test));
}
