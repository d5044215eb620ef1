use Rattle.std.proofs.Common.{◌≡◌, ◌∙◌, sym, ap, map, Some}
use Rattle.std.specs.Prelude.{option_map}
use Rattle.ghost_model.specs.forms.Left.{is_same_field}
use Rattle.spj_parse.specs.Views.{field_of}
use Rattle.key_migrate.specs.Items.{item_field}
use Rattle.key_migrate.proofs.ItemLemmas.{any_map, is_no_first, is_taken_there}
use Rattle.key_migrate.proofs.items.taken_field.Goals as goal

pub returns-then-is_among-clause-refused : goal.returns-then-is_among-clause-refused
returns-then-is_among-clause-refused c =
    let one = field_of c.in-Some.field in
    let names : item_field c.args.schema.now c.args.item.now ≡ Some one = sym c.item_field.ensures.field ∙ ap (option_map field_of) c.in-Some.is in
    is_no_first c.args.schema.now (map field_of c.args.earlier.now) c.args.item.now one names (sym c.may_be_null.ensures.may ∙ c.if-not-may_be_null.false)
    (any_map (is_same_field one) field_of c.args.earlier.now ∙ (sym c.is_among.ensures.among ∙ c.if-is_among.true))

pub returns-clause-taken : goal.returns-clause-taken
returns-clause-taken c =
    let one = field_of c.in-Some.field in
    let names : item_field c.args.schema.now c.args.item.now ≡ Some one = sym c.item_field.ensures.field ∙ ap (option_map field_of) c.in-Some.is in
    is_taken_there c.args.schema.now (map field_of c.args.earlier.now) c.args.item.now one names (sym c.may_be_null.ensures.may ∙ c.if-not-may_be_null.false)
    (any_map (is_same_field one) field_of c.args.earlier.now ∙ (sym c.is_among.ensures.among ∙ c.if-is_among.false))
