use Rattle.std.proofs.Common.{◌++◌, map, ap, sym, ◌∙◌, append_assoc, flat_map}
use Rattle.ghost_base.specs.Views.{value_of}
use Rattle.ghost_model.specs.core.Printed.{field_text}
use Rattle.key_lines.specs.Fields.{fields_text, later_field}
use Rattle.key_lines.proofs.FieldLists.{first_and_later}
use Rattle.key_lines.proofs.line.put_fields.Goals as goal

pub returns-in-Some-clause-items : goal.returns-in-Some-clause-items
returns-in-Some-clause-items c =
    let whole = first_and_later (value_of c.in-Some.first.now) (map value_of c.in-Some.later.now) in
    c.put_later_fields.ensures.items
    ∙ ap (λ items. items ++ flat_map later_field (map value_of c.in-Some.later.now)) c.put_field.ensures.items
    ∙ append_assoc c.args.line.now.items (field_text (value_of c.in-Some.first.now)) (flat_map later_field (map value_of c.in-Some.later.now))
    ∙ ap (λ fields. c.args.line.now.items ++ fields) (sym whole)
    ∙ ap (λ values. c.args.line.now.items ++ fields_text (map value_of values)) (sym c.in-Some.ensures.cases.0)
