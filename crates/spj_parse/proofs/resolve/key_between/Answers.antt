use Rattle.std.proofs.Common.{◌≡◌, ◌∙◌, ℕ, Option, None, Some, refl, option_and_then, slice_get}
use Rattle.ghost_model.specs.core.Schema.{Table, first_of, is_table, places_from, references_to, places_where, columns_or_none}
use Rattle.spj_parse.proofs.resolve.key_between.Goals as goal

in_table : (child : ℕ) (held : Option Table)
    → option_and_then (λ held. first_of (references_to child held)) held ≡ first_of (places_where (λ column. is_table child column.child) (columns_or_none held))
unfolding places_from
in_table child None = refl
in_table child (Some table) = refl

pub returns-clause-key : goal.returns-clause-key
returns-clause-key c = c.reference.ensures.column ∙ in_table c.args.child (slice_get c.args.schema.now c.args.holder)
