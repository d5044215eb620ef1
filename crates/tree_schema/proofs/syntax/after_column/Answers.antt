use Rattle.std.proofs.Common.{ap, sym, ◌∙◌}
use Rattle.ghost_model.specs.readings.SchemaPlaces as places
use Rattle.tree_schema.specs.declared.syntax.ColumnDraft.TheVariants as column
use Rattle.tree_schema.specs.Marks.{symbol_of}
use Rattle.tree_schema.specs.Drafts.{column_of}
use Rattle.tree_schema.proofs.NoStep.{after_chars}
use Rattle.tree_schema.proofs.syntax.after_column.Goals as goal

pub returns-in_default : goal.returns-in_default
returns-in_default c =
    let chars = c.in-Chars in
    after_chars _ _ _ _ c.args.token.mark c.in_default.not-Hidden c.in_default.not-Null
    ∙ ap (λ hidden. places.after_column (column_of (column.Chars chars.name chars.digits chars.nullable hidden)) (symbol_of c.args.token.mark c.args.token.bytes.now)) (sym c.if-hidden.false)
    ∙ ap (λ held. places.after_column (column_of held) (symbol_of c.args.token.mark c.args.token.bytes.now)) (sym chars.is)
