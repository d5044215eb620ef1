use Rattle.std.proofs.Common.{◌∙◌, bytes_eq}
use Rattle.ghost_model.specs.refusals.SchemaGrammar.{TableText}
use Rattle.ghost_model.specs.refusals.Tokens as tokens
use Rattle.tree_schema.specs.Drafts.{table_of}
use Rattle.tree_schema.proofs.FirstPlaces.{position_mapped}
use Rattle.tree_schema.proofs.rules.place_named.Goals as goal

pub returns : goal.returns
returns c =
    record { place = c.place_of_word.ensures.place ∙ position_mapped table_of (λ (table : TableText). bytes_eq (tokens.in_lower_case c.args.name.now) table.name) c.args.tables.now }
