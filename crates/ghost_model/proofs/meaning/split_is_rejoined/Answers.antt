use Rattle.std.proofs.Common.{◌∙◌}
use Rattle.ghost_model.specs.core.Split.{public_of, hidden_of}
use Rattle.ghost_model.specs.laws.SplitByFlags.{rejoined_tables}
use Rattle.ghost_model.proofs.MeaningLemmas.PartsByFlags.{visible_parts, hidden_parts, rejoined_parts}
use Rattle.ghost_model.proofs.MeaningLemmas.Rejoining.{tables_again, are_tables}
use Rattle.ghost_model.proofs.meaning.split_is_rejoined.Goals as goal

pub returns : goal.returns
returns c schema database is =
    rejoined_parts schema (public_of schema database) (hidden_of schema database)
    ∙ ((λ i. rejoined_tables schema (visible_parts schema database i) (hidden_parts schema database i))
    ∙ tables_again schema database is.tables (are_tables schema database is))
