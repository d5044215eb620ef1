use Rattle.std.proofs.Common.{sym, subst}
use Rattle.ghost_model.specs.core.Database.{IsDatabase}
use Rattle.ghost_model.specs.core.Schema.{Schema}
use Rattle.key_commands.proofs.local_lemmas.Settings.{stored_of}
use Rattle.key_commands.proofs.local.preparing.parts_of.Goals as goal

pub returns-clause-stored : goal.returns-clause-stored
returns-clause-stored c =
    let cat = c.catalog_of-cat.result in
    let is = c.a_catalog_is_short.ensures.catalog in
    stored_of cat c.args.input.tables is
    (subst (λ (schema : Schema). IsDatabase schema c.args.input.tables) (sym c.catalog_of-cat.ensures.schema) c.requires.database) c.catalog_of-cat.ensures.counts
