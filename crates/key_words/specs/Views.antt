-- What the read words stand for.
use Rattle.std.specs.Prelude.{map, option_map}
use Rattle.key_words.specs.Words as words
use Rattle.key_words.specs.declared.words.AuditWords.{AuditWords}
use Rattle.key_words.specs.declared.words.GenWords.{GenWords}
use Rattle.key_words.specs.declared.words.KeyWords.{KeyWords}
use Rattle.key_words.specs.declared.words.KeyWords.TheVariants as key
use Rattle.key_words.specs.declared.words.LocalWords.{LocalWords}
use Rattle.key_words.specs.declared.words.LoadWords.{LoadWords}
use Rattle.key_words.specs.declared.words.MigrateWords.{MigrateWords}
use Rattle.key_words.specs.declared.words.PlainWords.{PlainWords}
use Rattle.key_words.specs.declared.words.QueryWords.{QueryWords}

abbrev pub plain_view : PlainWords → words.Plain
plain_view plain = record { schema = plain.schema.now; tables = plain.tables.now; script = plain.script.now }

abbrev pub local_view : LocalWords → words.Local
local_view local = record {
  schema = local.schema.now;
  tables = local.tables.now;
  flash = local.flash.now;
  script = local.script.now;
  journal = option_map (λ name. name.now) local.journal;
  plan = local.plan;
  pace = local.pace.items;
  buffers = local.buffers;
}

abbrev pub load_view : LoadWords → words.Load
load_view load = record {
  schema = load.schema.now;
  tables = load.tables.now;
  flash = load.flash.now;
  visible = load.visible.now;
  blocks = load.blocks;
}

abbrev pub query_view : QueryWords → words.Query
query_view query = record {
  flash = query.flash.now;
  to = query.to.now;
  script = query.script.now;
  plan = query.plan;
  pace = query.pace.items;
  buffers = query.buffers;
}

abbrev pub audit_view : AuditWords → words.Audit
audit_view audit = record { visible = audit.visible.now; script = audit.script.now; journal = audit.journal.now }

abbrev pub gen_view : GenWords → words.Gen
gen_view gen = record {
  flash = gen.flash.now;
  seed = gen.seed;
  rows = gen.rows;
  texts = gen.texts;
  plan = gen.plan;
  pace = gen.pace.items;
  buffers = gen.buffers;
}

abbrev pub migrate_view : MigrateWords → words.Migrate
migrate_view migrate = record {
  flash = migrate.flash.now;
  visible = migrate.visible.now;
  to_flash = migrate.to_flash.now;
  to_visible = migrate.to_visible.now;
  null = map (λ item. item.now) migrate.null.items;
  blocks = migrate.blocks;
}

abbrev pub words_view : KeyWords → words.Command
words_view (key.Local local) = words.LocalCommand (local_view local)
words_view (key.Plain plain) = words.PlainCommand (plain_view plain)
words_view (key.Load load) = words.LoadCommand (load_view load)
words_view (key.Query query) = words.QueryCommand (query_view query)
words_view (key.Audit audit) = words.AuditCommand (audit_view audit)
words_view (key.Gen gen) = words.GenCommand (gen_view gen)
words_view (key.Migrate migrate) = words.MigrateCommand (migrate_view migrate)
