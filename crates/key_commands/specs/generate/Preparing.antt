-- What is prepared in memory for a session over a drawn clinic.
use Rattle.std.specs.Prelude.{◌≡◌, ◌≤◌, ℕ, List, Option, length}
use Rattle.ghost_model.specs.core.Honest.{IsCatalogOf}
use Rattle.ghost_model.specs.core.Split.{hidden_of}
use Rattle.ghost_model.specs.core.Texts.{texts_of, most_texts}
use Rattle.ghost_model.specs.examples.Clinic.{clinic_schema}
use Rattle.ghost_model.specs.forms.Flash.{IsHidden}
use Rattle.session_laws.specs.Local.{holding_of}
use Rattle.edge_traits.specs.Files.{Files}
use Rattle.edge_traits.specs.declared.mem_depot.MemDepot.{MemDepot}
use Rattle.page_pool.specs.Pools.{IsIdle}
use Rattle.key_words.specs.Words.{Gen}
use Rattle.key_commands.specs.generate.Counting.{rows_meant}
use Rattle.key_commands.specs.generate.Drawing.{drawn_database, drawn_texts}
use Rattle.key_commands.specs.local.Preparing.{IsHosted}
use Rattle.key_commands.specs.local.Sessions.{catalog_for}
use Rattle.key_commands.specs.declared.generate.preparing.Ready.{Ready}

pub record IsReady (contents : MemDepot → Option Files) (sure : MemDepot → List ℕ → Type 0) (words : Gen) (ready : Ready) : Type 0 where
  pub cat : ready.prepared.cat ≡ catalog_for clinic_schema (drawn_database words)
  pub stored : IsCatalogOf ready.prepared.cat (drawn_database words)
  pub hidden : ready.prepared.hidden ≡ hidden_of clinic_schema (drawn_database words)
  pub part : IsHidden ready.prepared.cat ready.prepared.hidden
  pub hosted : IsHosted contents sure (holding_of ready.prepared.cat (drawn_database words)) ready.prepared.link
  pub idle : IsIdle ready.prepared.pool
  pub texts : texts_of ready.script.items ≡ drawn_texts words
  pub few : length (texts_of ready.script.items) ≤ most_texts
  pub meant : ready.meant.items ≡ rows_meant words
