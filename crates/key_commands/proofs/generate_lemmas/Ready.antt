-- What is prepared for a session over a drawn clinic, from what its parts say.
use Rattle.std.proofs.Common.{◌≡◌, ◌≤◌, ℕ, List, map, length, Option, sym, ap, ◌∙◌, subst}
use Rattle.ghost_model.specs.core.Generated.{script}
use Rattle.ghost_model.specs.core.Honest.{IsCatalogOf}
use Rattle.ghost_model.specs.core.Schema.{Schema}
use Rattle.ghost_model.specs.core.Split.{hidden_of}
use Rattle.ghost_model.specs.core.Texts.{most_texts, texts_of}
use Rattle.ghost_model.specs.core.Values.{Database}
use Rattle.ghost_model.specs.examples.Clinic.{clinic_schema}
use Rattle.ghost_model.specs.forms.Flash.{IsHidden}
use Rattle.session_laws.specs.Local.{holding_of}
use Rattle.edge_traits.specs.Files.{Files}
use Rattle.edge_traits.specs.declared.mem_depot.MemDepot.{MemDepot}
use Rattle.page_pool.specs.Pools.{IsIdle}
use Rattle.generated_clinic.specs.Laws.{MeansQuestions}
use Rattle.key_words.specs.Words.{Gen}
use Rattle.key_commands.specs.generate.Counting.{rows_of_text}
use Rattle.key_commands.specs.generate.Drawing.{drawn_database, drawn_texts}
use Rattle.key_commands.specs.generate.Preparing.{IsReady}
use Rattle.key_commands.specs.local.Preparing.{IsHosted}
use Rattle.key_commands.specs.local.Sessions.{catalog_for}
use Rattle.key_commands.specs.declared.generate.preparing.Ready.{Ready}
use Rattle.key_commands.proofs.generate_lemmas.RowsMeant.{texts_mean, few_texts}

pub ready_of : (contents : MemDepot → Option Files) (sure : MemDepot → List ℕ → Type 0) (words : Gen) (ready : Ready) (schema : Schema) (tables : Database)
    → schema ≡ clinic_schema → tables ≡ drawn_database words
    → ready.prepared.cat ≡ catalog_for schema tables → IsCatalogOf ready.prepared.cat tables → ready.prepared.hidden ≡ hidden_of schema tables
    → IsHidden ready.prepared.cat ready.prepared.hidden → IsHosted contents sure (holding_of ready.prepared.cat tables) ready.prepared.link → IsIdle ready.prepared.pool
    → ready.script.items ≡ script words.texts → MeansQuestions words.texts → words.texts ≤ 40
    → ready.meant.items ≡ map (rows_of_text schema tables) (texts_of ready.script.items)
    → IsReady contents sure words ready
ready_of contents sure words ready schema tables is_clinic is_drawn cat stored hidden part hosted idle same means few counted =
    let texts : texts_of ready.script.items ≡ drawn_texts words = ap texts_of same in
    record {
      cat = cat ∙ (ap (λ (s : Schema). catalog_for s tables) is_clinic ∙ ap (catalog_for clinic_schema) is_drawn);
      stored = subst (IsCatalogOf ready.prepared.cat) is_drawn stored;
      hidden = hidden ∙ (ap (λ (s : Schema). hidden_of s tables) is_clinic ∙ ap (hidden_of clinic_schema) is_drawn);
      part = part;
      hosted = subst (λ (held : Database). IsHosted contents sure (holding_of ready.prepared.cat held) ready.prepared.link) is_drawn hosted;
      idle = idle;
      texts = texts;
      few = subst (λ (some : List (List ℕ)). length some ≤ most_texts) (sym texts) (few_texts words means few);
      meant = counted
          ∙ (ap (λ (s : Schema). map (rows_of_text s tables) (texts_of ready.script.items)) is_clinic
          ∙ (ap (λ (held : Database). map (rows_of_text clinic_schema held) (texts_of ready.script.items)) is_drawn
          ∙ (ap (map (rows_of_text clinic_schema (drawn_database words))) texts ∙ texts_mean words means)));
    }
