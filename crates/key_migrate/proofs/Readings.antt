-- How the reading of all ended.
use Rattle.std.proofs.Common.{◌≡◌, ◌∙◌, Bool, Option, Result, Ok, Err, sym, subst}
use Rattle.std.specs.Prelude.{IfOk, IfErr}
use Rattle.ghost_model.specs.core.Channel.{Catalog}
use Rattle.ghost_model.specs.laws.CatalogLaws.{CatalogsHaveOneSpelling}
use Rattle.ghost_model.specs.laws.MeaningLaws.{PublicPartsGoWithCatalogs, SplitIsRejoined}
use Rattle.csv_split.specs.Widened.{WidenedSchemasKeepDatabases}
use Rattle.edge_traits.specs.Devices.{Device, KeepsPages}
use Rattle.edge_traits.specs.Files.{Files}
use Rattle.flash_build.specs.Rejoined.{LegalPartsRejoin}
use Rattle.key_inputs.specs.Outside.{Outside}
use Rattle.key_load.specs.declared.preparing.Prepared.{Prepared}
use Rattle.key_words.specs.Words.{Migrate}
use Rattle.key_migrate.specs.Devices.{IsNoOther, KeepsNamed}
use Rattle.key_migrate.specs.Items.{migrated}
use Rattle.key_migrate.specs.Preparing.{IsOfRows, IsPrepared, TellsPreparing}
use Rattle.key_migrate.specs.Reading.{AreParts}
use Rattle.key_migrate.specs.Results.{EndsMigrate, MakesNothing}
use Rattle.key_migrate.specs.Stages.{IsWholeKey}
use Rattle.key_migrate.specs.declared.failures.MigrateFailure.{MigrateFailure}
use Rattle.key_migrate.specs.declared.parts.Parts.{Parts}
use Rattle.key_migrate.proofs.Endings.{unprepared}
use Rattle.key_migrate.proofs.Named.{named_on}
use Rattle.key_migrate.proofs.Sources.{is_of_source, is_read, proper_of_source, source_of}

-- the laws that are cited
pub record Laws : Type 0 where
  pub one : CatalogsHaveOneSpelling
  pub split : SplitIsRejoined
  pub goes : PublicPartsGoWithCatalogs
  pub widened : WidenedSchemasKeepDatabases

pub nothing_made : (told : Bool) (words : Migrate) (before after : Outside) (opened : Device) → IsNoOther words.flash opened
    → KeepsNamed told before.device opened → KeepsPages opened after.device → after.files ≡ before.files → after.written ≡ before.written
    → MakesNothing told words before after
nothing_made told words before after opened name kept read files written = record {
  name = λ other is. name other (sym read.name ∙ is);
  kept = named_on told before.device opened after.device kept read;
  files = files;
  written = written;
}

module _ (laws : Laws) (told : Bool) (words : Migrate) (contents : Option Files) (before opened : Device) (cat now : Catalog) (parts : Parts) where
  pub rows_ready : (result : Result Prepared MigrateFailure) → LegalPartsRejoin cat → IsWholeKey told words.flash before opened cat
      → AreParts told words contents opened.page cat parts → now ≡ migrated cat words.null
      → IfOk result (λ prepared. IsPrepared now parts.public parts.hidden words.blocks prepared)
      → IfOk result (λ prepared. IsOfRows told words contents before prepared)
  rows_ready (Err fault) rejoin key are is made = tt
  rows_ready (Ok prepared) rejoin key are is made = record {
    source = source_of opened cat parts;
    read = is_read laws.one laws.split laws.goes told words contents before opened cat parts rejoin key are;
    of =
        is_of_source laws.widened words opened cat parts prepared rejoin are.public.goes_with are.hidden.legal
        (subst (λ (held : Catalog). IsPrepared held parts.public parts.hidden words.blocks prepared) is made);
  }

pub unprepared_ends : (laws : Laws) (told : Bool) (words : Migrate) (before after : Outside) (opened : Device) (cat now : Catalog) (parts : Parts)
    (result : Result Prepared MigrateFailure) → LegalPartsRejoin cat → IsWholeKey told words.flash before.device opened cat
    → AreParts told words before.files opened.page cat parts → now ≡ migrated cat words.null → MakesNothing told words before after
    → IfErr result (λ fault. TellsPreparing now words.blocks fault)
    → IfErr result (λ fault. EndsMigrate {T = Unit {0}} told words (Err fault) before after)
unprepared_ends laws told words before after opened cat now parts (Ok prepared) rejoin key are is nothing tells = tt
unprepared_ends laws told words before after opened cat now parts (Err fault) rejoin key are is nothing tells =
    unprepared told words before after (source_of opened cat parts) fault nothing
    (is_read laws.one laws.split laws.goes told words before.files before.device opened cat parts rejoin key are)
    (proper_of_source laws.widened words opened cat parts rejoin are.public.goes_with are.hidden.legal)
    (subst (λ (held : Catalog). TellsPreparing held words.blocks fault) is tells)
