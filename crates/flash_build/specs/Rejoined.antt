-- Two parts that go with one catalog, each read by itself, and the database that they are the parts of.
use Rattle.std.specs.Prelude.{◌≡◌}
use Rattle.ghost_model.specs.core.Channel.{Catalog}
use Rattle.ghost_model.specs.core.Database.{IsDatabase, row_counts}
use Rattle.ghost_model.specs.core.Split.{Public, Hidden, IsPublic, public_of, hidden_of, rejoined}
use Rattle.flash_build.specs.Reading.{IsLegalPart}

-- they rejoin to a database, and are its parts
pub record AreParts (cat : Catalog) (public : Public) (hidden : Hidden) : Type 0 where
  pub proper : IsDatabase cat.schema (rejoined cat.schema public hidden)
  pub counted : row_counts (rejoined cat.schema public hidden) ≡ cat.counts
  pub public_is : public ≡ public_of cat.schema (rejoined cat.schema public hidden)
  pub hidden_is : hidden ≡ hidden_of cat.schema (rejoined cat.schema public hidden)

abbrev pub LegalPartsRejoin : Catalog → Type 0
LegalPartsRejoin cat = (public : Public) (hidden : Hidden) → IsPublic cat public → IsLegalPart cat hidden → AreParts cat public hidden
