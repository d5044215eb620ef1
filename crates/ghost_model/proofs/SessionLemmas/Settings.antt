-- What follows of a catalog that both sides may share: the asks of 64 texts have serials of four bytes, and the tables of its
-- database have numbers of rows of four bytes.
use Rattle.std.proofs.Common.{◌≡◌, ℕ, zero, suc, ◌+◌, ◌*◌, ◌<◌, ◌≤◌, ◌^◌, true, List, [], ◌∷◌, length, map, filter, Result, Ok, Err, sym, ap, subst, refl, arith, length-append}
use Rattle.std.specs.Prelude.{nat_le}
use Rattle.std.specs.List.{list_all}
use Rattle.std.proofs.lemmas.Bool.{and_parts, leb-true}
use Rattle.std.proofs.lemmas.List.{length-map}
use Rattle.ghost_model.specs.core.Schema.{Schema, places_from, places_of}
use Rattle.ghost_model.specs.core.Values.{Database}
use Rattle.ghost_model.specs.core.Database.{row_count, row_counts}
use Rattle.ghost_model.specs.laws.ShortWords.{is_from}
use Rattle.ghost_model.specs.refusals.LoadFaults.{most_rows}
use Rattle.ghost_model.specs.core.Query.{Query}
use Rattle.ghost_model.specs.readings.QueryReading.{reading}
use Rattle.ghost_model.specs.core.Channel.{Catalog}
use Rattle.ghost_model.specs.forms.Catalog.{IsCatalog, canonical_text, catalog_bytes}
use Rattle.ghost_model.specs.forms.Frames.{AreBytes}
use Rattle.ghost_model.specs.core.Asks.{asked, asked_from, asked_of, ask_for, asks_of, asks_of_reading, is_needed}
use Rattle.ghost_model.specs.laws.ChannelLaws.{AsksAreFew}
use Rattle.ghost_model.specs.laws.SchemaTrees.{IsTree}
use Rattle.ghost_model.specs.core.Honest.{IsSetting, IsCatalogOf}
use Rattle.ghost_model.proofs.CatalogByteLemmas.{catalog_is_bytes}
use Rattle.ghost_model.proofs.MeaningLemmas.OneRow.{length-filter_le}
use Rattle.ghost_model.proofs.SchemaTreeLemmas.{schemas_are_trees}

places_length : {X : Type 0} (at : ℕ) (xs : List X) → length (places_from (λ (_ : X). true) at xs) ≡ length xs
unfolding places_from
places_length at [] = refl
places_length at (x ∷ xs) = ap suc (places_length (at + 1) xs)

few_of_query : (schema : Schema) (query : Query) → length (asks_of schema query) ≤ length schema
few_of_query schema query =
    let a = length-filter_le is_needed (map (ask_for schema query) (filter (is_from query) (places_of schema))) in
    let b = length-map (filter (is_from query) (places_of schema)) (ask_for schema query) in
    let c = length-filter_le (is_from query) (places_of schema) in
    let d = places_length 0 schema in
    omega (arith, a, b, c, d)

few_of_reading : {Refusal : Type 0} (schema : Schema) (r : Result Query Refusal) → length (asks_of_reading schema r) ≤ length schema
few_of_reading schema (Ok query) = few_of_query schema query
few_of_reading schema (Err refusal) = omega arith

few_from : {Refusal : Type 0} (schema : Schema) (n : ℕ) (readings : List (Result Query Refusal)) → length schema ≤ 12
    → length (asked_from schema n readings) ≤ 12 * length readings
few_from schema n [] h = omega arith
few_from schema n (reading ∷ later) h =
    let a = length-append (map (asked n) (asks_of_reading schema reading)) (asked_from schema (n + 1) later) in
    let b = length-map (asks_of_reading schema reading) (asked n) in
    let c = few_of_reading schema reading in
    let d = few_from schema (n + 1) later h in
    omega (arith, a, b, c, d, h)

pub asks_are_few : AsksAreFew
asks_are_few schema texts tables =
    let all = few_from schema 1 (map (reading schema) texts) tables in
    let many = length-map texts (reading schema) in
    omega (arith, all, many)

pub tree_of : (catalog : Catalog) → IsCatalog catalog → IsTree catalog.schema
tree_of catalog proper = schemas_are_trees (canonical_text catalog.schema) catalog.schema proper.meant

pub serials_fit : (catalog : Catalog) (texts : List (List ℕ)) → IsSetting catalog texts → length (asked_of catalog.schema texts) < 2 ^ 32
serials_fit catalog texts setting =
    let asks = asks_are_few catalog.schema texts (tree_of catalog setting.proper).few_tables in
    let few = setting.few in
    omega (arith, asks, few)

few_rows : (database : Database) (table : ℕ) → list_all (λ count. nat_le count most_rows) (row_counts database) ≡ true → row_count database table ≤ most_rows
few_rows [] table few = omega arith
few_rows (rows ∷ database) zero few = leb-true (length rows) most_rows (and_parts (nat_le (length rows) most_rows) _ few).0
few_rows (rows ∷ database) (suc table) few = few_rows database table (and_parts (nat_le (length rows) most_rows) _ few).1

pub counts_fit : (catalog : Catalog) (database : Database) → IsCatalogOf catalog database → (table : ℕ) → row_count database table < 2 ^ 32
counts_fit catalog database stored table =
    let few = few_rows database table (subst (λ (counts : List ℕ). list_all (λ count. nat_le count most_rows) counts ≡ true) (sym stored.counts_are) stored.proper.few_rows) in
    omega (arith, few)

pub bytes_are : (catalog : Catalog) → IsCatalog catalog → AreBytes (catalog_bytes catalog)
bytes_are catalog proper = catalog_is_bytes catalog (tree_of catalog proper) proper.some_version
