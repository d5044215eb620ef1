-- That a host which holds the public part of a database can serve every ask of a session.
use Rattle.std.proofs.Common.{◌≡◌, ℕ, ◌*◌, ◌/◌, ◌<◌, ◌≤◌, true, List, [], length, sym, ◌∙◌, ap, subst, arith}
use Rattle.std.specs.Prelude.{flat_map}
use Rattle.std.proofs.lemmas.Bool.{lt-ltb, le-leb}
use Rattle.std.proofs.lemmas.Nat.{le-div}
use Rattle.std.proofs.Math.Nat.{mul-le-mul_left, div-add-mod}
use Rattle.ghost_model.specs.core.Values.{Database}
use Rattle.ghost_model.specs.core.Query.{Query}
use Rattle.ghost_model.specs.core.Channel.{Catalog, count_of, Ask}
use Rattle.ghost_model.specs.core.Database.{rows_of}
use Rattle.ghost_model.specs.forms.Catalog.{canonical_text}
use Rattle.ghost_model.specs.forms.Frames.{most_payload}
use Rattle.ghost_model.specs.core.Asks.{RowCells, asked_of, is_proper_ask, kinds_of, row_width}
use Rattle.ghost_model.specs.core.NextMove as next
use Rattle.ghost_model.specs.core.Split.{Public, public_of, visible_rows, reply_rows}
use Rattle.ghost_model.specs.laws.HostLaws.{AreGroups}
use Rattle.ghost_model.specs.core.Honest.{fits_frame, IsSetting, IsCatalogOf}
use Rattle.ghost_model.proofs.ChannelLemmas.Tests.{hold_both}
use Rattle.ghost_model.proofs.SessionLemmas.Accepted.{Each}
use Rattle.ghost_model.proofs.SessionLemmas.Groups.{groups_are_joined, groups_pass}
use Rattle.ghost_model.proofs.SessionLemmas.Limits.{IsSmall, schema_is_small, row_fits, proper_columns}
use Rattle.ghost_model.proofs.SessionLemmas.Settings.{serials_fit, counts_fit, bytes_are}
use Rattle.ghost_model.proofs.SessionLemmas.SentFrames.{asks_are_good}
use Rattle.ghost_model.proofs.SessionLemmas.Replied.{IsSendable, all_sendable, are_groups, count_is, AreRepliable, repliable}
use Rattle.session_laws.specs.Local.{holding_of}
use Rattle.session_laws.proofs.Exchanges.{CanServe, groups_for}

group_fits : (width : ℕ) (group : List RowCells) → 0 < width → 0 < length group → length group ≤ most_payload / width → fits_frame width group ≡ true
group_fits width group wide some few =
    let product : width * length group ≤ width * (most_payload / width) = mul-le-mul_left width few in
    let whole = div-add-mod most_payload width in
    hold_both _ _ (lt-ltb 0 (length group) some) (le-leb (width * length group) most_payload (omega (arith, product, whole)))

-- the lemmas on replies ask for a query, of which nothing matters
pub no_query : Query
no_query = record { from = []; select = []; conditions = [] }

module _ (catalog : Catalog) (database : Database) (stored : IsCatalogOf catalog database) (small : IsSmall catalog.schema) where
  abbrev public : Public
  public = public_of catalog.schema database

  rows_for : (ask : Ask) → (proper : is_proper_ask catalog.schema ask ≡ true) → AreRepliable catalog.schema database stored.is_database no_query ask (proper_columns catalog.schema small ask proper) (counts_fit catalog database stored ask.table)
  rows_for ask proper = repliable catalog.schema database stored.is_database no_query ask (proper_columns catalog.schema small ask proper) (counts_fit catalog database stored ask.table)

  groups_may_come : (ask : Ask) → is_proper_ask catalog.schema ask ≡ true → AreGroups catalog ask 0 (groups_for (holding_of catalog database) ask)
  groups_may_come ask proper =
      let width : ℕ = row_width catalog.schema ask in
      let given : List RowCells = reply_rows catalog.schema (public_of catalog.schema database) ask in
      let rows = rows_for ask proper in
      let fits : row_width catalog.schema ask ≤ 2040 = row_fits catalog.schema small ask proper in
      let wide : 0 < row_width catalog.schema ask = omega arith in
      let some : 1 ≤ most_payload / row_width catalog.schema ask = le-div 1 most_payload (row_width catalog.schema ask) wide (omega (arith, fits)) in
      let packing : List (List RowCells) = groups_for (holding_of catalog database) ask in
      let whole : flat_map (λ (group : List RowCells). group) packing ≡ given = groups_are_joined (most_payload / row_width catalog.schema ask) (reply_rows catalog.schema (public_of catalog.schema database) ask) some in
      let count : count_of catalog ask.table ≡ length (rows_of database ask.table) = count_is catalog database ask.table stored.counts_are in
      are_groups catalog ask 0 packing
      (groups_pass (fits_frame width) (most_payload / row_width catalog.schema ask) (reply_rows catalog.schema (public_of catalog.schema database) ask) some (λ group s f. group_fits width group wide s f))
      (ap (λ (n : ℕ). next.rows_fit n 0 (kinds_of catalog.schema ask) (flat_map (λ (group : List RowCells). group) packing)) count
      ∙ (ap (λ (rs : List RowCells). next.rows_fit (length (rows_of database ask.table)) 0 (kinds_of catalog.schema ask) rs) whole ∙ rows.ascend))
      (subst (λ (rs : List RowCells). Each (IsSendable catalog.schema ask) rs) (sym whole) (all_sendable catalog.schema ask (visible_rows catalog.schema public ask) rows.kinds))

-- every ask of such a session can be served
pub can_serve : (catalog : Catalog) (database : Database) (texts : List (List ℕ)) → IsSetting catalog texts → IsCatalogOf catalog database → CanServe (holding_of catalog database) (asked_of catalog.schema texts)
can_serve catalog database texts setting stored =
    let small : IsSmall catalog.schema = schema_is_small (canonical_text catalog.schema) catalog.schema setting.proper.meant in
    record {
      small = small;
      proper = asks_are_good catalog.schema texts;
      few_asks = serials_fit catalog texts setting;
      generation = setting.proper.generation_fits;
      catalog_is_bytes = bytes_are catalog stored.proper;
      groups = groups_may_come catalog database stored small;
      few_rows = λ ask proper. (rows_for catalog database stored small ask proper).few_rows;
    }
