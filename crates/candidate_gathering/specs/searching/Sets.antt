-- Candidates that stand as a list, as the rows of a reply without cells: a set of identifiers of a table's rows, whose lists are taken
-- in as those of a reply are.
use Rattle.std.specs.Prelude.{◌≡◌, ◌↔◌, ℕ, ◌-◌, ◌<◌, ◌≤◌, ◌||◌, Bool, true, List, [], ◌∷◌, map, Contains, Some}
use Rattle.ghost_model.specs.core.Values.{Database}
use Rattle.ghost_model.specs.core.Channel.{Catalog}
use Rattle.ghost_model.specs.core.Database.{leads}
use Rattle.ghost_model.specs.core.Replies as replies
use Rattle.ghost_model.specs.core.Split.{hidden_of}
use Rattle.ghost_model.specs.forms.Layout.{count_of}
use Rattle.ghost_base.specs.Runs.{run_of}
use Rattle.edge_traits.specs.Devices.{Device}
use Rattle.id_merge.specs.declared.merge.Merge.{Merge}
use Rattle.id_merge.specs.Merges.{Remains}
use Rattle.id_merge.specs.Since.{MayBlame, Since}
use Rattle.spill_pass.specs.Known.{KnowsList}
use Rattle.spill_pass.specs.Lists.{IsReadable as IsListReadable}
use Rattle.spill_pass.specs.Reducing.{whole_list}
use Rattle.climbing_index.specs.declared.index.IdIndex.{IdIndex}
use Rattle.climbing_index.specs.Holding.{HoldsIdIndexWhole, HoldsIdIndexBut}
use Rattle.climbing_index.specs.Laws.{IsOf}
use Rattle.visible_spool.specs.declared.reply.Reply.{Reply}
use Rattle.visible_spool.specs.Replies.{HoldsRows, IsReadable, IsSound, id_of_bytes}
use Rattle.entry_lists.specs.declared.replies.ReplyLists.{ReplyLists}
use Rattle.entry_lists.specs.Entries.{is_in, level_run}
use Rattle.entry_lists.specs.Given.{RowsAscend}
use Rattle.candidate_lists.specs.declared.closing.Closed.{Closed}
use Rattle.candidate_lists.specs.Closes.{ListsAll}
use Rattle.candidate_lists.specs.Held.{over}
use Rattle.flash_layout.specs.Ranges.{IsRowOf}
use Rattle.condition_lists.specs.declared.term.Term.TheVariants as of_term
use Rattle.condition_lists.specs.Laws.{AreReplied, IsMet, replied_ids}
use Rattle.condition_lists.specs.Terms.{IsIdIndexAt}
use Rattle.candidate_gathering.specs.declared.searching.term_lists.TermLists.{TermLists}
use Rattle.candidate_gathering.specs.declared.searching.term_lists.TermLists.TheVariants.{Entries, Replies}
use Rattle.candidate_gathering.specs.searching.Begun.{AreRepliesAt}
use Rattle.candidate_gathering.specs.searching.Laws.{HaveRows}
use Rattle.candidate_gathering.specs.searching.Taken.{AgreesOver, UsesRight}
use Rattle.candidate_gathering.specs.searching.TermLists.{has_in, source_in}

-- a reply has the records of a list as its rows, each an identifier and no cell
pub record IsReplyOf (set : Closed) (reply : Reply) : Type 0 where
  pub run_is : reply.run ≡ set.run
  pub rows_are : reply.rows ≡ set.rows
  pub cells : reply.cells ≡ 0

-- a list of identifiers of a table's rows, as far as its run tells
pub record IsSet (set : Closed) : Type 0 where
  pub width : set.run.width ≡ 4
  pub few : set.run.count ≤ set.rows
  pub most : set.rows ≤ 1000000

-- the pages have the rows of a reply, whose identifiers are exactly some
pub record HoldsSet (page : ℕ → List ℕ) (reply : Reply) (among : ℕ → Type 0) : Type 0 where
  pub held : List (List ℕ)
  pub holds : HoldsRows page reply held
  pub all : (identifier : ℕ) → Contains (map id_of_bytes held) identifier ↔ among identifier

-- the reply of rows with these identifiers to an ask for no column
abbrev pub reply_with : (table : ℕ) (identifiers : List ℕ) → replies.Reply
reply_with table identifiers = record {
  ask = record { table = table; columns = []; tests = [] };
  rows = map (λ identifier. record { identifier = identifier; values = [] }) identifiers;
}

-- a row of the top table leads to a row of a table that is among some
pub record LeadsAmong (cat : Catalog) (database : Database) (top table : ℕ) (among : ℕ → Type 0) (identifier : ℕ) : Type 0 where
  pub row : IsRowOf cat top identifier
  pub reached : ℕ
  pub leads_to : leads cat.schema database top identifier table ≡ Some reached
  pub is_among : among reached

-- the pages of the index that lists are taken from: those of its directory and of a level
abbrev pub index_uses : TermLists → (page : ℕ) → Bool
index_uses (Entries lists) page = is_in (run_of lists.directory.run) page || is_in (run_of (level_run lists.directory lists.level)) page
index_uses (Replies lists) page = is_in (run_of lists.directory.run) page || is_in (run_of (level_run lists.directory lists.level)) page

pub record SetsAreReplies : Type 0 where
  -- a list is a reply that may be read
  pub sound : (set : Closed) (reply : Reply) → IsReplyOf set reply → IsSet set → IsSound reply
  pub readable :
      (device : Device) (set : Closed) (reply : Reply) → IsReplyOf set reply → IsSet set → IsListReadable device (whole_list set.run)
      → IsReadable device reply
  -- the pages have its rows: those of the candidates
  pub rows :
      (page first : ℕ → List ℕ) (low : ℕ) (merge : Merge) (set : Closed) (reply : Reply) → IsReplyOf set reply → IsSet set
      → ListsAll page first low merge set → HoldsSet page reply (Remains first merge)
  -- where the list is known to be in order, or a slot of its run may be blamed, so are the rows
  pub known :
      (since : Since) (page : ℕ → List ℕ) (set : Closed) (reply : Reply) → IsReplyOf set reply → KnowsList since page set.rows (whole_list set.run)
      → MayBlame since (run_of reply.run) (RowsAscend page reply)
  -- identifiers of a table's rows are those of a reply
  pub replied :
      (cat : Catalog) (table : ℕ) (identifiers : List ℕ) → ((identifier : ℕ) → Contains identifiers identifier → IsRowOf cat table identifier)
      → AreReplied cat (reply_with table identifiers ∷ []) table (reply_with table identifiers)
  pub identifiers : (table : ℕ) (identifiers : List ℕ) → replied_ids (reply_with table identifiers) ≡ identifiers
  -- exactly the rows that lead to one of the set meet its term
  pub met :
      (cat : Catalog) (database : Database) (top table : ℕ) (index : IdIndex) (level : ℕ) (identifiers : List ℕ) (identifier : ℕ)
      → IsMet cat database (reply_with table identifiers ∷ []) top (of_term.Reply table index level) identifier
      ↔ LeadsAmong cat database top table (Contains identifiers) identifier
  -- its lists have these rows
  pub lists :
      (page right : ℕ → List ℕ) (cat : Catalog) (database : Database) → IsOf cat database
      → (top table : ℕ) (index : IdIndex) (level : ℕ) → IsIdIndexAt cat top table index level
      → HoldsIdIndexWhole right cat (hidden_of cat.schema database) table
      → HoldsIdIndexBut page cat (hidden_of cat.schema database) table
      → (lists : ReplyLists) → AreRepliesAt index.directory (level - 1) (count_of cat table) (count_of cat top) lists
      → (held : List (List ℕ)) → HoldsRows page lists.reply held
      → ((identifier : ℕ) → Contains (map id_of_bytes held) identifier → IsRowOf cat table identifier)
      → HaveRows page right cat database (reply_with table (map id_of_bytes held) ∷ []) top (of_term.Reply table index level) (Replies lists)

-- Where a set lies on pages that are right by themselves, from page `low` on, and the index below that page, right pages with those from
-- `low` on as they are serve for right ones.
pub record RightsOfSets : Type 0 where
  pub has :
      (page right : ℕ → List ℕ) (low rows : ℕ) (lists : TermLists) (ids : List (List ℕ))
      → ((number : ℕ) → index_uses lists number ≡ true → number < low)
      → has_in page right rows lists ids → has_in page (over right page low) rows lists ids
  pub uses : (page right : ℕ → List ℕ) (low : ℕ) (lists : TermLists) → UsesRight page (over right page low) low (source_in lists)
  pub below :
      (page right : ℕ → List ℕ) (low : ℕ) (lists : TermLists) → ((number : ℕ) → (source_in lists).uses number ≡ true → number < low)
      → UsesRight page right low (source_in lists)
  pub agrees : (first right page : ℕ → List ℕ) (low : ℕ) → AgreesOver first right page low → AgreesOver first (over right page low) page low
  pub back : (whole right page now : ℕ → List ℕ) (low : ℕ) → AgreesOver whole (over right page low) now low → AgreesOver whole right now low
