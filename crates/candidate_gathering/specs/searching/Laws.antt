-- Laws of the lists of terms: they have exactly the rows of the top table that meet the term, and what is damaged of them is
-- damage.
use Rattle.std.specs.Prelude.{◌≡◌, ◌↔◌, ℕ, ◌-◌, ◌≤◌, List, map}
use Rattle.ghost_model.specs.core.Values.{Value, Database}
use Rattle.ghost_model.specs.core.Channel.{Catalog}
use Rattle.ghost_model.specs.core.Query.{Operator, Test}
use Rattle.ghost_model.specs.core.Replies as replies
use Rattle.ghost_model.specs.core.Split.{hidden_of}
use Rattle.ghost_model.specs.forms.Layout.{count_of}
use Rattle.ghost_model.specs.forms.QueryWork.{union_work}
use Rattle.ghost_model.specs.forms.Slots.{IsDamagedSlot}
use Rattle.climbing_index.specs.declared.index.ClimbingIndex.{ClimbingIndex}
use Rattle.climbing_index.specs.declared.index.IdIndex.{IdIndex}
use Rattle.climbing_index.specs.declared.search.Group.{Group}
use Rattle.climbing_index.specs.Holding.{HoldsIndexWhole, HoldsIndexBut, HoldsIdIndexWhole, HoldsIdIndexBut}
use Rattle.climbing_index.specs.Laws.{IsOf}
use Rattle.climbing_index.specs.Searches.{header_count, rows_of}
use Rattle.visible_spool.specs.declared.reply.Reply.{Reply}
use Rattle.visible_spool.specs.Replies.{HoldsRows, id_of_bytes}
use Rattle.spill_pass.specs.ListCalls.{ids_of}
use Rattle.spill_pass.specs.Lists.{InList, IsOrdered}
use Rattle.spill_pass.specs.PassContents.{InLists}
use Rattle.entry_lists.specs.declared.entries.EntryLists.{EntryLists}
use Rattle.entry_lists.specs.declared.replies.ReplyLists.{ReplyLists}
use Rattle.condition_lists.specs.declared.bounds.Bounds.{Bounds}
use Rattle.condition_lists.specs.declared.term.Term.{Term}
use Rattle.condition_lists.specs.declared.term.Term.TheVariants as of_term
use Rattle.condition_lists.specs.Laws.{AreReplied, IsMet, replied_ids}
use Rattle.condition_lists.specs.Terms.{AreEntriesOf, AreIdsOf, IsIndexAt, IsIdIndexAt}
use Rattle.candidate_gathering.specs.declared.searching.term_lists.TermLists.{TermLists}
use Rattle.candidate_gathering.specs.declared.searching.term_lists.TermLists.TheVariants.{Entries, Replies}
use Rattle.candidate_gathering.specs.searching.Begun.{AreListsAt, AreRepliesAt, EndsBy, rows_list}
use Rattle.candidate_gathering.specs.searching.Costs.{union_cost}
use Rattle.candidate_gathering.specs.searching.Searching.{AreEntries}
use Rattle.candidate_gathering.specs.searching.TermLists.{damaged_in, has_in, source_in}

-- the lists have together exactly the rows of the top table that meet a term, and cost no more than the term
pub record HaveRows (page right : ℕ → List ℕ) (cat : Catalog) (database : Database) (given : List replies.Reply) (top : ℕ) (term : Term) (lists : TermLists) : Type 0 where
  pub ids : List (List ℕ)
  pub has : has_in page right (count_of cat top) lists ids
  pub all : (identifier : ℕ) → InLists ids identifier ↔ IsMet cat database given top term identifier
  pub cost : union_work (source_in lists).lists_left (ids_of ids) ≤ union_cost cat database given top term

pub record ListsHaveTheirRows : Type 0 where
  -- a member of a hidden column: the lists of the entries that a search finds between the bounds, at the level of the top table
  pub entries :
      (page right : ℕ → List ℕ) (cat : Catalog) (database : Database) → IsOf cat database
      → (given : List replies.Reply) (top table column : ℕ) (test : Test) (index : ClimbingIndex) (level : ℕ) (bounds : Bounds)
      → AreEntriesOf cat top table column test index level bounds
      → (values : List (List ℕ)) → HoldsIndexWhole right cat (hidden_of cat.schema database) table column values
      → HoldsIndexBut page cat (hidden_of cat.schema database) table column values
      → (first second : Group) → AreEntries index.directory.kind bounds values first second
      → (lists : EntryLists) → AreListsAt index.directory level first second (count_of cat top) lists
      → HaveRows page right cat database given top (of_term.Entries table column index level bounds) (Entries lists)
  -- a member of the identifier of a table below the top one; an id index has no lists for its own table, so levels begin at the
  -- parent
  pub identifiers :
      (page right : ℕ → List ℕ) (cat : Catalog) (database : Database) → IsOf cat database
      → (given : List replies.Reply) (top table : ℕ) (operator : Operator) (literal : Value) (index : IdIndex) (level : ℕ) (first second : Group)
      → IsIdIndexAt cat top table index level → AreIdsOf (count_of cat table) operator literal first second
      → HoldsIdIndexWhole right cat (hidden_of cat.schema database) table
      → HoldsIdIndexBut page cat (hidden_of cat.schema database) table
      → (lists : EntryLists) → AreListsAt index.directory (level - 1) first second (count_of cat top) lists
      → HaveRows page right cat database given top (of_term.Identifiers table index level first second) (Entries lists)
  -- the reply of such a table, whose rows the pages have
  pub replies :
      (page right : ℕ → List ℕ) (cat : Catalog) (database : Database) → IsOf cat database
      → (given : List replies.Reply) (top table : ℕ) (index : IdIndex) (level : ℕ) (reply : replies.Reply)
      → IsIdIndexAt cat top table index level → AreReplied cat given table reply
      → HoldsIdIndexWhole right cat (hidden_of cat.schema database) table
      → HoldsIdIndexBut page cat (hidden_of cat.schema database) table
      → (lists : ReplyLists) → AreRepliesAt index.directory (level - 1) (count_of cat table) (count_of cat top) lists
      → (held : List (List ℕ)) → HoldsRows page lists.reply held → map id_of_bytes held ≡ replied_ids reply
      → HaveRows page right cat database given top (of_term.Reply table index level) (Replies lists)

-- The rows of a reply of the top table, which the pages have and which are right, are one list, since each is wider than a code: its
-- identifiers ascend and are of the rows, and they are those of exactly the rows that meet the term.
pub record RepliesAreLists : Type 0 where
  pub ordered :
      (page right : ℕ → List ℕ) (reply : Reply) → 4 ≤ reply.run.width → (held : List (List ℕ)) → HoldsRows page reply held → HoldsRows right reply held
      → IsOrdered page right reply.rows (rows_list reply)
  pub rows :
      (right : ℕ → List ℕ) (cat : Catalog) (database : Database) (given : List replies.Reply) (top : ℕ) (one : Reply) (reply : replies.Reply)
      → AreReplied cat given top reply → 4 ≤ one.run.width → (held : List (List ℕ)) → HoldsRows right one held → map id_of_bytes held ≡ replied_ids reply
      → (identifier : ℕ) → InList right (rows_list one) identifier ↔ IsMet cat database given top of_term.TopReply identifier

pub record DamageOfListsIsOfSlots : Type 0 where
  pub entries :
      (page : ℕ → List ℕ) (cat : Catalog) (top table column : ℕ) (index : ClimbingIndex) (level : ℕ) → IsIndexAt cat top table column index level
      → (first second : Group) → EndsBy (rows_of index) first → EndsBy (rows_of index) second
      → EndsBy (header_count page index) first → EndsBy (header_count page index) second
      → (lists : EntryLists) → AreListsAt index.directory level first second (count_of cat top) lists
      → (number slot found : ℕ) → damaged_in page (count_of cat top) (Entries lists) number slot found → IsDamagedSlot cat page number slot found
  pub identifiers :
      (page : ℕ → List ℕ) (cat : Catalog) (top table : ℕ) (index : IdIndex) (level : ℕ) → IsIdIndexAt cat top table index level
      → (first second : Group) → EndsBy (count_of cat table) first → EndsBy (count_of cat table) second
      → (lists : EntryLists) → AreListsAt index.directory (level - 1) first second (count_of cat top) lists
      → (number slot found : ℕ) → damaged_in page (count_of cat top) (Entries lists) number slot found → IsDamagedSlot cat page number slot found
  pub replies :
      (page : ℕ → List ℕ) (cat : Catalog) (top table : ℕ) (index : IdIndex) (level : ℕ) → IsIdIndexAt cat top table index level
      → (lists : ReplyLists) → AreRepliesAt index.directory (level - 1) (count_of cat table) (count_of cat top) lists
      → (number slot found : ℕ) → damaged_in page (count_of cat top) (Replies lists) number slot found → IsDamagedSlot cat page number slot found
