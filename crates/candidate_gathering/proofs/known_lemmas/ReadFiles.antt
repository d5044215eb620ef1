-- Files of lists are read for the query, and so are those of lists that cross forms intersect with replies.
use Rattle.std.proofs.Common.{◌≡◌, refl, inl, inr, ℕ, List, Bool, true}
use Rattle.ghost_model.specs.core.Values.{Database}
use Rattle.ghost_model.specs.core.Channel.{Catalog}
use Rattle.ghost_model.specs.core.Query.{Query}
use Rattle.ghost_model.specs.forms.Layout.{is_below, File, Cells, Subtrees, IndexHeader, IndexDirectory, IndexLevel, IdDirectory, IdLevel}
use Rattle.condition_lists.specs.Terms.{is_compared}
use Rattle.candidate_gathering.specs.known.Known.{IsBadSlotIn, IsListFile, IsReadCrossing, IsReadByIndexes}
use Rattle.candidate_gathering.specs.known.Laws.{ListsAreRead}

list_file : (cat : Catalog) (asked : Query) (top : ℕ) (file : File) → IsListFile cat asked top file → IsReadByIndexes cat asked top file
list_file cat asked top (Cells table column) is = absurd is
list_file cat asked top (Subtrees table) is = absurd is
list_file cat asked top (IndexHeader table column) is = is
list_file cat asked top (IndexDirectory table column) is = is
list_file cat asked top (IndexLevel table column level) is = is
list_file cat asked top (IdDirectory table) is = is
list_file cat asked top (IdLevel table level) is = is

by_lists : (cat : Catalog) (asked : Query) (crosses : Bool) (top : ℕ) (file : File) → IsListFile cat asked top file → IsReadCrossing cat asked crosses top file
by_lists cat asked crosses top file is = inl (list_file cat asked top file is)

by_cross : (cat : Catalog) (asked : Query) (top table : ℕ) → is_below cat.schema top table ≡ true → is_compared cat.schema asked table ≡ true
    → (file : File) → IsListFile cat asked table file → IsReadCrossing cat asked true top file
by_cross cat asked top table below compared file is = inr (refl, record { table = table; below = below; compared = compared; is = is })

bad_for : (page : ℕ → List ℕ) (cat : Catalog) (database : Database) (read more : File → Type 0) (number slot found : ℕ) → ((file : File) → read file → more file)
    → IsBadSlotIn page cat database read number slot found → IsBadSlotIn page cat database more number slot found
bad_for page cat database read more number slot found wider bad = record {
  file = bad.file;
  place = bad.place;
  read_for = wider bad.file bad.read_for;
  damaged = bad.damaged;
  never = bad.never;
}

pub lists_read : ListsAreRead
lists_read = record {
  bad = λ page cat asked crosses top database number slot found.
      bad_for page cat database (IsListFile cat asked top) (IsReadCrossing cat asked crosses top) number slot found (by_lists cat asked crosses top);
  crossed = λ page cat asked top table database below compared number slot found.
      bad_for page cat database (IsListFile cat asked table) (IsReadCrossing cat asked true top) number slot found (by_cross cat asked top table below compared);
}
