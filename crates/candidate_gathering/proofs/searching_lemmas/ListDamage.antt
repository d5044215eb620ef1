-- What is damaged of the lists of a term is a damaged slot of the layout.
use Rattle.std.proofs.Common.{◌≡◌, ◌∙◌, ap, sym, subst, ℕ, ◌-◌, ◌<◌, List, length, arith}
use Rattle.std.proofs.lemmas.Option.{slice_get_within}
use Rattle.ghost_model.specs.core.Channel.{Catalog}
use Rattle.ghost_model.specs.forms.Layout.{count_of, levels_of, above_of}
use Rattle.ghost_model.specs.forms.Slots.{IsDamagedSlot}
use Rattle.climbing_index.specs.declared.directory.Directory.{Directory}
use Rattle.climbing_index.specs.declared.index.ClimbingIndex.{ClimbingIndex}
use Rattle.climbing_index.specs.declared.index.IdIndex.{IdIndex}
use Rattle.climbing_index.specs.declared.search.Group.{Group}
use Rattle.climbing_index.specs.Searches.{header_count, rows_of}
use Rattle.entry_lists.specs.declared.entries.EntryLists.{EntryLists}
use Rattle.entry_lists.specs.declared.replies.ReplyLists.{ReplyLists}
use Rattle.entry_lists.specs.Entries.{IsDamaged}
use Rattle.entry_lists.specs.Laws.{AreListsOf, IdListsDamageSlots, ValueListsDamageSlots, rows_at}
use Rattle.entry_lists.specs.Replied as replied
use Rattle.entry_lists.specs.ReplyLaws.{RepliesDamageSlots}
use Rattle.condition_lists.specs.Terms.{IsIndexAt, IsIdIndexAt}
use Rattle.candidate_gathering.specs.declared.searching.term_lists.TermLists.TheVariants.{Entries, Replies}
use Rattle.candidate_gathering.specs.searching.Begun.{AreListsAt, AreRepliesAt, EndsBy}
use Rattle.candidate_gathering.specs.searching.TermLists.{damaged_in}
use Rattle.candidate_gathering.proofs.searching_lemmas.Places.{indexed, indexed_above, some_above, within_above}

are_of :
    {directory : Directory} {level : ℕ} {first second : Group} {rows : ℕ} (levels count : ℕ) (lists : EntryLists)
    → AreListsAt directory level first second rows lists → level < levels → EndsBy count first → EndsBy count second → AreListsOf directory levels count lists
are_of levels count lists are near low high = record {
  directory_is = are.directory_is;
  level = omega (arith, are.level_is, near);
  first = subst (EndsBy count) (sym are.first_is) low;
  second = subst (EndsBy count) (sym are.second_is) high;
}

pub entries :
    ValueListsDamageSlots → (page : ℕ → List ℕ) (cat : Catalog) (top table column : ℕ) (index : ClimbingIndex) (level : ℕ) → IsIndexAt cat top table column index level
    → (first second : Group) → EndsBy (rows_of index) first → EndsBy (rows_of index) second
    → EndsBy (header_count page index) first → EndsBy (header_count page index) second
    → (lists : EntryLists) → AreListsAt index.directory level first second (count_of cat top) lists
    → (number slot found : ℕ) → damaged_in page (count_of cat top) (Entries lists) number slot found → IsDamagedSlot cat page number slot found
entries slots page cat top table column index level at first second a b d e lists are number slot found damaged =
    let levels = length (levels_of cat.schema table) in
    let near = slice_get_within (levels_of cat.schema table) level top at.level_is in
    let rows_are : rows_at cat (levels_of cat.schema table) lists.level ≡ count_of cat top =
    ap (rows_at cat (levels_of cat.schema table)) are.level_is ∙ ap (count_of cat) (indexed (levels_of cat.schema table) level top at.level_is) in
    slots page cat table column at.hidden index at.index_is lists (are_of levels (rows_of index) lists are near a b)
    (are_of levels (header_count page index) lists are near d e) number slot found
    (subst (λ rows. IsDamaged page rows lists number slot found) (sym rows_are) damaged)

pub identifiers :
    IdListsDamageSlots → (page : ℕ → List ℕ) (cat : Catalog) (top table : ℕ) (index : IdIndex) (level : ℕ) → IsIdIndexAt cat top table index level
    → (first second : Group) → EndsBy (count_of cat table) first → EndsBy (count_of cat table) second
    → (lists : EntryLists) → AreListsAt index.directory (level - 1) first second (count_of cat top) lists
    → (number slot found : ℕ) → damaged_in page (count_of cat top) (Entries lists) number slot found → IsDamagedSlot cat page number slot found
identifiers slots page cat top table index level at first second a b lists are number slot found damaged =
    let levels = levels_of cat.schema table in
    let rows_are : rows_at cat (above_of cat.schema table) lists.level ≡ count_of cat top =
    ap (rows_at cat (above_of cat.schema table)) are.level_is ∙ ap (count_of cat) (indexed_above levels level top at.above at.level_is) in
    slots page cat table at.there (some_above levels level top at.above at.level_is) index at.index_is lists
    (are_of (length (above_of cat.schema table)) (count_of cat table) lists are (within_above levels level top at.above at.level_is) a b) number slot found
    (subst (λ rows. IsDamaged page rows lists number slot found) (sym rows_are) damaged)

pub replied_damage :
    RepliesDamageSlots → (page : ℕ → List ℕ) (cat : Catalog) (top table : ℕ) (index : IdIndex) (level : ℕ) → IsIdIndexAt cat top table index level
    → (lists : ReplyLists) → AreRepliesAt index.directory (level - 1) (count_of cat table) (count_of cat top) lists
    → (number slot found : ℕ) → damaged_in page (count_of cat top) (Replies lists) number slot found → IsDamagedSlot cat page number slot found
replied_damage slots page cat top table index level at lists are number slot found damaged =
    let levels = levels_of cat.schema table in
    let level_is = are.level_is in
    let near = within_above levels level top at.above at.level_is in
    let rows_are : rows_at cat (above_of cat.schema table) lists.level ≡ count_of cat top =
    ap (rows_at cat (above_of cat.schema table)) level_is ∙ ap (count_of cat) (indexed_above levels level top at.above at.level_is) in
    slots page cat table at.there (some_above levels level top at.above at.level_is) index at.index_is lists
    (record { directory_is = are.directory_is; level = omega (arith, level_is, near); sound = are.sound; rows = omega (arith, are.most_is) }) number slot found
    (subst (λ rows. replied.IsDamaged page rows lists number slot found) (sym rows_are) damaged)
