-- A slot may be blamed of each run that is read for the terms of a query by its plan, and for those of a set.
use Rattle.std.proofs.Common.{◌≡◌, ◌∙◌, ap, refl, sym, subst, ℕ, zero, suc, ◌+◌, ◌-◌, ◌<◌, ◌≤◌, inl, inr, Bool, true, false, not, ◌&&◌, ◌||◌, nat_eq, nat_le, nat_lt, List, [], ◌∷◌, length, drop, map, filter, get_or, slice_get, Option, None, Some, is_some, arith}
use Rattle.std.specs.Prelude.{◌==◌, ◌*◌, ◌⊎◌, if◌then◌else◌, position}
use Rattle.std.specs.List.{list_any, range_with_len}
use Rattle.std.specs.Option.{option_map_or}
use Rattle.std.proofs.lemmas.Bool.{and_parts, eqb-true, eq-eqb, le-leb, lt-ltb, ltb-true, ltb-false}
use Rattle.std.proofs.lemmas.Option.{slice_get_within}
use Rattle.ghost_model.specs.core.Schema.{Schema, is_empty}
use Rattle.ghost_model.specs.core.Channel.{Catalog}
use Rattle.ghost_model.specs.core.Query.{Condition, Field, Member, GroupMember, members_of, Query, Test, Compared, IsNull, IsNotNull, OneOf, Join}
use Rattle.ghost_model.specs.forms.Layout.{above_of, count_of, is_below, is_hidden, levels_of, scratch_end, spool_end, File, IndexHeader, IndexDirectory, IndexLevel, IdDirectory, IdLevel, run_of_file}
use Rattle.ghost_model.specs.forms.Runs.{Run, id_at, number_in, page_of}
use Rattle.ghost_model.specs.forms.Slots.{has_file}
use Rattle.ghost_model.specs.laws.LayoutLaws.{FilesLieInOrder, LevelsAreAncestors}
use Rattle.ghost_model.specs.laws.SchemaTrees.{IsTree}
use Rattle.ghost_model.specs.laws.ShortWords.{id_level, index_level}
use Rattle.ghost_model.proofs.MeaningLemmas.OneRow.{Among, from_filter}
use Rattle.ghost_base.specs.Runs.{run_of}
use Rattle.edge_traits.specs.Devices.{Device}
use Rattle.id_merge.specs.Since.{Since, MayBlame, Blamed, InOrder}
use Rattle.ghost_laws.specs.Asking.{is_gathered}
use Rattle.leakless_plan.specs.declared.form.Form.{Form}
use Rattle.leakless_plan.specs.declared.form.Form.TheVariants.{Pre, Post, CrossPre, CrossPost}
use Rattle.leakless_plan.specs.Choices.{crosses, form_of, form_with, forms_of, is_crossed, is_linked, may_cross, plain, unites}
use Rattle.flash_pages.proofs.ListFrames.{listed_by_width, listed_kept}
use Rattle.climbing_index.specs.declared.index.ClimbingIndex.{ClimbingIndex}
use Rattle.climbing_index.specs.declared.index.IdIndex.{IdIndex}
use Rattle.climbing_index.specs.declared.search.Group.{Group}
use Rattle.spill_pass.specs.Lists.{IsOrdered, id_of}
use Rattle.visible_spool.specs.declared.half.Half.{Half}
use Rattle.visible_spool.specs.declared.reply.Reply.{Reply as ReplyModel}
use Rattle.visible_spool.specs.Areas.{half_begin, half_end}
use Rattle.visible_spool.specs.Halves.{reply_of}
use Rattle.visible_spool.specs.Laws.{KeepsReply}
use Rattle.visible_spool.specs.Replies.{HoldsRows}
use Rattle.visible_spool.specs.Sparing.{IsHalf}
use Rattle.entry_lists.specs.Entries.{level_run}
use Rattle.entry_lists.specs.Given.{IndexMay}
use Rattle.entry_lists.proofs.ValueLists.{file_at}
use Rattle.condition_lists.specs.declared.term.GroupTerm.{GroupTerm}
use Rattle.condition_lists.specs.declared.term.Term.{Term}
use Rattle.condition_lists.specs.declared.term.Term.TheVariants.{Ranges, Entries, Identifiers, TopReply, Reply}
use Rattle.condition_lists.specs.Terms.{AreTableTerms, AreTermsBy, IsIndexAt, IsIdIndexAt, IsReplyTermOf, IsIdentifiersTerm, IsTermOf, IsTermOfTest, has_level, is_compared, is_listed, is_replied, is_united, listed_members, unites_whole}
use Rattle.condition_lists.proofs.FilterLemmas.{term_is_gathered}
use Rattle.condition_lists.proofs.PathLemmas.{joined}
use Rattle.condition_lists.proofs.MemberLemmas.{among_of}
use Rattle.condition_lists.proofs.PlaceLemmas.{found, its_condition, member_passes}
use Rattle.candidate_gathering.specs.searching.Begun.{rows_list}
use Rattle.candidate_gathering.specs.searching.Given.{SearchMay}
use Rattle.candidate_gathering.proofs.searching_lemmas.Places.{some_above, within_above}
use Rattle.candidate_gathering.specs.known.Known.{compares, is_at, is_gathered_of, is_member_of}
use Rattle.candidate_gathering.specs.known.Laws.{RunsMay}
use Rattle.candidate_gathering.specs.known.May.{ReplyMay, TermMay, TermsMay, files_in, is_column, is_run_read, is_same_run, lies_in, may_blame, since_for}
use Rattle.candidate_gathering.specs.known.Reading.{AreTaken, IsReadByForms, MayTake, crosses_at, has_ids, has_lists, has_set, is_read_by, may_unite, seeks_by}
use Rattle.candidate_gathering.proofs.known_lemmas.BlamedFiles.{above_first}
use Rattle.candidate_gathering.proofs.known_lemmas.TablesThere.{low_is_table}
use Rattle.candidate_gathering.proofs.known_lemmas.Listed.{before, behind, both, listed, same_run, some_of}

-- ---- runs

all_lie : (low high : ℕ) (run : Run) → ((place : ℕ) → place < run.count → (low ≤ page_of run place) × (page_of run place < high)) → lies_in low high run ≡ true
all_lie low high run inside = by (nat_lt 0 run.count) refl
  where
    by : (some : Bool) → nat_lt 0 run.count ≡ some → lies_in low high run ≡ true
    by true e =
        let some : 0 < run.count = ltb-true 0 run.count e in
        let first = inside 0 some in
        let last = inside (run.count - 1) (omega (arith, some)) in
        behind (nat_eq run.count 0) (nat_le low (page_of run 0) && nat_lt (page_of run (run.count - 1)) high)
        (both (nat_le low (page_of run 0)) (nat_lt (page_of run (run.count - 1)) high) (le-leb low (page_of run 0) first.0) (lt-ltb (page_of run (run.count - 1)) high last.1))
    by false e =
        let none : run.count ≤ 0 = ltb-false 0 run.count e in
        before (nat_eq run.count 0) (nat_le low (page_of run 0) && nat_lt (page_of run (run.count - 1)) high) (eq-eqb run.count 0 (omega (arith, none)))

module _ (cat : Catalog) (asked : Query) (forced : Option Form) (top side : ℕ) where
  files_may : FilesLieInOrder → (told : Bool) (file : File) → IsTree cat.schema → has_file cat.schema file ≡ true → is_column file ≡ false → IsReadByForms cat asked forced top file
      → may_blame told cat asked forced top side (run_of_file cat file) ≡ true
  files_may orders told file tree has other read =
      let run = run_of_file cat file in
      let replies = lies_in (half_begin cat side) (half_end cat side) run in
      let scratch = lies_in (spool_end cat) (scratch_end cat) run in
      before (list_any (is_run_read cat asked forced top run) (files_in cat.schema)) (not told && (nat_le 4 run.width && (replies || scratch)))
      (listed cat tree (orders cat) (is_run_read cat asked forced top run) file has
      (both (has_file cat.schema file) (not (is_column file) && (is_read_by cat asked forced top file && is_same_run run run)) has
      (both (not (is_column file)) (is_read_by cat asked forced top file && is_same_run run run) (ap not other)
      (both (is_read_by cat asked forced top file) (is_same_run run run) read (same_run run)))))

  spool_may : (run : Run) → 4 ≤ run.width → ((place : ℕ) → place < run.count → (half_begin cat side ≤ page_of run place) × (page_of run place < half_end cat side))
      → may_blame false cat asked forced top side run ≡ true
  spool_may run wide inside =
      let replies = lies_in (half_begin cat side) (half_end cat side) run in
      let scratch = lies_in (spool_end cat) (scratch_end cat) run in
      behind (list_any (is_run_read cat asked forced top run) (files_in cat.schema)) (nat_le 4 run.width && (replies || scratch))
      (both (nat_le 4 run.width) (replies || scratch) (le-leb 4 run.width wide) (before replies scratch (all_lie (half_begin cat side) (half_end cat side) run inside)))

  scratch_may : (run : Run) → 4 ≤ run.width → ((place : ℕ) → place < run.count → (spool_end cat ≤ page_of run place) × (page_of run place < scratch_end cat))
      → may_blame false cat asked forced top side run ≡ true
  scratch_may run wide inside =
      let replies = lies_in (half_begin cat side) (half_end cat side) run in
      let scratch = lies_in (spool_end cat) (scratch_end cat) run in
      behind (list_any (is_run_read cat asked forced top run) (files_in cat.schema)) (nat_le 4 run.width && (replies || scratch))
      (both (nat_le 4 run.width) (replies || scratch) (le-leb 4 run.width wide) (behind replies scratch (all_lie (spool_end cat) (scratch_end cat) run inside)))

-- ---- replies

-- the rows of a reply ascend, whose records are wider than a code
rows_ascend : (page : ℕ → List ℕ) (reply : ReplyModel) → 4 ≤ reply.run.width → (held : List (List ℕ)) (rows : ℕ) → HoldsRows page reply held → (0 < reply.run.count → reply.rows ≡ rows)
    → IsOrdered page page rows (rows_list reply)
rows_ascend page reply wide held rows holds same = record {
  above = λ i low. let e = id_is i low in let some = holds.are.some i (within i low) in omega (arith, e, some);
  order = λ i j less low. let e = id_is i (omega (arith, less, low)) in let f = id_is j low in let up = holds.are.ascend i j less (within j low) in omega (arith, e, f, up);
  within = λ i low. let e = id_is i low in let most = holds.are.within i (within i low) in let rest = same (omega (arith, low)) in omega (arith, e, most, rest);
  same = λ i low some most. refl;
}
  where
    within : (i : ℕ) → i < reply.run.count → i < length held
    within i low = let count = holds.has.count in omega (arith, count, low)

    id_is : (i : ℕ) → (low : i < reply.run.count) → id_of page (rows_list reply) i ≡ number_in (get_or held i []) 0
    id_is i low =
        let here : 0 + i ≡ i = omega arith in
        listed_by_width page (run_of reply.run) 0 i wide
        ∙ (ap (id_at page (run_of reply.run)) here ∙ ap (λ bytes. number_in bytes 0) (holds.has.each i low))

module _ (calls : ℕ) (cat : Catalog) (asked : Query) (forced : Option Form) (top side : ℕ) (half : Half) (device : Device) (table : ℕ) where
  reply_with : (told : Bool) (rows : ℕ) → IsHalf told cat side device half → table < 12 → (0 < (reply_of half table).run.count → (reply_of half table).rows ≡ rows)
      → ReplyMay (since_for told calls cat asked forced top side) half device.page rows table
  reply_with true rows is there same =
      let whole = is.whole refl table there in
      record {
        there = there;
        few = few;
        may = InOrder refl (rows_ascend device.page (reply_of half table) (is.readable table there).sound.wide whole.rows rows whole.holds same);
      }
    where
      few : (reply_of half table).run.count ≤ rows
      few = by (nat_lt 0 (reply_of half table).run.count) refl
        where
          by : (some : Bool) → nat_lt 0 (reply_of half table).run.count ≡ some → (reply_of half table).run.count ≤ rows
          by true e = let rest = same (ltb-true 0 (reply_of half table).run.count e) in let most = (is.readable table there).sound.few in omega (arith, rest, most)
          by false e = let none = ltb-false 0 (reply_of half table).run.count e in omega (arith, none)
  reply_with false rows is there same = record {
    there = there;
    few = few;
    may = Blamed (spool_may cat asked forced top side (run_of (reply_of half table).run) (is.readable table there).sound.wide (is.lies table there));
  }
    where
      few : (reply_of half table).run.count ≤ rows
      few = by (nat_lt 0 (reply_of half table).run.count) refl
        where
          by : (some : Bool) → nat_lt 0 (reply_of half table).run.count ≡ some → (reply_of half table).run.count ≤ rows
          by true e = let rest = same (ltb-true 0 (reply_of half table).run.count e) in let most = (is.readable table there).sound.few in omega (arith, rest, most)
          by false e = let none = ltb-false 0 (reply_of half table).run.count e in omega (arith, none)

  reply_may : (told : Bool) → IsHalf told cat side device half → table < 12 → ReplyMay (since_for told calls cat asked forced top side) half device.page (count_of cat table) table
  reply_may told is there = reply_with told (count_of cat table) is there (is.rows table there)

  own_may : (told : Bool) → IsHalf told cat side device half → table < 12 → ReplyMay (since_for told calls cat asked forced top side) half device.page (reply_of half table).rows table
  own_may told is there = reply_with told (reply_of half table).rows is there (λ some. refl)

-- ---- indexes

in_above : (levels : List ℕ) (top : ℕ) → list_any (λ above. above == top) (drop 1 levels) ≡ true → (level : ℕ) × (1 ≤ level) × (slice_get levels level ≡ Some top)
in_above [] top any = absurd (cc any)
in_above (first ∷ later) top any =
    let one = some_of (λ above. above == top) later any in
    (suc one.at, omega arith, one.is ∙ ap Some (eqb-true one.item top one.passes))

module _ (levels : LevelsAreAncestors) (schema : Schema) (tree : IsTree schema) where
  -- a table below one that lies below another lies below that
  below_both : (top middle table level : ℕ) → table < length schema → 1 ≤ level → slice_get (levels_of schema table) level ≡ Some middle → middle < length schema → is_below schema top middle ≡ true
      → is_below schema top table ≡ true
  below_both top middle table level there some at inside below =
      let up = in_above (levels_of schema middle) top below in
      let low = sym (levels schema tree table level there) ∙ at in
      let high = sym (levels schema tree middle up.0 inside) ∙ up.2 in
      let way = joined schema level up.0 (level + up.0) top middle table refl low high in
      above_first (levels_of schema table) (level + up.0) top (omega (arith, some)) (levels schema tree table (level + up.0) there ∙ way)

module _ (orders : FilesLieInOrder) (levels : LevelsAreAncestors) (told : Bool) (calls : ℕ) (cat : Catalog) (asked : Query) (forced : Option Form) (top side : ℕ) (tree : IsTree cat.schema) where
  abbrev since : Since
  since = since_for told calls cat asked forced top side

  may_file : (file : File) (run : Run) → run ≡ run_of_file cat file → has_file cat.schema file ≡ true → is_column file ≡ false → is_read_by cat asked forced top file ≡ true → since.may run ≡ true
  may_file file run same has other read = ap since.may same ∙ files_may cat asked forced top side orders told file tree has other read

  -- the index of a hidden column, at a table at which lists are read
  entries_may : (at table column : ℕ) (index : ClimbingIndex) (level : ℕ) → IsIndexAt cat at table column index level → compares cat.schema asked table column ≡ true
      → has_lists cat.schema asked forced top at ≡ true → SearchMay since index × IndexMay since index.directory level
  entries_may at table column index level is compared lists =
      let low = slice_get_within (levels_of cat.schema table) level at is.level_is in
      let directory = may_file (IndexDirectory table column) (run_of index.directory.run) is.index_is.run_is is.hidden refl compared in
      let level_read = ap (λ found. option_map_or (has_lists cat.schema asked forced top) found false) is.level_is ∙ lists in (
        record {
          header = may_file (IndexHeader table column) (run_of index.header) is.index_is.header_is is.hidden refl compared;
          entries = directory;
        },
        record {
          entries = directory;
          lists =
              may_file (IndexLevel table column level) (run_of (level_run index.directory level))
              (file_at (index_level cat table column) (length (levels_of cat.schema table)) index.directory is.index_is.levels_are level low)
              (both (is_hidden cat.schema table column) (nat_lt level (length (levels_of cat.schema table))) is.hidden (lt-ltb level (length (levels_of cat.schema table)) low)) refl
              (both (compares cat.schema asked table column) (option_map_or (has_lists cat.schema asked forced top) (slice_get (levels_of cat.schema table) level) false) compared level_read);
        },
      )

  -- the index of a table's identifiers, at another table
  ids_at_table : (at table : ℕ) (index : IdIndex) (level : ℕ) → IsIdIndexAt cat at table index level → is_below cat.schema top table ≡ true → seeks_by cat.schema asked forced table ≡ true
      → has_ids cat.schema asked forced top table at ≡ true → IndexMay since index.directory (level - 1)
  ids_at_table at table index level is below sought has =
      let low = within_above (levels_of cat.schema table) level at is.above is.level_is in
      let next : level - 1 + 1 ≡ level = let above = is.above in omega (arith, above) in
      let F : Option ℕ → Bool = λ found. option_map_or (has_ids cat.schema asked forced top table) found false in
      record {
        entries =
            may_file (IdDirectory table) (run_of index.directory.run) is.index_is.run_is (ap not (some_above (levels_of cat.schema table) level at is.above is.level_is)) refl
            (both (is_below cat.schema top table) (seeks_by cat.schema asked forced table) below sought);
        lists =
            may_file (IdLevel table (level - 1)) (run_of (level_run index.directory (level - 1)))
            (file_at (id_level cat table) (length (above_of cat.schema table)) index.directory is.index_is.levels_are (level - 1) low)
            (lt-ltb (level - 1) (length (above_of cat.schema table)) low) refl
            (ap (λ l. F (slice_get (levels_of cat.schema table) l)) next ∙ (ap F is.level_is ∙ has));
      }

  pub ids_may : (table : ℕ) (index : IdIndex) (level : ℕ) → IsIdIndexAt cat top table index level → seeks_by cat.schema asked forced table ≡ true → IndexMay since index.directory (level - 1)
  ids_may table index level is sought =
      ids_at_table top table index level is (above_first (levels_of cat.schema table) level top is.above is.level_is) sought
      (before (nat_eq top top && seeks_by cat.schema asked forced table) (has_set cat.schema asked forced top top && compares cat.schema asked table 0)
      (both (nat_eq top top) (seeks_by cat.schema asked forced table) (eq-eqb top top refl) sought))

-- ---- terms

any_among : {X : Type 0} (test : X → Bool) (xs : List X) (x : X) → Among x xs → test x ≡ true → list_any test xs ≡ true
any_among test [] x among passes = absurd among
any_among test (y ∷ xs) x among passes =
    elim among [
      | inl e ↦ before (test y) (list_any test xs) (ap test e ∙ passes)
      | inr later ↦ behind (test y) (list_any test xs) (any_among test xs x later passes)
    ]

any_some : {X : Type 0} (test : X → Bool) (xs : List X) → list_any test xs ≡ true → is_empty xs ≡ false
any_some test [] any = absurd (cc any)
any_some test (x ∷ xs) any = refl

is_member : (condition : Condition) (one : GroupMember) → Among one (members_of condition) → is_member_of one.member.field.table one.member.field.column condition ≡ true
is_member (Join left right) one among = absurd among
is_member (OneOf first others) one among =
    let wanted = one.member.field in
    member_passes (λ (m : Member). is_at wanted.table wanted.column m.field) first others one among
    (both (nat_eq wanted.table wanted.table) (nat_eq wanted.column wanted.column) (eq-eqb wanted.table wanted.table refl) (eq-eqb wanted.column wanted.column refl))

compared_by : (schema : Schema) (asked : Query) (condition : Condition) (one : GroupMember) → Among condition asked.conditions → Among one (members_of condition)
    → is_gathered schema condition ≡ true → compares schema asked one.member.field.table one.member.field.column ≡ true
compared_by schema asked condition one among held gathered =
    let wanted = one.member.field in
    any_among (is_gathered_of schema wanted.table wanted.column) asked.conditions condition among
    (both (is_gathered schema condition) (is_member_of wanted.table wanted.column condition) gathered (is_member condition one held))

level_there : (schema : Schema) (top table : ℕ) → has_level schema top table ≡ true → table < length schema
level_there schema top table has = by (nat_lt table (length schema)) refl has
  where
    by : (b : Bool) → nat_lt table (length schema) ≡ b → is_some (if b then position (λ other. nat_eq other top) (levels_of schema table) else None) ≡ true → table < length schema
    by true e some = ltb-true table (length schema) e
    by false e some = absurd (cc some)

module _ (orders : FilesLieInOrder) (levels : LevelsAreAncestors) (told : Bool) (calls : ℕ) (cat : Catalog) (asked : Query) (forced : Option Form) (top side : ℕ) (half : Half) (device : Device)
    (tree : IsTree cat.schema) (is_half : IsHalf told cat side device half) where
  abbrev S : Since
  S = since_for told calls cat asked forced top side

  few_tables : (table : ℕ) → table < length cat.schema → table < 12
  few_tables table there = let few = tree.few_tables in omega (arith, there, few)

  no_return : (at level : ℕ) (index : IdIndex) → IsIdIndexAt cat at at index level → ⊥
  no_return at level index is =
      tree.no_cycle at (record {
        steps = level;
        moves = let above = is.above in omega (arith, above);
        back = sym (levels cat.schema tree at level is.there) ∙ is.level_is;
      })

  -- a table at which lists are read: the top one, or one where a set is gathered
  module _ (at : ℕ) (here : (at ≡ top) ⊎ (has_set cat.schema asked forced top at ≡ true)) where
    lists_here : has_lists cat.schema asked forced top at ≡ true
    lists_here =
        elim here [
          | inl e ↦ before (nat_eq at top) (has_set cat.schema asked forced top at) (eq-eqb at top e)
          | inr set ↦ behind (nat_eq at top) (has_set cat.schema asked forced top at) set
        ]

    below_here : (table level : ℕ) (index : IdIndex) → IsIdIndexAt cat at table index level → is_below cat.schema top table ≡ true
    below_here table level index is =
        elim here [
          | inl e ↦ (let L : ℕ → Type 0 = λ t. is_below cat.schema t table ≡ true in subst L e (above_first (levels_of cat.schema table) level at is.above is.level_is))
          | inr set ↦ (
              let below = (and_parts (is_below cat.schema top at) (is_compared cat.schema asked at && crosses_at cat.schema asked forced at) set).0 in
              let inside = low_is_table cat.schema tree at (any_some (λ above. above == top) (above_of cat.schema at) below) in
              below_both levels cat.schema tree top at table level is.there is.above is.level_is inside below)
        ]

    ids_here : (table level : ℕ) (index : IdIndex) → IsIdIndexAt cat at table index level → compares cat.schema asked table 0 ≡ true → IndexMay S index.directory (level - 1)
    ids_here table level index is compared =
        let sought = before (compares cat.schema asked table 0) (is_compared cat.schema asked table && may_unite forced) compared in
        ids_at_table orders levels told calls cat asked forced top side tree at table index level is (below_here table level index is) sought
        (elim here [
          | inl e ↦ before (nat_eq at top && seeks_by cat.schema asked forced table) (has_set cat.schema asked forced top at && compares cat.schema asked table 0)
              (both (nat_eq at top) (seeks_by cat.schema asked forced table) (eq-eqb at top e) sought)
          | inr set ↦ behind (nat_eq at top && seeks_by cat.schema asked forced table) (has_set cat.schema asked forced top at && compares cat.schema asked table 0)
              (both (has_set cat.schema asked forced top at) (compares cat.schema asked table 0) set compared)
        ])

    identifiers_may : (wanted : Field) (test : Test) (index : IdIndex) (level : ℕ) (first second : Group) → compares cat.schema asked wanted.table wanted.column ≡ true
        → IsIdentifiersTerm cat at wanted test index level first second → IndexMay S index.directory (level - 1)
    identifiers_may wanted IsNull index level first second compared is = absurd is
    identifiers_may wanted IsNotNull index level first second compared is = absurd is
    identifiers_may wanted (Compared operator literal) index level first second compared is =
        let C : ℕ → Type 0 = λ c. compares cat.schema asked wanted.table c ≡ true in
        ids_here wanted.table level index is.index_at (subst C is.column_is compared)

    test_may : (wanted : Field) (test : Test) (term : Term) → compares cat.schema asked wanted.table wanted.column ≡ true → IsTermOfTest cat at wanted test term
        → TermMay S half device.page at (count_of cat at) term
    test_may wanted test (Ranges first second) compared is = tt
    test_may wanted test (Entries table column index level bounds) compared is =
        entries_may orders levels told calls cat asked forced top side tree at wanted.table wanted.column index level is.2.index_at compared lists_here
    test_may wanted test (Identifiers table index level first second) compared is = identifiers_may wanted test index level first second compared is.1
    test_may wanted test TopReply compared is = absurd is
    test_may wanted test (Reply table index level) compared is = absurd is

    condition_may : (condition : Condition) (term : Term) → Among condition asked.conditions → is_listed cat.schema at condition ≡ true → IsTermOf cat at condition term
        → TermMay S half device.page at (count_of cat at) term
    condition_may condition term among listed is =
        test_may is.one.member.field is.one.member.test term
        (compared_by cat.schema asked condition is.one among (among_of (members_of condition) is.one is.among) (term_is_gathered cat.schema at condition listed)) is.is

  -- the reply of the table itself
  own_reply_may : (at : ℕ) → at < length cat.schema → ReplyMay S half device.page (count_of cat at) at
  own_reply_may at there = reply_may calls cat asked forced top side half device at told is_half (few_tables at there)

  -- the reply of a table that a form unites at the top table
  united_may : (forms : List (Option Form)) → AreTaken cat.schema asked forced forms → (table : ℕ) (term : Term) → is_replied cat.schema asked forms top table ≡ true → IsReplyTermOf cat top table term
      → TermMay S half device.page top (count_of cat top) term
  united_may forms taken table (Ranges first second) replied is = absurd is
  united_may forms taken table (Entries other column index level bounds) replied is = absurd is
  united_may forms taken table (Identifiers other index level first second) replied is = absurd is
  united_may forms taken table TopReply replied is =
      let first = (and_parts (is_compared cat.schema asked table && has_level cat.schema top table) (is_united forms top table) replied).0 in
      let there = level_there cat.schema top table (and_parts (is_compared cat.schema asked table) (has_level cat.schema top table) first).1 in
      own_reply_may top (let e : table ≡ top = is in omega (arith, e, there))
  united_may forms taken table (Reply other index level) replied is =
      let parts = and_parts (is_compared cat.schema asked table && has_level cat.schema top table) (is_united forms top table) replied in
      let compared = (and_parts (is_compared cat.schema asked table) (has_level cat.schema top table) parts.0).0 in
      let rows : index.directory.run.count ≡ count_of cat table = ap (λ (r : Run). r.count) is.1.index_is.run_is in
      let R : ℕ → Type 0 = λ n. ReplyMay S half device.page n table in
      let T : ℕ → Type 0 = λ t. ReplyMay S half device.page index.directory.run.count t in
      let reply = subst T (sym is.0) (subst R (sym rows) (own_reply_may table is.1.there)) in
      let sought = behind (compares cat.schema asked table 0) (is_compared cat.schema asked table && may_unite forced)
      (both (is_compared cat.schema asked table) (may_unite forced) compared (united (nat_eq table top) refl parts.1)) in
      (reply, ids_may orders levels told calls cat asked forced top side tree table index level is.1 sought)
    where
      by_form : (found : Option Form) → get_or forms table None ≡ found → option_map_or unites_whole found false ≡ true → may_unite forced ≡ true
      by_form None e u = absurd (cc u)
      by_form (Some form) e u = (taken table form e).unites (and_parts (unites form) (not (crosses form)) u).0

      united : (own : Bool) → nat_eq table top ≡ own → (own || option_map_or unites_whole (get_or forms table None) false) ≡ true → may_unite forced ≡ true
      united true e u = let I : ℕ → Type 0 = λ t. IsIdIndexAt cat top t index level in absurd (no_return top level index (subst I (eqb-true table top e) is.1))
      united false e u = by_form (get_or forms table None) refl u

  terms_may : (forms : List (Option Form)) (terms : List GroupTerm) → AreTaken cat.schema asked forced forms → AreTermsBy cat asked forms (Some top) terms → TermsMay S half device.page top (count_of cat top) terms
  terms_may forms terms taken are place term at =
      elim (found cat top (listed_members cat.schema top asked.conditions) (filter (is_replied cat.schema asked forms top) asked.from) terms are place term at) [
        | inl of ↦ (
            let one = its_condition cat top (filter (is_listed cat.schema top) asked.conditions) term of in
            let from = from_filter (is_listed cat.schema top) one.condition asked.conditions one.among in
            condition_may top (inl refl) one.condition term.term from.0 from.1 one.is)
        | inr other ↦ united_may forms taken other.table term.term (from_filter (is_replied cat.schema asked forms top) other.table asked.from other.among).1 other.is.is
      ]

  set_may : (table : ℕ) (terms : List GroupTerm) → has_set cat.schema asked forced top table ≡ true → AreTableTerms cat asked table terms → TermsMay S half device.page table (count_of cat table) terms
  set_may table terms set are place term at =
      elim (found cat table (listed_members cat.schema table asked.conditions) (table ∷ []) terms are place term at) [
        | inl of ↦ (
            let one = its_condition cat table (filter (is_listed cat.schema table) asked.conditions) term of in
            let from = from_filter (is_listed cat.schema table) one.condition asked.conditions one.among in
            condition_may table (inr set) one.condition term.term from.0 from.1 one.is)
        | inr other ↦ (
            let own : table ≡ other.table = elim other.among [ inl e ↦ e | inr none ↦ absurd none ] in
            let I : ℕ → Type 0 = λ t. IsReplyTermOf cat table t term.term in
            own_may_at term.term (subst I (sym own) other.is.is))
      ]
    where
      there : table < length cat.schema
      there =
          let below = (and_parts (is_below cat.schema top table) (is_compared cat.schema asked table && crosses_at cat.schema asked forced table) set).0 in
          low_is_table cat.schema tree table (any_some (λ above. above == top) (above_of cat.schema table) below)

      own_may_at : (term : Term) → IsReplyTermOf cat table table term → TermMay S half device.page table (count_of cat table) term
      own_may_at (Ranges first second) is = absurd is
      own_may_at (Entries other column index level bounds) is = absurd is
      own_may_at (Identifiers other index level first second) is = absurd is
      own_may_at TopReply is = own_reply_may table there
      own_may_at (Reply other index level) is = absurd (no_return table level index is.1)

-- ---- forms

with_form : (forced : Option Form) (crossing : Bool) (replied rows : ℕ) (form : Form) → form_with crossing forced replied rows ≡ form
    → (unites form ≡ true → may_unite forced ≡ true) × (crosses form ≡ true → (may_cross forced && crossing) ≡ true)
with_form None true replied rows form e = (λ u. refl, λ c. refl)
with_form None false replied rows form e = (λ u. refl, λ c. absurd (plain_by (nat_le (10 * replied) rows) (ap crosses e ∙ c)))
  where
    plain_by : (few : Bool) → crosses (if few then Pre else Post) ≡ true → ⊥
    plain_by true c = cc c
    plain_by false c = cc c
with_form (Some one) true replied rows form e = (λ u. ap unites e ∙ u, λ c. both (crosses one) true (ap crosses e ∙ c) refl)
with_form (Some one) false replied rows form e = (λ u. unites_still one (ap unites e ∙ u), λ c. absurd (never one (ap crosses e ∙ c)))
  where
    unites_still : (one : Form) → unites (plain one) ≡ true → unites one ≡ true
    unites_still Pre u = u
    unites_still Post u = u
    unites_still CrossPre u = u
    unites_still CrossPost u = u

    never : (one : Form) → crosses (plain one) ≡ true → ⊥
    never Pre c = cc c
    never Post c = cc c
    never CrossPre c = cc c
    never CrossPost c = cc c

form_at : (f : ℕ → Option Form) (from count at : ℕ) (form : Form) → get_or (map f (range_with_len from count)) at None ≡ Some form → f (from + at) ≡ Some form
form_at f from zero at form e = absurd (cc e)
form_at f from (suc count) zero form e = let here : from + 0 ≡ from = omega arith in ap f here ∙ e
form_at f from (suc count) (suc at) form e = let later : from + suc at ≡ from + 1 + at = omega arith in ap f later ∙ form_at f (from + 1) count at form e

taken_by : (cat : Catalog) (asked : Query) (replied : List ℕ) (forced : Option Form) → AreTaken cat.schema asked forced (forms_of cat asked replied forced)
taken_by cat asked replied forced table form e =
    let here : 0 + table ≡ table = omega arith in
    by (is_linked cat.schema asked table) (sym (ap (form_of cat asked replied forced) here) ∙ form_at (form_of cat asked replied forced) 0 (length cat.schema) table form e)
  where
    by : (linked : Bool) → (if linked then Some (form_with (is_crossed cat.schema asked table) forced (get_or replied table 0) (count_of cat table)) else None) ≡ Some form
        → MayTake cat.schema asked forced table form
    by true e =
        let one : form_with (is_crossed cat.schema asked table) forced (get_or replied table 0) (count_of cat table) ≡ form = cc in
        let may = with_form forced (is_crossed cat.schema asked table) (get_or replied table 0) (count_of cat table) form one in
        record { unites = may.0; crosses = may.1 }
    by false e = absurd (cc e)

-- ---- what stays

ordered_still : (page now : ℕ → List ℕ) (rows : ℕ) (reply : ReplyModel) → KeepsReply page now reply → IsOrdered page page rows (rows_list reply) → IsOrdered now now rows (rows_list reply)
ordered_still page now rows reply keeps is = record {
  above = λ i low. let e = id_is i low in let some = is.above i low in omega (arith, e, some);
  order = λ i j less low. let e = id_is i (omega (arith, less, low)) in let f = id_is j low in let up = is.order i j less low in omega (arith, e, f, up);
  within = λ i low. let e = id_is i low in let most = is.within i low in omega (arith, e, most);
  same = λ i low some most. refl;
}
  where
    id_is : (i : ℕ) → i < reply.run.count → id_of now (rows_list reply) i ≡ id_of page (rows_list reply) i
    id_is i low = listed_kept page now (run_of reply.run) 0 i (omega (arith, low)) keeps

reply_still : (since : Since) (half : Half) (page now : ℕ → List ℕ) (rows table : ℕ) → KeepsReply page now (reply_of half table) → ReplyMay since half page rows table → ReplyMay since half now rows table
reply_still since half page now rows table keeps is = record { there = is.there; few = is.few; may = by is.may }
  where
    by : MayBlame since (run_of (reply_of half table).run) (IsOrdered page page rows (rows_list (reply_of half table)))
        → MayBlame since (run_of (reply_of half table).run) (IsOrdered now now rows (rows_list (reply_of half table)))
    by (Blamed may) = Blamed may
    by (InOrder is_told order) = InOrder is_told (ordered_still page now rows (reply_of half table) keeps order)

term_still : (since : Since) (half : Half) (page now : ℕ → List ℕ) (top rows : ℕ) → ((table : ℕ) → table < 12 → KeepsReply page now (reply_of half table))
    → (term : Term) → TermMay since half page top rows term → TermMay since half now top rows term
term_still since half page now top rows keeps (Ranges first second) may = tt
term_still since half page now top rows keeps (Entries table column index level bounds) may = may
term_still since half page now top rows keeps (Identifiers table index level first second) may = may
term_still since half page now top rows keeps TopReply may = reply_still since half page now rows top (keeps top may.there) may
term_still since half page now top rows keeps (Reply table index level) may = (reply_still since half page now index.directory.run.count table (keeps table may.0.there) may.0, may.1)

pub runs_may : FilesLieInOrder → LevelsAreAncestors → RunsMay
runs_may orders levels = record {
  files = λ told cat asked forced top side file tree has other read. files_may cat asked forced top side orders told file tree has other read;
  spool = λ cat asked forced top side run wide inside. spool_may cat asked forced top side run wide inside;
  scratch = λ cat asked forced top side run wide inside. scratch_may cat asked forced top side run wide inside;
  reply = λ told calls cat asked forced top side half device table is there. reply_may calls cat asked forced top side half device table told is there;
  own_reply = λ told calls cat asked forced top side half device table is there. own_may calls cat asked forced top side half device table told is there;
  ids = λ told calls cat asked forced top side table index level tree is sought. ids_may orders levels told calls cat asked forced top side tree table index level is sought;
  terms = λ told calls cat asked forced top side half device forms terms tree is taken are. terms_may orders levels told calls cat asked forced top side half device tree is forms terms taken are;
  set = λ told calls cat asked forced top side half device table terms tree is has are. set_may orders levels told calls cat asked forced top side half device tree is table terms has are;
  set_at = λ cat asked forced top table form below compared may crossing.
      both (is_below cat.schema top table) (is_compared cat.schema asked table && crosses_at cat.schema asked forced table) below
      (both (is_compared cat.schema asked table) (crosses_at cat.schema asked forced table) compared (may.crosses crossing));
  taken = taken_by;
  reply_stays = reply_still;
  stay = λ since half page now top rows terms keeps may place term at. term_still since half page now top rows keeps term.term (may place term at);
}
