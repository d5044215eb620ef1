-- The lists of the identifiers of a reply are those of its rows.
use Rattle.std.proofs.Common.{◌≡◌, ◌∙◌, ℕ, suc, ◌+◌, ◌-◌, ◌<◌, ◌≤◌, inl, inr, List, [], ◌∷◌, length, length-append, drop, get_or, ap, sym, subst, arith}
use Rattle.std.specs.List.{concat}
use Rattle.ghost_model.specs.core.Split.{hidden_of}
use Rattle.ghost_model.specs.laws.LayoutLaws.{FilesLieAsSummed, FilesLieInOrder, LayoutIsSmall, LevelsAreAncestors}
use Rattle.ghost_model.specs.laws.ListLaws.{IdListsPartition}
use Rattle.ghost_model.specs.laws.RunLaws.{NumbersAreRead}
use Rattle.ghost_model.specs.forms.Layout.{count_of, above_of}
use Rattle.climbing_index.specs.declared.directory.Directory.{Directory}
use Rattle.climbing_index.specs.Holding.{ids_at}
use Rattle.climbing_index.specs.Laws.{BrokenCodesAreDamaged, DamageIsOfSlots, ListsAreRead}
use Rattle.visible_spool.specs.Replies.{HoldsRows, id_of, id_of_bytes}
use Rattle.entry_lists.specs.declared.replies.ReplyLists.{ReplyLists}
use Rattle.entry_lists.specs.Entries.{HasEntry, HaveEntries}
use Rattle.entry_lists.specs.Laws.{rows_at}
use Rattle.entry_lists.specs.Replied.{RepliesHave, entries_of, id_before, looked_at}
use Rattle.entry_lists.specs.ReplyLaws.{AreBegun, AreListsOf, RepliesDamageSlots, RepliesHaveIdLists, lists_of}
use Rattle.entry_lists.proofs.ListSizes.{before, before_next, most, rises}
use Rattle.entry_lists.proofs.ValueLists.{id_entry, id_size, id_width_is}
use Rattle.entry_lists.proofs.DamagedLists.{directory_damage, id_code_damage}
use Rattle.ghost_model.proofs.LayoutLemmas.Limited.{limited_by}

-- rows whose identifiers ascend above one, up to another
pub record AreAbove (low high : ℕ) (rows : List (List ℕ)) : Type 0 where
  pub above : (place : ℕ) → place < length rows → low < id_of rows place
  pub ascend : (place later : ℕ) → place < later → later < length rows → id_of rows place < id_of rows later
  pub within : (place : ℕ) → place < length rows → id_of rows place ≤ high

rest_above : (low high : ℕ) (row : List ℕ) (rows : List (List ℕ)) → AreAbove low high (row ∷ rows) → AreAbove (id_of_bytes row) high rows
rest_above low high row rows are = record {
  above = λ place inside. are.ascend 0 (suc place) (omega arith) (omega (arith, inside));
  ascend = λ place later less inside. are.ascend (suc place) (suc later) (omega (arith, less)) (omega (arith, inside));
  within = λ place inside. are.within (suc place) (omega (arith, inside));
}

-- so their lists have no more identifiers together than all
few_replied : (all held : List (List ℕ)) (low high : ℕ) → AreAbove low high held → before all low + length (concat (lists_of all held)) ≤ length (concat all)
few_replied all [] low high are = omega (arith, most all low)
few_replied all (row ∷ held) low high are =
    let id = id_of_bytes row in
    let own = get_or all (id - 1) [] in
    let less : low < id = are.above 0 (omega arith) in
    let next : suc (id - 1) ≡ id = omega (arith, less) in
    let rest = few_replied all held id high (rest_above low high row held are) in
    omega (arith, length-append own (concat (lists_of all held)), before_next all (id - 1), ap (before all) next, rises all low (id - 1) (omega (arith, less)), rest)

-- each row has its list
have_replied :
    (page right : ℕ → List ℕ) (rows : ℕ) (directory : Directory) (level : ℕ) (all held : List (List ℕ)) (low high : ℕ) → AreAbove low high held
    → ((entry : ℕ) → entry < high → HasEntry page right rows directory level entry (get_or all entry []))
    → HaveEntries page right rows directory level (entries_of held) (lists_of all held)
have_replied page right rows directory level all [] low high are each = tt
have_replied page right rows directory level all (row ∷ held) low high are each = (
  each (id_of_bytes row - 1) (omega (arith, are.above 0 (omega arith), are.within 0 (omega arith))),
  have_replied page right rows directory level all held (id_of_bytes row) high (rest_above low high row held are) each,
)

module _ (page right : ℕ → List ℕ) (rows levels entries : ℕ) (directory : Directory) (lists : ReplyLists) (are : AreListsOf directory levels entries lists)
    (begun : AreBegun rows lists) (some : 0 < directory.run.width) (fits : directory.run.width ≤ 2048) (held : List (List ℕ)) (holds : HoldsRows page lists.reply held)
    (all : List (List ℕ)) (size : length (concat all) ≡ rows)
    (each : (entry : ℕ) → entry < entries → HasEntry page right rows directory lists.level entry (get_or all entry [])) where
  ids_are : AreAbove 0 entries held
  ids_are = record {
    above = holds.are.some;
    ascend = holds.are.ascend;
    within = λ place inside. omega (arith, holds.are.within place inside, are.rows);
  }

  all_have : RepliesHave page right rows lists (lists_of all held)
  all_have =
      let D : Directory → Type 0 = λ d. (entry : ℕ) → entry < entries → HasEntry page right rows d lists.level entry (get_or all entry []) in
      let G : ℕ → Type 0 = λ g. HaveEntries page right rows lists.directory lists.level (entries_of (drop g held)) (lists_of all held) in
      let width = ap (λ (d : Directory). d.run.width) are.directory_is in
      let none = ap (λ (xs : List ℕ). length xs) begun.ids in
      record {
        held = held;
        holds = holds;
        sound = are.sound;
        hand = record {
          ids = λ place from low. absurd (omega (arith, none, low));
          last = begun.last ∙ ap (id_before held) (let seen : 0 ≡ looked_at lists = omega (arith, none, begun.given) in seen);
        };
        some = omega (arith, width, some);
        fits = omega (arith, width, fits);
        have =
            subst G (sym begun.given)
            (have_replied page right rows lists.directory lists.level all held 0 entries ids_are (subst D (sym are.directory_is) each));
        few = omega (arith, few_replied all held 0 entries ids_are, size, begun.room);
      }

pub have_id_lists : LevelsAreAncestors → FilesLieAsSummed → FilesLieInOrder → LayoutIsSmall → NumbersAreRead → IdListsPartition → ListsAreRead → RepliesHaveIdLists
have_id_lists levels laid order small read partition lists_are page right cat database of table there whole but index is lists are begun held holds =
    let few = small.few cat (limited_by cat of.proper) in
    let narrow = small.narrow cat (limited_by cat of.proper).tree in
    let width = id_width_is cat database of levels (laid cat) (order cat) few read page right lists_are partition table there whole but index is lists.level are.level in
    all_have page right (rows_at cat (above_of cat.schema table) lists.level) (length (above_of cat.schema table)) (count_of cat table) index.directory lists are begun
    (omega (arith, width, are.level)) (omega (arith, width, narrow.id_directory table)) held holds
    (ids_at cat (hidden_of cat.schema database) table lists.level)
    (id_size cat database of levels (laid cat) (order cat) few read page right lists_are partition table there whole but index is lists.level are.level)
    (id_entry cat database of levels (laid cat) (order cat) few read page right lists_are partition table there whole but index is lists.level are.level)

pub replies_damage : DamageIsOfSlots → BrokenCodesAreDamaged → RepliesDamageSlots
replies_damage damage broken page cat table there above index is lists are number slot found damaged =
    elim damaged [
      | inl one ↦ damage.id_list page cat table there above index is (_ - 1)
          (let rows = ap (λ r. r.count) is.run_is in let same = ap (λ (d : Directory). d.run.count) are.directory_is in omega (arith, one.some, one.most, rows, same))
          number slot found (directory_damage page lists.directory index.directory are.directory_is _ number slot found one.damage)
      | inr code ↦ (
          let entry = code.may.entry in
          let rows = ap (λ r. r.count) is.run_is in
          let same = ap (λ (d : Directory). d.run.count) are.directory_is in
          let inside : entry < count_of cat table = omega (arith, code.may.is.there, rows, same) in
          id_code_damage broken page cat table there index is lists.directory are.directory_is lists.level are.level entry inside code.list code.may.is
          number slot found code.out)
    ]
