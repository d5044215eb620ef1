-- A slot that a search blames is a damaged one.
use Rattle.std.proofs.Common.{◌≡◌, sym, ap, ◌∙◌, ℕ, ◌^◌, ◌<◌, Bool, true, false, not, inl, inr, List, length, arith}
use Rattle.ghost_model.specs.core.Schema.{is_empty}
use Rattle.ghost_model.specs.core.Values.{Database}
use Rattle.ghost_model.specs.core.Split.{Hidden, hidden_of}
use Rattle.ghost_model.specs.core.Channel.{Catalog}
use Rattle.ghost_model.specs.laws.LayoutLaws.{FilesLieAsSummed, LayoutIsSmall}
use Rattle.ghost_model.specs.laws.RunLaws.{NumbersAreRead}
use Rattle.ghost_model.specs.forms.Runs.{Run, record_at, number_in, page_of, slot_of, found_in}
use Rattle.ghost_model.specs.forms.Layout.{is_hidden, count_of, levels_of, above_of, IndexHeader, IndexDirectory, IndexLevel, IdDirectory, IdLevel}
use Rattle.ghost_model.specs.forms.Slots.{IsDamagedSlot, IsWrong}
use Rattle.ghost_base.specs.Runs.{run_of}
use Rattle.flash_pages.specs.declared.fault.PageFault.TheVariants.{Damaged}
use Rattle.climbing_index.specs.declared.index.ClimbingIndex.{ClimbingIndex}
use Rattle.climbing_index.specs.declared.index.IdIndex.{IdIndex}
use Rattle.climbing_index.specs.Directories.{HasDamage, FailsAt, entry_stands}
use Rattle.climbing_index.specs.Indexes.{IsIndexOf, IsIdIndexOf}
use Rattle.climbing_index.specs.Searches.{FailsIn, header_stands, header_count, rows_of}
use Rattle.climbing_index.specs.Holding.{HoldsIndexWhole, HoldsIdIndexWhole}
use Rattle.climbing_index.specs.Laws.{IsOf, DamageIsOfSlots, WholeIndexesHaveNoDamage}
use Rattle.climbing_index.proofs.HeldIndexes.{same_entry, same_id_entry}

pub in_index : FilesLieAsSummed → (page : ℕ → List ℕ) (cat : Catalog) (table column : ℕ) → is_hidden cat.schema table column ≡ true
    → (index : ClimbingIndex) → IsIndexOf cat table column index → (number slot found : ℕ)
    → FailsIn page index (Damaged number slot found) → IsDamagedSlot cat page number slot found
in_index laid page cat table column h index is number slot found fails =
    elim fails [
      | inl header ↦ record {
        file = IndexHeader table column;
        place = 0;
        at = record {
          has = h;
          within = omega arith;
          page_is = header.page_is ∙ ap (λ r. page_of r 0) is.header_is;
          slot_is = header.slot_is ∙ ap (λ r. slot_of r 0) is.header_is;
          damaged = inl ((λ i. header_stands (sym is.run_is i).count (record_at page (sym is.header_is i) 0)) ∙ header.wrong);
          found_is = header.found_is ∙ ap (λ r. found_in (record_at page r 0)) is.header_is;
        };
      }
      | inr bad ↦ (let place = bad.place in
          let rows : rows_of index ≡ count_of cat table = ap (λ r. r.count) is.run_is in
          let count = ap (λ r. number_in (record_at page r 0) 0) is.header_is in
          let low = bad.within in
          let room = bad.room in
          record {
            file = IndexDirectory table column;
            place = place;
            at = record {
              has = h;
              within = omega (arith, rows, count, low, room);
              page_is = bad.damage.page_is ∙ ap (λ r. page_of r place) is.run_is;
              slot_is = bad.damage.slot_is ∙ ap (λ r. slot_of r place) is.run_is;
              damaged =
                  inl
                  (sym (ap (λ r. entry_stands index.directory (record_at page r place)) is.run_is
                  ∙ same_entry cat (laid cat) table column h index is (record_at page _ place))
                  ∙ bad.damage.wrong);
              found_is = bad.damage.found_is ∙ ap (λ r. found_in (record_at page r place)) is.run_is;
            };
          })
    ]

in_id_index : FilesLieAsSummed → (page : ℕ → List ℕ) (cat : Catalog) (table : ℕ) → table < length cat.schema → is_empty (above_of cat.schema table) ≡ false
    → (index : IdIndex) → IsIdIndexOf cat table index → (entry : ℕ) → entry < count_of cat table → (number slot found : ℕ)
    → HasDamage page (run_of index.directory.run) (entry_stands index.directory) entry number slot found → IsDamagedSlot cat page number slot found
in_id_index laid page cat table there above index is entry low number slot found bad = record {
  file = IdDirectory table;
  place = entry;
  at = record {
    has = ap not above;
    within = low;
    page_is = bad.page_is ∙ ap (λ r. page_of r entry) is.run_is;
    slot_is = bad.slot_is ∙ ap (λ r. slot_of r entry) is.run_is;
    damaged =
        inl
        (sym (ap (λ r. entry_stands index.directory (record_at page r entry)) is.run_is
        ∙ same_id_entry cat (laid cat) table there index is (record_at page _ entry))
        ∙ bad.wrong);
    found_is = bad.found_is ∙ ap (λ r. found_in (record_at page r entry)) is.run_is;
  };
}

pub are_damaged : FilesLieAsSummed → DamageIsOfSlots
are_damaged laid = record {
  search = in_index laid;
  list = λ page cat table column h index is entry room low number slot found bad.
      in_index laid page cat table column h index is number slot found (inr (record { place = entry; within = low; room = room; damage = bad }));
  id_list = in_id_index laid;
}

-- nothing is wrong in a slot that may stand
not_wrong : (page : ℕ → List ℕ) (run : Run) (stands : List ℕ → Bool) (place number slot found : ℕ) → stands (record_at page run place) ≡ true
    → HasDamage page run stands place number slot found → ⊥
not_wrong page run stands place number slot found good bad = let clash = sym good ∙ bad.wrong in cc (clash)

module _ (laid : FilesLieAsSummed) (page : ℕ → List ℕ) (cat : Catalog) (hidden : Hidden) where
  module _ (table column : ℕ) (h : is_hidden cat.schema table column ≡ true) (values : List (List ℕ))
      (whole : HoldsIndexWhole page cat hidden table column values) (index : ClimbingIndex) (is : IsIndexOf cat table column index) where
    entry_good : (entry : ℕ) → entry < length values → entry_stands index.directory (record_at page (run_of index.directory.run) entry) ≡ true
    entry_good entry low =
        ap (λ r. entry_stands index.directory (record_at page r entry)) is.run_is
        ∙ (same_entry cat (laid cat) table column h index is (record_at page _ entry) ∙ (whole.entries entry low).stands)

    header_good : header_stands (rows_of index) (record_at page (run_of index.header) 0) ≡ true
    header_good = (λ i. header_stands (is.run_is i).count (record_at page (is.header_is i) 0)) ∙ whole.header.stands

    pub list_good : (entry : ℕ) → entry < length values → (number slot found : ℕ)
        → FailsAt page (run_of index.directory.run) (entry_stands index.directory) entry (Damaged number slot found) → ⊥
    list_good entry low number slot found bad =
        not_wrong page (run_of index.directory.run) (entry_stands index.directory) entry number slot found (entry_good entry low) bad

    pub search_good : NumbersAreRead → length values < 2 ^ 32 → (number slot found : ℕ) → FailsIn page index (Damaged number slot found) → ⊥
    search_good read small number slot found fails =
        elim fails [
          | inl bad ↦ not_wrong page (run_of index.header) (header_stands (rows_of index)) 0 number slot found header_good bad
          | inr bad ↦ (let count : header_count page index ≡ length values =
              ap (λ r. number_in (record_at page r 0) 0) is.header_is ∙ (ap (λ b. number_in b 0) whole.header.is ∙ read (length values) small) in
              let within = bad.within in
              list_good bad.place (omega (arith, within, count)) number slot found bad.damage)
        ]

  pub id_list_good : (table : ℕ) → table < length cat.schema → HoldsIdIndexWhole page cat hidden table → (index : IdIndex) → IsIdIndexOf cat table index
      → (entry : ℕ) → entry < count_of cat table → (number slot found : ℕ)
      → FailsAt page (run_of index.directory.run) (entry_stands index.directory) entry (Damaged number slot found) → ⊥
  id_list_good table there whole index is entry low number slot found bad =
      let good : entry_stands index.directory (record_at page (run_of index.directory.run) entry) ≡ true =
      ap (λ r. entry_stands index.directory (record_at page r entry)) is.run_is
      ∙ (same_id_entry cat (laid cat) table there index is (record_at page _ entry) ∙ (whole.entries entry low).stands) in
      not_wrong page (run_of index.directory.run) (entry_stands index.directory) entry number slot found good bad

-- no code that reading a list gets to is broken
abbrev CodesStand : Type 0
CodesStand =
    (page : ℕ → List ℕ) (cat : Catalog) (database : Database) → IsOf cat database
    → (table column : ℕ) → is_hidden cat.schema table column ≡ true
    → (values : List (List ℕ)) → HoldsIndexWhole page cat (hidden_of cat.schema database) table column values
    → (level : ℕ) → level < length (levels_of cat.schema table) → (place : ℕ)
    → IsWrong page cat (IndexLevel table column level) place → ⊥

abbrev IdCodesStand : Type 0
IdCodesStand =
    (page : ℕ → List ℕ) (cat : Catalog) (database : Database) → IsOf cat database → (table : ℕ) → table < length cat.schema
    → HoldsIdIndexWhole page cat (hidden_of cat.schema database) table
    → (level : ℕ) → level < length (above_of cat.schema table) → (place : ℕ)
    → IsWrong page cat (IdLevel table level) place → ⊥

pub no_damage : FilesLieAsSummed → LayoutIsSmall → NumbersAreRead → CodesStand → IdCodesStand → WholeIndexesHaveNoDamage
no_damage laid small read codes id_codes = record {
  code = codes;
  id_code = id_codes;
  search = λ page cat hidden limited table column h values whole index is number slot found.
      let million = (small.few cat limited).rows table in
      let most = whole.few in
      search_good laid page cat hidden table column h values whole index is read (omega (arith, million, most)) number slot found;
  list = λ page cat hidden table column h values whole index is entry low number slot found.
      list_good laid page cat hidden table column h values whole index is entry low number slot found;
  id_list = λ page cat hidden table there whole index is entry low number slot found.
      id_list_good laid page cat hidden table there whole index is entry low number slot found;
}
