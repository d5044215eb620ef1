-- Pages that have in each slot what others had hold of an index what those held.
use Rattle.std.proofs.Common.{◌≡◌, refl, sym, ap, ◌∙◌, ℕ, ◌+◌, ◌<◌, Bool, true, false, not, ◌&&◌, nat_lt, inl, inr, List, length, get_or, slice_index, arith}
use Rattle.std.proofs.lemmas.Bool.{lt-ltb}
use Rattle.ghost_model.specs.core.Schema.{is_empty}
use Rattle.ghost_model.specs.core.Channel.{Catalog}
use Rattle.ghost_model.specs.core.Split.{Hidden}
use Rattle.ghost_model.specs.forms.Runs.{Run}
use Rattle.ghost_model.specs.forms.Gaps.{code_in, code_of, code_place, gaps_of, rest_at, ReadsCode}
use Rattle.ghost_model.specs.forms.Layout.{is_hidden, count_of, levels_of, above_of, File, IndexHeader, IndexDirectory, IndexLevel, IdDirectory, IdLevel}
use Rattle.ghost_model.specs.forms.Slots.{code_stands, has_file, in_slot, level_room, may_stand}
use Rattle.ghost_model.specs.laws.ShortWords.{id_level, index_level}
use Rattle.ghost_model.specs.laws.LayoutLaws.{AreFew, LayoutIsSmall}
use Rattle.ghost_model.specs.laws.ListLaws.{ListsAscend}
use Rattle.ghost_model.specs.laws.GapLaws.{AreLevelLists, LevelFilesFit}
use Rattle.climbing_index.specs.Holding.{HasRecord, HasRecordBut, HoldsIndexBut, HoldsIndexWhole, HoldsIdIndexBut, HoldsIdIndexWhole, ids_at, values_at}
use Rattle.climbing_index.specs.Laws.{HaveSameSlots, HeldIndexesStay, ReadingsStay}
use Rattle.climbing_index.proofs.LevelFiles.{id_level_room, index_level_room}
use Rattle.climbing_index.proofs.Codes.{bytes_fit, code_stands_before}
use Rattle.climbing_index.proofs.Readings.{code_inside, code_same, filling_same, of_codes, reading_same}
use Rattle.ghost_model.proofs.LayoutLemmas.Limited.{limited_by}

has_level : (cat : Catalog) (table column level : ℕ) → is_hidden cat.schema table column ≡ true → level < length (levels_of cat.schema table)
    → has_file cat.schema (IndexLevel table column level) ≡ true
has_level cat table column level h low = ap (λ b. b && nat_lt level (length (levels_of cat.schema table))) h ∙ lt-ltb level (length (levels_of cat.schema table)) low

has_id_level : (cat : Catalog) (table level : ℕ) → level < length (above_of cat.schema table) → has_file cat.schema (IdLevel table level) ≡ true
has_id_level cat table level low = lt-ltb level (length (above_of cat.schema table)) low

-- ---- records and codes

module _ (page now : ℕ → List ℕ) (cat : Catalog) (file : File) where
  record_stays : (place : ℕ) (bytes : List ℕ) → in_slot now cat file place ≡ in_slot page cat file place → HasRecord page cat file place bytes → HasRecord now cat file place bytes
  record_stays place bytes same has = record { is = same ∙ has.is; stands = ap (may_stand cat file) same ∙ has.stands }

  record_but_stays : (place : ℕ) (bytes : List ℕ) → in_slot now cat file place ≡ in_slot page cat file place → HasRecordBut page cat file place bytes
      → HasRecordBut now cat file place bytes
  record_but_stays place bytes same has =
      elim has [
        | inl is ↦ inl (same ∙ is)
        | inr wrong ↦ inr (ap (may_stand cat file) same ∙ wrong)
      ]

module _ (page now : ℕ → List ℕ) (run : Run) (same : (place : ℕ) → place < run.count → rest_at now run.first place ≡ rest_at page run.first place) (gaps : List ℕ) (k : ℕ) where
  place_there : ReadsCode page run gaps k → code_place gaps k + length (code_of (get_or gaps k 0)) < run.count
  place_there reads = (code_inside page run.first run.count (code_place gaps k) (get_or gaps k 0, length (code_of (get_or gaps k 0))) reads.code).1

  code_stays : ReadsCode page run gaps k → ReadsCode now run gaps k
  code_stays reads = record {
    code = code_same page now run.first run.count same (code_place gaps k) ∙ reads.code;
    next = filling_same page now run.first run.count same (code_place gaps k + length (code_of (get_or gaps k 0))) (place_there reads) ∙ reads.next;
  }

  stands_stays : (rows : ℕ) (stands : Bool) → code_place gaps k < run.count → code_stands rows (code_in (rest_at page run.first (code_place gaps k))) ≡ stands
      → code_stands rows (code_in (rest_at now run.first (code_place gaps k))) ≡ stands
  stands_stays rows stands low e = ap (λ bytes. code_stands rows (code_in bytes)) (same (code_place gaps k) low) ∙ e

-- ---- indexes

module _ (cat : Catalog) (hidden : Hidden) (few : AreFew cat) (ascend : ListsAscend) (room : LevelFilesFit) (page now : ℕ → List ℕ) (same : HaveSameSlots page now cat) where
  -- a code has its place in the file
  in_file : (from : ℕ) (lists : List (List ℕ)) → AreLevelLists (count_of cat from) lists → (run : Run) → run.count ≡ level_room cat from
      → (k : ℕ) → k < length (gaps_of lists) → code_place (gaps_of lists) k < run.count
  in_file from lists are run size k low =
      let before = code_stands_before lists k low in
      let fits = bytes_fit room (count_of cat from) lists are in
      omega (arith, before, fits, size)

  module _ (table column : ℕ) (h : is_hidden cat.schema table column ≡ true) (values : List (List ℕ)) where
    level_same : (level : ℕ) → level < length (levels_of cat.schema table) → (place : ℕ) → place < (index_level cat table column level).count
        → rest_at now (index_level cat table column level).first place ≡ rest_at page (index_level cat table column level).first place
    level_same level low place inside = same (IndexLevel table column level) (has_level cat table column level h low) place inside

    pub whole_stays : HoldsIndexWhole page cat hidden table column values → HoldsIndexWhole now cat hidden table column values
    whole_stays is = record {
      are_values = is.are_values;
      few = is.few;
      header = record_stays page now cat (IndexHeader table column) 0 _ (same (IndexHeader table column) h 0 (omega arith)) is.header;
      entries = λ entry low.
          let most = is.few in
          record_stays page now cat (IndexDirectory table column) entry _ (same (IndexDirectory table column) h entry (omega (arith, low, most))) (is.entries entry low);
      lists = λ level low k within.
          let gaps = gaps_of (values_at cat hidden table column values level) in
          let run = index_level cat table column level in
          let has = is.lists level low k within in
          let there = place_there page now run (level_same level low) gaps k has.reads in
          record {
            reads = code_stays page now run (level_same level low) gaps k has.reads;
            stands = stands_stays page now run (level_same level low) gaps k (count_of cat (slice_index (levels_of cat.schema table) level)) true (omega (arith, there)) has.stands;
          };
    }

    pub but_stays : HoldsIndexBut page cat hidden table column values → HoldsIndexBut now cat hidden table column values
    but_stays is = record {
      are_values = is.are_values;
      few = is.few;
      header = record_but_stays page now cat (IndexHeader table column) 0 _ (same (IndexHeader table column) h 0 (omega arith)) is.header;
      entries = λ entry low.
          let most = is.few in
          record_but_stays page now cat (IndexDirectory table column) entry _ (same (IndexDirectory table column) h entry (omega (arith, low, most))) (is.entries entry low);
      lists = λ level low k within.
          let lists = values_at cat hidden table column values level in
          let from = slice_index (levels_of cat.schema table) level in
          let run = index_level cat table column level in
          let million = few.rows from in
          let are = ascend.of_values cat hidden table column from values (omega (arith, million)) is.are_values in
          let there = in_file from lists are run (index_level_room cat table column level low) k within in
          elim (is.lists level low k within) [
            | inl reads ↦ inl (code_stays page now run (level_same level low) (gaps_of lists) k reads)
            | inr wrong ↦ inr (stands_stays page now run (level_same level low) (gaps_of lists) k (count_of cat from) false there wrong)
          ];
    }

  module _ (table : ℕ) (above : is_empty (above_of cat.schema table) ≡ false) where
    id_level_same : (level : ℕ) → level < length (above_of cat.schema table) → (place : ℕ) → place < (id_level cat table level).count
        → rest_at now (id_level cat table level).first place ≡ rest_at page (id_level cat table level).first place
    id_level_same level low place inside = same (IdLevel table level) (has_id_level cat table level low) place inside

    pub id_whole_stays : HoldsIdIndexWhole page cat hidden table → HoldsIdIndexWhole now cat hidden table
    id_whole_stays is = record {
      entries = λ entry low. record_stays page now cat (IdDirectory table) entry _ (same (IdDirectory table) (ap not above) entry low) (is.entries entry low);
      lists = λ level low k within.
          let gaps = gaps_of (ids_at cat hidden table level) in
          let run = id_level cat table level in
          let has = is.lists level low k within in
          let there = place_there page now run (id_level_same level low) gaps k has.reads in
          record {
            reads = code_stays page now run (id_level_same level low) gaps k has.reads;
            stands = stands_stays page now run (id_level_same level low) gaps k (count_of cat (slice_index (above_of cat.schema table) level)) true (omega (arith, there)) has.stands;
          };
    }

    pub id_but_stays : HoldsIdIndexBut page cat hidden table → HoldsIdIndexBut now cat hidden table
    id_but_stays is = record {
      entries = λ entry low. record_but_stays page now cat (IdDirectory table) entry _ (same (IdDirectory table) (ap not above) entry low) (is.entries entry low);
      lists = λ level low k within.
          let lists = ids_at cat hidden table level in
          let from = slice_index (above_of cat.schema table) level in
          let run = id_level cat table level in
          let million = few.rows from in
          let are = ascend.of_ids cat hidden table from (omega (arith, million)) in
          let there = in_file from lists are run (id_level_room cat table level low) k within in
          elim (is.lists level low k within) [
            | inl reads ↦ inl (code_stays page now run (id_level_same level low) (gaps_of lists) k reads)
            | inr wrong ↦ inr (stands_stays page now run (id_level_same level low) (gaps_of lists) k (count_of cat from) false there wrong)
          ];
    }

pub indexes_stay : LayoutIsSmall → ListsAscend → LevelFilesFit → HeldIndexesStay
indexes_stay small ascend room = record {
  whole = λ page now cat database of same table column h values holds. whole_stays cat _ (small.few cat (limited_by cat of.proper)) ascend room page now same table column h values holds;
  but = λ page now cat database of same table column h values holds. but_stays cat _ (small.few cat (limited_by cat of.proper)) ascend room page now same table column h values holds;
  id_whole = λ page now cat database of same table there above holds. id_whole_stays cat _ (small.few cat (limited_by cat of.proper)) ascend room page now same table above holds;
  id_but = λ page now cat database of same table there above holds. id_but_stays cat _ (small.few cat (limited_by cat of.proper)) ascend room page now same table above holds;
}

pub readings_stay : ReadingsStay
readings_stay = record {
  values = λ page now cat same table column level h low begin i.
      let run = index_level cat table column level in
      of_codes now run refl begin i
      ∙ (reading_same page now run.first run.count (λ place inside. same (IndexLevel table column level) (has_level cat table column level h low) place inside) begin i
      ∙ sym (of_codes page run refl begin i));
  identifiers = λ page now cat same table level low begin i.
      let run = id_level cat table level in
      of_codes now run refl begin i
      ∙ (reading_same page now run.first run.count (λ place inside. same (IdLevel table level) (has_id_level cat table level low) place inside) begin i
      ∙ sym (of_codes page run refl begin i));
}
