-- What is known of the pages stays known where the static pages stay, and a bad slot stays bad.
use Rattle.std.proofs.Common.{◌≡◌, refl, ap, ap₂, sym, ◌∙◌, ℕ, zero, suc, ◌+◌, ◌-◌, ◌*◌, ◌<◌, ◌≤◌, min, true, not, nat_lt, inl, inr, List, length, drop, slice_index, Some, arith}
use Rattle.std.specs.Prelude.{if◌then◌else◌, option_and_then, option_map}
use Rattle.std.proofs.lemmas.Bool.{and_parts, lt-ltb, ltb-true}
use Rattle.ghost_model.specs.core.Values.{Database}
use Rattle.ghost_model.specs.core.Channel.{Catalog}
use Rattle.ghost_model.specs.core.Split.{hidden_of}
use Rattle.ghost_model.specs.laws.SchemaTrees.{IsTree}
use Rattle.ghost_model.specs.laws.LayoutLaws.{FilesLieAsSummed, FilesLieInOrder, LayoutIsSmall, RecordsStandWithin}
use Rattle.ghost_model.specs.laws.FlashLaws.{HoldingsAreKept}
use Rattle.ghost_model.specs.forms.Runs.{number_in, record_at, found_in}
use Rattle.ghost_model.specs.forms.Layout.{is_hidden, width_at, count_of, levels_of, above_of, descendants_of, files_end, static_end, File, Cells, Subtrees, IndexHeader, IndexDirectory, IndexLevel, IdDirectory, IdLevel, run_of_file}
use Rattle.ghost_model.specs.forms.Gaps as gaps
use Rattle.ghost_model.specs.forms.Gaps.{code_in, reading_at, reading_of, rest_at}
use Rattle.ghost_model.specs.forms.Slots.{IsBrokenCode, IsDamagedIn, IsWrong, IsWrongRecord, before_slot, code_stands, has_file, in_slot, may_follow, may_stand, slots_in}
use Rattle.climbing_index.specs.declared.index.ClimbingIndex.{ClimbingIndex}
use Rattle.climbing_index.specs.Indexes.{IsIndexOf}
use Rattle.climbing_index.specs.Searches.{header_count}
use Rattle.climbing_index.specs.Holding.{HoldsIndexBut}
use Rattle.climbing_index.specs.Laws.{HaveSameSlots, HeldIndexesStay, IsOf, ReadingsStay}
use Rattle.flash_pages.proofs.ListFrames.{codes_by_width, reading_of_codes}
use Rattle.subtree_keys.specs.Laws.{rows_spelled}
use Rattle.candidate_lists.specs.Held.{over}
use Rattle.candidate_gathering.specs.known.Reading.{IsReadByForms}
use Rattle.candidate_gathering.specs.known.Known.{KeepsStatic, KnowsIndexes, IsBadSlotIn, IsListFile, IsReadCrossing}
use Rattle.candidate_gathering.specs.known.Laws.{KnowledgeStays}
use Rattle.candidate_gathering.proofs.known_lemmas.FilePages.{above_some, slot_kept, slots_room}
use Rattle.ghost_model.proofs.LayoutLemmas.Limited.{limited_by}

-- ---- damaged slots

module _ (cat : Catalog) (page now : ℕ → List ℕ) (kept : HaveSameSlots page now cat) (room : (file : File) → has_file cat.schema file ≡ true → (pages : ℕ → List ℕ) → slots_in pages cat file ≤ (run_of_file cat file).count) where
  slots_same : (file : File) → has_file cat.schema file ≡ true → slots_in now cat file ≡ slots_in page cat file
  slots_same (Cells table column) has = refl
  slots_same (Subtrees table) has = refl
  slots_same (IndexHeader table column) has = refl
  slots_same (IndexDirectory table column) has = ap (λ bytes. min (count_of cat table) (number_in bytes 0)) (kept (IndexHeader table column) has 0 (omega arith))
  slots_same (IndexLevel table column level) has = refl
  slots_same (IdDirectory table) has = refl
  slots_same (IdLevel table level) has = refl

  before_same : (file : File) → has_file cat.schema file ≡ true → (place : ℕ) → place < (run_of_file cat file).count → before_slot now cat file place ≡ before_slot page cat file place
  before_same file has zero low = refl
  before_same file has (suc place) low = ap Some (kept file has place (omega (arith, low)))

  record_wrong : (file : File) → has_file cat.schema file ≡ true → (place : ℕ) → place < (run_of_file cat file).count → IsWrongRecord page cat file place → IsWrongRecord now cat file place
  record_wrong file has place low wrong =
      let same = kept file has place low in
      elim wrong [
        | inl bad ↦ inl (ap (may_stand cat file) same ∙ bad)
        | inr out ↦ inr (ap₂ (may_follow cat file) (before_same file has place low) same ∙ out)
      ]

  -- reading the list of an entry gets to the same broken code
  code_broken : (file directory : File) → has_file cat.schema directory ≡ true → (run_of_file cat file).width ≡ 1
      → ((begin i : ℕ) → reading_of now (run_of_file cat file) begin i ≡ reading_of page (run_of_file cat file) begin i)
      → (skipped rows place : ℕ) → rest_at now (run_of_file cat file).first place ≡ rest_at page (run_of_file cat file).first place
      → IsBrokenCode page cat file directory skipped rows place → IsBrokenCode now cat file directory skipped rows place
  code_broken file directory has width readings skipped rows place same code =
      let run = run_of_file cat file in
      let codes = codes_by_width run width in
      let size = slots_same directory has in
      let entry = kept directory has code.entry (let there = code.there in let most = room directory has page in omega (arith, there, most)) in
      let begin = ap (λ bytes. number_in (drop skipped bytes) 0) entry in
      let count = ap (λ bytes. number_in (drop skipped bytes) 4) entry in
      let own = number_in (drop skipped (in_slot page cat directory code.entry)) 0 in
      record {
        entry = code.entry;
        there = let there = code.there in omega (arith, there, size);
        stands = ap (may_stand cat directory) entry ∙ code.stands;
        i = code.i;
        within = let within = code.within in omega (arith, within, count);
        last = code.last;
        gets =
            ap (λ b. reading_at now run.first run.count b code.i) begin
            ∙ (sym (reading_of_codes now run own code.i codes) ∙ (readings own code.i ∙ (reading_of_codes page run own code.i codes ∙ code.gets)));
        kept = code.kept;
        broken =
            ap (λ bytes. code_stands rows (option_map (λ read. (code.last + read.0, read.1)) (option_and_then (gaps.within run.count place) (code_in bytes)))) same
            ∙ code.broken;
      }

  wrong_kept : ReadingsStay → (file : File) → has_file cat.schema file ≡ true → (place : ℕ) → place < (run_of_file cat file).count → IsWrong page cat file place → IsWrong now cat file place
  wrong_kept stay (Cells table column) has place low wrong = record_wrong (Cells table column) has place low wrong
  wrong_kept stay (Subtrees table) has place low wrong = record_wrong (Subtrees table) has place low wrong
  wrong_kept stay (IndexHeader table column) has place low wrong = record_wrong (IndexHeader table column) has place low wrong
  wrong_kept stay (IndexDirectory table column) has place low wrong = record_wrong (IndexDirectory table column) has place low wrong
  wrong_kept stay (IndexLevel table column level) has place low code =
      let both = and_parts (is_hidden cat.schema table column) (nat_lt level (length (levels_of cat.schema table))) has in
      code_broken (IndexLevel table column level) (IndexDirectory table column) both.0 refl
      (stay.values page now cat kept table column level both.0 (ltb-true level (length (levels_of cat.schema table)) both.1))
      (width_at cat.schema table column + 8 * level) (count_of cat (slice_index (levels_of cat.schema table) level)) place
      (kept (IndexLevel table column level) has place low) code
  wrong_kept stay (IdDirectory table) has place low wrong = record_wrong (IdDirectory table) has place low wrong
  wrong_kept stay (IdLevel table level) has place low code =
      let under = ltb-true level (length (above_of cat.schema table)) has in
      code_broken (IdLevel table level) (IdDirectory table) (ap not (above_some (above_of cat.schema table) level under)) refl
      (stay.identifiers page now cat kept table level under) (8 * level) (count_of cat (slice_index (above_of cat.schema table) level)) place
      (kept (IdLevel table level) has place low) code

  damage_kept : ReadingsStay → (file : File) (place number slot found : ℕ) → IsDamagedIn cat page file place number slot found → IsDamagedIn cat now file place number slot found
  damage_kept stay file place number slot found at =
      let inside : place < (run_of_file cat file).count = omega (arith, at.within, room file at.has page) in
      let same = kept file at.has place inside in
      let size = slots_same file at.has in
      record {
        has = at.has;
        within = omega (arith, at.within, size);
        page_is = at.page_is;
        slot_is = at.slot_is;
        damaged = wrong_kept stay file at.has place inside at.damaged;
        found_is = at.found_is ∙ ap found_in (sym same);
      }

-- ---- the laws

module _ (summed : FilesLieAsSummed) (orders : FilesLieInOrder) (small : LayoutIsSmall) (stand : RecordsStandWithin)
    (stay : HeldIndexesStay) (readings : ReadingsStay) (holdings : HoldingsAreKept) where
  are_kept : (cat : Catalog) → IsTree cat.schema → (page now : ℕ → List ℕ) → KeepsStatic cat page now → HaveSameSlots page now cat
  are_kept cat tree page now keeps = slot_kept cat tree (small.narrow cat tree) (summed cat) (orders cat) stand page now keeps

  pages : (page now right : ℕ → List ℕ) (cat : Catalog) (database : Database) → KeepsStatic cat page now → KnowsIndexes page right cat database → KnowsIndexes now right cat database
  pages page now right cat database keeps knows =
      let of = knows.is_of in
      let kept = are_kept cat (limited_by cat of.proper).tree page now keeps in
      record {
        is_of = of;
        indexes = λ table column h.
            let index = knows.indexes table column h in
            record {
              values = index.values;
              whole = index.whole;
              but = stay.but page now cat database of kept table column h index.values index.but;
            };
        ids = λ table there above.
            let index = knows.ids table there above in
            record {
              whole = index.whole;
              but = stay.id_but page now cat database of kept table there above index.but;
            };
        subtrees = λ table there below identifier some within rows on.
            let same = kept (Subtrees table) (ap not below) (identifier - 1) (omega (arith, some, within)) in
            knows.subtrees table there below identifier some within rows (sym (ap (rows_spelled cat (descendants_of cat.schema table)) same) ∙ on);
      }

  right_pages : (page right other : ℕ → List ℕ) (cat : Catalog) (database : Database) → KeepsStatic cat right other → KnowsIndexes page right cat database → KnowsIndexes page other cat database
  right_pages page right other cat database keeps knows =
      let of = knows.is_of in
      let kept = are_kept cat (limited_by cat of.proper).tree right other keeps in
      record {
        is_of = of;
        indexes = λ table column h.
            let index = knows.indexes table column h in
            record {
              values = index.values;
              whole = stay.whole right other cat database of kept table column h index.values index.whole;
              but = index.but;
            };
        ids = λ table there above.
            let index = knows.ids table there above in
            record {
              whole = stay.id_whole right other cat database of kept table there above index.whole;
              but = index.but;
            };
        subtrees = knows.subtrees;
      }

  one_index : (page now : ℕ → List ℕ) (cat : Catalog) (database : Database) → IsOf cat database → KeepsStatic cat page now
      → (table column : ℕ) → is_hidden cat.schema table column ≡ true → (values : List (List ℕ))
      → HoldsIndexBut page cat (hidden_of cat.schema database) table column values → HoldsIndexBut now cat (hidden_of cat.schema database) table column values
  one_index page now cat database of keeps table column h values but =
      stay.but page now cat database of (are_kept cat (limited_by cat of.proper).tree page now keeps) table column h values but

  header_same : (page now : ℕ → List ℕ) (cat : Catalog) → IsTree cat.schema → KeepsStatic cat page now
      → (table column : ℕ) → is_hidden cat.schema table column ≡ true → (index : ClimbingIndex) → IsIndexOf cat table column index → header_count now index ≡ header_count page index
  header_same page now cat tree keeps table column h index is =
      ap (λ r. number_in (record_at now r 0) 0) is.header_is
      ∙ (ap (λ bytes. number_in bytes 0) (are_kept cat tree page now keeps (IndexHeader table column) h 0 (omega arith))
      ∙ ap (λ r. number_in (record_at page r 0) 0) (sym is.header_is))

  over_keeps : (page right : ℕ → List ℕ) (low : ℕ) (cat : Catalog) → static_end cat ≤ low → KeepsStatic cat right (over right page low)
  over_keeps page right low cat high number static =
      ap (λ t. if t then right number else page number) (lt-ltb number low (omega (arith, static, high)))

  bad_kept : (page now : ℕ → List ℕ) (cat : Catalog) (database : Database) (read : File → Type 0) → IsTree cat.schema → KeepsStatic cat page now
      → (number slot found : ℕ) → IsBadSlotIn page cat database read number slot found → IsBadSlotIn now cat database read number slot found
  bad_kept page now cat database read tree keeps number slot found bad =
      let rounded : files_end cat ≤ static_end cat = (orders cat).static in
      record {
        file = bad.file;
        place = bad.place;
        read_for = bad.read_for;
        damaged =
            damage_kept cat page now (are_kept cat tree page now keeps) (slots_room cat tree (small.narrow cat tree) (summed cat) (orders cat)) readings bad.file bad.place number slot found bad.damaged;
        never = λ holds. bad.never (holdings.files now page cat (hidden_of cat.schema database) tree (λ at low high. sym (keeps at (omega (arith, high, rounded)))) holds);
      }

  pub stays : KnowledgeStays
  stays = record {
    pages = pages;
    index = one_index;
    header = header_same;
    right = right_pages;
    over_pages = λ page right low cat database high knows. right_pages page right (over right page low) cat database (over_keeps page right low cat high) knows;
    bad = λ page now cat asked crosses top database. bad_kept page now cat database (IsReadCrossing cat asked crosses top);
    was_bad = λ page now cat asked crosses top database tree keeps. bad_kept now page cat database (IsReadCrossing cat asked crosses top) tree (λ number low. sym (keeps number low));
    bad_by = λ page now cat asked forced top database. bad_kept page now cat database (IsReadByForms cat asked forced top);
    bad_list = λ page now cat asked top database. bad_kept page now cat database (IsListFile cat asked top);
  }
