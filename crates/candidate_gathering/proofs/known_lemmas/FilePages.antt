-- The static files lie below the end of the static part: so where static pages stay, each slot of a file has what it had.
use Rattle.std.proofs.Common.{◌≡◌, refl, ap, ℕ, ◌+◌, ◌%◌, ◌<◌, ◌≤◌, Bool, true, false, cond, nat_lt, not, List, [], ◌∷◌, length, drop, arith}
use Rattle.std.proofs.lemmas.Bool.{and_parts, ltb-true}
use Rattle.ghost_model.specs.core.Schema.{is_empty}
use Rattle.ghost_model.specs.core.Channel.{Catalog}
use Rattle.ghost_model.specs.forms.Runs.{page_of, run_end, run_pages}
use Rattle.ghost_model.specs.forms.Layout.{static_end, files_end, is_hidden, levels_of, above_of, descendants_of, File, run_of_file, subtree_table}
use Rattle.ghost_model.specs.forms.Layout as layout
use Rattle.ghost_model.specs.forms.Slots.{has_file, in_slot, slots_in}
use Rattle.ghost_model.specs.laws.SchemaTrees.{IsTree}
use Rattle.ghost_model.specs.laws.LayoutLaws.{AreNarrow, LieAsSummed, LieInOrder, RecordsStandWithin}
use Rattle.ghost_model.proofs.LayoutLemmas.Small.{some_in}
use Rattle.flash_pages.proofs.RunFrames.{record_kept}
use Rattle.climbing_index.proofs.ReadableFiles.{directory_ends, header_ends, id_directory_ends, id_level_ends, level_ends}
use Rattle.candidate_gathering.specs.known.Known.{KeepsStatic}
use Rattle.candidate_gathering.proofs.known_lemmas.TablesThere.{low_is_table, high_is_table}

-- its records fit a page, its pages are static, and it has room for its slots
pub record IsStatic (cat : Catalog) (file : File) : Type 0 where
  pub some : 0 < (run_of_file cat file).width
  pub fits : (run_of_file cat file).width ≤ 2048
  pub end : run_end (run_of_file cat file) ≤ files_end cat
  pub room : (page : ℕ → List ℕ) → slots_in page cat file ≤ (run_of_file cat file).count

pub not_so : (b : Bool) → not b ≡ true → b ≡ false
not_so true e = absurd (cc e)
not_so false e = refl

pub above_some : (xs : List ℕ) (level : ℕ) → level < length xs → is_empty xs ≡ false
above_some [] level low = absurd (omega (arith, low))
above_some (x ∷ xs) level low = refl

-- a slot has what it had where its page does
slot_same : (cat : Catalog) (page now : ℕ → List ℕ) (file : File) (place : ℕ)
    → now (page_of (run_of_file cat file) place) ≡ page (page_of (run_of_file cat file) place) → in_slot now cat file place ≡ in_slot page cat file place
slot_same cat page now (layout.Cells table column) place same = record_kept page now (run_of_file cat (layout.Cells table column)) place same
slot_same cat page now (layout.Subtrees table) place same = record_kept page now (run_of_file cat (layout.Subtrees table)) place same
slot_same cat page now (layout.IndexHeader table column) place same = record_kept page now (run_of_file cat (layout.IndexHeader table column)) place same
slot_same cat page now (layout.IndexDirectory table column) place same = record_kept page now (run_of_file cat (layout.IndexDirectory table column)) place same
slot_same cat page now (layout.IndexLevel table column level) place same = ap (drop (place % 2048)) same
slot_same cat page now (layout.IdDirectory table) place same = record_kept page now (run_of_file cat (layout.IdDirectory table)) place same
slot_same cat page now (layout.IdLevel table level) place same = ap (drop (place % 2048)) same

module _ (cat : Catalog) (tree : IsTree cat.schema) (narrow : AreNarrow cat) (laid : LieAsSummed cat) (order : LieInOrder cat) where
  subtree_ends : (table : ℕ) → table < length cat.schema → is_empty (descendants_of cat.schema table) ≡ false → run_end (subtree_table cat table) ≤ files_end cat
  subtree_ends table there below =
      let pages = ap (λ b. cond b 0 (run_pages (subtree_table cat table))) below in
      let first = laid.subtree_table table there in
      let next = order.next_table table in
      let later = order.tables (table + 1) (length cat.schema) (omega (arith, there)) in
      let end = laid.files_end in
      omega (arith, pages, first, next, later, end)

  pub is_static : (file : File) → has_file cat.schema file ≡ true → IsStatic cat file
  is_static (layout.Cells table column) has = record {
    some = narrow.least table column has;
    fits = omega (arith, narrow.most table column);
    end = order.within table column has;
    room = λ page. omega arith;
  }
  is_static (layout.Subtrees table) has =
      let below = not_so (is_empty (descendants_of cat.schema table)) has in
      record {
        some = omega (arith, some_in (descendants_of cat.schema table) below);
        fits = omega (arith, narrow.subtree table);
        end = subtree_ends table (high_is_table cat.schema table below) below;
        room = λ page. omega arith;
      }
  is_static (layout.IndexHeader table column) has = record {
    some = omega arith;
    fits = omega arith;
    end = header_ends cat laid order table column has;
    room = λ page. omega arith;
  }
  is_static (layout.IndexDirectory table column) has = record {
    some = omega (arith, narrow.least table column has);
    fits = omega (arith, narrow.directory table column);
    end = directory_ends cat laid order table column has;
    room = λ page. omega arith;
  }
  is_static (layout.IndexLevel table column level) has =
      let both = and_parts (is_hidden cat.schema table column) (nat_lt level (length (levels_of cat.schema table))) has in
      let low = ltb-true level (length (levels_of cat.schema table)) both.1 in
      record {
        some = omega arith;
        fits = omega arith;
        end = level_ends cat laid order table column level both.0 low;
        room = λ page. omega arith;
      }
  is_static (layout.IdDirectory table) has =
      let above = not_so (is_empty (above_of cat.schema table)) has in
      let there = low_is_table cat.schema tree table above in
      record {
        some = omega (arith, some_in (above_of cat.schema table) above);
        fits = omega (arith, narrow.id_directory table);
        end = id_directory_ends cat laid order table there above;
        room = λ page. omega arith;
      }
  is_static (layout.IdLevel table level) has =
      let low = ltb-true level (length (above_of cat.schema table)) has in
      let above = above_some (above_of cat.schema table) level low in
      let there = low_is_table cat.schema tree table above in
      record {
        some = omega arith;
        fits = omega arith;
        end = id_level_ends cat laid order table level there above low;
        room = λ page. omega arith;
      }

  -- a slot has what it had
  pub slot_kept : RecordsStandWithin → (page now : ℕ → List ℕ) → KeepsStatic cat page now → (file : File) → has_file cat.schema file ≡ true
      → (place : ℕ) → place < (run_of_file cat file).count → in_slot now cat file place ≡ in_slot page cat file place
  slot_kept stand page now keeps file has place low =
      let static = is_static file has in
      let run = run_of_file cat file in
      let before : page_of run place < run_end run = (stand run static.some static.fits).page place low in
      let rounded : files_end cat ≤ static_end cat = order.static in
      slot_same cat page now file place (keeps (page_of run place) (omega (arith, before, static.end, rounded)))

  pub slots_room : (file : File) → has_file cat.schema file ≡ true → (page : ℕ → List ℕ) → slots_in page cat file ≤ (run_of_file cat file).count
  slots_room file has page = (is_static file has).room page
