-- The layouts of the worked catalogs, at both versions.
use Rattle.std.specs.Prelude.{◌≡◌, ℕ, true, [], ◌∷◌, ◌++◌, List, length, map, filter, codes, None, nat_lt}
use Rattle.ghost_model.specs.core.Schema.{Table, Integer}
use Rattle.ghost_model.specs.core.Channel.{Catalog}
use Rattle.ghost_model.specs.forms.Catalog.{catalog_bytes}
use Rattle.ghost_model.specs.forms.Runs.{Run, run_pages}
use Rattle.ghost_model.specs.forms.Layout.{levels_of, descendants_of, hidden_columns, ColumnFile, SubtreeTable, ClimbingIndex, IdIndex, structures, structure_pages, public_pages, header_page, fresh_half, files_end, static_end, count_of, row_room, root_of, largest_count, largest_room, spool_area, spool_end, scratch_area, scratch_end, appended_pages, appended_area, need, column_file, subtree_table}
use Rattle.ghost_model.specs.laws.ShortWords.{static_files, spool_areas, scratch_areas, appended_areas, index_header, index_directory, index_level, id_directory, id_level}
use Rattle.ghost_model.specs.examples.Clinic.{id_column, number_column, key_column, clinic_schema, clinic_catalog, clinic_catalog_one, note_catalog, note_catalog_one}

abbrev pub page_of_run : Run → ℕ
page_of_run run = run.first

abbrev pub records_of_run : Run → ℕ
records_of_run run = run.count

abbrev pub width_of_run : Run → ℕ
width_of_run run = run.width

-- the static files that have a page, where a level file has four bytes for each identifier
abbrev pub files_with_pages : Catalog → List Run
files_with_pages cat = filter (λ run. nat_lt 0 (run_pages run)) (static_files cat)

abbrev pub visit : ℕ
visit = 2

pub record LayoutOfTheClinic : Type 0 where
  pub levels_of_doctor : levels_of clinic_schema 0 ≡ 0 ∷ 2 ∷ []
  pub levels_of_visit : levels_of clinic_schema 2 ≡ 2 ∷ []
  pub below_visit : descendants_of clinic_schema 2 ≡ 0 ∷ 1 ∷ []
  pub below_doctor : descendants_of clinic_schema 0 ≡ []
  pub hidden_of_visit : hidden_columns clinic_schema 2 ≡ 2 ∷ 3 ∷ 4 ∷ []
  pub country : column_file clinic_catalog 0 2 ≡ record { first = 256; count = 3; width = 2 }
  pub country_header : index_header clinic_catalog 0 2 ≡ record { first = 257; count = 1; width = 4 }
  pub country_directory : index_directory clinic_catalog 0 2 ≡ record { first = 258; count = 3; width = 18 }
  pub country_of_doctors : index_level clinic_catalog 0 2 0 ≡ record { first = 259; count = 2048; width = 1 }
  pub country_of_visits : index_level clinic_catalog 0 2 1 ≡ record { first = 260; count = 2048; width = 1 }
  pub doctors : id_directory clinic_catalog 0 ≡ record { first = 261; count = 3; width = 8 }
  pub doctors_of_visits : id_level clinic_catalog 0 0 ≡ record { first = 262; count = 2048; width = 1 }
  pub name : column_file clinic_catalog 1 2 ≡ record { first = 263; count = 2; width = 8 }
  pub purpose : column_file clinic_catalog 2 2 ≡ record { first = 270; count = 4; width = 8 }
  pub doctor_key : column_file clinic_catalog 2 3 ≡ record { first = 271; count = 4; width = 8 }
  pub patient_key : column_file clinic_catalog 2 4 ≡ record { first = 272; count = 4; width = 8 }
  pub below_visits : subtree_table clinic_catalog 2 ≡ record { first = 273; count = 4; width = 8 }
  pub patient_key_header : index_header clinic_catalog 2 4 ≡ record { first = 280; count = 1; width = 4 }
  pub in_order :
      structures clinic_schema
      ≡ ColumnFile 0 2 ∷ SubtreeTable 0 ∷ ClimbingIndex 0 2 ∷ IdIndex 0
      ∷ ColumnFile 1 2 ∷ SubtreeTable 1 ∷ ClimbingIndex 1 2 ∷ IdIndex 1
      ∷ ColumnFile 2 2 ∷ ColumnFile 2 3 ∷ ColumnFile 2 4 ∷ SubtreeTable 2
      ∷ ClimbingIndex 2 2 ∷ ClimbingIndex 2 3 ∷ ClimbingIndex 2 4 ∷ IdIndex 2 ∷ []
  pub pages_of_structures :
      map (structure_pages clinic_catalog) (structures clinic_schema)
      ≡ 1 ∷ 0 ∷ 4 ∷ 2 ∷ 1 ∷ 0 ∷ 4 ∷ 2 ∷ 1 ∷ 1 ∷ 1 ∷ 1 ∷ 3 ∷ 3 ∷ 3 ∷ 0 ∷ []
  pub pages :
      map page_of_run (files_with_pages clinic_catalog)
      ≡ 256 ∷ 257 ∷ 258 ∷ 259 ∷ 260 ∷ 261 ∷ 262 ∷ 263 ∷ 264 ∷ 265 ∷ 266 ∷ 267 ∷ 268 ∷ 269 ∷ 270 ∷ 271 ∷ 272 ∷ 273 ∷ 274 ∷ 275
      ∷ 276 ∷ 277 ∷ 278 ∷ 279 ∷ 280 ∷ 281 ∷ 282 ∷ []
  pub counts :
      map records_of_run (files_with_pages clinic_catalog)
      ≡ 3 ∷ 1 ∷ 3 ∷ 3 ∷ 4 ∷ 3 ∷ 4 ∷ 2 ∷ 1 ∷ 2 ∷ 2 ∷ 4 ∷ 2 ∷ 4 ∷ 4 ∷ 4 ∷ 4 ∷ 4 ∷ 1 ∷ 4 ∷ 4 ∷ 1 ∷ 4 ∷ 4 ∷ 1 ∷ 4 ∷ 4 ∷ []
  pub widths :
      map width_of_run (files_with_pages clinic_catalog)
      ≡ 2 ∷ 4 ∷ 18 ∷ 4 ∷ 4 ∷ 8 ∷ 4 ∷ 8 ∷ 4 ∷ 24 ∷ 4 ∷ 4 ∷ 8 ∷ 4 ∷ 8 ∷ 8 ∷ 8 ∷ 8 ∷ 4 ∷ 16 ∷ 4 ∷ 4 ∷ 16 ∷ 4 ∷ 4 ∷ 16 ∷ 4 ∷ []
  pub files_end : files_end clinic_catalog ≡ 283
  pub static_end : static_end clinic_catalog ≡ 320
  pub spool : map page_of_run (spool_areas clinic_catalog 0 ++ spool_areas clinic_catalog 1) ≡ 320 ∷ 384 ∷ 448 ∷ 512 ∷ 576 ∷ 640 ∷ []
  pub spool_of_doctors : spool_area clinic_catalog 0 0 ≡ record { first = 320; count = 3; width = 12 }
  pub spool_end : spool_end clinic_catalog ≡ 704
  pub scratch :
      map page_of_run (scratch_areas clinic_catalog) ≡ 704 ∷ 768 ∷ 832 ∷ 896 ∷ 960 ∷ 1024 ∷ 1088 ∷ 1152 ∷ []
  pub scratch_end : scratch_end clinic_catalog ≡ 1216
  pub appended : map page_of_run (appended_areas clinic_catalog) ≡ 1216 ∷ 1280 ∷ []
  pub need : need clinic_catalog ≡ 1344

-- at version 1 the static files begin 192 pages before, and there are fewer areas behind them
pub record LayoutAtVersionOne : Type 0 where
  pub pages :
      map page_of_run (files_with_pages clinic_catalog_one)
      ≡ 64 ∷ 65 ∷ 66 ∷ 67 ∷ 68 ∷ 69 ∷ 70 ∷ 71 ∷ 72 ∷ 73 ∷ 74 ∷ 75 ∷ 76 ∷ 77 ∷ 78 ∷ 79 ∷ 80 ∷ 81 ∷ 82 ∷ 83 ∷ 84 ∷ 85
      ∷ 86 ∷ 87 ∷ 88 ∷ 89 ∷ 90 ∷ []
  pub below_visits : subtree_table clinic_catalog_one 2 ≡ record { first = 81; count = 4; width = 8 }
  pub files_end : files_end clinic_catalog_one ≡ 91
  pub static_end : static_end clinic_catalog_one ≡ 128
  pub spool :
      map page_of_run (spool_areas clinic_catalog_one 0 ++ spool_areas clinic_catalog_one 1)
      ≡ 128 ∷ 192 ∷ 256 ∷ 320 ∷ 384 ∷ 448 ∷ []
  pub spool_end : spool_end clinic_catalog_one ≡ 512
  pub scratch : map page_of_run (scratch_areas clinic_catalog_one) ≡ 512 ∷ 576 ∷ 640 ∷ 704 ∷ 768 ∷ 832 ∷ []
  pub scratch_end : scratch_end clinic_catalog_one ≡ 896
  pub nothing_appended : appended_pages clinic_catalog_one ≡ 0
  pub need_of_the_notes : need note_catalog_one ≡ 640
  pub need : need clinic_catalog_one ≡ 896

-- which pages are public
pub record PublicPages : Type 0 where
  pub at_version_one : public_pages clinic_catalog_one ≡ 64
  pub at_version_two : public_pages clinic_catalog ≡ 256
  pub first_header : header_page 0 ≡ 128
  pub second_header : header_page 1 ≡ 192
  pub of_an_odd_generation : header_page (fresh_half clinic_catalog) ≡ 192
  pub of_an_even_generation : header_page (fresh_half (record clinic_catalog { generation = 6 })) ≡ 128

-- two databases of one schema of a leaf and a top table: one with many top rows, one with many leaf rows
abbrev pub leaf_table : Table
leaf_table = record {
  name = codes "leaf";
  columns =
      id_column ∷ number_column (codes "tag") ∷ record { name = codes "mark"; kind = Integer; hidden = true; child = None } ∷ [];
}

abbrev pub top_table : Table
top_table = record {
  name = codes "top";
  columns =
      id_column ∷ number_column (codes "num") ∷ record { name = codes "val"; kind = Integer; hidden = true; child = None }
      ∷ key_column (codes "lf") 0 ∷ [];
}

abbrev pub remainders_catalog : Catalog
remainders_catalog = record { schema = leaf_table ∷ top_table ∷ []; counts = 50 ∷ 12000 ∷ []; generation = 1; version = 2 }

abbrev pub saturated_catalog : Catalog
saturated_catalog = record { schema = leaf_table ∷ top_table ∷ []; counts = 41000 ∷ 100 ∷ []; generation = 1; version = 2 }

-- a table in which nothing is hidden
abbrev pub open_catalog : Catalog
open_catalog = record {
  schema = record { name = codes "open"; columns = id_column ∷ number_column (codes "num") ∷ [] } ∷ [];
  counts = 3 ∷ [];
  generation = 1;
  version = 2;
}

-- how many rows there are, and for how many there is room: more at version 2 in the areas of the root's rows
pub record RowsAndRoom : Type 0 where
  pub root_of_the_clinic : root_of clinic_schema ≡ 2
  pub visits : count_of clinic_catalog 2 ≡ 4
  pub room_for_visits : row_room clinic_catalog 2 ≡ 4100
  pub room_for_doctors : row_room clinic_catalog 0 ≡ 3
  pub room_at_version_one : row_room clinic_catalog_one 2 ≡ 4
  pub purposes : column_file clinic_catalog 2 2 ≡ record { first = 270; count = 4; width = 8 }
  pub area_of_visits : spool_area clinic_catalog 0 2 ≡ record { first = 448; count = 4100; width = 12 }
  pub area_of_visits_at_version_one : spool_area clinic_catalog_one 0 2 ≡ record { first = 256; count = 4; width = 12 }
  pub most_visits : largest_count clinic_catalog ≡ 4
  pub room_for_most : largest_room clinic_catalog ≡ 4100
  pub last_area_of_lists : scratch_area clinic_catalog 7 ≡ record { first = 1152; count = 4100; width = 4 }
  -- three hidden cells of eight bytes, and a doctor and a patient
  pub appended_visits : appended_area clinic_catalog 1 ≡ record { first = 1280; count = 4096; width = 32 }
  pub most_leaf_rows : largest_count saturated_catalog ≡ 41000
  pub still_most : largest_room saturated_catalog ≡ 41000
  pub room_for_top_rows : row_room saturated_catalog 1 ≡ 4196
  pub nothing_hidden : appended_area open_catalog 0 ≡ record { first = 896; count = 4096; width = 0 }
  pub no_page_for_it : need open_catalog ≡ 896

pub record LayoutOfTheNotes : Type 0 where
  pub pages : map page_of_run (files_with_pages note_catalog) ≡ 256 ∷ 257 ∷ 258 ∷ 259 ∷ []
  pub files_end : files_end note_catalog ≡ 260
  pub static_end : static_end note_catalog ≡ 320
  pub spool : map page_of_run (spool_areas note_catalog 0 ++ spool_areas note_catalog 1) ≡ 320 ∷ 384 ∷ []
  pub scratch : map page_of_run (scratch_areas note_catalog) ≡ 448 ∷ 512 ∷ 576 ∷ 640 ∷ 704 ∷ 768 ∷ 832 ∷ 896 ∷ []
  pub appended : map page_of_run (appended_areas note_catalog) ≡ 960 ∷ 1024 ∷ []
  pub need : need note_catalog ≡ 1088

pub record LayoutsOfLargerDatabases : Type 0 where
  pub catalog : length (catalog_bytes remainders_catalog) ≡ 217
  pub remainders_files : files_end remainders_catalog ≡ 665
  pub remainders_static : static_end remainders_catalog ≡ 704
  pub remainders_spool :
      map page_of_run (spool_areas remainders_catalog 0 ++ spool_areas remainders_catalog 1) ≡ 704 ∷ 768 ∷ 896 ∷ 960 ∷ []
  pub remainders_scratch :
      map page_of_run (scratch_areas remainders_catalog) ≡ 1088 ∷ 1152 ∷ 1216 ∷ 1280 ∷ 1344 ∷ 1408 ∷ 1472 ∷ 1536 ∷ []
  pub remainders_appended : map page_of_run (appended_areas remainders_catalog) ≡ 1600 ∷ 1664 ∷ []
  pub remainders_need : need remainders_catalog ≡ 1728
  pub remainders_at_version_one : need (record remainders_catalog { version = 1 }) ≡ 1280
  pub saturated_files : files_end saturated_catalog ≡ 1154
  pub saturated_static : static_end saturated_catalog ≡ 1216
  pub saturated_spool :
      map page_of_run (spool_areas saturated_catalog 0 ++ spool_areas saturated_catalog 1) ≡ 1216 ∷ 1472 ∷ 1536 ∷ 1792 ∷ []
  pub saturated_scratch :
      map page_of_run (scratch_areas saturated_catalog) ≡ 1856 ∷ 1984 ∷ 2112 ∷ 2240 ∷ 2368 ∷ 2496 ∷ 2624 ∷ 2752 ∷ []
  pub saturated_appended : map page_of_run (appended_areas saturated_catalog) ≡ 2880 ∷ 2944 ∷ []
  pub saturated_need : need saturated_catalog ≡ 3008
  pub saturated_at_version_one : need (record saturated_catalog { version = 1 }) ≡ 2432
