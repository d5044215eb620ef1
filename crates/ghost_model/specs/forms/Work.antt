-- How many calls of the flash a loading takes. It makes the device, by one call, and then writes each page that holds a byte of
-- the catalog, of the gate and its header, or of a static file, once.
use Rattle.std.specs.Prelude.{ℕ, ◌+◌, ◌*◌, ◌==◌, List, [], ◌∷◌, length, map, sum_by, bytes_eq, if◌then◌else◌}
use Rattle.std.specs.Set.{distinct_count}
use Rattle.std.specs.Cmp.Lexicographic.{slice_cmp}
use Rattle.std.specs.Ordering.{nat_cmp, is_lt}
use Rattle.ghost_model.specs.core.Channel.{Catalog}
use Rattle.ghost_model.specs.forms.Catalog.{catalog_bytes}
use Rattle.ghost_model.specs.core.Split.{Hidden}
use Rattle.ghost_model.specs.forms.Runs.{pages_of}
use Rattle.ghost_model.specs.forms.Gaps.{level_bytes}
use Rattle.ghost_model.specs.forms.Layout.{Structure, ClimbingIndex, IdIndex, structures, count_of, width_at, levels_of, above_of, files_of, files_pages}
use Rattle.ghost_model.specs.forms.Flash.{hidden_cells, value_lists, id_lists}

abbrev pub value_count : Catalog → Hidden → (table column : ℕ) → ℕ
value_count cat hidden table column = distinct_count bytes_eq (hidden_cells cat.schema hidden table column)

-- the values among cells, each once, ascending
unfoldable pub with_value : (value : List ℕ) → (values : List (List ℕ)) → List (List ℕ)
with_value value [] = value ∷ []
with_value value (other ∷ values) =
    if is_lt (slice_cmp nat_cmp value other) then value ∷ other ∷ values
    else if bytes_eq value other then other ∷ values
    else other ∷ with_value value values

unfoldable pub values_among : (cells : List (List ℕ)) → List (List ℕ)
values_among [] = []
values_among (cell ∷ cells) = with_value cell (values_among cells)

abbrev pub values_at : Catalog → Hidden → (table column : ℕ) → List (List ℕ)
values_at cat hidden table column = values_among (hidden_cells cat.schema hidden table column)

-- level files as they are filled: a run of single bytes for each of some tables, which have these lists
abbrev pub levels_written : (lists : ℕ → List (List ℕ)) → (tables : List ℕ) → List (ℕ × ℕ)
levels_written lists tables = map (λ table. (length (level_bytes (lists table)), 1)) tables

-- the files of a structure as they are filled: the directory of a climbing index has a record for each value, and a level file the
-- bytes of its lists
abbrev pub written_of : Catalog → Hidden → Structure → List (ℕ × ℕ)
written_of cat hidden (ClimbingIndex table column) =
    (1, 4) ∷ (value_count cat hidden table column, width_at cat.schema table column + 8 * length (levels_of cat.schema table))
    ∷ levels_written (value_lists cat hidden table column (values_at cat hidden table column)) (levels_of cat.schema table)
written_of cat hidden (IdIndex table) =
    (count_of cat table, 8 * length (above_of cat.schema table)) ∷ levels_written (id_lists cat hidden table) (above_of cat.schema table)
written_of cat hidden structure = files_of cat structure

-- the pages that hold a byte of a static file
abbrev pub file_pages : Catalog → Hidden → ℕ
file_pages cat hidden = sum_by (λ structure. files_pages (written_of cat hidden structure)) (structures cat.schema)

-- the page of the gate and that of its header
abbrev pub gate_pages : Catalog → ℕ
gate_pages cat = if cat.version == 1 then 0 else 2

-- the public pages that are written; the catalog's bytes are a run of width 1
abbrev pub public_written : Catalog → ℕ
public_written cat = gate_pages cat + pages_of (length (catalog_bytes cat)) 1

-- the calls of a whole loading: one that makes the device, and one for each public page that is written and each page of the files
abbrev pub pages_built : Catalog → Hidden → ℕ
pages_built cat hidden = 1 + (public_written cat + file_pages cat hidden)
