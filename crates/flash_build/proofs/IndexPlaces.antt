-- Where the files of indexes lie: a directory behind the header, if there is one, and the level files behind the directory's room.
use Rattle.std.proofs.Common.{◌≡◌, ap, ◌∙◌, ℕ, ◌+◌, ◌-◌, ◌*◌, ◌/◌, ◌<◌, ◌≤◌, true, false, cond, List, [], length, replicate, get_or, arith}
use Rattle.std.proofs.Math.Nat.{div-mul-le_self}
use Rattle.std.proofs.lemmas.Nat.{le-div}
use Rattle.std.proofs.lemmas.List.{length-replicate, get_or-replicate}
use Rattle.ghost_model.specs.core.Schema.{is_empty}
use Rattle.ghost_model.specs.core.Channel.{Catalog}
use Rattle.ghost_model.specs.forms.Runs.{Run, pages_of, per_page, run_pages}
use Rattle.ghost_model.specs.laws.ShortWords as short
use Rattle.ghost_model.specs.forms.Layout as layout
use Rattle.ghost_model.specs.forms.Layout.{is_hidden, count_of, levels_of, above_of}
use Rattle.ghost_model.specs.laws.LayoutSums.{index_begin, index_pages, directory_pages, directory_width, levels_pages, id_index_begin, id_index_pages, id_directory_pages}
use Rattle.ghost_model.proofs.LayoutLemmas.Small.{some_in}
use Rattle.ghost_model.proofs.LayoutLemmas.Numbers.{some_per_page}
use Rattle.flash_layout.specs.Limits.{HasLayout}

-- the id index of a table that has tables above it
pub record IsIdIndex (cat : Catalog) (table : ℕ) (run first : Run) : Type 0 where
  pub directory : run.first ≡ id_index_begin cat table
  pub count : run.count ≡ count_of cat table
  pub width : run.width ≡ 8 * length (above_of cat.schema table)
  pub pages : run_pages run ≡ id_directory_pages cat table
  pub begin : first.first ≡ id_index_begin cat table + id_directory_pages cat table
  pub whole : id_index_pages cat table ≡ id_directory_pages cat table + levels_pages cat (above_of cat.schema table)
  pub some : 0 < length (above_of cat.schema table)
  pub narrow : 8 * length (above_of cat.schema table) ≤ 96

pub is_id_index :
    (cat : Catalog) (table : ℕ) (run first : Run) → HasLayout cat → table < length cat.schema → is_empty (above_of cat.schema table) ≡ false
    → run ≡ short.id_directory cat table → first ≡ short.id_level cat table 0 → IsIdIndex cat table run first
is_id_index cat table run first laid there h is level =
    let some = some_in (above_of cat.schema table) h in
    let at = laid.sums.id_level table 0 there some in
    record {
      directory = ap (λ (r : Run). r.first) is ∙ laid.sums.id_directory table there;
      count = ap (λ (r : Run). r.count) is;
      width = ap (λ (r : Run). r.width) is;
      pages = ap run_pages is;
      begin = (let e = ap (λ (r : Run). r.first) (level ∙ at) in omega (arith, e));
      whole = ap (λ b. cond b 0 (id_directory_pages cat table + levels_pages cat (above_of cat.schema table))) h;
      some = some;
      narrow = laid.narrow.id_directory table;
    }

-- the entries of the index of a hidden column
pub record IsIndex (cat : Catalog) (table column : ℕ) (room first : Run) (entries : ℕ) : Type 0 where
  pub directory : room.first ≡ index_begin cat table column + 1
  pub width : room.width ≡ directory_width cat.schema table column
  pub begin : first.first ≡ index_begin cat table column + 1 + directory_pages cat table column
  pub fewer : pages_of entries (directory_width cat.schema table column) ≤ directory_pages cat table column
  pub whole : index_pages cat table column ≡ 1 + (directory_pages cat table column + levels_pages cat (levels_of cat.schema table))
  pub some : 0 < directory_width cat.schema table column
  pub narrow : directory_width cat.schema table column ≤ 161
  pub there : table < length cat.schema

-- fewer records take no more pages
pages_rise : (n m p : ℕ) → 0 < p → n ≤ m → (n + (p - 1)) / p ≤ (m + (p - 1)) / p
pages_rise n m p some low =
    let few = div-mul-le_self (n + (p - 1)) p in le-div ((n + (p - 1)) / p) (m + (p - 1)) p some (omega (arith, few, low))

pub is_index :
    (cat : Catalog) (table column : ℕ) (room first : Run) (entries : ℕ) → HasLayout cat → is_hidden cat.schema table column ≡ true → 0 < length (levels_of cat.schema table)
    → entries ≤ count_of cat table → room ≡ short.index_directory cat table column → first ≡ short.index_level cat table column 0
    → IsIndex cat table column room first entries
is_index cat table column room first entries laid h own few is level =
    let width = directory_width cat.schema table column in
    let least = laid.narrow.least table column h in
    let wide = laid.narrow.directory table column in
    let at = laid.sums.index_level table column 0 h own in
    record {
      directory = ap (λ (r : Run). r.first) is ∙ laid.sums.index_directory table column h;
      width = ap (λ (r : Run). r.width) is;
      begin = (let e = ap (λ (r : Run). r.first) (level ∙ at) in omega (arith, e));
      fewer = pages_rise entries (count_of cat table) (per_page width) (some_per_page width (omega (arith, least)) (omega (arith, wide))) few;
      whole = ap (λ b. cond b (1 + (directory_pages cat table column + levels_pages cat (levels_of cat.schema table))) 0) h;
      some = omega (arith, least);
      narrow = wide;
      there = (laid.order.there_are table column h).0;
    }

-- no head has a byte
abbrev pub no_bytes : List ℕ
no_bytes = []

pub no_heads : (n levels width : ℕ) (entry : ℕ) → entry < length (replicate n no_bytes) → 8 * levels ≡ width
    → length (get_or (replicate n no_bytes) entry []) + 8 * levels ≡ width
no_heads n levels width entry low is =
    let size = length-replicate n no_bytes in
    let none = ap length (get_or-replicate n entry no_bytes [] (omega (arith, low, size))) in
    omega (arith, none, is)
