-- Level files one after another.
use Rattle.std.proofs.Common.{◌≡◌, ap, sym, ◌∙◌, ℕ, zero, suc, ◌+◌, ◌*◌, ◌<◌, List, [], ◌∷◌, ◌++◌, length, map, get_or, Some, slice_get, slice_index, unwrap_or, arith}
use Rattle.std.specs.Option.{option_map}
use Rattle.std.specs.List.{range_with_len}
use Rattle.std.proofs.lemmas.List.{get_or-map, map-append, length-map}
use Rattle.std.proofs.lemmas.List.FromFn.{length-range_with_len, get_or-map-range_with_len}
use Rattle.std.proofs.lemmas.Option.{unwrap_or-slice_get, slice_get_within, slice_get-map}
use Rattle.ghost_model.specs.core.Channel.{Catalog}
use Rattle.ghost_model.specs.forms.Runs.{Run, page_bytes, pages_of}
use Rattle.ghost_model.specs.forms.Layout.{above_of, below, count_of, files_of, levels_of, ClimbingIndex, IdIndex}
use Rattle.ghost_model.specs.forms.Slots.{level_room}
use Rattle.ghost_model.specs.laws.ShortWords.{id_level, index_level}
use Rattle.climbing_index.specs.declared.directory.LevelFile.{LevelFile}
use Rattle.climbing_index.specs.Directories.{file_of}

range_more : (a n : ℕ) → range_with_len a (suc n) ≡ range_with_len a n ++ (a + n) ∷ []
range_more a zero = let e : a ≡ a + 0 = omega arith in ap (λ k. k ∷ []) e
range_more a (suc n) =
    let e : a + 1 + n ≡ a + suc n = omega arith in
    ap (λ ks. a ∷ ks) (range_more (a + 1) n ∙ ap (λ k. range_with_len (a + 1) n ++ k ∷ []) e)

-- one more
pub one_more : (file : ℕ → Run) (level : ℕ) (files after : List LevelFile) (next : LevelFile) → after ≡ files ++ next ∷ []
    → map file_of files ≡ map file (below level) → file_of next ≡ file level → map file_of after ≡ map file (below (level + 1))
one_more file level files after next grown so_far is =
    let e : level + 1 ≡ suc level = omega arith in
    let f : 0 + level ≡ level = omega arith in
    let here : map file_of files ++ file_of next ∷ [] ≡ map file (below level) ++ file level ∷ [] = λ i. so_far i ++ is i ∷ [] in
    ap (map file_of) grown
    ∙ (map-append file_of files (next ∷ [])
    ∙ (here
    ∙ (sym (map-append file (below level) (level ∷ []))
    ∙ (sym (ap (λ k. map file (below level ++ k ∷ [])) f)
    ∙ (sym (ap (map file) (range_more 0 level)) ∙ sym (ap (λ k. map file (below k)) e))))))

pub how_many : (file : ℕ → Run) (count : ℕ) (files : List LevelFile) → map file_of files ≡ map file (below count) → length files ≡ count
how_many file count files are =
    sym (length-map files file_of) ∙ (ap length are ∙ (length-map (below count) file ∙ length-range_with_len 0 count))

-- each is the one of its level
pub at_level : (file : ℕ → Run) (count : ℕ) (files : List LevelFile) → map file_of files ≡ map file (below count)
    → (level : ℕ) (one : LevelFile) → slice_get files level ≡ Some one → file_of one ≡ file level
at_level file count files are level one at =
    let size = how_many file count files are in
    let low = slice_get_within files level one at in
    let d = file_of one in
    let e : 0 + level ≡ level = omega arith in
    sym (ap (λ o. unwrap_or o d) (slice_get-map file_of files level ∙ ap (option_map file_of) at))
    ∙ (unwrap_or-slice_get (map file_of files) level d
    ∙ (ap (λ fs. get_or fs level d) are ∙ get_or-map-range_with_len file 0 count level level d (omega (arith, low, size)) e))

pub its_level : (file : ℕ → Run) (count : ℕ) (files : List LevelFile) → map file_of files ≡ map file (below count)
    → (level : ℕ) (one : LevelFile) → slice_get files level ≡ Some one → level < count
its_level file count files are level one at =
    let size = how_many file count files are in
    let low = slice_get_within files level one at in
    omega (arith, size, low)

-- a level file has the bytes of its table's room
abbrev room_of_file : ℕ × ℕ → ℕ
room_of_file file = page_bytes * pages_of file.0 file.1

pub index_level_room : (cat : Catalog) (table column level : ℕ) → level < length (levels_of cat.schema table)
    → (index_level cat table column level).count ≡ level_room cat (slice_index (levels_of cat.schema table) level)
index_level_room cat table column level low =
    let e : 2 + level ≡ suc (suc level) = omega arith in
    let files = files_of cat (ClimbingIndex table column) in
    ap room_of_file (ap (λ n. get_or files n (0, 0)) e ∙ get_or-map (λ other. (count_of cat other, 4)) (levels_of cat.schema table) level 0 (0, 0) low)

pub id_level_room : (cat : Catalog) (table level : ℕ) → level < length (above_of cat.schema table)
    → (id_level cat table level).count ≡ level_room cat (slice_index (above_of cat.schema table) level)
id_level_room cat table level low =
    let e : 1 + level ≡ suc level = omega arith in
    let files = files_of cat (IdIndex table) in
    ap room_of_file (ap (λ n. get_or files n (0, 0)) e ∙ get_or-map (λ other. (count_of cat other, 4)) (above_of cat.schema table) level 0 (0, 0) low)
