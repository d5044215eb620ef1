-- The records of a directory: from the starts and beginnings at each level, as the directory has them.
use Rattle.std.proofs.Common.{◌≡◌, refl, sym, ap, ◌∙◌, ℕ, zero, suc, ◌+◌, ◌-◌, ◌*◌, ◌<◌, ◌≤◌, List, [], ◌∷◌, ◌++◌, length, take, flat_map, get_or, append-nil, append_assoc, Vec, arith}
use Rattle.std.specs.Global.{Global}
use Rattle.std.specs.List.{range_with_len}
use Rattle.std.proofs.lemmas.List.{length-append}
use Rattle.std.proofs.lemmas.List.FromFn.{length-range_with_len, get_or-range_with_len, length-map-range_with_len, get_or-map-range_with_len, fill_by_all}
use Rattle.ghost_model.specs.forms.Runs.{Run, number_cell}
use Rattle.ghost_model.specs.forms.Gaps.{list_begin}
use Rattle.ghost_model.specs.forms.Layout.{below}
use Rattle.ghost_model.specs.forms.Flash.{list_place, directory_record, directory_records}
use Rattle.index_lists.specs.Lists.{lists_of, start_of}
use Rattle.index_lists.specs.Laws.{ListsStandBetween}
use Rattle.index_files.specs.Files.{AreLevels, ranks_of}
use Rattle.index_files.specs.Directory.{AreBegins, AreStarts, CanBeRead, entry_place, entry_places, entry_record, entry_records}
use Rattle.index_files.proofs.Starts.{number_at, ranks_at, starts_rise, lists_count}

-- how many records there are, each by its number, and how long it is
pub records_count : (heads starts begins : List (List ℕ)) → length (entry_records heads starts begins) ≡ length heads
records_count heads starts begins = length-map-range_with_len (entry_record heads starts begins) 0 (length heads)

pub records_get :
    (heads starts begins : List (List ℕ)) (entry : ℕ) → entry < length heads
    → get_or (entry_records heads starts begins) entry [] ≡ entry_record heads starts begins entry
records_get heads starts begins entry low =
    get_or-map-range_with_len (entry_record heads starts begins) 0 (length heads) entry entry [] low (omega arith)

widths : (starts begins : List (List ℕ)) (entry : ℕ) (levels : List ℕ) → length (flat_map (entry_place starts begins entry) levels) ≡ 8 * length levels
widths starts begins entry [] = refl
widths starts begins entry (level ∷ levels) =
    let more = length-append (entry_place starts begins entry level) (flat_map (entry_place starts begins entry) levels) in
    let one : length (entry_place starts begins entry level) ≡ 8 = refl in
    let rest = widths starts begins entry levels in
    omega (arith, more, one, rest)

pub record_width :
    (heads starts begins : List (List ℕ)) (entry : ℕ)
    → length (entry_record heads starts begins entry) ≡ length (get_or heads entry []) + 8 * length starts
record_width heads starts begins entry =
    let places = widths starts begins entry (below (length starts)) in
    omega (
      arith,
      length-append (get_or heads entry []) (entry_places starts begins entry (length starts)),
      places,
      length-range_with_len 0 (length starts),
    )

-- a place more
flat_push : (f : ℕ → List ℕ) (xs : List ℕ) (y : ℕ) → flat_map f (xs ++ y ∷ []) ≡ flat_map f xs ++ f y
flat_push f [] y = append-nil (f y)
flat_push f (x ∷ xs) y = ap (λ zs. f x ++ zs) (flat_push f xs y) ∙ sym (append_assoc (f x) (flat_map f xs) (f y))

range_push : (a n last : ℕ) → a + n ≡ last → range_with_len a (suc n) ≡ range_with_len a n ++ last ∷ []
range_push a zero last same = let e : a ≡ last = omega (arith, same) in ap (λ k. k ∷ []) e
range_push a (suc n) last same = ap (λ ks. a ∷ ks) (range_push (a + 1) n last (omega (arith, same)))

pub places_more :
    (starts begins : List (List ℕ)) (entry level : ℕ)
    → entry_places starts begins entry (level + 1) ≡ entry_places starts begins entry level ++ entry_place starts begins entry level
places_more starts begins entry level =
    let next : level + 1 ≡ suc level = omega arith in
    ap (λ n. entry_places starts begins entry n) next
    ∙ ap (λ ks. flat_map (entry_place starts begins entry) ks) (range_push 0 level level (omega arith))
    ∙ flat_push (entry_place starts begins entry) (below level) level

-- a number of a level's vector
module _ (columns : List (Vec ℕ Global)) (level at : ℕ) (column : Vec ℕ Global) (is : column ≡ get_or columns level column) (low : level < length columns) (long : at < length (get_or (ranks_of columns) level [])) where
  pub column_long : at < length column.items
  column_long = omega (arith, long, ap length (ranks_at columns level column is low))

  pub column_at : (number : ℕ) → number ≡ get_or column.items at number → number ≡ get_or (get_or (ranks_of columns) level []) at 0
  column_at number number_is =
      number_at column.items at number number_is column_long ∙ ap (λ xs. get_or xs at 0) (sym (ranks_at columns level column is low))

pub place_put :
    (starts begins : List (List ℕ)) (level entry at start end begin : ℕ) → start ≡ get_or (get_or starts level []) entry 0
    → end ≡ get_or (get_or starts level []) (entry + 1) 0 → begin ≡ get_or (get_or begins level []) entry 0
    → (head old new : List ℕ) → take (at + 8 * level) old ≡ head ++ entry_places starts begins entry level
    → take (at + 8 * level + 8) new ≡ take (at + 8 * level) old ++ (number_cell begin ++ number_cell (end - start))
    → take (at + 8 * (level + 1)) new ≡ head ++ entry_places starts begins entry (level + 1)
place_put starts begins level entry at start end begin start_is end_is begin_is head old new was put =
    let e : at + 8 * (level + 1) ≡ at + 8 * level + 8 = omega arith in
    let place : number_cell begin ++ number_cell (end - start) ≡ entry_place starts begins entry level =
    λ i. number_cell (begin_is i) ++ number_cell (end_is i - start_is i) in
    ap (λ n. take n new) e
    ∙ (put
    ∙ (ap (λ bytes. bytes ++ (number_cell begin ++ number_cell (end - start))) was
    ∙ (append_assoc head (entry_places starts begins entry level) (number_cell begin ++ number_cell (end - start))
    ∙ (ap (λ p. head ++ (entry_places starts begins entry level ++ p)) place
    ∙ ap (λ p. head ++ p) (sym (places_more starts begins entry level))))))

-- the same at all levels
flat_same :
    (f g : ℕ → List ℕ) (xs ys : List ℕ) → length xs ≡ length ys
    → ((k : ℕ) → k < length xs → f (get_or xs k 0) ≡ g (get_or ys k 0)) → flat_map f xs ≡ flat_map g ys
flat_same f g [] [] same each = refl
flat_same f g [] (y ∷ ys) same each = absurd (omega (arith, same))
flat_same f g (x ∷ xs) [] same each = absurd (omega (arith, same))
flat_same f g (x ∷ xs) (y ∷ ys) same each =
    let first = each 0 (omega arith) in
    let rest = flat_same f g xs ys (omega (arith, same)) (λ k low. each (suc k) (omega (arith, low))) in
    λ i. first i ++ rest i

place_same :
    ListsStandBetween → (held starts begins : List (List ℕ)) (level entry : ℕ) → entry < length held
    → get_or (get_or starts level []) entry 0 ≡ start_of held entry
    → get_or (get_or starts level []) (entry + 1) 0 ≡ start_of held (entry + 1)
    → get_or (get_or begins level []) entry 0 ≡ list_begin held entry
    → entry_place starts begins entry level ≡ list_place held entry
place_same between held starts begins level entry low start end begin =
    let count : get_or (get_or starts level []) (entry + 1) 0 - get_or (get_or starts level []) entry 0 ≡ length (get_or held entry []) =
    omega (arith, start, end, (between held entry low).rises) in
    λ i. number_cell (begin i) ++ number_cell (count i)

pub same_records :
    ListsStandBetween → (heads levels starts begins : List (List ℕ)) (entries begin : ℕ) (tables : List ℕ) (lists : ℕ → List (List ℕ)) (file : ℕ → Run)
    → length heads ≡ entries → AreStarts levels entries starts → AreBegins levels entries begins → AreLevels levels entries begin tables lists file
    → entry_records heads starts begins ≡ directory_records heads tables lists
same_records between heads levels starts begins entries begin tables lists file count are stand levels_are =
    fill_by_all (directory_record heads tables lists) (entry_records heads starts begins) (length heads) [] (records_count heads starts begins)
    (λ entry low.
    records_get heads starts begins entry low
    ∙ ap (λ places. get_or heads entry [] ++ places)
    (flat_same (entry_place starts begins entry) (λ table. list_place (lists table) entry) (below (length starts)) tables
    (length-range_with_len 0 (length starts) ∙ are.many ∙ sym levels_are.many)
    (λ k there.
    let at : k < length levels = omega (arith, there, are.many, length-range_with_len 0 (length starts)) in
    let held = lists_of (get_or levels k []) entries in
    let known : entry < entries = omega (arith, low, count) in
    let level : get_or (below (length starts)) k 0 ≡ k = get_or-range_with_len 0 (length starts) k 0 (omega (arith, at, are.many)) ∙ omega arith in
    ap (entry_place starts begins entry) level
    ∙ place_same between held starts begins k entry (omega (arith, known, lists_count (get_or levels k []) entries))
    ((are.each k at).each entry (omega (arith, known))) ((are.each k at).each (entry + 1) (omega (arith, known)))
    ((stand.each k at).each entry known)
    ∙ ap (λ ls. list_place ls entry) (levels_are.lists_are k at))))

-- the records can be made
pub can_be_read :
    (heads levels starts begins : List (List ℕ)) (entries width : ℕ) → length heads ≡ entries → AreStarts levels entries starts
    → AreBegins levels entries begins → width ≤ 256
    → ((entry : ℕ) → entry < length heads → length (get_or heads entry []) + 8 * length levels ≡ width)
    → CanBeRead heads starts begins
can_be_read heads levels starts begins entries width count are stand fits widths = record {
  narrow = λ entry low. omega (arith, widths entry low, are.many, fits);
  many = stand.many ∙ sym are.many;
  long = λ level low. (are.each level (omega (arith, low, are.many))).long ∙ ap (λ n. n + 1) (sym count);
  wide = λ level low. (stand.each level (omega (arith, low, are.many))).long ∙ sym count;
  rise = λ level entry there low.
      starts_rise (get_or levels level []) entries (get_or starts level []) (are.each level (omega (arith, there, are.many))) entry (omega (arith, low, count));
}
