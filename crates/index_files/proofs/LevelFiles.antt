-- Level files one after another: their rooms, and the pages that are written.
use Rattle.std.proofs.Common.{◌≡◌, refl, sym, ap, ◌∙◌, subst, ℕ, suc, ◌+◌, ◌/◌, ◌^◌, ◌<◌, ◌≤◌, Bool, true, inl, inr, List, [], ◌∷◌, length, take, map, get_or, fold, Vec, Err, arith}
use Rattle.std.specs.Global.{Global}
use Rattle.std.proofs.lemmas.Bool.{cases_lt}
use Rattle.std.proofs.lemmas.List.{length-map, get_or-map, take-map, take-take}
use Rattle.std.proofs.lemmas.List.Sums.{sum_by_more, sum_by-take-le}
use Rattle.ghost_model.specs.forms.Runs.{Run, pages_of, run_end}
use Rattle.ghost_model.specs.forms.Gaps.{StoresBytes, level_bytes, room_of}
use Rattle.ghost_model.specs.forms.Layout.{files_pages}
use Rattle.ghost_model.specs.forms.Work.{levels_written}
use Rattle.edge_traits.specs.Devices.{ChangesOnly, Device}
use Rattle.flash_pages.specs.Filling.{CanFill}
use Rattle.flash_pages.proofs.RunFrames.{can_fill_part, can_fill_kept, stores_above, stores_below}
use Rattle.index_lists.specs.Lists.{lists_of}
use Rattle.index_files.specs.Files.{AreLevels, items_of, ranks_of, counts_of, level_pages, level_file, level_written, written_pages}
use Rattle.index_files.specs.Laws.{pages_of_levels}
use Rattle.index_files.specs.Levels.{level_run}
use Rattle.index_files.specs.Writing.{Writes}
use Rattle.index_files.specs.declared.faults.IndexFault.{IndexFault}
use Rattle.index_files.proofs.Frames.{Written, written_more, written_as, writes_after, writes_as, fails}
use Rattle.index_files.proofs.Starts.{ranks_at}

-- by the tables of the levels
summed : (f rows : ℕ → ℕ) (a : ℕ) (tables : List ℕ) → fold (λ s x. s + f x) a (map rows tables) ≡ fold (λ s x. s + f (rows x)) a tables
summed f rows a [] = refl
summed f rows a (table ∷ tables) = summed f rows (a + f (rows table)) tables

pub pages_of_tables : (rows : ℕ → ℕ) (tables : List ℕ) → level_pages (map rows tables) ≡ pages_of_levels rows tables
pages_of_tables rows tables = summed (λ count. pages_of count 4) rows 0 tables

pub file_of_table :
    (rows : ℕ → ℕ) (tables : List ℕ) (begin level : ℕ) → level < length tables
    → level_file begin (map rows tables) level
    ≡ room_of (record { first = begin + pages_of_levels rows (take level tables); count = rows (get_or tables level 0); width = 4 })
file_of_table rows tables begin level low =
    let first = ap (λ counts. begin + level_pages counts) (take-map rows level tables) ∙ ap (λ n. begin + n) (pages_of_tables rows (take level tables)) in
    let count = get_or-map rows tables level 0 0 low in
    λ i. room_of (record { first = first i; count = count i; width = 4 })

summed_written :
    (lists : ℕ → List (List ℕ)) (f : List ℕ → ℕ) (a : ℕ) (levels : List (List ℕ)) (tables : List ℕ) → length tables ≡ length levels
    → ((level : ℕ) → level < length levels → f (get_or levels level []) ≡ pages_of (length (level_bytes (lists (get_or tables level 0)))) 1)
    → fold (λ s ranks. s + f ranks) a levels ≡ fold (λ s (file : ℕ × ℕ). s + pages_of file.0 file.1) a (levels_written lists tables)
summed_written lists f a [] [] same each = refl
summed_written lists f a [] (table ∷ tables) same each = absurd (omega (arith, same))
summed_written lists f a (ranks ∷ levels) [] same each = absurd (omega (arith, same))
summed_written lists f a (ranks ∷ levels) (table ∷ tables) same each =
    let pages = pages_of (length (level_bytes (lists table))) 1 in
    ap (λ n. fold (λ s ranks. s + f ranks) (a + n) levels) (each 0 (omega arith))
    ∙ summed_written lists f (a + pages) levels tables (omega (arith, same)) (λ level low. each (suc level) (omega (arith, low)))

pub written_of_tables :
    (levels : List (List ℕ)) (entries begin : ℕ) (tables : List ℕ) (lists : ℕ → List (List ℕ)) (file : ℕ → Run)
    → AreLevels levels entries begin tables lists file → written_pages levels entries ≡ files_pages (levels_written lists tables)
written_of_tables levels entries begin tables lists file are =
    summed_written lists (level_written entries) 0 levels tables are.many
    (λ level low. ap (λ ls. pages_of (length (level_bytes ls)) 1) (are.lists_are level low))

-- one level more
module _ (levels : List (Vec ℕ Global)) (entries done : ℕ) (ranks : Vec ℕ Global) (is : ranks ≡ get_or levels done ranks) (low : done < length levels) where
  low_ranks : done < length (ranks_of levels)
  low_ranks = omega (arith, low, length-map levels items_of)

  pub many_counts : length (counts_of (ranks_of levels)) ≡ length levels
  many_counts = length-map (ranks_of levels) length ∙ length-map levels items_of

  pub count_at : get_or (counts_of (ranks_of levels)) done 0 ≡ length ranks.items
  count_at = get_or-map length (ranks_of levels) done [] 0 low_ranks ∙ ap length (ranks_at levels done ranks is low)

  pub pages_more : level_pages (take (done + 1) (counts_of (ranks_of levels))) ≡ level_pages (take done (counts_of (ranks_of levels))) + pages_of (length ranks.items) 4
  pages_more =
      sum_by_more (λ count. pages_of count 4) (counts_of (ranks_of levels)) done 0 (omega (arith, low, many_counts))
      ∙ ap (λ n. level_pages (take done (counts_of (ranks_of levels))) + pages_of n 4) count_at

  pub pages_within : level_pages (take done (counts_of (ranks_of levels))) + pages_of (length ranks.items) 4 ≤ level_pages (counts_of (ranks_of levels))
  pages_within = omega (arith, pages_more, sum_by-take-le (λ count. pages_of count 4) (counts_of (ranks_of levels)) (done + 1))

  pub more_written : written_pages (take (done + 1) (ranks_of levels)) entries ≡ written_pages (take done (ranks_of levels)) entries + level_written entries ranks.items
  more_written =
      sum_by_more (level_written entries) (ranks_of levels) done [] low_ranks
      ∙ ap (λ rs. written_pages (take done (ranks_of levels)) entries + level_written entries rs) (ranks_at levels done ranks is low)

  pub written_within : written_pages (take done (ranks_of levels)) entries + level_written entries ranks.items ≤ written_pages (ranks_of levels) entries
  written_within = omega (arith, more_written, sum_by-take-le (level_written entries) (ranks_of levels) (done + 1))

-- a level's room ends before those of later ones
pub room_ends :
    (begin : ℕ) (counts : List ℕ) (level done : ℕ) → level < done → level < length counts
    → begin + level_pages (take level counts) + pages_of (get_or counts level 0) 4 ≤ begin + level_pages (take done counts)
room_ends begin counts level done less low =
    let pages = λ (count : ℕ). pages_of count 4 in
    let more = sum_by_more pages counts level 0 low in
    let part : level_pages (take (level + 1) (take done counts)) ≡ level_pages (take (level + 1) counts) =
    ap level_pages (take-take (level + 1) done counts (omega (arith, less))) in
    omega (arith, more, part, sum_by-take-le pages (take done counts) (level + 1))

-- the levels that are written
pub record LevelsWritten (told : Bool) (levels : List (List ℕ)) (entries begin first : ℕ) (before now : Device) (done : ℕ) : Type 0 where
  pub place : first ≡ begin + level_pages (take done (counts_of levels))
  pub stores :
      told ≡ true → (level : ℕ) → level < done
      → StoresBytes now.page (level_file begin (counts_of levels) level) (level_bytes (lists_of (get_or levels level []) entries))
  pub fits : (level : ℕ) → level < done → level_written entries (get_or levels level []) ≤ pages_of (get_or (counts_of levels) level 0) 4
  pub wrote : Written begin (begin + level_pages (take done (counts_of levels))) (written_pages (take done levels) entries) before now

-- a level file stays where only later pages change
bytes_below :
    {before now : Device} {low high : ℕ} (run : Run) (bytes : List ℕ) → run.width ≡ 1 → ChangesOnly low high before now
    → run.first + pages_of (length bytes) 1 ≤ low → StoresBytes before.page run bytes → StoresBytes now.page run bytes
bytes_below {low = low} run bytes width changes behind stores =
    let some : 0 < 2048 / run.width = (let P : ℕ → Type 0 = λ w. 0 < 2048 / w in subst P (sym width) (omega arith)) in
    let ends : run_end (record run { count = length bytes }) ≤ low = (let P : ℕ → Type 0 = λ w. run.first + pages_of (length bytes) w ≤ low in subst P (sym width) behind) in
    stores_below changes some ends stores

-- and where only earlier ones do
pub bytes_above :
    {before now : Device} {low high : ℕ} (run : Run) (bytes : List ℕ) → ChangesOnly low high before now → high ≤ run.first
    → StoresBytes before.page run bytes → StoresBytes now.page run bytes
bytes_above run bytes changes before stores = stores_above changes before stores

pub bytes_as :
    {page : ℕ → List ℕ} {run file : Run} {bytes kept : List ℕ} → run ≡ file → bytes ≡ kept → StoresBytes page run bytes → StoresBytes page file kept
bytes_as {page = page} {run = run} {kept = kept} is same stores =
    subst (λ r. StoresBytes page r kept) is (subst (λ bs. StoresBytes page run bs) same stores)

-- one level more is written
pub levels_more :
    {told : Bool} {before middle now : Device} (levels : List (Vec ℕ Global)) (entries begin first done : ℕ) (ranks : Vec ℕ Global)
    → ranks ≡ get_or levels done ranks → done < length levels
    → LevelsWritten told (ranks_of levels) entries begin first before middle done
    → Written first (first + pages_of (length ranks.items) 4) (level_written entries ranks.items) middle now
    → level_written entries ranks.items ≤ pages_of (length ranks.items) 4
    → (told ≡ true → StoresBytes now.page (level_run first (length ranks.items)) (level_bytes (lists_of ranks.items entries)))
    → LevelsWritten told (ranks_of levels) entries begin (first + pages_of (length ranks.items) 4) before now (done + 1)
levels_more {before = before} {middle = middle} {now = now} levels entries begin first done ranks is low was step room stores =
    let counts = counts_of (ranks_of levels) in
    let more = pages_more levels entries done ranks is low in
    let here = count_at levels entries done ranks is low in
    let held = ranks_at levels done ranks is low in
    record {
      place = omega (arith, was.place, more);
      stores = λ told level less.
          elim (cases_lt level done) [
            | inl earlier ↦
                let known : level < length counts = omega (arith, earlier, low, many_counts levels entries done ranks is low) in
                bytes_below (level_file begin counts level) (level_bytes (lists_of (get_or (ranks_of levels) level []) entries)) refl step.others
                (omega (arith, was.place, was.fits level earlier, room_ends begin counts level done earlier known))
                (was.stores told level earlier)
            | inr behind ↦
                let same : done ≡ level = omega (arith, less, behind) in
                let P : ℕ → Type 0 = λ k. StoresBytes now.page (level_file begin counts k) (level_bytes (lists_of (get_or (ranks_of levels) k []) entries)) in
                let run : level_run first (length ranks.items) ≡ level_file begin counts done =
                (λ i. room_of (record { first = was.place i; count = sym here i; width = 4 })) in
                let Q : Run → Type 0 = λ r. StoresBytes now.page r (level_bytes (lists_of ranks.items entries)) in
                let R : List ℕ → Type 0 = λ rs. StoresBytes now.page (level_file begin counts done) (level_bytes (lists_of rs entries)) in
                subst P same (subst R (sym held) (subst Q run (stores told)))
          ];
      fits = λ level less.
          elim (cases_lt level done) [
            | inl earlier ↦ was.fits level earlier
            | inr behind ↦
                let same : done ≡ level = omega (arith, less, behind) in
                let P : ℕ → Type 0 = λ k. level_written entries (get_or (ranks_of levels) k []) ≤ pages_of (get_or counts k 0) 4 in
                subst P same (omega (arith, room, ap (λ rs. level_written entries rs) held, ap (λ n. pages_of n 4) here))
          ];
      wrote =
          let part = level_pages (take done counts) in
          let pages = pages_of (length ranks.items) 4 in
          let end : first + pages ≡ begin + (part + pages) = omega (arith, was.place) in
          let one : Written (begin + part) (begin + (part + pages)) (level_written entries ranks.items) middle now = written_as was.place end refl step in
          let all = written_more (omega arith) (omega arith) was.wrote one in
          written_as refl (ap (λ n. begin + n) (sym more)) (sym (more_written levels entries done ranks is low)) all;
    }

-- the room of the next one
pub can_fill_level :
    {told : Bool} {before middle : Device} (levels : List (Vec ℕ Global)) (entries begin first done : ℕ) (ranks : Vec ℕ Global)
    → ranks ≡ get_or levels done ranks → done < length levels
    → LevelsWritten told (ranks_of levels) entries begin first before middle done
    → CanFill before begin (level_pages (counts_of (ranks_of levels)))
    → CanFill middle first (pages_of (length ranks.items) 4)
can_fill_level levels entries begin first done ranks is low was can =
    let within = pages_within levels entries done ranks is low in
    can_fill_kept was.wrote.others (omega (arith, was.place))
    (can_fill_part can first (pages_of (length ranks.items) 4) (omega (arith, was.place)) (omega (arith, was.place, within)))

-- a failure at the next one
pub levels_fail :
    {T U : Type 0} {told : Bool} {before middle now : Device} (levels : List (Vec ℕ Global)) (entries begin first done : ℕ) (ranks : Vec ℕ Global)
    → ranks ≡ get_or levels done ranks → done < length levels
    → LevelsWritten told (ranks_of levels) entries begin first before middle done
    → (e : IndexFault) → Writes {T = T} first (first + pages_of (length ranks.items) 4) (level_written entries ranks.items) middle now (Err e)
    → Writes {T = U} begin (begin + level_pages (counts_of (ranks_of levels))) (written_pages (ranks_of levels) entries) before now (Err e)
levels_fail {T = T} {middle = middle} {now = now} levels entries begin first done ranks is low was e step =
    let within = pages_within levels entries done ranks is low in
    let fits = written_within levels entries done ranks is low in
    let all = level_pages (counts_of (ranks_of levels)) in
    let part = level_pages (take done (counts_of (ranks_of levels))) in
    let pages = pages_of (length ranks.items) 4 in
    let end : first + pages ≡ begin + (part + pages) = omega (arith, was.place) in
    let here : Writes {T = T} (begin + part) (begin + (part + pages)) (level_written entries ranks.items) middle now (Err e) = writes_as (Err e) was.place end refl step in
    fails e (writes_after (Err e) (omega arith) (omega arith) was.wrote here) begin (begin + all) (written_pages (ranks_of levels) entries) (omega arith) (omega (arith, within)) fits

-- the next one begins at a page that has a number
pub next_fits :
    {told : Bool} {before middle : Device} (levels : List (Vec ℕ Global)) (entries begin first done : ℕ) (ranks : Vec ℕ Global)
    → ranks ≡ get_or levels done ranks → done < length levels
    → LevelsWritten told (ranks_of levels) entries begin first before middle done
    → CanFill before begin (level_pages (counts_of (ranks_of levels)))
    → first + pages_of (length ranks.items) 4 < 2 ^ 32
next_fits levels entries begin first done ranks is low was can =
    omega (arith, was.place, pages_within levels entries done ranks is low, can.there, can.small)
