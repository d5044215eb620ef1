-- Candidates that stand as one list: that it may be opened, and what it has.
use Rattle.std.proofs.Common.{◌≡◌, ◌∙◌, ℕ, zero, suc, ◌+◌, ◌-◌, ◌*◌, ◌/◌, ◌^◌, ◌<◌, ◌≤◌, ◌⊎◌, inl, inr, false, nat_lt, if◌then◌else◌, List, [], ◌∷◌, length, length-take, drop, map, get_or, ap, sym, refl, subst, arith}
use Rattle.std.proofs.lemmas.Bool.Decides.{nat_tests}
use Rattle.std.proofs.lemmas.List.{length-map}
use Rattle.std.proofs.lemmas.Nat.{from_be_bytes-to_be_bytes_4}
use Rattle.ghost_model.specs.forms.Runs as runs
use Rattle.ghost_model.specs.forms.Runs.{Stores, record_at, id_at, number_in, number_cell, page_of, cell_in, slot_of}
use Rattle.ghost_base.specs.declared.runs.Run.{Run}
use Rattle.ghost_base.specs.Runs.{run_of}
use Rattle.edge_traits.specs.Devices.{Device}
use Rattle.flash_pages.specs.Cursors.{Records}
use Rattle.flash_pages.specs.declared.cursor.RunCursor.{RunCursor}
use Rattle.flash_pages.proofs.ListFrames.{listed_by_width, listed_kept}
use Rattle.id_merge.specs.declared.cursor.Cursor.{Cursor}
use Rattle.id_merge.specs.declared.cursor.Cursor.TheVariants.{List as OfList, Range}
use Rattle.id_merge.specs.declared.merge.Merge.{Merge}
use Rattle.id_merge.specs.Cursors.{CursorRight, HasAhead, cursor_at}
use Rattle.id_merge.specs.Merges.{Remains, InAll, InUnion, start_of}
use Rattle.spill_pass.specs.Grouping.{AreApart}
use Rattle.spill_pass.specs.Lists.{InList, IsOrdered, id_of}
use Rattle.spill_pass.specs.Merging.{AreAscending, IsOneOf, area_pages}
use Rattle.spill_pass.specs.PassContents.{InLists}
use Rattle.spill_pass.specs.ReduceContents.{IsUnion}
use Rattle.spill_pass.specs.Reducing.{whole_list}
use Rattle.candidate_lists.specs.declared.candidates.Candidates.{Candidates}
use Rattle.candidate_lists.specs.declared.closing.Closed.{Closed}
use Rattle.candidate_lists.specs.declared.scratch.Scratch.{Scratch}
use Rattle.candidate_lists.specs.Scratch.{HasScratch, turned}
use Rattle.candidate_lists.specs.Held.{HasOf, IsRow, over}
use Rattle.candidate_lists.specs.Reduced.{ReducedHas, ReducedIsOrdered}
use Rattle.candidate_lists.specs.Closes.{IsListIn, IsClosed, ListsAll}
use Rattle.candidate_lists.proofs.Unions.{sum_more}
use Rattle.candidate_lists.proofs.Lists.{Begins, ahead_list, begins_right, list_ahead}

-- the pages of a list at the beginning of an area lie in it
pub page_within : (run : Run) (area rows i : ℕ) → IsListIn area rows run → i < run.count → (area ≤ page_of (run_of run) i) × (page_of (run_of run) i < area + area_pages rows)
page_within run area rows i is within =
    let P : ℕ → Type 0 = λ width. (area ≤ run.first + i / (2048 / width)) × (run.first + i / (2048 / width) < area + area_pages rows) in
    let at : P 4 = (omega (arith, is.first), omega (arith, is.first, is.count, within)) in
    subst P (sym is.width) at

pub apart_page : {first end other other_end : ℕ} (page : ℕ) → AreApart first end other other_end → first ≤ page → page < end → (page < other) ⊎ (other_end ≤ page)
apart_page page (inl before) from to = inl (omega arith)
apart_page page (inr behind) from to = inr (omega arith)

pub page_apart : {first end other other_end : ℕ} (page : ℕ) → AreApart first end other other_end → other ≤ page → page < other_end → (page < first) ⊎ (end ≤ page)
page_apart page (inl before) from to = inr (omega arith)
page_apart page (inr behind) from to = inl (omega arith)

pub closed_is :
    (device : Device) (scratch next : Scratch) (rows size : ℕ) (run : Run) → HasScratch device scratch rows size → next ≡ turned scratch
    → IsListIn scratch.other_lists rows run → IsClosed device (record { run = run; rows = rows; scratch = next })
closed_is device scratch next rows size run has same is =
    let area = scratch.other_lists in
    let here = has.lists.lists area (inr (inr refl)) in
    let C : Scratch → Type 0 = λ s. IsClosed device (record { run = run; rows = rows; scratch = s }) in
    subst C (sym same) (record {
      stands = is.first;
      readable = record {
        run = record {
          some = omega (arith, is.width);
          fits = omega (arith, is.width);
          pages = λ i within. omega (arith, (page_within run area rows i is within).1, here.there);
          small = here.small;
        };
        width = Records (omega (arith, is.width));
        within = omega arith;
      };
      area = has.candidates;
      outside = λ i within.
          let page = page_within run area rows i is within in
          page_apart (page_of (run_of run) i) (has.from_lists area (inr (inr refl))) page.0 page.1;
    })

first_number : (n : ℕ) → n < 2 ^ 32 → number_in (number_cell n) 0 ≡ n
unfolding number_in
first_number n fits = from_be_bytes-to_be_bytes_4 n fits

get_cell : (xs : List ℕ) (i : ℕ) → i < length xs → get_or (map number_cell xs) i [] ≡ number_cell (get_or xs i 0)
get_cell [] i within = absurd (omega (arith, within))
get_cell (x ∷ xs) zero within = refl
get_cell (x ∷ xs) (suc i) within = get_cell xs i (omega (arith, within))

not_below : (number low : ℕ) → low ≤ number → nat_lt number low ≡ false
not_below number low from = grind (arith, nat_tests)

pub over_from : (right page : ℕ → List ℕ) (low number : ℕ) → low ≤ number → over right page low number ≡ page number
over_from right page low number from = ap (λ b. if b then right number else page number) (not_below number low from)

pub record_same : (page whole : ℕ → List ℕ) (run : Run) (i : ℕ) → whole (page_of (run_of run) i) ≡ page (page_of (run_of run) i) → record_at whole (run_of run) i ≡ record_at page (run_of run) i
unfolding record_at
record_same page whole run i same = ap (λ bytes. cell_in bytes run.width (slot_of (run_of run) i)) same

-- a run has these identifiers of the rows, ascending, from page `low` on
pub record Listed (page : ℕ → List ℕ) (run : Run) (low rows : ℕ) (ids : List ℕ) : Type 0 where
  pub stores : Stores page (run_of run) (map number_cell ids)
  pub ascending : AreAscending ids
  pub above : (i : ℕ) → i < length ids → 0 < get_or ids i 0
  pub within : (i : ℕ) → i < length ids → get_or ids i 0 ≤ rows
  pub small : (i : ℕ) → i < length ids → get_or ids i 0 < 2 ^ 32
  pub from : low ≤ run.first

pub inside : {page : ℕ → List ℕ} {run : Run} (ids : List ℕ) (stores : Stores page (run_of run) (map number_cell ids)) (i : ℕ) → i < run.count → i < length ids
inside ids stores i within = omega (arith, within, stores.has.count, length-map ids number_cell)

counted : {page : ℕ → List ℕ} {run : Run} (ids : List ℕ) (stores : Stores page (run_of run) (map number_cell ids)) (i : ℕ) → i < length ids → i < run.count
counted ids stores i within = omega (arith, within, stores.has.count, length-map ids number_cell)

id_over :
    (right page : ℕ → List ℕ) (low i : ℕ) (run : Run) → i < run.count → low ≤ run.first
    → id_of (over right page low) (whole_list run) i ≡ id_of page (whole_list run) i
id_over right page low i run within from =
    listed_kept page (over right page low) (run_of run) 0 i (omega (arith, within))
    (λ place inside. over_from right page low (page_of (run_of run) place) (omega (arith, from)))

-- a run that has identifiers has records of four bytes at least
cell_few : (bytes : List ℕ) (width slot : ℕ) → length (cell_in bytes width slot) ≤ width
cell_few bytes width slot = omega (arith, length-take (slot * width + width - slot * width) (drop (slot * width) bytes))

record_few : (page : ℕ → List ℕ) (run : runs.Run) (i : ℕ) → length (record_at page run i) ≤ run.width
unfolding record_at
record_few page run i = cell_few (page (page_of run i)) run.width (slot_of run i)

stored_wide : {page : ℕ → List ℕ} (run : Run) (ids : List ℕ) → Stores page (run_of run) (map number_cell ids) → (i : ℕ) → i < run.count → 4 ≤ run.width
stored_wide {page = page} run ids stores i within =
    let is = stores.has.each i within ∙ get_cell ids i (inside ids stores i within) in
    let four : length (number_cell (get_or ids i 0)) ≡ 4 = refl in
    omega (arith, record_few page (run_of run) i, ap (λ (r : List ℕ). length r) is, four)

pub id_listed :
    (page : ℕ → List ℕ) (low rows : ℕ) (run : Run) (ids : List ℕ) → Listed page run low rows ids → (i : ℕ) → i < run.count
    → id_at page (run_of run) i ≡ get_or ids i 0
id_listed page low rows run ids is i within =
    ap (λ r. number_in r 0) (is.stores.has.each i within ∙ get_cell ids i (inside ids is.stores i within))
    ∙ first_number (get_or ids i 0) (is.small i (inside ids is.stores i within))

pub whole_listed :
    (page : ℕ → List ℕ) (low rows : ℕ) (run : Run) (ids : List ℕ) → Listed page run low rows ids → (i : ℕ) → i < run.count
    → id_of page (whole_list run) i ≡ get_or ids i 0
whole_listed page low rows run ids is i within =
    let at : 0 + i ≡ i = omega arith in
    listed_by_width page (run_of run) 0 i (stored_wide run ids is.stores i within)
    ∙ ap (λ n. id_at page (run_of run) n) at
    ∙ id_listed page low rows run ids is i within

listed_at :
    (right page : ℕ → List ℕ) (low rows : ℕ) (run : Run) (ids : List ℕ) → Listed page run low rows ids → (i : ℕ) → i < run.count
    → id_of (over right page low) (whole_list run) i ≡ get_or ids i 0
listed_at right page low rows run ids is i within = id_over right page low i run within is.from ∙ whole_listed page low rows run ids is i within

pub listed_ordered :
    (right page : ℕ → List ℕ) (low rows : ℕ) (run : Run) (ids : List ℕ) → Listed page run low rows ids
    → IsOrdered page (over right page low) rows (whole_list run)
listed_ordered right page low rows run ids is =
    let at = listed_at right page low rows run ids is in
    record {
      above = λ i within. omega (arith, at i within, is.above i (inside ids is.stores i within));
      order = λ i j less within. omega (arith, at i (omega (arith, less, within)), at j within, is.ascending i j less (inside ids is.stores j within));
      within = λ i within. omega (arith, at i within, is.within i (inside ids is.stores i within));
      same = λ i within some most. sym (id_over right page low i run within is.from);
    }

pub listed_from :
    (right page : ℕ → List ℕ) (low rows : ℕ) (run : Run) (ids : List ℕ) (id : ℕ) → Listed page run low rows ids
    → InList (over right page low) (whole_list run) id → IsOneOf ids id
listed_from right page low rows run ids id is has = record {
  at = has.at;
  within = inside ids is.stores has.at has.within;
  is = has.is ∙ listed_at right page low rows run ids is has.at has.within;
}

pub listed_to :
    (right page : ℕ → List ℕ) (low rows : ℕ) (run : Run) (ids : List ℕ) (id : ℕ) → Listed page run low rows ids
    → IsOneOf ids id → InList (over right page low) (whole_list run) id
listed_to right page low rows run ids id is one =
    let within = counted ids is.stores one.at one.within in
    record { at = one.at; within = within; is = one.is ∙ sym (listed_at right page low rows run ids is one.at within) }

one_at : (ids : List ℕ) (i : ℕ) → i < length ids → IsOneOf ids (get_or ids i 0)
one_at ids i within = record { at = i; within = within; is = refl }

pub closed_listed :
    {page first : ℕ → List ℕ} {low : ℕ} {merge : Merge} {closed : Closed} (all : ListsAll page first low merge closed)
    → Listed page closed.run low closed.rows all.list.ids
closed_listed all =
    let ids = all.list.ids in
    record {
      stores = all.list.stores;
      ascending = all.list.ascending;
      above = λ i within. omega (arith, ((all.list.all (get_or ids i 0)).0 (one_at ids i within)).above);
      within = λ i within. all.within (get_or ids i 0) ((all.list.all (get_or ids i 0)).0 (one_at ids i within));
      small = λ i within. ((all.list.all (get_or ids i 0)).0 (one_at ids i within)).small;
      from = all.from;
    }

-- the one list that passes leave
pub union_listed :
    {page : ℕ → List ℕ} {lists : List (List ℕ)} {run : Run} (low rows : ℕ) (union : IsUnion page lists run)
    → ((id : ℕ) → InLists lists id → IsRow rows id) → rows < 2 ^ 32 → low ≤ run.first → Listed page run low rows union.ids
union_listed low rows union are small from =
    let ids = union.ids in
    let of : (i : ℕ) → i < length ids → IsRow rows (get_or ids i 0) = λ i within. are (get_or ids i 0) ((union.all (get_or ids i 0)).1 (one_at ids i within)) in
    record {
      stores = union.stores;
      ascending = union.ascending;
      above = λ i within. omega (arith, (of i within).some);
      within = λ i within. (of i within).within;
      small = λ i within. omega (arith, (of i within).within, small);
      from = from;
    }

pub reduced_ordered : ReducedIsOrdered
reduced_ordered right page low rows lists run is = listed_ordered right page low rows run is.union.ids (union_listed low rows is.union is.rows_are is.few is.from)

pub reduced_has : ReducedHas
reduced_has right page low rows lists run is id =
    let listed = union_listed low rows is.union is.rows_are is.few is.from in (
      λ has. (is.union.all id).1 (listed_from right page low rows run is.union.ids id listed has),
      λ has. listed_to right page low rows run is.union.ids id listed ((is.union.all id).0 has),
    )

-- one union of one list
one_union :
    (whole : ℕ → List ℕ) (merge : Merge) (run : RunCursor) (id : ℕ) → merge.cursors.items ≡ OfList run ∷ [] → merge.unions.items ≡ 1 ∷ []
    → InAll whole merge.cursors.items merge.unions.items id → HasAhead whole (OfList run) id
one_union whole merge run id cursors unions all =
    let P : List Cursor → Type 0 = λ cs. InAll whole cs merge.unions.items id in
    let Q : List ℕ → Type 0 = λ us. InAll whole (OfList run ∷ []) us id in
    let is = subst Q unions (subst P cursors all) 0 (omega arith) in
    let C : ℕ → Type 0 = λ at. HasAhead whole (cursor_at (OfList run ∷ []) at) id in
    let first : is.at ≡ 0 = omega (arith, is.high, sum_more [] 1) in
    subst C first is.has

union_one :
    (whole : ℕ → List ℕ) (merge : Merge) (run : RunCursor) (id : ℕ) → merge.cursors.items ≡ OfList run ∷ [] → merge.unions.items ≡ 1 ∷ []
    → HasAhead whole (OfList run) id → InAll whole merge.cursors.items merge.unions.items id
union_one whole merge run id cursors unions has =
    let P : List Cursor → Type 0 = λ cs. InAll whole cs merge.unions.items id in
    let Q : List ℕ → Type 0 = λ us. InAll whole (OfList run ∷ []) us id in
    let all : Q (1 ∷ []) = λ j within.
    let U : ℕ → Type 0 = λ k. InUnion whole (OfList run ∷ []) (start_of (1 ∷ []) k) (start_of (1 ∷ []) (k + 1)) id in
    let here : 0 ≡ j = omega (arith, within) in
    subst U here (record { at = 0; low = omega arith; high = omega (arith, sum_more [] 1); has = has }) in
    subst P (sym cursors) (subst Q (sym unions) all)

pub one_each : (P : Cursor → Type 0) (cursor : Cursor) (i : ℕ) → P cursor → P (Range 1 0) → P (cursor_at (cursor ∷ []) i)
one_each P cursor zero is none = is
one_each P cursor (suc zero) is none = none
one_each P cursor (suc (suc i)) is none = none

pub has_closed :
    (right page first : ℕ → List ℕ) (low : ℕ) (merge : Merge) (closed : Closed) (new : Candidates) (run : RunCursor) → Begins (whole_list closed.run) closed.rows run
    → new.merge.cursors.items ≡ OfList run ∷ [] → new.merge.unions.items ≡ 1 ∷ [] → new.merge.last ≡ 0 → new.rows ≡ closed.rows
    → ListsAll page first low merge closed → HasOf page (over right page low) new (Remains first merge)
has_closed right page first low merge closed new run begins cursors unions last rows all =
    let whole = over right page low in
    let list = whole_list closed.run in
    let ids = all.list.ids in
    let listed = closed_listed all in
    let ordered = listed_ordered right page low closed.rows closed.run ids listed in
    record {
      lists = λ i.
          let C : List Cursor → Type 0 = λ cs. CursorRight page whole (cursor_at cs i) in
          subst C (sym cursors) (one_each (CursorRight page whole) (OfList run) i (begins_right page whole list closed.rows run begins ordered) tt);
      all = λ id. (
        λ remains.
            let some : 0 < id = omega (arith, remains.above) in
            let in_list = list_ahead whole list closed.rows id run begins some (one_union whole new.merge run id cursors unions remains.all) in
            let given = (all.list.all id).0 (listed_from right page low closed.rows closed.run ids id listed in_list) in
            (record { some = omega (arith, some); within = omega (arith, all.within id given, rows) }, given),
        λ has. record {
          above = omega (arith, last, has.0.some);
          small = has.1.small;
          all = union_one whole new.merge run id cursors unions
              (ahead_list whole list closed.rows id run begins (listed_to right page low closed.rows closed.run ids id listed ((all.list.all id).1 has.1)));
        },
      );
    }
