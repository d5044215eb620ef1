-- What is put is in order, whatever the lists have.
use Rattle.std.proofs.Common.{◌≡◌, ◌∙◌, ℕ, zero, suc, ◌+◌, ◌-◌, ◌*◌, ◌^◌, ◌<◌, ◌≤◌, ◌⊎◌, inl, inr, Bool, true, false, List, [], ◌∷◌, ◌++◌, length, map, get_or, ap, sym, refl, subst, Option, None, Some, Ok, arith}
use Rattle.std.specs.List.{concat}
use Rattle.std.proofs.lemmas.Bool.{cases_lt}
use Rattle.std.proofs.lemmas.List.{append_assoc, get_or_append_left, get_or_push, length-append, length-map}
use Rattle.std.proofs.lemmas.Nat.{from_be_bytes-to_be_bytes_4}
use Rattle.ghost_model.specs.forms.Runs.{Stores, id_at, number_cell, number_in}
use Rattle.ghost_base.specs.declared.runs.ListRef.{ListRef}
use Rattle.ghost_base.specs.declared.runs.Run.{Run}
use Rattle.ghost_base.specs.Runs.{run_of}
use Rattle.edge_traits.specs.Devices.{Device, KeepsPages, SamePage, ChangesOnly}
use Rattle.page_pool.specs.Pools.{Pool, IsFree, AreOut, ChangesPage, all_given, leased}
use Rattle.page_pool.specs.Laws.{SameBuffer}
use Rattle.page_pool.proofs.Leases.{change_elsewhere, head_apart}
use Rattle.flash_pages.specs.declared.writer.RunWriter.{RunWriter}
use Rattle.flash_pages.specs.Writers.{HasPut, IsRunOf}
use Rattle.flash_pages.proofs.LeaseFrames.{put_kept}
use Rattle.flash_pages.proofs.ListFrames.{listed_by_width}
use Rattle.id_merge.specs.declared.merge.Merge.{Merge}
use Rattle.id_merge.specs.Cursors.{CursorGiven, leases_of}
use Rattle.id_merge.specs.Merges.{IsNewLast}
use Rattle.id_merge.specs.Since.{Since, IsSince, MayBlame, Blamed, InOrder}
use Rattle.id_merge.proofs.SinceLaws.{may_then}
use Rattle.spill_pass.specs.declared.groups.Groups.{Groups}
use Rattle.spill_pass.specs.declared.merging.MergeInto.{MergeInto}
use Rattle.spill_pass.specs.Given.{AreaMay, GroupsGiven, HasRowList, MergeGiven, PlacesMay, Puts, PutsList, PutsLists, StandsInOrder}
use Rattle.spill_pass.specs.Known.{KnowsList}
use Rattle.spill_pass.specs.Lists.{IsOrdered, id_of}
use Rattle.spill_pass.specs.Reducing.{whole_list}
use Rattle.spill_pass.specs.Grouping.{AreRowLists, IsGrouping, groups_held, places_end, places_of}
use Rattle.spill_pass.specs.Merging.{Goes, IsMerging, area_end, leases_held}
use Rattle.spill_pass.specs.Passing.{pass_held}
use Rattle.spill_pass.specs.Sources.{Source}
use Rattle.spill_pass.specs.Spared.{Spares}
use Rattle.spill_pass.proofs.Holders.{same_beside}
use Rattle.spill_pass.proofs.Writing.{pages_below}
use Rattle.spill_pass.proofs.Gathered.{ascending_more, below_more}
use Rattle.spill_pass.proofs.SparedLemmas.{next_within}
use Rattle.spill_pass.proofs.Grouping.{apart_pages, each_none, place_within, places_below, same_beside_area}
use Rattle.spill_pass.proofs.Closing.{other_apart}
use Rattle.spill_pass.proofs.Taking.{same_leased}
use Rattle.spill_pass.proofs.Listing.{given_same, joined, joined_more, no_ids, outs_second, places_more, put_count, rows_more}
use Rattle.spill_pass.proofs.Finishing.{finished_stores}
use Rattle.spill_pass.proofs.PassFrames.{source_spares}

-- the same where pages are told by another name
pub puts_as :
    {told other : Bool} {earlier : List ℕ} {page : ℕ → List ℕ} {pool : Pool} (into : MergeInto) → told ≡ other → Puts told earlier page pool into
    → Puts other earlier page pool into
puts_as {earlier = earlier} {page = page} {pool = pool} into same was = let P : Bool → Type 0 = λ told. Puts told earlier page pool into in subst P same was

pub lists_as :
    {told other : Bool} {page : ℕ → List ℕ} {pool : Pool} (groups : Groups) → told ≡ other → PutsLists told page pool groups → PutsLists other page pool groups
lists_as {page = page} {pool = pool} groups same was = let P : Bool → Type 0 = λ told. PutsLists told page pool groups in subst P same was

-- nothing yet
pub puts_none :
    {told : Bool} {page : ℕ → List ℕ} {pool : Pool} (into : MergeInto) → HasPut told page pool into.writer [] → Puts told [] page pool into
puts_none into put = record {
  ids = [];
  put = put;
  ascending = λ i j less within. absurd (omega (arith, within));
  above = λ i within. absurd (omega (arith, within));
  below = λ i within. absurd (omega (arith, within));
}

-- after a step that gave nothing
pub puts_step :
    {told : Bool} {earlier : List ℕ} {before now : Device} {pool later : Pool} (old : MergeInto) (merge : Merge) → KeepsPages before now
    → SameBuffer pool later old.writer.lease → old.merge.last ≤ merge.last → Puts told earlier before.page pool old
    → Puts told earlier now.page later (record { merge = merge; writer = old.writer; rows = old.rows })
puts_step old merge kept buffer further was = record {
  ids = was.ids;
  put = put_kept old.writer (λ told number from to. ap (λ f. f number) kept.page) buffer was.put;
  ascending = was.ascending;
  above = was.above;
  below = λ i within. omega (arith, was.below i within, further);
}

-- one identifier more
above_more : (ids : List ℕ) (new : ℕ) → ((i : ℕ) → i < length ids → 0 < get_or ids i 0) → 0 < new → (i : ℕ) → i < length (ids ++ new ∷ []) → 0 < get_or (ids ++ new ∷ []) i 0
above_more ids new above some i within =
    elim (cases_lt i (length ids)) [
      | inl before ↦ omega (arith, get_or_append_left ids (new ∷ []) 0 i before, above i before)
      | inr behind ↦ omega (arith, get_or_push ids new 0 i (omega (arith, behind, within, length-append ids (new ∷ []))), some)
    ]

pub puts_more :
    {told : Bool} {earlier : List ℕ} {before mid : Device} {pool then later : Pool} (old : MergeInto) (merge : Merge) (writer : RunWriter) (id : ℕ) (now : ℕ → List ℕ)
    → KeepsPages before mid → SameBuffer pool then old.writer.lease → IsNewLast old.merge merge id
    → ((ids : List ℕ) → HasPut told mid.page then old.writer (map number_cell ids) → HasPut told now later writer (map number_cell (ids ++ id ∷ [])))
    → Puts told earlier before.page pool old → Puts told earlier now later (record { merge = merge; writer = writer; rows = old.rows })
puts_more {told = told} {earlier = earlier} {later = later} old merge writer id now kept buffer last puts was = record {
  ids = was.ids ++ id ∷ [];
  put =
      let P : List ℕ → Type 0 = λ ids. HasPut told now later writer (map number_cell ids) in
      subst P (append_assoc earlier was.ids (id ∷ []))
      (puts (earlier ++ was.ids) (put_kept old.writer (λ told number from to. ap (λ f. f number) kept.page) buffer was.put));
  ascending = ascending_more was.ids id old.merge.last was.ascending was.below last.above;
  above = above_more was.ids id was.above (omega (arith, last.above));
  below = λ i within. omega (arith, below_more was.ids id old.merge.last was.below last.above i within, last.last);
}

-- the list, once its last page is written
pub puts_stand :
    {told : Bool} {page : ℕ → List ℕ} {pool : Pool} (into : MergeInto) (now : ℕ → List ℕ) (rows : ℕ) (run : Run) → into.merge.last ≤ rows
    → ((records : List (List ℕ)) → HasPut told page pool into.writer records → Stores now (run_of run) records)
    → Puts told [] page pool into → HasRowList now rows run
puts_stand into now rows run within stores was = record {
  ids = was.ids;
  stores = stores (map number_cell was.ids) was.put;
  ordered = record { ascending = was.ascending; above = was.above; within = λ i inside. omega (arith, was.below i inside, within) };
}

-- what was put stays where the pages and the buffer of the writer do
pub puts_stay :
    {earlier : List ℕ} (told : Bool) (before now : Device) (pool later : Pool) (into : MergeInto) → Spares before now pool later into
    → IsMerging told before pool into → Puts true earlier before.page pool into → Puts true earlier now.page later into
puts_stay told before now pool later into spares is was =
    let ends = next_within into.writer.filler.first into.writer.filler.pages into.writer.filler.held into.writer.filler.count into.rows
    is.can.area.block (pages_below is) is.count in
    record {
      ids = was.ids;
      put = put_kept into.writer (λ is_told number from to. (spares.area number from (omega (arith, to, ends.0))).bytes) spares.writer was.put;
      ascending = was.ascending;
      above = was.above;
      below = was.below;
    }

-- what a turn came to
pub went_puts :
    {told : Bool} {page : ℕ → List ℕ} {pool : Pool} (rows : ℕ) (into : MergeInto) {answer : Option Run} → answer ≡ None
    → PutsList told page pool rows into (Ok answer) → Puts told [] page pool into
went_puts {told = told} {page = page} {pool = pool} rows into is puts =
    let P : Option Run → Type 0 = λ answer. PutsList told page pool rows into (Ok answer) in subst P is puts

pub done_puts :
    (told : Bool) {page : ℕ → List ℕ} (pool : Pool) {rows rows' : ℕ} (into : MergeInto) {answer : Option Run} {run : Run} → rows ≡ rows' → answer ≡ Some run
    → PutsList told page pool rows into (Ok answer) → HasRowList page rows' run
done_puts told {page = page} pool {rows = rows} into {run = run} same is puts =
    let P : Option Run → Type 0 = λ answer. PutsList told page pool rows into (Ok answer) in
    let Q : ℕ → Type 0 = λ n. HasRowList page n run in
    subst Q same (subst P is puts)

-- a run that is written is in order, or a slot of it may be blamed
bool_cases : (b : Bool) → (b ≡ true) ⊎ (b ≡ false)
bool_cases true = inl refl
bool_cases false = inr refl

pub known_run :
    {Order : Type 0} (since : Since) (first rows : ℕ) (run : Run) → AreaMay since first rows → run.first ≡ first → run.width ≡ 4 → run.count ≤ rows
    → (since.told ≡ true → Order) → MayBlame since (run_of run) Order
known_run since first rows run area first_is width few order =
    let P : ℕ → Type 0 = λ f. since.may (record { first = f; count = run.count; width = run.width }) ≡ true in
    let Q : ℕ → Type 0 = λ w. since.may (record { first = first; count = run.count; width = w }) ≡ true in
    elim (bool_cases since.told) [
      | inl tells ↦ InOrder tells (order tells)
      | inr untold ↦ Blamed (subst P (sym first_is) (subst Q (sym width) (area untold run.count few)))
    ]

pub known_places :
    {Order : Type 0} (since : Since) (first size : ℕ) (run : Run) → PlacesMay since first size → run.first ≡ first → run.width ≡ 8 → 2 * run.count ≤ size + 1
    → (since.told ≡ true → Order) → MayBlame since (run_of run) Order
known_places since first size run area first_is width few order =
    let P : ℕ → Type 0 = λ f. since.may (record { first = f; count = run.count; width = run.width }) ≡ true in
    let Q : ℕ → Type 0 = λ w. since.may (record { first = first; count = run.count; width = w }) ≡ true in
    elim (bool_cases since.told) [
      | inl tells ↦ InOrder tells (order tells)
      | inr untold ↦ Blamed (subst P (sym first_is) (subst Q (sym width) (area untold run.count few)))
    ]

-- a run of identifiers that ascend, as a list
get_cell : (xs : List ℕ) (i : ℕ) → i < length xs → get_or (map number_cell xs) i [] ≡ number_cell (get_or xs i 0)
get_cell [] i within = absurd (omega (arith, within))
get_cell (x ∷ xs) zero within = refl
get_cell (x ∷ xs) (suc i) within = get_cell xs i (omega (arith, within))

first_number : (n : ℕ) → n < 2 ^ 32 → number_in (number_cell n) 0 ≡ n
unfolding number_in
first_number n fits = from_be_bytes-to_be_bytes_4 n fits

pub row_list_ordered :
    (page : ℕ → List ℕ) (rows : ℕ) (run : Run) → rows < 2 ^ 32 → run.width ≡ 4 → HasRowList page rows run → IsOrdered page page rows (whole_list run)
row_list_ordered page rows run small width was =
    let ids = was.ids in
    let all : run.count ≡ length ids = was.stores.has.count ∙ length-map ids number_cell in
    let id : (i : ℕ) → i < run.count → id_of page (whole_list run) i ≡ get_or ids i 0 =
    λ i within.
    let here : 0 + i ≡ i = omega arith in
    listed_by_width page (run_of run) 0 i (omega (arith, width))
    ∙ ap (λ n. id_at page (run_of run) n) here
    ∙ ap (λ r. number_in r 0) (was.stores.has.each i within ∙ get_cell ids i (omega (arith, within, all)))
    ∙ first_number (get_or ids i 0) (omega (arith, was.ordered.within i (omega (arith, within, all)), small)) in
    record {
      above = λ i within. omega (arith, id i within, was.ordered.above i (omega (arith, within, all)));
      order = λ i j less within. omega (arith, id i (omega (arith, less, within)), id j within, was.ordered.ascending i j less (omega (arith, within, all)));
      within = λ i within. omega (arith, id i within, was.ordered.within i (omega (arith, within, all)));
      same = λ i within some most. refl;
    }

pub known_list :
    (since : Since) (page : ℕ → List ℕ) (first rows : ℕ) (run : Run) → rows < 2 ^ 32 → AreaMay since first rows → run.first ≡ first → run.width ≡ 4
    → run.count ≤ rows → (since.told ≡ true → HasRowList page rows run) → KnowsList since page rows (whole_list run)
known_list since page first rows run small area first_is width few order =
    known_run since first rows run area first_is width few (λ tells. row_list_ordered page rows run small width (order tells))

-- what is merged was given after more steps
pub went_given :
    {told : Bool} {before now : Device} {pool later : Pool} (since : Since) (old new : MergeInto) → Goes told before now pool later old new
    → IsSince told before since → MergeGiven since before pool old
    → (told ≡ true → Puts told [] before.page pool old → Puts told [] now.page later new) → MergeGiven since now later new
went_given {told = told} {before = before} {now = now} {pool = pool} {later = later} since old new goes is was puts =
    let P : ℕ → Type 0 = λ first. AreaMay since first new.rows in
    let Q : ℕ → Type 0 = λ rows. AreaMay since old.writer.filler.first rows in
    record {
      lists = goes.given since is was.lists;
      area = subst P (sym goes.first) (subst Q (sym goes.rows) was.area);
      puts = λ tells. let is_told = sym is.tells ∙ tells in puts_as new is_told (puts is_told (puts_as old (sym is_told) (was.puts tells)));
    }

-- a list stays known where its identifiers are as they were
pub ordered_same :
    (page now : ℕ → List ℕ) (rows : ℕ) (list : ListRef) → ((i : ℕ) → i < list.count → id_of now list i ≡ id_of page list i)
    → IsOrdered page page rows list → IsOrdered now now rows list
ordered_same page now rows list same was = record {
  above = λ i within. omega (arith, same i within, was.above i within);
  order = λ i j less within. omega (arith, same i (omega (arith, less, within)), same j within, was.order i j less within);
  within = λ i within. omega (arith, same i within, was.within i within);
  same = λ i within some most. refl;
}

pub knows_same :
    (since : Since) (page now : ℕ → List ℕ) (rows : ℕ) (list : ListRef) → ((i : ℕ) → i < list.count → id_of now list i ≡ id_of page list i)
    → KnowsList since page rows list → KnowsList since now rows list
knows_same since page now rows list same knows = may_then (λ tells was. ordered_same page now rows list same was) knows

-- a step of the merge of the group at hand
pub lists_into :
    {told : Bool} {before now : Device} {pool later : Pool} (old : Groups) (into : MergeInto) → IsGrouping told before pool old
    → Goes told before now pool later old.into into → (was : PutsLists told before.page pool old)
    → Puts told (concat was.lists) now.page later into
    → PutsLists told now.page later (record { into = into; places = old.places; begun = old.begun; size = old.size })
lists_into old into is goes was puts =
    let ends =
    place_within old.places.filler.first old.places.filler.pages old.places.filler.held old.places.filler.count old.size is.area.block (places_below old is) is.placed in
    let P : ℕ → Type 0 = λ rows. AreRowLists rows was.lists in
    record {
      lists = was.lists;
      puts = puts;
      places =
          put_kept old.places
          (λ tells number from to. (same_beside_area number goes.changes (apart_pages number is.apart from (omega (arith, to, ends.0)))).bytes)
          (same_beside old.places.lease (leases_held old.into) is.leases goes.others) was.places;
      begun = was.begun;
      ordered = subst P (sym goes.rows) was.ordered;
    }

pub into_given :
    {told : Bool} {before now : Device} {pool later : Pool} (since : Since) (old : Groups) (into : MergeInto) → IsGrouping told before pool old
    → Goes told before now pool later old.into into → IsSince told before since
    → (told ≡ true → (earlier : List ℕ) → Puts told earlier before.page pool old.into → Puts told earlier now.page later into)
    → GroupsGiven since before pool old
    → GroupsGiven since now later (record { into = into; places = old.places; begun = old.begun; size = old.size })
into_given {told = told} since old into is goes from puts was = record {
  lists = goes.given since from was.lists;
  puts = λ tells.
      let is_told = sym from.tells ∙ tells in
      let put = lists_as old (sym is_told) (was.puts tells) in
      lists_as (record { into = into; places = old.places; begun = old.begun; size = old.size }) is_told
      (lists_into old into is goes put (puts is_told (concat put.lists) put.puts));
}

-- an empty group
pub given_none :
    (since : Since) (device : Device) (pool : Pool) (groups : Groups) → groups.into.merge.cursors.items ≡ [] → groups.begun ≡ 0
    → Puts true [] device.page pool groups.into → HasPut true device.page pool groups.places [] → GroupsGiven since device pool groups
given_none since device pool groups none begun put placed = record {
  lists = each_none (CursorGiven since device pool) groups.into.merge.cursors.items none tt;
  puts = λ tells. record {
    lists = [];
    puts = put;
    places = placed;
    begun = begun;
    ordered = λ i within. absurd (omega (arith, within));
  };
}

-- a list was taken
pub lists_taken :
    {told : Bool} {page : ℕ → List ℕ} {pool later : Pool} (old : Groups) (new : Merge) (lease : ℕ) → AreOut pool (groups_held old)
    → later ≡ leased pool lease → IsFree pool lease → new.last ≡ old.into.merge.last → PutsLists told page pool old
    → PutsLists told page later (record { into = record { merge = new; writer = old.into.writer; rows = old.into.rows }; places = old.places; begun = old.begun; size = old.size })
lists_taken {pool = pool} {later = later} old new lease are is free last was =
    let g = was.puts in
    let P : Pool → Type 0 = λ p. SameBuffer pool p old.into.writer.lease in
    let Q : Pool → Type 0 = λ p. SameBuffer pool p old.places.lease in
    record {
      lists = was.lists;
      puts = record {
        ids = g.ids;
        put =
            put_kept old.into.writer (λ is_told number from to. refl)
            (subst P (sym is) (same_leased pool lease old.into.writer.lease free (outs_second pool _ _ _ are))) g.put;
        ascending = g.ascending;
        above = g.above;
        below = λ i within. omega (arith, g.below i within, last);
      };
      places = put_kept old.places (λ is_told number from to. refl) (subst Q (sym is) (same_leased pool lease old.places.lease free are.0)) was.places;
      begun = was.begun;
      ordered = was.ordered;
    }

-- the list of the group at hand is at its end
pub lists_closed :
    {told : Bool} {before now : Device} {pool then later : Pool} (old : Groups) (places : RunWriter) (merge : Merge) (cell : List ℕ)
    → IsGrouping told before pool old → ChangesOnly old.places.filler.first (places_end old) before now → ChangesPage pool then old.places.lease
    → later ≡ all_given then (leases_of old.into.merge.cursors.items)
    → cell ≡ number_cell old.begun ++ number_cell (old.into.writer.filler.count - old.begun)
    → ((records : List (List ℕ)) → HasPut told before.page pool old.places records → HasPut told now.page then places (records ++ cell ∷ []))
    → PutsLists told before.page pool old
    → PutsLists told now.page later (record { into = record { merge = merge; writer = old.into.writer; rows = old.into.rows }; places = places; begun = old.into.writer.filler.count; size = old.size })
lists_closed {told = told} {before = before} {now = now} {pool = pool} {then = then} {later = later} old places merge cell is changes buffer gives cell_is appended was =
    let g = was.puts in
    let lists = was.lists in
    let ids = g.ids in
    let writer = old.into.writer in
    let leases = leases_of old.into.merge.cursors.items in
    let count : writer.filler.count ≡ length (concat lists) + length ids =
    put_count pool old.into (map number_cell (concat lists ++ ids)) is.merging g.put ∙ length-map (concat lists ++ ids) number_cell ∙ length-append (concat lists) ids in
    let ends =
    next_within writer.filler.first writer.filler.pages writer.filler.held writer.filler.count old.into.rows is.merging.can.area.block
    (pages_below is.merging) is.merging.count in
    let P : Pool → Type 0 = λ p. SameBuffer then p writer.lease in
    let Q : Pool → Type 0 = λ p. SameBuffer then p places.lease in
    let H : List ℕ → Type 0 = λ all. HasPut told now.page later writer (map number_cell all) in
    let K : List (List ℕ) → Type 0 = λ all. HasPut told now.page later places all in
    let apart = head_apart pool old.places.lease (writer.lease ∷ leases) 0 0 (omega arith) is.leases in
    let one = change_elsewhere buffer apart in
    let two = subst P (sym gives) (given_same then leases writer.lease) in
    let from_none : length (concat lists) ≡ 0 + length (concat lists) = omega arith in
    let cell_then : cell ≡ number_cell (0 + length (concat lists)) ++ number_cell (length ids) =
    cell_is ∙ ap (λ n. number_cell n ++ number_cell (writer.filler.count - n)) was.begun
    ∙ ap (λ n. number_cell (length (concat lists)) ++ number_cell n) (omega (arith, count))
    ∙ ap (λ n. number_cell n ++ number_cell (length ids)) from_none in
    record {
      lists = lists ++ ids ∷ [];
      puts = record {
        ids = [];
        put =
            subst H (joined_more lists ids)
            (put_kept {pool = pool} {later = later} writer (λ tells number from to. (same_beside_area number changes (other_apart number is.apart from (omega (arith, to, ends.0)))).bytes)
            (record { bytes = two.bytes ∙ one.bytes; filled = two.filled ∙ one.filled }) g.put);
        ascending = λ i j less within. absurd (omega (arith, within));
        above = λ i within. absurd (omega (arith, within));
        below = λ i within. absurd (omega (arith, within));
      };
      places =
          subst K (ap (λ c. places_of 0 lists ++ c ∷ []) cell_then ∙ places_more 0 lists ids)
          (put_kept {pool = then} {later = later} places (λ tells number from to. refl) (subst Q (sym gives) (given_same then leases places.lease)) (appended (places_of 0 lists) was.places));
      begun = count ∙ sym (length-append (concat lists) ids) ∙ ap (λ all. length all) (joined lists ids);
      ordered = rows_more old.into.rows lists ids was.ordered (record {
        ascending = g.ascending;
        above = g.above;
        within = λ i within. omega (arith, g.below i within, is.merging.can.within);
      });
    }

-- all lists stand
pub lists_stand :
    {told : Bool} {before mid now : Device} {pool then : Pool} (old : Groups) (run places : Run) → IsGrouping told before pool old
    → old.into.merge.last ≡ 0 → ChangesOnly old.into.writer.filler.first (area_end old.into) before mid
    → ChangesOnly old.places.filler.first (places_end old) mid now → then ≡ pool → IsRunOf old.into.writer.filler run
    → ((records : List (List ℕ)) → HasPut told before.page pool old.into.writer records → Stores mid.page (run_of run) records)
    → ((records : List (List ℕ)) → HasPut told mid.page then old.places records → Stores now.page (run_of places) records)
    → PutsLists told before.page pool old → StandsInOrder now.page old.into.rows (record { places = places; lists = run })
lists_stand old run places is last one two same run_is stores places_stores was =
    let g = was.puts in
    record {
      lists = was.lists;
      stores =
          finished_stores was.lists old run places is one two same run_is stores places_stores g.ids
          (no_ids g.ids (λ i within. omega (arith, g.below i within, last)) g.above) g.put was.places;
      ordered = was.ordered;
    }

-- lists are written as before where the pages and the buffers of both writers are
pub lists_stay :
    (told : Bool) (before now : Device) (pool later : Pool) (groups : Groups) → Spares before now pool later groups.into
    → ((page : ℕ) → groups.places.filler.first ≤ page → page < places_end groups → SamePage before now page)
    → SameBuffer pool later groups.places.lease → IsGrouping told before pool groups → PutsLists true before.page pool groups
    → PutsLists true now.page later groups
lists_stay told before now pool later groups spares places buffer is was =
    let ends =
    place_within groups.places.filler.first groups.places.filler.pages groups.places.filler.held groups.places.filler.count groups.size is.area.block
    (places_below groups is) is.placed in
    record {
      lists = was.lists;
      puts = puts_stay told before now pool later groups.into spares is.merging was.puts;
      places = put_kept groups.places (λ is_told number from to. (places number from (omega (arith, to, ends.0))).bytes) buffer was.places;
      begun = was.begun;
      ordered = was.ordered;
    }

-- a call on the source leaves them
pub lists_beside :
    {told : Bool} {before now : Device} {pool later : Pool} (source : Source) (groups : Groups) → KeepsPages before now
    → ChangesPage pool later source.lease → AreOut pool (pass_held source groups) → IsGrouping told before pool groups
    → PutsLists true before.page pool groups → PutsLists true now.page later groups
lists_beside {told = told} {before = before} {now = now} {pool = pool} {later = later} source groups kept changes are is was = record {
  lists = was.lists;
  puts = puts_stay told before now pool later groups.into (source_spares source groups kept changes are) is.merging was.puts;
  places =
      put_kept groups.places (λ is_told number from to. ap (λ f. f number) kept.page)
      (change_elsewhere changes (head_apart pool source.lease (groups_held groups) 0 0 (omega arith) are)) was.places;
  begun = was.begun;
  ordered = was.ordered;
}
