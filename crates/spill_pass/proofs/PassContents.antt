-- What the lists of a pass have together stays the same.
use Rattle.std.proofs.Common.{◌≡◌, ◌∙◌, ℕ, zero, suc, ◌+◌, ◌<◌, ◌⊎◌, inl, inr, Bool, List, [], ◌∷◌, ◌++◌, length, get_or, ap, sym, refl, subst, arith}
use Rattle.std.specs.Prelude.{Option, Some, None, Ok}
use Rattle.ghost_base.specs.declared.runs.ListRef.{ListRef}
use Rattle.edge_traits.specs.Devices.{Device, KeepsPages}
use Rattle.page_pool.specs.Pools.{Pool, AreOut, ChangesPage}
use Rattle.page_pool.proofs.Leases.{change_elsewhere, head_apart}
use Rattle.flash_pages.proofs.LeaseFrames.{put_kept}
use Rattle.id_merge.specs.declared.merge.Merge.{Merge}
use Rattle.id_merge.specs.Merges.{InAll, Remains}
use Rattle.std.specs.List.{concat}
use Rattle.spill_pass.specs.declared.groups.Groups.{Groups}
use Rattle.spill_pass.specs.declared.groups.PlacedLists.{PlacedLists}
use Rattle.spill_pass.specs.Grouping.{IsGrouped, IsGrouping, ListsGroup, StoresLists, TakesList, groups_held, lists_at_hand}
use Rattle.spill_pass.specs.Lists.{InList}
use Rattle.spill_pass.specs.Merging.{IsOneOf}
use Rattle.spill_pass.specs.PassContents.{HasAll, HasDone, InLists, StandsAll, TookHas}
use Rattle.spill_pass.specs.Passing.{pass_held}
use Rattle.spill_pass.specs.Sources.{Source, GivesFirst}
use Rattle.spill_pass.proofs.PassFrames.{source_spares}
use Rattle.spill_pass.proofs.SparedLemmas.{still_gathers}

-- lists with one more at their beginning or their end
in_at : (first : List ℕ) (rest : List (List ℕ)) (id at : ℕ) → at < length (first ∷ rest) → IsOneOf (get_or (first ∷ rest) at []) id → IsOneOf first id ⊎ InLists rest id
in_at first rest id zero within is = inl is
in_at first rest id (suc at) within is = inr (record { at = at; within = omega (arith, within); is = is })

pub in_cons : (first : List ℕ) (rest : List (List ℕ)) (id : ℕ) → InLists (first ∷ rest) id → IsOneOf first id ⊎ InLists rest id
in_cons first rest id has = in_at first rest id has.at has.within has.is

pub in_first : (first : List ℕ) (rest : List (List ℕ)) (id : ℕ) → IsOneOf first id → InLists (first ∷ rest) id
in_first first rest id one = record { at = 0; within = omega arith; is = one }

pub in_rest : (first : List ℕ) (rest : List (List ℕ)) (id : ℕ) → InLists rest id → InLists (first ∷ rest) id
in_rest first rest id has = record { at = suc has.at; within = omega (arith, has.within); is = has.is }

pub in_none : (id : ℕ) → InLists [] id → ⊥
in_none id has = absurd (omega (arith, has.within))

in_append : (done : List (List ℕ)) (ids : List ℕ) (id : ℕ) → InLists (done ++ ids ∷ []) id → InLists done id ⊎ IsOneOf ids id
in_append [] ids id has = elim (in_cons ids [] id has) [ inl one ↦ inr one | inr none ↦ absurd (in_none id none) ]
in_append (first ∷ done) ids id has =
    elim (in_cons first (done ++ ids ∷ []) id has) [
      | inl one ↦ inl (in_first first done id one)
      | inr more ↦ elim (in_append done ids id more) [ inl there ↦ inl (in_rest first done id there) | inr last ↦ inr last ]
    ]

in_more : (done : List (List ℕ)) (ids : List ℕ) (id : ℕ) → InLists done id → InLists (done ++ ids ∷ []) id
in_more [] ids id has = absurd (in_none id has)
in_more (first ∷ done) ids id has =
    elim (in_cons first done id has) [
      | inl one ↦ in_first first (done ++ ids ∷ []) id one
      | inr more ↦ in_rest first (done ++ ids ∷ []) id (in_more done ids id more)
    ]

in_last : (done : List (List ℕ)) (ids : List ℕ) (id : ℕ) → IsOneOf ids id → InLists (done ++ ids ∷ []) id
in_last [] ids id one = in_first ids [] id one
in_last (first ∷ done) ids id one = in_rest first (done ++ ids ∷ []) id (in_last done ids id one)

-- a call on the source leaves what is written and at hand
pub grouped_beside :
    {told : Bool} {before now : Device} {pool later : Pool} (right : ℕ → List ℕ) (merge : Merge) (lists : List (List ℕ)) (source : Source) (groups : Groups)
    → KeepsPages before now → ChangesPage pool later source.lease → AreOut pool (pass_held source groups) → IsGrouping told before pool groups
    → IsGrouped told right merge lists before.page pool groups → IsGrouped told right merge lists now.page later groups
grouped_beside {told = told} {before = before} {now = now} {pool = pool} {later = later} right merge lists source groups kept changes are is has = record {
  gathers =
      still_gathers told right merge (concat lists) before now pool later groups.into (source_spares source groups kept changes are) is.merging
      has.gathers;
  places =
      put_kept groups.places (λ is_told number from to. ap (λ f. f number) kept.page)
      (change_elsewhere changes (head_apart pool source.lease (groups_held groups) 0 0 (omega arith) are)) has.places;
  begun = has.begun;
  ordered = has.ordered;
}

one_of_list : {has : List (List ℕ) → Type 0} {page right : ℕ → List ℕ} {rows : ℕ} {lists : List (List ℕ)} {list : ListRef} (id : ℕ) (gives : GivesFirst has page right rows lists list) → IsOneOf gives.first id → InList right list id
one_of_list {list = list} id gives one =
    let within : one.at < list.count = omega (arith, one.within, gives.count) in
    record { at = one.at; within = within; is = one.is ∙ sym (gives.ids one.at within) }

list_of_one : {has : List (List ℕ) → Type 0} {page right : ℕ → List ℕ} {rows : ℕ} {lists : List (List ℕ)} {list : ListRef} (id : ℕ) (gives : GivesFirst has page right rows lists list) → InList right list id → IsOneOf gives.first id
list_of_one id gives one = record { at = one.at; within = omega (arith, one.within, gives.count); is = one.is ∙ gives.ids one.at one.within }

-- a list was taken into the group at hand
pub took_has :
    {has has' : List (List ℕ) → Type 0} {told : Bool} {right page now : ℕ → List ℕ} {pool later : Pool} {old new : Groups} {lists : List (List ℕ)} {rows : ℕ} {list : ListRef}
    (h : HasAll has told right page pool old lists) → GivesFirst has' now right rows h.left list
    → TakesList told right h.merge h.done now later list old new → lists_at_hand new ≡ lists_at_hand old + 1
    → HasAll has' told right now later new lists
took_has {right = right} {new = new} {lists = lists} h gives takes more = record {
  merge = new.into.merge;
  done = h.done;
  left = gives.rest;
  has_left = gives.has_rest;
  grouped = takes.grouped;
  empty = λ none id remains. absurd (omega (arith, none, more));
  all = λ id. (
    λ one. elim ((h.all id).0 one) [
      | inl done ↦ inl done
      | inr (inl remains) ↦ inr (inl ((takes.more id).1 (inl remains)))
      | inr (inr left) ↦
          let P : List (List ℕ) → Type 0 = λ ls. InLists ls id in
          elim (in_cons gives.first gives.rest id (subst P gives.is left)) [
            | inl first ↦ inr (inl ((takes.more id).1 (inr (one_of_list id gives first))))
            | inr rest ↦ inr (inr rest)
          ]
    ],
    λ one. elim one [
      | inl done ↦ (h.all id).1 (inl done)
      | inr (inl remains) ↦
          let P : List (List ℕ) → Type 0 = λ ls. InLists ls id in
          elim ((takes.more id).0 remains) [
            | inl was ↦ (h.all id).1 (inr (inl was))
            | inr first ↦ (h.all id).1 (inr (inr (subst P (sym gives.is) (in_first gives.first gives.rest id (list_of_one id gives first)))))
          ]
      | inr (inr rest) ↦
          let P : List (List ℕ) → Type 0 = λ ls. InLists ls id in
          (h.all id).1 (inr (inr (subst P (sym gives.is) (in_rest gives.first gives.rest id rest))))
    ],
  );
}

-- no list was left
pub none_has :
    {has : List (List ℕ) → Type 0} {told : Bool} {right page now : ℕ → List ℕ} {pool later : Pool} {groups : Groups} {lists : List (List ℕ)}
    (h : HasAll has told right page pool groups lists) → h.left ≡ [] → IsGrouped told right h.merge h.done now later groups → HasDone told right now later groups lists
none_has h none grouped = record {
  merge = h.merge;
  done = h.done;
  grouped = grouped;
  empty = h.empty;
  all = λ id. (
    λ one. elim ((h.all id).0 one) [
      | inl done ↦ inl done
      | inr (inl remains) ↦ inr remains
      | inr (inr left) ↦ let P : List (List ℕ) → Type 0 = λ ls. InLists ls id in absurd (in_none id (subst P none left))
    ],
    λ one. elim one [ inl done ↦ (h.all id).1 (inl done) | inr remains ↦ (h.all id).1 (inr (inl remains)) ],
  );
}

-- the same by other pages and another source
pub same_has :
    {has : List (List ℕ) → Type 0} {told : Bool} {right page now : ℕ → List ℕ} {pool later : Pool} {old new : Groups} {lists : List (List ℕ)} (has' : List (List ℕ) → Type 0)
    (h : HasAll has told right page pool old lists) → has' h.left → IsGrouped told right h.merge h.done now later new
    → lists_at_hand new ≡ lists_at_hand old → HasAll has' told right now later new lists
same_has has' h left grouped count = record {
  merge = h.merge;
  done = h.done;
  left = h.left;
  has_left = left;
  grouped = grouped;
  empty = λ none. h.empty (omega (arith, none, count));
  all = h.all;
}

-- the list of the group at hand was written
pub listed_has :
    {has : List (List ℕ) → Type 0} {told : Bool} {right page now : ℕ → List ℕ} {pool later : Pool} {old new : Groups} {lists : List (List ℕ)} (has' : List (List ℕ) → Type 0)
    (h : HasAll has told right page pool old lists) → has' h.left → ListsGroup told right h.merge h.done now later new
    → HasAll has' told right now later new lists
listed_has {new = new} has' h left group = record {
  merge = new.into.merge;
  done = h.done ++ group.ids ∷ [];
  left = h.left;
  has_left = left;
  grouped = group.grouped;
  empty = λ none. group.empty;
  all = λ id. (
    λ one. elim ((h.all id).0 one) [
      | inl done ↦ inl (in_more h.done group.ids id done)
      | inr (inl remains) ↦ inl (in_last h.done group.ids id ((group.all id).1 remains))
      | inr (inr rest) ↦ inr (inr rest)
    ],
    λ one. elim one [
      | inl done ↦ elim (in_append h.done group.ids id done) [
        | inl before ↦ (h.all id).1 (inl before)
        | inr last ↦ (h.all id).1 (inr (inl ((group.all id).0 last)))
      ]
      | inr (inl remains) ↦ absurd (group.empty id remains)
      | inr (inr rest) ↦ (h.all id).1 (inr (inr rest))
    ],
  );
}

-- all lists are written
pub stands_all :
    {told : Bool} {right page now : ℕ → List ℕ} {pool : Pool} {groups : Groups} {lists : List (List ℕ)} {placed : PlacedLists}
    (h : HasDone told right page pool groups lists) → lists_at_hand groups ≡ 0 → StoresLists now h.done placed → StandsAll now groups.into.rows lists placed
stands_all h none stores = record {
  done = h.done;
  stores = stores;
  ordered = h.grouped.ordered;
  all = λ id. (
    λ one. elim ((h.all id).0 one) [ inl done ↦ done | inr remains ↦ absurd (h.empty none id remains) ],
    λ done. (h.all id).1 (inl done),
  );
}

-- what taking a list came to
pub took_some :
    {has : List (List ℕ) → Type 0} {told : Bool} {right page : ℕ → List ℕ} {pool : Pool} {groups : Groups} {lists : List (List ℕ)} {answer : Option ℕ} {calls : ℕ}
    → answer ≡ Some calls → TookHas has told right page pool groups lists (Ok answer) → HasAll has told right page pool groups lists
took_some {has = has} {told = told} {right = right} {page = page} {pool = pool} {groups = groups} {lists = lists} is took =
    let P : Option ℕ → Type 0 = λ a. TookHas has told right page pool groups lists (Ok a) in subst P is took

pub took_none :
    (has : List (List ℕ) → Type 0) {told : Bool} {right page : ℕ → List ℕ} {pool : Pool} {groups : Groups} {lists : List (List ℕ)} {answer : Option ℕ}
    → answer ≡ None → TookHas has told right page pool groups lists (Ok answer) → HasAll has told right page pool groups lists × HasDone told right page pool groups lists
took_none has {told = told} {right = right} {page = page} {pool = pool} {groups = groups} {lists = lists} is took =
    let P : Option ℕ → Type 0 = λ a. TookHas has told right page pool groups lists (Ok a) in subst P is took

pub stands_rows : {page : ℕ → List ℕ} {rows rows' : ℕ} {lists : List (List ℕ)} {placed : PlacedLists} → rows' ≡ rows → StandsAll page rows' lists placed → StandsAll page rows lists placed
stands_rows {page = page} {lists = lists} {placed = placed} same stands = let P : ℕ → Type 0 = λ r. StandsAll page r lists placed in subst P same stands

-- an empty group has nothing to give
nothing_remains : (page : ℕ → List ℕ) (merge : Merge) → merge.unions.items ≡ 0 ∷ [] → (id : ℕ) → Remains page merge id → ⊥
nothing_remains page merge is id remains =
    let P : List ℕ → Type 0 = λ unions. InAll page merge.cursors.items unions id in
    let all = subst P is remains.all in
    let union = all 0 (omega arith) in
    absurd (omega (arith, union.high))

pub begun_has :
    {told : Bool} {page right : ℕ → List ℕ} {pool : Pool} {groups : Groups} (has : List (List ℕ) → Type 0) (ids : List (List ℕ)) → has ids
    → groups.into.merge.unions.items ≡ 0 ∷ [] → IsGrouped told right groups.into.merge [] page pool groups → HasAll has told right page pool groups ids
begun_has {right = right} {groups = groups} has ids left union grouped = record {
  merge = groups.into.merge;
  done = [];
  left = ids;
  has_left = left;
  grouped = grouped;
  empty = λ none. nothing_remains right groups.into.merge union;
  all = λ id. (
    λ one. inr (inr one),
    λ one. elim one [
      | inl none ↦ absurd (in_none id none)
      | inr (inl remains) ↦ absurd (nothing_remains right groups.into.merge union id remains)
      | inr (inr left) ↦ left
    ],
  );
}

-- what is still to come in what all lists have
pub took_left :
    {has has' : List (List ℕ) → Type 0} {told : Bool} {right page now : ℕ → List ℕ} {pool later : Pool} {old new : Groups} {lists : List (List ℕ)} {rows : ℕ} {list : ListRef}
    (h : HasAll has told right page pool old lists) (gives : GivesFirst has' now right rows h.left list)
    (takes : TakesList told right h.merge h.done now later list old new) (more : lists_at_hand new ≡ lists_at_hand old + 1)
    → (took_has h gives takes more).left ≡ gives.rest
unfolding took_has
took_left h gives takes more = refl

pub same_left :
    {has : List (List ℕ) → Type 0} {told : Bool} {right page now : ℕ → List ℕ} {pool later : Pool} {old new : Groups} {lists : List (List ℕ)} (has' : List (List ℕ) → Type 0)
    (h : HasAll has told right page pool old lists) (left : has' h.left) (grouped : IsGrouped told right h.merge h.done now later new)
    (count : lists_at_hand new ≡ lists_at_hand old) → (same_has has' h left grouped count).left ≡ h.left
unfolding same_has
same_left has' h left grouped count = refl

pub listed_left :
    {has : List (List ℕ) → Type 0} {told : Bool} {right page now : ℕ → List ℕ} {pool later : Pool} {old new : Groups} {lists : List (List ℕ)} (has' : List (List ℕ) → Type 0)
    (h : HasAll has told right page pool old lists) (left : has' h.left) (group : ListsGroup told right h.merge h.done now later new)
    → (listed_has has' h left group).left ≡ h.left
unfolding listed_has
listed_left has' h left group = refl

pub begun_left :
    {told : Bool} {page right : ℕ → List ℕ} {pool : Pool} {groups : Groups} (has : List (List ℕ) → Type 0) (ids : List (List ℕ)) (left : has ids)
    (union : groups.into.merge.unions.items ≡ 0 ∷ []) (grouped : IsGrouped told right groups.into.merge [] page pool groups)
    → (begun_has has ids left union grouped).left ≡ ids
unfolding begun_has
begun_left has ids left union grouped = refl
