-- The list so far, after one identifier more and at the end.
use Rattle.std.proofs.Common.{◌≡◌, ◌∙◌, ℕ, ◌<◌, ◌≤◌, ◌⊎◌, ◌↔◌, inl, inr, Bool, List, [], ◌∷◌, ◌++◌, length, map, get_or, ap, sym, refl, subst, Ok, arith}
use Rattle.std.proofs.lemmas.Bool.{cases_lt, cases_eq}
use Rattle.std.proofs.lemmas.List.{append_assoc, get_or_append_left, get_or_push, length-append}
use Rattle.ghost_model.specs.forms.Runs.{Stores, number_cell}
use Rattle.ghost_base.specs.declared.runs.Run.{Run}
use Rattle.ghost_base.specs.Runs.{run_of}
use Rattle.edge_traits.specs.Devices.{Device, KeepsPages}
use Rattle.page_pool.specs.Pools.{Pool}
use Rattle.page_pool.specs.Laws.{SameBuffer}
use Rattle.flash_pages.specs.declared.writer.RunWriter.{RunWriter}
use Rattle.flash_pages.specs.Writers.{HasPut}
use Rattle.flash_pages.proofs.LeaseFrames.{put_kept}
use Rattle.id_merge.specs.declared.cursor.Cursor.{Cursor}
use Rattle.id_merge.specs.declared.cursor.Cursor.TheVariants.{List as OfList, Range}
use Rattle.id_merge.specs.declared.merge.Merge.{Merge}
use Rattle.id_merge.specs.declared.merge.Step.{Step}
use Rattle.id_merge.specs.declared.merge.Step.TheVariants.{More, Found, End}
use Rattle.flash_pages.specs.Cursors.{id_in}
use Rattle.id_merge.specs.Cursors.{cursor_at, AreRight, CursorRight, IsOfRows}
use Rattle.id_merge.specs.Merges.{Remains, GivesLeast, GivesStep, GivesEnd, LastAfterStep, IsNewLast, StepTells, HandAfterStep, MadeOne, MadeNone, at_hand}
use Rattle.spill_pass.specs.declared.merging.MergeInto.{MergeInto}
use Rattle.spill_pass.specs.Merging.{IsOneOf, AreAscending, Gathers, GathersAll, IsListOf, SameIds, KeepsIds}

-- lists are right as before where they have the same identifiers
right_cursor :
    (page now right : ℕ → List ℕ) (cursor : Cursor) → SameIds page now cursor → CursorRight page right cursor → CursorRight now right cursor
right_cursor page now right (OfList run) same was = record {
  ascends = was.ascends;
  same = λ i from within is.
      let of : IsOfRows run (id_in page run i) = record {
        some = omega (arith, is.some, same i within);
        within = omega (arith, is.within, same i within);
      } in
      same i within ∙ was.same i from within of;
}
right_cursor page now right (Range low high) same was = tt

pub right_still :
    (page now right : ℕ → List ℕ) (cursors : List Cursor) → KeepsIds page now cursors → AreRight page right cursors → AreRight now right cursors
right_still page now right cursors same was = λ i. right_cursor page now right (cursor_at cursors i) (same i) (was i)

-- after a step that gave nothing
pub gathers_step :
    {told : Bool} {right : ℕ → List ℕ} {first : Merge} {earlier : List ℕ} {before now : Device} {pool later : Pool} (old : MergeInto) (merge : Merge)
    → KeepsPages before now → SameBuffer pool later old.writer.lease
    → ((id : ℕ) → Remains right merge id ↔ Remains right old.merge id) → old.merge.last ≤ merge.last
    → AreRight now.page right merge.cursors.items → Gathers told right first earlier before.page pool old
    → Gathers told right first earlier now.page later (record { merge = merge; writer = old.writer; rows = old.rows })
gathers_step old merge kept buffer same further lists was = record {
  ids = was.ids;
  put = put_kept old.writer (λ told number from to. ap (λ f. f number) kept.page) buffer was.put;
  ascending = was.ascending;
  below = λ i within. omega (arith, was.below i within, further);
  all = λ id. (
    λ has. elim has [
      | inl one ↦ (was.all id).0 (inl one)
      | inr remains ↦ (was.all id).0 (inr ((same id).0 remains))
    ],
    λ wanted. elim ((was.all id).1 wanted) [
      | inl one ↦ inl one
      | inr remains ↦ inr ((same id).1 remains)
    ],
  );
  lists = lists;
}

-- one identifier more
one_of_more : (ids : List ℕ) (new id : ℕ) → IsOneOf ids id → IsOneOf (ids ++ new ∷ []) id
one_of_more ids new id one = record {
  at = one.at;
  within = omega (arith, one.within, length-append ids (new ∷ []));
  is = one.is ∙ sym (get_or_append_left ids (new ∷ []) 0 one.at one.within);
}

one_of_last : (ids : List ℕ) (new id : ℕ) → id ≡ new → IsOneOf (ids ++ new ∷ []) id
one_of_last ids new id same = record {
  at = length ids;
  within = omega (arith, length-append ids (new ∷ []));
  is = same ∙ sym (get_or_push ids new 0 (length ids) refl);
}

one_of_pushed : (ids : List ℕ) (new id : ℕ) → IsOneOf (ids ++ new ∷ []) id → (IsOneOf ids id) ⊎ (id ≡ new)
one_of_pushed ids new id one =
    elim (cases_lt one.at (length ids)) [
      | inl before ↦ inl (record { at = one.at; within = before; is = one.is ∙ get_or_append_left ids (new ∷ []) 0 one.at before })
      | inr behind ↦
          inr (one.is ∙ get_or_push ids new 0 one.at (omega (arith, behind, one.within, length-append ids (new ∷ []))))
    ]

pub ascending_more : (ids : List ℕ) (new last : ℕ) → AreAscending ids → ((i : ℕ) → i < length ids → get_or ids i 0 ≤ last) → last < new → AreAscending (ids ++ new ∷ [])
ascending_more ids new last ascending below above = λ i j less within.
    elim (cases_lt j (length ids)) [
      | inl before ↦
          omega (arith, get_or_append_left ids (new ∷ []) 0 i (omega arith), get_or_append_left ids (new ∷ []) 0 j before, ascending i j less before)
      | inr behind ↦
          let here : length ids ≡ j = omega (arith, behind, within, length-append ids (new ∷ [])) in
          omega (arith, get_or_append_left ids (new ∷ []) 0 i (omega arith), get_or_push ids new 0 j here, below i (omega arith), above)
    ]

pub below_more : (ids : List ℕ) (new last : ℕ) → ((i : ℕ) → i < length ids → get_or ids i 0 ≤ last) → last < new → (i : ℕ) → i < length (ids ++ new ∷ []) → get_or (ids ++ new ∷ []) i 0 ≤ new
below_more ids new last below above i within =
    elim (cases_lt i (length ids)) [
      | inl before ↦ omega (arith, get_or_append_left ids (new ∷ []) 0 i before, below i before, above)
      | inr behind ↦ omega (arith, get_or_push ids new 0 i (omega (arith, behind, within, length-append ids (new ∷ []))))
    ]

pub gathers_more :
    {told : Bool} {right : ℕ → List ℕ} {first : Merge} {earlier : List ℕ} {before mid : Device} {pool then later : Pool} (old : MergeInto) (merge : Merge) (writer : RunWriter) (id : ℕ) (now : ℕ → List ℕ)
    → KeepsPages before mid → SameBuffer pool then old.writer.lease → GivesLeast right old.merge merge id → IsNewLast old.merge merge id
    → AreRight now right merge.cursors.items
    → ((ids : List ℕ) → HasPut told mid.page then old.writer (map number_cell ids) → HasPut told now later writer (map number_cell (ids ++ id ∷ [])))
    → Gathers told right first earlier before.page pool old
    → Gathers told right first earlier now later (record { merge = merge; writer = writer; rows = old.rows })
gathers_more {told = told} {right = right} {earlier = earlier} {later = later} old merge writer id now kept buffer gives last lists puts was =
    record {
      ids = was.ids ++ id ∷ [];
      put =
          let P : List ℕ → Type 0 = λ ids. HasPut told now later writer (map number_cell ids) in
          subst P (append_assoc earlier was.ids (id ∷ []))
          (puts (earlier ++ was.ids) (put_kept old.writer (λ told number from to. ap (λ f. f number) kept.page) buffer was.put));
      ascending = ascending_more was.ids id old.merge.last was.ascending was.below last.above;
      below = λ i within. omega (arith, below_more was.ids id old.merge.last was.below last.above i within, last.last);
      all = λ other.
          let Q : ℕ → Type 0 = λ k. Remains right old.merge k in (
            λ has. elim has [
              | inl one ↦ (was.all other).0 (elim (one_of_pushed was.ids id other one) [
                | inl earlier ↦ inl earlier
                | inr here ↦ inr (subst Q (sym here) gives.is)
              ])
              | inr remains ↦ (was.all other).0 (inr ((gives.rest other).0 remains).1)
            ],
            λ wanted. elim ((was.all other).1 wanted) [
              | inl one ↦ inl (one_of_more was.ids id other one)
              | inr remains ↦ elim (cases_eq other id) [
                | inl here ↦ inl (one_of_last was.ids id other here)
                | inr apart ↦ inr ((gives.rest other).1 (omega (arith, gives.least other remains, apart), remains))
              ]
            ],
          );
      lists = lists;
    }

-- at the end nothing remains
pub gathered :
    {told : Bool} {right : ℕ → List ℕ} {first : Merge} {earlier : List ℕ} {before now : Device} {pool later : Pool} (old : MergeInto) (merge : Merge)
    → KeepsPages before now → SameBuffer pool later old.writer.lease → GivesEnd right old.merge merge → old.merge.last ≤ merge.last
    → AreRight now.page right merge.cursors.items → Gathers told right first earlier before.page pool old
    → GathersAll told right first earlier now.page later (record { merge = merge; writer = old.writer; rows = old.rows })
gathered old merge kept buffer gives further lists was = record {
  gathers = gathers_step old merge kept buffer gives.same further lists was;
  none = λ id remains. gives.none id ((gives.same id).0 remains);
}

-- the list, once its last page is written
pub stands :
    {told : Bool} {right : ℕ → List ℕ} {first : Merge} {page : ℕ → List ℕ} {pool : Pool} (into : MergeInto) (now : ℕ → List ℕ) (run : Run)
    → ((records : List (List ℕ)) → HasPut told page pool into.writer records → Stores now (run_of run) records)
    → GathersAll told right first [] page pool into → IsListOf right first now run
stands into now run stores was = record {
  ids = was.gathers.ids;
  stores = stores (map number_cell was.gathers.ids) was.gathers.put;
  ascending = was.gathers.ascending;
  all = λ id. (
    λ one. (was.gathers.all id).0 (inl one),
    λ wanted. elim ((was.gathers.all id).1 wanted) [
      | inl one ↦ one
      | inr remains ↦ absurd (was.none id remains)
    ],
  );
}

-- what a step gave, by what it came to
pub found_gives : {page : ℕ → List ℕ} {old new : Merge} {step : Step} {id : ℕ} → step ≡ Found id → GivesStep page old new (Ok step) → GivesLeast page old new id
found_gives {page = page} {old = old} {new = new} is gives = let P : Step → Type 0 = λ step. GivesStep page old new (Ok step) in subst P is gives

pub end_gives : {page : ℕ → List ℕ} {old new : Merge} {step : Step} → step ≡ End → GivesStep page old new (Ok step) → GivesEnd page old new
end_gives {page = page} {old = old} {new = new} is gives = let P : Step → Type 0 = λ step. GivesStep page old new (Ok step) in subst P is gives

pub more_gives :
    {page : ℕ → List ℕ} {old new : Merge} {step : Step} → step ≡ More → GivesStep page old new (Ok step)
    → (id : ℕ) → Remains page new id ↔ Remains page old id
more_gives {page = page} {old = old} {new = new} is gives = let P : Step → Type 0 = λ step. GivesStep page old new (Ok step) in subst P is gives

pub found_last : {old new : Merge} {step : Step} {id : ℕ} → step ≡ Found id → LastAfterStep old new (Ok step) → IsNewLast old new id
found_last {old = old} {new = new} is last = let P : Step → Type 0 = λ step. LastAfterStep old new (Ok step) in subst P is last

pub end_last : (old new : Merge) {step : Step} → step ≡ End → LastAfterStep old new (Ok step) → new.last ≡ old.last
end_last old new is last = let P : Step → Type 0 = λ step. LastAfterStep old new (Ok step) in subst P is last

pub more_last : (old new : Merge) {step : Step} → step ≡ More → LastAfterStep old new (Ok step) → new.last ≡ old.last
more_last old new is last = let P : Step → Type 0 = λ step. LastAfterStep old new (Ok step) in subst P is last

pub more_tells : {before now : Device} {unread left : ℕ} {step : Step} → step ≡ More → StepTells before now unread left (Ok step) → MadeOne before now unread left
more_tells {before = before} {now = now} {unread = unread} {left = left} is tells = let P : Step → Type 0 = λ step. StepTells before now unread left (Ok step) in subst P is tells

pub found_tells : {before now : Device} {unread left id : ℕ} {step : Step} → step ≡ Found id → StepTells before now unread left (Ok step) → MadeNone before now unread left
found_tells {before = before} {now = now} {unread = unread} {left = left} is tells = let P : Step → Type 0 = λ step. StepTells before now unread left (Ok step) in subst P is tells

pub end_tells : {before now : Device} {unread left : ℕ} {step : Step} → step ≡ End → StepTells before now unread left (Ok step) → MadeNone before now unread left
end_tells {before = before} {now = now} {unread = unread} {left = left} is tells = let P : Step → Type 0 = λ step. StepTells before now unread left (Ok step) in subst P is tells

pub more_hand : (old new : Merge) {step : Step} → step ≡ More → HandAfterStep old new (Ok step) → at_hand new ≤ at_hand old
more_hand old new is hand = let P : Step → Type 0 = λ step. HandAfterStep old new (Ok step) in subst P is hand

pub found_hand : (old new : Merge) {step : Step} {id : ℕ} → step ≡ Found id → HandAfterStep old new (Ok step) → at_hand new < at_hand old
found_hand old new is hand = let P : Step → Type 0 = λ step. HandAfterStep old new (Ok step) in subst P is hand

pub end_hand : (old new : Merge) {step : Step} → step ≡ End → HandAfterStep old new (Ok step) → at_hand new ≤ at_hand old
end_hand old new is hand = let P : Step → Type 0 = λ step. HandAfterStep old new (Ok step) in subst P is hand
