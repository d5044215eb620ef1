-- A sifted list is what some merge has to give: one of this list alone. So it is opened as candidates.
use Rattle.std.proofs.Common.{◌≡◌, ℕ, ◌+◌, ◌^◌, ◌<◌, ◌≤◌, Bool, List, [], ◌∷◌, length, get_or, refl, subst, arith}
use Rattle.ghost_base.specs.declared.runs.Run.{Run}
use Rattle.flash_pages.specs.declared.cursor.RunCursor.{RunCursor}
use Rattle.id_merge.specs.declared.cursor.Cursor.TheVariants.{List as OfList}
use Rattle.id_merge.specs.declared.merge.Merge.{Merge}
use Rattle.id_merge.specs.Cursors.{HasAhead, cursor_at}
use Rattle.id_merge.specs.Merges.{InUnion, Remains, start_of}
use Rattle.spill_pass.specs.Merging.{IsOneOf}
use Rattle.spill_pass.specs.Reducing.{whole_list}
use Rattle.candidate_lists.specs.declared.closing.Closed.{Closed}
use Rattle.candidate_lists.specs.Held.{over}
use Rattle.candidate_lists.proofs.Lists.{ahead_list, list_ahead}
use Rattle.candidate_lists.proofs.Standing.{Listed, listed_from, listed_to}
use Rattle.candidate_lists.proofs.Unions.{sum_more}
use Rattle.candidate_filter.specs.Laws.{PassingListsOpen}
use Rattle.candidate_filter.specs.Sifts.{IsSifted, ListsPassing, RemainsPassing}

-- a cursor at the beginning of the list, and the merge of it alone
abbrev cursor_of : Run → RunCursor
cursor_of run = record { list = whole_list run; rows = 0; at = 0; place = 0; last = 0; lease = 0 }

abbrev merge_of : Run → Merge
merge_of run = record { cursors = record { items = OfList (cursor_of run) ∷ [] }; unions = record { items = 1 ∷ [] }; last = 0 }

-- what the one has ahead is what the other has to give
ahead_of : (whole : ℕ → List ℕ) (run : Run) (id : ℕ) → Remains whole (merge_of run) id → HasAhead whole (OfList (cursor_of run)) id
ahead_of whole run id remains =
    let is = remains.all 0 (omega arith) in
    let C : ℕ → Type 0 = λ at. HasAhead whole (cursor_at (OfList (cursor_of run) ∷ []) at) id in
    let first : is.at ≡ 0 = omega (arith, is.high, sum_more [] 1) in
    subst C first is.has

of_ahead : (whole : ℕ → List ℕ) (run : Run) (id : ℕ) → 0 < id → id < 2 ^ 32 → HasAhead whole (OfList (cursor_of run)) id → Remains whole (merge_of run) id
of_ahead whole run id some fits has = record {
  above = some;
  small = fits;
  all = λ j within.
      let U : ℕ → Type 0 = λ k. InUnion whole (OfList (cursor_of run) ∷ []) (start_of (1 ∷ []) k) (start_of (1 ∷ []) (k + 1)) id in
      let here : 0 ≡ j = omega (arith, within) in
      subst U here (record { at = 0; low = omega arith; high = omega (arith, sum_more [] 1); has = has });
}

module _ {right page : ℕ → List ℕ} {first : Merge} {passes : ℕ → Bool} (closed : Closed) (low : ℕ) (is : IsSifted right first passes page closed.run)
    (within : (id : ℕ) → RemainsPassing right passes first id → id ≤ closed.rows) (from : low ≤ closed.run.first) where
  remains_at : (i : ℕ) → i < length is.ids → RemainsPassing right passes first (get_or is.ids i 0)
  remains_at i inside = (is.all (get_or is.ids i 0)).0 (record { at = i; within = inside; is = refl })

  listed : Listed page closed.run low closed.rows is.ids
  listed = record {
    stores = is.stores;
    ascending = is.ascending;
    above = λ i inside. omega (arith, (remains_at i inside).0.above);
    within = λ i inside. within (get_or is.ids i 0) (remains_at i inside);
    small = λ i inside. (remains_at i inside).0.small;
    from = from;
  }

  abbrev whole : ℕ → List ℕ
  whole = over page page low

  one_of : (id : ℕ) → Remains whole (merge_of closed.run) id → IsOneOf is.ids id
  one_of id remains =
      listed_from page page low closed.rows closed.run is.ids id listed
      (list_ahead whole (whole_list closed.run) 0 id (cursor_of closed.run) (record { list_is = refl; rows_is = refl; at_is = refl; place_is = refl; last_is = refl })
      (omega (arith, remains.above)) (ahead_of whole closed.run id remains))

  of_one : (id : ℕ) → IsOneOf is.ids id → Remains whole (merge_of closed.run) id
  of_one id one =
      let passing = (is.all id).0 one in
      of_ahead whole closed.run id (omega (arith, passing.0.above)) passing.0.small
      (ahead_list whole (whole_list closed.run) 0 id (cursor_of closed.run) (record { list_is = refl; rows_is = refl; at_is = refl; place_is = refl; last_is = refl })
      (listed_to page page low closed.rows closed.run is.ids id listed one))

  pub sifted_lists : closed.run.width ≡ 4 → ListsPassing page right low passes first closed
  sifted_lists width = record {
    right = whole;
    of = merge_of closed.run;
    lists = record {
      list = record { ids = is.ids; stores = is.stores; ascending = is.ascending; all = λ id. (of_one id, one_of id) };
      within = λ id remains. within id ((is.all id).0 (one_of id remains));
      from = from;
      width = width;
    };
    all = λ id. (λ remains. (is.all id).0 (one_of id remains), λ passing. of_one id ((is.all id).1 passing));
  }

pub passing_open : PassingListsOpen
passing_open right page first low passes merge closed candidates list has = record {
  lists = has.lists;
  all = λ id. (
    λ candidate. let is = (has.all id).0 candidate in (is.0, (list.all id).0 is.1),
    λ passing. (has.all id).1 (passing.0, (list.all id).1 passing.1),
  );
}
