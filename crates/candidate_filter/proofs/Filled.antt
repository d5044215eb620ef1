-- The list of candidates that stand, as one that fills a filter.
use Rattle.std.proofs.Common.{◌≡◌, ◌∙◌, ℕ, ◌<◌, List, length, get_or, refl, sym, arith}
use Rattle.std.proofs.lemmas.List.{length-map}
use Rattle.ghost_model.specs.forms.Runs.{number_cell}
use Rattle.id_merge.specs.declared.merge.Merge.{Merge}
use Rattle.spill_pass.specs.Lists.{id_of}
use Rattle.spill_pass.specs.Reducing.{whole_list}
use Rattle.candidate_lists.specs.declared.closing.Closed.{Closed}
use Rattle.candidate_lists.specs.Closes.{ListsAll}
use Rattle.candidate_lists.proofs.Sparing.{list_outside}
use Rattle.candidate_lists.proofs.Standing.{closed_listed, inside, whole_listed}
use Rattle.candidate_filter.specs.Laws.{ClosedListsAscend, ClosedListsHave, ClosedListsLieOutside, ClosedRowsPass}
use Rattle.candidate_filter.proofs.Sparing.{listed_pass}

module _ {page first : ℕ → List ℕ} {low : ℕ} {merge : Merge} (closed : Closed) (all : ListsAll page first low merge closed) where
  abbrev ids : List ℕ
  ids = all.list.ids

  counted : (i : ℕ) → i < length ids → i < closed.run.count
  counted i within = omega (arith, within, all.list.stores.has.count, length-map ids number_cell)

  id_at_place : (i : ℕ) → i < closed.run.count → id_of page (whole_list closed.run) i ≡ get_or ids i 0
  id_at_place i within =
      whole_listed page low closed.rows closed.run ids (closed_listed all) i within

pub closed_ascend : ClosedListsAscend
closed_ascend page first low merge closed all =
    let ids = all.list.ids in
    let at = id_at_place closed all in
    let listed = closed_listed all in
    record {
      above = λ i within. omega (arith, at i within, listed.above i (inside ids listed.stores i within));
      order = λ i j less within.
          omega (arith, at i (omega (arith, less, within)), at j within, listed.ascending i j less (inside ids listed.stores j within));
      within = λ i within. omega (arith, at i within, listed.within i (inside ids listed.stores i within));
      same = λ i within some most. refl;
    }

pub closed_have : ClosedListsHave
closed_have page first low merge closed all id =
    let ids = all.list.ids in
    let at = id_at_place closed all in (
      λ has. (all.list.all id).0 (record {
        at = has.at;
        within = inside ids all.list.stores has.at has.within;
        is = has.is ∙ at has.at has.within;
      }),
      λ remains.
          let one = (all.list.all id).1 remains in
          let within = counted closed all one.at one.within in
          record { at = one.at; within = within; is = one.is ∙ sym (at one.at within) },
    )

pub closed_outside : ClosedListsLieOutside
closed_outside low high closed outside =
    list_outside low high closed.run.first closed.rows closed.run (record { first = refl; width = outside.width; count = outside.count }) outside.area

pub closed_pass : ClosedRowsPass
closed_pass page first low merge closed pool filter row all some stands remains =
    listed_pass page pool filter (whole_list closed.run) row some stands ((closed_have page first low merge closed all row).1 remains)
