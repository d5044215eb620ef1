use Rattle.id_merge.specs.Cursors.{leases_of}
use Rattle.candidate_lists.proofs.Damaging.{damage_stays}
use Rattle.candidate_lists.proofs.Giving.{candidates_stay_given, closing_stays_given}
use Rattle.candidate_lists.proofs.Sparing.{beside_stays, closed_is_kept, closing_has_stays, closing_is_small, closing_left_stays, closing_stays, held_stays, opened_stays, opening_stays, reduced_stays, scratch_is_outside, spares_rest}
use Rattle.candidate_lists.proofs.Costs.{closing_costs_stay}
use Rattle.candidate_lists.proofs.Joins.{joined_stays, joining_stays}
use Rattle.candidate_lists.proofs.spared.candidates_are_spared.Goals as goal

pub returns-clause-rest : goal.returns-clause-rest
returns-clause-rest c = spares_rest

pub returns-clause-held : goal.returns-clause-held
returns-clause-held c = held_stays c.cursors_are_spared.ensures.cursors

pub returns-clause-damage : goal.returns-clause-damage
returns-clause-damage c = damage_stays

pub returns-clause-opening : goal.returns-clause-opening
returns-clause-opening c = opening_stays c.cursors_are_spared.ensures.cursors

pub returns-clause-opened : goal.returns-clause-opened
returns-clause-opened c = opened_stays c.cursors_are_spared.ensures.right

pub returns-clause-closing : goal.returns-clause-closing
returns-clause-closing c = closing_stays c.merging_is_spared.ensures.merging

pub returns-clause-closing_has : goal.returns-clause-closing_has
returns-clause-closing_has c = closing_has_stays c.merging_is_spared.ensures.gathers

pub returns-clause-closing_left : goal.returns-clause-closing_left
returns-clause-closing_left c = closing_left_stays c.merging_is_spared.ensures.left

pub returns-clause-closing_small : goal.returns-clause-closing_small
returns-clause-closing_small c = closing_is_small c.merging_is_spared.ensures.small

pub returns-clause-closed : goal.returns-clause-closed
returns-clause-closed c = closed_is_kept

pub returns-clause-beside : goal.returns-clause-beside
returns-clause-beside c = beside_stays

pub returns-clause-reduced : goal.returns-clause-reduced
returns-clause-reduced c = reduced_stays

pub returns-clause-scratch : goal.returns-clause-scratch
returns-clause-scratch c = scratch_is_outside

pub returns-clause-joining : goal.returns-clause-joining
returns-clause-joining c = joining_stays

pub returns-clause-joined : goal.returns-clause-joined
returns-clause-joined c = joined_stays

pub returns-clause-closing_costs : goal.returns-clause-closing_costs
returns-clause-closing_costs c = λ low high before now pool later closing most spares.
    closing_costs_stay most closing.into closing.run c.cursors_are_spared.ensures.unread
    (spares_rest low high before now pool later closing.into.writer.lease (leases_of closing.into.merge.cursors.items) spares)

pub returns-clause-given : goal.returns-clause-given
returns-clause-given c = candidates_stay_given c.cursors_are_spared.ensures.given

pub returns-clause-closing_given : goal.returns-clause-closing_given
returns-clause-closing_given c = closing_stays_given c.merging_is_spared.ensures.given
