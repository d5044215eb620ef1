use Rattle.spill_pass.proofs.PlacedSure.{placed_gives, placed_sound}
use Rattle.spill_pass.proofs.lists.ListsListSource.next_list.Goals as goal

pub returns-in-Given-clause-sound : goal.returns-in-Given-clause-sound
returns-in-Given-clause-sound g c = rw c.in-Given.is c.next_list.ensures.sound

pub returns-in-Given-clause-less : goal.returns-in-Given-clause-less
returns-in-Given-clause-less g c = rw c.in-Given.is c.next_list.ensures.less

pub returns-in-Placed-clause-gives : goal.returns-in-Placed-clause-gives
returns-in-Placed-clause-gives g c =
    let n = c.next_list-in-Placed.ensures in
    rw c.in-Placed.is
    (λ told right rows lists has.
    placed_gives (g.F.Flash.state c.args.flash.now).page (g.F.Flash.state c.next_list-in-Placed.new.flash).page right rows _ _ lists
    c.next_list-in-Placed.result n.looks.kept.page n.looks.same.run has (n.gives told right rows lists has.has))

pub returns-in-Placed-clause-sound : goal.returns-in-Placed-clause-sound
returns-in-Placed-clause-sound g c =
    let n = c.next_list-in-Placed.ensures in
    rw c.in-Placed.is
    (λ told right rows lists has.
    placed_sound (g.F.Flash.state c.args.flash.now).page (g.F.Flash.state c.next_list-in-Placed.new.flash).page right rows _ lists _
    c.next_list-in-Placed.result n.looks.kept.page has (n.sound told right rows lists has.has))

pub returns-in-Given-clause-blames : goal.returns-in-Given-clause-blames
returns-in-Given-clause-blames g c = rw c.in-Given.is c.next_list.ensures.blames

pub returns-in-Given-clause-known : goal.returns-in-Given-clause-known
returns-in-Given-clause-known g c = rw c.in-Given.is c.next_list.ensures.known

pub returns-in-Placed-clause-blames : goal.returns-in-Placed-clause-blames
returns-in-Placed-clause-blames g c = rw c.in-Placed.is c.next_list-in-Placed.ensures.blames

pub returns-in-Placed-clause-known : goal.returns-in-Placed-clause-known
returns-in-Placed-clause-known g c = rw c.in-Placed.is c.next_list-in-Placed.ensures.known

pub returns-in-Given-clause-may : goal.returns-in-Given-clause-may
returns-in-Given-clause-may g c = rw c.in-Given.is c.next_list.ensures.may

pub returns-in-Placed-clause-may : goal.returns-in-Placed-clause-may
returns-in-Placed-clause-may g c = rw c.in-Placed.is c.next_list-in-Placed.ensures.may

pub returns-in-Given-clause-still_may : goal.returns-in-Given-clause-still_may
returns-in-Given-clause-still_may g c = rw c.in-Given.is c.next_list.ensures.still_may

pub returns-in-Placed-clause-still_may : goal.returns-in-Placed-clause-still_may
returns-in-Placed-clause-still_may g c = rw c.in-Placed.is c.next_list-in-Placed.ensures.still_may
