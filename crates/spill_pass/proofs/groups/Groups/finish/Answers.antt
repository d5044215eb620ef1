use Rattle.std.proofs.Common.{rules, ◌∙◌, sym}
use Rattle.spill_pass.proofs.Grouping.{goes_on}
use Rattle.spill_pass.proofs.Going.{finish_in_area}
use Rattle.spill_pass.proofs.Finishing.{can_finish, finish_lists_goes, finish_places_goes, finish_places_in_area, finished_lists}
use Rattle.spill_pass.proofs.PutLists.{lists_as, lists_stand}
use Rattle.spill_pass.proofs.groups.Groups.finish.Goals as goal

pub finish_and_count-requires-2-clause-can : goal.finish_and_count-requires-2-clause-can
finish_and_count-requires-2-clause-can g c = λ wait.
    let is = c.requires.grouping in
    let one = c.finish_and_count.ensures in
    can_finish c.args.self.now (g.F.Flash.state c.finish_and_count.new.flash) is (finish_in_area is.merging one.writes.others one.unwritten) wait

pub returns-in_err-lists : goal.returns-in_err-lists
returns-in_err-lists g c = record {
  finishes = record {
    stores = search rules;
    in_order = search rules;
    runs = search rules;
    empty = search rules;
    stepped = search rules;
    most = search rules;
    all = search rules;
    none = search rules;
    called = search rules;
    no_slot = search rules;
    at_most = search rules;
    goes =
        let f = c.finish_and_count.ensures in
        finish_lists_goes c.args.self.now c.finish_and_count.new.self c.requires.grouping f.writes.others f.unwritten f.buffers f.same;
  };
}

pub returns-in_err-places : goal.returns-in_err-places
returns-in_err-places g c = record {
  finishes = record {
    stores = search rules;
    in_order = search rules;
    runs = search rules;
    empty = search rules;
    stepped = search rules;
    most = search rules;
    all = search rules;
    none = search rules;
    called = search rules;
    no_slot = search rules;
    at_most = search rules;
    goes =
        let old = c.args.self.now in
        let is = c.requires.grouping in
        let one = c.finish_and_count.ensures in
        let two = c.finish_and_count-2.ensures in
        let goes = finish_lists_goes old c.finish_and_count.new.self is one.writes.others one.unwritten one.buffers one.same in
        goes_on goes
        (finish_places_goes old (record { merge = old.into.merge; writer = c.finish_and_count.new.self; rows = old.into.rows }) c.finish_and_count-2.new.self is goes.still two.writes.others two.unwritten two.buffers two.same);
  };
}

pub returns : goal.returns
returns g c = record {
  finishes = record {
    stores =
        λ told right first lists was.
        let old = c.args.self.now in
        let is = c.requires.grouping in
        let one = c.in_ok-lists.ensures in
        let two = c.in_ok-places.ensures in
        finished_lists old c.in_ok-lists.lists c.in_ok-places.places told is c.requires.none_found (finish_in_area is.merging one.writes.others one.unwritten)
        (finish_places_in_area old is two.writes.others two.unwritten) one.buffers one.run (one.stores told) (two.stores told) was;
    in_order =
        λ since from was tells.
        let told = sym from.tells ∙ tells in
        let old = c.args.self.now in
        let is = c.requires.grouping in
        let one = c.in_ok-lists.ensures in
        let two = c.in_ok-places.ensures in
        lists_stand old c.in_ok-lists.lists c.in_ok-places.places is c.requires.none_found (finish_in_area is.merging one.writes.others one.unwritten)
        (finish_places_in_area old is two.writes.others two.unwritten) one.buffers one.run (one.stores told) (two.stores told) (lists_as old (sym told) (was.puts tells));
    runs = search rules;
    empty = search rules;
    stepped = search rules;
    most = search rules;
    all = search rules;
    none = search rules;
    called = search rules;
    no_slot = search rules;
    at_most = search rules;
    goes =
        let old = c.args.self.now in
        let is = c.requires.grouping in
        let one = c.finish_and_count.ensures in
        let two = c.finish_and_count-2.ensures in
        let goes = finish_lists_goes old c.finish_and_count.new.self is one.writes.others one.unwritten one.buffers one.same in
        goes_on goes
        (finish_places_goes old (record { merge = old.into.merge; writer = c.finish_and_count.new.self; rows = old.into.rows }) c.finish_and_count-2.new.self is goes.still two.writes.others two.unwritten two.buffers two.same);
  };
}
