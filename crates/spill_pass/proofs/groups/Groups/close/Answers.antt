use Rattle.std.proofs.Common.{rules, ◌∙◌, length, ap, sym, subst, arith}
use Rattle.edge_traits.proofs.DeviceFrames.{changes_wider}
use Rattle.page_pool.specs.Pools.{AreOut, all_given}
use Rattle.page_pool.proofs.Leases.{outs_kept, change_keeps_out}
use Rattle.id_merge.specs.declared.merge.Merge.{Merge}
use Rattle.id_merge.specs.Cursors.{leases_of, unread_in}
use Rattle.spill_pass.specs.Grouping.{groups_held, places_end}
use Rattle.flash_pages.specs.Writers.{fills}
use Rattle.spill_pass.proofs.Writing.{few_put_calls, bit_most}
use Rattle.spill_pass.proofs.Grouping.{places_below}
use Rattle.spill_pass.proofs.Closing.{put_goes, closed_goes, closed_grouping, can_place, place_reach, none_hand}
use Rattle.spill_pass.proofs.Taking.{outs_of_two}
use Rattle.spill_pass.proofs.Over.{among_itself, among_none, outside_none}
use Rattle.spill_pass.proofs.Listing.{closed_lists}
use Rattle.id_merge.specs.Cursors.{CursorGiven}
use Rattle.spill_pass.proofs.Grouping.{each_none}
use Rattle.spill_pass.proofs.PutLists.{lists_as, lists_closed}
use Rattle.spill_pass.proofs.groups.Groups.close.Goals as goal

pub put_and_count-requires-clause-can : goal.put_and_count-requires-clause-can
put_and_count-requires-clause-can g c =
    let old = c.args.self.now in
    let is = c.requires.grouping in
    can_place old is (omega (arith, places_below old is, c.requires.place))

pub end-requires : goal.end-requires
end-requires g c =
    let old = c.args.self.now in
    let is = c.requires.grouping in
    let P : Merge → Type 0 = λ m. AreOut c.put_and_count.new.pool (leases_of m.cursors.items) in
    record {
      out = subst P (sym c.replace-merge.ensures.value)
          (outs_of_two c.put_and_count.new.pool old.places.lease old.into.writer.lease (leases_of old.into.merge.cursors.items) (outs_kept (groups_held old) (change_keeps_out c.put_and_count.ensures.buffer) is.leases));
    }

pub returns-in_err-put_and_count-clause-does : goal.returns-in_err-put_and_count-clause-does
returns-in_err-put_and_count-clause-does g c = record {
  given = search rules;
  lists = among_itself c.args.self.now.into.merge.cursors.items;
  outside = search rules;
  stepped = search rules;
  at_most = search rules;
  spent = search rules;
  goes =
      let old = c.args.self.now in
      let is = c.requires.grouping in
      let put = c.put_and_count.ensures in
      put_goes old c.put_and_count.new.self is.leases
      (changes_wider put.writes.others old.places.filler.first (places_end old) (omega arith)
      (place_reach old is (omega (arith, places_below old is, c.requires.place))))
      put.buffer put.lease put.same.first;
}

pub returns-clause-does : goal.returns-clause-does
returns-clause-does g c = record {
  given =
      λ since from was.
      let old = c.args.self.now in
      let is = c.requires.grouping in
      let put = c.in_ok-put_and_count.ensures in
      let gives = c.end.ensures.given ∙ ap (λ (m : Merge). all_given c.put_and_count.new.pool (leases_of m.cursors.items)) c.replace-merge.ensures.value in
      let after = c.replace-merge.new.dest in
      let none = ap (λ (m : Merge). m.cursors.items) c.replace-merge.ensures.after ∙ c.no_lists.ensures.cursors in
      record {
        lists = each_none (CursorGiven since (g.F.Flash.state c.put_and_count.new.flash) c.end.new.pool) after.cursors.items none tt;
        puts = λ tells.
            let told = sym from.tells ∙ tells in
            lists_as (record { into = record { merge = after; writer = old.into.writer; rows = old.into.rows }; places = c.put_and_count.new.self; begun = old.into.writer.filler.count; size = old.size }) told
            (lists_closed old c.put_and_count.new.self after c.place_cell-cell.result is
            (changes_wider put.writes.others old.places.filler.first (places_end old) (omega arith)
            (place_reach old is (omega (arith, places_below old is, c.requires.place))))
            put.buffer gives c.place_cell-cell.ensures.cell put.appended (lists_as old (sym told) (was.puts tells)));
      };
  lists =
      among_none c.args.self.now.into.merge.cursors.items c.replace-merge.new.dest.cursors.items
      (ap (λ (m : Merge). m.cursors.items) c.replace-merge.ensures.after ∙ c.no_lists.ensures.cursors);
  outside =
      λ low high outside.
      outside_none low high c.replace-merge.new.dest.cursors.items (ap (λ (m : Merge). m.cursors.items) c.replace-merge.ensures.after ∙ c.no_lists.ensures.cursors);
  stepped = search rules;
  at_most = search rules;
  spent =
      let old = c.args.self.now in
      let is = c.requires.grouping in
      let put = c.in_ok-put_and_count.ensures in
      let gives = c.end.ensures.given ∙ ap (λ (m : Merge). all_given c.put_and_count.new.pool (leases_of m.cursors.items)) c.replace-merge.ensures.value in
      let after = c.replace-merge.new.dest in
      let none = ap (λ (m : Merge). m.cursors.items) c.replace-merge.ensures.after ∙ c.no_lists.ensures.cursors in
      let unions = ap (λ (m : Merge). m.unions.items) c.replace-merge.ensures.after ∙ c.no_lists.ensures.unions in
      let last = ap (λ (m : Merge). m.last) c.replace-merge.ensures.after ∙ c.no_lists.ensures.last in
      omega (
        arith,
        put.all,
        put.more.pages,
        few_put_calls old.places.filler,
        bit_most (fills old.places.filler),
        ap (λ cs. unread_in c.end.new.pool cs) none,
        places_below old is,
        c.requires.place,
      );
  goes =
      let old = c.args.self.now in
      let is = c.requires.grouping in
      let put = c.put_and_count.ensures in
      let gives = c.end.ensures.given ∙ ap (λ (m : Merge). all_given c.put_and_count.new.pool (leases_of m.cursors.items)) c.replace-merge.ensures.value in
      let after = c.replace-merge.new.dest in
      let none = ap (λ (m : Merge). m.cursors.items) c.replace-merge.ensures.after ∙ c.no_lists.ensures.cursors in
      let unions = ap (λ (m : Merge). m.unions.items) c.replace-merge.ensures.after ∙ c.no_lists.ensures.unions in
      let last = ap (λ (m : Merge). m.last) c.replace-merge.ensures.after ∙ c.no_lists.ensures.last in
      closed_goes old c.put_and_count.new.self after old.into.writer.filler.count is
      (changes_wider put.writes.others old.places.filler.first (places_end old) (omega arith)
      (place_reach old is (omega (arith, places_below old is, c.requires.place))))
      put.buffer gives none put.lease put.same.first;
}

pub returns-clause-closes : goal.returns-clause-closes
returns-clause-closes g c = record {
  closes =
      λ told right first lists was.
      let old = c.args.self.now in
      let is = c.requires.grouping in
      let put = c.in_ok-put_and_count.ensures in
      let gives = c.end.ensures.given ∙ ap (λ (m : Merge). all_given c.put_and_count.new.pool (leases_of m.cursors.items)) c.replace-merge.ensures.value in
      let after = c.replace-merge.new.dest in
      let none = ap (λ (m : Merge). m.cursors.items) c.replace-merge.ensures.after ∙ c.no_lists.ensures.cursors in
      let unions = ap (λ (m : Merge). m.unions.items) c.replace-merge.ensures.after ∙ c.no_lists.ensures.unions in
      let last = ap (λ (m : Merge). m.last) c.replace-merge.ensures.after ∙ c.no_lists.ensures.last in
      closed_lists old c.put_and_count.new.self after c.place_cell-cell.result told is
      (changes_wider put.writes.others old.places.filler.first (places_end old) (omega arith)
      (place_reach old is (omega (arith, places_below old is, c.requires.place))))
      put.buffer gives none unions last c.place_cell-cell.ensures.cell put.appended was;
  no_slot = search rules;
  tells =
      let old = c.args.self.now in
      let is = c.requires.grouping in
      let put = c.in_ok-put_and_count.ensures in
      let gives = c.end.ensures.given ∙ ap (λ (m : Merge). all_given c.put_and_count.new.pool (leases_of m.cursors.items)) c.replace-merge.ensures.value in
      let after = c.replace-merge.new.dest in
      let none = ap (λ (m : Merge). m.cursors.items) c.replace-merge.ensures.after ∙ c.no_lists.ensures.cursors in
      let unions = ap (λ (m : Merge). m.unions.items) c.replace-merge.ensures.after ∙ c.no_lists.ensures.unions in
      let last = ap (λ (m : Merge). m.last) c.replace-merge.ensures.after ∙ c.no_lists.ensures.last in
      record {
        grouping =
            closed_grouping old c.put_and_count.new.self after is
            (changes_wider put.writes.others old.places.filler.first (places_end old) (omega arith)
            (place_reach old is (omega (arith, places_below old is, c.requires.place))))
            put.buffer gives none unions last put.lease put.same put.entered
            (omega (arith, put.more.count, c.requires.place));
        lists = ap (λ cs. length cs) none;
        ids = omega (arith, none_hand after none);
        fewer = omega (arith, none_hand after none, ap (λ cs. unread_in c.end.new.pool cs) none);
        placed = put.more.count;
        none_found = last;
      };
}
