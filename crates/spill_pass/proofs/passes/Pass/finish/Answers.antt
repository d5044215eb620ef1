use Rattle.std.proofs.Common.{rules, sym, arith}
use Rattle.std.proofs.lemmas.List.{nil_from_length}
use Rattle.spill_pass.proofs.Over.{none_blames, none_damaged, outside_none, over_none}
use Rattle.spill_pass.proofs.PassContents.{stands_all}
use Rattle.spill_pass.proofs.PassFrames.{pass_of_groups}
use Rattle.spill_pass.proofs.PassGoing.{made_four, made_none, pass_ends}
use Rattle.spill_pass.proofs.PassTaking.{source_spared}
use Rattle.spill_pass.specs.Passing.{MadeFew}
use Rattle.spill_pass.proofs.passes.Pass.finish.Goals as goal
use Rattle.spill_pass.proofs.passes.Pass.finish.Goals.{then-waits, else-waits}

pub returns-in_err-placed-clause-does : goal.returns-in_err-placed-clause-does
returns-in_err-placed-clause-does g c = record {
  blames = λ since from given. none_blames since (g.F.Flash.state c.finish.new.flash) c.from_residual.result (search rules);
  sound =
      λ told right lists h of.
      none_damaged (g.S.ListSource.damaged (g.F.Flash.state c.finish.new.flash).page c.args.self.now.groups.into.rows c.args.self.now.lists) c.from_residual.result
      (search rules);
  of_source =
      λ told of.
      over_none (g.S.ListSource.may_give (g.F.Flash.state c.finish.new.flash).page c.args.self.now.lists) c.finish.new.self.into.rows
      c.finish.new.self.into.merge.cursors.items (nil_from_length c.finish.new.self.into.merge.cursors.items c.finish.ensures.finishes.empty);
  less = search rules;
  stepped = search rules;
  at_most = search rules;
  goes = pass_of_groups (g.S.ListSource.source c.args.self.now.lists) c.args.self.now.groups c.finish.new.self c.finish.ensures.finishes.goes c.requires.passing.leases;
  outside =
      λ low high uses outside.
      outside_none low high c.finish.new.self.into.merge.cursors.items (nil_from_length c.finish.new.self.into.merge.cursors.items c.finish.ensures.finishes.empty);
  fan = search rules;
  ready = search rules;
}

pub returns-clause-does : goal.returns-clause-does
returns-clause-does g c = record {
  blames = λ since from given. tt;
  sound = λ told right lists h of. tt;
  of_source =
      λ told of.
      over_none (g.S.ListSource.may_give (g.F.Flash.state c.finish.new.flash).page c.args.self.now.lists) c.finish.new.self.into.rows
      c.finish.new.self.into.merge.cursors.items (nil_from_length c.finish.new.self.into.merge.cursors.items c.finish.ensures.finishes.empty);
  less = search rules;
  stepped = search rules;
  at_most = search rules;
  goes = pass_of_groups (g.S.ListSource.source c.args.self.now.lists) c.args.self.now.groups c.finish.new.self c.finish.ensures.finishes.goes c.requires.passing.leases;
  outside =
      λ low high uses outside.
      outside_none low high c.finish.new.self.into.merge.cursors.items (nil_from_length c.finish.new.self.into.merge.cursors.items c.finish.ensures.finishes.empty);
  fan = search rules;
  ready =
      let source = g.S.ListSource.source c.args.self.now.lists in
      let is = c.requires.passing in
      let goes = pass_of_groups source c.args.self.now.groups c.finish.new.self c.finish.ensures.finishes.goes is.leases in
      c.spared.ensures.stays g.F.Flash.told (g.F.Flash.state c.args.flash.now) (g.F.Flash.state c.finish.new.flash) c.args.pool.now c.finish.new.pool
      (source_spared source c.args.self.now.groups c.finish.new.self is.lists_outside is.places_outside c.finish.ensures.finishes.goes is.leases goes) c.requires.ready;
}

pub returns-clause-finishes : goal.returns-clause-finishes
returns-clause-finishes g c = record {
  has =
      λ told right lists h.
      let n = c.in_ok-placed.ensures in
      stands_all h c.requires.none (n.finishes.stores told right h.merge h.done h.grouped);
  known = λ since from given tells. c.in_ok-placed.ensures.finishes.in_order since from given.groups tells;
  no_slot = search rules;
  spent = search rules;
  ends = omega (arith, c.in_ok-placed.ensures.finishes.runs.lists_count);
  lists_are = search rules;
  tells =
      let n = c.in_ok-placed.ensures in
      let made =
      elim c.if-waits.branch as (λ b. MadeFew c.if-waits.calls (g.F.Flash.state c.args.flash.now) (g.F.Flash.state c.finish.new.flash)) [
        | then-waits w ↦ made_four c.if-waits.calls w.calls-is c.finish.ensures.finishes.at_most (n.finishes.called (sym w.if-waits.ensures.waits))
        | else-waits w ↦ made_none c.if-waits.calls w.calls-is (n.finishes.none (sym w.if-waits.ensures.waits))
      ] in
      pass_ends (g.S.ListSource.source c.args.self.now.lists) c.args.self.now.groups c.finish.new.self c.args.self.now.fan c.in_ok-placed.placed c.if-waits.calls c.args.self.now.merging
      c.requires.passing n.finishes.runs c.finish.ensures.finishes.empty made;
}
