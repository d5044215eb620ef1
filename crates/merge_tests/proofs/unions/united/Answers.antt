use Rattle.std.proofs.Common.{◌∙◌, true, length, ap, arith}
use Rattle.edge_traits.specs.MemDevices.{device_of}
use Rattle.candidate_lists.specs.declared.candidates.Candidates.{Candidates}
use Rattle.candidate_lists.specs.declared.scratch.Scratch.{Scratch}
use Rattle.merge_tests.proofs.unions.united.Goals as goal

pub members-init : goal.members-init
members-init c =
    let a = c.all.ensures in
    let b = c.begin-uniting.ensures in
    record {
      held = rw (b.opened, b.candidates) (a.held true (device_of c.args.flash.now) c.args.pool.now c.requires.area);
      buffers = omega (arith, c.requires.buffers);
      unions = ap (λ (x : Candidates). length x.merge.unions.items) b.candidates ∙ a.unions;
      area = ap (λ (x : Candidates). x.scratch.other_lists) b.candidates ∙ ap (λ (s : Scratch). s.other_lists) a.scratch;
      sources = c.requires.sources;
    }

pub returns : goal.returns
returns c = record { held = c.end.ensures.held true (device_of c.members.flash) c.members.pool c.members.invariant.held }
