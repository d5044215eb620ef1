use Rattle.std.proofs.Common.{Some, ap, ◌∙◌}
use Rattle.std.specs.Prelude.{is_some}
use Rattle.key_commands.proofs.local_lemmas.Begun.{put_there}
use Rattle.key_commands.proofs.local.preparing.depot_with.Goals as goal

pub returns-clause-file : goal.returns-clause-file
returns-clause-file c =
    put_there c.in_ok-depot.depot.files.files c.put.new.self.files.files c.args.name.now c.deref.result.now (c.put.ensures.put c.if-not-put.false) ∙ ap Some c.deref.ensures.value

pub returns-clause-is_sure : goal.returns-clause-is_sure
returns-clause-is_sure c =
    let there = put_there c.in_ok-depot.depot.files.files c.put.new.self.files.files c.args.name.now c.deref.result.now (c.put.ensures.put c.if-not-put.false) in
    record {
      none_fails = ap (λ script. script.fails.items) c.put.ensures.script ∙ c.in_ok-depot.ensures.script.numbers;
      there = ap is_some there;
    }
