use Rattle.std.proofs.Common.{sym, arith, get_or}
use Rattle.std.proofs.lemmas.Str.Pattern.{split_parts}
use Rattle.key_migrate.specs.Items.{is_point}
use Rattle.key_migrate.proofs.ItemLemmas.{none_passes, unequal, without_point}
use Rattle.key_migrate.proofs.items.item_field.Goals as goal

pub returns-in-None : goal.returns-in-None
returns-in-None c =
    let parts = rw c.in-None.is at (split_parts 46 c.args.item.now c.split_once.result c.split_once.ensures.cases (omega arith)) in
    record { field = sym (without_point c.args.schema.now c.args.item.now (none_passes is_point c.args.item.now (λ k l. unequal (get_or c.args.item.now k 0) 46 (parts k l)))) }
