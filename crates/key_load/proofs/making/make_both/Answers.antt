use Rattle.std.proofs.Common.{◌≡◌, ◌∙◌, inr, true}
use Rattle.key_load.specs.Preparing.{IsBuilt}
use Rattle.key_load.proofs.Endings.{made, others_stay}
use Rattle.key_load.proofs.making.make_both.Goals as goal

pub write_both-requires-clause-unsealed : goal.write_both-requires-clause-unsealed
write_both-requires-clause-unsealed g c = λ some told. c.in-Ok.ensures.unsealed c.requires.enough some told

pub returns-in-Ok-clause-made : goal.returns-in-Ok-clause-made
returns-in-Ok-clause-made g c =
    made c.write_both.result g.F.Flash.told c.args.prepared.now c.args.flash_name.now c.args.visible.now (g.D.Depot.contents c.args.depot.now) (g.D.Depot.contents c.write_both.new.depot) (g.F.Flash.state c.write_both.new.flash)
    c.write_both.ensures.catalog c.write_both.ensures.fresh (λ told. c.write_both.ensures.files c.args.prepared.now.hidden (c.in-Ok.ensures.holds told))
    (c.write_both.ensures.device.name ∙ c.in-Ok.ensures.named) (c.write_both.ensures.device.page_count ∙ c.in-Ok.ensures.pages) c.write_both.ensures.file

pub returns-in-Ok-clause-in_order : goal.returns-in-Ok-clause-in_order
returns-in-Ok-clause-in_order g c =
    let built : IsBuilt g.F.Flash.told c.args.prepared.now c.args.flash_name.now (g.F.Flash.state c.write_both.new.flash) = record {
      name = c.write_both.ensures.device.name ∙ c.in-Ok.ensures.named;
      pages = c.write_both.ensures.device.page_count ∙ c.in-Ok.ensures.pages;
      holds = λ told. c.write_both.ensures.files c.args.prepared.now.hidden (c.in-Ok.ensures.holds told);
    } in
    record {
      built_first = inr built;
      depot_last = λ of_depot. built;
      flash_file = λ of_flash. inr (c.write_both.ensures.flash_file of_flash);
      sealed_last = λ some begun. c.write_both.ensures.sealed_last begun;
      files_first = λ some begun told. built.holds told;
    }

pub returns-in-Err-NoMemory-clause-unsealed : goal.returns-in-Err-NoMemory-clause-unsealed
returns-in-Err-NoMemory-clause-unsealed g c = λ some told blank. c.in-Err-NoMemory.ensures.unsealed c.requires.enough some told

pub returns-in-Err-Flash-clause-unsealed : goal.returns-in-Err-Flash-clause-unsealed
returns-in-Err-Flash-clause-unsealed g c = λ some told blank. c.in-Err-Flash.ensures.unsealed c.requires.enough some told

pub returns-in-Err-NoMemory-clause-never_other : goal.returns-in-Err-NoMemory-clause-never_other
returns-in-Err-NoMemory-clause-never_other g c = c.in-Err-NoMemory.ensures.never_other c.requires.enough

pub returns-in-Err-Flash-clause-never_other : goal.returns-in-Err-Flash-clause-never_other
returns-in-Err-Flash-clause-never_other g c = c.in-Err-Flash.ensures.never_other c.requires.enough

pub returns-in-Ok-clause-other_flashes : goal.returns-in-Ok-clause-other_flashes
returns-in-Ok-clause-other_flashes g c = λ told other apart.
    others_stay c.args.flash_name.now other c.write_both.ensures.device c.in-Ok.ensures.named apart ∙ c.make_and_build.ensures.others told other apart
