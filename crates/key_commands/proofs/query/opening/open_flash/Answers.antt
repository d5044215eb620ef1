use Rattle.std.proofs.Common.{◌∙◌, arith}
use Rattle.key_commands.proofs.NamedDevices.{named_on, none_changed}
use Rattle.key_commands.proofs.query.opening.open_flash.Goals as goal

pub returns-in-Ok-clause-kept : goal.returns-in-Ok-clause-kept
returns-in-Ok-clause-kept g c = record {
  kept = named_on g.F.Flash.told (g.F.Flash.state c.args.flash.now) (g.F.Flash.state c.attach.new.self) (g.F.Flash.state c.catalog_of.new.flash) c.in-Ok.ensures.kept (none_changed g.F.Flash.told (g.F.Flash.state c.attach.new.self) (g.F.Flash.state c.catalog_of.new.flash) c.catalog_of.ensures.kept);
  deep_reads = c.catalog_of.ensures.deep_reads ∙ c.in-Ok.ensures.deep_reads;
  never_falls = omega (arith, c.catalog_of.ensures.never_falls, c.in-Ok.ensures.cause.never_falls);
}
