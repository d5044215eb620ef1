use Rattle.edge_traits.specs.MemDevices.{device_of}
use Rattle.merge_tests.proofs.unions.take.Goals as goal

pub returns-in-Range-clause-held : goal.returns-in-Range-clause-held
returns-in-Range-clause-held c = c.take_range.ensures.held (device_of c.args.flash.now) c.args.pool.now c.requires.held
