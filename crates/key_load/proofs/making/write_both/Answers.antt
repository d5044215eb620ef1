use Rattle.std.proofs.Common.{arith}
use Rattle.ghost_model.specs.forms.Layout as layout
use Rattle.edge_traits.proofs.DeviceFrames.{changes_kept, kept_same}
use Rattle.key_load.proofs.making.write_both.Goals as goal

pub returns-in-Err-clause-unsealed : goal.returns-in-Err-clause-unsealed
returns-in-Err-clause-unsealed g c = λ told blank.
    let there = c.requires.there in
    let order = c.a_catalog_has_a_layout.ensures.layout.order in
    c.requires.unsealed (omega (arith, there, order.catalog)) told

pub returns-in-Err-clause-device : goal.returns-in-Err-clause-device
returns-in-Err-clause-device g c = changes_kept (kept_same (g.F.Flash.state c.args.flash.now)) 0 (layout.public_pages c.args.prepared.now.cat)
