use Rattle.flash_layout.proofs.layout.Layout.index_directory.Goals as goal

pub levels-requires : goal.levels-requires
levels-requires c = record { there = (c.laws.ensures.layout.order.there_are c.args.table c.args.column c.requires.hidden).0 }
