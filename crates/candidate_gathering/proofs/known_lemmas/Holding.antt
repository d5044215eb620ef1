-- Pages that hold all files are known by themselves.
use Rattle.ghost_model.specs.core.Split.{hidden_of}
use Rattle.climbing_index.specs.Laws.{HeldIndexesAreWhole, HeldIdIndexesAreWhole, WholeIndexesAreHeldBut}
use Rattle.subtree_keys.specs.Laws.{HeldTablesAreHeldBut, TablesAreRightButForDamage}
use Rattle.candidate_gathering.specs.known.Laws.{HeldFilesAreKnown}
use Rattle.ghost_model.proofs.LayoutLemmas.Limited.{limited_by}

pub known : HeldIndexesAreWhole → HeldIdIndexesAreWhole → WholeIndexesAreHeldBut → HeldTablesAreHeldBut → TablesAreRightButForDamage → HeldFilesAreKnown
known whole id_whole but held right page cat database of holds =
    let hidden = hidden_of cat.schema database in
    record {
      is_of = of;
      indexes = λ table column h.
          let index = holds.indexes table column h in
          let all = whole page cat database of table column h index in
          record { values = index.values; whole = all; but = but.index page cat hidden table column index.values all };
      ids = λ table there above.
          let all = id_whole page cat database of holds.id_indexes table there above in
          record { whole = all; but = but.id_index page cat hidden table all };
      subtrees = λ table there below.
          right page cat database (limited_by cat of.proper) of.is of.counts table there (held page cat hidden holds.subtrees table there below);
    }
