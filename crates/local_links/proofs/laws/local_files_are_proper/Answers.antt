use Rattle.std.proofs.Common.{length, subst}
use Rattle.ghost_model.specs.core.Asks.{asked_of}
use Rattle.ghost_model.specs.core.Moves.{lines}
use Rattle.ghost_model.specs.core.Recorded.{IsProperFile}
use Rattle.local_links.proofs.Told.{local_told, finished_closed}
use Rattle.local_links.proofs.laws.local_files_are_proper.Goals as goal

pub returns : goal.returns
returns c = record {
  proper = λ catalog database texts journal is finished short.
      subst (λ closed. IsProperFile catalog (asked_of catalog.schema texts) (lines journal) (length journal) closed) (finished_closed journal finished)
      (c.proper_files_are_found.ensures.found catalog (asked_of catalog.schema texts) journal is.proper (local_told c.served_journals_join.ensures catalog database texts journal is) short);
}
