-- Whole sessions of a key over a link to a host in its own process that holds the public part of a database.
use Rattle.std.specs.Prelude.{◌≡◌, ◌≤◌, ℕ, true, List, [], Option, length}
use Rattle.std.specs.List.{list_all}
use Rattle.ghost_model.specs.core.Values.{Database}
use Rattle.ghost_model.specs.core.Channel.{Catalog, Journal}
use Rattle.ghost_model.specs.core.Moves.{lines}
use Rattle.ghost_model.specs.core.Asks.{asked_of}
use Rattle.ghost_model.specs.core.NextMove.{IsProper, IsFinished}
use Rattle.ghost_model.specs.core.Recorded.{IsProperFile, most_journal}
use Rattle.ghost_model.specs.core.Honest.{IsSetting, IsCatalogOf}
use Rattle.edge_traits.specs.Files.{Files}
use Rattle.edge_traits.specs.Links.{Steps}
use Rattle.session_laws.specs.Serving.{first_desk}
use Rattle.session_laws.specs.Local.{IsLocal, holding_of}
use Rattle.local_links.specs.Links.{IsAt, IsSureLink, Moves, depot_of, faults_of}
use Rattle.local_links.specs.Keeping.{Kept, Writes, is_short, is_within, log_of, named}
use Rattle.local_links.specs.declared.host_link.HostLink.{HostLink}
use Rattle.local_links.specs.declared.journaled.Journaled.{Journaled}

-- whatever the depot, no move of a key on such a link fails
abbrev pub ProperMovesNeverFail : {D : Type 0} → (contents : D → Option Files) → (faults : D → ℕ) → (sure : D → List ℕ → Type 0) → Type 0
ProperMovesNeverFail {D} contents faults sure =
    (catalog : Catalog) (at : List ℕ) (texts : List (List ℕ)) (journal : Journal) (before after : HostLink D)
    → IsProper catalog at texts journal → Steps (Moves contents faults sure) before journal after
    → faults_of after ≡ faults_of before

-- a session was one with a host in the process, the depot is as sure of the host's file as before, and neither its
-- count of faults nor the link's rose
pub record GoesLocally {D : Type 0} (contents : D → Option Files) (faults : D → ℕ) (sure : D → List ℕ → Type 0) (catalog : Catalog) (database : Database) (at : List ℕ) (texts : List (List ℕ)) (before : HostLink D) (journal : Journal) (after : HostLink D) : Type 0 where
  pub is_local : IsLocal catalog database at texts journal
  pub stands : IsAt contents (holding_of catalog database) after is_local.desk
  pub sure_still : IsSureLink sure after
  pub calm : faults (depot_of after) ≡ faults (depot_of before)
  pub never_failed : faults_of after ≡ faults_of before

-- the moves of a key, each the next one, on a link to a host that holds the public part of a database and awaits the
-- greeting, over a depot that is sure of the host's file
abbrev pub SessionsAreLocal : {D : Type 0} → (contents : D → Option Files) → (faults : D → ℕ) → (sure : D → List ℕ → Type 0) → Type 0
SessionsAreLocal {D} contents faults sure =
    (catalog : Catalog) (database : Database) (at : List ℕ) (texts : List (List ℕ)) (journal : Journal) (before after : HostLink D)
    → IsSetting catalog texts → IsCatalogOf catalog database → IsProper catalog at texts journal
    → Steps (Moves contents faults sure) before journal after
    → IsSureLink sure before → IsAt contents (holding_of catalog database) before first_desk
    → GoesLocally contents faults sure catalog database at texts before journal after

-- a line has room for each move of a key, whatever link it goes by, if that gives no more bytes than it is asked for
abbrev pub ProperMovesAreShort : Type 0
ProperMovesAreShort =
    (catalog : Catalog) (at : List ℕ) (texts : List (List ℕ)) (journal : Journal)
    → IsSetting catalog texts → IsProper catalog at texts journal → list_all is_within journal ≡ true
    → list_all is_short journal ≡ true

-- the moves of a key on a link that keeps a journal of another go into the file that is named
abbrev pub ProperJournalsAreWritten : {L D : Type 0} → (Went : L → Journal → L → Type 0) → (contents : D → Option Files) → (faults append_faults : D → ℕ) → Type 0
ProperJournalsAreWritten {L} {D} Went contents faults append_faults =
    (catalog : Catalog) (at : List ℕ) (texts : List (List ℕ)) (journal : Journal) (before after : Journaled L D)
    → IsSetting catalog texts → IsProper catalog at texts journal → Kept Went contents faults append_faults before journal after
    → Writes (named before) (lines journal) (log_of contents faults append_faults before) (log_of contents faults append_faults after)

-- the file of a finished session with a host in the process, if it is no longer than a journal's file may be, is that of a
-- proper journal with each of the moves, and closed
abbrev pub LocalFilesAreProper : Type 0
LocalFilesAreProper =
    (catalog : Catalog) (database : Database) (texts : List (List ℕ)) (journal : Journal)
    → IsLocal catalog database [] texts journal → IsFinished journal → length (lines journal) ≤ most_journal
    → IsProperFile catalog (asked_of catalog.schema texts) (lines journal) (length journal) true
