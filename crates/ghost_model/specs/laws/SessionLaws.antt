-- Laws of whole sessions, each of the key and its host together. A host in the key's own process leaves one journal,
-- what it sends is what an honest host sends, and what an honest host's replies answer is the meaning of a text.
use Rattle.std.specs.Prelude.{◌≡◌, ℕ, suc, true, false, List, ◌++◌, map, take, slice_get, Some, Ok}
use Rattle.std.specs.List.{list_any, concat}
use Rattle.ghost_model.specs.core.Schema.{Schema}
use Rattle.ghost_model.specs.laws.SchemaTrees.{IsTree}
use Rattle.ghost_model.specs.core.Values.{Database}
use Rattle.ghost_model.specs.core.Database.{IsDatabase}
use Rattle.ghost_model.specs.core.Query.{Query}
use Rattle.ghost_model.specs.refusals.QueryMeaning.{Means}
use Rattle.ghost_model.specs.readings.QueryReading.{reading}
use Rattle.ghost_model.specs.core.Meaning.{answer}
use Rattle.ghost_model.specs.core.Channel.{Catalog, Ask, Journal}
use Rattle.ghost_model.specs.core.Asks.{asks_of, asked_of}
use Rattle.ghost_model.specs.core.Moves.{answers, taken, sent}
use Rattle.ghost_model.specs.core.NextMove.{IsProper, IsFinished, is_stop, ended_of}
use Rattle.ghost_model.specs.core.Split.{Public, public_of, hidden_of, visible_rows}
use Rattle.ghost_model.specs.core.Host.{Holding, host_of, host_sends}
use Rattle.ghost_model.specs.core.Local.{IsServedBy}
use Rattle.ghost_model.specs.core.Honest.{IsSetting, IsCatalogOf, IsHonest}
use Rattle.ghost_model.specs.core.Replies.{Reply, replies, answer_from}
use Rattle.ghost_model.specs.core.Lines.{all_done}

-- at each point of the session every take was answered in full, and what was taken by then begins what the host sends
-- for the bytes that the key had sent by then
abbrev pub IsServedThroughout : Holding → Journal → Type 0
IsServedThroughout held journal = (entries : ℕ) → IsServedBy held (take entries journal)

-- two finished proper journals of the same session, served by the same holding throughout, are one
abbrev pub OneLocalJournal : Type 0
OneLocalJournal =
    (held : Holding) (catalog : Catalog) (at : List ℕ) (texts : List (List ℕ)) (first second : Journal)
    → IsProper catalog at texts first → IsProper catalog at texts second → IsFinished first → IsFinished second
    → IsServedThroughout held first → IsServedThroughout held second → first ≡ second

-- where nothing broke off and the key took the beginning of what this host sends for the key's bytes, the journal is one
-- with an honest host
abbrev pub ThisHostIsHonest : Type 0
ThisHostIsHonest =
    (catalog : Catalog) (public : Public) (at : List ℕ) (texts : List (List ℕ)) (journal : Journal) (rest : List ℕ)
    → IsSetting catalog texts → IsProper catalog at texts journal → list_any is_stop (answers journal) ≡ false
    → taken journal ++ rest ≡ host_sends (host_of catalog public) (concat (sent journal))
    → IsHonest catalog public journal

-- the reply to an ask that has every row that meets it
abbrev pub whole_reply : Schema → Public → Ask → Reply
whole_reply schema public ask = record { ask = ask; rows = visible_rows schema public ask }

abbrev pub whole_replies : Schema → Public → Query → List Reply
whole_replies schema public asked = map (whole_reply schema public) (asks_of schema asked)

-- from the hidden part of a database and whole replies from its public part follows the query's answer
abbrev pub WholeRepliesAnswer : Type 0
WholeRepliesAnswer =
    (schema : Schema) → IsTree schema → (database : Database) → IsDatabase schema database
    → (text : List ℕ) (asked : Query) → Means schema text asked
    → answer_from schema (hidden_of schema database) asked (whole_replies schema (public_of schema database) asked)
    ≡ answer schema database asked

-- where the host was honest and every ask of an accepted text was ended by DONE, what its replies answer is the meaning
-- of the text; the text at place 0 has number 1
abbrev pub HonestRepliesAnswer : Type 0
HonestRepliesAnswer =
    (catalog : Catalog) (database : Database) (at : List ℕ) (texts : List (List ℕ)) (journal : Journal)
    (place : ℕ) (written : List ℕ) (asked : Query)
    → IsSetting catalog texts → IsCatalogOf catalog database → IsProper catalog at texts journal
    → IsHonest catalog (public_of catalog.schema database) journal
    → slice_get texts place ≡ Some written → reading catalog.schema written ≡ Ok asked
    → all_done catalog.schema asked (ended_of catalog (asked_of catalog.schema texts) journal (suc place)) ≡ true
    → answer_from catalog.schema (hidden_of catalog.schema database) asked (replies catalog (asked_of catalog.schema texts) journal (suc place))
    ≡ answer catalog.schema database asked
