-- That a session with a host in the process is served throughout, and that its host is honest.
use Rattle.std.proofs.Common.{◌≡◌, ℕ, List, [], length, ◌∙◌, subst}
use Rattle.std.proofs.Math.Seq.{take-length}
use Rattle.ghost_model.specs.core.Values.{Database}
use Rattle.ghost_model.specs.core.Channel.{Catalog, Journal}
use Rattle.ghost_model.specs.core.Asks.{NumberedAsk, asked_of}
use Rattle.ghost_model.specs.core.NextMove.{IsFinished, standing_after}
use Rattle.ghost_model.specs.core.Local.{IsServedBy}
use Rattle.ghost_model.proofs.SessionLemmas.ThisHost.{this_host_is_honest}
use Rattle.ghost_model.specs.core.Split.{public_of}
use Rattle.ghost_model.proofs.SessionLemmas.OneJournal.{same_journal}
use Rattle.session_laws.specs.HonestSessions.{IsHonestSession}
use Rattle.session_laws.specs.Local.{holding_of, IsLocal, IsUnbroken}
use Rattle.session_laws.proofs.Exchanges.{CanServe}
use Rattle.session_laws.proofs.Standing.{not_stopped, not_broken, none_refused}
use Rattle.session_laws.proofs.Closing.{any_answer}
use Rattle.session_laws.proofs.Walking.{Walked, walked}
use Rattle.session_laws.proofs.Stored.{can_serve}

module _ (catalog : Catalog) (database : Database) (at : List ℕ) (texts : List (List ℕ)) (journal : Journal) (is : IsLocal catalog database at texts journal) where
  abbrev asks : List NumberedAsk
  asks = asked_of catalog.schema texts

  can : CanServe (holding_of catalog database) (asked_of catalog.schema texts)
  can = can_serve catalog database texts is.setting is.stored

  all_walked : Walked (holding_of catalog database) at (asked_of catalog.schema texts) can journal is.desk
  all_walked = walked (holding_of catalog database) at (asked_of catalog.schema texts) can journal is.desk is.proper is.served

  pub unbroken : IsUnbroken catalog database texts journal
  unbroken =
      let w = all_walked in
      record {
        goes_on = any_answer journal ∙ not_stopped (holding_of catalog database) at asks can (standing_after catalog asks journal) is.desk.stand is.desk.owed w.there;
        throughout = w.throughout;
        valid = not_broken (holding_of catalog database) at asks can (standing_after catalog asks journal) is.desk.stand is.desk.owed w.there;
        none_refused = none_refused (holding_of catalog database) at asks can (standing_after catalog asks journal) is.desk.stand is.desk.owed w.there;
      }

  pub honest : IsHonestSession catalog database at texts journal
  honest =
      let served : IsServedBy (holding_of catalog database) journal =
      subst (λ (j : Journal). IsServedBy (holding_of catalog database) j) (take-length journal) (unbroken.throughout (length journal)) in
      record {
        setting = is.setting;
        stored = is.stored;
        proper = is.proper;
        honest = this_host_is_honest catalog (public_of catalog.schema database) at texts journal served.rest is.setting is.proper unbroken.goes_on served.said;
      }

pub one_journal : (catalog : Catalog) (database : Database) (at : List ℕ) (texts : List (List ℕ)) (first second : Journal) → IsLocal catalog database at texts first → IsLocal catalog database at texts second → IsFinished first → IsFinished second → first ≡ second
one_journal catalog database at texts first second is also finished ended =
    same_journal (holding_of catalog database) catalog at (asked_of catalog.schema texts) [] first second is.proper also.proper finished ended
    (unbroken catalog database at texts first is).throughout (unbroken catalog database at texts second also).throughout
