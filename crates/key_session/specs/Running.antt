-- What a whole session does and counts: it goes by a finished journal, each of whose moves is the next one, and tells every
-- text of its script.
use Rattle.std.specs.Prelude.{◌≡◌, ℕ, Bool, true, false, List, length, count_by, Option, None, Some, is_some, if◌then◌else◌}
use Rattle.std.specs.List.{list_any, list_all}
use Rattle.ghost_model.specs.core.Values.{Database}
use Rattle.ghost_model.specs.core.Channel.{Catalog, Journal}
use Rattle.ghost_model.specs.core.Asks.{asked_of}
use Rattle.ghost_model.specs.core.NextMove.{InvalidFrame, invalid_frame, Standing, standing_after, IsProper, IsFinished}
use Rattle.ghost_model.specs.core.Split.{hidden_of}
use Rattle.ghost_model.specs.core.Lines.{Reason}
use Rattle.channel_pump.specs.State.{counted}
use Rattle.channel_pump.specs.Entries.{is_short_entry, FaultsTell}
use Rattle.key_lines.specs.Told.{AreTold, told_in}
use Rattle.leakless_plan.specs.declared.plan.Plan.{Plan}
use Rattle.key_exec.specs.Reading.{KnowsBy, KnowsButBy}
use Rattle.key_session.specs.Answering.{AnswersWhereSound, CallsAreFew}
use Rattle.key_session.specs.Counting.{is_refusal, is_fault, is_flash, is_damage}
use Rattle.key_session.specs.Damages.{IsSlot, AreRead, MeetsFirst}
use Rattle.key_session.specs.Reasons.{HaveReasons, HaveLines, HaveAnswerLines, is_refused_text}
use Rattle.key_session.specs.Refusing.{first_code}
use Rattle.key_session.specs.Telling.{SessionSide}
use Rattle.key_exec.specs.declared.damage.Damage.{Damage}
use Rattle.key_session.specs.declared.tally.Tally.{Tally}
use Rattle.key_session.specs.declared.tally.SessionStatus.{SessionStatus}
use Rattle.key_session.specs.declared.tally.SessionStatus.TheVariants as status

abbrev pub is_sink : SessionStatus → Bool
is_sink status.Sink = true
is_sink _ = false

abbrev pub blames_flash : SessionStatus → Bool
blames_flash status.Flash = true
blames_flash _ = false

abbrev pub is_damaged : SessionStatus → Bool
is_damaged (status.Damaged _) = true
is_damaged _ = false

-- whether a session went well, but for damage that it may have met
abbrev pub spares_flash : SessionStatus → Bool
spares_flash status.Ok = true
spares_flash (status.Damaged _) = true
spares_flash _ = false

-- where the flash did not fail: damage was met, or all is well
abbrev pub damaged_or : Option Damage → SessionStatus
damaged_or None = status.Ok
damaged_or (Some damage) = status.Damaged damage

-- where the link did its part: the host refused an ask, or the flash failed, or it is damaged, or all is well
abbrev pub host_or : Option ℕ → (by_flash : Bool) → Option Damage → SessionStatus
host_or (Some code) by_flash damage = status.Host code
host_or None by_flash damage = if by_flash then status.Flash else damaged_or damage

-- where the link did not fail or end: a frame was invalid, by its first byte and the bytes before it, as far as 64 bits
-- count these; else the status is another
abbrev pub protocol_or : Option InvalidFrame → SessionStatus → SessionStatus
protocol_or (Some invalid) other = status.Protocol invalid.kind (counted invalid.at)
protocol_or None other = other

-- the first of these that is so: a write failed, the link failed or ended, a frame was invalid, the host refused an ask,
-- the flash failed, damage was met
abbrev pub status_with : (failed : Bool) → Standing → (by_flash : Bool) → Option Damage → SessionStatus
status_with failed session by_flash damage =
    if failed then status.Sink
    else if session.stopped then status.Link
    else protocol_or (invalid_frame session.heard) (host_or (first_code session.heard.ended) by_flash damage)

-- and where no damage was met
abbrev pub status_of : (failed : Bool) → Standing → (by_flash : Bool) → SessionStatus
status_of failed session by_flash = status_with failed session by_flash None

-- a tally of texts with these reasons, whatever the pages hold: a status that names damage names that of the first text
-- that it ended
pub record IsTallied (by : Plan) (pages_told : Bool) (page : ℕ → List ℕ) (catalog : Catalog) (texts : List (List ℕ)) (failed : Bool) (session : Standing) (reasons : List Reason) (tally : Tally) : Type 0 where
  pub refused : tally.refused ≡ count_by is_refusal reasons
  pub faulted : tally.faulted ≡ count_by is_fault reasons
  pub damage : Option Damage
  pub found : is_some damage ≡ list_any is_damage reasons
  pub first : MeetsFirst by pages_told page catalog texts reasons damage
  pub status_is : tally.status ≡ status_with failed session (list_any is_flash reasons) damage

-- the link counted so many failed calls before the session and after it
pub record HasRun (goes : Journal → Type 0) (link_before link_now : ℕ) (by : Plan) (pages_told : Bool) (catalog : Catalog) (at : List ℕ) (texts : List (List ℕ)) (since now : SessionSide) (tally : Tally) : Type 0 where
  pub journal : Journal
  pub went : goes journal
  pub counts : FaultsTell link_before link_now journal
  pub short : list_all is_short_entry journal ≡ true
  pub proper : IsProper catalog at texts journal
  pub finished : IsFinished journal
  pub refused : tally.refused ≡ count_by (is_refused_text catalog.schema) texts
  pub reasons : HaveReasons catalog texts journal (length texts)
      (λ reasons. IsTallied by pages_told since.flash.page catalog texts now.sink.failed (standing_after catalog (asked_of catalog.schema texts) journal) reasons tally) since.flash.faults now.flash.faults
  -- and these lines, whatever the pages hold
  pub lines : HaveLines catalog texts journal reasons.reasons since.sink now.sink
  -- and where the pages are those of a database, but for damaged slots, the rows are those of the answer over it
  pub answers : (database : Database) → KnowsButBy by pages_told since.flash.page catalog database
      → HaveAnswerLines catalog (hidden_of catalog.schema database) texts journal reasons.reasons since.sink now.sink
  -- they are the same lines
  pub same : (database : Database) → (knows : KnowsButBy by pages_told since.flash.page catalog database) → (answers database knows).lines ≡ lines.lines
  -- each text is told by its lines: the rule by which it is refused, and the rows that were given
  pub are_told : AreTold catalog.schema texts lines.lines (told_in tally.told)
  pub damaged : (damage : Damage) → tally.status ≡ status.Damaged damage → IsSlot by pages_told since.flash.page catalog texts damage
  -- of each text that damage ended the session read the slot for it; the status names that of the first of them
  pub damage_read : AreRead by pages_told since.flash.calls now.flash catalog texts reasons.counted.first.damages
  -- and where they are those of a database, no text met damage
  pub undamaged : (database : Database) → KnowsBy by pages_told since.flash.page catalog database → list_any is_damage reasons.reasons ≡ false
  -- an honest host, pages that hold and no fault: all is printed, and the status is Ok
  pub answered : AnswersWhereSound by pages_told catalog texts journal since now tally
  -- by the plan `pre`, an honest host, pages that hold and a flash that does not fail: it is called no more often than the texts take
  pub few_calls : CallsAreFew by pages_told catalog texts journal since now
