-- What the session itself does, apart from what was made for it.
use Rattle.std.specs.Prelude.{◌≡◌, ℕ, ◌+◌, ◌≤◌, Bool, true, false, List, [], length, Option, None, Some, ⊤}
use Rattle.std.specs.List.{list_any}
use Rattle.ghost_model.specs.core.Causes.{Rose}
use Rattle.ghost_model.specs.core.Channel.{Catalog, Journal}
use Rattle.ghost_model.specs.core.Moves.{lines}
use Rattle.ghost_model.specs.core.NextMove.{IsFinished}
use Rattle.ghost_model.specs.core.Printed.{printed}
use Rattle.ghost_model.specs.core.Honest.{IsCatalogOf}
use Rattle.ghost_model.specs.core.Values.{Database}
use Rattle.session_laws.specs.Local.{IsLocal, holding_of}
use Rattle.leakless_plan.specs.declared.plan.Plan.{Plan}
use Rattle.key_exec.specs.Plans.{by_pre}
use Rattle.edge_traits.specs.Files.{Files}
use Rattle.edge_traits.specs.Written.{grown}
use Rattle.local_links.specs.Journaling.{told_file}
use Rattle.local_links.specs.declared.host_link.HostLink.{HostLink}
use Rattle.key_session.specs.Calls.{session_calls}
use Rattle.key_session.specs.Reasons.{HaveReasons, HaveLines}
use Rattle.key_exec.specs.declared.damage.Damage.{Damage}
use Rattle.key_session.specs.declared.tally.SessionStatus.{SessionStatus}
use Rattle.key_session.specs.declared.tally.SessionStatus.TheVariants as status
use Rattle.key_lines.specs.Handing.{handed}
use Rattle.key_lines.specs.Told.{AreTold}
use Rattle.key_lines.specs.declared.told.ToldText.{ToldText}
use Rattle.key_commands.specs.local.Lines.{Gives, is_cut, lines_in}
use Rattle.key_inputs.specs.Outside.{Outside}
use Rattle.key_commands.specs.local.Sessions.{IsFirstSlot, HaveSlots, TellsReasons, session_side_in, is_sink, is_damaged}
use Rattle.key_commands.specs.local.Preparing.{IsHosted}
use Rattle.key_commands.specs.declared.local.ends.LocalEnd.{LocalEnd}
use Rattle.key_commands.specs.declared.local.ends.LocalEnd.TheVariants as ends

-- whether a session with a host in the key's own process can end so
abbrev pub is_of_local : SessionStatus → Bool
is_of_local status.Link = false
is_of_local (status.Protocol kind at) = false
is_of_local (status.Host code) = false
is_of_local _ = true

-- a host that holds the public part of some database of the catalog is linked
pub record IsSomeHosted {D : Type 0} (contents : D → Option Files) (sure : D → List ℕ → Type 0) (catalog : Catalog) (link : HostLink D) : Type 0 where
  pub database : Database
  pub stored : IsCatalogOf catalog database
  pub hosted : IsHosted contents sure (holding_of catalog database) link

-- the named file has grown by the lines of a journal, where the depot tells its files
abbrev pub KeepsLines : (before after : Option Files) → (name : Option (List ℕ)) → Journal → Type 0
KeepsLines before after None journal = ⊤
KeepsLines before after (Some name) journal = told_file after name ≡ grown (told_file before name) (lines journal)

-- a session by a plan with a host that holds the public part of a database was held to its end
pub record RanOver (by : Plan) (told : Bool) (catalog : Catalog) (database : Database) (texts : List (List ℕ)) (name : Option (List ℕ)) (end : LocalEnd) (before after : Outside) (entries : List ToldText) : Type 0 where
  pub journal : Journal
  pub is_local : IsLocal catalog database [] texts journal
  pub finished : IsFinished journal
  pub kept : (Rose before.append_faults after.append_faults → ⊥) → KeepsLines before.files after.files name journal
  pub all_kept : end ≡ ends.Ok → KeepsLines before.files after.files name journal
  pub reasons : HaveReasons catalog texts journal (length texts) (λ reasons. TellsReasons end reasons) before.device.faults after.device.faults
  pub lines : HaveLines catalog texts journal reasons.reasons (handed false before.sink_faults before.written) (handed (is_sink end) after.sink_faults after.written)
  pub are_told : AreTold catalog.schema texts lines.lines entries
  pub gives : told ≡ true → Gives catalog.schema database texts (session_side_in false before) (session_side_in (is_sink end) after)
  pub same : (t : told ≡ true) → lines_in (gives t).given ≡ lines.lines
  pub uncut : (t : told ≡ true) → end ≡ ends.Ok → list_any is_cut (gives t).given ≡ false
  pub printed_all : told ≡ true → end ≡ ends.Ok → after.written ≡ grown before.written (printed catalog.schema texts database)
  -- by the plan `pre`, where the flash does not fail, it is called no more often than the texts take
  pub few_calls : told ≡ true → by ≡ by_pre → (Rose before.device.faults after.device.faults → ⊥)
      → after.device.calls ≤ before.device.calls + session_calls catalog.schema database texts
  pub cut : (t : told ≡ true) → end ≡ ends.Flash → list_any is_cut (gives t).given ≡ true
  pub called : end ≡ ends.Flash → Rose before.device.calls after.device.calls
  pub damage_called : is_damaged end ≡ true → Rose before.device.calls after.device.calls
  pub undamaged : told ≡ true → is_damaged end ≡ false
  pub damaged : (damage : Damage) → end ≡ ends.Damaged damage → IsFirstSlot by told after.device.page before.device.calls after.device catalog texts reasons.reasons damage
  pub damage_read : HaveSlots by told before.device.calls after.device catalog texts reasons.reasons
