-- How a session with a host in the key's own process can end.
use Rattle.std.proofs.Common.{◌≡◌, Bool, true, false, ◌||◌, List, [], ◌∷◌, Option, None, Some, refl, sym, ap, ◌∙◌}
use Rattle.std.specs.Prelude.{is_some}
use Rattle.std.specs.List.{list_any}
use Rattle.ghost_model.specs.core.Channel.{Journal}
use Rattle.ghost_model.specs.core.Moves.{answers}
use Rattle.ghost_model.specs.core.NextMove.{Standing, EndedAsk, Ending, Answered, Refused, is_stop}
use Rattle.ghost_model.specs.core.Lines.{Reason, was_refused, is_refused_by}
use Rattle.std.specs.Option.{option_or}
use Rattle.key_session.specs.Counting.{is_flash, is_damage as met_damage}
use Rattle.key_session.specs.Refusing.{first_code, code_of}
use Rattle.key_session.specs.Running.{status_of, status_with, blames_flash, is_damaged as is_damage}
use Rattle.key_exec.specs.declared.damage.Damage.{Damage}
use Rattle.key_session.specs.declared.tally.SessionStatus.{SessionStatus}
use Rattle.key_session.specs.declared.tally.SessionStatus.TheVariants as status
use Rattle.key_commands.specs.local.Running.{is_of_local}
use Rattle.key_commands.specs.local.Sessions.{TellsReasons, is_damaged}
use Rattle.key_commands.specs.declared.local.ends.LocalEnd.{LocalEnd}
use Rattle.key_commands.specs.declared.local.ends.LocalEnd.TheVariants as ends

-- no answer stops it
pub none_stops : (journal : Journal) → list_any is_stop (answers journal) ≡ false → list_any (λ entry. is_stop entry.answer) journal ≡ false
none_stops [] h = refl
none_stops (made ∷ later) h = go (is_stop made.answer) (none_stops later) h
  where
    go : (b : Bool) → (list_any is_stop (answers later) ≡ false → list_any (λ entry. is_stop entry.answer) later ≡ false) → (b || list_any is_stop (answers later)) ≡ false
        → (b || list_any (λ entry. is_stop entry.answer) later) ≡ false
    go true rest e = e
    go false rest e = rest e

-- no ask was refused
pub no_code : (ends : List EndedAsk) → was_refused ends ≡ false → first_code ends ≡ None
no_code [] h = refl
no_code (end ∷ ends) h = go end.ending (no_code ends) h
  where
    go : (ending : Ending) → (was_refused ends ≡ false → first_code ends ≡ None) → (is_refused_by ending || was_refused ends) ≡ false → option_or (code_of ending) (first_code ends) ≡ None
    go (Answered rows) rest e = rest e
    go (Refused code) rest e = cc

-- so neither link, frame nor host is its cause
pub of_local : (failed : Bool) (session : Standing) (by_flash : Bool) (damage : Option Damage) → session.stopped ≡ false → session.heard.broken ≡ false
    → first_code session.heard.ended ≡ None → is_of_local (status_with failed session by_flash damage) ≡ true
of_local true session by_flash damage going valid none = refl
of_local false session true damage going valid none = rw (going, valid, none) refl
of_local false session false None going valid none = rw (going, valid, none) refl
of_local false session false (Some found) going valid none = rw (going, valid, none) refl

pub is_local_status : (one : SessionStatus) (failed : Bool) (session : Standing) (by_flash : Bool) (damage : Option Damage) → one ≡ status_with failed session by_flash damage
    → session.stopped ≡ false → session.heard.broken ≡ false → first_code session.heard.ended ≡ None → is_of_local one ≡ true
is_local_status one failed session by_flash damage is going valid none = ap is_of_local is ∙ of_local failed session by_flash damage going valid none

-- all is well only where the flash failed in no text
pub whole_status : (failed : Bool) (session : Standing) (by_flash : Bool) → session.stopped ≡ false → session.heard.broken ≡ false
    → first_code session.heard.ended ≡ None → status_of failed session by_flash ≡ status.Ok → by_flash ≡ false
whole_status failed session false going valid none whole = refl
whole_status true session true going valid none whole = cc
whole_status false session true going valid none whole =
    let is : status_of false session true ≡ status.Flash = rw (going, valid, none) refl in cc

-- the flash is blamed only where it failed in a text
pub flash_status : (failed : Bool) (session : Standing) (by_flash : Bool) → session.stopped ≡ false → session.heard.broken ≡ false
    → first_code session.heard.ended ≡ None → blames_flash (status_of failed session by_flash) ≡ true → by_flash ≡ true
flash_status failed session true going valid none blamed = refl
flash_status true session false going valid none blamed = cc
flash_status false session false going valid none blamed =
    let is : status_of false session false ≡ status.Ok = rw (going, valid, none) refl in cc

-- damage was found, where an end names a slot of which it was found
pub damage_found : (end : LocalEnd) (one : SessionStatus) → ((damage : Damage) → end ≡ ends.Damaged damage → one ≡ status.Damaged damage)
    → is_damaged end ≡ true → is_damage one ≡ true
damage_found ends.Ok one is e = cc
damage_found ends.Sink one is e = cc
damage_found ends.Depot one is e = cc
damage_found ends.Flash one is e = cc
damage_found (ends.Damaged damage) one is e = ap is_damage (is damage refl)

-- no damage is found where the pages are told
pub no_damage : (failed : Bool) (session : Standing) (by_flash : Bool) → session.stopped ≡ false → session.heard.broken ≡ false
    → first_code session.heard.ended ≡ None → is_damage (status_of failed session by_flash) ≡ false
no_damage true session by_flash going valid none = refl
no_damage false session true going valid none = rw (going, valid, none) refl
no_damage false session false going valid none = rw (going, valid, none) refl

-- the damage that a status names is what was met
pub damage_is : (failed : Bool) (session : Standing) (by_flash : Bool) (met : Option Damage) (damage : Damage) → session.stopped ≡ false → session.heard.broken ≡ false
    → first_code session.heard.ended ≡ None → status_with failed session by_flash met ≡ status.Damaged damage → met ≡ Some damage
damage_is true session by_flash met damage going valid none e = cc
damage_is false session true met damage going valid none e =
    let is : status_with false session true met ≡ status.Flash = rw (going, valid, none) refl in cc
damage_is false session false None damage going valid none e =
    let is : status_with false session false None ≡ status.Ok = rw (going, valid, none) refl in cc
damage_is false session false (Some found) damage going valid none e =
    let is : status_with false session false (Some found) ≡ status.Damaged found = rw (going, valid, none) refl in cc

-- where all is well no text was ended by the flash or by damage
all_well : (failed : Bool) (session : Standing) (by_flash : Bool) (met : Option Damage) → session.stopped ≡ false → session.heard.broken ≡ false
    → first_code session.heard.ended ≡ None → status_with failed session by_flash met ≡ status.Ok → (by_flash ≡ false) × (is_some met ≡ false)
all_well true session by_flash met going valid none e = cc
all_well false session true met going valid none e =
    let is : status_with false session true met ≡ status.Flash = rw (going, valid, none) refl in cc
all_well false session false None going valid none e = (refl, refl)
all_well false session false (Some found) going valid none e =
    let is : status_with false session false (Some found) ≡ status.Damaged found = rw (going, valid, none) refl in cc

flash_met : (failed : Bool) (session : Standing) (by_flash : Bool) (met : Option Damage) → session.stopped ≡ false → session.heard.broken ≡ false
    → first_code session.heard.ended ≡ None → blames_flash (status_with failed session by_flash met) ≡ true → by_flash ≡ true
flash_met failed session true met going valid none e = refl
flash_met true session false met going valid none e = cc
flash_met false session false None going valid none e =
    let is : status_with false session false None ≡ status.Ok = rw (going, valid, none) refl in cc
flash_met false session false (Some found) going valid none e =
    let is : status_with false session false (Some found) ≡ status.Damaged found = rw (going, valid, none) refl in cc

no_flash_met : (failed : Bool) (session : Standing) (by_flash : Bool) (met : Option Damage) (damage : Damage) → session.stopped ≡ false → session.heard.broken ≡ false
    → first_code session.heard.ended ≡ None → status_with failed session by_flash met ≡ status.Damaged damage → by_flash ≡ false
no_flash_met failed session false met damage going valid none e = refl
no_flash_met true session true met damage going valid none e = cc
no_flash_met false session true met damage going valid none e =
    let is : status_with false session true met ≡ status.Flash = rw (going, valid, none) refl in cc

-- an end tells of the reasons what the status does
pub tells_reasons : (end : LocalEnd) (one : SessionStatus) (failed : Bool) (session : Standing) (reasons : List Reason) (met : Option Damage) → session.stopped ≡ false → session.heard.broken ≡ false
    → first_code session.heard.ended ≡ None → one ≡ status_with failed session (list_any is_flash reasons) met → is_some met ≡ list_any met_damage reasons
    → (end ≡ ends.Ok → one ≡ status.Ok) → (end ≡ ends.Flash → blames_flash one ≡ true) → ((damage : Damage) → end ≡ ends.Damaged damage → one ≡ status.Damaged damage)
    → TellsReasons end reasons
tells_reasons ends.Ok one failed session reasons met going valid none is found whole flash damaged =
    let well = all_well failed session (list_any is_flash reasons) met going valid none (sym is ∙ whole refl) in
    (well.0, sym found ∙ well.1)
tells_reasons ends.Sink one failed session reasons met going valid none is found whole flash damaged = tt
tells_reasons ends.Depot one failed session reasons met going valid none is found whole flash damaged = tt
tells_reasons ends.Flash one failed session reasons met going valid none is found whole flash damaged =
    flash_met failed session (list_any is_flash reasons) met going valid none (sym (ap blames_flash is) ∙ flash refl)
tells_reasons (ends.Damaged damage) one failed session reasons met going valid none is found whole flash damaged =
    let same = sym is ∙ damaged damage refl in (
      no_flash_met failed session (list_any is_flash reasons) met damage going valid none same,
      sym found ∙ ap is_some (damage_is failed session (list_any is_flash reasons) met damage going valid none same),
    )
