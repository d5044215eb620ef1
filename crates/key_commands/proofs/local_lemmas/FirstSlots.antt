-- The slots of the texts that damage ended, and that of the first of them.
use Rattle.std.proofs.Common.{◌≡◌, ◌+◌, ℕ, zero, suc, Bool, true, false, ◌||◌, List, [], ◌∷◌, map, Option, None, Some, refl, sym, ap, ◌∙◌}
use Rattle.std.specs.Prelude.{◌%◌, take, slice_get, is_some}
use Rattle.std.specs.List.{list_any}
use Rattle.ghost_model.specs.core.Channel.{Catalog}
use Rattle.ghost_model.specs.core.Lines.{Reason}
use Rattle.ghost_model.specs.laws.SchemaTrees.{IsTree}
use Rattle.leakless_plan.specs.declared.plan.Plan.{Plan}
use Rattle.edge_traits.specs.Devices.{Device}
use Rattle.key_exec.specs.Laws.{DamageStays, KeepsStatic}
use Rattle.key_exec.specs.declared.damage.Damage.{Damage}
use Rattle.key_session.specs.Counting.{first_of, is_damage}
use Rattle.key_session.specs.Damages.{IsFirstDamaged, MeetsFirst, AreRead}
use Rattle.key_commands.specs.local.Sessions.{IsFirstSlot, HaveSlots}

-- the place of the first damage, which is that of the first text that damage ended
record IsPlace (damages : List (Option Damage)) (reasons : List Reason) (damage : Damage) : Type 0 where
  place : ℕ
  stands : slice_get damages place ≡ Some (Some damage)
  first : IsFirstDamaged reasons place

first_place : (damages : List (Option Damage)) (reasons : List Reason) (damage : Damage) → map is_some damages ≡ map is_damage reasons → Some damage ≡ first_of damages
    → IsPlace damages reasons damage
first_place [] reasons damage by_reason first = cc
first_place (met ∷ damages) [] damage by_reason first = cc
first_place (Some found ∷ damages) (reason ∷ reasons) damage by_reason first =
    let same : damage ≡ found = cc in
    let ended : is_damage reason ≡ true = cc in
    record {
      place = 0;
      stands = ap (λ (one : Damage). Some (Some one)) (sym same);
      first = record { none_before = refl; reason = reason; stands = refl; damaged = ended };
    }
first_place (None ∷ damages) (reason ∷ reasons) damage by_reason first =
    let later : map is_some damages ≡ map is_damage reasons = cc in
    let sound : is_damage reason ≡ false = cc in
    let found = first_place damages reasons damage later first in
    record {
      place = suc found.place;
      stands = found.stands;
      first = record {
        none_before = ap (λ (b : Bool). b || list_any is_damage (take found.place reasons)) sound ∙ found.first.none_before;
        reason = found.first.reason;
        stands = found.first.stands;
        damaged = found.first.damaged;
      };
    }

-- what each such text met
met_at : (damages : List (Option Damage)) (reasons : List Reason) (place : ℕ) (reason : Reason) → map is_some damages ≡ map is_damage reasons → slice_get reasons place ≡ Some reason
    → is_damage reason ≡ true → (damage : Damage) × (slice_get damages place ≡ Some (Some damage))
met_at [] [] place reason by_reason stands ended = cc
met_at [] (first ∷ reasons) place reason by_reason stands ended = cc
met_at (met ∷ damages) [] place reason by_reason stands ended = cc
met_at (None ∷ damages) (first ∷ reasons) zero reason by_reason stands ended =
    let sound : is_damage first ≡ false = cc in
    let same : first ≡ reason = cc in
    absurd (let bad : false ≡ true = sym sound ∙ ap is_damage same ∙ ended in cc)
met_at (Some damage ∷ damages) (first ∷ reasons) zero reason by_reason stands ended = (damage, refl)
met_at (met ∷ damages) (first ∷ reasons) (suc place) reason by_reason stands ended =
    let later : map is_some damages ≡ map is_damage reasons = cc in
    met_at damages reasons place reason later stands ended

module _ (by : Plan) (told : Bool) (page : ℕ → List ℕ) (since : ℕ) (device : Device) (catalog : Catalog) (texts : List (List ℕ)) (reasons : List Reason) (met : Option Damage)
    (meets : MeetsFirst by told page catalog texts reasons met) (read : AreRead by told since device catalog texts meets.damages) where
  pub slots_read : HaveSlots by told since device catalog texts reasons
  slots_read place reason stands ended =
      let found = met_at meets.damages reasons place reason meets.by_reason stands ended in
      (found.0, read place found.0 found.1)

  pub first_slot : (damage : Damage) → met ≡ Some damage → IsFirstSlot by told page since device catalog texts reasons damage
  first_slot damage is =
      let found = first_place meets.damages reasons damage meets.by_reason (sym is ∙ meets.first_is) in
      record {
        place = found.place;
        first = found.first;
        slot = meets.each found.place damage found.stands;
        read = read found.place damage found.stands;
      }

-- a damaged slot stays damaged where the static pages do
pub slot_stays : DamageStays → (by : Plan) (told : Bool) (page now : ℕ → List ℕ) (since : ℕ) (device : Device) (catalog : Catalog) (texts : List (List ℕ)) (reasons : List Reason) (damage : Damage) → IsTree catalog.schema → KeepsStatic catalog page now
    → IsFirstSlot by told page since device catalog texts reasons damage → IsFirstSlot by told now since device catalog texts reasons damage
slot_stays stays by told page now since device catalog texts reasons damage tree same one =
    let of = one.slot.is in
    record {
      place = one.place;
      first = one.first;
      slot = record {
        text = one.slot.text;
        stands = one.slot.stands;
        half = one.slot.half;
        is = record {
          query = of.query;
          means = of.means;
          top = of.top;
          top_is = of.top_is;
          is = stays by told page now catalog of.query of.top ((one.place + 1) % 2) one.slot.half damage.page damage.slot damage.found tree same of.is;
        };
      };
      read = one.read;
    }
