-- What a read gave it gave, after other calls as well.
use Rattle.std.proofs.Common.{◌≡◌, ◌≤◌, ℕ, ◌+◌, Bool, true, List, [], ◌∷◌, ◌++◌, length, inl, inr, sym, ◌∙◌, subst, arith, Option, Some}
use Rattle.std.specs.Prelude.{◌%◌}
use Rattle.ghost_model.specs.core.Channel.{Catalog}
use Rattle.ghost_model.specs.core.Query.{Query}
use Rattle.ghost_model.specs.forms.Layout.{run_of_file}
use Rattle.ghost_model.specs.forms.Slots.{in_slot}
use Rattle.visible_spool.specs.declared.half.Half.{Half}
use Rattle.edge_traits.specs.Devices.{Device, GaveSince}
use Rattle.flash_pages.specs.Reads as reads
use Rattle.ghost_model.specs.forms.Runs as runs
use Rattle.leakless_plan.specs.declared.form.Form.{Form}
use Rattle.leakless_plan.specs.declared.plan.Plan.{Plan}
use Rattle.leakless_plan.specs.declared.plan.Plan.TheVariants.{Scan, Linked}
use Rattle.key_exec.specs.Blaming.{InFile, InReplies, InScratch, WasDamaged, WasFoundAt, WasFoundByForms}
use Rattle.key_exec.specs.Texts.{ToldReads, WasDamagedFor}
use Rattle.key_exec.specs.declared.damage.Damage.{Damage}
use Rattle.key_exec.specs.declared.text.Told.{Told}
use Rattle.key_exec.specs.declared.text.Told.TheVariants as told
use Rattle.key_session.specs.Counting.{damage_in}
use Rattle.key_session.specs.Damages.{IsSoOfText, WasRead, AreRead}
use Rattle.key_session.proofs.Adding.{last_or_before, some_same}

-- what reads gave
abbrev pub KeepsGiven : (before now : Device) → Type 0
KeepsGiven before now = (at page : ℕ) (bytes : List ℕ) → before.gave at page bytes ≡ true → now.gave at page bytes ≡ true

module _ (early since : ℕ) (before now : Device) (earlier : early ≤ since) (keeps : KeepsGiven before now) where
  gave_on : (bytes : List ℕ) (page : ℕ) → GaveSince since before bytes page → GaveSince early now bytes page
  gave_on bytes page gave = record { at = gave.at; from = (let from : since ≤ gave.at = gave.from in omega (arith, from, earlier)); gave = keeps gave.at page bytes gave.gave }

  read_on : (run : runs.Run) (place : ℕ) (bytes : List ℕ) → reads.WasRead since before run place bytes → reads.WasRead early now run place bytes
  read_on run place bytes read = record { bytes = read.bytes; gave = gave_on read.bytes (runs.page_of run place) read.gave; record_is = read.record_is }

  found_at : (run : runs.Run) (slot_bytes : List ℕ → ℕ → List ℕ) (number slot found : ℕ)
      → WasFoundAt since before run slot_bytes number slot found → WasFoundAt early now run slot_bytes number slot found
  found_at run slot_bytes number slot found at = record {
    place = at.place;
    within = at.within;
    page_is = at.page_is;
    slot_is = at.slot_is;
    bytes = at.bytes;
    gave = gave_on at.bytes (runs.page_of run at.place) at.gave;
    found_is = at.found_is;
  }

  found_on : (pages_told : Bool) (catalog : Catalog) (asked : Query) (forced : Option Form) (top side number slot found : ℕ)
      → WasFoundByForms pages_told since before catalog asked forced top side number slot found → WasFoundByForms pages_told early now catalog asked forced top side number slot found
  found_on pages_told catalog asked forced top side number slot found (InFile was) =
      InFile (record { file = was.file; has = was.has; read_for = was.read_for; at = found_at (run_of_file catalog was.file) (λ bytes. in_slot (λ _. bytes) catalog was.file) number slot found was.at })
  found_on pages_told catalog asked forced top side number slot found (InReplies untold was) =
      InReplies untold (record { from = was.from; to = was.to; run = was.run; width = was.width; at = found_at was.run (λ bytes. reads.bytes_in bytes was.run) number slot found was.at })
  found_on pages_told catalog asked forced top side number slot found (InScratch untold was) =
      InScratch untold (record { from = was.from; to = was.to; run = was.run; width = was.width; at = found_at was.run (λ bytes. reads.bytes_in bytes was.run) number slot found was.at })

  damage_on : (plan : Plan) (pages_told : Bool) (catalog : Catalog) (asked : Query) (top side : ℕ) (half : Half) (number slot found : ℕ)
      → WasDamaged plan pages_told since before catalog asked top side half number slot found → WasDamaged plan pages_told early now catalog asked top side half number slot found
  damage_on (Linked forced) pages_told catalog asked top side half number slot found was = found_on pages_told catalog asked forced top side number slot found was
  damage_on Scan pages_told catalog asked top side half number slot found (inl was) = inl (record {
    table = was.table;
    column = was.column;
    read_for = was.read_for;
    cell = record {
      place = was.cell.place;
      hidden = was.cell.hidden;
      within = was.cell.within;
      page_is = was.cell.page_is;
      slot_is = was.cell.slot_is;
      bytes = was.cell.bytes;
      read = read_on _ was.cell.place was.cell.bytes was.cell.read;
      wide = was.cell.wide;
      may_not = was.cell.may_not;
      found_is = was.cell.found_is;
    };
  })
  damage_on Scan pages_told catalog asked top side half number slot found (inr was) = inr (record {
    table = was.table;
    there = was.there;
    asked_for = was.asked_for;
    lies = was.lies;
    row = record {
      untold = was.row.untold;
      sound = was.row.sound;
      place = was.row.place;
      within = was.row.within;
      page_is = was.row.page_is;
      slot_is = was.row.slot_is;
      bytes = was.row.bytes;
      read = read_on _ was.row.place was.row.bytes was.row.read;
      wide = was.row.wide;
      may_not = was.row.may_not;
      found_is = was.row.found_is;
    };
  })

  pub damage_for : (plan : Plan) (pages_told : Bool) (catalog : Catalog) (text : List ℕ) (side : ℕ) (half : Half) (number slot found : ℕ)
      → WasDamagedFor plan pages_told since before catalog text side half number slot found → WasDamagedFor plan pages_told early now catalog text side half number slot found
  damage_for plan pages_told catalog text side half number slot found was = record {
    query = was.query;
    means = was.means;
    top = was.top;
    top_is = was.top_is;
    is = damage_on plan pages_told catalog was.query was.top side half number slot found was.is;
  }

  pub read_later : (plan : Plan) (pages_told : Bool) (catalog : Catalog) (texts : List (List ℕ)) (damages : List (Option Damage))
      → AreRead plan pages_told since before catalog texts damages → AreRead plan pages_told early now catalog texts damages
  read_later plan pages_told catalog texts damages were = λ place damage e.
      let was = were place damage e in
      record {
        text = was.text;
        stands = was.stands;
        half = was.half;
        is = damage_for plan pages_told catalog was.text ((place + 1) % 2) was.half damage.page damage.slot damage.found was.is;
      }

-- the damage that texts met, after one more text
module _ (plan : Plan) (pages_told : Bool) (catalog : Catalog) (texts : List (List ℕ)) (since : ℕ) (device : Device) where
  abbrev ReadAt : (place : ℕ) → Told → Type 0
  ReadAt place result = IsSoOfText texts place (λ text side half. ToldReads plan pages_told since device catalog text side half result)

  slot_read : (place : ℕ) (result : Told) (damage : Damage) → ReadAt place result → damage_in result ≡ Some damage → WasRead plan pages_told since device catalog texts place damage
  slot_read place told.Refused damage read e = cc
  slot_read place told.Answered damage read e = cc
  slot_read place told.Host damage read e = cc
  slot_read place told.Link damage read e = cc
  slot_read place told.Protocol damage read e = cc
  slot_read place told.Marked damage read e = cc
  slot_read place told.Flash damage read e = cc
  slot_read place (told.Damaged met) damage read e =
      subst (λ (d : Damage). WasRead plan pages_told since device catalog texts place d) (some_same met damage e)
      (record { text = read.text; stands = read.stands; half = read.half; is = read.is })

  pub one_read : (damages : List (Option Damage)) (count : ℕ) (result : Told) → length damages ≡ count → ReadAt count result
      → AreRead plan pages_told since device catalog texts damages → AreRead plan pages_told since device catalog texts (damages ++ damage_in result ∷ [])
  one_read damages count result long read were = λ place damage e.
      elim (last_or_before damages (damage_in result) place (Some damage) e) [
        | inl f ↦ were place damage f
        | inr f ↦ subst (λ (n : ℕ). WasRead plan pages_told since device catalog texts n damage) (sym (f.0 ∙ long)) (slot_read count result damage read f.1)
      ]

-- a text was told after the session had begun
pub told_earlier : (plan : Plan) (pages_told : Bool) (catalog : Catalog) (early since : ℕ) (device : Device) (text : List ℕ) (side : ℕ) (half : Half) (result : Told) → early ≤ since
    → ToldReads plan pages_told since device catalog text side half result → ToldReads plan pages_told early device catalog text side half result
told_earlier plan pages_told catalog early since device text side half told.Refused earlier read = read
told_earlier plan pages_told catalog early since device text side half told.Answered earlier read = read
told_earlier plan pages_told catalog early since device text side half told.Host earlier read = read
told_earlier plan pages_told catalog early since device text side half told.Link earlier read = read
told_earlier plan pages_told catalog early since device text side half told.Protocol earlier read = read
told_earlier plan pages_told catalog early since device text side half told.Marked earlier read = read
told_earlier plan pages_told catalog early since device text side half told.Flash earlier read = read
told_earlier plan pages_told catalog early since device text side half (told.Damaged damage) earlier read =
    damage_for early since device device earlier (λ at page bytes gave. gave) plan pages_told catalog text side half damage.page damage.slot damage.found read
