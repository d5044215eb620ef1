-- Which slot a step blames: that of a hidden column that is read for the query, or that of a row in a reply that it asks for.
use Rattle.std.proofs.Common.{◌≡◌, ◌<◌, ◌-◌, ◌∙◌, inl, inr, ℕ, refl, Bool, true, false, List, None, ap, sym, subst, arith}
use Rattle.std.specs.Prelude.{is_some, IfErr, Result, Ok, Err}
use Rattle.ghost_model.specs.core.Channel.{Catalog}
use Rattle.ghost_model.specs.core.Query.{Query}
use Rattle.ghost_model.specs.core.Asks.{kind_at}
use Rattle.ghost_model.specs.forms.Runs.{Run, page_of, slot_of, record_at, found_in}
use Rattle.ghost_model.specs.forms.Layout.{count_of, Cells, column_file}
use Rattle.ghost_model.specs.forms.Slots.{may_stand, spelled}
use Rattle.ghost_base.specs.Runs.{run_of}
use Rattle.edge_traits.specs.Devices.{Device, KeepsPages}
use Rattle.flash_pages.specs.declared.fault.PageFault.{PageFault}
use Rattle.flash_pages.specs.declared.fault.PageFault.TheVariants.{Flash, Damaged}
use Rattle.hidden_columns.specs.declared.file.ColumnFile.{ColumnFile}
use Rattle.hidden_columns.specs.Files as columns
use Rattle.hidden_columns.specs.Files.{IsFileOf, HasNoValue, FailsAt, slot_bytes, value_spelled}
use Rattle.visible_spool.specs.declared.half.Half.{Half}
use Rattle.visible_spool.specs.Replies as spool
use Rattle.visible_spool.specs.Replies.{IsFlash}
use Rattle.visible_spool.specs.Halves.{reply_of}
use Rattle.visible_spool.specs.Sparing.{IsHalf}
use Rattle.candidate_rows.specs.declared.next.Look.{Look}
use Rattle.candidate_rows.specs.declared.next.Slot.{Slot}
use Rattle.candidate_rows.specs.Working.{Need, NoNeed, OfSlot, OfRow, OfRecord}
use Rattle.candidate_rows.specs.Steps.{BlamesNeeded, FailsNeeded}
use Rattle.flash_pages.specs.Reads.{WasRead}
use Rattle.key_exec.specs.declared.job.Went.{Went}
use Rattle.leakless_plan.specs.declared.plan.Plan.TheVariants as plans
use Rattle.key_exec.specs.Blaming.{Blames, BlamesRead}
use Rattle.key_exec.proofs.ReadForLemmas.{IsReadSlot, IsReadNeed}

-- bytes that spell no value of a file may not stand in the slots of its column
may_not_stand : (cat : Catalog) (table column : ℕ) (file : ColumnFile) (bytes : List ℕ) → IsFileOf cat table column file
    → value_spelled file bytes ≡ None → may_stand cat (Cells table column) bytes ≡ false
may_not_stand cat table column file bytes file_is none =
    ap is_some (sym (ap (λ kind. spelled kind file.child_rows bytes) file_is.kind_is
    ∙ ap (λ rows. spelled (kind_at cat.schema table column) rows bytes) file_is.range_is) ∙ none)

slot_blamed :
    (told : Bool) (since : ℕ) (before now : Device) (cat : Catalog) (asked : Query) (top side : ℕ) (half : Half) (slot : Slot) (fault : PageFault) → IsReadSlot cat asked top slot
    → columns.Blames since now slot.file slot.identifier fault → (told ≡ true → FailsAt before.page slot.file slot.identifier fault)
    → KeepsPages before now → Blames told now.page cat asked top side half fault
slot_blamed told since before now cat asked top side half slot Flash is blames fails kept = tt
slot_blamed told since before now cat asked top side half slot (Damaged number place found) is blames fails kept =
    let file = slot.file in
    let identifier = slot.identifier in
    let run : run_of file.run ≡ column_file cat is.table is.column = is.file.file_is.run_is in
    let low : identifier - 1 < count_of cat is.table = omega (arith, is.some, is.within) in
    let page_is = blames.page_is ∙ ap (λ (r : Run). page_of r (identifier - 1)) run in
    let slot_is = blames.slot_is ∙ ap (λ (r : Run). slot_of r (identifier - 1)) run in
    let bytes_are = ap (λ (r : Run). record_at now.page r (identifier - 1)) run in
    let none : told ≡ true → HasNoValue now.page file identifier found =
    λ t. subst (λ (page : ℕ → List ℕ). HasNoValue page file identifier found) (sym kept.page) (fails t) in
    inl (record {
      table = is.table;
      column = is.column;
      read_for = is.read_for;
      cell = record {
        place = identifier - 1;
        hidden = is.file.hidden;
        within = low;
        page_is = page_is;
        slot_is = slot_is;
        bytes = blames.bytes;
        wide = blames.wide ∙ ap (λ (r : Run). r.width) run;
        may_not = may_not_stand cat is.table is.column file blames.bytes is.file.file_is blames.no_value;
        found_is = blames.found_is;
        stands = λ t. record {
          has = is.file.hidden;
          within = low;
          page_is = page_is;
          slot_is = slot_is;
          damaged = inl (ap (may_stand cat (Cells is.table is.column)) (sym bytes_are)
              ∙ may_not_stand cat is.table is.column file (slot_bytes now.page file identifier) is.file.file_is (none t).no_value);
          found_is = (none t).found_is ∙ ap found_in bytes_are;
        };
      };
    })

slot_read : (told : Bool) (since : ℕ) (now : Device) (cat : Catalog) (asked : Query) (top side : ℕ) (half : Half) (slot : Slot) (fault : PageFault) → IsReadSlot cat asked top slot
    → columns.Blames since now slot.file slot.identifier fault → BlamesRead plans.Scan told since now cat asked top side half fault
slot_read told since now cat asked top side half slot Flash is blames = tt
slot_read told since now cat asked top side half slot (Damaged number place found) is blames =
    let file = slot.file in
    let identifier = slot.identifier in
    let run : run_of file.run ≡ column_file cat is.table is.column = is.file.file_is.run_is in
    inl (record {
      table = is.table;
      column = is.column;
      read_for = is.read_for;
      cell = record {
        place = identifier - 1;
        hidden = is.file.hidden;
        within = omega (arith, is.some, is.within);
        page_is = blames.page_is ∙ ap (λ (r : Run). page_of r (identifier - 1)) run;
        slot_is = blames.slot_is ∙ ap (λ (r : Run). slot_of r (identifier - 1)) run;
        bytes = blames.bytes;
        read = subst (λ (r : Run). WasRead since now r (identifier - 1) blames.bytes) run blames.read;
        wide = blames.wide ∙ ap (λ (r : Run). r.width) run;
        may_not = may_not_stand cat is.table is.column file blames.bytes is.file.file_is blames.no_value;
        found_is = blames.found_is;
      };
    })

-- ---- rows of replies

-- a row is blamed only where the pages are not told
pub is_untold : (told : Bool) → (told ≡ true → ⊥) → told ≡ false
is_untold false never = refl
is_untold true never = absurd (never refl)

abbrev NotWhole : (told : Bool) → PageFault → Type 0
NotWhole told fault = told ≡ true → IsFlash fault

pub not_whole :
    (told : Bool) (cat : Catalog) (side : ℕ) (before : Device) (half : Half) (look : Look) (fault : PageFault) → look.table < 12
    → IsHalf told cat side before half → (told ≡ true → FailsNeeded before.page half (OfRow look) fault) → NotWhole told fault
not_whole told cat side before half look fault there is fails = λ t.
    let some = is.whole t look.table there in fails t some.rows some.holds

row_blamed :
    (told : Bool) (since : ℕ) (before now : Device) (cat : Catalog) (asked : Query) (top side : ℕ) (half : Half) (look : Look) (fault : PageFault)
    → IsReadNeed cat asked top (OfRow look) → side < 2
    → IsHalf told cat side before half → spool.Blames since now (reply_of half look.table) fault → NotWhole told fault → Blames told now.page cat asked top side half fault
row_blamed told since before now cat asked top side half look Flash wanted low is blames fails = tt
row_blamed told since before now cat asked top side half look (Damaged number place found) wanted low is blames fails =
    inr (record {
      table = look.table;
      there = wanted.0;
      asked_for = wanted.1;
      lies = is.lies look.table wanted.0;
      row = record {
        untold = is_untold told fails;
        sound = (is.readable look.table wanted.0).sound;
        place = blames.place;
        within = blames.within;
        page_is = blames.page_is;
        slot_is = blames.slot_is;
        bytes = blames.bytes;
        wide = blames.wide;
        may_not = blames.wrong;
        found_is = blames.found_is;
      };
    })

row_read :
    (told : Bool) (since : ℕ) (before now : Device) (cat : Catalog) (asked : Query) (top side : ℕ) (half : Half) (look : Look) (fault : PageFault)
    → IsReadNeed cat asked top (OfRow look) → side < 2
    → IsHalf told cat side before half → spool.Blames since now (reply_of half look.table) fault → NotWhole told fault → BlamesRead plans.Scan told since now cat asked top side half fault
row_read told since before now cat asked top side half look Flash wanted low is blames fails = tt
row_read told since before now cat asked top side half look (Damaged number place found) wanted low is blames fails =
    inr (record {
      table = look.table;
      there = wanted.0;
      asked_for = wanted.1;
      lies = is.lies look.table wanted.0;
      row = record {
        untold = is_untold told fails;
        sound = (is.readable look.table wanted.0).sound;
        place = blames.place;
        within = blames.within;
        page_is = blames.page_is;
        slot_is = blames.slot_is;
        bytes = blames.bytes;
        read = blames.read;
        wide = blames.wide;
        may_not = blames.wrong;
        found_is = blames.found_is;
      };
    })

-- ---- what is needed

pub blames_need :
    (told : Bool) (since : ℕ) (before now : Device) (cat : Catalog) (asked : Query) (top side : ℕ) (half : Half) (need : Need) (fault : PageFault) → side < 2
    → IsHalf told cat side before half → IsReadNeed cat asked top need → BlamesNeeded since now half need fault
    → (told ≡ true → FailsNeeded before.page half need fault) → KeepsPages before now → Blames told now.page cat asked top side half fault
blames_need told since before now cat asked top side half NoNeed fault low is need blames fails kept = absurd blames
blames_need told since before now cat asked top side half (OfSlot slot) fault low is need blames fails kept =
    slot_blamed told since before now cat asked top side half slot fault need blames fails kept
blames_need told since before now cat asked top side half (OfRow look) fault low is need blames fails kept =
    row_blamed told since before now cat asked top side half look fault need low is blames (not_whole told cat side before half look fault need.0 is fails)
blames_need told since before now cat asked top side half (OfRecord file identifier) fault low is need blames fails kept = absurd need

pub blames_read :
    (told : Bool) (since : ℕ) (before now : Device) (cat : Catalog) (asked : Query) (top side : ℕ) (half : Half) (need : Need) (fault : PageFault) → side < 2
    → IsHalf told cat side before half → IsReadNeed cat asked top need → BlamesNeeded since now half need fault
    → (told ≡ true → FailsNeeded before.page half need fault) → BlamesRead plans.Scan told since now cat asked top side half fault
blames_read told since before now cat asked top side half NoNeed fault low is need blames fails = absurd blames
blames_read told since before now cat asked top side half (OfSlot slot) fault low is need blames fails = slot_read told since now cat asked top side half slot fault need blames
blames_read told since before now cat asked top side half (OfRow look) fault low is need blames fails =
    row_read told since before now cat asked top side half look fault need low is blames (not_whole told cat side before half look fault need.0 is fails)
blames_read told since before now cat asked top side half (OfRecord file identifier) fault low is need blames fails = absurd need

-- where a step fails
pub needed_blames :
    (told : Bool) (since : ℕ) (before now : Device) (cat : Catalog) (asked : Query) (top side : ℕ) (half : Half) (need : Need) (result : Result Went PageFault) → side < 2
    → IsHalf told cat side before half → IsReadNeed cat asked top need → IfErr result (BlamesNeeded since now half need)
    → (told ≡ true → IfErr result (FailsNeeded before.page half need)) → KeepsPages before now → IfErr result (Blames told now.page cat asked top side half)
needed_blames told since before now cat asked top side half need (Ok went) low is wanted blames fails kept = tt
needed_blames told since before now cat asked top side half need (Err fault) low is wanted blames fails kept =
    blames_need told since before now cat asked top side half need fault low is wanted blames fails kept

pub needed_read :
    (told : Bool) (since : ℕ) (before now : Device) (cat : Catalog) (asked : Query) (top side : ℕ) (half : Half) (need : Need) (result : Result Went PageFault) → side < 2
    → IsHalf told cat side before half → IsReadNeed cat asked top need → IfErr result (BlamesNeeded since now half need)
    → (told ≡ true → IfErr result (FailsNeeded before.page half need)) → IfErr result (BlamesRead plans.Scan told since now cat asked top side half)
needed_read told since before now cat asked top side half need (Ok went) low is wanted blames fails = tt
needed_read told since before now cat asked top side half need (Err fault) low is wanted blames fails =
    blames_read told since before now cat asked top side half need fault low is wanted blames fails
