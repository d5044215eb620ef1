-- Of which lists those at hand are, and what is blamed of them.
use Rattle.std.proofs.Common.{◌≡◌, ◌∙◌, ℕ, List, [], ◌∷◌, ◌++◌, sym, refl, subst, arith}
use Rattle.std.specs.Prelude.{Result, Ok, Err, Bool}
use Rattle.ghost_base.specs.declared.runs.ListRef.{ListRef}
use Rattle.edge_traits.specs.Devices.{Device}
use Rattle.flash_pages.specs.declared.cursor.RunCursor.{RunCursor}
use Rattle.flash_pages.specs.declared.fault.PageFault.{PageFault}
use Rattle.flash_pages.specs.declared.fault.PageFault.TheVariants.{Flash, Damaged}
use Rattle.flash_pages.specs.Faults.{BlamesNoSlot}
use Rattle.id_merge.specs.declared.cursor.Cursor.{Cursor}
use Rattle.id_merge.specs.declared.cursor.Cursor.TheVariants.{List as OfList, Range}
use Rattle.id_merge.specs.Cursors.{BlamesOutOfRows, SameSource, cursor_at}
use Rattle.id_merge.specs.Since.{Since, Blames}
use Rattle.id_merge.proofs.Laws.{each_pushed}
use Rattle.spill_pass.specs.Lists.{OutOfRowsIn}
use Rattle.spill_pass.specs.Merging.{AllOutside, AllOver, CursorAmong, CursorOver, IsAmong, IsOver, LiesOutside, NoOthers, SameList}
use Rattle.spill_pass.specs.Sources.{BlamesSource}
use Rattle.spill_pass.proofs.Grouping.{each_none}

-- it is the same list
pub list_same : (cursor : Cursor) → SameList cursor cursor
list_same (OfList run) = (refl, (refl, refl))
list_same (Range low high) = refl

pub list_kept : (told : Bool) (page : ℕ → List ℕ) (before now : Cursor) → SameSource told page before now → SameList before now
list_kept told page (OfList before) (OfList now) same = (same.list, (same.rows, same.lease))
list_kept told page (OfList before) (Range first last) same = same
list_kept told page (Range first last) now same = same

pub list_again : (one two three : Cursor) → SameList one two → SameList two three → SameList one three
list_again (OfList one) (OfList two) (OfList three) first second = (second.0 ∙ first.0, (second.1.0 ∙ first.1.0, second.1.1 ∙ first.1.1))
list_again (OfList one) (OfList two) (Range low high) first second = second
list_again (OfList one) (Range low high) three first second = absurd first
list_again (Range low high) two three first second = let P : Cursor → Type 0 = λ cursor. SameList cursor three in subst P first second

-- no list is at hand
pub over_none : (some : ListRef → Type 0) (rows : ℕ) (cursors : List Cursor) → cursors ≡ [] → AllOver some rows cursors
over_none some rows cursors none = each_none (CursorOver some rows) cursors none tt

-- a list more is at hand
pub over_pushed :
    (some : ListRef → Type 0) (rows : ℕ) (cursors pushed : List Cursor) (cursor : RunCursor) → pushed ≡ cursors ++ OfList cursor ∷ []
    → IsOver some rows cursor → AllOver some rows cursors → AllOver some rows pushed
over_pushed some rows cursors pushed cursor is one over =
    let P : List Cursor → Type 0 = λ cs. (i : ℕ) → CursorOver some rows (cursor_at cs i) in
    subst P (sym is) (each_pushed (CursorOver some rows) cursors (OfList cursor) tt over one)

-- those lists are others too, and the rows have another name
is_over : (some other : ListRef → Type 0) (rows rows' : ℕ) (cursor : Cursor) → rows' ≡ rows → ((list : ListRef) → some list → other list) → CursorOver some rows cursor → CursorOver other rows' cursor
is_over some other rows rows' (OfList run) same then over = record { list = then run.list over.list; rows_are = omega (arith, over.rows_are, same) }
is_over some other rows rows' (Range low high) same then over = tt

pub over_then :
    (some other : ListRef → Type 0) {rows rows' : ℕ} (cursors : List Cursor) → rows' ≡ rows → ((list : ListRef) → some list → other list)
    → AllOver some rows cursors → AllOver other rows' cursors
over_then some other {rows = rows} {rows' = rows'} cursors same then over i = is_over some other rows rows' (cursor_at cursors i) same then (over i)

-- no others are at hand
over_one : (some : ListRef → Type 0) (rows : ℕ) (old : List Cursor) (cursor : Cursor) → AllOver some rows old → CursorAmong old cursor → CursorOver some rows cursor
over_one some rows old (OfList run) over among =
    let C : Cursor → Type 0 = CursorOver some rows in
    let is : IsOver some rows among.other = subst C among.is (over among.at) in
    record { list = subst some (sym among.list) is.list; rows_are = omega (arith, among.rows, is.rows_are) }
over_one some rows old (Range low high) over among = tt

pub over_among : (some : ListRef → Type 0) (rows : ℕ) (old new : List Cursor) → NoOthers old new → AllOver some rows old → AllOver some rows new
over_among some rows old new none over i = over_one some rows old (cursor_at new i) over (none i)

among_at : (old : List Cursor) (i : ℕ) (was now : Cursor) → cursor_at old i ≡ was → SameList was now → CursorAmong old now
among_at old i (OfList was) (OfList now) is same = record { at = i; other = was; is = is; list = same.0; rows = same.1.0 }
among_at old i (OfList was) (Range low high) is same = tt
among_at old i (Range low high) now is same = let P : Cursor → Type 0 = CursorAmong old in subst P (sym same) tt

pub among_same : (old new : List Cursor) → ((i : ℕ) → SameList (cursor_at old i) (cursor_at new i)) → NoOthers old new
among_same old new same i = among_at old i (cursor_at old i) (cursor_at new i) refl (same i)

pub among_itself : (cursors : List Cursor) → NoOthers cursors cursors
among_itself cursors = among_same cursors cursors (λ i. list_same (cursor_at cursors i))

pub among_none : (old new : List Cursor) → new ≡ [] → NoOthers old new
among_none old new none = each_none (CursorAmong old) new none tt

one_again : (one two : List Cursor) (cursor : Cursor) → NoOthers one two → CursorAmong two cursor → CursorAmong one cursor
one_again one two (OfList run) first among =
    let P : Cursor → Type 0 = CursorAmong one in
    let was : IsAmong one among.other = subst P among.is (first among.at) in
    record { at = was.at; other = was.other; is = was.is; list = among.list ∙ was.list; rows = among.rows ∙ was.rows }
one_again one two (Range low high) first among = tt

pub among_again : (one two three : List Cursor) → NoOthers one two → NoOthers two three → NoOthers one three
among_again one two three first second i = one_again one two (cursor_at three i) first (second i)

pub outside_pushed :
    (low high : ℕ) (cursors pushed : List Cursor) (cursor : RunCursor) → pushed ≡ cursors ++ OfList cursor ∷ [] → LiesOutside low high (OfList cursor)
    → AllOutside low high cursors → AllOutside low high pushed
outside_pushed low high cursors pushed cursor is one outside =
    let P : List Cursor → Type 0 = λ cs. (i : ℕ) → LiesOutside low high (cursor_at cs i) in
    subst P (sym is) (each_pushed (LiesOutside low high) cursors (OfList cursor) tt outside one)

pub outside_none : (low high : ℕ) (cursors : List Cursor) → cursors ≡ [] → AllOutside low high cursors
outside_none low high cursors none = each_none (LiesOutside low high) cursors none tt

-- a slot of theirs that has no identifier of the rows is damaged where such a slot of one of some lists is
pub out_in :
    {T : Type 0} (page : ℕ → List ℕ) (some : ListRef → Type 0) (rows : ℕ) (cursors : List Cursor) (damaged : ℕ → ℕ → ℕ → Type 0) (result : Result T PageFault)
    → AllOver some rows cursors
    → ((list : ListRef) → some list → (number slot found : ℕ) → OutOfRowsIn page list rows number slot found → damaged number slot found)
    → BlamesOutOfRows page cursors result → BlamesSource damaged result
out_in page some rows cursors damaged (Ok answer) over judged out = tt
out_in page some rows cursors damaged (Err Flash) over judged out = tt
out_in page some rows cursors damaged (Err (Damaged number slot found)) over judged out =
    let C : Cursor → Type 0 = CursorOver some rows in
    let is : IsOver some rows out.run = subst C out.is (over out.at) in
    judged out.run.list is.list number slot found (record {
      at = out.run.at;
      within = out.within;
      place = out.run.place;
      last = out.run.last;
      gets = out.gets;
      kept = omega (arith, out.kept, is.rows_are);
      page_is = out.place.page_is;
      slot_is = out.place.slot_is;
      found_is = out.found_is;
      out = λ above few. out.out (record { some = above; within = omega (arith, few, is.rows_are) });
    })

-- no slot is blamed
pub none_blames : {T : Type 0} (since : Since) (device : Device) (result : Result T PageFault) → BlamesNoSlot result → Blames since device result
none_blames since device (Ok answer) none = tt
none_blames since device (Err Flash) none = tt
none_blames since device (Err (Damaged number slot found)) none = absurd none

pub none_damaged : {T : Type 0} (damaged : ℕ → ℕ → ℕ → Type 0) (result : Result T PageFault) → BlamesNoSlot result → BlamesSource damaged result
none_damaged damaged (Ok answer) none = tt
none_damaged damaged (Err Flash) none = tt
none_damaged damaged (Err (Damaged number slot found)) none = absurd none

-- what is blamed is also something else
pub blames_less :
    {T : Type 0} (one other : ℕ → ℕ → ℕ → Type 0) (result : Result T PageFault) → ((number slot found : ℕ) → one number slot found → other number slot found)
    → BlamesSource one result → BlamesSource other result
blames_less one other (Ok answer) less blames = tt
blames_less one other (Err Flash) less blames = tt
blames_less one other (Err (Damaged number slot found)) less blames = less number slot found blames
