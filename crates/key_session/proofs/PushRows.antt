-- The rows of a payload, one after another.
use Rattle.std.proofs.Common.{◌≡◌, ◌≤◌, ◌<◌, ◌+◌, ◌-◌, ◌/◌, ℕ, suc, arith, Bool, true, false, ◌&&◌, nat_lt, nat_le, ltb-true, leb-true, List, [], ◌∷◌, ◌++◌, length, map, take, drop, refl, sym, ◌∙◌, ap, subst, append-nil, append_assoc}
use Rattle.std.proofs.Math.Nat.{add-div_right, div-eq_of_lt}
use Rattle.std.proofs.lemmas.List.{length-drop}
use Rattle.ghost_model.specs.core.Schema.{Kind}
use Rattle.ghost_model.specs.forms.Runs.{number_in}
use Rattle.ghost_model.specs.core.Asks.{RowCells, row_in, rows_from}
use Rattle.ghost_model.specs.core.NextMove.{are_cells, rows_fit, last_identifier}
use Rattle.ghost_model.proofs.ChannelLemmas.Tests.{both_hold}
use Rattle.ghost_base.specs.Views.{kind_of}
use Rattle.edge_traits.specs.Devices.{Device}
use Rattle.page_pool.specs.Pools.{Pool}
use Rattle.visible_spool.specs.declared.area.Area.{Area}
use Rattle.visible_spool.specs.declared.spool.Spool.{Spool}
use Rattle.visible_spool.specs.Sides.{is_marked, replies_of}
use Rattle.visible_spool.specs.Spools.{IsNextRow, HasPushed, area_at, is_at, last_of}
use Rattle.key_session.specs.Rows.{cut, rows_at, cells_at}
use Rattle.key_session.specs.Pushing.{AreNext, Writes}
use Rattle.key_session.specs.declared.ask.AskAtHand.{AskAtHand}
use Rattle.key_session.proofs.WriteLemmas.{areas_same, writes_none, writes_join, true_is_not_false}

-- the rest of a payload comes next, and ends with the same row
pub record Follows (spool : Spool) (hand : AskAtHand) (rest : List ℕ) (total : ℕ) : Type 0 where
  pub now : ℕ
  pub are : AreNext spool hand rest now
  pub same : last_identifier now (cells_at hand.width rest) ≡ total

pub record GoesOn (told : Bool) (before now : Device) (pool later : Pool) (hand : AskAtHand) (old new : Spool) (payload rest : List ℕ) : Type 0 where
  pub writes : Writes hand.text hand.table before now pool later old new
  pub replies : replies_of new.sides hand.text ≡ replies_of old.sides hand.text
  pub others : is_at new hand.text hand.table ≡ false → new ≡ old
  pub follows : (last : ℕ) → AreNext old hand payload last → Follows new hand rest (last_identifier last (cells_at hand.width payload))
  pub done : List (List ℕ)
  pub whole : rows_at hand.width payload ≡ done ++ rows_at hand.width rest
  pub pushed : (rows : List (List ℕ)) → HasPushed told before.page pool old hand.text hand.table rows → is_marked new.sides hand.text ≡ false
      → HasPushed told now.page later new hand.text hand.table (rows ++ done)

pub none_yet : (told : Bool) (before : Device) (pool : Pool) (hand : AskAtHand) (old : Spool) (payload : List ℕ) → GoesOn told before before pool pool hand old old payload payload
none_yet told before pool hand old payload = record {
  writes = writes_none hand.text hand.table before pool old;
  replies = refl;
  others = λ none. refl;
  follows = λ last are. record { now = last; are = are; same = refl };
  done = [];
  whole = refl;
  pushed = λ rows had not. subst (λ all. HasPushed told before.page pool old hand.text hand.table all) (sym (append-nil rows)) had;
}

-- a row at the front of at least one
one_fewer : (width size : ℕ) → 0 < width → width ≤ size → size / width ≡ suc ((size - width) / width)
one_fewer width size some enough =
    let e : size ≡ (size - width) + width = omega (arith, enough) in
    let more : ((size - width) + width) / width ≡ (size - width) / width + 1 = add-div_right (size - width) some in
    let same = ap (λ n. n / width) e in
    omega (arith, more, same)

front : (width : ℕ) (rest : List ℕ) → 0 < width → width ≤ length rest → length rest / width ≡ suc (length (drop width rest) / width)
front width rest some enough = one_fewer width (length rest) some enough ∙ ap (λ n. suc (n / width)) (sym (length-drop width rest))

pub rows_front : (width : ℕ) (rest : List ℕ) → 0 < width → width ≤ length rest → rows_at width rest ≡ take width rest ∷ rows_at width (drop width rest)
unfolding cut
rows_front width rest some enough = ap (λ n. cut width n rest) (front width rest some enough)

pub cells_front : (width : ℕ) (rest : List ℕ) → 0 < width → width ≤ length rest → cells_at width rest ≡ row_in (take width rest) ∷ cells_at width (drop width rest)
unfolding rows_from
cells_front width rest some enough = ap (λ n. rows_from width n rest) (front width rest some enough)

pub no_rows : (width : ℕ) (rest : List ℕ) → length rest < width → rows_at width rest ≡ []
unfolding cut
no_rows width rest short = ap (λ n. cut width n rest) (div-eq_of_lt short)

pub no_cells : (width : ℕ) (rest : List ℕ) → length rest < width → cells_at width rest ≡ []
unfolding rows_from
no_cells width rest short = ap (λ n. rows_from width n rest) (div-eq_of_lt short)

-- the first of rows that may come next
pub record FirstFits (rows last : ℕ) (kinds : List Kind) (row : RowCells) (later : List RowCells) : Type 0 where
  pub above : last < row.identifier
  pub within : row.identifier ≤ rows
  pub cells : are_cells kinds row.cells ≡ true
  pub rest : rows_fit rows row.identifier kinds later ≡ true

first_fits : (rows last : ℕ) (kinds : List Kind) (row : RowCells) (later : List RowCells) → rows_fit rows last kinds (row ∷ later) ≡ true → FirstFits rows last kinds row later
unfolding rows_fit
first_fits rows last kinds row later fit =
    let both = both_hold (nat_lt last row.identifier && nat_le row.identifier rows && are_cells kinds row.cells) (rows_fit rows row.identifier kinds later) fit in
    let part = both_hold (nat_lt last row.identifier && nat_le row.identifier rows) (are_cells kinds row.cells) both.one in
    let bounds = both_hold (nat_lt last row.identifier) (nat_le row.identifier rows) part.one in
    record {
      above = ltb-true last row.identifier bounds.one;
      within = leb-true row.identifier rows bounds.other;
      cells = part.other;
      rest = both.other;
    }

pub identifier_is : (row : List ℕ) → number_in row 0 ≡ (row_in row).identifier
unfolding number_in
identifier_is row = refl

pub next_fits : (spool : Spool) (hand : AskAtHand) (rest : List ℕ) (last : ℕ) → AreNext spool hand rest last → 0 < hand.width → hand.width ≤ length rest
    → FirstFits (area_at spool hand.table).rows last (map kind_of hand.kinds.items) (row_in (take hand.width rest)) (cells_at hand.width (drop hand.width rest))
next_fits spool hand rest last are some enough =
    first_fits (area_at spool hand.table).rows last (map kind_of hand.kinds.items) (row_in (take hand.width rest)) (cells_at hand.width (drop hand.width rest))
    (subst (λ cells. rows_fit (area_at spool hand.table).rows last (map kind_of hand.kinds.items) cells ≡ true) (cells_front hand.width rest some enough) are.fit)

pub next_row : (spool : Spool) (hand : AskAtHand) (rest : List ℕ) (last : ℕ) → AreNext spool hand rest last → 0 < hand.width → hand.width ≤ length rest
    → IsNextRow spool hand.text hand.table (take hand.width rest)
next_row spool hand rest last are some enough =
    let first = next_fits spool hand rest last are some enough in
    let is = identifier_is (take hand.width rest) in
    let before = are.before in
    let above = first.above in
    let within = first.within in
    record { above = omega (arith, is, before, above); within = omega (arith, is, within) }

-- a row was pushed
pub record RowPushed (told : Bool) (before now : Device) (pool later : Pool) (hand : AskAtHand) (old new : Spool) (row : List ℕ) : Type 0 where
  pub writes : Writes hand.text hand.table before now pool later old new
  pub replies : replies_of new.sides hand.text ≡ replies_of old.sides hand.text
  pub at : is_at new hand.text hand.table ≡ true
  pub last : last_of new hand.text hand.table ≤ number_in row 0
  pub pushed : (rows : List (List ℕ)) → HasPushed told before.page pool old hand.text hand.table rows → are_cells (map kind_of hand.kinds.items) (drop 4 row) ≡ true
      → is_marked new.sides hand.text ≡ false → HasPushed told now.page later new hand.text hand.table (rows ++ row ∷ [])

-- one more row
module _ (told : Bool) (before between now : Device) (pool middle later : Pool) (hand : AskAtHand) (old mid new : Spool) (payload rest : List ℕ) (goes : GoesOn told before between pool middle hand old mid payload rest)
    (start : ℕ) (starts : AreNext old hand payload start) (some : 0 < hand.width) (enough : hand.width ≤ length rest)
    (one : RowPushed told between now middle later hand mid new (take hand.width rest)) where
  abbrev row : List ℕ
  row = take hand.width rest

  abbrev left : List ℕ
  left = drop hand.width rest

  follows_on : (total : ℕ) → Follows mid hand rest total → Follows new hand left total
  follows_on total f =
      let first = next_fits mid hand rest f.now f.are some enough in
      let is = identifier_is (take hand.width rest) in
      let last = one.last in
      record {
        now = (row_in row).identifier;
        are = record {
          before = omega (arith, last, is);
          fit = subst (λ (area : Area). rows_fit area.rows (row_in row).identifier (map kind_of hand.kinds.items) (cells_at hand.width left) ≡ true)
              (sym (areas_same mid new hand.table one.writes.areas)) first.rest;
        };
        same = sym (ap (λ (cells : List RowCells). last_identifier f.now cells) (cells_front hand.width rest some enough)) ∙ f.same;
      }

  unmarked : (b : Bool) → is_marked mid.sides hand.text ≡ b → is_marked new.sides hand.text ≡ false → b ≡ false
  unmarked true was not = absurd (true_is_not_false (sym (one.writes.marks.stays was) ∙ not))
  unmarked false was not = refl

  pub one_more : GoesOn told before now pool later hand old new payload (drop hand.width rest)
  one_more = record {
    writes = writes_join hand.text hand.table before between now pool middle later old mid new goes.writes one.writes;
    replies = one.replies ∙ goes.replies;
    others = λ none. absurd (true_is_not_false (sym one.at ∙ none));
    follows = λ from are. follows_on (last_identifier from (cells_at hand.width payload)) (goes.follows from are);
    done = goes.done ++ row ∷ [];
    whole = goes.whole ∙ (ap (λ rows. goes.done ++ rows) (rows_front hand.width rest some enough) ∙ sym (append_assoc goes.done (row ∷ []) (rows_at hand.width left)));
    pushed = λ rows had not.
        (let f = goes.follows start starts in
        let first = next_fits mid hand rest f.now f.are some enough in
        subst (λ all. HasPushed told now.page later new hand.text hand.table all) (append_assoc rows goes.done (row ∷ []))
        (one.pushed (rows ++ goes.done) (goes.pushed rows had (unmarked (is_marked mid.sides hand.text) refl not)) first.cells not));
  }

pub one_more_at : (told : Bool) (before between now : Device) (pool middle later : Pool) (hand its : AskAtHand) (old mid new : Spool) (payload rest row behind : List ℕ)
    → GoesOn told before between pool middle hand old mid payload rest → (start : ℕ) → AreNext old hand payload start → 0 < hand.width → hand.width ≤ length rest
    → its ≡ hand → row ≡ take hand.width rest → behind ≡ drop hand.width rest → RowPushed told between now middle later its mid new row
    → GoesOn told before now pool later hand old new payload behind
one_more_at told before between now pool middle later hand its old mid new payload rest row behind goes start starts some enough same row_is behind_is one =
    subst (λ (l : List ℕ). GoesOn told before now pool later hand old new payload l) (sym behind_is)
    (one_more told before between now pool middle later hand old mid new payload rest goes start starts some enough
    (subst (λ (r : List ℕ). RowPushed told between now middle later hand mid new r) row_is (subst (λ (h : AskAtHand). RowPushed told between now middle later h mid new row) same one)))

-- the next row of a payload
pub next_of : (told : Bool) (before between : Device) (pool middle : Pool) (hand its : AskAtHand) (old mid : Spool) (payload rest row : List ℕ)
    → GoesOn told before between pool middle hand old mid payload rest → (start : ℕ) → AreNext old hand payload start → 0 < hand.width → hand.width ≤ length rest
    → its ≡ hand → row ≡ take hand.width rest → IsNextRow mid its.text its.table row
next_of told before between pool middle hand its old mid payload rest row goes start starts some enough same row_is =
    let f = goes.follows start starts in
    subst (λ (h : AskAtHand). IsNextRow mid h.text h.table row) (sym same)
    (subst (λ (r : List ℕ). IsNextRow mid hand.text hand.table r) (sym row_is) (next_row mid hand rest f.now f.are some enough))

-- the whole payload
pub all_pushed : (told : Bool) (before now : Device) (pool later : Pool) (hand : AskAtHand) (old new : Spool) (payload rest : List ℕ) → GoesOn told before now pool later hand old new payload rest
    → length rest < hand.width → (rows : List (List ℕ)) → HasPushed told before.page pool old hand.text hand.table rows → is_marked new.sides hand.text ≡ false
    → HasPushed told now.page later new hand.text hand.table (rows ++ rows_at hand.width payload)
all_pushed told before now pool later hand old new payload rest goes short rows had not =
    let all : rows_at hand.width payload ≡ goes.done = goes.whole ∙ (ap (λ more. goes.done ++ more) (no_rows hand.width rest short) ∙ append-nil goes.done) in
    subst (λ more. HasPushed told now.page later new hand.text hand.table (rows ++ more)) (sym all) (goes.pushed rows had not)

pub all_last : (told : Bool) (before now : Device) (pool later : Pool) (hand : AskAtHand) (old new : Spool) (payload rest : List ℕ) → GoesOn told before now pool later hand old new payload rest
    → length rest < hand.width → (last : ℕ) → AreNext old hand payload last → last_of new hand.text hand.table ≤ last_identifier last (cells_at hand.width payload)
all_last told before now pool later hand old new payload rest goes short last are =
    let f = goes.follows last are in
    let end = sym (ap (λ (cells : List RowCells). last_identifier f.now cells) (no_cells hand.width rest short)) ∙ f.same in
    let upto = f.are.before in
    omega (arith, end, upto)
