-- What is awaited fits.
use Rattle.std.proofs.Common.{◌≡◌, ℕ, ◌≤◌, Bool, true, false, not, ◌&&◌, List, [], ◌∷◌, length, map, sum_by, ◌∙◌, ap, refl, arith, nat_lt, ltb-true, leb-true, if◌then◌else◌}
use Rattle.std.specs.Prelude.{◌==◌}
use Rattle.std.proofs.lemmas.Bool.Decides.{nat_tests}
use Rattle.std.proofs.lemmas.List.Sums.{sum_by-cons}
use Rattle.ghost_model.specs.core.Channel.{Catalog}
use Rattle.ghost_model.specs.core.Asks.{NumberedAsk, asked_of, row_width}
use Rattle.ghost_model.specs.core.NextMove.{Awaits, AwaitsCatalog, AwaitsReply, AwaitsNothing, EndedAsk, Heard, at_first, heard}
use Rattle.ghost_model.specs.forms.Layout.{spool_width}
use Rattle.ghost_model.specs.laws.LayoutLaws.{FilesLieInOrder}
use Rattle.ghost_model.proofs.ChannelLemmas.Tests.{both_hold}
use Rattle.ghost_model.proofs.SchemaTreeLemmas.{schemas_are_trees}
use Rattle.ghost_model.proofs.SessionLemmas.Accepted.{Each}
use Rattle.visible_spool.specs.Laws.{VisibleTablesHaveRoom}
use Rattle.key_session.specs.Fits.{RepliesFit, FitsAt, is_ask_of, was_ended}
use Rattle.key_session.proofs.Hearing.{who, Orderly, by_bytes}
use Rattle.key_session.proofs.Asks.{weight, one_if, for_table, texts_ask_once, texts_rise, texts_end}
use Rattle.key_session.proofs.Placing.{is_placed, HasRoom, texts_are_placed}

-- what was heard of texts is orderly
pub all_heard : (catalog : Catalog) (texts : List (List ℕ)) (received : List ℕ)
    → Orderly catalog (asked_of catalog.schema texts) 1 (length texts) (heard catalog (asked_of catalog.schema texts) received).awaits
    (heard catalog (asked_of catalog.schema texts) received).rows (heard catalog (asked_of catalog.schema texts) received).ended
all_heard catalog texts received =
    by_bytes catalog (asked_of catalog.schema texts) 1 (length texts) (at_first catalog) received
    (record {
      rows_so = tt;
      weigh = λ w. omega arith;
      at = 1;
      reached = omega arith;
      behind = tt;
      ahead = texts_rise catalog.schema texts;
      within = texts_end catalog.schema texts;
    })

-- how many asks have no place
abbrev misplaced : Catalog → NumberedAsk → ℕ
misplaced catalog one = one_if (not (is_placed catalog one))

none_misplaced : (catalog : Catalog) (asks : List NumberedAsk) → Each (λ (one : NumberedAsk). is_placed catalog one ≡ true) asks → sum_by (misplaced catalog) asks ≡ 0
none_misplaced catalog [] e = refl
none_misplaced catalog (one ∷ asks) e =
    let split = sum_by-cons (misplaced catalog) one asks in
    let later = none_misplaced catalog asks e.1 in
    let here : misplaced catalog one ≡ 0 = ap (λ b. one_if (not b)) e.0 in
    omega (arith, split, later, here)

-- none of the asks that were ended is of a text for a table where they weigh nothing
weighs_as : (text table : ℕ) (one : NumberedAsk) → weight text (for_table table) one ≡ one_if (is_ask_of text table one)
weighs_as text table one = go (one.text == text) (one.ask.table == table)
  where
    go : (a b : Bool) → (if a then one_if b else 0) ≡ one_if (a && b)
    go true b = refl
    go false b = refl

none_ended : (text table : ℕ) (ends : List EndedAsk) → sum_by (weight text (for_table table)) (map who ends) ≡ 0 → was_ended text table ends ≡ false
none_ended text table [] e = refl
none_ended text table (end ∷ ends) e =
    let split = sum_by-cons (weight text (for_table table)) end.asked (map who ends) in
    go (is_ask_of text table end.asked) refl (none_ended text table ends (omega (arith, split, e))) (omega (arith, split, e))
  where
    go : (b : Bool) → is_ask_of text table end.asked ≡ b → was_ended text table ends ≡ false → weight text (for_table table) end.asked ≡ 0 → was_ended text table (end ∷ ends) ≡ false
    go true is later none =
        let here = weighs_as text table end.asked in
        let one : one_if (is_ask_of text table end.asked) ≡ 1 = ap one_if is in
        absurd (omega (arith, here, one, none))
    go false is later none = cc

own_weight : (one : NumberedAsk) → weight one.text (for_table one.ask.table) one ≡ 1
own_weight one = weighs_as one.text one.ask.table one ∙ ap one_if (own one.text one.ask.table)
  where
    own : (a b : ℕ) → (a == a && b == b) ≡ true
    own a b = grind (arith, nat_tests)

fits_at : (catalog : Catalog) (asks : List NumberedAsk) (top : ℕ) → ((text table : ℕ) → sum_by (weight text (for_table table)) asks ≤ 1)
    → Each (λ (one : NumberedAsk). is_placed catalog one ≡ true) asks
    → (awaits : Awaits) (rows : List ℕ) (ends : List EndedAsk) → Orderly catalog asks 1 top awaits rows ends → FitsAt catalog ends rows awaits
fits_at catalog asks top once placed (AwaitsCatalog bytes) rows ends o = tt
fits_at catalog asks top once placed AwaitsNothing rows ends o = tt
fits_at catalog asks top once placed (AwaitsReply one serial later count last) rows ends o =
    let w = weight one.text (for_table one.ask.table) in
    let all = o.weigh w in
    let split = sum_by-cons w one later in
    let own = own_weight one in
    let few = once one.text one.ask.table in
    let bad = o.weigh (misplaced catalog) in
    let bad_split = sum_by-cons (misplaced catalog) one later in
    let none = none_misplaced catalog asks placed in
    let is = here one (is_placed catalog one) refl (omega (arith, bad, bad_split, none)) in
    let both = both_hold (nat_lt one.ask.table (length catalog.schema)) _ is in
    let widths = both_hold (nat_lt 4 (spool_width catalog.schema one.ask.table)) _ both.other in
    let reached = o.reached in
    let first = o.ahead.0 in
    let came = o.rows_so in
    record {
      numbered = omega (arith, reached, first);
      there = ltb-true one.ask.table (length catalog.schema) both.one;
      visible = ltb-true 4 (spool_width catalog.schema one.ask.table) widths.one;
      narrow = leb-true (row_width catalog.schema one.ask) (spool_width catalog.schema one.ask.table) widths.other;
      first = none_ended one.text one.ask.table ends (omega (arith, all, split, own, few));
      came = record { count = came.count; size = came.size; final = came.final };
    }
  where
    here : (one : NumberedAsk) (b : Bool) → is_placed catalog one ≡ b → one_if (not b) ≡ 0 → is_placed catalog one ≡ true
    here one true is e = is
    here one false is e = absurd (omega (arith, e))

pub replies_fit : FilesLieInOrder → VisibleTablesHaveRoom → RepliesFit
replies_fit order visible catalog schema_text texts received means =
    let room : HasRoom catalog.schema = λ table column seen. visible catalog table column (schemas_are_trees schema_text catalog.schema means) (order catalog) seen in
    let h : Heard = heard catalog (asked_of catalog.schema texts) received in
    fits_at catalog (asked_of catalog.schema texts) (length texts) (texts_ask_once catalog.schema texts) (texts_are_placed catalog room texts) h.awaits h.rows h.ended (all_heard catalog texts received)
