-- That asks are awaited in the order of their texts.
use Rattle.std.proofs.Common.{◌≡◌, ℕ, zero, suc, ◌+◌, ◌*◌, ◌/◌, ◌%◌, ◌≤◌, ◌<◌, Bool, true, false, not, ◌&&◌, ◌||◌, List, [], ◌∷◌, ◌++◌, length, map, drop, sym, ◌∙◌, ap, subst, refl, arith, append-nil, append_assoc, length-append, if◌then◌else◌}
use Rattle.std.specs.Prelude.{◌==◌, nat_lt, nat_le}
use Rattle.std.specs.List.{list_all, list_any}
use Rattle.std.proofs.lemmas.Bool.{ltb-true, lt-ltb, leb-true, le-leb}
use Rattle.std.proofs.lemmas.Bool.Decides.{nat_tests}
use Rattle.std.proofs.lemmas.List.Folds.{list_all-append}
use Rattle.std.proofs.Math.Nat.{mod-add-div', mul-div_cancel}
use Rattle.ghost_model.specs.core.Schema.{Schema}
use Rattle.ghost_model.specs.readings.QueryReading.{reading}
use Rattle.ghost_model.specs.core.Channel.{Catalog, Ask, Frame, HelloFrame, AskFrame, MoreFrame, ByeFrame, WelcomeFrame, RowsFrame, DoneFrame, SorryFrame}
use Rattle.ghost_model.specs.forms.Frames.{frame_in, kind_in, size_in, version_in, serial_in, frame_version}
use Rattle.ghost_model.specs.core.Asks.{NumberedAsk, asked, asks_of_reading, asked_from, asked_of, rows_from, rows_in, row_width}
use Rattle.ghost_model.specs.core.NextMove.{Awaits, AwaitsCatalog, AwaitsReply, AwaitsNothing, Ending, Answered, Refused, EndedAsk, ended, Heard, Verdict, Lacking, Complete, Invalid, reply_size_fits, header_fits, payload_fits, verdict, after_frame, ask_next, still, of_later_texts, rows_after, ended_by, heard_as, hear, hear_all, at_first, heard}
use Rattle.ghost_model.proofs.ChannelLemmas.Tests.{false_is_not, BothHold, both_hold, hold_both}
use Rattle.ghost_laws.proofs.ScanLemmas.HeardRows.{replied_in, payload_whole, size_whole}
use Rattle.session_laws.specs.TextEnds.{is_settled, is_over, IsAwaitedAsk}

-- whether the texts of asks are at least this one, and ascend
abbrev ascend_from : ℕ → List NumberedAsk → Bool
ascend_from from [] = true
ascend_from from (one ∷ later) = nat_le from one.text && ascend_from one.text later

ascend_lower : (from to : ℕ) (asks : List NumberedAsk) → to ≤ from → ascend_from from asks ≡ true → ascend_from to asks ≡ true
ascend_lower from to [] less h = refl
ascend_lower from to (one ∷ later) less h =
    let both : BothHold (nat_le from one.text) (ascend_from one.text later) = both_hold _ _ h in
    hold_both _ _ (le-leb to one.text (omega (arith, leb-true from one.text both.one, less))) both.other

ascend_text : (from number : ℕ) (asks : List Ask) (rest : List NumberedAsk) → from ≤ number → ascend_from number rest ≡ true → ascend_from from (map (asked number) asks ++ rest) ≡ true
ascend_text from number [] rest less h = ascend_lower number from rest less h
ascend_text from number (ask ∷ asks) rest less h =
    hold_both _ _ (le-leb from number less) (ascend_text number number asks rest (omega arith) h)

ascend_asked : (schema : Schema) (number : ℕ) (texts : List (List ℕ)) → ascend_from number (asked_from schema number (map (reading schema) texts)) ≡ true
ascend_asked schema number [] = refl
ascend_asked schema number (text ∷ texts) =
    ascend_text number number (asks_of_reading schema (reading schema text)) (asked_from schema (number + 1) (map (reading schema) texts)) (omega arith)
    (ascend_lower (number + 1) number (asked_from schema (number + 1) (map (reading schema) texts)) (omega arith) (ascend_asked schema (number + 1) texts))

-- asks that ascend, without the first ones
ascend_skip : (from : ℕ) (first fewer : List NumberedAsk) → ascend_from from (first ++ fewer) ≡ true → ascend_from from fewer ≡ true
ascend_skip from [] fewer h = h
ascend_skip from (x ∷ first) fewer h =
    let both : BothHold (nat_le from x.text) (ascend_from x.text (first ++ fewer)) = both_hold _ _ h in
    ascend_lower x.text from fewer (leb-true from x.text both.one) (ascend_skip x.text first fewer both.other)

all_above : (from : ℕ) (asks : List NumberedAsk) → ascend_from from asks ≡ true → (text : ℕ) → text < from → list_all (λ (one : NumberedAsk). nat_lt text one.text) asks ≡ true
all_above from [] h text less = refl
all_above from (one ∷ later) h text less =
    let both : BothHold (nat_le from one.text) (ascend_from one.text later) = both_hold _ _ h in
    let more : text < one.text = omega (arith, leb-true from one.text both.one, less) in
    hold_both _ _ (lt-ltb text one.text more) (all_above one.text later both.other text more)

all_at_most : (ends : List EndedAsk) (one other : ℕ) → one ≤ other → list_all (λ (end : EndedAsk). nat_le end.asked.text one) ends ≡ true → list_all (λ (end : EndedAsk). nat_le end.asked.text other) ends ≡ true
all_at_most [] one other less h = refl
all_at_most (end ∷ ends) one other less h =
    let both : BothHold (nat_le end.asked.text one) (list_all (λ (e : EndedAsk). nat_le e.asked.text one) ends) = both_hold _ _ h in
    hold_both _ _ (le-leb end.asked.text other (omega (arith, leb-true end.asked.text one both.one, less))) (all_at_most ends one other less both.other)

-- asks without the first ones of a text
record IsBackOf (later fewer : List NumberedAsk) : Type 0 where
  first : List NumberedAsk
  whole : later ≡ first ++ fewer

later_back : (text : ℕ) (later : List NumberedAsk) → IsBackOf later (of_later_texts text later)
later_back text [] = record { first = []; whole = refl }
later_back text (one ∷ later) =
    let rest = later_back text later in
    (elim (one.text == text) as (λ v. IsBackOf (one ∷ later) (if v then of_later_texts text later else one ∷ later)) [
      | true ↦ record { first = one ∷ rest.first; whole = ap (λ (xs : List NumberedAsk). one ∷ xs) rest.whole }
      | false ↦ record { first = []; whole = refl }
    ])

-- a whole frame fits where it came
pub whole_only : (a b c d : Bool) (x y : ℕ) → (if a then Lacking x else if not b then Invalid else if c then Lacking y else if d then Complete else Invalid) ≡ Complete
    → (b ≡ true) × (c ≡ false) × (d ≡ true)
whole_only true b c d x y e = let bad : ⊥ = cc in absurd bad
whole_only false false c d x y e = let bad : ⊥ = cc in absurd bad
whole_only false true true d x y e = let bad : ⊥ = cc in absurd bad
whole_only false true false false x y e = let bad : ⊥ = cc in absurd bad
whole_only false true false true x y e = (refl, refl, refl)

pub count_rows : (width count : ℕ) (bytes : List ℕ) → length (rows_from width count bytes) ≡ count
unfolding rows_from
count_rows width zero bytes = refl
count_rows width (suc count) bytes = let e = count_rows width count (drop width bytes) in omega (arith, e)

above_is_other : (text other : ℕ) → nat_lt text other ≡ true → (other == text) ≡ false
above_is_other text other h = grind (arith, nat_tests)

module _ (catalog : Catalog) (asks : List NumberedAsk) (ascends : ascend_from 1 asks ≡ true) where
  -- where the reply to an ask is awaited
  record IsAt (one : NumberedAsk) (later : List NumberedAsk) (count : ℕ) (rows : List ℕ) (ends : List EndedAsk) : Type 0 where
    before : List NumberedAsk
    stands : asks ≡ before ++ one ∷ later
    in_order : list_all (λ (end : EndedAsk). nat_le end.asked.text one.text) ends ≡ true
    size : length rows ≡ count * row_width catalog.schema one.ask

  abbrev Orderly : Awaits → List ℕ → List EndedAsk → Type 0
  Orderly (AwaitsCatalog bytes) rows ends = ends ≡ []
  Orderly (AwaitsReply one serial later count last) rows ends = IsAt one later count rows ends
  Orderly AwaitsNothing rows ends = Unit {0}

  later_ascend : (one : NumberedAsk) (later before : List NumberedAsk) → asks ≡ before ++ one ∷ later → ascend_from one.text later ≡ true
  later_ascend one later before e =
      (both_hold (nat_le 1 one.text) (ascend_from one.text later) (ascend_skip 1 before (one ∷ later) (ap (ascend_from 1) (sym e) ∙ ascends))).other

  -- no text that was ended is after the first of these asks
  abbrev AreBefore : List EndedAsk → List NumberedAsk → Type 0
  AreBefore ends [] = Unit {0}
  AreBefore ends (one ∷ later) = list_all (λ (end : EndedAsk). nat_le end.asked.text one.text) ends ≡ true

  before_next : (one : NumberedAsk) (later : List NumberedAsk) (ends : List EndedAsk) (ending : Ending) → ascend_from one.text later ≡ true
      → list_all (λ (end : EndedAsk). nat_le end.asked.text one.text) ends ≡ true → AreBefore (ends ++ ended one ending ∷ []) later
  before_next one [] ends ending a h = tt
  before_next one (next ∷ later) ends ending a h =
      let both : BothHold (nat_le one.text next.text) (ascend_from next.text later) = both_hold _ _ a in
      list_all-append (λ (end : EndedAsk). nat_le end.asked.text next.text) ends (ended one ending ∷ [])
      ∙ hold_both _ _ (all_at_most ends one.text next.text (leb-true one.text next.text both.one) h) (hold_both (nat_le one.text next.text) true both.one refl)

  none_before : (later : List NumberedAsk) → AreBefore [] later
  none_before [] = tt
  none_before (one ∷ later) = refl

  next_ask : (serial : ℕ) (before later : List NumberedAsk) (ends : List EndedAsk) → asks ≡ before ++ later → AreBefore ends later → Orderly (ask_next catalog.schema serial later).awaits [] ends
  next_ask serial before [] ends e h = tt
  next_ask serial before (one ∷ later) ends e h = record { before = before; stands = e; in_order = h; size = omega arith }

  still_there : (one : NumberedAsk) (later : List NumberedAsk) (count : ℕ) (rows : List ℕ) (ends : List EndedAsk) → IsAt one later count rows ends → IsAt one later count rows (ends ++ [])
  still_there one later count rows ends o = subst (λ (es : List EndedAsk). IsAt one later count rows es) (sym (append-nil ends)) o

  spread : (a b c : ℕ) → (a + b) * c ≡ a * c + b * c
  spread a b c = grind arith

  by_frame : (part : List ℕ) → nat_lt (length part) (8 + size_in part) ≡ false → (awaits : Awaits) (rows : List ℕ) (ends : List EndedAsk) (frame : Frame)
      → frame_in part ≡ frame → header_fits catalog awaits part ≡ true → payload_fits catalog awaits frame ≡ true → Orderly awaits rows ends
      → Orderly (after_frame catalog asks awaits frame).awaits (rows_after rows frame) (ends ++ ended_by awaits rows frame)
  by_frame part enough (AwaitsCatalog bytes) rows ends (WelcomeFrame last piece) is header fits o =
      let none : ends ++ [] ≡ [] = append-nil ends ∙ o in
      (elim (length piece == length bytes) as (λ v. Orderly (if v then ask_next catalog.schema 1 asks else still (AwaitsCatalog (drop (length piece) bytes))).awaits [] (ends ++ [])) [
        | true ↦ subst (λ (es : List EndedAsk). Orderly (ask_next catalog.schema 1 asks).awaits [] es) (sym none) (next_ask 1 [] asks [] refl (none_before asks))
        | false ↦ none
      ])
  by_frame part enough (AwaitsCatalog bytes) rows ends (HelloFrame generation) is header fits o = absurd (false_is_not fits)
  by_frame part enough (AwaitsCatalog bytes) rows ends (AskFrame serial payload) is header fits o = absurd (false_is_not fits)
  by_frame part enough (AwaitsCatalog bytes) rows ends (MoreFrame serial) is header fits o = absurd (false_is_not fits)
  by_frame part enough (AwaitsCatalog bytes) rows ends ByeFrame is header fits o = absurd (false_is_not fits)
  by_frame part enough (AwaitsCatalog bytes) rows ends (RowsFrame serial payload) is header fits o = absurd (false_is_not fits)
  by_frame part enough (AwaitsCatalog bytes) rows ends (DoneFrame serial total) is header fits o = absurd (false_is_not fits)
  by_frame part enough (AwaitsCatalog bytes) rows ends (SorryFrame serial code) is header fits o = absurd (false_is_not fits)
  by_frame part enough (AwaitsReply one serial later count last) rows ends (RowsFrame number_of payload) is header fits o =
      let width : ℕ = row_width catalog.schema one.ask in
      let found = replied_in part number_of payload is in
      let sized = both_hold (version_in part == frame_version && serial_in part == serial) (reply_size_fits (row_width catalog.schema one.ask) (kind_in part) (size_in part)) header in
      let divides = size_whole catalog.schema one.ask part found.0 sized.other in
      let long : length payload ≡ size_in part = ap length (sym found.1) ∙ payload_whole catalog.schema one.ask part enough in
      let whole : length payload % row_width catalog.schema one.ask ≡ 0 = ap (λ n. n % row_width catalog.schema one.ask) long ∙ divides in
      let more : ℕ = length payload / row_width catalog.schema one.ask in
      let divided = mod-add-div' (length payload) (row_width catalog.schema one.ask) in
      let size : length payload ≡ length payload / row_width catalog.schema one.ask * row_width catalog.schema one.ask = omega (arith, divided, whole) in
      let read : length (rows_in catalog.schema one.ask payload) ≡ more = count_rows (row_width catalog.schema one.ask) more payload in
      still_there one later (count + length (rows_in catalog.schema one.ask payload)) (rows ++ payload) ends (record {
        before = o.before;
        stands = o.stands;
        in_order = o.in_order;
        size = length-append rows payload
            ∙ (ap (λ (n : ℕ). n + length payload) o.size
            ∙ (ap (λ (n : ℕ). count * row_width catalog.schema one.ask + n) size
            ∙ (sym (spread count more (row_width catalog.schema one.ask))
            ∙ ap (λ (n : ℕ). (count + n) * row_width catalog.schema one.ask) (sym read))));
      })
  by_frame part enough (AwaitsReply one serial later count last) rows ends (DoneFrame number_of total) is header fits o =
      let stands : asks ≡ (o.before ++ one ∷ []) ++ later = o.stands ∙ sym (append_assoc o.before (one ∷ []) later) in
      next_ask (serial + 1) (o.before ++ one ∷ []) later (ends ++ ended one (Answered rows) ∷ []) stands
      (before_next one later ends (Answered rows) (later_ascend one later o.before o.stands) o.in_order)
  by_frame part enough (AwaitsReply one serial later count last) rows ends (SorryFrame number_of code) is header fits o =
      let back = later_back one.text later in
      let fewer : List NumberedAsk = of_later_texts one.text later in
      let stands : asks ≡ (o.before ++ one ∷ back.first) ++ of_later_texts one.text later =
      o.stands ∙ (ap (λ (xs : List NumberedAsk). o.before ++ one ∷ xs) back.whole ∙ sym (append_assoc o.before (one ∷ back.first) (of_later_texts one.text later))) in
      next_ask (serial + 1) (o.before ++ one ∷ back.first) fewer (ends ++ ended one (Refused code) ∷ []) stands
      (before_next one fewer ends (Refused code)
      (ascend_skip one.text back.first (of_later_texts one.text later) (ap (ascend_from one.text) (sym back.whole) ∙ later_ascend one later o.before o.stands)) o.in_order)
  by_frame part enough (AwaitsReply one serial later count last) rows ends (HelloFrame generation) is header fits o = absurd (false_is_not fits)
  by_frame part enough (AwaitsReply one serial later count last) rows ends (AskFrame other payload) is header fits o = absurd (false_is_not fits)
  by_frame part enough (AwaitsReply one serial later count last) rows ends (MoreFrame other) is header fits o = absurd (false_is_not fits)
  by_frame part enough (AwaitsReply one serial later count last) rows ends ByeFrame is header fits o = absurd (false_is_not fits)
  by_frame part enough (AwaitsReply one serial later count last) rows ends (WelcomeFrame other piece) is header fits o = absurd (false_is_not fits)
  by_frame part enough AwaitsNothing rows ends frame is header fits o = absurd (false_is_not fits)

  abbrev IsOrdered : Heard → Type 0
  IsOrdered h = Orderly h.awaits h.rows h.ended

  by_verdict : (h : Heard) (part : List ℕ) (v : Verdict) → verdict catalog h.awaits part ≡ v → IsOrdered h → IsOrdered (heard_as catalog asks h part v)
  by_verdict h part (Lacking missing) e o = o
  by_verdict h part Invalid e o = o
  by_verdict h part Complete e o =
      let w = whole_only (nat_lt (length part) 8) (header_fits catalog h.awaits part) (nat_lt (length part) (8 + size_in part)) (payload_fits catalog h.awaits (frame_in part)) _ _ e in
      by_frame part w.1 h.awaits h.rows h.ended (frame_in part) refl w.0 w.2 o

  by_byte : (h : Heard) (byte : ℕ) → IsOrdered h → IsOrdered (hear catalog asks h byte)
  by_byte h byte o =
      (elim h.broken as (λ v. IsOrdered (if v then h else heard_as catalog asks h (h.part ++ byte ∷ []) (verdict catalog h.awaits (h.part ++ byte ∷ [])))) [
        | true ↦ o
        | false ↦ by_verdict h (h.part ++ byte ∷ []) (verdict catalog h.awaits (h.part ++ byte ∷ [])) refl o
      ])

  by_bytes : (h : Heard) (bytes : List ℕ) → IsOrdered h → IsOrdered (hear_all catalog asks h bytes)
  unfolding hear_all
  by_bytes h [] o = o
  by_bytes h (byte ∷ bytes) o = by_bytes (hear catalog asks h byte) bytes (by_byte h byte o)

  ordered : (received : List ℕ) → IsOrdered (heard catalog asks received)
  ordered received = by_bytes (at_first catalog) received refl

  -- an ask of a later text is awaited, or nothing more
  none_above : (text : ℕ) (later : List NumberedAsk) → list_all (λ (other : NumberedAsk). nat_lt text other.text) later ≡ true → list_any (λ (other : NumberedAsk). other.text == text) later ≡ false
  none_above text [] h = refl
  none_above text (one ∷ later) h =
      let both : BothHold (nat_lt text one.text) (list_all (λ (x : NumberedAsk). nat_lt text x.text) later) = both_hold _ _ h in
      ap (λ (b : Bool). b || list_any (λ (x : NumberedAsk). x.text == text) later) (above_is_other text one.text both.one) ∙ none_above text later both.other

  settled_by_order : (text : ℕ) (awaits : Awaits) (rows : List ℕ) (ends : List EndedAsk) → is_over text awaits ≡ true → Orderly awaits rows ends → is_settled asks text awaits ≡ true
  settled_by_order text (AwaitsCatalog bytes) rows ends e o = absurd (false_is_not e)
  settled_by_order text (AwaitsReply one serial later count last) rows ends e o =
      ap not (none_above text (one ∷ later) (hold_both _ _ e (all_above one.text later (later_ascend one later o.before o.stands) text (ltb-true text one.text e))))
  settled_by_order text AwaitsNothing rows ends e o = refl

  settled : (received : List ℕ) (text : ℕ) → is_over text (heard catalog asks received).awaits ≡ true → is_settled asks text (heard catalog asks received).awaits ≡ true
  settled received text over =
      settled_by_order text (heard catalog asks received).awaits (heard catalog asks received).rows (heard catalog asks received).ended over (ordered received)

  at_awaited : (h : Heard) (asked : NumberedAsk) (serial : ℕ) (later : List NumberedAsk) (count last : ℕ) → h.awaits ≡ AwaitsReply asked serial later count last → IsOrdered h → IsAt asked later count h.rows h.ended
  at_awaited h asked serial later count last e o = subst (λ (a : Awaits). Orderly a h.rows h.ended) e o

pub over_are_settled : (catalog : Catalog) (texts : List (List ℕ)) (received : List ℕ) (text : ℕ) → is_over text (heard catalog (asked_of catalog.schema texts) received).awaits ≡ true
    → is_settled (asked_of catalog.schema texts) text (heard catalog (asked_of catalog.schema texts) received).awaits ≡ true
over_are_settled catalog texts received text over = settled catalog (asked_of catalog.schema texts) (ascend_asked catalog.schema 1 texts) received text over

pub awaited_in_order : (catalog : Catalog) (texts : List (List ℕ)) (received : List ℕ) (one : NumberedAsk) (serial : ℕ) (later : List NumberedAsk) (count last : ℕ)
    → (heard catalog (asked_of catalog.schema texts) received).awaits ≡ AwaitsReply one serial later count last
    → IsAwaitedAsk catalog texts (heard catalog (asked_of catalog.schema texts) received) one later count
awaited_in_order catalog texts received one serial later count last e =
    let asks : List NumberedAsk = asked_of catalog.schema texts in
    let rows : List ℕ = (heard catalog asks received).rows in
    let width : ℕ = row_width catalog.schema one.ask in
    let at = at_awaited catalog asks (ascend_asked catalog.schema 1 texts) (heard catalog asks received) one serial later count last e (ordered catalog asks (ascend_asked catalog.schema 1 texts) received) in
    let many : length rows / row_width catalog.schema one.ask ≡ count = ap (λ (n : ℕ). n / row_width catalog.schema one.ask) at.size ∙ mul-div_cancel count (some_width catalog one) in
    record { before = at.before; stands = at.stands; in_order = at.in_order; size = at.size; counted = count_rows width (length rows / width) rows ∙ many }
  where
    some_width : (catalog : Catalog) (one : NumberedAsk) → 0 < row_width catalog.schema one.ask
    some_width catalog one = omega arith
