-- Whatever a host sends: the asks of a text that were ended are the first of its asks, in order, unless one was refused, and
-- the rows that came of each have one value for each asked column, of its kind.
use Rattle.std.proofs.Common.{◌≡◌, ℕ, zero, suc, ◌+◌, ◌%◌, ◌<◌, ◌⊎◌, inl, inr, Bool, true, false, not, ◌&&◌, ◌||◌, List, [], ◌∷◌, ◌++◌, length, map, drop, filter, sym, ◌∙◌, ap, subst, refl, arith, lit<, eqb-true, nat_lt, append-nil, append_assoc, length-append, None, if◌then◌else◌}
use Rattle.std.specs.Prelude.{◌==◌, filter_map, Result}
use Rattle.std.specs.List.{list_all, list_any, cons_option}
use Rattle.std.proofs.lemmas.List.{map-append, length-map, nil_from_length}
use Rattle.std.proofs.lemmas.List.Folds.{list_all-map}
use Rattle.ghost_model.specs.core.Schema.{Schema}
use Rattle.ghost_model.specs.core.Query.{Query}
use Rattle.ghost_model.specs.refusals.QueryMeaning.{Refusal}
use Rattle.ghost_model.specs.readings.QueryReading.{reading}
use Rattle.ghost_model.specs.core.Channel.{Catalog, Ask, Frame, HelloFrame, AskFrame, MoreFrame, ByeFrame, WelcomeFrame, RowsFrame, DoneFrame, SorryFrame, count_of}
use Rattle.ghost_model.specs.forms.Frames.{AreBytes, frame_in, size_in, kind_in, version_in, serial_in, frame_version}
use Rattle.ghost_model.specs.core.Asks.{NumberedAsk, asked, asks_of, asks_of_reading, asked_of, rows_in, row_width, kinds_of}
use Rattle.ghost_model.specs.core.Moves.{taken}
use Rattle.ghost_model.specs.core.NextMove.{Awaits, AwaitsCatalog, AwaitsReply, AwaitsNothing, Ending, Answered, Refused, EndedAsk, ended, Heard, Verdict, Lacking, Complete, Invalid, reply_size_fits, header_fits, payload_fits, verdict, after_frame, ask_next, still, of_later_texts, rows_after, ended_by, heard_as, hear, hear_all, at_first, heard}
use Rattle.ghost_model.specs.core.Split.{are_of_kinds}
use Rattle.ghost_model.specs.core.Replies as replies
use Rattle.ghost_model.specs.core.Replies.{replied_row, reply_of, reply_for}
use Rattle.ghost_model.specs.core.Lines.{is_refused_by, was_refused}
use Rattle.ghost_model.proofs.ChannelLemmas.Tests.{hold_both}
use Rattle.ghost_model.proofs.MeaningLemmas.OneRow.{both_true, neither_true}
use Rattle.ghost_model.proofs.SessionLemmas.Accepted.{Each}
use Rattle.ghost_model.proofs.SessionLemmas.Limits.{append_bytes}
use Rattle.ghost_model.proofs.SessionLemmas.Answered.{filter_joined, of_text}
use Rattle.ghost_laws.specs.Selected.{is_of_kinds, RepliesAreWhole}
use Rattle.ghost_laws.proofs.ScanLemmas.Cells.{bytes_taken, bytes_dropped}
use Rattle.ghost_laws.proofs.ScanLemmas.Rows.{filter_mapped}
use Rattle.ghost_laws.proofs.ScanLemmas.HeardRows.{is_good, AreRows, no_rows, all_rows, rows_more, replied_in, payload_whole, size_whole}

each_joined : {X : Type 0} (P : X → Type 0) (xs ys : List X) → Each P xs → Each P ys → Each P (xs ++ ys)
each_joined P [] ys e f = f
each_joined P (x ∷ xs) ys e f = (e.0, each_joined P xs ys e.1 f)

any_left : {X : Type 0} (p : X → Bool) (xs ys : List X) → list_any p xs ≡ true → list_any p (xs ++ ys) ≡ true
any_left p [] ys h = let bad : ⊥ = cc in absurd bad
any_left p (x ∷ xs) ys h =
    (elim (p x) as (λ v. (v || list_any p xs) ≡ true → (v || list_any p (xs ++ ys)) ≡ true) [ true ↦ λ e. refl | false ↦ λ e. any_left p xs ys e ]) h

any_right : {X : Type 0} (p : X → Bool) (xs ys : List X) → list_any p ys ≡ true → list_any p (xs ++ ys) ≡ true
any_right p [] ys h = h
any_right p (x ∷ xs) ys h =
    (elim (p x) as (λ v. (v || list_any p (xs ++ ys)) ≡ true) [ true ↦ refl | false ↦ any_right p xs ys h ])

-- a whole frame fits where it came
whole_only : (a b c d : Bool) (x y : ℕ) → (if a then Lacking x else if not b then Invalid else if c then Lacking y else if d then Complete else Invalid) ≡ Complete
    → (b ≡ true) × (c ≡ false) × (d ≡ true)
whole_only true b c d x y e = let bad : ⊥ = cc in absurd bad
whole_only false false c d x y e = let bad : ⊥ = cc in absurd bad
whole_only false true true d x y e = let bad : ⊥ = cc in absurd bad
whole_only false true false false x y e = let bad : ⊥ = cc in absurd bad
whole_only false true false true x y e = (refl, refl, refl)

abbrev who : EndedAsk → NumberedAsk
who end = end.asked

module _ (catalog : Catalog) (asks : List NumberedAsk) (number : ℕ) where
  abbrev schema : Schema
  schema = catalog.schema

  abbrev is_this : NumberedAsk → Bool
  is_this one = one.text == number

  abbrev ends_this : EndedAsk → Bool
  ends_this end = end.asked.text == number

  abbrev RowsSo : Awaits → List ℕ → Type 0
  RowsSo (AwaitsCatalog bytes) rows = Unit {0}
  RowsSo (AwaitsReply one serial later count last) rows = AreRows schema one.ask rows
  RowsSo AwaitsNothing rows = Unit {0}

  rows_none : (awaits : Awaits) → RowsSo awaits []
  rows_none (AwaitsCatalog bytes) = tt
  rows_none (AwaitsReply one serial later count last) = no_rows schema one.ask
  rows_none AwaitsNothing = tt

  abbrev EndingSo : Ask → Ending → Type 0
  EndingSo ask (Answered rows) = list_all (is_good schema ask) (rows_in schema ask rows) ≡ true
  EndingSo ask (Refused code) = Unit {0}

  abbrev EndedSo : EndedAsk → Type 0
  EndedSo end = EndingSo end.asked.ask end.ending

  -- the asks that were not ended
  abbrev remaining : Awaits → List NumberedAsk
  remaining (AwaitsCatalog bytes) = asks
  remaining (AwaitsReply one serial later count last) = one ∷ later
  remaining AwaitsNothing = []

  abbrev InOrder : List NumberedAsk → List EndedAsk → Type 0
  InOrder rest ends =
      (was_refused (filter ends_this ends) ≡ true) ⊎ (filter is_this (map who ends) ++ filter is_this rest ≡ filter is_this asks)

  record Orderly (awaits : Awaits) (rows : List ℕ) (ends : List EndedAsk) : Type 0 where
    rows_so : RowsSo awaits rows
    ended_so : Each EndedSo ends
    order : InOrder (remaining awaits) ends

  -- nothing was ended
  none_ended : (awaits after : Awaits) (rows more : List ℕ) (ends : List EndedAsk) → remaining after ≡ remaining awaits → RowsSo after more
      → Orderly awaits rows ends → Orderly after more (ends ++ [])
  none_ended awaits after rows more ends same so o =
      subst (λ (es : List EndedAsk). Orderly after more es) (sym (append-nil ends))
      (record { rows_so = so; ended_so = o.ended_so; order = subst (λ (rest : List NumberedAsk). InOrder rest ends) (sym same) o.order })

  -- an ask was ended
  order_on : (one : NumberedAsk) (later rest : List NumberedAsk) (ends : List EndedAsk) (ending : Ending) → filter is_this rest ≡ filter is_this later
      → InOrder (one ∷ later) ends → InOrder rest (ends ++ ended one ending ∷ [])
  order_on one later rest ends ending same (inl refused) =
      inl (ap (list_any (λ (end : EndedAsk). is_refused_by end.ending)) (filter_joined ends_this ends (ended one ending ∷ []))
      ∙ any_left (λ (end : EndedAsk). is_refused_by end.ending) (filter ends_this ends) (filter ends_this (ended one ending ∷ [])) refused)
  order_on one later rest ends ending same (inr e) =
      inr (ap (λ (xs : List NumberedAsk). filter is_this xs ++ filter is_this rest) (map-append who ends (ended one ending ∷ []))
      ∙ ap (λ (xs : List NumberedAsk). xs ++ filter is_this rest) (filter_joined is_this (map who ends) (one ∷ []))
      ∙ append_assoc (filter is_this (map who ends)) (filter is_this (one ∷ [])) (filter is_this rest)
      ∙ ap (λ (xs : List NumberedAsk). filter is_this (map who ends) ++ (filter is_this (one ∷ []) ++ xs)) same
      ∙ ap (λ (xs : List NumberedAsk). filter is_this (map who ends) ++ xs) (sym (filter_joined is_this (one ∷ []) later))
      ∙ e)

  -- a refused ask of this text
  order_refused : (one : NumberedAsk) (code : ℕ) (rest : List NumberedAsk) (ends : List EndedAsk) → is_this one ≡ true
      → InOrder rest (ends ++ ended one (Refused code) ∷ [])
  order_refused one code rest ends this =
      inl (ap (list_any (λ (end : EndedAsk). is_refused_by end.ending)) (filter_joined ends_this ends (ended one (Refused code) ∷ []))
      ∙ any_right (λ (end : EndedAsk). is_refused_by end.ending) (filter ends_this ends) (filter ends_this (ended one (Refused code) ∷ []))
      (ap (λ v. list_any (λ (end : EndedAsk). is_refused_by end.ending) (if v then ended one (Refused code) ∷ [] else [])) this))

  -- asks of another text that are left out
  left_out : (text : ℕ) → (text == number) ≡ false → (later : List NumberedAsk) → filter is_this (of_later_texts text later) ≡ filter is_this later
  left_out text other [] = refl
  left_out text other (one ∷ later) =
      (elim (one.text == text) as (λ v. (one.text == text) ≡ v → filter is_this (if v then of_later_texts text later else one ∷ later) ≡ filter is_this (one ∷ later)) [
        | true ↦ λ e.
            (let apart : (one.text == number) ≡ false = ap (λ n. n == number) (eqb-true one.text text e) ∙ other in
            left_out text other later ∙ ap (λ v. if v then one ∷ filter is_this later else filter is_this later) (sym apart))
        | false ↦ λ e. refl
      ]) refl

  on_with_rest : (serial : ℕ) (later : List NumberedAsk) → remaining (ask_next schema serial later).awaits ≡ later
  on_with_rest serial [] = refl
  on_with_rest serial (one ∷ later) = refl

  by_frame : (part : List ℕ) → AreBytes part → nat_lt (length part) (8 + size_in part) ≡ false → (awaits : Awaits) (rows : List ℕ) (ends : List EndedAsk) (frame : Frame)
      → frame_in part ≡ frame → header_fits catalog awaits part ≡ true → payload_fits catalog awaits frame ≡ true → Orderly awaits rows ends
      → Orderly (after_frame catalog asks awaits frame).awaits (rows_after rows frame) (ends ++ ended_by awaits rows frame)
  by_frame part h enough (AwaitsCatalog bytes) rows ends (WelcomeFrame last piece) is header fits o =
      (elim (length piece == length bytes) as (λ v. Orderly (if v then ask_next schema 1 asks else still (AwaitsCatalog (drop (length piece) bytes))).awaits [] (ends ++ [])) [
        | true ↦ none_ended (AwaitsCatalog bytes) (ask_next schema 1 asks).awaits rows [] ends (on_with_rest 1 asks) (rows_none _) o
        | false ↦ none_ended (AwaitsCatalog bytes) (AwaitsCatalog (drop (length piece) bytes)) rows [] ends refl tt o
      ])
  by_frame part h enough (AwaitsCatalog bytes) rows ends (HelloFrame generation) is header fits o = let bad : ⊥ = cc in absurd bad
  by_frame part h enough (AwaitsCatalog bytes) rows ends (AskFrame serial payload) is header fits o = let bad : ⊥ = cc in absurd bad
  by_frame part h enough (AwaitsCatalog bytes) rows ends (MoreFrame serial) is header fits o = let bad : ⊥ = cc in absurd bad
  by_frame part h enough (AwaitsCatalog bytes) rows ends ByeFrame is header fits o = let bad : ⊥ = cc in absurd bad
  by_frame part h enough (AwaitsCatalog bytes) rows ends (RowsFrame serial payload) is header fits o = let bad : ⊥ = cc in absurd bad
  by_frame part h enough (AwaitsCatalog bytes) rows ends (DoneFrame serial total) is header fits o = let bad : ⊥ = cc in absurd bad
  by_frame part h enough (AwaitsCatalog bytes) rows ends (SorryFrame serial code) is header fits o = let bad : ⊥ = cc in absurd bad
  by_frame part h enough (AwaitsReply one serial later count last) rows ends (RowsFrame number_of payload) is header fits o =
      let found = replied_in part number_of payload is in
      let sized = both_true (version_in part == frame_version && serial_in part == serial) (reply_size_fits (row_width schema one.ask) (kind_in part) (size_in part)) header in
      let divides = size_whole schema one.ask part found.0 sized.1 in
      let long : length payload ≡ size_in part = ap length (sym found.1) ∙ payload_whole schema one.ask part enough in
      let whole : length payload % row_width schema one.ask ≡ 0 = ap (λ n. n % row_width schema one.ask) long ∙ divides in
      let bytes : AreBytes payload = subst (λ xs. AreBytes xs) found.1 (bytes_taken (size_in part) (drop 8 part) (bytes_dropped 8 part h)) in
      none_ended (AwaitsReply one serial later count last) (AwaitsReply one serial later _ _) rows (rows ++ payload) ends refl
      (rows_more schema one.ask rows payload o.rows_so bytes whole (count_of catalog one.ask.table) last fits) o
  by_frame part h enough (AwaitsReply one serial later count last) rows ends (DoneFrame number_of total) is header fits o = record {
    rows_so = rows_none (ask_next schema (serial + 1) later).awaits;
    ended_so = each_joined EndedSo ends (ended one (Answered rows) ∷ []) o.ended_so (all_rows schema one.ask rows o.rows_so, tt);
    order = order_on one later (remaining (ask_next schema (serial + 1) later).awaits) ends (Answered rows) (ap (filter is_this) (on_with_rest (serial + 1) later)) o.order;
  }
  by_frame part h enough (AwaitsReply one serial later count last) rows ends (SorryFrame number_of code) is header fits o = record {
    rows_so = rows_none (ask_next schema (serial + 1) (of_later_texts one.text later)).awaits;
    ended_so = each_joined EndedSo ends (ended one (Refused code) ∷ []) o.ended_so (tt, tt);
    order = (elim (is_this one) as (λ v. is_this one ≡ v → InOrder (remaining (ask_next schema (serial + 1) (of_later_texts one.text later)).awaits) (ends ++ ended one (Refused code) ∷ [])) [
      | true ↦ λ e. order_refused one code _ ends e
      | false ↦ λ e. order_on one later _ ends (Refused code) (ap (filter is_this) (on_with_rest (serial + 1) (of_later_texts one.text later)) ∙ left_out one.text e later) o.order
    ]) refl;
  }
  by_frame part h enough (AwaitsReply one serial later count last) rows ends (HelloFrame generation) is header fits o = let bad : ⊥ = cc in absurd bad
  by_frame part h enough (AwaitsReply one serial later count last) rows ends (AskFrame other payload) is header fits o = let bad : ⊥ = cc in absurd bad
  by_frame part h enough (AwaitsReply one serial later count last) rows ends (MoreFrame other) is header fits o = let bad : ⊥ = cc in absurd bad
  by_frame part h enough (AwaitsReply one serial later count last) rows ends ByeFrame is header fits o = let bad : ⊥ = cc in absurd bad
  by_frame part h enough (AwaitsReply one serial later count last) rows ends (WelcomeFrame other piece) is header fits o = let bad : ⊥ = cc in absurd bad
  by_frame part h enough AwaitsNothing rows ends frame is header fits o = let bad : ⊥ = cc in absurd bad

  record IsHeard (h : Heard) : Type 0 where
    part : AreBytes h.part
    so : Orderly h.awaits h.rows h.ended

  by_verdict : (h : Heard) (part : List ℕ) → AreBytes part → (v : Verdict) → verdict catalog h.awaits part ≡ v → IsHeard h → IsHeard (heard_as catalog asks h part v)
  by_verdict h part bytes (Lacking missing) e is = record { part = bytes; so = is.so }
  by_verdict h part bytes Invalid e is = record { part = bytes; so = is.so }
  by_verdict h part bytes Complete e is =
      let w = whole_only (nat_lt (length part) 8) (header_fits catalog h.awaits part) (nat_lt (length part) (8 + size_in part)) (payload_fits catalog h.awaits (frame_in part)) _ _ e in
      record { part = λ i. lit< tt; so = by_frame part bytes w.1 h.awaits h.rows h.ended (frame_in part) refl w.0 w.2 is.so }

  byte_alone : (byte : ℕ) → byte < 256 → AreBytes (byte ∷ [])
  byte_alone byte h zero = h
  byte_alone byte h (suc i) = lit< tt

  heard_step : (h : Heard) (byte : ℕ) → byte < 256 → IsHeard h → IsHeard (hear catalog asks h byte)
  heard_step h byte small is =
      (elim h.broken as (λ v. IsHeard (if v then h else heard_as catalog asks h (h.part ++ byte ∷ []) (verdict catalog h.awaits (h.part ++ byte ∷ [])))) [
        | true ↦ is
        | false ↦ by_verdict h (h.part ++ byte ∷ []) (append_bytes h.part (byte ∷ []) is.part (byte_alone byte small)) (verdict catalog h.awaits (h.part ++ byte ∷ [])) refl is
      ])

  heard_all : (h : Heard) (bytes : List ℕ) → AreBytes bytes → IsHeard h → IsHeard (hear_all catalog asks h bytes)
  unfolding hear_all
  heard_all h [] small is = is
  heard_all h (byte ∷ bytes) small is = heard_all (hear catalog asks h byte) bytes (λ i. small (suc i)) (heard_step h byte (small 0) is)

  all_heard : (received : List ℕ) → AreBytes received → IsHeard (heard catalog asks received)
  all_heard received small =
      heard_all (at_first catalog) received small
      (record { part = λ i. lit< tt; so = record { rows_so = tt; ended_so = tt; order = inr refl } })

  -- the replies
  asks_by_ending : (one : NumberedAsk) (ending : Ending) (later : List replies.Reply) (rest : List Ask) → is_refused_by ending ≡ false
      → map (λ (reply : replies.Reply). reply.ask) later ≡ rest
      → map (λ (reply : replies.Reply). reply.ask) (cons_option (reply_of schema one ending) later) ≡ one.ask ∷ rest
  asks_by_ending one (Answered rows) later rest e same = ap (λ (xs : List Ask). one.ask ∷ xs) same
  asks_by_ending one (Refused code) later rest e same = let bad : ⊥ = cc in absurd bad

  replies_asks : (ends : List EndedAsk) → was_refused (filter ends_this ends) ≡ false
      → map (λ (reply : replies.Reply). reply.ask) (filter_map (reply_for schema number) ends) ≡ map (λ (end : EndedAsk). end.asked.ask) (filter ends_this ends)
  replies_asks [] h = refl
  replies_asks (end ∷ ends) h =
      (elim (end.asked.text == number) as (λ v. was_refused (if v then end ∷ filter ends_this ends else filter ends_this ends) ≡ false
      → map (λ (reply : replies.Reply). reply.ask) (cons_option (if v then reply_of schema end.asked end.ending else None) (filter_map (reply_for schema number) ends))
      ≡ map (λ (one : EndedAsk). one.asked.ask) (if v then end ∷ filter ends_this ends else filter ends_this ends)) [
        | true ↦ λ e. (let both = neither_true (is_refused_by end.ending) (was_refused (filter ends_this ends)) e in
            asks_by_ending end.asked end.ending (filter_map (reply_for schema number) ends) _ both.0 (replies_asks ends both.1))
        | false ↦ λ e. replies_asks ends e
      ]) h

  kinds_by_ending : (one : NumberedAsk) (ending : Ending) (later : List replies.Reply) → EndingSo one.ask ending → list_all (is_of_kinds schema) later ≡ true
      → list_all (is_of_kinds schema) (cons_option (reply_of schema one ending) later) ≡ true
  kinds_by_ending one (Answered rows) later so rest =
      hold_both _ _
      (list_all-map (λ row. are_of_kinds (kinds_of schema one.ask) row.values) (replied_row schema one.ask) (rows_in schema one.ask rows) ∙ so) rest
  kinds_by_ending one (Refused code) later so rest = rest

  replies_kinds : (ends : List EndedAsk) → Each EndedSo ends → list_all (is_of_kinds schema) (filter_map (reply_for schema number) ends) ≡ true
  replies_kinds [] each = refl
  replies_kinds (end ∷ ends) each =
      (elim (end.asked.text == number) as (λ v. list_all (is_of_kinds schema) (cons_option (if v then reply_of schema end.asked end.ending else None) (filter_map (reply_for schema number) ends)) ≡ true) [
        | true ↦ kinds_by_ending end.asked end.ending (filter_map (reply_for schema number) ends) each.0 (replies_kinds ends each.1)
        | false ↦ replies_kinds ends each.1
      ])

front_whole : {X : Type 0} (xs rest ys : List X) → xs ++ rest ≡ ys → length xs ≡ length ys → xs ≡ ys
front_whole xs rest ys joined same =
    let size = length-append xs rest in
    let all : length (xs ++ rest) ≡ length ys = ap length joined in
    let none : rest ≡ [] = nil_from_length rest (omega (arith, size, all, same)) in
    sym (append-nil xs) ∙ ap (λ r. xs ++ r) (sym none) ∙ joined

done_facts : (refused : Bool) (n m : ℕ) → (if refused then false else n == m) ≡ true → (refused ≡ false) × (n ≡ m)
done_facts true n m e = let bad : ⊥ = cc in absurd bad
done_facts false n m e = (refl, eqb-true n m e)

asks_back : (number : ℕ) (asks : List Ask) → map (λ (one : NumberedAsk). one.ask) (map (asked number) asks) ≡ asks
asks_back number [] = refl
asks_back number (ask ∷ asks) = ap (λ (xs : List Ask). ask ∷ xs) (asks_back number asks)

mapped_on : (ends : List EndedAsk) → map (λ (end : EndedAsk). end.asked.ask) ends ≡ map (λ (one : NumberedAsk). one.ask) (map who ends)
mapped_on [] = refl
mapped_on (end ∷ ends) = ap (λ (xs : List Ask). end.asked.ask ∷ xs) (mapped_on ends)

pub replies_are_whole : RepliesAreWhole
replies_are_whole catalog texts journal place written query small here read done =
    let asks : List NumberedAsk = asked_of catalog.schema texts in
    let number : ℕ = suc place in
    let h : IsHeard catalog asks number (heard catalog asks (taken journal)) = all_heard catalog asks number (taken journal) small in
    let ends : List EndedAsk = (heard catalog asks (taken journal)).ended in
    let mine : List EndedAsk = filter (λ (end : EndedAsk). end.asked.text == number) ends in
    let facts = done_facts (was_refused mine) (length mine) (length (asks_of catalog.schema query)) done in
    let next : 1 + place ≡ suc place = omega arith in
    let of_this : filter (λ (one : NumberedAsk). one.text == suc place) asks ≡ map (asked (suc place)) (asks_of catalog.schema query) =
    subst (λ (n : ℕ). filter (λ (one : NumberedAsk). one.text == n) asks ≡ map (asked n) (asks_of_reading catalog.schema (reading catalog.schema written))) next (of_text catalog.schema 1 place texts written here)
    ∙ ap (λ (r : Result Query Refusal). map (asked (suc place)) (asks_of_reading catalog.schema r)) read in
    let ended_are : map who mine ≡ map (asked number) (asks_of catalog.schema query) = (elim h.so.order [
      | inl refused ↦ (let bad = sym facts.0 ∙ refused in let worse : ⊥ = cc in absurd worse)
      | inr e ↦
          (let ours : filter (λ (one : NumberedAsk). one.text == number) (map who ends) ≡ map who mine = filter_mapped who (λ (one : NumberedAsk). one.text == number) ends in
          let one_length = length-map mine who in
          let other_length = length-map (asks_of catalog.schema query) (asked number) in
          let same = facts.1 in
          let rest = filter (λ (one : NumberedAsk). one.text == number) (remaining catalog asks number (heard catalog asks (taken journal)).awaits) in
          front_whole (map who mine) rest (map (asked number) (asks_of catalog.schema query))
          (ap (λ (xs : List NumberedAsk). xs ++ rest) (sym ours) ∙ e ∙ of_this) (omega (arith, one_length, other_length, same)))
    ]) in
    record {
      asks = replies_asks catalog asks number ends facts.0 ∙ mapped_on mine
          ∙ ap (map (λ (one : NumberedAsk). one.ask)) ended_are ∙ asks_back number (asks_of catalog.schema query);
      kinds = replies_kinds catalog asks number ends h.so.ended_so;
    }
