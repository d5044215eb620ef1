-- Whatever a host sends: the asks of a text that were ended are the first of its asks, in order, unless one was refused.
use Rattle.std.proofs.Common.{◌≡◌, ℕ, suc, ◌+◌, ◌⊎◌, inl, inr, Bool, true, false, ◌||◌, List, [], ◌∷◌, ◌++◌, length, map, drop, filter, sym, ◌∙◌, ap, subst, refl, arith, eqb-true, append-nil, append_assoc, length-append, Some, slice_get, Ok}
use Rattle.std.specs.Prelude.{◌==◌, if◌then◌else◌, Result}
use Rattle.std.specs.List.{list_any}
use Rattle.std.proofs.lemmas.List.{map-append, length-map}
use Rattle.ghost_model.specs.core.Query.{Query}
use Rattle.ghost_model.specs.refusals.QueryMeaning.{Refusal}
use Rattle.ghost_model.specs.readings.QueryReading.{reading}
use Rattle.ghost_model.specs.core.Channel.{Catalog, Frame, HelloFrame, AskFrame, MoreFrame, ByeFrame, WelcomeFrame, RowsFrame, DoneFrame, SorryFrame}
use Rattle.ghost_model.specs.forms.Frames.{frame_in}
use Rattle.ghost_model.specs.core.Asks.{NumberedAsk, asked, asks_of, asks_of_reading, asked_of}
use Rattle.ghost_model.specs.core.NextMove.{Awaits, AwaitsCatalog, AwaitsReply, AwaitsNothing, Ending, Answered, Refused, EndedAsk, ended, Heard, Verdict, Lacking, Complete, Invalid, verdict, after_frame, ask_next, still, of_later_texts, ended_by, heard_as, hear, hear_all, at_first, heard}
use Rattle.ghost_model.specs.core.Lines.{is_refused_by, was_refused}
use Rattle.ghost_model.proofs.ChannelLemmas.Tests.{false_is_not}
use Rattle.ghost_model.proofs.SessionLemmas.Answered.{filter_joined, of_text}
use Rattle.session_laws.specs.TextEnds.{not_ended}

any_left : {X : Type 0} (p : X → Bool) (xs ys : List X) → list_any p xs ≡ true → list_any p (xs ++ ys) ≡ true
any_left p [] ys h = absurd (false_is_not h)
any_left p (x ∷ xs) ys h =
    (elim (p x) as (λ v. (v || list_any p xs) ≡ true → (v || list_any p (xs ++ ys)) ≡ true) [ true ↦ λ e. refl | false ↦ λ e. any_left p xs ys e ]) h

any_right : {X : Type 0} (p : X → Bool) (xs ys : List X) → list_any p ys ≡ true → list_any p (xs ++ ys) ≡ true
any_right p [] ys h = h
any_right p (x ∷ xs) ys h =
    (elim (p x) as (λ v. (v || list_any p (xs ++ ys)) ≡ true) [ true ↦ refl | false ↦ any_right p xs ys h ])

abbrev who : EndedAsk → NumberedAsk
who end = end.asked

module _ (catalog : Catalog) (asks : List NumberedAsk) (number : ℕ) where
  abbrev is_this : NumberedAsk → Bool
  is_this one = one.text == number

  abbrev ends_this : EndedAsk → Bool
  ends_this end = end.asked.text == number

  abbrev InOrder : List NumberedAsk → List EndedAsk → Type 0
  InOrder rest ends =
      (was_refused (filter ends_this ends) ≡ true) ⊎ (filter is_this (map who ends) ++ filter is_this rest ≡ filter is_this asks)

  -- nothing was ended
  same_order : (rest other : List NumberedAsk) (ends : List EndedAsk) → rest ≡ other → InOrder other ends → InOrder rest (ends ++ [])
  same_order rest other ends same o =
      subst (λ (es : List EndedAsk). InOrder rest es) (sym (append-nil ends)) (subst (λ (xs : List NumberedAsk). InOrder xs ends) (sym same) o)

  -- an ask was ended
  order_on : (one : NumberedAsk) (later rest : List NumberedAsk) (ends : List EndedAsk) (ending : Ending) → filter is_this rest ≡ filter is_this later
      → InOrder (one ∷ later) ends → InOrder rest (ends ++ ended one ending ∷ [])
  order_on one later rest ends ending same (inl refused) =
      inl (ap (list_any (λ (end : EndedAsk). is_refused_by end.ending)) (filter_joined ends_this ends (ended one ending ∷ []))
      ∙ any_left (λ (end : EndedAsk). is_refused_by end.ending) (filter ends_this ends) (filter ends_this (ended one ending ∷ [])) refused)
  order_on one later rest ends ending same (inr e) =
      inr (ap (λ (xs : List NumberedAsk). filter is_this xs ++ filter is_this rest) (map-append who ends (ended one ending ∷ []))
      ∙ ap (λ (xs : List NumberedAsk). xs ++ filter is_this rest) (filter_joined is_this (map who ends) (one ∷ []))
      ∙ append_assoc (filter is_this (map who ends)) (filter is_this (one ∷ [])) (filter is_this rest)
      ∙ ap (λ (xs : List NumberedAsk). filter is_this (map who ends) ++ (filter is_this (one ∷ []) ++ xs)) same
      ∙ ap (λ (xs : List NumberedAsk). filter is_this (map who ends) ++ xs) (sym (filter_joined is_this (one ∷ []) later))
      ∙ e)

  -- a refused ask of this text
  order_refused : (one : NumberedAsk) (code : ℕ) (rest : List NumberedAsk) (ends : List EndedAsk) → is_this one ≡ true
      → InOrder rest (ends ++ ended one (Refused code) ∷ [])
  order_refused one code rest ends this =
      inl (ap (list_any (λ (end : EndedAsk). is_refused_by end.ending)) (filter_joined ends_this ends (ended one (Refused code) ∷ []))
      ∙ any_right (λ (end : EndedAsk). is_refused_by end.ending) (filter ends_this ends) (filter ends_this (ended one (Refused code) ∷ []))
      (ap (λ v. list_any (λ (end : EndedAsk). is_refused_by end.ending) (if v then ended one (Refused code) ∷ [] else [])) this))

  -- asks of another text that are left out
  left_out : (text : ℕ) → (text == number) ≡ false → (later : List NumberedAsk) → filter is_this (of_later_texts text later) ≡ filter is_this later
  left_out text other [] = refl
  left_out text other (one ∷ later) =
      (elim (one.text == text) as (λ v. (one.text == text) ≡ v → filter is_this (if v then of_later_texts text later else one ∷ later) ≡ filter is_this (one ∷ later)) [
        | true ↦ λ e.
            (let apart : (one.text == number) ≡ false = ap (λ n. n == number) (eqb-true one.text text e) ∙ other in
            left_out text other later ∙ ap (λ v. if v then one ∷ filter is_this later else filter is_this later) (sym apart))
        | false ↦ λ e. refl
      ]) refl

  on_with_rest : (serial : ℕ) (later : List NumberedAsk) → not_ended asks (ask_next catalog.schema serial later).awaits ≡ later
  on_with_rest serial [] = refl
  on_with_rest serial (one ∷ later) = refl

  by_frame : (awaits : Awaits) (rows : List ℕ) (ends : List EndedAsk) (frame : Frame) → InOrder (not_ended asks awaits) ends
      → InOrder (not_ended asks (after_frame catalog asks awaits frame).awaits) (ends ++ ended_by awaits rows frame)
  by_frame (AwaitsCatalog bytes) rows ends (WelcomeFrame last piece) o =
      (elim (length piece == length bytes) as (λ v. InOrder (not_ended asks (if v then ask_next catalog.schema 1 asks else still (AwaitsCatalog (drop (length piece) bytes))).awaits) (ends ++ [])) [
        | true ↦ same_order (not_ended asks (ask_next catalog.schema 1 asks).awaits) asks ends (on_with_rest 1 asks) o
        | false ↦ same_order asks asks ends refl o
      ])
  by_frame (AwaitsCatalog bytes) rows ends (HelloFrame generation) o = same_order asks asks ends refl o
  by_frame (AwaitsCatalog bytes) rows ends (AskFrame serial payload) o = same_order asks asks ends refl o
  by_frame (AwaitsCatalog bytes) rows ends (MoreFrame serial) o = same_order asks asks ends refl o
  by_frame (AwaitsCatalog bytes) rows ends ByeFrame o = same_order asks asks ends refl o
  by_frame (AwaitsCatalog bytes) rows ends (RowsFrame serial payload) o = same_order asks asks ends refl o
  by_frame (AwaitsCatalog bytes) rows ends (DoneFrame serial total) o = same_order asks asks ends refl o
  by_frame (AwaitsCatalog bytes) rows ends (SorryFrame serial code) o = same_order asks asks ends refl o
  by_frame (AwaitsReply one serial later count last) rows ends (DoneFrame _ total) o =
      order_on one later (not_ended asks (ask_next catalog.schema (serial + 1) later).awaits) ends (Answered rows) (ap (filter is_this) (on_with_rest (serial + 1) later)) o
  by_frame (AwaitsReply one serial later count last) rows ends (SorryFrame _ code) o =
      (elim (is_this one) as (λ v. is_this one ≡ v → InOrder (not_ended asks (ask_next catalog.schema (serial + 1) (of_later_texts one.text later)).awaits) (ends ++ ended one (Refused code) ∷ [])) [
        | true ↦ λ e. order_refused one code _ ends e
        | false ↦ λ e. order_on one later _ ends (Refused code) (ap (filter is_this) (on_with_rest (serial + 1) (of_later_texts one.text later)) ∙ left_out one.text e later) o
      ]) refl
  by_frame (AwaitsReply one serial later count last) rows ends (RowsFrame _ payload) o = same_order (one ∷ later) (one ∷ later) ends refl o
  by_frame (AwaitsReply one serial later count last) rows ends (HelloFrame generation) o = same_order (one ∷ later) (one ∷ later) ends refl o
  by_frame (AwaitsReply one serial later count last) rows ends (AskFrame _ payload) o = same_order (one ∷ later) (one ∷ later) ends refl o
  by_frame (AwaitsReply one serial later count last) rows ends (MoreFrame _) o = same_order (one ∷ later) (one ∷ later) ends refl o
  by_frame (AwaitsReply one serial later count last) rows ends ByeFrame o = same_order (one ∷ later) (one ∷ later) ends refl o
  by_frame (AwaitsReply one serial later count last) rows ends (WelcomeFrame _ piece) o = same_order (one ∷ later) (one ∷ later) ends refl o
  by_frame AwaitsNothing rows ends frame o = same_order [] [] ends refl o

  abbrev IsOrdered : Heard → Type 0
  IsOrdered h = InOrder (not_ended asks h.awaits) h.ended

  by_verdict : (h : Heard) (part : List ℕ) (v : Verdict) → IsOrdered h → IsOrdered (heard_as catalog asks h part v)
  by_verdict h part (Lacking missing) o = o
  by_verdict h part Invalid o = o
  by_verdict h part Complete o = by_frame h.awaits h.rows h.ended (frame_in part) o

  by_byte : (h : Heard) (byte : ℕ) → IsOrdered h → IsOrdered (hear catalog asks h byte)
  by_byte h byte o =
      (elim h.broken as (λ v. IsOrdered (if v then h else heard_as catalog asks h (h.part ++ byte ∷ []) (verdict catalog h.awaits (h.part ++ byte ∷ [])))) [
        | true ↦ o
        | false ↦ by_verdict h (h.part ++ byte ∷ []) (verdict catalog h.awaits (h.part ++ byte ∷ [])) o
      ])

  by_bytes : (h : Heard) (bytes : List ℕ) → IsOrdered h → IsOrdered (hear_all catalog asks h bytes)
  unfolding hear_all
  by_bytes h [] o = o
  by_bytes h (byte ∷ bytes) o = by_bytes (hear catalog asks h byte) bytes (by_byte h byte o)

  pub in_order : (received : List ℕ) → IsOrdered (heard catalog asks received)
  in_order received = by_bytes (at_first catalog) received (inr refl)

  -- as many asks of a text were ended as it has, where none of them is awaited
  filtered_length : (ends : List EndedAsk) → length (filter ends_this ends) ≡ length (filter is_this (map who ends))
  filtered_length [] = refl
  filtered_length (end ∷ ends) =
      let later = filtered_length ends in
      (elim (end.asked.text == number) as (λ v. length (if v then end ∷ filter ends_this ends else filter ends_this ends) ≡ length (if v then end.asked ∷ filter is_this (map who ends) else filter is_this (map who ends))) [
        | true ↦ ap suc later
        | false ↦ later
      ])

  -- some of the asks of a text are ended, and the others remain
  pub parts_of_text : (rest : List NumberedAsk) (ends : List EndedAsk) → InOrder rest ends → was_refused (filter ends_this ends) ≡ false → length (filter ends_this ends) + length (filter is_this rest) ≡ length (filter is_this asks)
  parts_of_text rest ends (inl refused) none = absurd (false_is_not (sym none ∙ refused))
  parts_of_text rest ends (inr e) none =
      let size = length-append (filter is_this (map who ends)) (filter is_this rest) in
      let both = ap length e in
      let same = filtered_length ends in
      omega (arith, size, both, same)

-- the asks of an accepted text
pub asks_of_text : (catalog : Catalog) (texts : List (List ℕ)) (place : ℕ) (written : List ℕ) (query : Query) → slice_get texts place ≡ Some written → reading catalog.schema written ≡ Ok query
    → length (filter (λ (one : NumberedAsk). one.text == suc place) (asked_of catalog.schema texts)) ≡ length (asks_of catalog.schema query)
asks_of_text catalog texts place written query here read =
    let next : 1 + place ≡ suc place = omega arith in
    ap length (subst (λ (n : ℕ). filter (λ (one : NumberedAsk). one.text == n) (asked_of catalog.schema texts) ≡ map (asked n) (asks_of_reading catalog.schema (reading catalog.schema written))) next (of_text catalog.schema 1 place texts written here)
    ∙ ap (λ (r : Result Query Refusal). map (asked (suc place)) (asks_of_reading catalog.schema r)) read)
    ∙ length-map (asks_of catalog.schema query) (asked (suc place))

-- none of some ends was a refusal, and so none of a part of them
pub none_of_part : (p : EndedAsk → Bool) (ends : List EndedAsk) → was_refused ends ≡ false → was_refused (filter p ends) ≡ false
none_of_part p [] e = refl
none_of_part p (end ∷ ends) e =
    (elim (is_refused_by end.ending) as (λ v. is_refused_by end.ending ≡ v → (v || was_refused ends) ≡ false → was_refused (filter p (end ∷ ends)) ≡ false) [
      | true ↦ λ is k. absurd (false_is_not (sym k))
      | false ↦ λ is k.
          (elim (p end) as (λ v. was_refused (if v then end ∷ filter p ends else filter p ends) ≡ false) [
            | true ↦ ap (λ b. b || was_refused (filter p ends)) is ∙ none_of_part p ends k
            | false ↦ none_of_part p ends k
          ])
    ]) refl e
