-- What holds after each received byte, whatever a host sends: rows that came ascend, the asks that were ended and those to
-- come are some of all asks, and they come in the order of their texts.
use Rattle.std.proofs.Common.{◌≡◌, ℕ, ◌+◌, ◌%◌, ◌≤◌, Bool, true, false, not, ◌&&◌, List, [], ◌∷◌, ◌++◌, length, map, drop, sum_by, sym, ◌∙◌, ap, subst, refl, arith, nat_lt, append-nil, if◌then◌else◌}
use Rattle.std.specs.Prelude.{◌==◌}
use Rattle.std.proofs.lemmas.List.{map-append}
use Rattle.std.proofs.lemmas.List.Sums.{sum_by-cons, sum_by_push}
use Rattle.ghost_model.specs.core.Schema.{Schema}
use Rattle.ghost_model.specs.core.Channel.{Catalog, Frame, HelloFrame, AskFrame, MoreFrame, ByeFrame, WelcomeFrame, RowsFrame, DoneFrame, SorryFrame}
use Rattle.ghost_model.specs.forms.Frames.{frame_in, size_in, kind_in, version_in, serial_in, frame_version}
use Rattle.ghost_model.specs.core.Asks.{NumberedAsk, row_width}
use Rattle.ghost_model.specs.core.NextMove.{Awaits, AwaitsCatalog, AwaitsReply, AwaitsNothing, Ending, Answered, Refused, EndedAsk, ended, Heard, Verdict, Lacking, Complete, Invalid, reply_size_fits, header_fits, payload_fits, verdict, after_frame, ask_next, still, of_later_texts, rows_after, ended_by, heard_as, hear, hear_all}
use Rattle.ghost_model.proofs.ChannelLemmas.Tests.{false_is_not, both_hold}
use Rattle.ghost_model.proofs.SessionLemmas.Accepted.{Each}
use Rattle.ghost_laws.proofs.ScanLemmas.HeardRows.{replied_in, payload_whole, size_whole}
use Rattle.key_session.proofs.Rows.{Came, none_came, more_came}

pub each_joined : {X : Type 0} (P : X → Type 0) (xs ys : List X) → Each P xs → Each P ys → Each P (xs ++ ys)
each_joined P [] ys e f = f
each_joined P (x ∷ xs) ys e f = (e.0, each_joined P xs ys e.1 f)

pub each_so : {X : Type 0} (P Q : X → Type 0) → ((x : X) → P x → Q x) → (xs : List X) → Each P xs → Each Q xs
each_so P Q so [] e = tt
each_so P Q so (x ∷ xs) e = (so x e.0, each_so P Q so xs e.1)

abbrev pub who : EndedAsk → NumberedAsk
who end = end.asked

-- from a text on, in order
abbrev pub Rises : ℕ → List NumberedAsk → Type 0
Rises from [] = Unit {0}
Rises from (one ∷ later) = (from ≤ one.text) × Rises one.text later

pub rises_lower : (a b : ℕ) (some : List NumberedAsk) → a ≤ b → Rises b some → Rises a some
rises_lower a b [] h r = tt
rises_lower a b (one ∷ later) h r = let first = r.0 in (omega (arith, h, first), r.1)

rises_on : (text from : ℕ) (later : List NumberedAsk) → Rises from later → Rises from (of_later_texts text later)
rises_on text from [] r = tt
rises_on text from (one ∷ later) r = go (rises_on text from later (rises_lower from one.text later r.0 r.1)) (one.text == text)
  where
    go : Rises from (of_later_texts text later) → (b : Bool) → Rises from (if b then of_later_texts text later else one ∷ later)
    go on true = on
    go on false = r

each_on : (P : NumberedAsk → Type 0) (text : ℕ) (later : List NumberedAsk) → Each P later → Each P (of_later_texts text later)
each_on P text [] e = tt
each_on P text (one ∷ later) e = go (each_on P text later e.1) (one.text == text)
  where
    go : Each P (of_later_texts text later) → (b : Bool) → Each P (if b then of_later_texts text later else one ∷ later)
    go on true = on
    go on false = e

sum_on : (w : NumberedAsk → ℕ) (text : ℕ) (later : List NumberedAsk) → sum_by w (of_later_texts text later) ≤ sum_by w later
sum_on w text [] = omega arith
sum_on w text (one ∷ later) = go (sum_on w text later) (one.text == text)
  where
    go : sum_by w (of_later_texts text later) ≤ sum_by w later
        → (b : Bool) → sum_by w (if b then of_later_texts text later else one ∷ later) ≤ sum_by w (one ∷ later)
    go fewer true = let all = sum_by-cons w one later in omega (arith, all, fewer)
    go fewer false = omega arith

-- a whole frame fits where it came
record Fit (header short payload : Bool) : Type 0 where
  header_so : header ≡ true
  long : short ≡ false
  payload_so : payload ≡ true

whole_fits : (a b c d : Bool) (x y : ℕ) → (if a then Lacking x else if not b then Invalid else if c then Lacking y else if d then Complete else Invalid) ≡ Complete
    → Fit b c d
whole_fits true b c d x y e = let bad : ⊥ = cc in absurd bad
whole_fits false false c d x y e = let bad : ⊥ = cc in absurd bad
whole_fits false true true d x y e = let bad : ⊥ = cc in absurd bad
whole_fits false true false false x y e = let bad : ⊥ = cc in absurd bad
whole_fits false true false true x y e = record { header_so = refl; long = refl; payload_so = refl }

module _ (catalog : Catalog) (asks : List NumberedAsk) (low top : ℕ) where
  abbrev schema : Schema
  schema = catalog.schema

  abbrev pub RowsSo : Awaits → List ℕ → Type 0
  RowsSo (AwaitsCatalog bytes) rows = Unit {0}
  RowsSo (AwaitsReply one serial later count last) rows = Came catalog one.ask rows last
  RowsSo AwaitsNothing rows = Unit {0}

  -- the asks that were not ended
  abbrev pub remaining : Awaits → List NumberedAsk
  remaining (AwaitsCatalog bytes) = asks
  remaining (AwaitsReply one serial later count last) = one ∷ later
  remaining AwaitsNothing = []

  pub record Orderly (awaits : Awaits) (rows : List ℕ) (ends : List EndedAsk) : Type 0 where
    pub rows_so : RowsSo awaits rows
    -- asks that were ended and those to come weigh no more than all asks, whatever an ask weighs
    pub weigh : (w : NumberedAsk → ℕ) → sum_by w (map who ends) + sum_by w (remaining awaits) ≤ sum_by w asks
    -- the texts of those ended go up to this one, and those of the others begin with it
    pub at : ℕ
    pub reached : low ≤ at
    pub behind : Each (λ (end : EndedAsk). end.asked.text ≤ at) ends
    pub ahead : Rises at (remaining awaits)
    pub within : Each (λ (one : NumberedAsk). one.text ≤ top) (remaining awaits)

  on_with_rest : (serial : ℕ) (later : List NumberedAsk) → remaining (ask_next schema serial later).awaits ≡ later
  on_with_rest serial [] = refl
  on_with_rest serial (one ∷ later) = refl

  on_with_rows : (serial : ℕ) (later : List NumberedAsk) → RowsSo (ask_next schema serial later).awaits []
  on_with_rows serial [] = tt
  on_with_rows serial (one ∷ later) = none_came catalog one.ask

  -- nothing was ended
  none_ended : (awaits after : Awaits) (rows more : List ℕ) (ends : List EndedAsk) → remaining after ≡ remaining awaits → RowsSo after more
      → Orderly awaits rows ends → Orderly after more (ends ++ [])
  none_ended awaits after rows more ends same so o =
      subst (λ (es : List EndedAsk). Orderly after more es) (sym (append-nil ends))
      (record {
        rows_so = so;
        weigh = λ w. subst (λ (rest : List NumberedAsk). sum_by w (map who ends) + sum_by w rest ≤ sum_by w asks) (sym same) (o.weigh w);
        at = o.at;
        reached = o.reached;
        behind = o.behind;
        ahead = subst (λ (rest : List NumberedAsk). Rises o.at rest) (sym same) o.ahead;
        within = subst (λ (rest : List NumberedAsk). Each (λ (one : NumberedAsk). one.text ≤ top) rest) (sym same) o.within;
      })

  -- an ask was ended, and these are left of the later ones
  record IsLeft (later rest : List NumberedAsk) : Type 0 where
    fewer : (w : NumberedAsk → ℕ) → sum_by w rest ≤ sum_by w later
    rises : (from : ℕ) → Rises from later → Rises from rest
    within : Each (λ (one : NumberedAsk). one.text ≤ top) later → Each (λ (one : NumberedAsk). one.text ≤ top) rest

  one_ended : (one : NumberedAsk) (serial : ℕ) (later rest : List NumberedAsk) (count last : ℕ) (rows : List ℕ) (ends : List EndedAsk) (ending : Ending)
      → IsLeft later rest → Orderly (AwaitsReply one serial later count last) rows ends
      → Orderly (ask_next schema (serial + 1) rest).awaits [] (ends ++ ended one ending ∷ [])
  one_ended one serial later rest count last rows ends ending left o =
      let next = on_with_rest (serial + 1) rest in
      let reached = o.reached in
      let first = o.ahead.0 in
      record {
        rows_so = on_with_rows (serial + 1) rest;
        weigh = λ w.
            (let before = o.weigh w in
            let split = sum_by-cons w one later in
            let joined : sum_by w (map who (ends ++ ended one ending ∷ [])) ≡ sum_by w (map who ends) + w one = ap (sum_by w) (map-append who ends (ended one ending ∷ [])) ∙ sum_by_push w (map who ends) one in
            let fewer = left.fewer w in
            subst (λ (some : List NumberedAsk). sum_by w (map who (ends ++ ended one ending ∷ [])) + sum_by w some ≤ sum_by w asks) (sym next)
            (omega (arith, before, split, joined, fewer)));
        at = one.text;
        reached = omega (arith, reached, first);
        behind = each_joined (λ (end : EndedAsk). end.asked.text ≤ one.text) ends (ended one ending ∷ [])
            (each_so (λ (end : EndedAsk). end.asked.text ≤ o.at) (λ (end : EndedAsk). end.asked.text ≤ one.text) (λ end h. omega (arith, h, first)) ends o.behind)
            (omega arith, tt);
        ahead = subst (λ (some : List NumberedAsk). Rises one.text some) (sym next) (left.rises one.text o.ahead.1);
        within = subst (λ (some : List NumberedAsk). Each (λ (one : NumberedAsk). one.text ≤ top) some) (sym next) (left.within o.within.1);
      }

  all_left : (later : List NumberedAsk) → IsLeft later later
  all_left later = record { fewer = λ w. omega arith; rises = λ from r. r; within = λ e. e }

  some_left : (text : ℕ) (later : List NumberedAsk) → IsLeft later (of_later_texts text later)
  some_left text later = record {
    fewer = λ w. sum_on w text later;
    rises = λ from r. rises_on text from later r;
    within = λ e. each_on (λ (one : NumberedAsk). one.text ≤ top) text later e;
  }

  by_frame : (part : List ℕ) → nat_lt (length part) (8 + size_in part) ≡ false → (awaits : Awaits) (rows : List ℕ) (ends : List EndedAsk) (frame : Frame)
      → frame_in part ≡ frame → header_fits catalog awaits part ≡ true → payload_fits catalog awaits frame ≡ true → Orderly awaits rows ends
      → Orderly (after_frame catalog asks awaits frame).awaits (rows_after rows frame) (ends ++ ended_by awaits rows frame)
  by_frame part enough (AwaitsCatalog bytes) rows ends (WelcomeFrame last piece) is header fits o =
      (elim (length piece == length bytes) as (λ v. Orderly (if v then ask_next schema 1 asks else still (AwaitsCatalog (drop (length piece) bytes))).awaits [] (ends ++ [])) [
        | true ↦ none_ended (AwaitsCatalog bytes) (ask_next schema 1 asks).awaits rows [] ends (on_with_rest 1 asks) (on_with_rows 1 asks) o
        | false ↦ none_ended (AwaitsCatalog bytes) (AwaitsCatalog (drop (length piece) bytes)) rows [] ends refl tt o
      ])
  by_frame part enough (AwaitsCatalog bytes) rows ends (HelloFrame generation) is header fits o = absurd (false_is_not fits)
  by_frame part enough (AwaitsCatalog bytes) rows ends (AskFrame serial payload) is header fits o = absurd (false_is_not fits)
  by_frame part enough (AwaitsCatalog bytes) rows ends (MoreFrame serial) is header fits o = absurd (false_is_not fits)
  by_frame part enough (AwaitsCatalog bytes) rows ends ByeFrame is header fits o = absurd (false_is_not fits)
  by_frame part enough (AwaitsCatalog bytes) rows ends (RowsFrame serial payload) is header fits o = absurd (false_is_not fits)
  by_frame part enough (AwaitsCatalog bytes) rows ends (DoneFrame serial total) is header fits o = absurd (false_is_not fits)
  by_frame part enough (AwaitsCatalog bytes) rows ends (SorryFrame serial code) is header fits o = absurd (false_is_not fits)
  by_frame part enough (AwaitsReply one serial later count last) rows ends (RowsFrame number payload) is header fits o =
      let found = replied_in part number payload is in
      let sized = both_hold (version_in part == frame_version && serial_in part == serial) (reply_size_fits (row_width schema one.ask) (kind_in part) (size_in part)) header in
      let divides = size_whole schema one.ask part found.0 sized.other in
      let long : length payload ≡ size_in part = ap length (sym found.1) ∙ payload_whole schema one.ask part enough in
      let whole : length payload % row_width schema one.ask ≡ 0 = ap (λ n. n % row_width schema one.ask) long ∙ divides in
      none_ended (AwaitsReply one serial later count last) (AwaitsReply one serial later _ _) rows (rows ++ payload) ends refl
      (more_came catalog one.ask rows payload last o.rows_so whole fits) o
  by_frame part enough (AwaitsReply one serial later count last) rows ends (DoneFrame number total) is header fits o =
      one_ended one serial later later count last rows ends (Answered rows) (all_left later) o
  by_frame part enough (AwaitsReply one serial later count last) rows ends (SorryFrame number code) is header fits o =
      one_ended one serial later (of_later_texts one.text later) count last rows ends (Refused code) (some_left one.text later) o
  by_frame part enough (AwaitsReply one serial later count last) rows ends (HelloFrame generation) is header fits o = absurd (false_is_not fits)
  by_frame part enough (AwaitsReply one serial later count last) rows ends (AskFrame other payload) is header fits o = absurd (false_is_not fits)
  by_frame part enough (AwaitsReply one serial later count last) rows ends (MoreFrame other) is header fits o = absurd (false_is_not fits)
  by_frame part enough (AwaitsReply one serial later count last) rows ends ByeFrame is header fits o = absurd (false_is_not fits)
  by_frame part enough (AwaitsReply one serial later count last) rows ends (WelcomeFrame other piece) is header fits o = absurd (false_is_not fits)
  by_frame part enough AwaitsNothing rows ends frame is header fits o = absurd (false_is_not fits)

  abbrev pub IsHeard : Heard → Type 0
  IsHeard h = Orderly h.awaits h.rows h.ended

  by_verdict : (h : Heard) (part : List ℕ) (v : Verdict) → verdict catalog h.awaits part ≡ v → IsHeard h → IsHeard (heard_as catalog asks h part v)
  by_verdict h part (Lacking missing) e o = o
  by_verdict h part Invalid e o = o
  by_verdict h part Complete e o =
      let fit = whole_fits (nat_lt (length part) 8) (header_fits catalog h.awaits part) (nat_lt (length part) (8 + size_in part)) (payload_fits catalog h.awaits (frame_in part)) _ _ e in
      by_frame part fit.long h.awaits h.rows h.ended (frame_in part) refl fit.header_so fit.payload_so o

  by_byte : (h : Heard) (byte : ℕ) → IsHeard h → IsHeard (hear catalog asks h byte)
  by_byte h byte o =
      (elim h.broken as (λ v. IsHeard (if v then h else heard_as catalog asks h (h.part ++ byte ∷ []) (verdict catalog h.awaits (h.part ++ byte ∷ [])))) [
        | true ↦ o
        | false ↦ by_verdict h (h.part ++ byte ∷ []) (verdict catalog h.awaits (h.part ++ byte ∷ [])) refl o
      ])

  pub by_bytes : (h : Heard) (bytes : List ℕ) → IsHeard h → IsHeard (hear_all catalog asks h bytes)
  unfolding hear_all
  by_bytes h [] o = o
  by_bytes h (byte ∷ bytes) o = by_bytes (hear catalog asks h byte) bytes (by_byte h byte o)
