-- How many frames can come, whatever the other end sends.
use Rattle.std.proofs.Common.{◌≡◌, ◌≢◌, ℕ, zero, suc, ◌+◌, ◌-◌, ◌*◌, ◌/◌, ◌%◌, ◌≤◌, ◌<◌, ◌⊎◌, inl, inr, Bool, true, false, ◌&&◌, List, [], ◌∷◌, ◌++◌, length, map, take, drop, filter, sym, ◌∙◌, ap, subst, refl, arith, eqb-true, append-nil, append_assoc, length-append, Some, slice_get, nat_lt, nat_le, if◌then◌else◌}
use Rattle.std.specs.Prelude.{◌==◌, flat_map, bytes_eq}
use Rattle.std.proofs.lemmas.Grind.{flat_map-append}
use Rattle.std.proofs.lemmas.Bool.{ltb-true, ltb-false, leb-true}
use Rattle.std.proofs.lemmas.Bool.Decides.{nat_tests}
use Rattle.std.proofs.lemmas.List.{length-drop, length-take-le, take-append-drop, length-map, nil_from_length}
use Rattle.std.proofs.lemmas.List.Sums.{sum_by-cons}
use Rattle.std.proofs.lemmas.Slice.Eq.{bytes_eq-Decides}
use Rattle.std.proofs.Math.Nat.{div-add-mod}
use Rattle.ghost_model.specs.core.Schema.{Kind}
use Rattle.ghost_model.specs.core.Channel.{Catalog, Frame, HelloFrame, AskFrame, MoreFrame, ByeFrame, WelcomeFrame, RowsFrame, DoneFrame, SorryFrame, Journal}
use Rattle.ghost_model.specs.forms.Catalog.{catalog_bytes}
use Rattle.ghost_model.specs.forms.Frames.{frame_in, frame_of_parts, frame_bytes, kind_in, size_in, version_in, serial_in, payload_in, frame_version, serial_of}
use Rattle.ghost_model.specs.core.Asks.{NumberedAsk, RowCells, rows_in, row_width, kinds_of}
use Rattle.ghost_model.specs.core.Moves.{taken, sent}
use Rattle.ghost_model.specs.core.NextMove.{Awaits, AwaitsCatalog, AwaitsReply, AwaitsNothing, Ending, Answered, Refused, EndedAsk, ended, Heard, Verdict, Lacking, Complete, Invalid, are_cells, rows_fit, reply_size_fits, header_fits, payload_fits, verdict, after_frame, ask_next, still, of_later_texts, last_identifier, ended_by, heard_as, hear, hear_all, at_first, heard, IsProperWith}
use Rattle.ghost_model.specs.laws.ChannelLaws.{IsDue}
use Rattle.ghost_model.proofs.ChannelLemmas.Tests.{false_is_not, BothHold, both_hold}
use Rattle.ghost_model.proofs.ChannelLemmas.Sending.{sent_is_due}
use Rattle.ghost_model.proofs.SessionLemmas.Answered.{filter_joined}
use Rattle.ghost_laws.proofs.ScanLemmas.HeardRows.{replied_in, payload_whole, size_whole}
use Rattle.session_laws.specs.Bounds.{part_of, is_welcome, welcomes_in, reply_in, rows_asked, most_replied, IsShortSoFar, AreBounded, ChannelsAreBounded}
use Rattle.session_laws.proofs.Over.{whole_only, count_rows}

-- ---- what a frame that may come is

frame_of_kind : (part : List ℕ) (kind : ℕ) → kind_in part ≡ kind → frame_in part ≡ frame_of_parts kind (serial_in part) (payload_in part)
frame_of_kind part kind e = ap (λ (k : ℕ). frame_of_parts k (serial_in part) (payload_in part)) e

sorry_kind : (width kind size : ℕ) → kind ≢ 18 → kind ≢ 19 → reply_size_fits width kind size ≡ true → kind ≡ 20
sorry_kind width kind size a b t = grind (arith, nat_tests)

rows_size : (width kind size : ℕ) → kind ≡ 18 → reply_size_fits width kind size ≡ true → 0 < size
rows_size width kind size e t = grind (arith, nat_tests)

kinds_of_reply : (width kind size : ℕ) → reply_size_fits width kind size ≡ true → (kind ≡ 18) ⊎ ((kind ≡ 19) ⊎ (kind ≡ 20))
kinds_of_reply width kind size fits =
    (elim (kind == 18) as (λ v. (kind == 18) ≡ v → (kind ≡ 18) ⊎ ((kind ≡ 19) ⊎ (kind ≡ 20))) [
      | true ↦ λ e. inl (eqb-true kind 18 e)
      | false ↦ λ e. (elim (kind == 19) as (λ v. (kind == 19) ≡ v → (kind ≡ 18) ⊎ ((kind ≡ 19) ⊎ (kind ≡ 20))) [
        | true ↦ λ f. inr (inl (eqb-true kind 19 f))
        | false ↦ λ f. inr (inr (sorry_kind width kind size (no_equal kind 18 e) (no_equal kind 19 f) fits))
      ]) refl
    ]) refl
  where
    no_equal : (a b : ℕ) → (a == b) ≡ false → a ≢ b
    no_equal a b e same = grind (arith, nat_tests)

-- a frame of a reply has the serial of its header
serial_kept : (part : List ℕ) (serial width : ℕ) → (version_in part == frame_version && serial_in part == serial && reply_size_fits width (kind_in part) (size_in part)) ≡ true
    → serial_of (frame_in part) ≡ serial
serial_kept part serial width fits =
    let sized : BothHold (version_in part == frame_version && serial_in part == serial) (reply_size_fits width (kind_in part) (size_in part)) = both_hold _ _ fits in
    let placed : BothHold (version_in part == frame_version) (serial_in part == serial) = both_hold _ _ sized.one in
    let is : serial_in part ≡ serial = eqb-true (serial_in part) serial placed.other in
    elim (kinds_of_reply width (kind_in part) (size_in part) sized.other) [
      | inl e ↦ ap serial_of (frame_of_kind part 18 e) ∙ is
      | inr (inl e) ↦ ap serial_of (frame_of_kind part 19 e) ∙ is
      | inr (inr e) ↦ ap serial_of (frame_of_kind part 20 e) ∙ is
    ]

-- a part of the catalog has some bytes, and no more than are missing
record IsPiece (missing piece : List ℕ) : Type 0 where
  some : 0 < length piece
  few : length piece ≤ length missing
  front : missing ≡ piece ++ drop (length piece) missing

record Greets (kind size missing : ℕ) : Type 0 where
  kind_is : kind ≡ 17
  some : 2 ≤ size
  few : size ≤ missing + 1

greets : (version kind serial size missing : ℕ)
    → (version == frame_version && kind == 17 && serial == 0 && nat_le 2 size && nat_le size 2040 && nat_le size (missing + 1)) ≡ true → Greets kind size missing
greets version kind serial size missing e = record { kind_is = grind (arith, nat_tests); some = grind (arith, nat_tests); few = grind (arith, nat_tests) }

piece_of_greeting : (part : List ℕ) → nat_lt (length part) (8 + size_in part) ≡ false → (missing : List ℕ) (last : ℕ) (piece : List ℕ) → frame_in part ≡ WelcomeFrame last piece
    → (version_in part == frame_version && kind_in part == 17 && serial_in part == 0 && nat_le 2 (size_in part) && nat_le (size_in part) 2040 && nat_le (size_in part) (length missing + 1)) ≡ true
    → bytes_eq piece (take (length piece) missing) ≡ true → IsPiece missing piece
piece_of_greeting part enough missing last piece is header same =
    let g = greets (version_in part) (kind_in part) (serial_in part) (size_in part) (length missing) header in
    let carried : drop 1 (payload_in part) ≡ piece = sym (ap part_of (frame_of_kind part 17 g.kind_is)) ∙ ap part_of is in
    let size : length (payload_in part) ≡ size_in part = payload_length part (ltb-false (length part) (8 + size_in part) enough) in
    let long : length (drop 1 (payload_in part)) ≡ length (payload_in part) - 1 = length-drop 1 (payload_in part) in
    let here : length (drop 1 (payload_in part)) ≡ length piece = ap length carried in
    let one = g.some in
    let most = g.few in
    record {
      some = omega (arith, size, long, here, one);
      few = omega (arith, size, long, here, one, most);
      front = sym (take-append-drop (length piece) missing) ∙ ap (λ (bs : List ℕ). bs ++ drop (length piece) missing) (sym ((bytes_eq-Decides piece (take (length piece) missing)).0 same));
    }
  where
    payload_length : (part : List ℕ) → 8 + size_in part ≤ length part → length (payload_in part) ≡ size_in part
    payload_length part whole = length-take-le (size_in part) (drop 8 part) (omega (arith, length-drop 8 part, whole))

-- rows ascend, so the last identifier is as far above as there are rows
ascends : (rows last : ℕ) (kinds : List Kind) (some : List RowCells) → rows_fit rows last kinds some ≡ true → last ≤ rows
    → (last + length some ≤ last_identifier last some) × (last_identifier last some ≤ rows)
unfolding rows_fit
ascends rows last kinds [] fit low = (omega arith, low)
ascends rows last kinds (row ∷ later) fit low =
    let all : BothHold (nat_lt last row.identifier && nat_le row.identifier rows && are_cells kinds row.cells) (rows_fit rows row.identifier kinds later) = both_hold _ _ fit in
    let cells : BothHold (nat_lt last row.identifier && nat_le row.identifier rows) (are_cells kinds row.cells) = both_hold _ _ all.one in
    let bounds : BothHold (nat_lt last row.identifier) (nat_le row.identifier rows) = both_hold _ _ cells.one in
    let up = ltb-true last row.identifier bounds.one in
    let under = leb-true row.identifier rows bounds.other in
    let on = ascends rows row.identifier kinds later all.other under in
    (omega (arith, up, on.0), on.1)

some_of_product : (m q r n : ℕ) → m * q + r ≡ n → r ≡ 0 → 0 < n → 0 < q
some_of_product m zero r n e z h = absurd (omega (arith, e, z, h))
some_of_product m (suc q) r n e z h = omega arith

quotient_some : (size width : ℕ) → 0 < size → size % width ≡ 0 → 0 < size / width
quotient_some size width some whole = some_of_product width (size / width) (size % width) size (div-add-mod size width) whole some

-- ---- one more frame of a reply

other_reply : (n : ℕ) (frames : List Frame) (frame : Frame) → (serial_of frame == n) ≡ false → reply_in n (frames ++ frame ∷ []) ≡ reply_in n frames
other_reply n frames frame other =
    filter_joined (λ (f : Frame). serial_of f == n) frames (frame ∷ [])
    ∙ (ap (λ (b : Bool). reply_in n frames ++ (if b then frame ∷ [] else [])) other ∙ append-nil (reply_in n frames))

one_more_reply : (n : ℕ) (frames : List Frame) (frame : Frame) → length (reply_in n (frames ++ frame ∷ [])) ≤ length (reply_in n frames) + 1
one_more_reply n frames frame =
    let joined = ap length (filter_joined (λ (f : Frame). serial_of f == n) frames (frame ∷ [])) in
    let size = length-append (reply_in n frames) (filter (λ (f : Frame). serial_of f == n) (frame ∷ [])) in
    let few : length (filter (λ (f : Frame). serial_of f == n) (frame ∷ [])) ≤ 1 = one_at_most (serial_of frame == n) in
    omega (arith, joined, size, few)
  where
    one_at_most : (b : Bool) → length (if b then frame ∷ [] else []) ≤ 1
    one_at_most true = omega arith
    one_at_most false = omega arith

apart : (a b : ℕ) → a ≢ b → (a == b) ≡ false
apart a b e = grind (arith, nat_tests)

-- the last of some ends, or one of those before it
got_more : (ends : List EndedAsk) (last : EndedAsk) (place : ℕ) (end : EndedAsk) → slice_get (ends ++ last ∷ []) place ≡ Some end
    → ((place < length ends) × (slice_get ends place ≡ Some end)) ⊎ ((place ≡ length ends) × (last ≡ end))
got_more [] last zero end e = inr (refl, some_same last end e)
  where
    some_same : (a b : EndedAsk) → Some a ≡ Some b → a ≡ b
    some_same a b e = cc
got_more [] last (suc place) end e = let bad : ⊥ = cc in absurd bad
got_more (first ∷ ends) last zero end e = inl (omega arith, e)
got_more (first ∷ ends) last (suc place) end e = elim (got_more ends last place end e) [
  | inl is ↦ inl ((let less = is.0 in omega (arith, less)), is.1)
  | inr is ↦ inr (ap suc is.0, is.1)
]

got_within : (ends : List EndedAsk) (place : ℕ) (end : EndedAsk) → slice_get ends place ≡ Some end → place < length ends
got_within [] place end e = let bad : ⊥ = cc in absurd bad
got_within (first ∷ ends) zero end e = omega arith
got_within (first ∷ ends) (suc place) end e = (let less = got_within ends place end e in omega (arith, less))

module _ (catalog : Catalog) (asks : List NumberedAsk) where
  fewer_replied : (text : ℕ) (later : List NumberedAsk) → most_replied catalog (of_later_texts text later) ≤ most_replied catalog later
  fewer_replied text [] = omega arith
  fewer_replied text (one ∷ later) =
      let less = fewer_replied text later in
      let more = sum_by-cons (λ (n : ℕ). n) (rows_asked catalog one + 1) (map (λ (o : NumberedAsk). rows_asked catalog o + 1) later) in
      (elim (one.text == text) as (λ v. most_replied catalog (if v then of_later_texts text later else one ∷ later) ≤ most_replied catalog (one ∷ later)) [
        | true ↦ omega (arith, less, more)
        | false ↦ omega arith
      ])

  abbrev missing_of : Awaits → List ℕ
  missing_of (AwaitsCatalog bytes) = bytes
  missing_of (AwaitsReply one serial later count last) = []
  missing_of AwaitsNothing = []

  -- how many frames may still come at most
  abbrev left_for : Awaits → ℕ
  left_for (AwaitsCatalog bytes) = length bytes + most_replied catalog asks
  left_for (AwaitsReply one serial later count last) = (rows_asked catalog one - last) + 1 + most_replied catalog later
  left_for AwaitsNothing = 0

  record IsPlaced (one : NumberedAsk) (serial last : ℕ) (ends : List EndedAsk) (frames : List Frame) : Type 0 where
    numbered : serial ≡ length ends + 1
    short : length (reply_in serial frames) ≤ last
    low : last ≤ rows_asked catalog one
    fresh : (n : ℕ) → serial < n → reply_in n frames ≡ []

  abbrev Placed : Awaits → List EndedAsk → List Frame → Type 0
  Placed (AwaitsCatalog bytes) ends frames = (ends ≡ []) × ((n : ℕ) → 0 < n → reply_in n frames ≡ [])
  Placed (AwaitsReply one serial later count last) ends frames = IsPlaced one serial last ends frames
  Placed AwaitsNothing ends frames = Unit {0}

  record Few (awaits : Awaits) (frames : List Frame) (ends : List EndedAsk) : Type 0 where
    parts : catalog_bytes catalog ≡ flat_map part_of frames ++ missing_of awaits
    welcomes : length (welcomes_in frames) ≤ length (flat_map part_of frames)
    placed : Placed awaits ends frames
    replies : (place : ℕ) (end : EndedAsk) → slice_get ends place ≡ Some end → length (reply_in (suc place) frames) ≤ rows_asked catalog end.asked + 1
    room : length frames + left_for awaits ≤ length (catalog_bytes catalog) + most_replied catalog asks

  -- the next ask is awaited, whose reply has no frame yet
  next_missing : (serial : ℕ) (later : List NumberedAsk) → missing_of (ask_next catalog.schema serial later).awaits ≡ []
  next_missing serial [] = refl
  next_missing serial (one ∷ later) = refl

  next_left : (serial : ℕ) (later : List NumberedAsk) → left_for (ask_next catalog.schema serial later).awaits ≡ most_replied catalog later
  next_left serial [] = refl
  next_left serial (one ∷ later) =
      let more = sum_by-cons (λ (n : ℕ). n) (rows_asked catalog one + 1) (map (λ (o : NumberedAsk). rows_asked catalog o + 1) later) in
      omega (arith, more)

  next_placed : (serial : ℕ) (later : List NumberedAsk) (ends : List EndedAsk) (frames : List Frame) → serial ≡ length ends + 1 → ((n : ℕ) → serial ≤ n → reply_in n frames ≡ [])
      → Placed (ask_next catalog.schema serial later).awaits ends frames
  next_placed serial [] ends frames numbered fresh = tt
  next_placed serial (one ∷ later) ends frames numbered fresh =
      let none = ap length (fresh serial (omega arith)) in
      record { numbered = numbered; short = omega (arith, none); low = omega arith; fresh = λ n more. fresh n (omega (arith, more)) }

  -- ---- a part of the catalog came
  greeted : (last : ℕ) (piece missing : List ℕ) (after : Awaits) (frames : List Frame) (ends : List EndedAsk) → IsPiece missing piece → Few (AwaitsCatalog missing) frames ends
      → missing_of after ≡ drop (length piece) missing → left_for after + length piece ≤ length missing + most_replied catalog asks
      → (((n : ℕ) → 0 < n → reply_in n (frames ++ WelcomeFrame last piece ∷ []) ≡ []) → ends ≡ [] → Placed after ends (frames ++ WelcomeFrame last piece ∷ []))
      → Few after (frames ++ WelcomeFrame last piece ∷ []) (ends ++ [])
  greeted last piece missing after frames ends is few left room placed =
      let carried : flat_map part_of (frames ++ WelcomeFrame last piece ∷ []) ≡ flat_map part_of frames ++ piece =
      flat_map-append part_of frames (WelcomeFrame last piece ∷ []) ∙ ap (λ (bs : List ℕ). flat_map part_of frames ++ bs) (append-nil piece) in
      let fresh : (n : ℕ) → 0 < n → reply_in n (frames ++ WelcomeFrame last piece ∷ []) ≡ [] =
      λ n more. other_reply n frames (WelcomeFrame last piece) (apart 0 n (λ e. omega (arith, e, more))) ∙ few.placed.1 n more in
      let none : ends ≡ [] = few.placed.0 in
      let size = length-append (flat_map part_of frames) piece in
      let grown = ap length carried in
      let one_more = ap length (filter_joined is_welcome frames (WelcomeFrame last piece ∷ [])) in
      let count = length-append (welcomes_in frames) (WelcomeFrame last piece ∷ []) in
      let before = few.welcomes in
      let some = is.some in
      let room_before = few.room in
      let longer = length-append frames (WelcomeFrame last piece ∷ []) in
      subst (λ (es : List EndedAsk). Few after (frames ++ WelcomeFrame last piece ∷ []) es) (sym (append-nil ends)) (record {
        parts = few.parts
            ∙ (ap (λ (bs : List ℕ). flat_map part_of frames ++ bs) is.front
            ∙ (sym (append_assoc (flat_map part_of frames) piece (drop (length piece) missing))
            ∙ (ap (λ (bs : List ℕ). bs ++ drop (length piece) missing) (sym carried)
            ∙ ap (λ (bs : List ℕ). flat_map part_of (frames ++ WelcomeFrame last piece ∷ []) ++ bs) (sym left))));
        welcomes = omega (arith, size, grown, one_more, count, before, some);
        placed = placed fresh none;
        replies = λ place end e. (let bad = got_within [] place end (ap (λ (es : List EndedAsk). slice_get es place) (sym none) ∙ e) in absurd (omega (arith, bad)));
        room = omega (arith, room, room_before, longer, some);
      })

  -- ---- a frame of a reply came
  replied : (one : NumberedAsk) (serial : ℕ) (later : List NumberedAsk) (count last : ℕ) (frame : Frame) (frames : List Frame) (ends : List EndedAsk)
      → serial_of frame ≡ serial → part_of frame ≡ [] → is_welcome frame ≡ false → Few (AwaitsReply one serial later count last) frames ends
      → (after : Awaits) (more : List EndedAsk) → missing_of after ≡ [] → left_for after + 1 ≤ (rows_asked catalog one - last) + 1 + most_replied catalog later
      → Placed after more (frames ++ frame ∷ [])
      → ((place : ℕ) (end : EndedAsk) → slice_get more place ≡ Some end → length (reply_in (suc place) (frames ++ frame ∷ [])) ≤ rows_asked catalog end.asked + 1)
      → Few after (frames ++ frame ∷ []) more
  replied one serial later count last frame frames ends is none other few after more missing left placed replies =
      let carried : flat_map part_of (frames ++ frame ∷ []) ≡ flat_map part_of frames =
      flat_map-append part_of frames (frame ∷ []) ∙ (ap (λ (bs : List ℕ). flat_map part_of frames ++ (bs ++ [])) none ∙ append-nil (flat_map part_of frames)) in
      let same : welcomes_in (frames ++ frame ∷ []) ≡ welcomes_in frames =
      filter_joined is_welcome frames (frame ∷ []) ∙ (ap (λ (b : Bool). welcomes_in frames ++ (if b then frame ∷ [] else [])) other ∙ append-nil (welcomes_in frames)) in
      let sizes = ap length carried in
      let counts = ap length same in
      let before = few.welcomes in
      let room_before = few.room in
      let longer = length-append frames (frame ∷ []) in
      record {
        parts = few.parts ∙ (ap (λ (bs : List ℕ). bs ++ []) (sym carried) ∙ ap (λ (bs : List ℕ). flat_map part_of (frames ++ frame ∷ []) ++ bs) (sym missing));
        welcomes = omega (arith, sizes, counts, before);
        placed = placed;
        replies = replies;
        room = omega (arith, left, room_before, longer);
      }

  -- the replies that were ended before it have no more
  replies_before : (serial : ℕ) (frame : Frame) (frames : List Frame) (ends : List EndedAsk) → serial_of frame ≡ serial → serial ≡ length ends + 1
      → ((place : ℕ) (end : EndedAsk) → slice_get ends place ≡ Some end → length (reply_in (suc place) frames) ≤ rows_asked catalog end.asked + 1)
      → (place : ℕ) (end : EndedAsk) → slice_get ends place ≡ Some end → length (reply_in (suc place) (frames ++ frame ∷ [])) ≤ rows_asked catalog end.asked + 1
  replies_before serial frame frames ends is numbered before place end e =
      let within = got_within ends place end e in
      let same = ap length (other_reply (suc place) frames frame (apart (serial_of frame) (suc place) (λ f. omega (arith, f, is, numbered, within)))) in
      let few = before place end e in
      omega (arith, same, few)

  fresh_after : (serial : ℕ) (frame : Frame) (frames : List Frame) → serial_of frame ≡ serial → ((n : ℕ) → serial < n → reply_in n frames ≡ [])
      → (n : ℕ) → serial < n → reply_in n (frames ++ frame ∷ []) ≡ []
  fresh_after serial frame frames is fresh n more = other_reply n frames frame (apart (serial_of frame) n (λ e. omega (arith, e, is, more))) ∙ fresh n more

  -- an ask was ended
  ended_one : (one : NumberedAsk) (serial : ℕ) (later : List NumberedAsk) (count last : ℕ) (frame : Frame) (frames : List Frame) (ends : List EndedAsk) (ending : Ending) (left : List NumberedAsk)
      → serial_of frame ≡ serial → part_of frame ≡ [] → is_welcome frame ≡ false → Few (AwaitsReply one serial later count last) frames ends
      → most_replied catalog left ≤ most_replied catalog later
      → Few (ask_next catalog.schema (serial + 1) left).awaits (frames ++ frame ∷ []) (ends ++ ended one ending ∷ [])
  ended_one one serial later count last frame frames ends ending left is none other few fewer =
      let at = few.placed in
      let longer = length-append ends (ended one ending ∷ []) in
      let numbered = at.numbered in
      let room = next_left (serial + 1) left in
      let fresh = fresh_after serial frame frames is at.fresh in
      let own = one_more_reply serial frames frame in
      let short = at.short in
      let low = at.low in
      replied one serial later count last frame frames ends is none other few (ask_next catalog.schema (serial + 1) left).awaits (ends ++ ended one ending ∷ [])
      (next_missing (serial + 1) left) (omega (arith, room, fewer))
      (next_placed (serial + 1) left (ends ++ ended one ending ∷ []) (frames ++ frame ∷ []) (omega (arith, numbered, longer)) (λ n more. fresh n (omega (arith, more))))
      (λ place end e. elim (got_more ends (ended one ending) place end e) [
        | inl before ↦ replies_before serial frame frames ends is at.numbered few.replies place end before.1
        | inr now ↦
            (let here : suc place ≡ serial = (let p = now.0 in omega (arith, p, numbered)) in
            let asked = ap (λ (x : EndedAsk). rows_asked catalog x.asked) now.1 in
            let count_here = ap (λ (n : ℕ). length (reply_in n (frames ++ frame ∷ []))) here in
            omega (arith, asked, count_here, own, short, low))
      ])

  by_frame : (part : List ℕ) → nat_lt (length part) (8 + size_in part) ≡ false → (awaits : Awaits) (rows : List ℕ) (frames : List Frame) (ends : List EndedAsk) (frame : Frame)
      → frame_in part ≡ frame → header_fits catalog awaits part ≡ true → payload_fits catalog awaits frame ≡ true → Few awaits frames ends
      → Few (after_frame catalog asks awaits frame).awaits (frames ++ frame ∷ []) (ends ++ ended_by awaits rows frame)
  by_frame part enough (AwaitsCatalog bytes) rows frames ends (WelcomeFrame last piece) is header fits few =
      let fit : BothHold (bytes_eq piece (take (length piece) bytes)) (last == (if length piece == length bytes then 1 else 0)) = both_hold _ _ fits in
      let it : IsPiece bytes piece = piece_of_greeting part enough bytes last piece is header fit.one in
      let some = it.some in
      let most = it.few in
      let rest = length-drop (length piece) bytes in
      (elim (length piece == length bytes) as (λ v. (length piece == length bytes) ≡ v
      → Few (if v then ask_next catalog.schema 1 asks else still (AwaitsCatalog (drop (length piece) bytes))).awaits (frames ++ WelcomeFrame last piece ∷ []) (ends ++ [])) [
        | true ↦ λ e.
            (let all : length piece ≡ length bytes = eqb-true (length piece) (length bytes) e in
            let room = next_left 1 asks in
            greeted last piece bytes (ask_next catalog.schema 1 asks).awaits frames ends it few
            (next_missing 1 asks ∙ sym (nil_from_length (drop (length piece) bytes) (omega (arith, rest, all)))) (omega (arith, room, all))
            (λ fresh none. next_placed 1 asks ends (frames ++ WelcomeFrame last piece ∷ []) (let size = ap length none in omega (arith, size)) (λ n more. fresh n (omega (arith, more)))))
        | false ↦ λ e.
            greeted last piece bytes (AwaitsCatalog (drop (length piece) bytes)) frames ends it few refl (omega (arith, rest, most)) (λ fresh none. (none, fresh))
      ]) refl
  by_frame part enough (AwaitsCatalog bytes) rows frames ends (HelloFrame generation) is header fits o = absurd (false_is_not fits)
  by_frame part enough (AwaitsCatalog bytes) rows frames ends (AskFrame serial payload) is header fits o = absurd (false_is_not fits)
  by_frame part enough (AwaitsCatalog bytes) rows frames ends (MoreFrame serial) is header fits o = absurd (false_is_not fits)
  by_frame part enough (AwaitsCatalog bytes) rows frames ends ByeFrame is header fits o = absurd (false_is_not fits)
  by_frame part enough (AwaitsCatalog bytes) rows frames ends (RowsFrame serial payload) is header fits o = absurd (false_is_not fits)
  by_frame part enough (AwaitsCatalog bytes) rows frames ends (DoneFrame serial total) is header fits o = absurd (false_is_not fits)
  by_frame part enough (AwaitsCatalog bytes) rows frames ends (SorryFrame serial code) is header fits o = absurd (false_is_not fits)
  by_frame part enough (AwaitsReply one serial later count last) rows frames ends (RowsFrame number_of payload) is header fits few =
      let at = few.placed in
      let found = replied_in part number_of payload is in
      let sized = both_hold (version_in part == frame_version && serial_in part == serial) (reply_size_fits (row_width catalog.schema one.ask) (kind_in part) (size_in part)) header in
      let divides = size_whole catalog.schema one.ask part found.0 sized.other in
      let some_bytes = rows_size (row_width catalog.schema one.ask) (kind_in part) (size_in part) (eqb-true (kind_in part) 18 found.0) sized.other in
      let long : length payload ≡ size_in part = ap length (sym found.1) ∙ payload_whole catalog.schema one.ask part enough in
      let several : 0 < size_in part / row_width catalog.schema one.ask = quotient_some (size_in part) (row_width catalog.schema one.ask) some_bytes divides in
      let read : length (rows_in catalog.schema one.ask payload) ≡ size_in part / row_width catalog.schema one.ask =
      count_rows (row_width catalog.schema one.ask) (length payload / row_width catalog.schema one.ask) payload ∙ ap (λ (n : ℕ). n / row_width catalog.schema one.ask) long in
      let up = ascends (rows_asked catalog one) last (kinds_of catalog.schema one.ask) (rows_in catalog.schema one.ask payload) fits at.low in
      let above = up.0 in
      let under = up.1 in
      let own = one_more_reply serial frames (RowsFrame number_of payload) in
      let short = at.short in
      let of_it : number_of ≡ serial = ap serial_of (sym is) ∙ serial_kept part serial (row_width catalog.schema one.ask) header in
      subst (λ (es : List EndedAsk). Few (AwaitsReply one serial later (count + length (rows_in catalog.schema one.ask payload)) (last_identifier last (rows_in catalog.schema one.ask payload))) (frames ++ RowsFrame number_of payload ∷ []) es) (sym (append-nil ends))
      (replied one serial later count last (RowsFrame number_of payload) frames ends of_it refl refl few
      (AwaitsReply one serial later (count + length (rows_in catalog.schema one.ask payload)) (last_identifier last (rows_in catalog.schema one.ask payload))) ends refl
      (omega (arith, above, under, several, read))
      (record {
        numbered = at.numbered;
        short = omega (arith, own, short, above, several, read);
        low = under;
        fresh = fresh_after serial (RowsFrame number_of payload) frames of_it at.fresh;
      })
      (replies_before serial (RowsFrame number_of payload) frames ends of_it at.numbered few.replies))
  by_frame part enough (AwaitsReply one serial later count last) rows frames ends (DoneFrame number_of total) is header fits few =
      ended_one one serial later count last (DoneFrame number_of total) frames ends (Answered rows) later
      (ap serial_of (sym is) ∙ serial_kept part serial (row_width catalog.schema one.ask) header) refl refl few (omega arith)
  by_frame part enough (AwaitsReply one serial later count last) rows frames ends (SorryFrame number_of code) is header fits few =
      ended_one one serial later count last (SorryFrame number_of code) frames ends (Refused code) (of_later_texts one.text later)
      (ap serial_of (sym is) ∙ serial_kept part serial (row_width catalog.schema one.ask) header) refl refl few (fewer_replied one.text later)
  by_frame part enough (AwaitsReply one serial later count last) rows frames ends (HelloFrame generation) is header fits o = absurd (false_is_not fits)
  by_frame part enough (AwaitsReply one serial later count last) rows frames ends (AskFrame other payload) is header fits o = absurd (false_is_not fits)
  by_frame part enough (AwaitsReply one serial later count last) rows frames ends (MoreFrame other) is header fits o = absurd (false_is_not fits)
  by_frame part enough (AwaitsReply one serial later count last) rows frames ends ByeFrame is header fits o = absurd (false_is_not fits)
  by_frame part enough (AwaitsReply one serial later count last) rows frames ends (WelcomeFrame other piece) is header fits o = absurd (false_is_not fits)
  by_frame part enough AwaitsNothing rows frames ends frame is header fits o = absurd (false_is_not fits)

  abbrev IsFew : Heard → Type 0
  IsFew h = Few h.awaits h.frames h.ended

  by_verdict : (h : Heard) (part : List ℕ) (v : Verdict) → verdict catalog h.awaits part ≡ v → IsFew h → IsFew (heard_as catalog asks h part v)
  by_verdict h part (Lacking missing) e few = few
  by_verdict h part Invalid e few = few
  by_verdict h part Complete e few =
      let w = whole_only (nat_lt (length part) 8) (header_fits catalog h.awaits part) (nat_lt (length part) (8 + size_in part)) (payload_fits catalog h.awaits (frame_in part)) _ _ e in
      by_frame part w.1 h.awaits h.rows h.frames h.ended (frame_in part) refl w.0 w.2 few

  by_byte : (h : Heard) (byte : ℕ) → IsFew h → IsFew (hear catalog asks h byte)
  by_byte h byte few =
      (elim h.broken as (λ v. IsFew (if v then h else heard_as catalog asks h (h.part ++ byte ∷ []) (verdict catalog h.awaits (h.part ++ byte ∷ [])))) [
        | true ↦ few
        | false ↦ by_verdict h (h.part ++ byte ∷ []) (verdict catalog h.awaits (h.part ++ byte ∷ [])) refl few
      ])

  by_bytes : (h : Heard) (bytes : List ℕ) → IsFew h → IsFew (hear_all catalog asks h bytes)
  unfolding hear_all
  by_bytes h [] few = few
  by_bytes h (byte ∷ bytes) few = by_bytes (hear catalog asks h byte) bytes (by_byte h byte few)

  few_at_first : IsFew (at_first catalog)
  few_at_first = record {
    parts = refl;
    welcomes = omega arith;
    placed = (refl, λ n more. refl);
    replies = λ place end e. (let bad = got_within [] place end e in absurd (omega (arith, bad)));
    room = omega arith;
  }

  short_so_far : (awaits : Awaits) (frames : List Frame) (ends : List EndedAsk) → Few awaits frames ends → IsShortSoFar catalog awaits frames
  short_so_far (AwaitsCatalog bytes) frames ends few = tt
  short_so_far (AwaitsReply one serial later count last) frames ends few = (let short = few.placed.short in let low = few.placed.low in omega (arith, short, low))
  short_so_far AwaitsNothing frames ends few = tt

  bounded : (h : Heard) → IsFew h → AreBounded catalog asks h
  bounded h few =
      let size = ap length few.parts in
      let joined = length-append (flat_map part_of h.frames) (missing_of h.awaits) in
      let welcomes = few.welcomes in
      let room = few.room in
      record {
        missing = missing_of h.awaits;
        greeting = few.parts;
        welcomes = omega (arith, size, joined, welcomes);
        replies = few.replies;
        at_hand = short_so_far h.awaits h.frames h.ended few;
        all = omega (arith, room);
      }

  -- ---- what becomes due

  abbrev AreFewDue : Heard → Type 0
  AreFewDue h = length h.due ≤ length h.frames + 1

  next_due : (serial : ℕ) (later : List NumberedAsk) → length (ask_next catalog.schema serial later).due ≤ 1
  next_due serial [] = omega arith
  next_due serial (one ∷ later) = omega arith

  one_due : (awaits : Awaits) (frame : Frame) → length (after_frame catalog asks awaits frame).due ≤ 1
  one_due (AwaitsCatalog bytes) (WelcomeFrame last piece) =
      (elim (length piece == length bytes) as (λ v. length (if v then ask_next catalog.schema 1 asks else still (AwaitsCatalog (drop (length piece) bytes))).due ≤ 1) [
        | true ↦ next_due 1 asks
        | false ↦ omega arith
      ])
  one_due (AwaitsCatalog bytes) (HelloFrame generation) = omega arith
  one_due (AwaitsCatalog bytes) (AskFrame serial payload) = omega arith
  one_due (AwaitsCatalog bytes) (MoreFrame serial) = omega arith
  one_due (AwaitsCatalog bytes) ByeFrame = omega arith
  one_due (AwaitsCatalog bytes) (RowsFrame serial payload) = omega arith
  one_due (AwaitsCatalog bytes) (DoneFrame serial total) = omega arith
  one_due (AwaitsCatalog bytes) (SorryFrame serial code) = omega arith
  one_due (AwaitsReply one serial later count last) (RowsFrame number_of payload) = omega arith
  one_due (AwaitsReply one serial later count last) (DoneFrame number_of total) = next_due (serial + 1) later
  one_due (AwaitsReply one serial later count last) (SorryFrame number_of code) = next_due (serial + 1) (of_later_texts one.text later)
  one_due (AwaitsReply one serial later count last) (HelloFrame generation) = omega arith
  one_due (AwaitsReply one serial later count last) (AskFrame other payload) = omega arith
  one_due (AwaitsReply one serial later count last) (MoreFrame other) = omega arith
  one_due (AwaitsReply one serial later count last) ByeFrame = omega arith
  one_due (AwaitsReply one serial later count last) (WelcomeFrame other piece) = omega arith
  one_due AwaitsNothing frame = omega arith

  due_verdict : (h : Heard) (part : List ℕ) (v : Verdict) → AreFewDue h → AreFewDue (heard_as catalog asks h part v)
  due_verdict h part (Lacking missing) few = few
  due_verdict h part Invalid few = few
  due_verdict h part Complete few =
      let one = one_due h.awaits (frame_in part) in
      let dues = length-append h.due (after_frame catalog asks h.awaits (frame_in part)).due in
      let longer = length-append h.frames (frame_in part ∷ []) in
      omega (arith, few, one, dues, longer)

  due_byte : (h : Heard) (byte : ℕ) → AreFewDue h → AreFewDue (hear catalog asks h byte)
  due_byte h byte few =
      (elim h.broken as (λ v. AreFewDue (if v then h else heard_as catalog asks h (h.part ++ byte ∷ []) (verdict catalog h.awaits (h.part ++ byte ∷ [])))) [
        | true ↦ few
        | false ↦ due_verdict h (h.part ++ byte ∷ []) (verdict catalog h.awaits (h.part ++ byte ∷ [])) few
      ])

  due_bytes : (h : Heard) (bytes : List ℕ) → AreFewDue h → AreFewDue (hear_all catalog asks h bytes)
  unfolding hear_all
  due_bytes h [] few = few
  due_bytes h (byte ∷ bytes) few = due_bytes (hear catalog asks h byte) bytes (due_byte h byte few)

  few_due : (received : List ℕ) → AreFewDue (heard catalog asks received)
  few_due received = due_bytes (at_first catalog) received (omega arith)

  few_sent : (at : List ℕ) (journal : Journal) → IsProperWith catalog at asks journal → length (sent journal) ≤ length (heard catalog asks (taken journal)).frames + 1
  few_sent at journal proper =
      let is : IsDue catalog asks journal = sent_is_due catalog at asks journal proper in
      let sent_count = ap length is.sent_are in
      let spelled = length-map is.frames frame_bytes in
      let dues = ap length is.due_are in
      let joined = length-append is.frames is.rest in
      let few = few_due (taken journal) in
      omega (arith, sent_count, spelled, dues, joined, few)

pub all_bounded : ChannelsAreBounded
all_bounded = record {
  came = λ catalog asks received. bounded catalog asks (heard catalog asks received) (by_bytes catalog asks (at_first catalog) received (few_at_first catalog asks));
  sends = λ catalog at asks journal proper. few_sent catalog asks at journal proper;
}
