-- That the whole reply to an ask is heard whole.
use Rattle.std.proofs.Common.{◌≡◌, ℕ, zero, suc, ◌+◌, ◌*◌, ◌/◌, ◌%◌, ◌<◌, ◌≤◌, ◌^◌, Bool, true, false, ◌&&◌, List, [], ◌∷◌, ◌++◌, length, map, sym, ◌∙◌, ap, subst, refl, arith, length-append, append-nil, append_assoc, lit<, w32}
use Rattle.std.specs.Prelude.{◌==◌, nat_lt, nat_le, not, flat_map, All}
use Rattle.std.specs.Int.{to_be_bytes}
use Rattle.std.proofs.lemmas.Grind.{flat_map-append}
use Rattle.std.proofs.Math.Nat.{suc-mul, mul-mod_left, mod-lt}
use Rattle.std.proofs.lemmas.Bool.Decides.{nat_tests}
use Rattle.std.proofs.lemmas.Bool.{eq-eqb, lt-ltb, le-leb}
use Rattle.std.proofs.lemmas.Nat.{from_be_bytes-to_be_bytes_4}
use Rattle.ghost_model.specs.core.Channel.{Catalog, Frame, DoneFrame, MoreFrame, count_of}
use Rattle.ghost_model.specs.core.Asks.{NumberedAsk, RowCells, row_bytes, row_width, kinds_of}
use Rattle.ghost_model.specs.laws.ChannelLaws.{IsReplyRow, IsAwaited}
use Rattle.ghost_model.specs.forms.Frames.{IsFrame, AreBytes, frame_bytes, size_in, payload_of, most_payload}
use Rattle.ghost_model.specs.core.NextMove.{Awaits, AwaitsReply, Heard, EndedAsk, Answered, hear_all, ask_next, last_identifier, rows_fit}
use Rattle.ghost_model.specs.core.Host.{rows_frame}
use Rattle.ghost_model.specs.laws.HostLaws.{rows_of_groups, reply_frames, IsGroup, AreGroups, IsHeardWhole}
use Rattle.ghost_model.proofs.ChannelLemmas.{size_is_read}
use Rattle.ghost_model.proofs.ChannelLemmas.Hearing.{awaited_is_heard}
use Rattle.ghost_model.proofs.ChannelLemmas.Sending.{heard_more}
use Rattle.ghost_model.proofs.ChannelLemmas.Rows.{rows_length, spelled_rows_are_read}
use Rattle.ghost_model.proofs.ChannelLemmas.Tests.{hold_both}

not_zero : (n : ℕ) → 0 < n → not (n == 0) ≡ true
not_zero n h = grind (arith, nat_tests)

pub number_bytes : (n : ℕ) → AreBytes (to_be_bytes w32 n)
number_bytes n zero = mod-lt (n / 16777216) (lit< tt)
number_bytes n (suc zero) = mod-lt (n / 65536) (lit< tt)
number_bytes n (suc (suc zero)) = mod-lt (n / 256) (lit< tt)
number_bytes n (suc (suc (suc zero))) = mod-lt n (lit< tt)
number_bytes n (suc (suc (suc (suc i)))) = lit< tt

pub size_read : (frame : Frame) → IsFrame frame → size_in (frame_bytes frame) ≡ length (payload_of frame)
size_read frame h = ap size_in (sym (append-nil (frame_bytes frame))) ∙ size_is_read frame [] h

module _ (catalog : Catalog) (asks : List NumberedAsk) (asked : NumberedAsk) (serial : ℕ) (later : List NumberedAsk) (some : 0 < serial) (small : serial < 2 ^ 32) where
  abbrev width : ℕ
  width = row_width catalog.schema asked.ask

  -- at a reply, after so many rows
  abbrev at_rows : (count last : ℕ) (frames due : List Frame) (rows : List ℕ) (ended : List EndedAsk) → Heard
  at_rows count last frames due rows ended = record {
    awaits = AwaitsReply asked serial later count last;
    part = [];
    frames = frames;
    due = due;
    rows = rows;
    ended = ended;
    broken = false;
  }

  pub done_fits : (total : ℕ) → total < 2 ^ 32 → IsFrame (DoneFrame serial total)
  done_fits total h = record {
    serial = not_zero serial some;
    size = refl;
    payload = refl;
    bytes = number_bytes total;
    serial_fits = small;
    number_fits = h;
  }

  pub done_awaited : (count last : ℕ) → count < 2 ^ 32 → IsAwaited catalog (AwaitsReply asked serial later count last) (DoneFrame serial count)
  done_awaited count last h = record {
    fits = done_fits count h;
    header = hold_both _ _ (hold_both _ _ refl (eq-eqb _ serial (from_be_bytes-to_be_bytes_4 serial small))) refl;
    payload = eq-eqb count count refl;
  }

  group_length : (group : List RowCells) → All (IsReplyRow catalog.schema asked.ask) group → length (flat_map row_bytes group) ≡ length group * width
  group_length group all = rows_length catalog.schema asked.ask group all

  at_least_width : (group : List RowCells) → 0 < length group → width ≤ length group * width
  at_least_width [] h = absurd (omega (arith, h))
  at_least_width (row ∷ group) h = omega (arith, suc-mul (length group) width)

  rows_frame_fits : (last : ℕ) (group : List RowCells) → IsGroup catalog asked.ask last group → IsFrame (rows_frame serial group)
  rows_frame_fits last group g =
      let size : length (flat_map row_bytes group) ≡ length group * width = group_length group g.widths in
      let more : width ≤ length group * width = at_least_width group g.some in
      record {
        serial = not_zero serial some;
        size = hold_both _ _ (le-leb 4 (length (flat_map row_bytes group)) (omega (arith, size, more))) (le-leb (length (flat_map row_bytes group)) 2040 (omega (arith, size, g.fits)));
        payload = refl;
        bytes = g.bytes;
        serial_fits = small;
        number_fits = lit< tt;
      }

  rows_size_fits : (size : ℕ) → 0 < size → size % width ≡ 0 → size ≤ 2040 → (nat_lt 0 size && size % width == 0 && nat_le size most_payload) ≡ true
  rows_size_fits size a b c = hold_both _ _ (hold_both _ _ (lt-ltb 0 size a) (eq-eqb (size % width) 0 b)) (le-leb size 2040 c)

  pub rows_awaited : (count last : ℕ) (group : List RowCells) → IsGroup catalog asked.ask last group → IsAwaited catalog (AwaitsReply asked serial later count last) (rows_frame serial group)
  rows_awaited count last group g =
      let fits : IsFrame (rows_frame serial group) = rows_frame_fits last group g in
      let size : size_in (frame_bytes (rows_frame serial group)) ≡ length group * width = size_read (rows_frame serial group) fits ∙ group_length group g.widths in
      let more : width ≤ length group * width = at_least_width group g.some in
      record {
        fits = fits;
        header = hold_both _ _
            (hold_both _ _ refl (eq-eqb _ serial (from_be_bytes-to_be_bytes_4 serial small)))
            (rows_size_fits (size_in (frame_bytes (rows_frame serial group))) (omega (arith, size, more))
            (ap (λ (n : ℕ). n % width) size ∙ mul-mod_left (length group) width) (omega (arith, size, g.fits)));
        payload =
            ap (λ (rows : List RowCells). rows_fit (count_of catalog asked.ask.table) last (kinds_of catalog.schema asked.ask) rows) (spelled_rows_are_read catalog.schema asked.ask group g.widths)
            ∙ g.ascends;
      }

  -- one ROWS frame more
  rows_heard :
      (count last : ℕ) (frames due : List Frame) (rows : List ℕ) (ended : List EndedAsk) (group : List RowCells) → IsGroup catalog asked.ask last group
      → hear_all catalog asks (at_rows count last frames due rows ended) (frame_bytes (rows_frame serial group))
      ≡ at_rows (count + length group) (last_identifier last group) (frames ++ rows_frame serial group ∷ []) (due ++ MoreFrame serial ∷ []) (rows ++ flat_map row_bytes group) ended
  rows_heard count last frames due rows ended group g =
      awaited_is_heard catalog asks (at_rows count last frames due rows ended) (rows_frame serial group) refl refl (rows_awaited count last group g)
      ∙ (ap (λ (read : List RowCells). at_rows (count + length read) (last_identifier last read) (frames ++ rows_frame serial group ∷ []) (due ++ MoreFrame serial ∷ []) (rows ++ flat_map row_bytes group) (ended ++ []))
      (spelled_rows_are_read catalog.schema asked.ask group g.widths)
      ∙ ap (λ (e : List EndedAsk). at_rows (count + length group) (last_identifier last group) (frames ++ rows_frame serial group ∷ []) (due ++ MoreFrame serial ∷ []) (rows ++ flat_map row_bytes group) e)
      (append-nil ended))

  record IsEnd (ended : List EndedAsk) (given : List ℕ) (after : Heard) : Type 0 where
    awaits : after.awaits ≡ (ask_next catalog.schema (serial + 1) later).awaits
    part : after.part ≡ []
    valid : after.broken ≡ false
    rows : after.rows ≡ []
    ends : after.ended ≡ ended ++ record { asked = asked; ending = Answered given } ∷ []

  done_heard : (count last : ℕ) (frames due : List Frame) (rows : List ℕ) (ended : List EndedAsk) → count < 2 ^ 32 → IsEnd ended rows (hear_all catalog asks (at_rows count last frames due rows ended) (frame_bytes (DoneFrame serial count)))
  done_heard count last frames due rows ended h =
      subst (λ (after : Heard). IsEnd ended rows after)
      (sym (awaited_is_heard catalog asks (at_rows count last frames due rows ended) (DoneFrame serial count) refl refl (done_awaited count last h)))
      (record { awaits = refl; part = refl; valid = refl; rows = refl; ends = refl })

  reply_heard :
      (groups : List (List RowCells)) (count last total : ℕ) (frames due : List Frame) (rows : List ℕ) (ended : List EndedAsk)
      → AreGroups catalog asked.ask last groups → total ≡ count + length (rows_of_groups groups) → total < 2 ^ 32
      → IsEnd ended (rows ++ flat_map row_bytes (rows_of_groups groups))
      (hear_all catalog asks (at_rows count last frames due rows ended) (flat_map frame_bytes (map (rows_frame serial) groups ++ DoneFrame serial total ∷ [])))
  reply_heard [] count last total frames due rows ended all e h =
      let same : count ≡ total = omega (arith, e) in
      subst (λ (n : ℕ). IsEnd ended (rows ++ []) (hear_all catalog asks (at_rows count last frames due rows ended) (frame_bytes (DoneFrame serial n) ++ []))) same
      (subst (λ (bytes : List ℕ). IsEnd ended (rows ++ []) (hear_all catalog asks (at_rows count last frames due rows ended) bytes)) (sym (append-nil (frame_bytes (DoneFrame serial count))))
      (subst (λ (given : List ℕ). IsEnd ended given (hear_all catalog asks (at_rows count last frames due rows ended) (frame_bytes (DoneFrame serial count)))) (sym (append-nil rows))
      (done_heard count last frames due rows ended (omega (arith, same, h)))))
  reply_heard (group ∷ groups) count last total frames due rows ended all e h =
      let rest : List ℕ = flat_map frame_bytes (map (rows_frame serial) groups ++ DoneFrame serial total ∷ []) in
      let lengths : length (rows_of_groups (group ∷ groups)) ≡ length group + length (rows_of_groups groups) = length-append group (rows_of_groups groups) in
      let given : (rows ++ flat_map row_bytes group) ++ flat_map row_bytes (rows_of_groups groups) ≡ rows ++ flat_map row_bytes (rows_of_groups (group ∷ groups)) =
      append_assoc rows (flat_map row_bytes group) (flat_map row_bytes (rows_of_groups groups)) ∙ ap (λ (xs : List ℕ). rows ++ xs) (sym (flat_map-append row_bytes group (rows_of_groups groups))) in
      let heard : hear_all catalog asks (at_rows count last frames due rows ended) (frame_bytes (rows_frame serial group) ++ rest)
      ≡ hear_all catalog asks (at_rows (count + length group) (last_identifier last group) (frames ++ rows_frame serial group ∷ []) (due ++ MoreFrame serial ∷ []) (rows ++ flat_map row_bytes group) ended) rest =
      heard_more catalog [] asks (at_rows count last frames due rows ended) (frame_bytes (rows_frame serial group)) rest
      ∙ ap (λ (x : Heard). hear_all catalog asks x rest) (rows_heard count last frames due rows ended group all.0) in
      subst (λ (after : Heard). IsEnd ended (rows ++ flat_map row_bytes (rows_of_groups (group ∷ groups))) after) (sym heard)
      (subst (λ (xs : List ℕ). IsEnd ended xs (hear_all catalog asks (at_rows (count + length group) (last_identifier last group) (frames ++ rows_frame serial group ∷ []) (due ++ MoreFrame serial ∷ []) (rows ++ flat_map row_bytes group) ended) rest)) given
      (reply_heard groups (count + length group) (last_identifier last group) total (frames ++ rows_frame serial group ∷ []) (due ++ MoreFrame serial ∷ []) (rows ++ flat_map row_bytes group) ended all.1
      (omega (arith, e, lengths)) h))

pub replies_are_heard :
    (catalog : Catalog) (asks : List NumberedAsk) (asked : NumberedAsk) (serial : ℕ) (later : List NumberedAsk) (groups : List (List RowCells)) (before : Heard)
    → before.awaits ≡ AwaitsReply asked serial later 0 0 → before.part ≡ [] → before.rows ≡ [] → before.broken ≡ false
    → 0 < serial → serial < 2 ^ 32 → length (rows_of_groups groups) < 2 ^ 32 → AreGroups catalog asked.ask 0 groups
    → IsHeardWhole catalog asked serial later groups before (hear_all catalog asks before (flat_map frame_bytes (reply_frames serial groups)))
replies_are_heard catalog asks asked serial later groups before a p r b some small fits all =
    let again : Awaits → List ℕ → List ℕ → Bool → Heard = λ awaits part rows broken. record before { awaits = awaits; part = part; rows = rows; broken = broken } in
    let bytes : List ℕ = flat_map frame_bytes (reply_frames serial groups) in
    let start : before ≡ again (AwaitsReply asked serial later 0 0) [] [] false =
    ap (λ (x : Awaits). again x before.part before.rows before.broken) a
    ∙ (ap (λ (x : List ℕ). again (AwaitsReply asked serial later 0 0) x before.rows before.broken) p
    ∙ (ap (λ (x : List ℕ). again (AwaitsReply asked serial later 0 0) [] x before.broken) r
    ∙ ap (λ (x : Bool). again (AwaitsReply asked serial later 0 0) [] [] x) b)) in
    let end = reply_heard catalog asks asked serial later some small groups 0 0 (length (rows_of_groups groups)) before.frames before.due [] before.ended all (omega arith) fits in
    subst (λ (x : Heard). IsHeardWhole catalog asked serial later groups before (hear_all catalog asks x bytes)) (sym start)
    (record { awaits = end.awaits; part = end.part; valid = end.valid; rows = end.rows; ended = end.ends })
