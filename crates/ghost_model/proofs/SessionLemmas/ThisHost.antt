-- That what this host sends is what an honest host sends.
use Rattle.std.proofs.Common.{◌≡◌, ℕ, zero, suc, ◌+◌, ◌*◌, ◌/◌, ◌<◌, ◌≤◌, nat_lt, nat_le, ◌&&◌, true, false, List, [], ◌∷◌, ◌++◌, length, map, sym, ◌∙◌, ap, subst, refl, arith, append-nil, append_assoc, Option, Some, None}
use Rattle.std.specs.Prelude.{flat_map, option_to_list, All}
use Rattle.std.specs.List.{list_any, list_all, concat}
use Rattle.std.proofs.lemmas.Bool.{lt-ltb, le-leb}
use Rattle.std.proofs.lemmas.Grind.{flat_map-append}
use Rattle.std.proofs.lemmas.Nat.{le-div}
use Rattle.std.proofs.Math.Nat.{mul-le-mul_left, div-add-mod}
use Rattle.ghost_model.specs.core.Schema.{Schema}
use Rattle.ghost_model.specs.core.Channel.{Catalog, Ask, Frame, HelloFrame, AskFrame, MoreFrame, ByeFrame, WelcomeFrame, RowsFrame, DoneFrame, SorryFrame, Journal}
use Rattle.ghost_model.specs.forms.Catalog.{canonical_text, catalog_bytes}
use Rattle.ghost_model.specs.forms.Frames.{IsFrame, got_of, frame_bytes, most_payload}
use Rattle.ghost_model.specs.core.Asks.{NumberedAsk, asked_of, RowCells, is_proper_ask, row_width}
use Rattle.ghost_model.specs.readings.AskReading.{ask_in}
use Rattle.ghost_model.specs.core.Moves.{taken, sent, answers}
use Rattle.ghost_model.specs.core.NextMove.{IsProper, is_stop}
use Rattle.ghost_model.specs.laws.ChannelLaws.{IsDue}
use Rattle.ghost_model.specs.core.Split.{Public, reply_rows}
use Rattle.ghost_model.specs.core.Host.{Holding, host_of, host_sends, host_says, frames_of, grouped, most_part, welcomes, reply_to, asks_in_frame}
use Rattle.ghost_model.specs.laws.HostLaws.{honest_stream, replies_to, IsFront}
use Rattle.ghost_model.specs.core.Honest.{AreWelcomes, fits_frame, IsReply, AreReplies, asks_in_got, asks_sent, IsHonest, IsSetting}
use Rattle.ghost_model.proofs.ChannelLemmas.{spelled_is_found}
use Rattle.ghost_model.proofs.ChannelLemmas.Tests.{BothHold, both_hold, hold_both}
use Rattle.ghost_model.proofs.ChannelLemmas.Asks.{read_ask_is_proper}
use Rattle.ghost_model.proofs.ChannelLemmas.Hosts.{host_is_honest, frames_are_cut}
use Rattle.ghost_model.proofs.ChannelLemmas.Sending.{sent_is_due}
use Rattle.ghost_model.proofs.SessionLemmas.Groups.{groups_are_joined, groups_pass, joined_parts}
use Rattle.ghost_model.proofs.SessionLemmas.Settings.{serials_fit}
use Rattle.ghost_model.proofs.SessionLemmas.Limits.{IsSmall, schema_is_small, row_fits}
use Rattle.ghost_model.proofs.SessionLemmas.SentFrames.{AreFrames, sent_are_frames, asks_are_good}

-- the bytes of sent frames, and the asks in them
joined_frames : (frames : List Frame) → concat (map frame_bytes frames) ≡ flat_map frame_bytes frames
joined_frames [] = refl
joined_frames (frame ∷ frames) = ap (λ (bytes : List ℕ). frame_bytes frame ++ bytes) (joined_frames frames)

all_frames : (frames : List Frame) → AreFrames frames → All IsFrame frames
all_frames [] h k d less = absurd (omega (arith, less))
all_frames (frame ∷ frames) h zero d less = h.0
all_frames (frame ∷ frames) h (suc k) d less = all_frames frames h.1 k d (omega (arith, less))

module _ (schema : Schema) where
  abbrev pub asks_in_bytes : List ℕ → List Ask
  asks_in_bytes bytes = asks_in_got schema (got_of bytes)

  found_again : (frame : Frame) → IsFrame frame → asks_in_bytes (frame_bytes frame) ≡ asks_in_frame schema frame
  found_again frame h =
      ap asks_in_bytes (sym (append-nil (frame_bytes frame))) ∙ ap (asks_in_got schema) (spelled_is_found frame [] h)

  pub asks_in_frames : (frames : List Frame) → AreFrames frames → flat_map asks_in_bytes (map frame_bytes frames) ≡ flat_map (asks_in_frame schema) frames
  asks_in_frames [] h = refl
  asks_in_frames (frame ∷ frames) h =
      ap (λ (asks : List Ask). asks ++ flat_map asks_in_bytes (map frame_bytes frames)) (found_again frame h.0)
      ∙ ap (λ (asks : List Ask). asks_in_frame schema frame ++ asks) (asks_in_frames frames h.1)

  abbrev AreAsks : List Ask → Type 0
  AreAsks asks = list_all (is_proper_ask schema) asks ≡ true

  proper_one : (payload : List ℕ) (o : Option Ask) (asks : List Ask) → ask_in schema payload ≡ o → AreAsks asks → AreAsks (option_to_list o ++ asks)
  proper_one payload None asks e h = h
  proper_one payload (Some ask) asks e h = hold_both _ _ (read_ask_is_proper schema payload ask e) h

  proper_more : (frame : Frame) (asks : List Ask) → AreAsks asks → AreAsks (asks_in_frame schema frame ++ asks)
  proper_more (AskFrame serial payload) asks h = proper_one payload (ask_in schema payload) asks refl h
  proper_more (HelloFrame _) asks h = h
  proper_more (MoreFrame _) asks h = h
  proper_more ByeFrame asks h = h
  proper_more (WelcomeFrame _ _) asks h = h
  proper_more (RowsFrame _ _) asks h = h
  proper_more (DoneFrame _ _) asks h = h
  proper_more (SorryFrame _ _) asks h = h

  -- every ask in a frame is one that a key may send
  asks_are_asks : (frames : List Frame) → AreAsks (flat_map (asks_in_frame schema) frames)
  asks_are_asks [] = refl
  asks_are_asks (frame ∷ frames) = proper_more frame (flat_map (asks_in_frame schema) frames) (asks_are_asks frames)

-- groups of rows that fit a frame
group_fits : (width : ℕ) (group : List RowCells) → 0 < width → 0 < length group → length group ≤ most_payload / width → fits_frame width group ≡ true
group_fits width group wide some few =
    let product : width * length group ≤ width * (most_payload / width) = mul-le-mul_left width few in
    let whole = div-add-mod most_payload width in
    hold_both _ _ (lt-ltb 0 (length group) some) (le-leb (width * length group) most_payload (omega (arith, product, whole)))

part_fits : (part : List ℕ) → 0 < length part → length part ≤ most_part → (nat_lt 0 (length part) && nat_le (length part) most_part) ≡ true
part_fits part some few = hold_both _ _ (lt-ltb 0 (length part) some) (le-leb (length part) most_part few)

welcomes_greet : (catalog : Catalog) → AreWelcomes catalog (welcomes catalog)
welcomes_greet catalog = record {
  parts = grouped most_part (catalog_bytes catalog);
  cut = groups_pass (λ part. nat_lt 0 (length part) && nat_le (length part) most_part) most_part (catalog_bytes catalog) (omega arith) part_fits;
  whole = joined_parts (grouped most_part (catalog_bytes catalog)) ∙ groups_are_joined most_part (catalog_bytes catalog) (omega arith);
  frames_are = refl;
}

module _ (catalog : Catalog) (public : Public) (small : IsSmall catalog.schema) where
  reply_is_one : (serial : ℕ) (ask : Ask) → is_proper_ask catalog.schema ask ≡ true → IsReply catalog.schema serial ask (reply_rows catalog.schema public ask) (reply_to (host_of catalog public) serial ask)
  reply_is_one serial ask e =
      let width : ℕ = row_width catalog.schema ask in
      let rows : List RowCells = reply_rows catalog.schema public ask in
      let fits : row_width catalog.schema ask ≤ 2040 = row_fits catalog.schema small ask e in
      let wide : 0 < row_width catalog.schema ask = omega arith in
      let some : 1 ≤ most_payload / row_width catalog.schema ask = le-div 1 most_payload (row_width catalog.schema ask) wide (omega (arith, fits)) in
      record {
        packing = grouped (most_payload / width) rows;
        fits = groups_pass (fits_frame width) (most_payload / width) rows some (λ group s f. group_fits width group wide s f);
        whole = groups_are_joined (most_payload / width) rows some;
        frames_are = refl;
      }

  replies_are_ones : (serial : ℕ) (asks : List Ask) → AreAsks catalog.schema asks → AreReplies catalog.schema public serial asks (replies_to (host_of catalog public) serial asks)
  unfolding AreReplies
  replies_are_ones serial [] h = refl
  replies_are_ones serial (ask ∷ asks) h =
      let both : BothHold (is_proper_ask catalog.schema ask) (list_all (is_proper_ask catalog.schema) asks) = both_hold _ _ h in
      (reply_to (host_of catalog public) serial ask, replies_to (host_of catalog public) (serial + 1) asks, reply_is_one serial ask both.one, replies_are_ones (serial + 1) asks both.other, refl)

  -- what was taken begins the whole stream
  begins_stream : (begun rest : List ℕ) (said whole : List Frame) → IsFront said whole → begun ++ rest ≡ flat_map frame_bytes said → (later : List ℕ) × (begun ++ later ≡ flat_map frame_bytes whole)
  begins_stream begun rest said whole front e = (
    rest ++ flat_map frame_bytes front.rest,
    sym (append_assoc begun rest (flat_map frame_bytes front.rest))
        ∙ (ap (λ (bytes : List ℕ). bytes ++ flat_map frame_bytes front.rest) e
        ∙ (sym (flat_map-append frame_bytes said front.rest) ∙ ap (flat_map frame_bytes) (sym front.joined))),
  )

  honest_with :
      (journal : Journal) (rest : List ℕ) (frames : List Frame) → sent journal ≡ map frame_bytes frames → AreFrames frames
      → list_any is_stop (answers journal) ≡ false → taken journal ++ rest ≡ host_sends (host_of catalog public) (concat (sent journal))
      → IsHonest catalog public journal
  honest_with journal rest frames are good whole said =
      let held : Holding = host_of catalog public in
      let key : concat (sent journal) ≡ flat_map frame_bytes frames = ap concat are ∙ joined_frames frames in
      let cut : frames_of (concat (sent journal)) ≡ frames = ap frames_of key ∙ frames_are_cut frames (all_frames frames good) in
      let asks : List Ask = flat_map (asks_in_frame catalog.schema) frames in
      let same : asks_sent catalog.schema journal ≡ flat_map (asks_in_frame catalog.schema) frames =
      ap (flat_map (asks_in_bytes catalog.schema)) are ∙ asks_in_frames catalog.schema frames good in
      let front : IsFront (host_says held (concat (sent journal))) (honest_stream held frames) =
      subst (λ (fs : List Frame). IsFront (host_says held (concat (sent journal))) (honest_stream held fs)) cut (host_is_honest held (concat (sent journal))) in
      let later = begins_stream (taken journal) rest (host_says held (concat (sent journal))) (honest_stream held frames) front said in
      record {
        nothing_breaks_off = whole;
        greeting = welcomes catalog;
        greets = welcomes_greet catalog;
        replies = replies_to held 1 asks;
        replied = subst (λ (found : List Ask). AreReplies catalog.schema public 1 found (replies_to held 1 asks)) (sym same)
            (replies_are_ones 1 asks (asks_are_asks catalog.schema frames));
        rest = later.0;
        taken_before = later.1;
      }

pub this_host_is_honest :
    (catalog : Catalog) (public : Public) (at : List ℕ) (texts : List (List ℕ)) (journal : Journal) (rest : List ℕ)
    → IsSetting catalog texts → IsProper catalog at texts journal → list_any is_stop (answers journal) ≡ false
    → taken journal ++ rest ≡ host_sends (host_of catalog public) (concat (sent journal)) → IsHonest catalog public journal
this_host_is_honest catalog public at texts journal rest setting goes whole said =
    let small : IsSmall catalog.schema = schema_is_small (canonical_text catalog.schema) catalog.schema setting.proper.meant in
    let asks : List NumberedAsk = asked_of catalog.schema texts in
    let due : IsDue catalog asks journal = sent_is_due catalog at asks journal goes in
    honest_with catalog public small journal rest due.frames due.sent_are
    (sent_are_frames catalog small asks (asks_are_good catalog.schema texts) (serials_fit catalog texts setting) journal setting.proper.generation_fits due)
    whole said
