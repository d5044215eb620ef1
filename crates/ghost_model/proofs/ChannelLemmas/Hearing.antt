-- That the bytes of a frame that may come are heard as this frame.
use Rattle.std.proofs.Common.{◌≡◌, ℕ, ◌+◌, ◌-◌, ◌≤◌, inl, inr, Bool, true, false, List, [], ◌∷◌, ◌++◌, length, sym, ◌∙◌, ap, refl, arith, length-append, append-nil, append_assoc}
use Rattle.std.specs.Prelude.{nat_lt, not, if◌then◌else◌}
use Rattle.std.proofs.lemmas.Bool.Decides.{leb_tells}
use Rattle.std.proofs.lemmas.Bool.{lt-ltb, le-ltb}
use Rattle.ghost_model.specs.core.Channel.{Catalog, Frame}
use Rattle.ghost_model.specs.core.Asks.{NumberedAsk}
use Rattle.ghost_model.specs.forms.Frames.{frame_bytes, frame_in, size_in, payload_of}
use Rattle.ghost_model.specs.core.NextMove.{Awaits, AwaitsCatalog, AwaitsReply, AwaitsNothing, Verdict, Lacking, Complete, Invalid, verdict, header_fits, payload_fits, Heard, EndedAsk, heard_frame, heard_as, hear_all}
use Rattle.ghost_model.specs.laws.ChannelLaws.{IsAwaited}
use Rattle.ghost_model.proofs.ChannelLemmas.{size_is_read, frame_is_read}

-- the tests of a verdict, over plain values
abbrev judged : (short header part payload : Bool) (missing_header missing_payload : ℕ) → Verdict
judged short header part payload missing_header missing_payload =
    if short then Lacking missing_header
    else if not header then Invalid
    else if part then Lacking missing_payload
    else if payload then Complete
    else Invalid

judged_whole : (short header part payload : Bool) (m n : ℕ) → short ≡ false → header ≡ true → part ≡ false → payload ≡ true → judged short header part payload m n ≡ Complete
judged_whole short header part payload m n a b c d = rw (a, b, c, d)

judged_head : (short header part payload : Bool) (m n : ℕ) → short ≡ true → judged short header part payload m n ≡ Lacking m
judged_head short header part payload m n a = rw a

judged_part : (short header part payload : Bool) (m n : ℕ) → short ≡ false → header ≡ true → part ≡ true → judged short header part payload m n ≡ Lacking n
judged_part short header part payload m n a b c = rw (a, b, c)

-- what a header says, whatever follows it
pub size_stays : (part more : List ℕ) → 8 ≤ length part → size_in (part ++ more) ≡ size_in part
size_stays (a ∷ b ∷ c ∷ d ∷ part) more m = refl
size_stays _ more m = absurd (omega (arith, m))

header_stays : (catalog : Catalog) (awaits : Awaits) (part more : List ℕ) → 8 ≤ length part → header_fits catalog awaits (part ++ more) ≡ header_fits catalog awaits part
header_stays catalog (AwaitsCatalog bytes) (a ∷ b ∷ c ∷ d ∷ e ∷ f ∷ g ∷ h ∷ part) more m = refl
header_stays catalog (AwaitsReply asked serial later count last) (a ∷ b ∷ c ∷ d ∷ e ∷ f ∷ g ∷ h ∷ part) more m = refl
header_stays catalog AwaitsNothing part more m = refl
header_stays catalog awaits _ more m = absurd (omega (arith, m))

module _ (catalog : Catalog) (awaits : Awaits) (frame : Frame) (can : IsAwaited catalog awaits frame) where
  pub size_of_frame : size_in (frame_bytes frame) ≡ length (payload_of frame)
  size_of_frame = ap size_in (sym (append-nil (frame_bytes frame))) ∙ size_is_read frame [] can.fits

  pub read_again : frame_in (frame_bytes frame) ≡ frame
  read_again = ap frame_in (sym (append-nil (frame_bytes frame))) ∙ frame_is_read frame [] can.fits

  -- the whole frame
  pub whole : verdict catalog awaits (frame_bytes frame) ≡ Complete
  whole =
      let bytes : List ℕ = frame_bytes frame in
      judged_whole (nat_lt (length bytes) 8) (header_fits catalog awaits bytes) (nat_lt (length bytes) (8 + size_in bytes)) (payload_fits catalog awaits (frame_in bytes))
      (8 - length bytes) (8 + size_in bytes - length bytes)
      (le-ltb (length bytes) 8 (omega arith)) can.header
      (le-ltb (length bytes) (8 + size_in bytes) (let size : size_in bytes ≡ length (payload_of frame) = size_of_frame in omega (arith, size)))
      (ap (λ (f : Frame). payload_fits catalog awaits f) read_again ∙ can.payload)

  -- a part of it
  pub lacking : (part : List ℕ) (byte : ℕ) (more : List ℕ) → part ++ byte ∷ more ≡ frame_bytes frame → (n : ℕ) × (verdict catalog awaits part ≡ Lacking n) × (n ≤ length (byte ∷ more))
  lacking part byte more e =
      let lengths : length part + length (byte ∷ more) ≡ length (frame_bytes frame) = sym (length-append part (byte ∷ more)) ∙ ap length e in
      elim (leb_tells 8 (length part)) [
        | inl p ↦
            (let header : header_fits catalog awaits part ≡ true =
            sym (header_stays catalog awaits part (byte ∷ more) p.1) ∙ (ap (λ (bs : List ℕ). header_fits catalog awaits bs) e ∙ can.header) in
            let size : size_in part ≡ length (payload_of frame) =
            sym (size_stays part (byte ∷ more) p.1) ∙ (ap size_in e ∙ size_of_frame) in (
              8 + size_in part - length part,
              judged_part (nat_lt (length part) 8) (header_fits catalog awaits part) (nat_lt (length part) (8 + size_in part)) (payload_fits catalog awaits (frame_in part))
                  (8 - length part) (8 + size_in part - length part)
                  (le-ltb (length part) 8 p.1) header (lt-ltb (length part) (8 + size_in part) (omega (arith, size, lengths))),
              omega (arith, size, lengths),
            ))
        | inr q ↦ (
          8 - length part,
          judged_head (nat_lt (length part) 8) (header_fits catalog awaits part) (nat_lt (length part) (8 + size_in part)) (payload_fits catalog awaits (frame_in part))
              (8 - length part) (8 + size_in part - length part) (lt-ltb (length part) 8 q.1),
          omega (arith, lengths, q.1),
        )
      ]

  module _ (asks : List NumberedAsk) (frames due : List Frame) (rows : List ℕ) (ended : List EndedAsk) where
    -- what was heard, with this part of the frame at hand
    abbrev pub at_part : List ℕ → Heard
    at_part part = record { awaits = awaits; part = part; frames = frames; due = due; rows = rows; ended = ended; broken = false }

    pub heard_on : (part : List ℕ) (byte : ℕ) (more : List ℕ) → part ++ byte ∷ more ≡ frame_bytes frame → hear_all catalog asks (at_part part) (byte ∷ more) ≡ heard_frame catalog asks (at_part []) frame
    unfolding hear_all
    heard_on part byte [] e =
        ap (λ (bs : List ℕ). heard_as catalog asks (at_part part) bs (verdict catalog awaits bs)) e
        ∙ (ap (λ (v : Verdict). heard_as catalog asks (at_part part) (frame_bytes frame) v) whole
        ∙ ap (λ (f : Frame). heard_frame catalog asks (at_part []) f) read_again)
    heard_on part byte (next ∷ more) e =
        let joined : (part ++ byte ∷ []) ++ next ∷ more ≡ frame_bytes frame = append_assoc part (byte ∷ []) (next ∷ more) ∙ e in
        let short : (n : ℕ) × (verdict catalog awaits (part ++ byte ∷ []) ≡ Lacking n) × (n ≤ length (next ∷ more)) = lacking (part ++ byte ∷ []) next more joined in
        ap (λ (v : Verdict). hear_all catalog asks (heard_as catalog asks (at_part part) (part ++ byte ∷ []) v) (next ∷ more)) short.1
        ∙ heard_on (part ++ byte ∷ []) next more joined

pub awaited_is_heard : (catalog : Catalog) (asks : List NumberedAsk) (before : Heard) (frame : Frame) → before.part ≡ [] → before.broken ≡ false → IsAwaited catalog before.awaits frame → hear_all catalog asks before (frame_bytes frame) ≡ heard_frame catalog asks before frame
awaited_is_heard catalog asks before frame p b h =
    let again : (part : List ℕ) (broken : Bool) → Heard = λ part broken. record before { part = part; broken = broken } in
    ap (λ (part : List ℕ). hear_all catalog asks (again part before.broken) (frame_bytes frame)) p
    ∙ (ap (λ (broken : Bool). hear_all catalog asks (again [] broken) (frame_bytes frame)) b
    ∙ heard_on catalog before.awaits frame h asks before.frames before.due before.rows before.ended [] _ _ refl)
