-- That a host says a front of an honest stream.
use Rattle.std.proofs.Common.{◌≡◌, ℕ, zero, suc, ◌+◌, ◌-◌, ◌*◌, ◌/◌, ◌%◌, ◌<◌, ◌≤◌, Bool, true, false, List, [], ◌∷◌, ◌++◌, length, map, take, drop, sym, ◌∙◌, ap, subst, refl, arith, length-append, append_assoc, Option, Some, None}
use Rattle.std.specs.Prelude.{◌==◌, if◌then◌else◌, flat_map, option_to_list, All}
use Rattle.std.proofs.lemmas.Bool.{eqb-true}
use Rattle.std.proofs.Math.Nat.{mul-suc, div-add-mod}
use Rattle.std.proofs.lemmas.Nat.{le-div}
use Rattle.std.proofs.lemmas.Grind.{flat_map-append}
use Rattle.ghost_model.specs.forms.Frames.{IsFrame, Got, frame_bytes, payload_of, most_payload}
use Rattle.ghost_model.specs.forms.Catalog.{catalog_bytes}
use Rattle.std.proofs.lemmas.List.{nil_from_length, length-drop, take-append-drop}
use Rattle.std.proofs.Math.Seq.{drop-append_seam}
use Rattle.ghost_model.proofs.ChannelLemmas.{spelled_is_found}
use Rattle.ghost_model.specs.core.Channel.{Catalog, Ask, Frame, HelloFrame, AskFrame, MoreFrame, ByeFrame}
use Rattle.ghost_model.specs.core.Asks.{RowCells, row_bytes}
use Rattle.ghost_model.specs.readings.AskReading.{ask_in}
use Rattle.ghost_model.specs.core.Host.{Holding, Stand, Greeting, Listening, Replying, Over, Response, welcomes, reply_to, answers_ask, goes_on, after_reply, said_with, asks_in_frame, frames_within, frame_and, groups_from, grouped, welcomes_of, rows_frame, host_says, frames_of, said_with_refusals}
use Rattle.ghost_model.specs.laws.ShortWords.{said_to}
use Rattle.ghost_model.specs.laws.HostLaws.{replies_to, IsFront, welcome_part, honest_stream}

module _ (held : Holding) where
  -- what an honest host would say from here on
  abbrev owed : List Frame → Stand → List Frame
  owed frames Greeting = welcomes held.catalog ++ replies_to held 1 (flat_map (asks_in_frame held.catalog.schema) frames)
  owed frames (Listening next) = replies_to held next (flat_map (asks_in_frame held.catalog.schema) frames)
  owed frames (Replying serial rest) = rest ++ replies_to held (serial + 1) (flat_map (asks_in_frame held.catalog.schema) frames)
  owed frames Over = []

  nothing : (whole : List Frame) → IsFront [] whole
  nothing whole = record { rest = whole; joined = refl }

  more_said : (says front whole : List Frame) → IsFront front whole → IsFront (says ++ front) (says ++ whole)
  more_said says front whole f = record {
    rest = f.rest;
    joined = ap (λ (x : List Frame). says ++ x) f.joined ∙ sym (append_assoc says front f.rest);
  }

  owed_after : (serial : ℕ) (rest frames : List Frame) → owed frames (after_reply serial rest) ≡ rest ++ replies_to held (serial + 1) (flat_map (asks_in_frame held.catalog.schema) frames)
  owed_after serial [] frames = refl
  owed_after serial (frame ∷ rest) frames = refl

  -- one more frame of a reply
  on_front : (serial : ℕ) (reply later : List Frame) → ((stand : Stand) → IsFront (said_to held later stand) (owed later stand)) → IsFront (said_with (said_to held later) (goes_on serial reply)) (reply ++ replies_to held (serial + 1) (flat_map (asks_in_frame held.catalog.schema) later))
  on_front serial [] later h = nothing _
  on_front serial (frame ∷ rest) later h =
      subst (λ (x : List Frame). IsFront (frame ∷ said_to held later (after_reply serial rest)) (frame ∷ x)) (owed_after serial rest later)
      (more_said (frame ∷ []) _ _ (h (after_reply serial rest)))

  ask_front : (serial : ℕ) (o : Option Ask) (later : List Frame) → ((stand : Stand) → IsFront (said_to held later stand) (owed later stand)) → IsFront (said_with (said_to held later) (answers_ask held serial o)) (replies_to held serial (option_to_list o ++ flat_map (asks_in_frame held.catalog.schema) later))
  ask_front serial None later h = nothing _
  ask_front serial (Some ask) later h =
      subst (λ (x : List Frame). IsFront (said_with (said_to held later) (goes_on serial (reply_to held serial ask))) x) refl
      (on_front serial (reply_to held serial ask) later h)

  if_front : (b : Bool) (o : Option Response) (later whole : List Frame) → (b ≡ true → IsFront (said_with (said_to held later) o) whole) → IsFront (said_with (said_to held later) (if b then o else None)) whole
  if_front true o later whole h = h refl
  if_front false o later whole h = nothing whole

  silent_after : (frames : List Frame) → said_to held frames Over ≡ []
  unfolding said_with_refusals
  silent_after [] = refl
  silent_after (_ ∷ later) = refl

  is_front : (frames : List Frame) (stand : Stand) → IsFront (said_to held frames stand) (owed frames stand)
  unfolding said_with_refusals
  is_front [] stand = nothing (owed [] stand)
  is_front (HelloFrame generation ∷ later) Greeting = more_said (welcomes held.catalog) _ _ (is_front later (Listening 1))
  is_front (_ ∷ later) Greeting = nothing _
  is_front (AskFrame serial payload ∷ later) (Listening next) =
      if_front (serial == next) (answers_ask held serial (ask_in held.catalog.schema payload)) later _
      (λ e. subst (λ (n : ℕ). IsFront (said_with (said_to held later) (answers_ask held serial (ask_in held.catalog.schema payload))) (replies_to held n (option_to_list (ask_in held.catalog.schema payload) ++ flat_map (asks_in_frame held.catalog.schema) later)))
      (eqb-true serial next e)
      (ask_front serial (ask_in held.catalog.schema payload) later (is_front later)))
  is_front (ByeFrame ∷ later) (Listening next) = subst (λ (x : List Frame). IsFront x (owed later (Listening next))) (sym (silent_after later)) (nothing _)
  is_front (_ ∷ later) (Listening next) = nothing _
  is_front (MoreFrame other ∷ later) (Replying serial rest) =
      if_front (other == serial) (goes_on serial rest) later _ (λ e. on_front serial rest later (is_front later))
  is_front (_ ∷ later) (Replying serial rest) = nothing _
  is_front (_ ∷ later) Over = nothing _

  pub host_is_honest : (key : List ℕ) → IsFront (host_says held key) (honest_stream held (frames_of key))
  host_is_honest key = is_front (frames_of key) Greeting

-- groups, joined again
spread :
    {X : Type 0} (join : List X → List ℕ) → join [] ≡ [] → ((xs ys : List X) → join (xs ++ ys) ≡ join xs ++ join ys)
    → (most count : ℕ) (xs : List X) → length xs ≤ most * count → flat_map join (groups_from most count xs) ≡ join xs
unfolding groups_from
spread join none both most zero xs h =
    let empty : xs ≡ [] = nil_from_length xs (omega (arith, h)) in sym (ap join empty ∙ none)
spread join none both most (suc count) xs h =
    let fewer : length (drop most xs) ≤ most * count = omega (arith, h, length-drop most xs, mul-suc most count) in
    ap (λ (ys : List ℕ). join (take most xs) ++ ys) (spread join none both most count (drop most xs) fewer)
    ∙ (sym (both (take most xs) (drop most xs)) ∙ ap join (take-append-drop most xs))

enough_groups : (most n : ℕ) → 0 < most → n ≤ most * ((n + most - 1) / most)
enough_groups most n h =
    let parts = div-add-mod (n + most - 1) most in
    let below : (n + most - 1) % most < most = omega arith in
    omega (arith, parts, below, h)

welcomes_joined : (parts : List (List ℕ)) → flat_map welcome_part (welcomes_of parts) ≡ flat_map (λ part. part) parts
welcomes_joined [] = refl
welcomes_joined (part ∷ []) = refl
welcomes_joined (part ∷ next ∷ later) = ap (λ (xs : List ℕ). part ++ xs) (welcomes_joined (next ∷ later))

pub catalog_is_spelled : (catalog : Catalog) → flat_map welcome_part (welcomes catalog) ≡ catalog_bytes catalog
catalog_is_spelled catalog =
    welcomes_joined (grouped 2039 (catalog_bytes catalog))
    ∙ spread (λ part. part) refl (λ xs ys. refl) 2039 ((length (catalog_bytes catalog) + 2039 - 1) / 2039) (catalog_bytes catalog)
    (enough_groups 2039 (length (catalog_bytes catalog)) (omega arith))

rows_joined : (serial : ℕ) (groups : List (List RowCells)) → flat_map payload_of (map (rows_frame serial) groups) ≡ flat_map (λ rows. flat_map row_bytes rows) groups
rows_joined serial [] = refl
rows_joined serial (rows ∷ groups) = ap (λ (xs : List ℕ). flat_map row_bytes rows ++ xs) (rows_joined serial groups)

pub rows_are_spelled : (width serial : ℕ) (rows : List RowCells) → 0 < width → width ≤ most_payload → flat_map payload_of (map (rows_frame serial) (grouped (most_payload / width) rows)) ≡ flat_map row_bytes rows
rows_are_spelled width serial rows h m =
    let most : ℕ = most_payload / width in
    let some : 1 ≤ most_payload / width = le-div 1 most_payload width h (omega (arith, m)) in
    rows_joined serial (grouped (most_payload / width) rows)
    ∙ spread (λ group. flat_map row_bytes group) refl (flat_map-append row_bytes) (most_payload / width)
    ((length rows + most_payload / width - 1) / (most_payload / width)) rows
    (enough_groups (most_payload / width) (length rows) some)

-- frames cut again
at_least_one : (frame : Frame) (rest : List ℕ) → 1 + length rest ≤ length (frame_bytes frame ++ rest)
at_least_one frame rest = omega (arith, length-append (payload_of frame) rest)

enough_bytes : (frames : List Frame) → length frames ≤ length (flat_map frame_bytes frames)
enough_bytes [] = omega arith
enough_bytes (frame ∷ frames) =
    let one : 1 + length (flat_map frame_bytes frames) ≤ length (flat_map frame_bytes (frame ∷ frames)) = at_least_one frame (flat_map frame_bytes frames) in
    omega (arith, one, enough_bytes frames)

cut_back : (most : ℕ) (frames : List Frame) → length frames ≤ most → All IsFrame frames → frames_within most (flat_map frame_bytes frames) ≡ frames
unfolding frames_within
cut_back zero [] h all = refl
cut_back zero (frame ∷ frames) h all = absurd (omega (arith, h))
cut_back (suc most) [] h all = refl
cut_back (suc most) (frame ∷ frames) h all =
    let rest : List ℕ = flat_map frame_bytes frames in
    let later : Frame → List Frame = λ f. frames_within most (drop (length (frame_bytes f)) (frame_bytes frame ++ rest)) in
    ap (λ (g : Got). frame_and later g) (spelled_is_found frame rest (all 0 frame (omega arith)))
    ∙ ap (λ (fs : List Frame). frame ∷ fs)
    (ap (λ (bs : List ℕ). frames_within most bs) (drop-append_seam (frame_bytes frame) rest)
    ∙ cut_back most frames (omega (arith, h)) (λ k d less. all (suc k) d (omega (arith, less))))

pub frames_are_cut : (frames : List Frame) → All IsFrame frames → frames_of (flat_map frame_bytes frames) ≡ frames
frames_are_cut frames all = cut_back (length (flat_map frame_bytes frames)) frames (enough_bytes frames) all
