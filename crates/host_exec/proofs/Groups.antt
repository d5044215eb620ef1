-- A reply and a catalog, frame by frame.
use Rattle.std.proofs.Common.{◌≡◌, ℕ, suc, ◌+◌, ◌-◌, ◌/◌, ◌<◌, ◌≤◌, Bool, true, false, nat_lt, ltb-true, ◌⊎◌, inl, inr, min, List, [], ◌∷◌, ◌++◌, length, map, take, drop, sym, ◌∙◌, ap, refl, arith, append-nil, length-append, Some}
use Rattle.std.specs.Prelude.{if◌then◌else◌}
use Rattle.std.proofs.lemmas.Bool.Decides.{nat_tests}
use Rattle.std.proofs.Math.Nat.{div-eq-sub-div, div-eq_of_lt}
use Rattle.std.proofs.Math.Seq.{take-append_seam, drop-append_seam}
use Rattle.std.proofs.lemmas.List.{length-drop, drop-drop, nil_from_length, take_all, drop_all}
use Rattle.ghost_model.specs.core.Schema.{is_empty}
use Rattle.ghost_model.specs.core.Channel.{Frame, RowsFrame, DoneFrame, WelcomeFrame}
use Rattle.ghost_model.specs.forms.Frames.{frame_bytes}
use Rattle.ghost_model.specs.core.Asks.{RowCells}
use Rattle.ghost_model.specs.core.Host.{Stand, Response, goes_on, after_reply, rows_frame, grouped, groups_from, welcomes_of, most_part}
use Rattle.ghost_model.specs.core.Host as host
use Rattle.host_exec.specs.Gathering.{Gathered}
use Rattle.host_exec.specs.RowBytes.{replies_at}
use Rattle.host_exec.specs.Saying.{Source, GoesOn, left_from, most_rows, reply_left, response, Stands, Says}
use Rattle.host_exec.specs.declared.stage.Stage.TheVariants as stage
use Rattle.host_exec.specs.declared.piece.Piece.{Piece}

-- ---- groups

side_by : (n most : ℕ) (b : Bool) → nat_lt n most ≡ b → (n < most) ⊎ (most ≤ n)
side_by n most true e = inl (ltb-true n most e)
side_by n most false e = inr (let h : most ≤ n = grind (arith, nat_tests) in h)

pub side : (n most : ℕ) → (n < most) ⊎ (most ≤ n)
side n most = side_by n most (nat_lt n most) refl

rest_alike : (most n : ℕ) → 0 < most → 0 < n → (n < most) ⊎ (most ≤ n) → (n - 1) / most ≡ (n - most + most - 1) / most
rest_alike most n some more (inl h) =
    let e : n - most + most - 1 ≡ most - 1 = omega (arith, h, some) in
    div-eq_of_lt (omega (arith, h)) ∙ sym (ap (λ (k : ℕ). k / most) e ∙ div-eq_of_lt (omega (arith, some)))
rest_alike most n some more (inr h) = ap (λ (k : ℕ). k / most) (let e : n - 1 ≡ n - most + most - 1 = omega (arith, h, some) in e)

one_group_more : (most n : ℕ) → 0 < most → 0 < n → (n + most - 1) / most ≡ suc ((n - most + most - 1) / most)
one_group_more most n some more =
    let less : n + most - 1 - most ≡ n - 1 = omega (arith, more, some) in
    let first : (n + most - 1) / most ≡ (n + most - 1 - most) / most + 1 = div-eq-sub-div some (omega (arith, more)) in
    let e : (n + most - 1) / most ≡ (n - 1) / most + 1 = first ∙ ap (λ (k : ℕ). k / most + 1) less in
    let f = rest_alike most n some more (side n most) in
    omega (arith, e, f)

pub first_group : {X : Type 0} (most : ℕ) (xs : List X) → 0 < most → 0 < length xs → grouped most xs ≡ take most xs ∷ grouped most (drop most xs)
unfolding groups_from
first_group most xs some more =
    ap (λ (n : ℕ). groups_from most n xs) (one_group_more most (length xs) some more)
    ∙ ap (λ (n : ℕ). take most xs ∷ groups_from most ((n + most - 1) / most) (drop most xs)) (sym (length-drop most xs))

pub no_group : {X : Type 0} (most : ℕ) → 0 < most → grouped {X = X} most [] ≡ []
unfolding groups_from
no_group {X} most some =
    ap (λ (n : ℕ). groups_from {X = X} most n []) (let e : (0 + most - 1) / most ≡ 0 = (let l : 0 + most - 1 ≡ most - 1 = omega arith in ap (λ (k : ℕ). k / most) l ∙ div-eq_of_lt (omega (arith, some))) in e)

-- ---- a reply

at_done : (most serial sent : ℕ) → 0 < most → reply_left most serial sent [] ≡ DoneFrame serial sent ∷ []
at_done most serial sent some =
    ap (λ (groups : List (List RowCells)). map (rows_frame serial) groups ++ DoneFrame serial (sent + 0) ∷ []) (no_group most some)
    ∙ ap (λ (n : ℕ). DoneFrame serial n ∷ []) (let e : sent + 0 ≡ sent = omega arith in e)

at_rows : (most serial sent : ℕ) (rows found left : List RowCells) → 0 < most → 0 < length found → rows ≡ found ++ left → take most rows ≡ found → drop most rows ≡ left
    → reply_left most serial sent rows ≡ rows_frame serial found ∷ reply_left most serial (sent + length found) left
at_rows most serial sent rows found left some more whole front back =
    let long : length rows ≡ length found + length left = ap length whole ∙ length-append found left in
    let total : sent + length rows ≡ sent + length found + length left = omega (arith, long) in
    let groups : grouped most rows ≡ found ∷ grouped most left =
    first_group most rows some (omega (arith, long, more))
    ∙ (ap (λ (xs : List RowCells). xs ∷ grouped most (drop most rows)) front ∙ ap (λ (xs : List RowCells). found ∷ grouped most xs) back) in
    ap (λ (gs : List (List RowCells)). map (rows_frame serial) gs ++ DoneFrame serial (sent + length rows) ∷ []) groups
    ∙ ap (λ (n : ℕ). rows_frame serial found ∷ (map (rows_frame serial) (grouped most left) ++ DoneFrame serial n ∷ [])) total

ends_not : (frames : List Frame) (frame : Frame) → is_empty (frames ++ frame ∷ []) ≡ false
ends_not [] frame = refl
ends_not (_ ∷ frames) frame = refl

still_replying : (most serial sent : ℕ) (rows : List RowCells) → after_reply serial (reply_left most serial sent rows) ≡ host.Replying serial (reply_left most serial sent rows)
still_replying most serial sent rows =
    ap (λ (b : Bool). if b then host.Listening (serial + 1) else host.Replying serial (reply_left most serial sent rows))
    (ends_not (map (rows_frame serial) (grouped most rows)) (DoneFrame serial (sent + length rows)))

same_response : (a b : Response) → Some a ≡ Some b → a ≡ b
same_response a b e = cc

-- the frame that a reply goes on with, and where the host then stands
record Goes (owed : List Frame) (stand : Stand) (frame : Frame) (next : Stand) : Type 0 where
  owed_are : owed ≡ frame ∷ []
  stand_is : stand ≡ next

goes_as : (serial : ℕ) (frames : List Frame) (owed : List Frame) (stand : Stand) (frame : Frame) (rest : List Frame) (next : Stand)
    → goes_on serial frames ≡ Some (response owed stand) → frames ≡ frame ∷ rest → after_reply serial rest ≡ next → Goes owed stand frame next
goes_as serial frames owed stand frame rest next goes is after =
    let same : response (frame ∷ []) (after_reply serial rest) ≡ response owed stand = same_response _ _ (sym (ap (goes_on serial) is) ∙ goes) in
    record {
      owed_are = sym (ap (λ (a : Response). a.says) same);
      stand_is = sym (ap (λ (a : Response). a.stand) same) ∙ after;
    }

-- what one frame takes of the rows that are left
record Fills (most : ℕ) (rows found left : List RowCells) : Type 0 where
  front : take most rows ≡ found
  back : drop most rows ≡ left

fills_full : (most : ℕ) (rows found left : List RowCells) → rows ≡ found ++ left → length found ≡ most → Fills most rows found left
fills_full most rows found left whole full = record {
  front = ap (take most) whole ∙ (ap (λ (n : ℕ). take n (found ++ left)) (sym full) ∙ take-append_seam found left);
  back = ap (drop most) whole ∙ (ap (λ (n : ℕ). drop n (found ++ left)) (sym full) ∙ drop-append_seam found left);
}

fills_end : (most : ℕ) (rows found left : List RowCells) → rows ≡ found ++ left → left ≡ [] → length found ≤ most → Fills most rows found left
fills_end most rows found left whole none few =
    let all : rows ≡ found = whole ∙ (ap (λ (xs : List RowCells). found ++ xs) none ∙ append-nil found) in
    record {
      front = ap (take most) all ∙ take_all most found few;
      back = ap (drop most) all ∙ (drop_all most found few ∙ sym none);
    }

nothing_left : (source : Source) (place : ℕ) → source.rows ≤ place → left_from source place ≡ []
unfolding replies_at
nothing_left source place h =
    let none : source.rows - place ≡ 0 = omega (arith, h) in
    ap (λ (n : ℕ). replies_at source.form source.file source.start place n) none

fills : (source : Source) (place next : ℕ) (found : List RowCells) → left_from source place ≡ found ++ left_from source next
    → length found ≤ most_rows source → (next < source.rows → length found ≡ most_rows source) → (next < source.rows) ⊎ (source.rows ≤ next)
    → Fills (most_rows source) (left_from source place) found (left_from source next)
fills source place next found joined few stops (inl h) = fills_full (most_rows source) _ found _ joined (stops h)
fills source place next found joined few stops (inr h) = fills_end (most_rows source) _ found _ joined (nothing_left source next h) few

-- a source of which other rows were read ahead
abbrev pub with_piece : Source → Piece → Source
with_piece source piece = record { form = source.form; file = source.file; start = source.start; rows = source.rows; piece = piece }

pub said_done : (catalog : List ℕ) (source : Source) (piece : Piece) (serial place sent next : ℕ) (owed : List Frame) (stand : Stand) (bytes : List ℕ) (rows size : ℕ) (out : List ℕ)
    → Stands catalog source (stage.Answering serial place sent) owed stand → 0 < most_rows source
    → Gathered (left_from source place) rows bytes (left_from source next) → rows ≡ 0 → (next < source.rows → rows ≡ most_rows source)
    → take size out ≡ frame_bytes (DoneFrame serial sent) → Says catalog (with_piece source piece) owed stand size out (stage.Listening (serial + 1))
said_done catalog source piece serial place sent next owed stand bytes rows size out stands some gathered none stops spelled =
    let empty : gathered.found ≡ [] = nil_from_length gathered.found (omega (arith, gathered.counted, none)) in
    let end : source.rows ≤ next = not_before next source.rows (most_rows source) (λ h. (let s = stops h in omega (arith, s, none, some))) in
    let all : left_from source place ≡ [] = gathered.joined ∙ (ap (λ (xs : List RowCells). xs ++ left_from source next) empty ∙ nothing_left source next end) in
    let goes = goes_as serial (reply_left (most_rows source) serial sent (left_from source place)) owed stand (DoneFrame serial sent) [] (host.Listening (serial + 1)) stands.0
    (ap (reply_left (most_rows source) serial sent) all ∙ at_done (most_rows source) serial sent some) refl in
    record { frame = DoneFrame serial sent; rest = []; owed_are = goes.owed_are; spelled = spelled; stands = (refl, goes.stand_is) }
  where
    not_before : (next rows most : ℕ) → (next < rows → ⊥) → rows ≤ next
    not_before next rows most h = elim (side next rows) [ inl less ↦ absurd (h less) | inr more ↦ more ]

pub said_rows : (catalog : List ℕ) (source : Source) (piece : Piece) (serial place sent next : ℕ) (owed : List Frame) (stand : Stand) (bytes : List ℕ) (rows size : ℕ) (out : List ℕ)
    → Stands catalog source (stage.Answering serial place sent) owed stand → 0 < most_rows source
    → Gathered (left_from source place) rows bytes (left_from source next) → 0 < rows → rows ≤ most_rows source → (next < source.rows → rows ≡ most_rows source)
    → take size out ≡ frame_bytes (RowsFrame serial bytes) → GoesOn (with_piece source piece) next
    → Says catalog (with_piece source piece) owed stand size out (stage.Replying serial next (sent + rows))
said_rows catalog source piece serial place sent next owed stand bytes rows size out stands some gathered more few stops spelled ahead =
    let found : List RowCells = gathered.found in
    let counted : length found ≡ rows = gathered.counted in
    let filled = fills source place next found gathered.joined (omega (arith, counted, few)) (λ h. counted ∙ stops h) (side next source.rows) in
    let goes = goes_as serial (reply_left (most_rows source) serial sent (left_from source place)) owed stand (rows_frame serial found)
    (reply_left (most_rows source) serial (sent + length found) (left_from source next))
    (host.Replying serial (reply_left (most_rows source) serial (sent + length found) (left_from source next))) stands.0
    (at_rows (most_rows source) serial sent (left_from source place) found (left_from source next) some (omega (arith, counted, more)) gathered.joined filled.front filled.back)
    (still_replying (most_rows source) serial (sent + length found) (left_from source next)) in
    record {
      frame = rows_frame serial found;
      rest = [];
      owed_are = goes.owed_are;
      spelled = spelled ∙ ap (λ (bs : List ℕ). frame_bytes (RowsFrame serial bs)) gathered.spelled;
      stands = (refl, goes.stand_is ∙ ap (λ (n : ℕ). host.Replying serial (reply_left (most_rows source) serial (sent + n) (left_from source next))) counted, ahead);
    }

-- nothing was gathered yet
pub none_gathered : (all : List RowCells) (rows : ℕ) (bytes : List ℕ) → rows ≡ 0 → bytes ≡ [] → Gathered all rows bytes all
none_gathered all rows bytes none nothing = record { found = []; joined = refl; counted = sym none; spelled = nothing }

-- ---- the catalog

welcomes_more : (bytes : List ℕ) → 2039 < length bytes → welcomes_of (grouped most_part bytes) ≡ WelcomeFrame 0 (take 2039 bytes) ∷ welcomes_of (grouped most_part (drop 2039 bytes))
welcomes_more bytes h =
    let rest : 0 < length (drop 2039 bytes) = omega (arith, length-drop 2039 bytes, h) in
    ap welcomes_of (first_group 2039 bytes (omega arith) (omega (arith, h)) ∙ ap (λ (gs : List (List ℕ)). take 2039 bytes ∷ gs) (first_group 2039 (drop 2039 bytes) (omega arith) rest))
    ∙ ap (λ (gs : List (List ℕ)). WelcomeFrame 0 (take 2039 bytes) ∷ welcomes_of gs) (sym (first_group 2039 (drop 2039 bytes) (omega arith) rest))

welcomes_last : (bytes : List ℕ) → 0 < length bytes → length bytes ≤ 2039 → welcomes_of (grouped most_part bytes) ≡ WelcomeFrame 1 bytes ∷ []
welcomes_last bytes some few =
    ap welcomes_of (first_group 2039 bytes (omega arith) some
    ∙ (ap (λ (xs : List ℕ). xs ∷ grouped 2039 (drop 2039 bytes)) (take_all 2039 bytes few)
    ∙ (ap (λ (xs : List ℕ). bytes ∷ grouped 2039 xs) (drop_all 2039 bytes few) ∙ ap (λ (gs : List (List ℕ)). bytes ∷ gs) (no_group 2039 (omega arith)))))

pub said_part : (catalog : List ℕ) (source : Source) (at count : ℕ) (owed : List Frame) (stand : Stand) (part : List ℕ) (size : ℕ) (out : List ℕ)
    → Stands catalog source (stage.Welcoming at) owed stand → at + count < length catalog → count ≡ min 2039 (length catalog - at) → part ≡ take count (drop at catalog)
    → take size out ≡ frame_bytes (WelcomeFrame 0 part) → Says catalog source owed stand size out (stage.Welcoming (at + count))
said_part catalog source at count owed stand part size out stands more c p spelled =
    let full : count ≡ 2039 = omega (arith, c, more) in
    let long : 2039 < length (drop at catalog) = omega (arith, length-drop at catalog, full, more) in
    let further : drop 2039 (drop at catalog) ≡ drop (at + count) catalog = drop-drop 2039 at catalog ∙ ap (λ (n : ℕ). drop n catalog) (let e : at + 2039 ≡ at + count = omega (arith, full) in e) in
    record {
      frame = WelcomeFrame 0 part;
      rest = welcomes_of (grouped most_part (drop (at + count) catalog));
      owed_are = stands.0 ∙ (welcomes_more (drop at catalog) long
          ∙ (ap (λ (xs : List ℕ). WelcomeFrame 0 xs ∷ welcomes_of (grouped most_part (drop 2039 (drop at catalog)))) (ap (λ (n : ℕ). take n (drop at catalog)) (sym full) ∙ sym p)
          ∙ ap (λ (xs : List ℕ). WelcomeFrame 0 part ∷ welcomes_of (grouped most_part xs)) further));
      spelled = spelled;
      stands = (refl, stands.1);
    }

pub said_last : (catalog : List ℕ) (source : Source) (at count : ℕ) (owed : List Frame) (stand : Stand) (part : List ℕ) (size : ℕ) (out : List ℕ)
    → Stands catalog source (stage.Welcoming at) owed stand → at < length catalog → length catalog ≤ at + count → count ≡ min 2039 (length catalog - at) → part ≡ take count (drop at catalog)
    → take size out ≡ frame_bytes (WelcomeFrame 1 part) → Says catalog source owed stand size out (stage.Listening 1)
said_last catalog source at count owed stand part size out stands some end c p spelled =
    let few : length (drop at catalog) ≤ 2039 = omega (arith, length-drop at catalog, c, end) in
    let more : 0 < length (drop at catalog) = omega (arith, length-drop at catalog, some) in
    let whole : part ≡ drop at catalog = p ∙ take_all count (drop at catalog) (omega (arith, length-drop at catalog, c, end)) in
    record {
      frame = WelcomeFrame 1 part;
      rest = [];
      owed_are = stands.0 ∙ (welcomes_last (drop at catalog) more few ∙ ap (λ (xs : List ℕ). WelcomeFrame 1 xs ∷ []) (sym whole));
      spelled = spelled;
      stands = (refl, stands.1);
    }
