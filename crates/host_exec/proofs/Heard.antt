-- Bytes of a frame that came to a host.
use Rattle.std.proofs.Common.{◌≡◌, ◌⊎◌, inl, inr, ℕ, ◌+◌, ◌-◌, ◌<◌, ◌≤◌, true, false, Bool, not, List, [], ◌∷◌, ◌++◌, length, take, None, Ok, Err, refl, sym, ◌∙◌, ap, subst, arith, append-nil, length-append, ltb-true, nat_lt, nat_eq, MatchBool}
use Rattle.std.specs.Prelude.{if◌then◌else◌}
use Rattle.std.proofs.lemmas.Bool.Decides.{nat_tests}
use Rattle.std.proofs.lemmas.Bool.{lt-ltb, le-ltb, eqb-true}
use Rattle.std.proofs.lemmas.Grind.{flat_map-append}
use Rattle.std.proofs.Math.Seq.{take-append_seam, take-length}
use Rattle.std.proofs.lemmas.List.{nil_from_length}
use Rattle.ghost_model.specs.core.Causes.{Rose}
use Rattle.ghost_model.specs.core.Channel.{Frame, Move, Entry, Journal}
use Rattle.ghost_model.specs.forms.Frames.{Got, Found, Short, Bad, AreBytes, frame_bytes, got_of, payload_of, size_in, kind_in, header_allowed, payload_allowed, payload_in, frame_in}
use Rattle.ghost_model.specs.core.Host.{Holding, Stand, answer_to}
use Rattle.ghost_model.specs.core.Moves.{taken, sent, sent_by, piece_of}
use Rattle.ghost_model.proofs.ChannelLemmas.{found_begins, size_is_read}
use Rattle.ghost_model.proofs.SessionLemmas.Limits.{append_bytes}
use Rattle.edge_traits.specs.Counting.{WentCounting}
use Rattle.edge_traits.specs.Filling.{AreTakes, Fills}
use Rattle.edge_traits.proofs.CountLemmas.{tell_same, tell_rose}
use Rattle.host_exec.specs.Hosts.{IsAnswered}
use Rattle.host_exec.specs.Sessions.{Came, Lost, IsWhole, HeardAs, IsRefused}
use Rattle.host_exec.specs.declared.host.Host.{Host}
use Rattle.host_exec.proofs.Going.{out_of_place, taken_joins, stops_joins}

pub was_heard : (held : Holding) (file : List ℕ) (stand : Stand) (bytes : List ℕ) (frame : Frame) (after : Host) → IsWhole bytes → got_of bytes ≡ Found frame
    → IsAnswered held file stand frame after → HeardAs held file stand bytes after
was_heard held file stand bytes frame after whole got answered =
    let is = whole.exact frame got in
    record { frame = frame; fits = is.0; spelled = is.1; response = answered.answered; answer = answered.answer; stands = answered.stands }

pub was_refused : (held : Holding) (stand : Stand) (bytes : List ℕ) (frame : Frame) (kind : ℕ) → IsWhole bytes → got_of bytes ≡ Found frame → kind ≡ kind_in bytes
    → answer_to held stand frame ≡ None → IsRefused held stand bytes kind
was_refused held stand bytes frame kind whole got is none =
    let exact = whole.exact frame got in
    out_of_place held stand bytes frame kind exact.0 exact.1 (is ∙ ap kind_in exact.1) none

-- ---- bytes that were taken

takes_send_nothing : (most : ℕ) (journal : Journal) → AreTakes most journal → sent journal ≡ []
takes_send_nothing most [] takes = refl
takes_send_nothing most (made ∷ more) takes =
    ap (λ (m : Move). sent_by m ++ sent more) takes.0.asks ∙ takes_send_nothing (most - length (piece_of made.answer)) more takes.1

by_count : {E : Type 0} (Went : Journal → Type 0) (most count : ℕ) (buffer : List ℕ) (b : Bool) → nat_eq count (length buffer) ≡ b → length buffer ≡ most → count ≤ most
    → Fills {E = E} Went most (Ok count) buffer → MatchBool b (Came Went buffer false) (Lost Went)
by_count Went most count buffer true same size within fills =
    let all : count ≡ length buffer = eqb-true count (length buffer) same in
    let whole : take (length (taken fills.journal)) buffer ≡ buffer = ap (λ (n : ℕ). take n buffer) (sym fills.counted ∙ all) ∙ take-length buffer in
    record {
      journal = fills.journal;
      went = fills.went;
      sends = takes_send_nothing most fills.journal fills.takes;
      taken_is = sym fills.front ∙ whole;
      stops = fills.ended ∙ le-ltb count most (omega (arith, all, size));
    }
by_count Went most count buffer false same size within fills =
    let less : count < most = grind (arith, nat_tests) in
    record {
      bytes = taken fills.journal;
      came = record {
        journal = fills.journal;
        went = fills.went;
        sends = takes_send_nothing most fills.journal fills.takes;
        taken_is = refl;
        stops = fills.ended ∙ lt-ltb count most less;
      };
    }

pub filled : {E : Type 0} (Went : Journal → Type 0) (most count : ℕ) (buffer : List ℕ) → length buffer ≡ most → count ≤ most → Fills {E = E} Went most (Ok count) buffer
    → MatchBool (nat_eq count (length buffer)) (Came Went buffer false) (Lost Went)
filled Went most count buffer size within fills = by_count Went most count buffer (nat_eq count (length buffer)) refl size within fills

pub not_filled : {E : Type 0} (Went : Journal → Type 0) (most : ℕ) (error : E) (buffer : List ℕ) → Fills {E = E} Went most (Err error) buffer → Lost Went
not_filled Went most error buffer fills = record {
  bytes = taken fills.journal;
  came = record {
    journal = fills.journal;
    went = fills.went;
    sends = takes_send_nothing most fills.journal fills.takes;
    taken_is = refl;
    stops = fills.failed;
  };
}

-- a filling, with what it did to the link's count
pub counted_well : {E : Type 0} (Went : Journal → Type 0) (most count before now : ℕ) (buffer : List ℕ) → now ≡ before → Fills {E = E} Went most (Ok count) buffer
    → Fills {E = E} (λ journal. WentCounting Went before now journal) most (Ok count) buffer
counted_well Went most count before now buffer same fills = record {
  journal = fills.journal;
  went = record { gone = fills.went; counts = tell_same before now fills.journal fills.calm same };
  takes = fills.takes;
  front = fills.front;
  counted = fills.counted;
  ended = fills.ended;
  failed = tt;
  calm = fills.calm;
  broken = tt;
}

pub counted_in_vain : {E : Type 0} (Went : Journal → Type 0) (most before now : ℕ) (error : E) (buffer : List ℕ) → before ≤ now → Rose before now
    → Fills {E = E} Went most (Err error) buffer → Fills {E = E} (λ journal. WentCounting Went before now journal) most (Err error) buffer
counted_in_vain Went most before now error buffer up rose fills = record {
  journal = fills.journal;
  went = record { gone = fills.went; counts = tell_rose before now fills.journal fills.broken up rose };
  takes = fills.takes;
  front = fills.front;
  counted = tt;
  ended = tt;
  failed = fills.failed;
  calm = tt;
  broken = fills.broken;
}

pub came_more : (First Second Both : Journal → Type 0) (front back : List ℕ) (stopped : Bool) → ((one other : Journal) → First one → Second other → Both (one ++ other))
    → Came First front false → Came Second back stopped → Came Both (front ++ back) stopped
came_more First Second Both front back stopped joins one other = record {
  journal = one.journal ++ other.journal;
  went = joins one.journal other.journal one.went other.went;
  sends = flat_map-append (λ (e : Entry). sent_by e.move) one.journal other.journal ∙ (ap (λ (xs : List (List ℕ)). xs ++ sent other.journal) one.sends ∙ other.sends);
  taken_is = taken_joins one.journal other.journal ∙ (ap (λ (xs : List ℕ). xs ++ taken other.journal) one.taken_is ∙ ap (λ (xs : List ℕ). front ++ xs) other.taken_is);
  stops = stops_joins one.journal other.journal one.stops ∙ other.stops;
}

pub lost_more : (First Second Both : Journal → Type 0) (front : List ℕ) → ((one other : Journal) → First one → Second other → Both (one ++ other))
    → Came First front false → Lost Second → Lost Both
lost_more First Second Both front joins one other = record { bytes = front ++ other.bytes; came = came_more First Second Both front other.bytes true joins one other.came }

pub front_of : (count : ℕ) (front later : List ℕ) → length front ≡ count → take count (front ++ later) ≡ front
front_of count front later long = ap (λ (n : ℕ). take n (front ++ later)) (sym long) ∙ take-append_seam front later

-- ---- the bytes of one frame

no_rest : (bytes fb rest : List ℕ) → bytes ≡ fb ++ rest → length bytes ≤ length fb → bytes ≡ fb
no_rest bytes fb rest is few =
    let none : rest ≡ [] = nil_from_length rest (omega (arith, ap length is, length-append fb rest, few)) in
    is ∙ (ap (λ (xs : List ℕ). fb ++ xs) none ∙ append-nil fb)

-- a header that is a frame, or breaks a rule
pub whole_header : (bytes : List ℕ) → length bytes ≡ 8 → AreBytes bytes → ((missing : ℕ) → got_of bytes ≡ Short missing → ⊥) → IsWhole bytes
whole_header bytes long fits other = record {
  not_short = other;
  exact = λ frame got.
      let begins = found_begins bytes frame fits got in
      let some : 8 ≤ length (frame_bytes frame) = omega arith in
      (begins.fits, no_rest bytes (frame_bytes frame) begins.rest begins.begins (omega (arith, long, some)));
}

bad_never : (kind missing : ℕ) → Bad kind ≡ Short missing → ⊥
bad_never kind missing e = cc

found_never : (frame : Frame) (missing : ℕ) → Found frame ≡ Short missing → ⊥
found_never frame missing e = cc

pub found_not_short : (bytes : List ℕ) (frame : Frame) → got_of bytes ≡ Found frame → (missing : ℕ) → got_of bytes ≡ Short missing → ⊥
found_not_short bytes frame found missing short = found_never frame missing (sym found ∙ short)

pub bad_not_short : (bytes : List ℕ) (kind : ℕ) → got_of bytes ≡ Bad kind → (missing : ℕ) → got_of bytes ≡ Short missing → ⊥
bad_not_short bytes kind bad missing short = bad_never kind missing (sym bad ∙ short)

abbrev pick : (b c d e : Bool) (x y kind : ℕ) (frame : Frame) → Got
pick b c d e x y kind frame = if b then Short x else if c then Bad kind else if d then Short y else if e then Found frame else Bad kind

missing_is : (b c d e : Bool) (x y kind missing : ℕ) (frame : Frame) → pick b c d e x y kind frame ≡ Short missing → ((b ≡ true) × (x ≡ missing)) ⊎ ((d ≡ true) × (y ≡ missing))
missing_is true c d e x y kind missing frame is = inl (refl, same x missing is)
  where
    same : (a b : ℕ) → Short a ≡ Short b → a ≡ b
    same a b e = cc
missing_is false true d e x y kind missing frame is = absurd (bad_never kind missing is)
missing_is false false true e x y kind missing frame is = inr (refl, same y missing is)
  where
    same : (a b : ℕ) → Short a ≡ Short b → a ≡ b
    same a b e = cc
missing_is false false false true x y kind missing frame is = absurd (found_never frame missing is)
missing_is false false false false x y kind missing frame is = absurd (bad_never kind missing is)

bad_is : (b c d e : Bool) (x y kind other : ℕ) (frame : Frame) → pick b c d e x y kind frame ≡ Bad other → kind ≡ other
bad_is true c d e x y kind other frame is = absurd (bad_never other x (sym is))
bad_is false true d e x y kind other frame is = same kind other is
  where
    same : (a b : ℕ) → Bad a ≡ Bad b → a ≡ b
    same a b e = cc
bad_is false false true e x y kind other frame is = absurd (bad_never other y (sym is))
bad_is false false false true x y kind other frame is = absurd (never frame other is)
  where
    never : (frame : Frame) (other : ℕ) → Found frame ≡ Bad other → ⊥
    never frame other e = cc
bad_is false false false false x y kind other frame is = same kind other is
  where
    same : (a b : ℕ) → Bad a ≡ Bad b → a ≡ b
    same a b e = cc

-- bytes that break a rule are told by the first of them
pub bad_begins : (bytes : List ℕ) (kind : ℕ) → got_of bytes ≡ Bad kind → kind_in bytes ≡ kind
bad_begins bytes kind bad =
    bad_is (nat_lt (length bytes) 8) (not (header_allowed bytes)) (nat_lt (length bytes) (8 + size_in bytes)) (payload_allowed (kind_in bytes) (payload_in bytes))
    (8 - length bytes) (8 + size_in bytes - length bytes) (kind_in bytes) kind (frame_in bytes) bad

-- what a whole header lacks is the payload that it names
lacks : (bytes : List ℕ) (missing : ℕ) → 8 ≤ length bytes → got_of bytes ≡ Short missing → (length bytes < 8 + size_in bytes) × (8 + size_in bytes - length bytes ≡ missing)
lacks bytes missing long short =
    elim (missing_is (nat_lt (length bytes) 8) (not (header_allowed bytes)) (nat_lt (length bytes) (8 + size_in bytes)) (payload_allowed (kind_in bytes) (payload_in bytes))
    (8 - length bytes) (8 + size_in bytes - length bytes) (kind_in bytes) missing (frame_in bytes) short) [
      | inl none ↦ (let less = ltb-true (length bytes) 8 none.0 in absurd (omega (arith, less, long)))
      | inr some ↦ (ltb-true (length bytes) (8 + size_in bytes) some.0, some.1)
    ]

size_stays : (header more : List ℕ) → length header ≡ 8 → size_in (header ++ more) ≡ size_in header
size_stays (a ∷ b ∷ c ∷ d ∷ rest) more long = refl
size_stays (a ∷ b ∷ c ∷ []) more long = absurd (omega (arith, long))
size_stays (a ∷ b ∷ []) more long = absurd (omega (arith, long))
size_stays (a ∷ []) more long = absurd (omega (arith, long))
size_stays [] more long = absurd (omega (arith, long))

-- a header and the payload that it lacked
pub whole_frame : (header payload : List ℕ) (missing : ℕ) → length header ≡ 8 → length payload ≡ missing → AreBytes header → AreBytes payload → got_of header ≡ Short missing
    → IsWhole (header ++ payload)
whole_frame header payload missing long size first second short =
    let bytes : List ℕ = header ++ payload in
    let lacked = lacks header missing (omega (arith, long)) short in
    let lengths : length bytes ≡ 8 + missing = length-append header payload ∙ (let e : length header + length payload ≡ 8 + missing = omega (arith, long, size) in e) in
    let stays : size_in bytes ≡ size_in header = size_stays header payload long in
    let named : size_in bytes ≡ missing = omega (arith, stays, lacked.0, lacked.1, long) in
    record {
      not_short = λ other again. (let more = lacks bytes other (omega (arith, lengths)) again in absurd (omega (arith, more.0, named, lengths)));
      exact = λ frame got.
          let begins = found_begins bytes frame (append_bytes header payload first second) got in
          let read : size_in bytes ≡ length (payload_of frame) = ap size_in begins.begins ∙ size_is_read frame begins.rest begins.fits in
          let some : length (frame_bytes frame) ≡ 8 + length (payload_of frame) = omega arith in
          (begins.fits, no_rest bytes (frame_bytes frame) begins.rest begins.begins (omega (arith, lengths, named, read, some)));
    }

pub came_as : (Went : Journal → Type 0) (bytes other : List ℕ) (stopped : Bool) → bytes ≡ other → Came Went bytes stopped → Came Went other stopped
came_as Went bytes other stopped same came = subst (λ (bs : List ℕ). Came Went bs stopped) same came
