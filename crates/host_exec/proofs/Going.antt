-- A session of a host, frame by frame.
use Rattle.std.proofs.Common.{◌≡◌, ℕ, zero, suc, ◌+◌, ◌≤◌, Bool, true, false, ◌||◌, List, [], ◌∷◌, ◌++◌, length, drop, flat_map, Option, None, Some, MatchOption, refl, sym, ◌∙◌, ap, subst, arith, append-nil, append_assoc, length-append}
use Rattle.std.specs.List.{concat}
use Rattle.std.proofs.Math.Seq.{drop-append_seam}
use Rattle.std.proofs.lemmas.Grind.{flat_map-append}
use Rattle.std.proofs.lemmas.List.{length-drop, drop-drop, nil_from_length}
use Rattle.ghost_model.specs.core.Channel.{Frame, Entry, Journal}
use Rattle.ghost_model.specs.forms.Frames.{Got, Found, Short, Bad, IsFrame, frame_bytes, got_of, frame_kind}
use Rattle.ghost_model.specs.core.Host.{Holding, Stand, Response, reply_to, answers_ask, goes_on, after_reply, said_with, frames_of, frames_within, frame_and, bad_rest, unless_over, refused_or, answer_to, host_sends, bad_request, answer_as, bad_with_refusals, said_with_refusals}
use Rattle.ghost_model.specs.laws.ShortWords.{said_to, bad_from}
use Rattle.ghost_model.specs.core.Host as host
use Rattle.ghost_model.specs.core.Moves.{taken, sent, piece_of, sent_by}
use Rattle.ghost_model.specs.core.NextMove.{InvalidFrame, is_stop}
use Rattle.ghost_model.proofs.ChannelLemmas.{spelled_is_found}
use Rattle.host_exec.specs.Saying.{Source, Stands}
use Rattle.host_exec.specs.Hosts.{StandsAs}
use Rattle.host_exec.specs.Refusals.{AreGiven, times, sends_refusing, bad_refusing, host_sends_refusing, bad_request_refusing}
use Rattle.host_exec.specs.Sessions.{has_stopped, sends_from, bad_in, invalid, bad_of, IsRefused, TurnMade, TurnLost, TurnBad, SaidRefusing}
use Rattle.host_exec.specs.declared.session.Served.{Served}
use Rattle.host_exec.proofs.Silence.{goes_somewhere}
use Rattle.host_exec.specs.declared.host.Host.{Host}
use Rattle.host_exec.specs.declared.session.Served.TheVariants as served
use Rattle.host_exec.specs.declared.stage.Stage.{Stage}
use Rattle.host_exec.specs.declared.stage.Stage.TheVariants as stage

-- ---- frames of bytes

frames_alike : (most more : ℕ) (bytes : List ℕ) → length bytes ≤ most → length bytes ≤ more → frames_within most bytes ≡ frames_within more bytes
unfolding frames_within
frames_alike zero zero bytes h k = refl
frames_alike zero (suc more) bytes h k =
    let none : bytes ≡ [] = nil_from_length bytes (omega (arith, h)) in
    sym (ap (λ (bs : List ℕ). frame_and (λ frame. frames_within more (drop (length (frame_bytes frame)) bs)) (got_of bs)) none)
frames_alike (suc most) zero bytes h k =
    let none : bytes ≡ [] = nil_from_length bytes (omega (arith, k)) in
    ap (λ (bs : List ℕ). frame_and (λ frame. frames_within most (drop (length (frame_bytes frame)) bs)) (got_of bs)) none
frames_alike (suc most) (suc more) bytes h k = by_got (got_of bytes) (λ rest few many. frames_alike most more rest few many)
  where
    shorter : (frame : Frame) (n : ℕ) → length bytes ≤ suc n → length (drop (length (frame_bytes frame)) bytes) ≤ n
    shorter frame n few =
        let some : 1 ≤ length (frame_bytes frame) = omega arith in
        omega (arith, length-drop (length (frame_bytes frame)) bytes, some, few)

    by_got : (got : Got) → ((rest : List ℕ) → length rest ≤ most → length rest ≤ more → frames_within most rest ≡ frames_within more rest) → frame_and (λ frame. frames_within most (drop (length (frame_bytes frame)) bytes)) got ≡ frame_and (λ frame. frames_within more (drop (length (frame_bytes frame)) bytes)) got
    by_got (Found frame) alike = ap (λ (fs : List Frame). frame ∷ fs) (alike (drop (length (frame_bytes frame)) bytes) (shorter frame most h) (shorter frame more k))
    by_got (Short missing) alike = refl
    by_got (Bad kind) alike = refl

frames_first : (frame : Frame) (more : List ℕ) → IsFrame frame → frames_of (frame_bytes frame ++ more) ≡ frame ∷ frames_of more
unfolding frames_within
frames_first frame more fits =
    let later : ℕ = length (drop 1 (frame_bytes frame) ++ more) in
    ap (λ (g : Got). frame_and (λ f. frames_within later (drop (length (frame_bytes f)) (frame_bytes frame ++ more))) g) (spelled_is_found frame more fits)
    ∙ ap (λ (fs : List Frame). frame ∷ fs)
    (ap (frames_within later) (drop-append_seam (frame_bytes frame) more)
    ∙ frames_alike later (length more) more (omega (arith, length-append (drop 1 (frame_bytes frame)) more)) (omega arith))

frames_none : (bytes : List ℕ) (kind : ℕ) → got_of bytes ≡ Bad kind → frames_of bytes ≡ []
unfolding frames_within
frames_none [] kind bad = refl
frames_none (byte ∷ bytes) kind bad =
    ap (λ (g : Got). frame_and (λ f. frames_within (length bytes) (drop (length (frame_bytes f)) (byte ∷ bytes))) g) bad

-- ---- what is said to a frame and to what follows it

pub refusing_first : (held : Holding) (stand : Stand) (this : Bool) (later : List Bool) (frame : Frame) (more : List ℕ) (answered : Response) → IsFrame frame
    → answer_as this held stand frame ≡ Some answered
    → sends_refusing held (this ∷ later) stand (frame_bytes frame ++ more) ≡ flat_map frame_bytes answered.says ++ sends_refusing held later answered.stand more
unfolding said_with_refusals
refusing_first held stand this later frame more answered fits answer =
    ap (λ (fs : List Frame). flat_map frame_bytes (said_with_refusals held (this ∷ later) fs stand)) (frames_first frame more fits)
    ∙ (ap (λ (o : Option Response). flat_map frame_bytes (said_with (said_with_refusals held later (frames_of more)) o)) answer
    ∙ flat_map-append frame_bytes answered.says (said_with_refusals held later (frames_of more) answered.stand))

-- where no answer is refused, a host says what it says
said_calm : (held : Holding) (refused : List Bool) (frames : List Frame) (stand : Stand) → times refused ≡ 0 → said_with_refusals held refused frames stand ≡ said_to held frames stand
unfolding said_with_refusals
said_calm held [] frames stand none = refl
said_calm held (true ∷ later) frames stand none = absurd (omega (arith, none))
said_calm held (false ∷ later) [] stand none = refl
said_calm held (false ∷ later) (frame ∷ frames) stand none = by_answer (answer_to held stand frame) (λ next. said_calm held later frames next none)
  where
    by_answer : (o : Option Response) → ((next : Stand) → said_with_refusals held later frames next ≡ said_to held frames next)
        → said_with (said_with_refusals held later frames) o ≡ said_with (said_to held frames) o
    by_answer None alike = refl
    by_answer (Some answered) alike = ap (λ (fs : List Frame). answered.says ++ fs) (alike answered.stand)

pub sends_calm : (held : Holding) (refused : List Bool) (key : List ℕ) → times refused ≡ 0 → host_sends_refusing held refused key ≡ host_sends held key
sends_calm held refused key none = ap (flat_map frame_bytes) (said_calm held refused (frames_of key) host.Greeting none)

-- and the same frames are out of their places
bad_calm : (held : Holding) (rest : List ℕ) (refused : List Bool) (frames : List Frame) (at : ℕ) (stand : Stand) → times refused ≡ 0
    → bad_with_refusals held rest refused frames at stand ≡ bad_from held rest frames at stand
unfolding bad_with_refusals
bad_calm held rest [] frames at stand none = refl
bad_calm held rest (true ∷ later) frames at stand none = absurd (omega (arith, none))
bad_calm held rest (false ∷ later) [] at stand none = refl
bad_calm held rest (false ∷ later) (frame ∷ frames) at stand none =
    ap (unless_over stand) (by_answer (answer_to held stand frame) (λ next. bad_calm held rest later frames (at + length (frame_bytes frame)) next none))
  where
    by_answer : (o : Option Response)
        → ((next : Stand) → bad_with_refusals held rest later frames (at + length (frame_bytes frame)) next ≡ bad_from held rest frames (at + length (frame_bytes frame)) next)
        → refused_or frame at (bad_with_refusals held rest later frames (at + length (frame_bytes frame))) o ≡ refused_or frame at (bad_from held rest frames (at + length (frame_bytes frame))) o
    by_answer None alike = refl
    by_answer (Some answered) alike = alike answered.stand

pub bad_request_calm : (held : Holding) (refused : List Bool) (key : List ℕ) → times refused ≡ 0 → bad_request_refusing held refused key ≡ bad_request held key
bad_request_calm held refused key none =
    bad_calm held (drop (length (flat_map frame_bytes (frames_of key))) key) refused (frames_of key) 0 host.Greeting none

sends_none : (held : Holding) (stand : Stand) (frame : Frame) → IsFrame frame → answer_to held stand frame ≡ None → sends_from held stand (frame_bytes frame) ≡ []
unfolding said_with_refusals
sends_none held stand frame fits none =
    ap (sends_from held stand) (sym (append-nil (frame_bytes frame)))
    ∙ (ap (λ (fs : List Frame). flat_map frame_bytes (said_to held fs stand)) (frames_first frame [] fits)
    ∙ ap (λ (o : Option Response). flat_map frame_bytes (said_with (said_to held (frames_of [])) o)) none)

sends_nothing : (held : Holding) (stand : Stand) (bytes : List ℕ) → frames_of bytes ≡ [] → sends_from held stand bytes ≡ []
unfolding said_with_refusals
sends_nothing held stand bytes none = ap (λ (fs : List Frame). flat_map frame_bytes (said_to held fs stand)) none

further : (front back more : List ℕ) → drop (length (front ++ back)) (front ++ more) ≡ drop (length back) more
further front back more =
    ap (λ (n : ℕ). drop n (front ++ more)) (length-append front back)
    ∙ (sym (drop-drop (length back) (length front) (front ++ more)) ∙ ap (drop (length back)) (drop-append_seam front more))

over_or : (held : Holding) (stand : Stand) (this : Bool) (frame : Frame) (answered : Response) (bad : Option InvalidFrame) → answer_as this held stand frame ≡ Some answered → unless_over stand bad ≡ bad
over_or held host.Greeting this frame answered bad e = refl
over_or held (host.Listening next) this frame answered bad e = refl
over_or held (host.Replying serial rest) this frame answered bad e = refl
over_or held host.Over false frame answered bad e = cc
over_or held host.Over true frame answered bad e = cc

going_or : (stand : Stand) (bad : Option InvalidFrame) → (stand ≡ host.Over → ⊥) → unless_over stand bad ≡ bad
going_or host.Greeting bad on = refl
going_or (host.Listening next) bad on = refl
going_or (host.Replying serial rest) bad on = refl
going_or host.Over bad on = absurd (on refl)

no_bad : (stand : Stand) → unless_over stand None ≡ None
no_bad host.Greeting = refl
no_bad (host.Listening next) = refl
no_bad (host.Replying serial rest) = refl
no_bad host.Over = refl

pub bad_first : (held : Holding) (stand : Stand) (at : ℕ) (this : Bool) (later : List Bool) (frame : Frame) (more : List ℕ) (answered : Response) → IsFrame frame
    → answer_as this held stand frame ≡ Some answered
    → bad_refusing held (this ∷ later) stand at (frame_bytes frame ++ more) ≡ bad_refusing held later answered.stand (at + length (frame_bytes frame)) more
unfolding bad_with_refusals
bad_first held stand at this later frame more answered fits answer =
    let after : ℕ = at + length (frame_bytes frame) in
    ap (λ (fs : List Frame). bad_with_refusals held (drop (length (flat_map frame_bytes fs)) (frame_bytes frame ++ more)) (this ∷ later) fs at stand) (frames_first frame more fits)
    ∙ (ap (λ (rest : List ℕ). bad_with_refusals held rest (this ∷ later) (frame ∷ frames_of more) at stand) (further (frame_bytes frame) (flat_map frame_bytes (frames_of more)) more)
    ∙ (ap (λ (o : Option Response). unless_over stand (refused_or frame at (bad_with_refusals held (drop (length (flat_map frame_bytes (frames_of more))) more) later (frames_of more) after) o)) answer
    ∙ over_or held stand this frame answered _ answer))

bad_here : (held : Holding) (stand : Stand) (at : ℕ) (frame : Frame) → IsFrame frame → answer_to held stand frame ≡ None → (stand ≡ host.Over → ⊥)
    → bad_in held stand at (frame_bytes frame) ≡ Some (invalid (frame_kind frame) at)
unfolding bad_with_refusals frames_within
bad_here held stand at frame fits none on =
    ap (bad_in held stand at) (sym (append-nil (frame_bytes frame)))
    ∙ (ap (λ (fs : List Frame). bad_from held (drop (length (flat_map frame_bytes fs)) (frame_bytes frame ++ [])) fs at stand) (frames_first frame [] fits)
    ∙ (ap (λ (o : Option Response). unless_over stand (refused_or frame at (bad_from held (drop (length (flat_map frame_bytes (frame ∷ []))) (frame_bytes frame ++ [])) [] (at + length (frame_bytes frame))) o)) none
    ∙ going_or stand _ on))

bad_rule : (held : Holding) (stand : Stand) (at : ℕ) (bytes : List ℕ) (kind : ℕ) → got_of bytes ≡ Bad kind → (stand ≡ host.Over → ⊥) → bad_in held stand at bytes ≡ Some (invalid kind at)
unfolding bad_with_refusals
bad_rule held stand at bytes kind bad on =
    ap (λ (fs : List Frame). bad_from held (drop (length (flat_map frame_bytes fs)) bytes) fs at stand) (frames_none bytes kind bad)
    ∙ (ap (λ (g : Got). unless_over stand (bad_rest at g)) bad ∙ going_or stand _ on)

-- bytes that break a rule
pub rule_broken : (held : Holding) (stand : Stand) (bytes : List ℕ) (kind : ℕ) → got_of bytes ≡ Bad kind → IsRefused held stand bytes kind
rule_broken held stand bytes kind bad = record {
  silent = sends_nothing held stand bytes (frames_none bytes kind bad);
  bad = λ at on. bad_rule held stand at bytes kind bad on;
}

-- a frame out of its place
pub out_of_place : (held : Holding) (stand : Stand) (bytes : List ℕ) (frame : Frame) (kind : ℕ) → IsFrame frame → bytes ≡ frame_bytes frame → kind ≡ frame_kind frame
    → answer_to held stand frame ≡ None → IsRefused held stand bytes kind
out_of_place held stand bytes frame kind fits spelled is none = record {
  silent = ap (sends_from held stand) spelled ∙ sends_none held stand frame fits none;
  bad = λ at on. ap (bad_in held stand at) spelled ∙ (bad_here held stand at frame fits none on ∙ ap (λ (k : ℕ). Some (invalid k at)) (sym is));
}

-- ---- journals

pub concat_joins : (xs ys : List (List ℕ)) → concat (xs ++ ys) ≡ concat xs ++ concat ys
concat_joins [] ys = refl
concat_joins (x ∷ xs) ys = ap (λ (bs : List ℕ). x ++ bs) (concat_joins xs ys) ∙ sym (append_assoc x (concat xs) (concat ys))

pub taken_joins : (first more : Journal) → taken (first ++ more) ≡ taken first ++ taken more
taken_joins first more = flat_map-append (λ (e : Entry). piece_of e.answer) first more

pub sent_joins : (first more : Journal) → concat (sent (first ++ more)) ≡ concat (sent first) ++ concat (sent more)
sent_joins first more = ap concat (flat_map-append (λ (e : Entry). sent_by e.move) first more) ∙ concat_joins (sent first) (sent more)

pub stops_joins : (first more : Journal) → has_stopped first ≡ false → has_stopped (first ++ more) ≡ has_stopped more
stops_joins [] more going = refl
stops_joins (made ∷ first) more going = by_first (is_stop made.answer) (stops_joins first more) going
  where
    by_first : (b : Bool) → (has_stopped first ≡ false → has_stopped (first ++ more) ≡ has_stopped more) → (b || has_stopped first) ≡ false
        → (b || has_stopped (first ++ more)) ≡ has_stopped more
    by_first true later going = cc
    by_first false later going = later going

-- ---- a session as far as it has come

pub record Going (held : Holding) (file : List ℕ) (refused : List Bool) (journal : Journal) (now : Host) : Type 0 where
  pub stand : Stand
  pub stands : StandsAs now file [] stand
  pub sends : (later : List Bool) (more : List ℕ)
      → host_sends_refusing held (refused ++ later) (taken journal ++ more) ≡ concat (sent journal) ++ sends_refusing held later stand more
  pub bad : (later : List Bool) (more : List ℕ)
      → bad_request_refusing held (refused ++ later) (taken journal ++ more) ≡ bad_refusing held later stand (length (taken journal)) more
  pub given : (later : List Bool) (more : List ℕ)
      → AreGiven held later (frames_of more) stand → AreGiven held (refused ++ later) (frames_of (taken journal ++ more)) host.Greeting

given_first : (held : Holding) (stand : Stand) (this : Bool) (later : List Bool) (frame : Frame) (more : List ℕ) (answered : Response) → IsFrame frame
    → answer_as this held stand frame ≡ Some answered → AreGiven held later (frames_of more) answered.stand → AreGiven held (this ∷ later) (frames_of (frame_bytes frame ++ more)) stand
unfolding AreGiven
given_first held stand this later frame more answered fits answer given =
    subst (λ (fs : List Frame). AreGiven held (this ∷ later) fs stand) (sym (frames_first frame more fits))
    (subst (λ (o : Option Response). MatchOption o ⊥ (λ next. AreGiven held later (frames_of more) next.stand)) (sym answer) given)

pub going_begins : (held : Holding) (file : List ℕ) (now : Host) → StandsAs now file [] host.Greeting → Going held file [] [] now
going_begins held file now stands = record { stand = host.Greeting; stands = stands; sends = λ later more. refl; bad = λ later more. refl; given = λ later more given. given }

pub going_on : (held : Holding) (file : List ℕ) (refused : List Bool) (this : Bool) (first more : Journal) (before now : Host) → (so : Going held file refused first before)
    → TurnMade this held file so.stand more now → Going held file (refused ++ this ∷ []) (first ++ more) now
going_on held file refused this first more before now so made = record {
  stand = made.response.stand;
  stands = made.stands;
  sends = λ later bytes.
      ap (λ (rs : List Bool). host_sends_refusing held rs (taken (first ++ more) ++ bytes)) (append_assoc refused (this ∷ []) later)
      ∙ (ap (host_sends_refusing held (refused ++ this ∷ later)) (whole bytes)
      ∙ (so.sends (this ∷ later) (frame_bytes made.frame ++ bytes)
      ∙ (ap (λ (bs : List ℕ). concat (sent first) ++ bs) (refusing_first held so.stand this later made.frame bytes made.response made.fits made.answer)
      ∙ (ap (λ (bs : List ℕ). concat (sent first) ++ (bs ++ sends_refusing held later made.response.stand bytes)) (sym made.says)
      ∙ (sym (append_assoc (concat (sent first)) (concat (sent more)) (sends_refusing held later made.response.stand bytes))
      ∙ ap (λ (bs : List ℕ). bs ++ sends_refusing held later made.response.stand bytes) (sym (sent_joins first more)))))));
  bad = λ later bytes.
      ap (λ (rs : List Bool). bad_request_refusing held rs (taken (first ++ more) ++ bytes)) (append_assoc refused (this ∷ []) later)
      ∙ (ap (bad_request_refusing held (refused ++ this ∷ later)) (whole bytes)
      ∙ (so.bad (this ∷ later) (frame_bytes made.frame ++ bytes)
      ∙ (bad_first held so.stand (length (taken first)) this later made.frame bytes made.response made.fits made.answer
      ∙ ap (λ (n : ℕ). bad_refusing held later made.response.stand n bytes)
      (ap (λ (bs : List ℕ). length (taken first) + length bs) (sym made.taken_is) ∙ (sym (length-append (taken first) (taken more)) ∙ ap length (sym (taken_joins first more)))))));
  given = λ later bytes given.
      subst (λ (rs : List Bool). AreGiven held rs (frames_of (taken (first ++ more) ++ bytes)) host.Greeting) (sym (append_assoc refused (this ∷ []) later))
      (subst (λ (bs : List ℕ). AreGiven held (refused ++ this ∷ later) (frames_of bs) host.Greeting) (sym (whole bytes))
      (so.given (this ∷ later) (frame_bytes made.frame ++ bytes) (given_first held so.stand this later made.frame bytes made.response made.fits made.answer given)));
}
  where
    whole : (bytes : List ℕ) → taken (first ++ more) ++ bytes ≡ taken first ++ (frame_bytes made.frame ++ bytes)
    whole bytes =
        ap (λ (bs : List ℕ). bs ++ bytes) (taken_joins first more)
        ∙ (append_assoc (taken first) (taken more) bytes ∙ ap (λ (bs : List ℕ). taken first ++ (bs ++ bytes)) made.taken_is)

nothing_more : {T : Type 0} (of : List Bool → List ℕ → T) (refused : List Bool) (bytes : List ℕ) → of refused bytes ≡ of (refused ++ []) (bytes ++ [])
nothing_more of refused bytes = ap (λ (rs : List Bool). of rs bytes) (sym (append-nil refused)) ∙ ap (of (refused ++ [])) (sym (append-nil bytes))

all_given : (held : Holding) (file : List ℕ) (refused : List Bool) (journal : Journal) (now : Host) → (so : Going held file refused journal now) → (more : List ℕ)
    → AreGiven held refused (frames_of (taken journal ++ more)) host.Greeting
unfolding AreGiven
all_given held file refused journal now so more =
    subst (λ (rs : List Bool). AreGiven held rs (frames_of (taken journal ++ more)) host.Greeting) (append-nil refused) (so.given [] more tt)

-- the key said farewell
pub ended_well : (held : Holding) (file : List ℕ) (refused : List Bool) (journal : Journal) (now : Host) (ended : Served) → Going held file refused journal now → bad_of ended ≡ None
    → SaidRefusing held refused journal ended
unfolding said_with_refusals bad_with_refusals frames_within
ended_well held file refused journal now ended so none = record {
  rest = [];
  sends = nothing_more (host_sends_refusing held) refused (taken journal) ∙ so.sends [] [];
  whole = λ _. refl;
  bad = λ _. nothing_more (bad_request_refusing held) refused (taken journal) ∙ (so.bad [] [] ∙ (no_bad so.stand ∙ sym none));
  given = λ _. subst (λ (bs : List ℕ). AreGiven held refused (frames_of bs) host.Greeting) (append-nil (taken journal)) (all_given held file refused journal now so []);
}

-- a move failed, or the stream ended
pub ended_lost : (held : Holding) (file : List ℕ) (refused : List Bool) (this : Bool) (first more : Journal) (now : Host) → (so : Going held file refused first now)
    → TurnLost this held so.stand more → has_stopped (first ++ more) ≡ true → SaidRefusing held (refused ++ this ∷ []) (first ++ more) served.Link
ended_lost held file refused this first more now so lost stopped = record {
  rest = lost.rest;
  sends = ap (host_sends_refusing held (refused ++ this ∷ [])) (taken_joins first more)
      ∙ (so.sends (this ∷ []) (taken more)
      ∙ (ap (λ (bs : List ℕ). concat (sent first) ++ bs) lost.joined
      ∙ (sym (append_assoc (concat (sent first)) (concat (sent more)) lost.rest) ∙ ap (λ (bs : List ℕ). bs ++ lost.rest) (sym (sent_joins first more)))));
  whole = λ going. never stopped going;
  bad = λ going. never stopped going;
  given = λ going. never stopped going;
}
  where
    never : {P : Type 0} {b : Bool} → b ≡ true → b ≡ false → P
    never yes_ no_ = cc

-- a frame was out of its place
pub ended_bad : (held : Holding) (file : List ℕ) (refused : List Bool) (first more : Journal) (now : Host) (kind at : ℕ) → (so : Going held file refused first now)
    → TurnBad held so.stand more kind → (so.stand ≡ host.Over → ⊥) → length (taken first) ≡ at → SaidRefusing held refused (first ++ more) (served.BadRequest kind at)
unfolding said_with_refusals bad_with_refusals
ended_bad held file refused first more now kind at so made on counted = record {
  rest = [];
  sends = ap (λ (rs : List Bool). host_sends_refusing held rs (taken (first ++ more))) (sym (append-nil refused))
      ∙ (ap (host_sends_refusing held (refused ++ [])) (taken_joins first more)
      ∙ (so.sends [] (taken more)
      ∙ (ap (λ (bs : List ℕ). concat (sent first) ++ bs) (made.refused.silent ∙ ap concat (sym made.sends))
      ∙ (sym (sent_joins first more) ∙ sym (append-nil (concat (sent (first ++ more))))))));
  whole = λ _. refl;
  bad = λ _.
      ap (λ (rs : List Bool). bad_request_refusing held rs (taken (first ++ more))) (sym (append-nil refused))
      ∙ (ap (bad_request_refusing held (refused ++ [])) (taken_joins first more)
      ∙ (so.bad [] (taken more) ∙ (made.refused.bad (length (taken first)) on ∙ ap (λ (n : ℕ). Some (invalid kind n)) counted)));
  given = λ _. subst (λ (bs : List ℕ). AreGiven held refused (frames_of bs) host.Greeting) (sym (taken_joins first more)) (all_given held file refused first now so (taken more));
}

-- a host that is not over stands where frames are awaited
pub not_over : (catalog : List ℕ) (source : Source) (at : Stage) (stand : Stand) → (at ≡ stage.Over → ⊥) → Stands catalog source at [] stand → stand ≡ host.Over → ⊥
not_over catalog source stage.Greeting stand on stands e = never (sym stands.1 ∙ e)
  where
    never : host.Greeting ≡ host.Over → ⊥
    never e = cc
not_over catalog source (stage.Welcoming at) stand on stands e = never (sym stands.1 ∙ e)
  where
    never : host.Listening 1 ≡ host.Over → ⊥
    never e = cc
not_over catalog source (stage.Listening next) stand on stands e = never (sym stands.1 ∙ e)
  where
    never : host.Listening next ≡ host.Over → ⊥
    never e = cc
not_over catalog source (stage.Answering serial place sent) stand on stands e = absurd (goes_somewhere serial _ stand stands.0)
not_over catalog source (stage.Replying serial place sent) stand on stands e = never _ (sym stands.1 ∙ e)
  where
    never : (rest : List Frame) → host.Replying serial rest ≡ host.Over → ⊥
    never rest e = cc
not_over catalog source stage.Over stand on stands e = on refl
