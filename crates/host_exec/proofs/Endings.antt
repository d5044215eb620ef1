-- A session of a host, turn by turn, to its end.
use Rattle.std.proofs.Common.{◌≡◌, ℕ, zero, suc, min, MatchBool, flat_map, ◌+◌, ◌*◌, ◌<◌, ◌≤◌, Bool, true, false, ◌||◌, List, [], ◌∷◌, ◌++◌, length, refl, sym, ◌∙◌, ap, subst, append-nil, arith, length-append}
use Rattle.std.specs.List.{All, concat}
use Rattle.std.proofs.lemmas.Grind.{flat_map-append}
use Rattle.std.proofs.lemmas.List.Elements.{All-append, All-nil, All-cons}
use Rattle.ghost_model.specs.core.Causes.{Rose, last_count}
use Rattle.ghost_model.specs.forms.Frames.{IsFrame, frame_bytes}
use Rattle.ghost_model.specs.core.Channel.{Frame, Journal, Close, Made}
use Rattle.ghost_model.specs.core.Host.{Holding, Stand, frames_of, host_sends, bad_request}
use Rattle.ghost_model.specs.core.Host as host
use Rattle.ghost_model.specs.core.Moves.{taken, sent}
use Rattle.ghost_model.specs.core.NextMove.{is_stop}
use Rattle.edge_traits.specs.Links.{entry}
use Rattle.host_exec.specs.Saying.{Source, Stands}
use Rattle.host_exec.specs.Steps.{steps_left}
use Rattle.host_exec.specs.Replies.{source_of}
use Rattle.ghost_model.specs.forms.Catalog.{catalog_bytes}
use Rattle.host_exec.specs.Hosts.{StandsAs}
use Rattle.host_exec.specs.Sessions.{has_stopped, Ends, Turns, NamesFrame, Serves, SaidAll, SaidRefusing, AreFramesToBye, IsOneFrame, is_farewell}
use Rattle.host_exec.specs.Refusals.{AreGiven, times, host_sends_refusing, bad_request_refusing}
use Rattle.host_exec.specs.declared.host.Host.{Host}
use Rattle.host_exec.specs.declared.session.Served.{Served}
use Rattle.host_exec.specs.declared.session.Served.TheVariants as served
use Rattle.host_exec.specs.declared.session.Turn.TheVariants as turn
use Rattle.host_exec.specs.declared.stage.Stage.{Stage}
use Rattle.host_exec.specs.declared.stage.Stage.TheVariants as stage
use Rattle.host_exec.proofs.Going.{Going, going_begins, going_on, ended_well, ended_lost, ended_bad, not_over, sends_calm, bad_request_calm, taken_joins, sent_joins, stops_joins}

-- bytes are cut into frames, and where the host is over the last of them is a farewell
pub record AreFrames (bytes : List ℕ) (host : Host) : Type 0 where
  pub frames : List Frame
  pub fits : All IsFrame frames
  pub spelled : bytes ≡ flat_map frame_bytes frames
  pub last : host.stage ≡ stage.Over → AreFramesToBye bytes

-- so far these moves were made, and so many bytes taken
pub record TurnsSoFar (Went : Journal → Type 0) (at before now : ℕ) (Stood : Holding → (file : List ℕ) → Type 0) (host : Host) : Type 0 where
  pub journal : Journal
  pub went : Went journal
  pub going : has_stopped journal ≡ false
  pub counted : length (taken journal) ≡ at
  pub cut : AreFrames (taken journal) host
  pub refused : List Bool
  pub refusals : min (before + times refused) last_count ≤ now
  pub none : times refused ≡ 0 → now ≡ before
  pub said : (held : Holding) (file : List ℕ) → Stood held file → Going held file refused journal host

times_last : (refused : List Bool) (this : Bool) → times (refused ++ this ∷ []) ≡ times refused + times (this ∷ [])
times_last [] this = omega arith
times_last (true ∷ later) this = (let rest = times_last later this in omega (arith, rest))
times_last (false ∷ later) this = times_last later this

more_times : (before between now : ℕ) (refused : List Bool) (this : Bool) → between ≤ now → min (before + times refused) last_count ≤ between
    → MatchBool this (Rose between now) (now ≡ between) → min (before + times (refused ++ this ∷ [])) last_count ≤ now
more_times before between now refused true second so rose = (let e = times_last refused true in omega (arith, second, so, rose, e))
more_times before between now refused false second so same = (let e = times_last refused false in omega (arith, second, so, same, e))

no_times : (before between now : ℕ) (refused : List Bool) (this : Bool) → (times refused ≡ 0 → between ≡ before)
    → MatchBool this (Rose between now) (now ≡ between) → times (refused ++ this ∷ []) ≡ 0 → now ≡ before
no_times before between now refused true so rose none = (let e = times_last refused true in absurd (omega (arith, none, e)))
no_times before between now refused false so same none =
    (let e = times_last refused false in let calm : times refused ≡ 0 = omega (arith, none, e) in same ∙ so calm)

calm_times : (before now : ℕ) (refused : List Bool) → min (before + times refused) last_count ≤ now → (Rose before now → ⊥) → times refused ≡ 0
calm_times before now refused so calm = by_times (times refused) refl
  where
    by_times : (n : ℕ) → times refused ≡ n → times refused ≡ 0
    by_times zero is = is
    by_times (suc n) is = absurd (calm (omega (arith, so, is)))

-- where no answer was refused, a session went as the host's file says
calm_all : (held : Holding) (refused : List Bool) (journal : Journal) (ended : Served) → times refused ≡ 0 → (is_farewell ended ≡ true → AreFramesToBye (taken journal))
    → SaidRefusing held refused journal ended → SaidAll held journal ended
calm_all held refused journal ended none farewell said = record {
  rest = said.rest;
  sends = sym (sends_calm held refused (taken journal) none) ∙ said.sends;
  whole = said.whole;
  bad = λ going. sym (bad_request_calm held refused (taken journal) none) ∙ said.bad going;
  farewell = λ is. (let end = farewell (ap is_farewell is) in record { front = flat_map frame_bytes end.front; last = end.last });
}

serves_as : (Went : Journal → Type 0) (journal : Journal) (ended : Served) (before now : ℕ) (refused : List Bool) (Stood : Holding → (file : List ℕ) → Type 0) (Holder : Holding → Type 0)
    → Went journal → Ends ended (has_stopped journal) before now → (is_farewell ended ≡ true → AreFramesToBye (taken journal))
    → ((kind at : ℕ) → ended ≡ served.BadRequest kind at → NamesFrame (taken journal) kind at) → min (before + times refused) last_count ≤ now → (times refused ≡ 0 → now ≡ before)
    → ((held : Holding) (file : List ℕ) → Stood held file → SaidRefusing held refused journal ended) → ((held : Holding) → Holder held → (file : List ℕ) × Stood held file)
    → Serves Went [] ended before now Holder
serves_as Went journal ended before now refused Stood Holder went ends farewell named refusals none said holds = record {
  journal = journal;
  front = journal;
  closes = sym (append-nil journal);
  went = went;
  ends = ends;
  farewell = farewell;
  named = named;
  refused = refused;
  refusals = refusals;
  none = none;
  refusing = λ held holder. (let file = holds held holder in said held file.0 file.1);
  said = λ calm held holder. (let file = holds held holder in calm_all held refused journal ended (calm_times before now refused refusals calm) farewell (said held file.0 file.1));
}

at_greeting : (catalog : List ℕ) (source : Source) (at : Stage) → at ≡ stage.Greeting → Stands catalog source at [] host.Greeting
at_greeting catalog source at is = subst (λ (s : Stage). Stands catalog source s [] host.Greeting) (sym is) (refl, refl)

pub never_over : (at : Stage) → at ≡ stage.Greeting → at ≡ stage.Over → ⊥
never_over at is over = never (sym is ∙ over)
  where
    never : stage.Greeting ≡ stage.Over → ⊥
    never e = cc

pub turns_begin : (Went : Journal → Type 0) (count : ℕ) (Stood : Holding → (file : List ℕ) → Type 0) (start : Host) → Went [] → start.stage ≡ stage.Greeting → TurnsSoFar Went 0 count count Stood start
turns_begin Went count Stood start went is = record {
  journal = [];
  went = went;
  going = refl;
  counted = refl;
  cut = record { frames = []; fits = All-nil IsFrame; spelled = refl; last = λ over. absurd (never_over start.stage is over) };
  refused = [];
  refusals = omega arith;
  none = λ _. refl;
  said = λ held file stood. going_begins held file start (at_greeting (catalog_bytes start.catalog) (source_of start.reply file) start.stage is);
}

pub fits_first : (catalog size : ℕ) (at : Stage) → catalog ≡ size → size < 4294967296 → at ≡ stage.Greeting → 0 + 2048 * steps_left catalog at ≤ 18446744073709551615
fits_first catalog size at is few first =
    subst (λ (s : Stage). 0 + 2048 * steps_left catalog s ≤ 18446744073709551615) (sym first) (omega (arith, is, few))

pub fits_on : (at size steps later : ℕ) → at + 2048 * steps ≤ 18446744073709551615 → size ≤ 2048 → later < steps → at + size + 2048 * later ≤ 18446744073709551615
fits_on at size steps later fits small fewer = omega (arith, fits, small, fewer)

cut_on : (first more : Journal) (old new : Host) → AreFrames (taken first) old → IsOneFrame (taken more) new → AreFrames (taken (first ++ more)) new
cut_on first more old new cut one = record {
  frames = cut.frames ++ one.frame ∷ [];
  fits = All-append IsFrame cut.frames (one.frame ∷ []) cut.fits (All-cons IsFrame one.frame [] one.fits (All-nil IsFrame));
  spelled = taken_joins first more
      ∙ (ap (λ (bs : List ℕ). bs ++ taken more) cut.spelled
      ∙ (ap (λ (bs : List ℕ). flat_map frame_bytes cut.frames ++ bs) (one.spelled ∙ sym (append-nil (frame_bytes one.frame))) ∙ sym (flat_map-append frame_bytes cut.frames (one.frame ∷ []))));
  last = λ over. record {
    front = cut.frames;
    fits = cut.fits;
    last = taken_joins first more
        ∙ (ap (λ (bs : List ℕ). bs ++ taken more) cut.spelled ∙ ap (λ (bs : List ℕ). flat_map frame_bytes cut.frames ++ bs) (one.spelled ∙ ap frame_bytes (one.last over)));
  };
}

-- a turn is made where the host stands as it stood
pub turns_on : (Went Goes Both : Journal → Type 0) (at size before between now : ℕ) (flag : Bool) (Stood : Holding → (file : List ℕ) → Type 0) (Stands : Holding → (file : List ℕ) → Stand → Type 0)
    (old new : Host) → TurnsSoFar Went at before between Stood old → Turns Goes (turn.Answered size flag) between now Stands new
    → ((one other : Journal) → Went one → Goes other → Both (one ++ other)) → between ≤ now
    → ((held : Holding) (file : List ℕ) (stand : Stand) → Stood held file → StandsAs old file [] stand → Stands held file stand)
    → TurnsSoFar Both (at + size) before now Stood new
turns_on Went Goes Both at size before between now flag Stood Stands old new so made joins second stands = record {
  journal = so.journal ++ made.journal;
  went = joins so.journal made.journal so.went made.went;
  going = stops_joins so.journal made.journal so.going ∙ made.stops;
  counted = ap length (taken_joins so.journal made.journal) ∙ (length-append (taken so.journal) (taken made.journal)
      ∙ (ap (λ (n : ℕ). n + length (taken made.journal)) so.counted ∙ ap (λ (n : ℕ). at + n) (made.counted refl)));
  cut = cut_on so.journal made.journal old new so.cut (made.cut refl);
  refused = so.refused ++ made.refused ∷ [];
  refusals = more_times before between now so.refused made.refused second so.refusals made.refuses;
  none = no_times before between now so.refused made.refused so.none made.refuses;
  said = λ held file stood.
      let going = so.said held file stood in
      going_on held file so.refused made.refused so.journal made.journal old new going (made.said held file going.stand (stands held file going.stand stood going.stands));
}

as_named : (bytes : List ℕ) (kind at other place : ℕ) → served.BadRequest kind at ≡ served.BadRequest other place → NamesFrame bytes kind at → NamesFrame bytes other place
as_named bytes kind at other place e so =
    subst (λ (k : ℕ). NamesFrame bytes k place) (same_kind kind at other place e) (subst (λ (p : ℕ). NamesFrame bytes kind p) (same_place kind at other place e) so)
  where
    same_kind : (kind at other place : ℕ) → served.BadRequest kind at ≡ served.BadRequest other place → kind ≡ other
    same_kind kind at other place e = cc

    same_place : (kind at other place : ℕ) → served.BadRequest kind at ≡ served.BadRequest other place → at ≡ place
    same_place kind at other place e = cc

no_farewell : {P : Type 0} → false ≡ true → P
no_farewell e = cc

pub turns_lost : (Went Goes Both : Journal → Type 0) (at before between now : ℕ) (Stood : Holding → (file : List ℕ) → Type 0) (Stands : Holding → (file : List ℕ) → Stand → Type 0) (Holder : Holding → Type 0)
    (old new : Host) → TurnsSoFar Went at before between Stood old → Turns Goes turn.Lost between now Stands new
    → ((one other : Journal) → Went one → Goes other → Both (one ++ other)) → between ≤ now
    → ((held : Holding) (file : List ℕ) (stand : Stand) → Stood held file → StandsAs old file [] stand → Stands held file stand)
    → ((held : Holding) → Holder held → (file : List ℕ) × Stood held file)
    → Serves Both [] served.Link before now Holder
turns_lost Went Goes Both at before between now Stood Stands Holder old new so made joins second stands holds =
    let stopped : has_stopped (so.journal ++ made.journal) ≡ true = stops_joins so.journal made.journal so.going ∙ made.stops in
    serves_as Both (so.journal ++ made.journal) served.Link before now (so.refused ++ made.refused ∷ []) Stood Holder (joins so.journal made.journal so.went made.went) stopped (λ e. no_farewell e) (λ kind at e. cc)
    (more_times before between now so.refused made.refused second so.refusals made.refuses) (no_times before between now so.refused made.refused so.none made.refuses)
    (λ held file stood. (let going = so.said held file stood in
    ended_lost held file so.refused made.refused so.journal made.journal old going (made.said held file going.stand (stands held file going.stand stood going.stands)) stopped)) holds

pub turns_bad : (Went Goes Both : Journal → Type 0) (at kind before between now : ℕ) (Stood : Holding → (file : List ℕ) → Type 0) (Stands : Holding → (file : List ℕ) → Stand → Type 0) (Holder : Holding → Type 0)
    (old new : Host) → TurnsSoFar Went at before between Stood old → Turns Goes (turn.Bad kind) between now Stands new
    → ((one other : Journal) → Went one → Goes other → Both (one ++ other)) → now ≡ between → (old.stage ≡ stage.Over → ⊥)
    → ((held : Holding) (file : List ℕ) (stand : Stand) → Stood held file → StandsAs old file [] stand → Stands held file stand)
    → ((held : Holding) → Holder held → (file : List ℕ) × Stood held file)
    → Serves Both [] (served.BadRequest kind at) before now Holder
turns_bad Went Goes Both at kind before between now Stood Stands Holder old new so made joins same running stands holds =
    serves_as Both (so.journal ++ made.journal) (served.BadRequest kind at) before now so.refused Stood Holder (joins so.journal made.journal so.went made.went)
    (stops_joins so.journal made.journal so.going ∙ made.stops) (λ e. no_farewell e)
    (λ other place e. as_named (taken (so.journal ++ made.journal)) kind at other place e (record {
      front = so.cut.frames;
      fits = so.cut.fits;
      size = ap length (sym so.cut.spelled) ∙ so.counted;
      rest = taken made.journal;
      joined = taken_joins so.journal made.journal ∙ ap (λ (bs : List ℕ). bs ++ taken made.journal) so.cut.spelled;
      begins = made.named kind refl;
    }))
    (subst (λ (n : ℕ). min (before + times so.refused) last_count ≤ n) (sym same) so.refusals) (λ none. same ∙ so.none none)
    (λ held file stood. (let going = so.said held file stood in
    ended_bad held file so.refused so.journal made.journal old kind at going (made.said held file going.stand (stands held file going.stand stood going.stands))
    (not_over (catalog_bytes old.catalog) (source_of old.reply file) old.stage going.stand running going.stands) so.counted)) holds

pub turns_bye : (Went : Journal → Type 0) (at before now : ℕ) (Stood : Holding → (file : List ℕ) → Type 0) (Holder : Holding → Type 0) (last : Host)
    → TurnsSoFar Went at before now Stood last → now ≡ before → last.stage ≡ stage.Over → ((held : Holding) → Holder held → (file : List ℕ) × Stood held file) → Serves Went [] served.Bye before now Holder
turns_bye Went at before now Stood Holder last so same over holds =
    serves_as Went so.journal served.Bye before now so.refused Stood Holder so.went (so.going, same) (λ _. so.cut.last over) (λ kind place e. cc) so.refusals so.none
    (λ held file stood. ended_well held file so.refused so.journal last served.Bye (so.said held file stood) refl) holds

pub turns_depot : (Went : Journal → Type 0) (at before now : ℕ) (Stood : Holding → (file : List ℕ) → Type 0) (Holder : Holding → Type 0) (last : Host)
    → TurnsSoFar Went at before now Stood last → Rose before now → last.stage ≡ stage.Over → ((held : Holding) → Holder held → (file : List ℕ) × Stood held file) → Serves Went [] served.Depot before now Holder
turns_depot Went at before now Stood Holder last so rose over holds =
    serves_as Went so.journal served.Depot before now so.refused Stood Holder so.went (so.going, rose) (λ _. so.cut.last over) (λ kind place e. cc) so.refusals so.none
    (λ held file stood. ended_well held file so.refused so.journal last served.Depot (so.said held file stood) refl) holds

stops_closed : (journal : Journal) → has_stopped (journal ++ entry Close Made ∷ []) ≡ has_stopped journal
stops_closed [] = refl
stops_closed (made ∷ more) = ap (λ (b : Bool). is_stop made.answer || b) (stops_closed more)

ends_closed : (ended : Served) (one other : Bool) (before now : ℕ) → other ≡ one → Ends ended one before now → Ends ended other before now
ends_closed ended one other before now same ends = subst (λ (b : Bool). Ends ended b before now) (sym same) ends

taken_closed : (journal : Journal) → taken (journal ++ entry Close Made ∷ []) ≡ taken journal
taken_closed journal = taken_joins journal (entry Close Made ∷ []) ∙ append-nil (taken journal)

sent_closed : (journal : Journal) → concat (sent (journal ++ entry Close Made ∷ [])) ≡ concat (sent journal)
sent_closed journal = sent_joins journal (entry Close Made ∷ []) ∙ append-nil (concat (sent journal))

-- and the link was closed
closed_all : (held : Holding) (journal : Journal) (ended : Served) → SaidAll held journal ended → SaidAll held (journal ++ entry Close Made ∷ []) ended
closed_all held journal ended said =
    let stops = stops_closed journal in
    record {
      rest = said.rest;
      sends = ap (host_sends held) (taken_closed journal) ∙ (said.sends ∙ ap (λ (xs : List ℕ). xs ++ said.rest) (sym (sent_closed journal)));
      whole = λ going. said.whole (sym stops ∙ going);
      bad = λ going. ap (bad_request held) (taken_closed journal) ∙ said.bad (sym stops ∙ going);
      farewell = λ is. (let end = said.farewell is in record { front = end.front; last = taken_closed journal ∙ end.last });
    }

closed_refusing : (held : Holding) (refused : List Bool) (journal : Journal) (ended : Served) → SaidRefusing held refused journal ended
    → SaidRefusing held refused (journal ++ entry Close Made ∷ []) ended
closed_refusing held refused journal ended said =
    let stops = stops_closed journal in
    record {
      rest = said.rest;
      sends = ap (host_sends_refusing held refused) (taken_closed journal) ∙ (said.sends ∙ ap (λ (xs : List ℕ). xs ++ said.rest) (sym (sent_closed journal)));
      whole = λ going. said.whole (sym stops ∙ going);
      bad = λ going. ap (bad_request_refusing held refused) (taken_closed journal) ∙ said.bad (sym stops ∙ going);
      given = λ going. subst (λ (bs : List ℕ). AreGiven held refused (frames_of bs) host.Greeting) (sym (taken_closed journal)) (said.given (sym stops ∙ going));
    }

pub serves_closed : (Went Both : Journal → Type 0) (ended : Served) (before now : ℕ) (Holder : Holding → Type 0) → Serves Went [] ended before now Holder
    → ((one : Journal) → Went one → Both (one ++ entry Close Made ∷ [])) → Serves Both (entry Close Made ∷ []) ended before now Holder
serves_closed Went Both ended before now Holder so joins = record {
  journal = so.journal ++ entry Close Made ∷ [];
  front = so.journal;
  closes = refl;
  went = joins so.journal so.went;
  ends = ends_closed ended (has_stopped so.journal) _ before now (stops_closed so.journal) so.ends;
  farewell = λ is. (let end = so.farewell is in record { front = end.front; fits = end.fits; last = taken_closed so.journal ∙ end.last });
  named = λ kind at e. subst (λ (bs : List ℕ). NamesFrame bs kind at) (sym (taken_closed so.journal)) (so.named kind at e);
  refused = so.refused;
  refusals = so.refusals;
  none = so.none;
  refusing = λ held holder. closed_refusing held so.refused so.journal ended (so.refusing held holder);
  said = λ calm held holder. closed_all held so.journal ended (so.said calm held holder);
}
