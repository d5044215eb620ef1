-- One frame of a key and what a host says to it.
use Rattle.std.proofs.Common.{◌≡◌, ℕ, ◌+◌, MatchBool, Some, Bool, true, false, List, [], ◌∷◌, ◌++◌, length, flat_map, refl, sym, ◌∙◌, ap, subst, append-nil}
use Rattle.std.specs.List.{concat}
use Rattle.ghost_model.specs.core.Channel.{Frame, Journal}
use Rattle.ghost_model.specs.forms.Frames.{frame_bytes}
use Rattle.ghost_model.specs.core.Host.{Holding, Stand, Response, frames_within, answer_as, refusal, said_with_refusals}
use Rattle.ghost_model.specs.core.Host as host
use Rattle.ghost_model.specs.core.Channel as channel
use Rattle.ghost_model.specs.core.Moves.{taken, sent}
use Rattle.host_exec.specs.Hosts.{StandsAs}
use Rattle.host_exec.specs.Sessions.{Came, Lost, BeginsAs, HeardAs, IsOneFrame, IsRefused, BreaksOff, Says, Speaks, Turns}
use Rattle.host_exec.specs.Refusals.{sends_refusing}
use Rattle.host_exec.specs.Saying.{Stands}
use Rattle.host_exec.specs.Replies.{source_of}
use Rattle.ghost_model.specs.forms.Catalog.{catalog_bytes}
use Rattle.host_exec.specs.declared.host.Host.{Host}
use Rattle.host_exec.specs.declared.session.Turn.TheVariants as turn
use Rattle.host_exec.proofs.Going.{taken_joins, sent_joins, stops_joins, refusing_first}
use Rattle.host_exec.proofs.Refused.{refused_reply}
use Rattle.host_exec.specs.declared.stage.Stage.{Stage}
use Rattle.host_exec.specs.declared.stage.Stage.TheVariants as stage

-- nothing whole came
pub turn_none : (Went : Journal → Type 0) (count : ℕ) (Stood : Holding → (file : List ℕ) → Stand → Type 0) (after : Host) → Lost Went → Turns Went turn.Lost count count Stood after
turn_none Went count Stood after lost = record {
  journal = lost.came.journal;
  went = lost.came.went;
  stops = lost.came.stops;
  counted = λ e. cc;
  cut = λ e. cc;
  named = λ kind e. cc;
  refused = false;
  refuses = refl;
  said = λ held file stand stood. record {
    rest = sends_refusing held (false ∷ []) stand (taken lost.came.journal);
    joined = sym (ap (λ (xs : List (List ℕ)). concat xs ++ sends_refusing held (false ∷ []) stand (taken lost.came.journal)) lost.came.sends);
  };
}

same_kind : (kind other : ℕ) → turn.Bad kind ≡ turn.Bad other → kind ≡ other
same_kind kind other e = cc

-- what came is out of its place
pub turn_bad : (Went : Journal → Type 0) (count : ℕ) (Stood : Holding → (file : List ℕ) → Stand → Type 0) (after : Host) (bytes : List ℕ) (kind : ℕ) → Came Went bytes false
    → BeginsAs kind bytes → ((held : Holding) (file : List ℕ) (stand : Stand) → Stood held file stand → IsRefused held stand bytes kind) → Turns Went (turn.Bad kind) count count Stood after
turn_bad Went count Stood after bytes kind came first refused = record {
  journal = came.journal;
  went = came.went;
  stops = came.stops;
  counted = λ e. cc;
  cut = λ e. cc;
  named = λ other e. subst (λ (bs : List ℕ). BeginsAs other bs) (sym came.taken_is) (subst (λ (k : ℕ). BeginsAs k bytes) (same_kind kind other e) first);
  refused = false;
  refuses = refl;
  said = λ held file stand stood. record {
    sends = came.sends;
    refused = subst (λ (bs : List ℕ). IsRefused held stand bs kind) (sym came.taken_is) (refused held file stand stood);
  };
}

taken_all : (one other : Journal) (bytes : List ℕ) → taken one ≡ bytes → taken other ≡ [] → taken (one ++ other) ≡ bytes
taken_all one other bytes first second =
    taken_joins one other ∙ (ap (λ (xs : List ℕ). xs ++ taken other) first ∙ (ap (λ (xs : List ℕ). bytes ++ xs) second ∙ append-nil bytes))

sent_all : (one other : Journal) → sent one ≡ [] → concat (sent (one ++ other)) ≡ concat (sent other)
sent_all one other none = sent_joins one other ∙ ap (λ (xs : List (List ℕ)). concat xs ++ concat (sent other)) none

said_last : (held : Holding) (stand : Stand) → sends_refusing held [] stand [] ≡ []
unfolding said_with_refusals frames_within
said_last held stand = refl

stands_listening : (file : List ℕ) (serial : ℕ) (after : Host) → after.stage ≡ stage.Listening serial → StandsAs after file [] (host.Listening serial)
stands_listening file serial after is =
    subst (λ (s : Stage). Stands (catalog_bytes after.catalog) (source_of after.reply file) s [] (host.Listening serial)) (sym is) (refl, refl)

-- the answer that was given to what came
record Answers (refused : Bool) (held : Holding) (file : List ℕ) (stand : Stand) (frame : Frame) (sends : List ℕ) (after : Host) : Type 0 where
  response : Response
  answer : answer_as refused held stand frame ≡ Some response
  says : sends ≡ flat_map frame_bytes response.says
  stands : StandsAs after file [] response.stand

broken_off : (held : Holding) (file : List ℕ) (stand : Stand) (bytes : List ℕ) (mid after : Host) (journal : Journal) → (so : HeardAs held file stand bytes mid) → BreaksOff mid after journal
    → Answers true held file stand so.frame (concat (sent journal)) after
broken_off held file stand bytes mid after journal so breaks =
    let stands = subst (λ (s : Stage). Stands (catalog_bytes mid.catalog) (source_of mid.reply file) s so.response.says so.response.stand) breaks.owed so.stands in
    record {
      response = refusal breaks.serial;
      answer = refused_reply held (catalog_bytes mid.catalog) (source_of mid.reply file) breaks.serial breaks.place breaks.count stand so.frame so.response stands so.answer;
      says = breaks.says ∙ sym (append-nil (frame_bytes (channel.SorryFrame breaks.serial 1)));
      stands = stands_listening file (breaks.serial + 1) after breaks.ended;
    }

answers : (refused : Bool) (held : Holding) (file : List ℕ) (stand : Stand) (bytes : List ℕ) (mid after : Host) (journal : Journal) (Owed : (file : List ℕ) → List Frame → Stand → Type 0)
    → (so : HeardAs held file stand bytes mid) → ((owed : List Frame) (later : Stand) → StandsAs mid file owed later → Owed file owed later)
    → MatchBool refused (BreaksOff mid after journal) ((file : List ℕ) (owed : List Frame) (stand : Stand) → Owed file owed stand → Says true file owed stand journal after)
    → Answers refused held file stand so.frame (concat (sent journal)) after
answers true held file stand bytes mid after journal Owed so owes says = broken_off held file stand bytes mid after journal so says
answers false held file stand bytes mid after journal Owed so owes says =
    let said = says file so.response.says so.response.stand (owes so.response.says so.response.stand so.stands) in
    record { response = so.response; answer = so.answer; says = sym said.1; stands = said.0 }

-- what came was answered, and all was said
pub turn_made : (First Second Both : Journal → Type 0) (before now size : ℕ) (flag : Bool) (Stood : Holding → (file : List ℕ) → Stand → Type 0)
    (Owed : (file : List ℕ) → List Frame → Stand → Type 0) (mid after : Host) (bytes : List ℕ)
    → ((one other : Journal) → First one → Second other → Both (one ++ other)) → Came First bytes false → Speaks Second true before now Owed mid after → length bytes ≡ size
    → IsOneFrame bytes mid → (after.stage ≡ stage.Over → mid.stage ≡ stage.Over)
    → ((held : Holding) (file : List ℕ) (stand : Stand) → Stood held file stand → HeardAs held file stand bytes mid)
    → ((held : Holding) (file : List ℕ) (stand : Stand) → Stood held file stand → (owed : List Frame) (later : Stand) → StandsAs mid file owed later → Owed file owed later)
    → Turns Both (turn.Answered size flag) before now Stood after
turn_made First Second Both before now size flag Stood Owed mid after bytes joins came speaks long one over heard owes = record {
  journal = came.journal ++ speaks.journal;
  went = joins came.journal speaks.journal came.went speaks.went;
  stops = stops_joins came.journal speaks.journal came.stops ∙ speaks.stops;
  counted = λ _. ap length (taken_all came.journal speaks.journal bytes came.taken_is speaks.takes) ∙ long;
  cut = λ _. record {
    frame = one.frame;
    fits = one.fits;
    spelled = taken_all came.journal speaks.journal bytes came.taken_is speaks.takes ∙ one.spelled;
    last = λ is. one.last (over is);
  };
  named = λ kind e. cc;
  refused = speaks.refused;
  refuses = speaks.counted;
  said = λ held file stand stood.
      let so = heard held file stand stood in
      let given = answers speaks.refused held file stand bytes mid after speaks.journal Owed so (owes held file stand stood) speaks.says in
      record {
        frame = so.frame;
        fits = so.fits;
        taken_is = taken_all came.journal speaks.journal bytes came.taken_is speaks.takes ∙ so.spelled;
        response = given.response;
        answer = given.answer;
        says = sent_all came.journal speaks.journal came.sends ∙ given.says;
        stands = given.stands;
      };
}

-- what would have been sent in answer to what came, and a front of it that was sent
record Front (refused : Bool) (held : Holding) (stand : Stand) (frame : Frame) (sends : List ℕ) : Type 0 where
  response : Response
  answer : answer_as refused held stand frame ≡ Some response
  rest : List ℕ
  joined : flat_map frame_bytes response.says ≡ sends ++ rest

front : (refused : Bool) (held : Holding) (file : List ℕ) (stand : Stand) (bytes : List ℕ) (mid after : Host) (journal : Journal) (Owed : (file : List ℕ) → List Frame → Stand → Type 0)
    → (so : HeardAs held file stand bytes mid) → ((owed : List Frame) (later : Stand) → StandsAs mid file owed later → Owed file owed later)
    → MatchBool refused (BreaksOff mid after journal) ((file : List ℕ) (owed : List Frame) (stand : Stand) → Owed file owed stand → Says false file owed stand journal after)
    → Front refused held stand so.frame (concat (sent journal))
front true held file stand bytes mid after journal Owed so owes says =
    let given = broken_off held file stand bytes mid after journal so says in
    record { response = given.response; answer = given.answer; rest = []; joined = sym given.says ∙ sym (append-nil (concat (sent journal))) }
front false held file stand bytes mid after journal Owed so owes says =
    let said = says file so.response.says so.response.stand (owes so.response.says so.response.stand so.stands) in
    record { response = so.response; answer = so.answer; rest = said.rest; joined = said.joined }

-- what came was answered, and a send failed
pub turn_unsaid : (First Second Both : Journal → Type 0) (before now : ℕ) (Stood : Holding → (file : List ℕ) → Stand → Type 0)
    (Owed : (file : List ℕ) → List Frame → Stand → Type 0) (mid after : Host) (bytes : List ℕ)
    → ((one other : Journal) → First one → Second other → Both (one ++ other)) → Came First bytes false → Speaks Second false before now Owed mid after
    → ((held : Holding) (file : List ℕ) (stand : Stand) → Stood held file stand → HeardAs held file stand bytes mid)
    → ((held : Holding) (file : List ℕ) (stand : Stand) → Stood held file stand → (owed : List Frame) (later : Stand) → StandsAs mid file owed later → Owed file owed later)
    → Turns Both turn.Lost before now Stood after
turn_unsaid First Second Both before now Stood Owed mid after bytes joins came speaks heard owes = record {
  journal = came.journal ++ speaks.journal;
  went = joins came.journal speaks.journal came.went speaks.went;
  stops = stops_joins came.journal speaks.journal came.stops ∙ speaks.stops;
  counted = λ e. cc;
  cut = λ e. cc;
  named = λ kind e. cc;
  refused = speaks.refused;
  refuses = speaks.counted;
  said = λ held file stand stood.
      let so = heard held file stand stood in
      let given = front speaks.refused held file stand bytes mid after speaks.journal Owed so (owes held file stand stood) speaks.says in
      record {
        rest = given.rest;
        joined = ap (sends_refusing held (speaks.refused ∷ []) stand) (taken_all came.journal speaks.journal bytes came.taken_is speaks.takes ∙ (so.spelled ∙ sym (append-nil (frame_bytes so.frame))))
            ∙ (refusing_first held stand speaks.refused [] so.frame [] given.response so.fits given.answer
            ∙ (ap (λ (xs : List ℕ). flat_map frame_bytes given.response.says ++ xs) (said_last held given.response.stand)
            ∙ (append-nil (flat_map frame_bytes given.response.says)
            ∙ (given.joined ∙ ap (λ (xs : List ℕ). xs ++ given.rest) (sym (sent_all came.journal speaks.journal came.sends))))));
      };
}
