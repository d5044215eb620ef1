-- What became of a text's asks, by the state of its replies, and what its lines then say.
use Rattle.std.proofs.Common.{◌≡◌, ℕ, suc, Bool, true, false, ◌||◌, ◌==◌, List, [], ◌∷◌, ◌++◌, refl, sym, ap, ◌∙◌, subst, Some, Ok, slice_get}
use Rattle.std.specs.Prelude.{if◌then◌else◌, not, codes, ◌&&◌}
use Rattle.std.specs.List.{list_any}
use Rattle.ghost_model.specs.core.Query.{Query}
use Rattle.ghost_model.specs.readings.QueryReading.{reading}
use Rattle.ghost_model.specs.core.Channel.{Catalog, Entry, Journal}
use Rattle.ghost_model.specs.core.Asks.{NumberedAsk, asked_of}
use Rattle.ghost_model.specs.core.Moves.{answers}
use Rattle.ghost_model.specs.core.NextMove.{Awaits, AwaitsCatalog, AwaitsReply, AwaitsNothing, Ending, Answered, Refused, EndedAsk, Standing, standing_after, is_stop, ended_of}
use Rattle.ghost_model.specs.core.Split.{Hidden}
use Rattle.ghost_model.specs.core.Replies.{replies, answer_from}
use Rattle.ghost_model.specs.core.Lines.{WasBroken, AreLinesFor, BrokenLines, all_done, broken_word, is_refused_by, session_text}
use Rattle.ghost_model.specs.core.Printed.{word_line}
use Rattle.channel_pump.specs.Marks as marks
use Rattle.channel_pump.specs.Marks.{is_refusal, awaited, state_of}
use Rattle.channel_pump.specs.declared.state.ReplyState.{ReplyState}
use Rattle.channel_pump.specs.declared.state.ReplyState.TheVariants as state_is
use Rattle.session_laws.specs.TextEnds.{not_ended, is_settled, heard_in, is_settled_in, EndedTextsStay}
use Rattle.session_laws.specs.TextCases.{is_refused_in, IsDecided, TextsAreDecided, Outcome, IsDone, ByHost, ByLink, ByFrame}
use Rattle.key_exec.specs.Texts.{broken_line, IsToldBy, Why, is_refused as why_refused, is_answered, is_broken, AreBrokenLines, AreAnswerLines}
use Rattle.key_exec.specs.declared.text.Told.{Told}
use Rattle.key_exec.specs.declared.text.Told.TheVariants as told
use Rattle.key_session.specs.Counting.{reason_of}
use Rattle.key_exec.specs.Telling.{AreLinesOf}
use Rattle.key_session.specs.Reasons.{IsReason, CameTo, AreSomeLines, HasAnswerLines}

-- whether an ask of a text was refused
abbrev is_refused : (text : ℕ) → List EndedAsk → Bool
is_refused text ended = list_any (λ (end : EndedAsk). is_refused_by end.ending && end.asked.text == text) ended

same_ending : (ending : Ending) → marks.is_refused ending ≡ is_refused_by ending
same_ending (Answered _) = refl
same_ending (Refused _) = refl

same_refusals : (text : ℕ) (ends : List EndedAsk) → list_any (is_refusal text) ends ≡ is_refused text ends
same_refusals text [] = refl
same_refusals text (end ∷ ends) =
    ap (λ (b : Bool). (b && end.asked.text == text) || list_any (is_refusal text) ends) (same_ending end.ending)
    ∙ ap (λ (b : Bool). (is_refused_by end.ending && end.asked.text == text) || b) (same_refusals text ends)

same_awaited : (asks : List NumberedAsk) (awaits : Awaits) → awaited asks awaits ≡ not_ended asks awaits
same_awaited asks (AwaitsCatalog _) = refl
same_awaited asks (AwaitsReply asked serial later count last) = refl
same_awaited asks AwaitsNothing = refl

any_answer : (journal : Journal) → list_any (λ (e : Entry). is_stop e.answer) journal ≡ list_any is_stop (answers journal)
any_answer [] = refl
any_answer (entry ∷ journal) = ap (λ (b : Bool). is_stop entry.answer || b) (any_answer journal)

-- the state of a text's replies, by four tests
abbrev pub state_by : (refused settled stopped broken : Bool) → ReplyState
state_by refused settled stopped broken =
    if refused then state_is.Host else if settled then state_is.Done else if stopped then state_is.Link
    else if broken then state_is.Protocol else state_is.Awaited

same_state : (asks : List NumberedAsk) (text : ℕ) (l : Standing)
    → state_of asks text l ≡ state_by (is_refused text l.heard.ended) (is_settled asks text l.heard.awaits) l.stopped l.heard.broken
same_state asks text l =
    ap (λ (b : Bool). state_by b (not (list_any (λ (one : NumberedAsk). one.text == text) (awaited asks l.heard.awaits))) l.stopped l.heard.broken) (same_refusals text l.heard.ended)
    ∙ ap (λ (xs : List NumberedAsk). state_by (is_refused text l.heard.ended) (not (list_any (λ (one : NumberedAsk). one.text == text) xs)) l.stopped l.heard.broken) (same_awaited asks l.heard.awaits)

by_host : (r s t b : Bool) → r ≡ true → state_by r s t b ≡ state_is.Host
by_host true s t b e = refl
by_host false s t b e = cc

by_done : (r s t b : Bool) → r ≡ false → s ≡ true → state_by r s t b ≡ state_is.Done
by_done false true t b e f = refl
by_done true s t b e f = cc
by_done false false t b e f = cc

by_link : (r s t b : Bool) → r ≡ false → s ≡ false → t ≡ true → state_by r s t b ≡ state_is.Link
by_link false false true b e f g = refl
by_link true s t b e f g = cc
by_link false true t b e f g = cc
by_link false false false b e f g = cc

by_frame : (r s t b : Bool) → r ≡ false → s ≡ false → t ≡ false → b ≡ true → state_by r s t b ≡ state_is.Protocol
by_frame false false false true e f g h = refl
by_frame true s t b e f g h = cc
by_frame false true t b e f g h = cc
by_frame false false true b e f g h = cc
by_frame false false false false e f g h = cc

none_refused : (r s : Bool) → (not r && s) ≡ true → r ≡ false
none_refused true s e = cc
none_refused false s e = refl

is_so : (r s : Bool) → (not r && s) ≡ true → s ≡ true
is_so true s e = cc
is_so false s e = e

not_so : (r s : Bool) → (not r && s) ≡ false → r ≡ false → s ≡ false
not_so true s e f = cc
not_so false s e f = e

module _ (catalog : Catalog) (texts : List (List ℕ)) (journal : Journal) (place : ℕ) (written : List ℕ) (query : Query) where
  abbrev pub ends : List EndedAsk
  ends = ended_of catalog (asked_of catalog.schema texts) journal (suc place)

  abbrev pub refused : Bool
  refused = is_refused_in catalog texts journal (suc place)

  abbrev pub settled : Bool
  settled = is_settled_in catalog texts journal (suc place)

  abbrev pub here : ReplyState
  here = state_of (asked_of catalog.schema texts) (suc place) (standing_after catalog (asked_of catalog.schema texts) journal)

  pub record AllDone : Type 0 where
    pub done : all_done catalog.schema query ends ≡ true
    pub none_was_refused : refused ≡ false
    pub was_settled : settled ≡ true

  abbrev pub IsBrokenBy : (word : List ℕ) → Type 0
  IsBrokenBy word = (all_done catalog.schema query ends ≡ false) × (broken_word ends journal ≡ word)

  -- what became of the asks, by the state of the replies
  abbrev pub Came : ReplyState → Type 0
  Came state_is.Done = AllDone
  Came state_is.Host = IsBrokenBy (codes "host")
  Came state_is.Link = IsBrokenBy (codes "link")
  Came state_is.Protocol = IsBrokenBy (codes "protocol")
  Came state_is.Awaited = ⊥

  abbrev stops : Bool
  stops = (standing_after catalog (asked_of catalog.schema texts) journal).stopped

  abbrev invalid : Bool
  invalid = (heard_in catalog texts journal).broken

  abbrev here_by : ReplyState
  here_by = state_by refused settled stops invalid

  came_by : IsDecided catalog texts journal (suc place) query → Outcome catalog texts journal (suc place) query → Came here_by
  came_by decided (IsDone d) =
      let both : (not refused && settled) ≡ true = sym decided.done ∙ d in
      subst Came (sym (by_done refused settled stops invalid (none_refused refused settled both) (is_so refused settled both)))
      (record { done = d; none_was_refused = none_refused refused settled both; was_settled = is_so refused settled both })
  came_by decided (ByHost d r word) = subst Came (sym (by_host refused settled stops invalid r)) (d, word)
  came_by decided (ByLink d r stop word) =
      subst Came (sym (by_link refused settled stops invalid r (not_so refused settled (sym decided.done ∙ d) r) (any_answer journal ∙ stop))) (d, word)
  came_by decided (ByFrame d r stop broken word) =
      subst Came (sym (by_frame refused settled stops invalid r (not_so refused settled (sym decided.done ∙ d) r) (any_answer journal ∙ stop) broken)) (d, word)

  pub came : IsDecided catalog texts journal (suc place) query → Outcome catalog texts journal (suc place) query → (state : ReplyState) → state ≡ here → Came state
  came decided outcome state e =
      subst Came (sym (e ∙ same_state (asked_of catalog.schema texts) (suc place) (standing_after catalog (asked_of catalog.schema texts) journal))) (came_by decided outcome)

  -- the line of what ended the asks
  broken_lines : (kept : Hidden) (lines : List (List ℕ)) (word : List ℕ) → reading catalog.schema written ≡ Ok query → IsBrokenBy word → lines ≡ word_line (suc place) word ∷ [] → BrokenLines (session_text catalog kept texts journal (suc place) written) lines
  broken_lines kept lines word accepted b are = record {
    query = query;
    accepted = accepted;
    broken = b.0;
    line = are ∙ ap (λ (w : List ℕ). word_line (suc place) w ∷ []) (sym b.1);
  }

  pub broken_so : (kept : Hidden) (lines : List (List ℕ)) → reading catalog.schema written ≡ Ok query → (state : ReplyState) → Came state → (state ≡ state_is.Done → ⊥)
      → (result : Told) → AreBrokenLines (suc place) state lines result → AreLinesFor (reason_of result) (session_text catalog kept texts journal (suc place) written) lines
  broken_so kept lines accepted state c unended told.Refused are = absurd are
  broken_so kept lines accepted state c unended told.Answered are = absurd are
  broken_so kept lines accepted state c unended told.Marked are = absurd are
  broken_so kept lines accepted state c unended told.Flash are = absurd are
  broken_so kept lines accepted state c unended (told.Damaged damage) are = absurd are
  broken_so kept lines accepted state c unended told.Host are = broken_lines kept lines _ accepted (subst Came are.0 c) are.1
  broken_so kept lines accepted state c unended told.Protocol are = broken_lines kept lines _ accepted (subst Came are.0 c) are.1
  broken_so kept lines accepted state_is.Link c unended told.Link are = broken_lines kept lines _ accepted c are.1
  broken_so kept lines accepted state_is.Done c unended told.Link are = absurd (unended refl)
  broken_so kept lines accepted state_is.Host c unended told.Link are = absurd (are.0.1 refl)
  broken_so kept lines accepted state_is.Protocol c unended told.Link are = absurd (are.0.0 refl)
  broken_so kept lines accepted state_is.Awaited c unended told.Link are = absurd c

  pub answered_so : (kept : Hidden) (lines : List (List ℕ)) → reading catalog.schema written ≡ Ok query → AllDone
      → (result : Told) → AreAnswerLines (suc place) (answer_from catalog.schema kept query (replies catalog (asked_of catalog.schema texts) journal (suc place))) lines result
      → AreLinesFor (reason_of result) (session_text catalog kept texts journal (suc place) written) lines
  answered_so kept lines accepted d told.Refused are = absurd are
  answered_so kept lines accepted d told.Answered are = record { query = query; accepted = accepted; done = d.done; answer = are }
  answered_so kept lines accepted d told.Host are = absurd are
  answered_so kept lines accepted d told.Link are = absurd are
  answered_so kept lines accepted d told.Protocol are = absurd are
  answered_so kept lines accepted d told.Marked are = record { query = query; accepted = accepted; done = d.done; given = are.given; left = are.left; front = are.front; answer = are.are }
  answered_so kept lines accepted d told.Flash are = record { query = query; accepted = accepted; done = d.done; given = are.given; left = are.left; front = are.front; answer = are.are }
  answered_so kept lines accepted d (told.Damaged damage) are = record { query = query; accepted = accepted; done = d.done; given = are.given; left = are.left; front = are.front; answer = are.are }

-- the lines that were printed of the text at a place
pub answers_so : (catalog : Catalog) (kept : Hidden) (texts : List (List ℕ)) (journal : Journal) (place : ℕ) (written : List ℕ) → slice_get texts place ≡ Some written
    → ((query : Query) → reading catalog.schema written ≡ Ok query → IsDecided catalog texts journal (suc place) query)
    → ((query : Query) → reading catalog.schema written ≡ Ok query → Outcome catalog texts journal (suc place) query)
    → (state : ReplyState) → state ≡ state_of (asked_of catalog.schema texts) (suc place) (standing_after catalog (asked_of catalog.schema texts) journal)
    → (lines : List (List ℕ)) (result : Told) → Why catalog.schema kept (replies catalog (asked_of catalog.schema texts) journal (suc place)) (suc place) written state lines result
    → HasAnswerLines catalog kept texts journal place (reason_of result) lines
answers_so catalog kept texts journal place written stands decided outcome state is_state lines result (why_refused w) = record {
  written = written;
  stands = stands;
  lines_are = subst (λ (r : Told). AreLinesFor (reason_of r) (session_text catalog kept texts journal (suc place) written) lines) (sym w.is_told)
      (record { refusal = w.refusal; refused = w.refused; line = w.are });
}
answers_so catalog kept texts journal place written stands decided outcome state is_state lines result (is_answered w) = record {
  written = written;
  stands = stands;
  lines_are = answered_so catalog texts journal place written w.query kept lines w.accepted
      (subst (Came catalog texts journal place written w.query) w.done (came catalog texts journal place written w.query (decided w.query w.accepted) (outcome w.query w.accepted) state is_state))
      result w.are;
}
answers_so catalog kept texts journal place written stands decided outcome state is_state lines result (is_broken w) = record {
  written = written;
  stands = stands;
  lines_are = broken_so catalog texts journal place written w.query kept lines w.accepted state
      (came catalog texts journal place written w.query (decided w.query w.accepted) (outcome w.query w.accepted) state is_state) w.not_done result w.are;
}

-- the reason for the lines of the text at a place
module _ (catalog : Catalog) (texts : List (List ℕ)) (journal : Journal) (place : ℕ) (written : List ℕ) where
  came_done : (query : Query) → reading catalog.schema written ≡ Ok query → (state : ReplyState) → state ≡ state_is.Done → Came catalog texts journal place written query state → CameTo true catalog texts journal (suc place) written
  came_done query accepted state e c = record { query = query; accepted = accepted; done = (subst (Came catalog texts journal place written query) e c).done }

  came_broken : (query : Query) → reading catalog.schema written ≡ Ok query → (state : ReplyState) → (state ≡ state_is.Done → ⊥) → Came catalog texts journal place written query state → CameTo false catalog texts journal (suc place) written
  came_broken query accepted state_is.Done undone c = absurd (undone refl)
  came_broken query accepted state_is.Host undone c = record { query = query; accepted = accepted; done = c.0 }
  came_broken query accepted state_is.Link undone c = record { query = query; accepted = accepted; done = c.0 }
  came_broken query accepted state_is.Protocol undone c = record { query = query; accepted = accepted; done = c.0 }
  came_broken query accepted state_is.Awaited undone c = absurd c

  host_undone : (state : ReplyState) → state ≡ state_is.Host → state ≡ state_is.Done → ⊥
  host_undone state e f = cc

  protocol_undone : (state : ReplyState) → state ≡ state_is.Protocol → state ≡ state_is.Done → ⊥
  protocol_undone state e f = cc

  pub reason_so : (state : ReplyState) → state ≡ state_of (asked_of catalog.schema texts) (suc place) (standing_after catalog (asked_of catalog.schema texts) journal)
      → ((query : Query) → reading catalog.schema written ≡ Ok query → IsDecided catalog texts journal (suc place) query)
      → ((query : Query) → reading catalog.schema written ≡ Ok query → Outcome catalog texts journal (suc place) query)
      → (marked : Bool) (result : Told) → IsToldBy catalog.schema written state marked result → IsReason (reason_of result) catalog texts journal (suc place) written
  reason_so state is_state decided outcome marked result by = of result by
    where
      cames : (query : Query) → reading catalog.schema written ≡ Ok query → Came catalog texts journal place written query state
      cames query accepted = came catalog texts journal place written query (decided query accepted) (outcome query accepted) state is_state

      of : (result : Told) → IsToldBy catalog.schema written state marked result → IsReason (reason_of result) catalog texts journal (suc place) written
      of told.Refused is = is
      of told.Answered is = came_done is.query is.accepted state is.came.0 (cames is.query is.accepted)
      of told.Marked is = came_done is.query is.accepted state is.came.0 (cames is.query is.accepted)
      of told.Host is = came_broken is.query is.accepted state (host_undone state is.came) (cames is.query is.accepted)
      of told.Link is = came_broken is.query is.accepted state is.came.0 (cames is.query is.accepted)
      of told.Protocol is = came_broken is.query is.accepted state (protocol_undone state is.came) (cames is.query is.accepted)
      of told.Flash is = came_done is.query is.accepted state is.came.0 (cames is.query is.accepted)
      of (told.Damaged damage) is = came_done is.query is.accepted state is.came.0 (cames is.query is.accepted)

  -- and its lines, whatever the pages hold
  lines_by : (state : ReplyState) (word : List ℕ) (lines : List (List ℕ)) → lines ≡ broken_line (suc place) word → (query : Query) → IsBrokenBy catalog texts journal place written query word
      → AreSomeLines WasBroken catalog texts journal (suc place) written lines
  lines_by state word lines are query came = are ∙ ap (broken_line (suc place)) (sym came.1)

  link_word : (query : Query) (state : ReplyState) → Came catalog texts journal place written query state → (state ≡ state_is.Done → ⊥) → (state ≡ state_is.Protocol → ⊥) → (state ≡ state_is.Host → ⊥)
      → IsBrokenBy catalog texts journal place written query (codes "link")
  link_word query state_is.Link c undone no_frame no_host = c
  link_word query state_is.Done c undone no_frame no_host = absurd (undone refl)
  link_word query state_is.Host c undone no_frame no_host = absurd (no_host refl)
  link_word query state_is.Protocol c undone no_frame no_host = absurd (no_frame refl)
  link_word query state_is.Awaited c undone no_frame no_host = absurd c

  pub lines_so : (state : ReplyState) → state ≡ state_of (asked_of catalog.schema texts) (suc place) (standing_after catalog (asked_of catalog.schema texts) journal)
      → ((query : Query) → reading catalog.schema written ≡ Ok query → IsDecided catalog texts journal (suc place) query)
      → ((query : Query) → reading catalog.schema written ≡ Ok query → Outcome catalog texts journal (suc place) query)
      → (marked : Bool) (lines : List (List ℕ)) (result : Told) → IsToldBy catalog.schema written state marked result → AreLinesOf catalog.schema (suc place) written lines result
      → AreSomeLines (reason_of result) catalog texts journal (suc place) written lines
  lines_so state is_state decided outcome marked lines result by are = of result by are
    where
      cames : (query : Query) → reading catalog.schema written ≡ Ok query → Came catalog texts journal place written query state
      cames query accepted = came catalog texts journal place written query (decided query accepted) (outcome query accepted) state is_state

      of : (result : Told) → IsToldBy catalog.schema written state marked result → AreLinesOf catalog.schema (suc place) written lines result
          → AreSomeLines (reason_of result) catalog texts journal (suc place) written lines
      of told.Refused is are = are
      of told.Answered is are = are
      of told.Marked is are = record { rows = []; are = are }
      of told.Flash is are = are
      of (told.Damaged damage) is are = are
      of told.Host is are = lines_by state (codes "host") lines are is.query (subst (Came catalog texts journal place written is.query) is.came (cames is.query is.accepted))
      of told.Protocol is are = lines_by state (codes "protocol") lines are is.query (subst (Came catalog texts journal place written is.query) is.came (cames is.query is.accepted))
      of told.Link is are = lines_by state (codes "link") lines are is.query (link_word is.query state (cames is.query is.accepted) is.came.0 is.came.1.0 is.came.1.1)

done_by : (r s t b : Bool) → state_by r s t b ≡ state_is.Done → (r ≡ false) × (s ≡ true)
done_by true s t b e = cc
done_by false true t b e = (refl, refl)
done_by false false true b e = cc
done_by false false false true e = cc
done_by false false false false e = cc

-- where the replies are done, no ask was refused and none is awaited or still to come
pub done_so : (catalog : Catalog) (texts : List (List ℕ)) (journal : Journal) (text : ℕ) → state_of (asked_of catalog.schema texts) text (standing_after catalog (asked_of catalog.schema texts) journal) ≡ state_is.Done
    → (is_refused_in catalog texts journal text ≡ false) × (is_settled_in catalog texts journal text ≡ true)
done_so catalog texts journal text e =
    done_by (is_refused_in catalog texts journal text) (is_settled_in catalog texts journal text) (standing_after catalog (asked_of catalog.schema texts) journal).stopped (heard_in catalog texts journal).broken
    (sym (same_state (asked_of catalog.schema texts) text (standing_after catalog (asked_of catalog.schema texts) journal)) ∙ e)

-- and so it is after more moves
pub done_still : EndedTextsStay → TextsAreDecided → (catalog : Catalog) (texts : List (List ℕ)) (journal more : Journal) (place : ℕ) (written : List ℕ) (query : Query) → slice_get texts place ≡ Some written → reading catalog.schema written ≡ Ok query
    → state_of (asked_of catalog.schema texts) (suc place) (standing_after catalog (asked_of catalog.schema texts) journal) ≡ state_is.Done
    → state_of (asked_of catalog.schema texts) (suc place) (standing_after catalog (asked_of catalog.schema texts) (journal ++ more)) ≡ state_is.Done
done_still stay decided catalog texts journal more place written query stands accepted done =
    let so = done_so catalog texts journal (suc place) done in
    let still = stay catalog texts journal more (suc place) so.1 in
    let before = decided catalog texts journal place written query stands accepted in
    let after = decided catalog texts (journal ++ more) place written query stands accepted in
    let all : all_done catalog.schema query (ended_of catalog (asked_of catalog.schema texts) (journal ++ more) (suc place)) ≡ true =
    ap (all_done catalog.schema query) still.ends ∙ (before.done ∙ rw (so.0, so.1) refl) in
    let valid : is_refused_in catalog texts (journal ++ more) (suc place) ≡ false =
    none_refused (is_refused_in catalog texts (journal ++ more) (suc place)) (is_settled_in catalog texts (journal ++ more) (suc place)) (sym after.done ∙ all) in
    same_state (asked_of catalog.schema texts) (suc place) (standing_after catalog (asked_of catalog.schema texts) (journal ++ more))
    ∙ by_done (is_refused_in catalog texts (journal ++ more) (suc place)) (is_settled_in catalog texts (journal ++ more) (suc place))
    (standing_after catalog (asked_of catalog.schema texts) (journal ++ more)).stopped (heard_in catalog texts (journal ++ more)).broken valid still.settled
