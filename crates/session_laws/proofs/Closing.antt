-- Whatever link there is: why a finished proper journal was closed, and that nothing comes after it.
use Rattle.std.proofs.Common.{◌≡◌, ℕ, Bool, true, false, not, ◌||◌, List, [], ◌∷◌, ◌++◌, sym, ◌∙◌, ap, subst, refl, append-nil, append_assoc, Option, Some, None, slice_get}
use Rattle.std.specs.Prelude.{if◌then◌else◌}
use Rattle.std.specs.List.{list_any}
use Rattle.ghost_model.specs.core.Channel.{Catalog, Frame, Move, Dial, Listen, Accept, Send, Take, Close, Entry, Journal}
use Rattle.ghost_model.specs.core.Asks.{NumberedAsk}
use Rattle.ghost_model.specs.core.Moves.{answers, piece_of}
use Rattle.ghost_model.specs.core.NextMove.{Awaits, AwaitsCatalog, AwaitsReply, AwaitsNothing, Heard, Verdict, Lacking, Complete, Invalid, verdict, heard_as, hear, hear_all, Standing, standing_after, take_or_close, send_or, move_from, next_with, is_close, is_stop, GoesOn, IsFinished}
use Rattle.ghost_model.proofs.ChannelLemmas.Tests.{false_is_not}
use Rattle.session_laws.proofs.Standing.{goes, left_more, next_closed, any_more}

either : (b c : Bool) → c ≡ true → (b || c) ≡ true
either true c e = refl
either false c e = e

one_of : (b c : Bool) → b ≡ true → (b || c) ≡ true
one_of b c e = rw e

none_is_not : (o : Option Move) (move : Move) → o ≡ None → o ≡ Some move → ⊥
none_is_not o move e f = cc

pub any_answer : (journal : Journal) → list_any is_stop (answers journal) ≡ list_any (λ (e : Entry). is_stop e.answer) journal
any_answer [] = refl
any_answer (entry ∷ journal) = ap (λ (b : Bool). is_stop entry.answer || b) (any_answer journal)

-- why Close is the next move
pub data Closes (stopped broken : Bool) (awaits : Awaits) : Type 0 where
  by_stop : stopped ≡ true → Closes stopped broken awaits
  by_invalid : broken ≡ true → Closes stopped broken awaits
  by_end : awaits ≡ AwaitsNothing → Closes stopped broken awaits

dial_is_not : (to : List ℕ) → Some (Dial to) ≡ Some Close → ⊥
dial_is_not to e = cc

take_is_not : (most : ℕ) → Some (Take most) ≡ Some Close → ⊥
take_is_not most e = cc

send_is_not : (bytes : List ℕ) → Some (Send bytes) ≡ Some Close → ⊥
send_is_not bytes e = cc

closes_rest : (catalog : Catalog) (h : Heard) (awaits : Awaits) (o : Option Frame) → Some (send_or (take_or_close catalog h awaits) o) ≡ Some Close → Closes false false awaits
closes_rest catalog h (AwaitsCatalog bytes) None e = absurd (take_is_not _ e)
closes_rest catalog h (AwaitsReply asked serial later count last) None e = absurd (take_is_not _ e)
closes_rest catalog h AwaitsNothing None e = by_end refl
closes_rest catalog h awaits (Some frame) e = absurd (send_is_not _ e)

closes_so : (catalog : Catalog) (at : List ℕ) (h : Heard) (awaits : Awaits) (opened shut stopped broken : Bool) (o : Option Frame)
    → (if not opened then Some (Dial at) else if shut then None else if stopped || broken then Some Close else Some (send_or (take_or_close catalog h awaits) o)) ≡ Some Close
    → Closes stopped broken awaits
closes_so catalog at h awaits false shut stopped broken o e = absurd (dial_is_not at e)
closes_so catalog at h awaits true true stopped broken o e = absurd (none_is_not None Close refl e)
closes_so catalog at h awaits true false true broken o e = by_stop refl
closes_so catalog at h awaits true false false true o e = by_invalid refl
closes_so catalog at h awaits true false false false o e = closes_rest catalog h awaits o e

module _ (catalog : Catalog) (asks : List NumberedAsk) where
  abbrev ClosesBy : Bool → Heard → Type 0
  ClosesBy stopped h = Closes stopped h.broken h.awaits

  -- what was invalid stays so, and where nothing was awaited nothing is
  pub stays_closed : (h : Heard) (bytes : List ℕ) → h.broken ≡ true → (hear_all catalog asks h bytes).broken ≡ true
  unfolding hear_all
  stays_closed h [] e = e
  stays_closed h (byte ∷ bytes) e =
      stays_closed (hear catalog asks h byte) bytes
      (ap (λ (b : Bool). (if b then h else heard_as catalog asks h (h.part ++ byte ∷ []) (verdict catalog h.awaits (h.part ++ byte ∷ []))).broken) e ∙ e)

  over_judged : (h : Heard) (part : List ℕ) (v : Verdict) → h.awaits ≡ AwaitsNothing → (heard_as catalog asks h part v).awaits ≡ AwaitsNothing
  over_judged h part (Lacking missing) e = e
  over_judged h part Invalid e = e
  over_judged h part Complete e = ap (λ (a : Awaits). (heard_as catalog asks (record h { awaits = a }) part Complete).awaits) e

  stays_over : (h : Heard) (bytes : List ℕ) → h.awaits ≡ AwaitsNothing → (hear_all catalog asks h bytes).awaits ≡ AwaitsNothing
  unfolding hear_all
  stays_over h [] e = e
  stays_over h (byte ∷ bytes) e =
      stays_over (hear catalog asks h byte) bytes
      (elim h.broken as (λ v. (if v then h else heard_as catalog asks h (h.part ++ byte ∷ []) (verdict catalog h.awaits (h.part ++ byte ∷ []))).awaits ≡ AwaitsNothing) [
        | true ↦ e
        | false ↦ over_judged h (h.part ++ byte ∷ []) (verdict catalog h.awaits (h.part ++ byte ∷ [])) e
      ])

  closes_after : (l : Standing) (entry : Entry) → Closes l.stopped l.heard.broken l.heard.awaits → ClosesBy (goes catalog asks l entry).stopped (goes catalog asks l entry).heard
  closes_after l entry (by_stop e) = by_stop (one_of l.stopped (is_stop entry.answer) e)
  closes_after l entry (by_invalid e) = by_invalid (stays_closed l.heard (piece_of entry.answer) e)
  closes_after l entry (by_end e) = by_end (stays_over l.heard (piece_of entry.answer) e)

  closed_by : (at : List ℕ) (before : Journal) (entry : Entry) → next_with catalog at asks before ≡ Some entry.move → entry.move ≡ Close
      → ClosesBy (standing_after catalog asks (before ++ entry ∷ [])).stopped (standing_after catalog asks (before ++ entry ∷ [])).heard
  closed_by at before entry next close =
      let l : Standing = standing_after catalog asks before in
      subst (λ (x : Standing). ClosesBy x.stopped x.heard) (sym (left_more catalog asks before entry))
      (closes_after (standing_after catalog asks before) entry
      (closes_so catalog at l.heard l.heard.awaits l.opened l.closed l.stopped l.heard.broken (slice_get l.heard.due l.sent) (next ∙ ap (λ (m : Move). Some m) close)))

  -- why a finished journal was closed
  closes_on : (at : List ℕ) (before journal : Journal) → GoesOn catalog at asks before journal → IsFinished journal → ClosesBy (standing_after catalog asks (before ++ journal)).stopped (standing_after catalog asks (before ++ journal)).heard
  closes_on at before [] goes f = absurd f
  closes_on at before (entry ∷ []) goes f = closed_by at before entry goes.0 f
  closes_on at before (entry ∷ next ∷ later) goes f =
      subst (λ (j : Journal). ClosesBy (standing_after catalog asks j).stopped (standing_after catalog asks j).heard) (append_assoc before (entry ∷ []) (next ∷ later))
      (closes_on at (before ++ entry ∷ []) (next ∷ later) goes.1 f)

  pub why_closed : (at : List ℕ) (journal : Journal) → GoesOn catalog at asks [] journal → IsFinished journal → ClosesBy (standing_after catalog asks journal).stopped (standing_after catalog asks journal).heard
  why_closed at journal goes f = closes_on at [] journal goes f

  -- nothing comes after it
  end_of : (at : List ℕ) (before : Journal) (entry : Entry) (more : Journal) → entry.move ≡ Close → GoesOn catalog at asks (before ++ entry ∷ []) more → more ≡ []
  end_of at before entry [] close goes = refl
  end_of at before entry (next ∷ more) close after =
      let l : Standing = standing_after catalog asks before in
      let none : next_with catalog at asks (before ++ entry ∷ []) ≡ None =
      ap (λ (x : Standing). move_from catalog at x) (left_more catalog asks before entry)
      ∙ next_closed catalog at (goes catalog asks (standing_after catalog asks before) entry) refl (either l.closed (is_close entry.move) (ap is_close close)) in
      absurd (none_is_not _ next.move none after.0)

  pub no_more : (at : List ℕ) (before journal more : Journal) → GoesOn catalog at asks before (journal ++ more) → IsFinished journal → more ≡ []
  no_more at before [] more goes f = absurd f
  no_more at before (entry ∷ []) more goes f = end_of at before entry more f goes.1
  no_more at before (entry ∷ next ∷ later) more goes f = no_more at (before ++ entry ∷ []) (next ∷ later) more goes.1 f

  close_is : (move : Move) → is_close move ≡ true → move ≡ Close
  close_is (Dial _) e = absurd (false_is_not e)
  close_is (Listen _) e = absurd (false_is_not e)
  close_is Accept e = absurd (false_is_not e)
  close_is (Send _) e = absurd (false_is_not e)
  close_is (Take _) e = absurd (false_is_not e)
  close_is Close e = refl

  abbrev shut : Journal → Bool
  shut journal = list_any (λ (e : Entry). is_close e.move) journal

  shut_more : (before : Journal) (entry : Entry) (b : Bool) → shut before ≡ false → is_close entry.move ≡ b → shut (before ++ entry ∷ []) ≡ b
  shut_more before entry b e f = any_more (λ (x : Entry). is_close x.move) before entry ∙ (ap (λ (c : Bool). c || is_close entry.move) e ∙ f)

  ends_by : (at : List ℕ) (before : Journal) (entry : Entry) (later : Journal) (b : Bool) → is_close entry.move ≡ b → shut before ≡ false → GoesOn catalog at asks before (entry ∷ later) → shut ((before ++ entry ∷ []) ++ later) ≡ true → IsFinished (entry ∷ later)
  ends_by at before entry [] true e not_shut goes closed = close_is entry.move e
  ends_by at before entry (next ∷ later) true e not_shut goes closed =
      absurd (no_entry (next ∷ later) next later refl (end_of at before entry (next ∷ later) (close_is entry.move e) goes.1))
    where
      no_entry : (journal : Journal) (one : Entry) (more : Journal) → journal ≡ one ∷ more → journal ≡ [] → ⊥
      no_entry journal one more e f = cc
  ends_by at before entry [] false e not_shut goes closed =
      absurd (false_is_not (sym (shut_more before entry false not_shut e) ∙ (ap shut (sym (append-nil (before ++ entry ∷ []))) ∙ closed)))
  ends_by at before entry (next ∷ later) false e not_shut goes closed =
      ends_by at (before ++ entry ∷ []) next later (is_close next.move) refl (shut_more before entry false not_shut e) goes.1
      (ap shut (append_assoc (before ++ entry ∷ []) (next ∷ []) later) ∙ closed)

  -- a journal with a Close is finished
  pub shut_is_finished : (at : List ℕ) (journal : Journal) → GoesOn catalog at asks [] journal → shut journal ≡ true → IsFinished journal
  shut_is_finished at [] goes closed = absurd (false_is_not closed)
  shut_is_finished at (entry ∷ later) goes closed = ends_by at [] entry later (is_close entry.move) refl refl goes closed
