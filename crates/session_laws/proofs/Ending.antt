-- That a session with a host in the process comes to its end.
use Rattle.std.proofs.Common.{◌≡◌, ℕ, zero, suc, ◌⊎◌, inl, inr, true, List, [], ◌∷◌, ◌++◌, length, length-append, take, drop, sym, ◌∙◌, ap, subst, refl, arith, append-nil, append_assoc, Option, Some}
use Rattle.std.proofs.lemmas.List.{take-append-drop}
use Rattle.std.specs.Prelude.{flat_map}
use Rattle.ghost_model.specs.core.Values.{Database}
use Rattle.ghost_model.specs.core.Channel.{Catalog, Frame, Move, Dial, Listen, Accept, Send, Take, Close, Made, Piece, Entry, Journal}
use Rattle.ghost_model.specs.forms.Frames.{IsFrame, frame_bytes, frame_in}
use Rattle.ghost_model.specs.core.Asks.{NumberedAsk, asked_of}
use Rattle.ghost_model.specs.core.NextMove.{Standing, standing_after, next_with, GoesOn, IsFinished}
use Rattle.ghost_model.specs.core.Host.{Holding, Response, answer_to}
use Rattle.ghost_model.proofs.ChannelLemmas.{frame_is_read}
use Rattle.session_laws.specs.Serving.{Desk, first_desk, serves, ServedFrom}
use Rattle.session_laws.specs.Local.{holding_of, IsLocal, finds_desk, EndsBy}
use Rattle.session_laws.proofs.Exchanges.{CanServe, due_is_frame}
use Rattle.session_laws.proofs.Standing.{At, Lower, rank, Sends, Piecing, Nexts, dials, sends_one, takes, closes, is_closed, nexts_at, MovesBy, moves_at, answers_at, took_at, goes, left_more}
use Rattle.session_laws.proofs.Walking.{Walked, walked, hands_on}
use Rattle.session_laws.proofs.Closing.{shut_is_finished}
use Rattle.session_laws.proofs.Stored.{can_serve}

pub served_join : (held : Holding) (first second third : Desk) (journal more : Journal) → ServedFrom held first journal second → ServedFrom held second more third → ServedFrom held first (journal ++ more) third
served_join held first second third [] more e served = subst (λ (d : Desk). ServedFrom held d more third) (sym e) served
served_join held first second third (entry ∷ journal) more e served =
    (e.0, e.1, served_join held e.0 second third journal more e.2 served)

goes_more : (catalog : Catalog) (at : List ℕ) (asks : List NumberedAsk) (before journal : Journal) (entry : Entry) → GoesOn catalog at asks before journal → next_with catalog at asks (before ++ journal) ≡ Some entry.move → GoesOn catalog at asks before (journal ++ entry ∷ [])
goes_more catalog at asks before [] entry goes e = (ap (λ (j : Journal). next_with catalog at asks j) (sym (append-nil before)) ∙ e, tt)
goes_more catalog at asks before (first ∷ journal) entry goes e =
    (goes.0, goes_more catalog at asks (before ++ first ∷ []) journal entry goes.1 (ap (λ (j : Journal). next_with catalog at asks j) (append_assoc before (first ∷ []) journal) ∙ e))

-- a frame is told by its bytes
one_frame : (one other : Frame) → IsFrame one → IsFrame other → frame_bytes one ≡ frame_bytes other → one ≡ other
one_frame one other p q e =
    sym (frame_is_read one [] p) ∙ (ap (λ (bytes : List ℕ). frame_in (bytes ++ [])) e ∙ frame_is_read other [] q)

one_response : (o : Option Response) (one other : Response) → o ≡ Some one → o ≡ Some other → one ≡ other
one_response o one other e f = cc

-- a move, its answer, and where the host then stands, less being to be done
record IsMade (held : Holding) (address : List ℕ) (asks : List NumberedAsk) (can : CanServe held asks) (journal : Journal) (desk : Desk) (much : ℕ) : Type 0 where
  entry : Entry
  after : Desk
  next : next_with held.catalog address asks journal ≡ Some entry.move
  served : serves held desk entry after
  lower : Lower held address asks can (goes held.catalog asks (standing_after held.catalog asks journal) entry) after.stand after.owed much

module _ (held : Holding) (address : List ℕ) (asks : List NumberedAsk) (can : CanServe held asks) where
  send_so : (journal : Journal) (desk : Desk) (much : ℕ) (bytes : List ℕ) → next_with held.catalog address asks journal ≡ Some (Send bytes) → Sends held address asks can (standing_after held.catalog asks journal) desk.stand desk.owed much bytes → IsMade held address asks can journal desk much
  send_so journal desk much bytes next s =
      let a = answers_at held address asks can (standing_after held.catalog asks journal) desk.stand desk.owed much bytes s in
      let is : IsFrame s.frame = due_is_frame held asks can (standing_after held.catalog asks journal).heard s.frame desk.stand s.what in
      record {
        entry = record { move = Send bytes; answer = Made };
        after = record { stand = a.response.stand; owed = flat_map frame_bytes a.response.says };
        next = next;
        served = record {
          made = refl;
          answers = λ frame response fits spelled answered.
              (let same : frame ≡ s.frame = one_frame frame s.frame fits is (sym spelled ∙ s.spelled) in
              let one : a.response ≡ response = one_response (answer_to held desk.stand frame) a.response response (ap (answer_to held desk.stand) same ∙ a.is) answered in
              ap (λ (r : Response). record { stand = r.stand; owed = flat_map frame_bytes r.says }) one
              ∙ ap (λ (bs : List ℕ). record { stand = response.stand; owed = bs ++ flat_map frame_bytes response.says }) (sym s.none_owed));
        };
        lower = a.stands;
      }

  take_so : (journal : Journal) (desk : Desk) (much most : ℕ) → next_with held.catalog address asks journal ≡ Some (Take most) → Piecing held address asks can (standing_after held.catalog asks journal) desk.stand desk.owed much most → IsMade held address asks can journal desk much
  take_so journal desk much most next t =
      let on = hands_on held address asks can journal desk much most t in
      record {
        entry = record { move = Take most; answer = Piece (take most t.rest) };
        after = record { stand = desk.stand; owed = drop most t.rest ++ flat_map frame_bytes t.after };
        next = next;
        served = record { given = sym on.given; rest = ap (λ (bs : List ℕ). record { stand = desk.stand; owed = bs }) (sym on.rest_owed) };
        lower = took_at held address asks can (standing_after held.catalog asks journal) desk.stand desk.owed much most (take most t.rest) (drop most t.rest) t (sym (take-append-drop most t.rest)) on.some;
      }

  -- the next move of a session that stands there
  makes : (journal : Journal) (desk : Desk) → (a : At held address asks can (standing_after held.catalog asks journal) desk.stand desk.owed) → Nexts held address asks can (standing_after held.catalog asks journal)
      → ((standing_after held.catalog asks journal).closed ≡ true) ⊎ IsMade held address asks can journal desk (rank held address asks can (standing_after held.catalog asks journal) desk.stand desk.owed a)
  makes journal desk a (dials e) = inr (record { entry = record { move = Dial address; answer = Made }; after = desk; next = e; served = record { made = refl; same = refl }; lower = (moves_at held address asks can (standing_after held.catalog asks journal) desk.stand desk.owed (Dial address) a e).lower })
  makes journal desk a (sends_one bytes e) = inr (send_so journal desk _ bytes e (moves_at held address asks can (standing_after held.catalog asks journal) desk.stand desk.owed (Send bytes) a e))
  makes journal desk a (takes most e) = inr (take_so journal desk _ most e (moves_at held address asks can (standing_after held.catalog asks journal) desk.stand desk.owed (Take most) a e))
  makes journal desk a (closes e) = inr (record { entry = record { move = Close; answer = Made }; after = desk; next = e; served = record { made = refl; same = refl }; lower = (moves_at held address asks can (standing_after held.catalog asks journal) desk.stand desk.owed Close a e).lower })
  makes journal desk a (is_closed e) = inl e

  -- what a move finds at the desk
  found : (journal : Journal) (desk : Desk) (much : ℕ) (move : Move) → MovesBy held address asks can (standing_after held.catalog asks journal) desk.stand desk.owed much move → finds_desk desk move
  found journal desk much (Dial to) m = m.none_owed
  found journal desk much (Listen _) m = m
  found journal desk much Accept m = m
  found journal desk much (Send bytes) m = m.none_owed
  found journal desk much (Take most) m =
      (m.positive, (let long = ap length m.owed_is in let split = length-append m.rest (flat_map frame_bytes m.after) in let within = m.within in omega (arith, long, split, within)))
  found journal desk much Close m = m.none_owed

  -- moves that end a session
  pub record Ended (journal : Journal) : Type 0 where
    pub more : Journal
    pub last : Desk
    pub goes_so : GoesOn held.catalog address asks [] (journal ++ more)
    pub served : ServedFrom held first_desk (journal ++ more) last
    pub finished : IsFinished (journal ++ more)

  now_ended : (journal : Journal) (desk : Desk) → GoesOn held.catalog address asks [] journal → ServedFrom held first_desk journal desk → IsFinished journal → Ended journal
  now_ended journal desk goes_so served finished =
      let same : journal ≡ journal ++ [] = sym (append-nil journal) in
      record {
        more = [];
        last = desk;
        goes_so = subst (λ (j : Journal). GoesOn held.catalog address asks [] j) same goes_so;
        served = subst (λ (j : Journal). ServedFrom held first_desk j desk) same served;
        finished = subst (λ (j : Journal). IsFinished j) same finished;
      }

  sooner : (journal : Journal) (entry : Entry) → Ended (journal ++ entry ∷ []) → Ended journal
  sooner journal entry end =
      let same : (journal ++ entry ∷ []) ++ end.more ≡ journal ++ entry ∷ end.more = append_assoc journal (entry ∷ []) end.more in
      record {
        more = entry ∷ end.more;
        last = end.last;
        goes_so = subst (λ (j : Journal). GoesOn held.catalog address asks [] j) same end.goes_so;
        served = subst (λ (j : Journal). ServedFrom held first_desk j end.last) same end.served;
        finished = subst (λ (j : Journal). IsFinished j) same end.finished;
      }

  pub ends_from : (most : ℕ) (journal : Journal) (desk : Desk) → GoesOn held.catalog address asks [] journal → ServedFrom held first_desk journal desk → Lower held address asks can (standing_after held.catalog asks journal) desk.stand desk.owed most → Ended journal
  ends_from zero journal desk goes_so served low = let less = low.less in absurd (omega (arith, less))
  ends_from (suc most) journal desk goes_so served low =
      elim (makes journal desk low.there (nexts_at held address asks can (standing_after held.catalog asks journal) desk.stand desk.owed low.there)) [
        | inl e ↦ now_ended journal desk goes_so served (shut_is_finished held.catalog asks address journal goes_so e)
        | inr m ↦ sooner journal m.entry
            (ends_from most (journal ++ m.entry ∷ []) m.after (goes_more held.catalog address asks [] journal m.entry goes_so m.next)
            (served_join held first_desk desk m.after journal (m.entry ∷ []) served (m.after, m.served, refl))
            (subst (λ (l : Standing). Lower held address asks can l m.after.stand m.after.owed most) (sym (left_more held.catalog asks journal m.entry))
            (record { there = m.lower.there; less = (let less = m.lower.less in let before = low.less in omega (arith, less, before)) })))
      ]

pub ends : (catalog : Catalog) (database : Database) (at : List ℕ) (texts : List (List ℕ)) (journal : Journal) → IsLocal catalog database at texts journal → EndsBy catalog database at texts journal
ends catalog database at texts journal is =
    let held : Holding = holding_of catalog database in
    let asks : List NumberedAsk = asked_of catalog.schema texts in
    let can : CanServe (holding_of catalog database) (asked_of catalog.schema texts) = can_serve catalog database texts is.setting is.stored in
    let w : Walked (holding_of catalog database) at (asked_of catalog.schema texts) can journal is.desk = walked (holding_of catalog database) at asks can journal is.desk is.proper is.served in
    let much : ℕ = rank held at asks can (standing_after catalog asks journal) is.desk.stand is.desk.owed w.there in
    let end : Ended (holding_of catalog database) at (asked_of catalog.schema texts) can journal = ends_from held at asks can (suc much) journal is.desk is.proper is.served (record { there = w.there; less = omega arith }) in
    record {
      more = end.more;
      longer = record { setting = is.setting; stored = is.stored; proper = end.goes_so; desk = end.last; served = end.served };
      finished = end.finished;
    }

-- what the next move finds at the desk
pub finds : (catalog : Catalog) (database : Database) (at : List ℕ) (texts : List (List ℕ)) (journal : Journal) (move : Move) → (is : IsLocal catalog database at texts journal) → next_with catalog at (asked_of catalog.schema texts) journal ≡ Some move → finds_desk is.desk move
finds catalog database at texts journal move is next =
    let held : Holding = holding_of catalog database in
    let asks : List NumberedAsk = asked_of catalog.schema texts in
    let can : CanServe (holding_of catalog database) (asked_of catalog.schema texts) = can_serve catalog database texts is.setting is.stored in
    let w : Walked (holding_of catalog database) at (asked_of catalog.schema texts) can journal is.desk = walked (holding_of catalog database) at asks can journal is.desk is.proper is.served in
    found held at asks can journal is.desk _ move (moves_at held at asks can (standing_after catalog asks journal) is.desk.stand is.desk.owed move w.there next)
