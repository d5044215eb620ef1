-- A session with a host in the process, move by move.
use Rattle.std.proofs.Common.{◌≡◌, ℕ, zero, suc, ◌<◌, ◌⊎◌, inl, inr, true, List, [], ◌∷◌, ◌++◌, length, map, take, drop, sym, ◌∙◌, ap, subst, refl, arith, append-nil, append_assoc, length-append, Option, Some}
use Rattle.std.specs.Prelude.{flat_map, All}
use Rattle.std.specs.List.{list_all, concat}
use Rattle.std.proofs.lemmas.Grind.{flat_map-append}
use Rattle.std.proofs.lemmas.List.{take-append-le, drop-append-le, length-take-le, take-append-drop}
use Rattle.std.proofs.lemmas.Bool.{eq-eqb}
use Rattle.ghost_model.specs.core.Channel.{Frame, Move, Dial, Listen, Accept, Send, Take, Close, Answer, Made, Piece, Entry, Journal}
use Rattle.ghost_model.specs.forms.Frames.{IsFrame, frame_bytes}
use Rattle.ghost_model.specs.core.Asks.{NumberedAsk}
use Rattle.ghost_model.specs.core.Moves.{taken, sent, sent_by, piece_of}
use Rattle.ghost_model.specs.core.NextMove.{Standing, standing_after, next_with, GoesOn, hear_all}
use Rattle.ghost_model.specs.core.Host.{Holding, Stand, Response, said_with, answer_to, frames_of, said_with_refusals}
use Rattle.ghost_model.specs.laws.ShortWords.{said_to}
use Rattle.ghost_model.specs.core.Host as host
use Rattle.ghost_model.specs.core.Local.{IsServedBy, is_full}
use Rattle.ghost_model.specs.laws.SessionLaws.{IsServedThroughout}
use Rattle.ghost_model.proofs.ChannelLemmas.Hosts.{frames_are_cut}
use Rattle.ghost_model.proofs.ChannelLemmas.Tests.{both_hold, hold_both}
use Rattle.session_laws.specs.Serving.{Desk, first_desk, Hears, Hands, Stays, handed, serves_move, serves, ServedFrom}
use Rattle.session_laws.proofs.Exchanges.{CanServe, due_is_frame}
use Rattle.session_laws.proofs.Standing.{At, Sends, Piecing, moves_at, answers_at, took_at, begins, goes, left_more, taken_more, sent_more}

-- the frames that the key sent, and what the host says to them, tell that a journal is served
served_so :
    (held : Holding) (journal : Journal) (key said : List Frame) (stand : Stand) (rest : List ℕ)
    → list_all is_full journal ≡ true → sent journal ≡ map frame_bytes key → All IsFrame key
    → ((later : List Frame) → said_to held (key ++ later) host.Greeting ≡ said ++ said_to held later stand)
    → flat_map frame_bytes said ≡ taken journal ++ rest → IsServedBy held journal
unfolding said_with_refusals
served_so held journal key said stand rest full sent_are frames leads said_are =
    let cut : frames_of (concat (sent journal)) ≡ key =
    ap (λ (xs : List (List ℕ)). frames_of (concat xs)) sent_are ∙ (ap frames_of (joined_frames key) ∙ frames_are_cut key frames) in
    let all_said : said_to held key host.Greeting ≡ said =
    ap (λ (fs : List Frame). said_to held fs host.Greeting) (sym (append-nil key)) ∙ (leads [] ∙ append-nil said) in
    record {
      full = full;
      rest = rest;
      said = sym (ap (λ (fs : List Frame). flat_map frame_bytes (said_to held fs host.Greeting)) cut ∙ (ap (flat_map frame_bytes) all_said ∙ said_are));
    }
  where
    joined_frames : (frames : List Frame) → concat (map frame_bytes frames) ≡ flat_map frame_bytes frames
    joined_frames [] = refl
    joined_frames (frame ∷ frames) = ap (λ (bs : List ℕ). frame_bytes frame ++ bs) (joined_frames frames)

take_none : {X : Type 0} (count : ℕ) → take {A = X} count [] ≡ []
take_none zero = refl
take_none (suc count) = refl

-- a front of a list with one more element is a front of the list, or all of it
take_more : {X : Type 0} (xs : List X) (x : X) (count : ℕ) → (take count (xs ++ x ∷ []) ≡ take count xs) ⊎ (take count (xs ++ x ∷ []) ≡ xs ++ x ∷ [])
take_more [] x zero = inl refl
take_more [] x (suc count) = inr (ap (λ ys. x ∷ ys) (take_none count))
take_more (y ∷ ys) x zero = inl refl
take_more (y ∷ ys) x (suc count) = elim (take_more ys x count) [ inl e ↦ inl (ap (λ zs. y ∷ zs) e) | inr e ↦ inr (ap (λ zs. y ∷ zs) e) ]

-- one more move, at which the session is served
throughout_more : (held : Holding) (journal : Journal) (entry : Entry) → IsServedThroughout held journal → IsServedBy held (journal ++ entry ∷ []) → IsServedThroughout held (journal ++ entry ∷ [])
throughout_more held journal entry before now entries = elim (take_more journal entry entries) [
  | inl e ↦ subst (λ (j : Journal). IsServedBy held j) (sym e) (before entries)
  | inr e ↦ subst (λ (j : Journal). IsServedBy held j) (sym e) now
]

throughout_none : (held : Holding) → IsServedBy held [] → IsServedThroughout held []
throughout_none held now zero = now
throughout_none held now (suc entries) = now

full_more : (journal : Journal) (entry : Entry) → list_all is_full journal ≡ true → is_full entry ≡ true → list_all is_full (journal ++ entry ∷ []) ≡ true
full_more [] entry e f = hold_both (is_full entry) true f refl
full_more (first ∷ journal) entry e f =
    let both = both_hold (is_full first) (list_all is_full journal) e in
    hold_both (is_full first) (list_all is_full (journal ++ entry ∷ [])) both.one (full_more journal entry both.other f)

all_frames : (key : List Frame) (frame : Frame) → All IsFrame key → IsFrame frame → All IsFrame (key ++ frame ∷ [])
all_frames [] frame all is zero d less = is
all_frames [] frame all is (suc k) d less = absurd (omega (arith, less))
all_frames (first ∷ key) frame all is zero d less = all 0 d (omega arith)
all_frames (first ∷ key) frame all is (suc k) d less = all_frames key frame (λ i d less. all (suc i) d (omega (arith, less))) is k d (omega (arith, less))

map_more : (key : List Frame) (frame : Frame) → map frame_bytes (key ++ frame ∷ []) ≡ map frame_bytes key ++ frame_bytes frame ∷ []
map_more [] frame = refl
map_more (first ∷ key) frame = ap (λ (xs : List (List ℕ)). frame_bytes first ∷ xs) (map_more key frame)

said_more : (held : Holding) (frame : Frame) (stand : Stand) (response : Response) (later : List Frame) → answer_to held stand frame ≡ Some response → said_to held (frame ∷ later) stand ≡ response.says ++ said_to held later response.stand
unfolding said_with_refusals
said_more held frame stand response later is = ap (λ (o : Option Response). said_with (said_to held later) o) is

leads_more :
    (held : Holding) (key said : List Frame) (frame : Frame) (stand : Stand) (response : Response)
    → ((later : List Frame) → said_to held (key ++ later) host.Greeting ≡ said ++ said_to held later stand) → answer_to held stand frame ≡ Some response
    → (later : List Frame) → said_to held ((key ++ frame ∷ []) ++ later) host.Greeting ≡ (said ++ response.says) ++ said_to held later response.stand
leads_more held key said frame stand response leads is later =
    ap (λ (fs : List Frame). said_to held fs host.Greeting) (append_assoc key (frame ∷ []) later)
    ∙ (leads (frame ∷ later)
    ∙ (ap (λ (fs : List Frame). said ++ fs) (said_more held frame stand response later is)
    ∙ sym (append_assoc said response.says (said_to held later response.stand))))

-- what is handed of some bytes
handed_some : (most : ℕ) (owed : List ℕ) → 0 < length owed → handed most owed ≡ Piece (take most owed)
handed_some most [] some = absurd (omega (arith, some))
handed_some most (byte ∷ owed) some = refl

abbrev entry_of : Move → Answer → Entry
entry_of move answer = record { move = move; answer = answer }

abbrev desk_of : Stand → List ℕ → Desk
desk_of stand owed = record { stand = stand; owed = owed }

module _ (held : Holding) (address : List ℕ) (asks : List NumberedAsk) (can : CanServe held asks) where
  -- so far the key made its moves, and the host served them
  pub record Walked (journal : Journal) (desk : Desk) : Type 0 where
    pub there : At held address asks can (standing_after held.catalog asks journal) desk.stand desk.owed
    pub full : list_all is_full journal ≡ true
    pub throughout : IsServedThroughout held journal
    -- the key's frames, and what the host said to them
    pub key : List Frame
    pub said : List Frame
    pub sent_are : sent journal ≡ map frame_bytes key
    pub are_frames : All IsFrame key
    pub leads : (later : List Frame) → said_to held (key ++ later) host.Greeting ≡ said ++ said_to held later desk.stand
    pub said_are : flat_map frame_bytes said ≡ taken journal ++ desk.owed

  -- one more entry
  one_more :
      (journal : Journal) (entry : Entry) (desk : Desk) → list_all is_full journal ≡ true → IsServedThroughout held journal
      → At held address asks can (goes held.catalog asks (standing_after held.catalog asks journal) entry) desk.stand desk.owed → is_full entry ≡ true
      → (key said : List Frame) → sent journal ++ sent_by entry.move ≡ map frame_bytes key → All IsFrame key
      → ((later : List Frame) → said_to held (key ++ later) host.Greeting ≡ said ++ said_to held later desk.stand)
      → flat_map frame_bytes said ≡ (taken journal ++ piece_of entry.answer) ++ desk.owed
      → Walked (journal ++ entry ∷ []) desk
  one_more journal entry desk full throughout there one key said sent_are frames leads said_are =
      let all_full : list_all is_full (journal ++ entry ∷ []) ≡ true = full_more journal entry full one in
      let all_sent : sent (journal ++ entry ∷ []) ≡ map frame_bytes key = sent_more journal entry ∙ sent_are in
      let all_said : flat_map frame_bytes said ≡ taken (journal ++ entry ∷ []) ++ desk.owed = said_are ∙ ap (λ (bs : List ℕ). bs ++ desk.owed) (sym (taken_more journal entry)) in
      record {
        there = subst (λ (l : Standing). At held address asks can l desk.stand desk.owed) (sym (left_more held.catalog asks journal entry)) there;
        full = all_full;
        throughout = throughout_more held journal entry throughout (served_so held (journal ++ entry ∷ []) key said desk.stand desk.owed all_full all_sent frames leads all_said);
        key = key;
        said = said;
        sent_are = all_sent;
        are_frames = frames;
        leads = leads;
        said_are = all_said;
      }

  -- the dial and the close: the host is not in it
  quiet_move : (journal : Journal) (move : Move) (answer : Answer) (before after : Desk) → Walked journal before → Stays before answer after → sent_by move ≡ [] → is_full (entry_of move Made) ≡ true
      → At held address asks can (goes held.catalog asks (standing_after held.catalog asks journal) (entry_of move Made)) before.stand before.owed
      → Walked (journal ++ entry_of move answer ∷ []) after
  quiet_move journal move answer before after w stays quiet full there =
      subst (λ (a : Answer). Walked (journal ++ entry_of move a ∷ []) after) (sym stays.made)
      (subst (λ (d : Desk). Walked (journal ++ entry_of move Made ∷ []) d) (sym stays.same)
      (one_more journal (entry_of move Made) before w.full w.throughout there full w.key w.said
      (ap (λ (xs : List (List ℕ)). sent journal ++ xs) quiet ∙ (append-nil (sent journal) ∙ w.sent_are)) w.are_frames w.leads
      (w.said_are ∙ ap (λ (bs : List ℕ). bs ++ before.owed) (sym (append-nil (taken journal))))))

  -- a frame is sent
  sent_move : (journal : Journal) (bytes : List ℕ) (answer : Answer) (before after : Desk) → Walked journal before → Hears held before bytes answer after
      → (much : ℕ) → (s : Sends held address asks can (standing_after held.catalog asks journal) before.stand before.owed much bytes)
      → Walked (journal ++ entry_of (Send bytes) answer ∷ []) after
  sent_move journal bytes answer before after w hears much s =
      let a = answers_at held address asks can (standing_after held.catalog asks journal) before.stand before.owed much bytes s in
      let is : IsFrame s.frame = due_is_frame held asks can (standing_after held.catalog asks journal).heard s.frame before.stand s.what in
      let owes : before.owed ++ flat_map frame_bytes a.response.says ≡ flat_map frame_bytes a.response.says = ap (λ (bs : List ℕ). bs ++ flat_map frame_bytes a.response.says) s.none_owed in
      let then : after ≡ desk_of a.response.stand (flat_map frame_bytes a.response.says) =
      hears.answers s.frame a.response is s.spelled a.is ∙ ap (desk_of a.response.stand) owes in
      subst (λ (x : Answer). Walked (journal ++ entry_of (Send bytes) x ∷ []) after) (sym hears.made)
      (subst (λ (d : Desk). Walked (journal ++ entry_of (Send bytes) Made ∷ []) d) (sym then)
      (one_more journal (entry_of (Send bytes) Made) (desk_of a.response.stand (flat_map frame_bytes a.response.says)) w.full w.throughout a.stands.there refl
      (w.key ++ s.frame ∷ []) (w.said ++ a.response.says)
      (ap (λ (xs : List (List ℕ)). xs ++ bytes ∷ []) w.sent_are ∙ (ap (λ (bs : List ℕ). map frame_bytes w.key ++ bs ∷ []) s.spelled ∙ sym (map_more w.key s.frame)))
      (all_frames w.key s.frame w.are_frames is)
      (leads_more held w.key w.said s.frame before.stand a.response w.leads a.is)
      (flat_map-append frame_bytes w.said a.response.says
      ∙ ap (λ (bs : List ℕ). bs ++ flat_map frame_bytes a.response.says) (w.said_are ∙ ap (λ (bs : List ℕ). taken journal ++ bs) s.none_owed))))

  -- what the host hands is the front of the frame that is being taken
  pub record HandsOn (owed : List ℕ) (most : ℕ) (rest others : List ℕ) : Type 0 where
    pub given : handed most owed ≡ Piece (take most rest)
    pub rest_owed : drop most owed ≡ drop most rest ++ others
    pub split : owed ≡ take most rest ++ (drop most rest ++ others)
    pub some : 0 < length (take most rest)
    pub full : is_full (entry_of (Take most) (Piece (take most rest))) ≡ true

  pub hands_on : (journal : Journal) (desk : Desk) (much most : ℕ) → (t : Piecing held address asks can (standing_after held.catalog asks journal) desk.stand desk.owed much most) → HandsOn desk.owed most t.rest (flat_map frame_bytes t.after)
  hands_on journal desk much most t =
      let others : List ℕ = flat_map frame_bytes t.after in
      let some : 0 < length desk.owed = (let long = ap length t.owed_is in let sum = length-append t.rest (flat_map frame_bytes t.after) in let more = t.some in omega (arith, long, sum, more)) in
      let size : length (take most t.rest) ≡ most = length-take-le most t.rest t.within in
      record {
        given = handed_some most desk.owed some ∙ ap (λ (bs : List ℕ). Piece bs) (ap (take most) t.owed_is ∙ take-append-le most t.rest (flat_map frame_bytes t.after) t.within);
        rest_owed = ap (drop most) t.owed_is ∙ drop-append-le most t.rest (flat_map frame_bytes t.after) t.within;
        split = t.owed_is ∙ (ap (λ (bs : List ℕ). bs ++ others) (sym (take-append-drop most t.rest)) ∙ append_assoc (take most t.rest) (drop most t.rest) others);
        some = (let positive = t.positive in omega (arith, size, positive));
        full = eq-eqb (length (take most t.rest)) most size;
      }

  -- a piece is taken
  took_move : (journal : Journal) (most : ℕ) (answer : Answer) (before after : Desk) → Walked journal before → Hands before most answer after
      → (much : ℕ) → (t : Piecing held address asks can (standing_after held.catalog asks journal) before.stand before.owed much most)
      → Walked (journal ++ entry_of (Take most) answer ∷ []) after
  took_move journal most answer before after w hands much t =
      let on : HandsOn before.owed most t.rest (flat_map frame_bytes t.after) = hands_on journal before much most t in
      subst (λ (x : Answer). Walked (journal ++ entry_of (Take most) x ∷ []) after) (sym (hands.given ∙ on.given))
      (subst (λ (d : Desk). Walked (journal ++ entry_of (Take most) (Piece (take most t.rest)) ∷ []) d) (sym (hands.rest ∙ ap (desk_of before.stand) on.rest_owed))
      (one_more journal (entry_of (Take most) (Piece (take most t.rest))) (desk_of before.stand (drop most t.rest ++ flat_map frame_bytes t.after)) w.full w.throughout
      (took_at held address asks can (standing_after held.catalog asks journal) before.stand before.owed much most (take most t.rest) (drop most t.rest) t (sym (take-append-drop most t.rest)) on.some).there
      on.full w.key w.said (append-nil (sent journal) ∙ w.sent_are) w.are_frames w.leads
      (w.said_are ∙ (ap (λ (bs : List ℕ). taken journal ++ bs) on.split ∙ sym (append_assoc (taken journal) (take most t.rest) (drop most t.rest ++ flat_map frame_bytes t.after))))))

  next_walked : (journal : Journal) (move : Move) (answer : Answer) (before after : Desk) → Walked journal before → next_with held.catalog address asks journal ≡ Some move → serves_move held before move answer after
      → Walked (journal ++ entry_of move answer ∷ []) after
  next_walked journal (Dial to) answer before after w next serves =
      quiet_move journal (Dial to) answer before after w serves refl refl (moves_at held address asks can (standing_after held.catalog asks journal) before.stand before.owed (Dial to) w.there next).lower.there
  next_walked journal (Listen to) answer before after w next serves =
      absurd (moves_at held address asks can (standing_after held.catalog asks journal) before.stand before.owed (Listen to) w.there next)
  next_walked journal Accept answer before after w next serves =
      absurd (moves_at held address asks can (standing_after held.catalog asks journal) before.stand before.owed Accept w.there next)
  next_walked journal (Send bytes) answer before after w next serves =
      sent_move journal bytes answer before after w serves _ (moves_at held address asks can (standing_after held.catalog asks journal) before.stand before.owed (Send bytes) w.there next)
  next_walked journal (Take most) answer before after w next serves =
      took_move journal most answer before after w serves _ (moves_at held address asks can (standing_after held.catalog asks journal) before.stand before.owed (Take most) w.there next)
  next_walked journal Close answer before after w next serves =
      quiet_move journal Close answer before after w serves refl refl (moves_at held address asks can (standing_after held.catalog asks journal) before.stand before.owed Close w.there next).lower.there

  walked_on : (before journal : Journal) (desk after : Desk) → Walked before desk → GoesOn held.catalog address asks before journal → ServedFrom held desk journal after → Walked (before ++ journal) after
  walked_on before [] desk after w goes served =
      subst (λ (j : Journal). Walked j after) (sym (append-nil before)) (subst (λ (d : Desk). Walked before d) served w)
  walked_on before (entry ∷ later) desk after w goes served =
      subst (λ (j : Journal). Walked j after) (append_assoc before (entry ∷ []) later)
      (walked_on (before ++ entry ∷ []) later served.0 after (next_walked before entry.move entry.answer desk served.0 w goes.0 served.1) goes.1 served.2)

  starts : Walked [] first_desk
  unfolding hear_all
  starts = record {
    there = begins held address asks can;
    full = refl;
    throughout = throughout_none held (served_so held [] [] [] host.Greeting [] refl refl (λ k d less. absurd (omega (arith, less))) (λ later. refl) refl);
    key = [];
    said = [];
    sent_are = refl;
    are_frames = λ k d less. absurd (omega (arith, less));
    leads = λ later. refl;
    said_are = refl;
  }

  pub walked : (journal : Journal) (desk : Desk) → GoesOn held.catalog address asks [] journal → ServedFrom held first_desk journal desk → Walked journal desk
  walked journal desk goes served = walked_on [] journal first_desk desk starts goes served
