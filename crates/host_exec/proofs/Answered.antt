-- How the frames of a key are answered, stage by stage.
use Rattle.std.proofs.Common.{◌≡◌, ℕ, ◌+◌, ◌-◌, ◌/◌, ◌<◌, Bool, true, false, List, [], ◌∷◌, ◌++◌, length, map, drop, sym, ◌∙◌, ap, refl, subst, arith, Option, Some, None, slice_index}
use Rattle.std.specs.Prelude.{if◌then◌else◌, ◌==◌}
use Rattle.std.proofs.lemmas.Bool.{eq-eqb}
use Rattle.std.proofs.lemmas.Bool.Decides.{nat_tests}
use Rattle.ghost_model.specs.core.Channel.{Frame, HelloFrame, AskFrame, MoreFrame, ByeFrame, WelcomeFrame, RowsFrame, DoneFrame, SorryFrame}
use Rattle.ghost_model.specs.core.Channel as channel
use Rattle.ghost_model.specs.forms.Catalog.{catalog_bytes}
use Rattle.ghost_model.specs.core.Asks.{RowCells, is_proper_ask}
use Rattle.ghost_model.specs.readings.AskReading.{ask_in}
use Rattle.ghost_model.specs.core.Asks as asks
use Rattle.ghost_model.specs.core.Host.{Holding, Stand, Response, answer_to, answers_ask, goes_on, after_reply, reply_to, rows_frame, grouped, welcomes}
use Rattle.ghost_model.specs.core.Host as host
use Rattle.host_exec.specs.RowBytes.{Form, replies_at, reply_width}
use Rattle.host_exec.specs.FormViews.{form_view}
use Rattle.host_exec.specs.Saying.{Source, GoesOn, left_from, most_rows, reply_left, response, Stands, turned, owes, IsWithin}
use Rattle.host_exec.specs.Holdings.{HoldsFile}
use Rattle.host_exec.specs.Replies.{source_of}
use Rattle.host_exec.specs.Taken.{TakesAsk}
use Rattle.host_exec.specs.declared.reply.Reply.{Reply}
use Rattle.host_exec.specs.declared.stage.Stage.{Stage}
use Rattle.host_exec.specs.declared.stage.Stage.TheVariants.{Greeting, Welcoming, Listening, Answering, Replying, Over}
use Rattle.host_exec.proofs.Ahead.{none_ahead}
use Rattle.host_exec.proofs.Widths.{same_width}

-- a frame was answered: the frames are owed at that stage
pub record Leads (held : Holding) (bytes : List ℕ) (source : Source) (stand : Stand) (frame : Frame) (stage : Stage) : Type 0 where
  pub answered : Response
  pub answer : answer_to held stand frame ≡ Some answered
  pub stands : Stands bytes source stage answered.says answered.stand

record Begins (frames : List Frame) : Type 0 where
  frame : Frame
  rest : List Frame
  is : frames ≡ frame ∷ rest

begins : (frames : List Frame) (last : Frame) → Begins (frames ++ last ∷ [])
begins [] last = record { frame = last; rest = []; is = refl }
begins (frame ∷ frames) last = record { frame = frame; rest = frames ++ last ∷ []; is = refl }

leads_on : (held : Holding) (bytes : List ℕ) (source : Source) (serial place sent : ℕ) (stand : Stand) (frame : Frame) (frames : List Frame)
    → Begins frames → frames ≡ reply_left (most_rows source) serial sent (left_from source place) → answer_to held stand frame ≡ goes_on serial frames
    → GoesOn source place → Leads held bytes source stand frame (Answering serial place sent)
leads_on held bytes source serial place sent stand frame frames b same answer ahead =
    record {
      answered = response (b.frame ∷ []) (after_reply serial b.rest);
      answer = answer ∙ ap (goes_on serial) b.is;
      stands = (ap (goes_on serial) (sym same ∙ b.is), ahead);
    }

same_stage : (a b : Stage) → Some a ≡ Some b → a ≡ b
same_stage a b e = cc

more_leads : (held : Holding) (bytes : List ℕ) (source : Source) (serial place sent other : ℕ) (stage : Stage) (stand : Stand) (b : Bool) → (other == serial) ≡ b
    → (if b then Some (Answering serial place sent) else None) ≡ Some stage → stand ≡ host.Replying serial (reply_left (most_rows source) serial sent (left_from source place))
    → GoesOn source place → Leads held bytes source stand (MoreFrame other) stage
more_leads held bytes source serial place sent other stage stand true same e s ahead =
    let rest : List Frame = reply_left (most_rows source) serial sent (left_from source place) in
    let answer : answer_to held stand (MoreFrame other) ≡ goes_on serial rest =
    ap (λ (st : Stand). answer_to held st (MoreFrame other)) s ∙ ap (λ (t : Bool). if t then goes_on serial rest else None) same in
    subst (λ (st : Stage). Leads held bytes source stand (MoreFrame other) st) (same_stage _ _ e)
    (leads_on held bytes source serial place sent stand (MoreFrame other) rest
    (begins (map (rows_frame serial) (grouped (most_rows source) (left_from source place))) (DoneFrame serial (sent + length (left_from source place)))) refl answer ahead)
more_leads held bytes source serial place sent other stage stand false same e s ahead = cc

-- a frame that is no ask was answered
pub turned_leads : (held : Holding) (catalog : channel.Catalog) (source : Source) (stage next : Stage) (frame : Frame) (stand : Stand) → held.catalog ≡ catalog
    → turned stage frame ≡ Some next → Stands (catalog_bytes catalog) source stage [] stand → Leads held (catalog_bytes catalog) source stand frame next
turned_leads held catalog source Greeting next (HelloFrame generation) stand c e s =
    subst (λ (st : Stage). Leads held (catalog_bytes catalog) source stand (HelloFrame generation) st) (same_stage _ _ e)
    record {
      answered = response (welcomes held.catalog) (host.Listening 1);
      answer = ap (λ (st : Stand). answer_to held st (HelloFrame generation)) s.1;
      stands = (ap welcomes c, refl);
    }
turned_leads held catalog source (Listening serial) next ByeFrame stand c e s =
    subst (λ (st : Stage). Leads held (catalog_bytes catalog) source stand ByeFrame st) (same_stage _ _ e)
    record {
      answered = response [] host.Over;
      answer = ap (λ (st : Stand). answer_to held st ByeFrame) s.1;
      stands = (refl, refl);
    }
turned_leads held catalog source (Replying serial place sent) next (MoreFrame other) stand c e s =
    more_leads held (catalog_bytes catalog) source serial place sent other next stand (other == serial) refl e s.1 s.2
turned_leads held catalog source stage next frame stand c e s = cc

-- whether an ask comes in its place
abbrev pub is_asked : Stage → Frame → Bool
is_asked (Listening _) (AskFrame _ _) = true
is_asked _ _ = false

more_not : (held : Holding) (serial place sent other : ℕ) (rest : List Frame) (b : Bool) → (other == serial) ≡ b
    → (if b then Some (Answering serial place sent) else None) ≡ None → answer_to held (host.Replying serial rest) (MoreFrame other) ≡ None
more_not held serial place sent other rest true same e = cc
more_not held serial place sent other rest false same e = ap (λ (t : Bool). if t then goes_on serial rest else None) same

-- a frame that is no ask and leads nowhere is not answered
pub not_turned : (held : Holding) (catalog : channel.Catalog) (source : Source) (stage : Stage) (frame : Frame) (stand : Stand)
    → turned stage frame ≡ None → is_asked stage frame ≡ false → owes stage ≡ false → Stands (catalog_bytes catalog) source stage [] stand → answer_to held stand frame ≡ None
not_turned held catalog source Greeting (HelloFrame generation) stand t a o s = cc
not_turned held catalog source Greeting frame stand t a o s = ap (λ (st : Stand). answer_to held st frame) s.1 ∙ greeting held frame t
  where
    greeting : (held : Holding) (frame : Frame) → turned Greeting frame ≡ None → answer_to held host.Greeting frame ≡ None
    greeting held (HelloFrame generation) t = cc
    greeting held frame t = refl
not_turned held catalog source (Welcoming at) frame stand t a o s = cc
not_turned held catalog source (Listening next) frame stand t a o s = ap (λ (st : Stand). answer_to held st frame) s.1 ∙ listening held next frame t a
  where
    listening : (held : Holding) (next : ℕ) (frame : Frame) → turned (Listening next) frame ≡ None → is_asked (Listening next) frame ≡ false → answer_to held (host.Listening next) frame ≡ None
    listening held next (AskFrame serial payload) t a = cc
    listening held next ByeFrame t a = cc
    listening held next frame t a = refl
not_turned held catalog source (Answering serial place sent) frame stand t a o s = cc
not_turned held catalog source (Replying serial place sent) frame stand t a o s =
    ap (λ (st : Stand). answer_to held st frame) s.1 ∙ replying held serial place sent (reply_left (most_rows source) serial sent (left_from source place)) frame t
  where
    replying : (held : Holding) (serial place sent : ℕ) (rest : List Frame) (frame : Frame) → turned (Replying serial place sent) frame ≡ None → answer_to held (host.Replying serial rest) frame ≡ None
    replying held serial place sent rest (MoreFrame other) t = more_not held serial place sent other rest (other == serial) refl t
    replying held serial place sent rest frame t = refl
not_turned held catalog source Over frame stand t a o s = ap (λ (st : Stand). answer_to held st frame) s.1

-- an ask in its place was taken
pub taken_leads : (held : Holding) (catalog : channel.Catalog) (starts file payload : List ℕ) (reply : Reply) (serial next : ℕ) (stand : Stand)
    → HoldsFile held catalog starts file → TakesAsk catalog starts payload reply → serial ≡ next → stand ≡ host.Listening next
    → Leads held (catalog_bytes catalog) (source_of reply file) stand (AskFrame serial payload) (Answering serial 0 0)
taken_leads held catalog starts file payload reply serial next stand holds takes same s =
    let ask : channel.Ask = takes.ask in
    let source : Source = source_of reply file in
    let rows : held.rows ask ≡ left_from source 0 =
    holds.replied ask takes.proper
    ∙ (ap (λ (f : Form). replies_at f file (slice_index starts ask.table) 0 (slice_index catalog.counts ask.table)) (sym takes.form)
    ∙ (ap (λ (n : ℕ). replies_at (form_view reply.form) file n 0 (slice_index catalog.counts ask.table)) (sym takes.start)
    ∙ ap (λ (n : ℕ). replies_at (form_view reply.form) file reply.start 0 n) (sym takes.rows ∙ (let e : reply.rows ≡ reply.rows - 0 = omega arith in e)))) in
    let most : 2040 / asks.row_width held.catalog.schema ask ≡ most_rows source =
    ap (λ (c : channel.Catalog). 2040 / asks.row_width c.schema ask) holds.catalog_is
    ∙ (ap (λ (n : ℕ). 2040 / n) (sym (same_width catalog.schema ask)) ∙ ap (λ (f : Form). 2040 / reply_width f) (sym takes.form)) in
    let frames : reply_to held serial ask ≡ reply_left (most_rows source) serial 0 (left_from source 0) =
    ap (λ (n : ℕ). map (rows_frame serial) (grouped n (held.rows ask)) ++ DoneFrame serial (length (held.rows ask)) ∷ []) most
    ∙ (ap (λ (rs : List RowCells). map (rows_frame serial) (grouped (most_rows source) rs) ++ DoneFrame serial (length rs) ∷ []) rows
    ∙ ap (λ (n : ℕ). map (rows_frame serial) (grouped (most_rows source) (left_from source 0)) ++ DoneFrame serial n ∷ []) (let e : length (left_from source 0) ≡ 0 + length (left_from source 0) = omega arith in e)) in
    let read : ask_in held.catalog.schema payload ≡ Some ask = ap (λ (c : channel.Catalog). ask_in c.schema payload) holds.catalog_is ∙ takes.read in
    let answer : answer_to held stand (AskFrame serial payload) ≡ goes_on serial (reply_to held serial ask) =
    ap (λ (st : Stand). answer_to held st (AskFrame serial payload)) s
    ∙ (ap (λ (t : Bool). if t then answers_ask held serial (ask_in held.catalog.schema payload) else None) (eq-eqb serial next same)
    ∙ ap (answers_ask held serial) read) in
    leads_on held (catalog_bytes catalog) source serial 0 0 stand (AskFrame serial payload) (reply_to held serial ask)
    (begins (map (rows_frame serial) (grouped (2040 / asks.row_width held.catalog.schema ask) (held.rows ask))) (DoneFrame serial (length (held.rows ask)))) frames answer
    (none_ahead reply.form.width reply.piece file reply.start 0 takes.none)

other_serial : (serial next : ℕ) → (serial ≡ next → ⊥) → (serial == next) ≡ false
other_serial serial next h = grind (arith, nat_tests)

-- an ask with another serial is not answered
pub wrong_serial : (held : Holding) (serial next : ℕ) (payload : List ℕ) (stand : Stand) → (serial ≡ next → ⊥) → stand ≡ host.Listening next
    → answer_to held stand (AskFrame serial payload) ≡ None
wrong_serial held serial next payload stand other s =
    ap (λ (st : Stand). answer_to held st (AskFrame serial payload)) s
    ∙ ap (λ (t : Bool). if t then answers_ask held serial (ask_in held.catalog.schema payload) else None) (other_serial serial next other)

refused : (held : Holding) (serial : ℕ) (b : Bool) → (if b then answers_ask held serial None else None) ≡ None
refused held serial true = refl
refused held serial false = refl

-- a payload that spells no ask is not answered
pub no_ask : (held : Holding) (catalog : channel.Catalog) (serial next : ℕ) (payload : List ℕ) (stand : Stand) → held.catalog ≡ catalog
    → ask_in catalog.schema payload ≡ None → stand ≡ host.Listening next → answer_to held stand (AskFrame serial payload) ≡ None
no_ask held catalog serial next payload stand c none s =
    ap (λ (st : Stand). answer_to held st (AskFrame serial payload)) s
    ∙ (ap (λ (o : Option channel.Ask). if serial == next then answers_ask held serial o else None) (ap (λ (k : channel.Catalog). ask_in k.schema payload) c ∙ none)
    ∙ refused held serial (serial == next))

-- what is kept fits also after a turn
pub turned_within : (size rows ahead : ℕ) (stage next : Stage) (frame : Frame) → 0 < size → IsWithin size rows ahead stage → turned stage frame ≡ Some next → IsWithin size rows ahead next
turned_within size rows ahead Greeting next (HelloFrame generation) some w e = subst (IsWithin size rows ahead) (same_stage _ _ e) record { said = some; sent = omega arith; place = w.place }
turned_within size rows ahead (Listening serial) next ByeFrame some w e = subst (IsWithin size rows ahead) (same_stage _ _ e) record { said = some; sent = omega arith; place = w.place }
turned_within size rows ahead (Replying serial place sent) next (MoreFrame other) some w e = kept (other == serial) e
  where
    kept : (b : Bool) → (if b then Some (Answering serial place sent) else None) ≡ Some next → IsWithin size rows ahead next
    kept true e = subst (IsWithin size rows ahead) (same_stage _ _ e) record { said = some; sent = w.sent; place = w.place }
    kept false e = cc
turned_within size rows ahead stage next frame some w e = cc

some_bytes : (first : ℕ) (bytes : List ℕ) → 0 < length (first ∷ bytes)
some_bytes first bytes = omega arith

pub catalog_begins : (catalog : channel.Catalog) → 0 < length (catalog_bytes catalog)
catalog_begins catalog = some_bytes 71 (drop 1 (catalog_bytes catalog))

pub listening_at : (bytes : List ℕ) (source : Source) (stage : Stage) (next : ℕ) (stand : Stand) → stage ≡ Listening next → Stands bytes source stage [] stand → stand ≡ host.Listening next
listening_at bytes source stage next stand e s = (subst (λ (st : Stage). Stands bytes source st [] stand) e s).1
