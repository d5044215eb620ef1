-- What the pump awaits next, and what it sends, are those of the definitions.
use Rattle.std.proofs.Common.{◌≡◌, ◌≢◌, ℕ, zero, suc, ◌+◌, ◌*◌, ◌/◌, ◌%◌, take_while, ◌-◌, ◌<◌, ◌≤◌, Bool, true, false, ◌&&◌, ◌==◌, cond, nat_le, List, [], ◌∷◌, length, drop, if◌then◌else◌, slice_index, ap, sym, ◌∙◌, subst, arith}
use Rattle.std.proofs.lemmas.Bool.Decides.{nat_tests}
use Rattle.std.proofs.Math.Nat.{div-add-mod}
use Rattle.std.proofs.lemmas.List.Sums.{take_while-cons}
use Rattle.ghost_model.specs.core.Channel as channel
use Rattle.ghost_model.specs.core.Channel.{Catalog}
use Rattle.std.proofs.lemmas.List.{length-drop, length-take-le}
use Rattle.ghost_model.specs.core.Asks.{NumberedAsk, ask_payload}
use Rattle.ghost_model.specs.core.Schema.{Schema}
use Rattle.ghost_model.specs.forms.Frames as frames
use Rattle.ghost_model.specs.core.NextMove as next
use Rattle.channel_pump.specs.Forms.{Form}
use Rattle.channel_pump.specs.declared.state.Pump.{Pump}
use Rattle.channel_pump.specs.declared.state.Phase.{Phase}
use Rattle.channel_pump.specs.declared.state.Phase.TheVariants.{Greeting, Reply}
use Rattle.channel_pump.specs.declared.state.Stage.TheVariants.{Sending, Taking}
use Rattle.channel_pump.specs.declared.state.Outgoing.TheVariants.{Ask}
use Rattle.channel_pump.specs.declared.rows.Tally.{Tally}
use Rattle.channel_pump.specs.Asked.{AreAsked, form_kinds, width_of, rows_with}
use Rattle.channel_pump.specs.Here.{Stands, nothing, header_at, reply_header, reply_rows, form_rows, rows_at, table_rows, frames_for, frames_of_reply, frames_at, frames_left}
use Rattle.channel_pump.proofs.RowLemmas.{rows_count}
use Rattle.channel_pump.specs.State.{IsAwaiting, IsTurned, first_payload, due_at}
use Rattle.channel_pump.specs.Turning.{forms_after}

false_is_not : false ≡ true → ⊥
false_is_not e = cc

payload_of_first : (catalog : Catalog) (forms : List Form) (asked : NumberedAsk) (later : List NumberedAsk) → AreAsked catalog forms (asked ∷ later)
    → first_payload forms ≡ ask_payload catalog.schema asked.ask
payload_of_first catalog [] asked later h = absurd h
payload_of_first catalog (form ∷ forms) asked later h = h.0.payload

-- asks are left, and the first of them is sent
pub asks_on : (catalog : Catalog) (q : Pump) (serial : ℕ) (asks : List NumberedAsk) → q.phase ≡ Reply → q.stage ≡ Sending Ask → q.serial ≡ serial
    → q.count ≡ 0 → q.last ≡ 0 → 0 < length q.rest → AreAsked catalog q.rest asks
    → IsTurned catalog q (next.ask_next catalog.schema serial asks)
asks_on catalog q serial [] phase stage s count last some h = absurd (none_left catalog q.rest some h)
  where
    none_left : (catalog : Catalog) (forms : List Form) → 0 < length forms → AreAsked catalog forms [] → ⊥
    none_left catalog [] some h = omega (arith, some)
    none_left catalog (form ∷ forms) some h = h
asks_on catalog q serial (asked ∷ later) phase stage s count last some h = record {
  awaits = subst (λ (x : Phase). IsAwaiting catalog q x (next.AwaitsReply asked serial later 0 0)) (sym phase)
      (record { asks = h; its_serial = s; its_count = count; its_last = last });
  due = ap (λ (p : List ℕ). channel.AskFrame serial p ∷ []) (sym (payload_of_first catalog q.rest asked later h))
      ∙ (ap (λ (n : ℕ). channel.AskFrame n (first_payload q.rest) ∷ []) (sym s)
      ∙ ap (due_at q) (sym stage));
}

record Greets (version kind serial size : ℕ) : Type 0 where
  kind_is : kind ≡ 17
  some : 2 ≤ size

greets : (version kind serial size missing : ℕ)
    → (version == frames.frame_version && kind == 17 && serial == 0 && nat_le 2 size && nat_le size 2040 && nat_le size (missing + 1)) ≡ true → Greets version kind serial size
greets version kind serial size missing e = record { kind_is = grind (arith, nat_tests); some = grind (arith, nat_tests) }

-- a payload that is whole
pub payload_length : (part : List ℕ) → 8 + frames.size_in part ≤ length part → length (frames.payload_in part) ≡ frames.size_in part
payload_length part whole =
    length-take-le (frames.size_in part) (drop 8 part) (omega (arith, length-drop 8 part, whole))

pub frame_of_kind : (part : List ℕ) (kind : ℕ) → frames.kind_in part ≡ kind
    → frames.frame_in part ≡ frames.frame_of_parts kind (frames.serial_in part) (frames.payload_in part)
frame_of_kind part kind e = ap (λ (k : ℕ). frames.frame_of_parts k (frames.serial_in part) (frames.payload_in part)) e

abbrev welcomed : List ℕ → List ℕ
welcomed part = drop 1 (frames.payload_in part)

welcomed_length : (part : List ℕ) → 8 + frames.size_in part ≤ length part → length (welcomed part) ≡ frames.size_in part - 1
welcomed_length part whole =
    let size : length (frames.payload_in part) ≡ frames.size_in part = payload_length part whole in
    omega (arith, length-drop 1 (frames.payload_in part), size)

abbrev greeting_turn : Schema → List NumberedAsk → List ℕ → List ℕ → Bool → next.FrameOutcome
greeting_turn schema asks missing part last = if last then next.ask_next schema 1 asks else next.still (next.AwaitsCatalog (drop (length part) missing))

frame_of_greeting : (missing part : List ℕ) → next.header_fits nothing (next.AwaitsCatalog missing) part ≡ true
    → frames.frame_in part ≡ channel.WelcomeFrame (slice_index (frames.payload_in part) 0) (welcomed part)
frame_of_greeting missing part fits =
    let all : Greets (frames.version_in part) (frames.kind_in part) (frames.serial_in part) (frames.size_in part) =
    greets (frames.version_in part) (frames.kind_in part) (frames.serial_in part) (frames.size_in part) (length missing) fits in
    frame_of_kind part 17 all.kind_is

test_true : (a b : ℕ) → a ≡ b → (a == b) ≡ true
test_true a b e = grind (arith, nat_tests)

test_false : (a b : ℕ) → a ≢ b → (a == b) ≡ false
test_false a b e = grind (arith, nat_tests)

-- the part that ends the catalog leads to the first ask
pub greeted_last : (schema : Schema) (asks : List NumberedAsk) (missing part : List ℕ) → 8 + frames.size_in part ≤ length part
    → next.header_fits nothing (next.AwaitsCatalog missing) part ≡ true → frames.size_in part - 1 ≡ length missing
    → next.turn_of_greeting schema asks missing (frames.frame_in part) ≡ next.ask_next schema 1 asks
greeted_last schema asks missing part whole fits e =
    ap (next.turn_of_greeting schema asks missing) (frame_of_greeting missing part fits)
    ∙ ap (greeting_turn schema asks missing (welcomed part)) (test_true (length (welcomed part)) (length missing) (welcomed_length part whole ∙ e))

-- any other part leaves the rest of the catalog missing
pub greeted_part : (schema : Schema) (asks : List NumberedAsk) (missing part : List ℕ) → 8 + frames.size_in part ≤ length part
    → next.header_fits nothing (next.AwaitsCatalog missing) part ≡ true → frames.size_in part - 1 ≢ length missing
    → next.turn_of_greeting schema asks missing (frames.frame_in part) ≡ next.still (next.AwaitsCatalog (drop (frames.size_in part - 1) missing))
greeted_part schema asks missing part whole fits ne =
    ap (next.turn_of_greeting schema asks missing) (frame_of_greeting missing part fits)
    ∙ (ap (greeting_turn schema asks missing (welcomed part)) (test_false (length (welcomed part)) (length missing) (λ e. ne (sym (welcomed_length part whole) ∙ e)))
    ∙ ap (λ (n : ℕ). next.still (next.AwaitsCatalog (drop n missing))) (welcomed_length part whole))

pub still_missing : (catalog : Catalog) (q : Pump) (turn : next.FrameOutcome) (bytes : List ℕ) → q.phase ≡ Greeting → q.stage ≡ Taking → q.missing ≡ bytes
    → turn ≡ next.still (next.AwaitsCatalog bytes) → IsTurned catalog q turn
still_missing catalog q turn bytes phase stage e t =
    subst (λ (x : next.FrameOutcome). IsTurned catalog q x) (sym t) (record {
      awaits = subst (λ (x : Phase). IsAwaiting catalog q x (next.AwaitsCatalog bytes)) (sym phase) e;
      due = ap (due_at q) (sym stage);
    })

-- rows that came are some, so fewer frames are left

some_of_product : (m q r n : ℕ) → m * q + r ≡ n → r ≡ 0 → 0 < n → 0 < q
some_of_product m zero r n e z h = absurd (omega (arith, e, z, h))
some_of_product m (suc q) r n e z h = omega arith

quotient_some : (size width : ℕ) → 0 < size → size % width ≡ 0 → 0 < size / width
quotient_some size width some whole = some_of_product width (size / width) (size % width) size (div-add-mod size width) whole some

record IsRowsSize (width size : ℕ) : Type 0 where
  some : 0 < size
  whole : size % width ≡ 0

rows_size : (version serial : Bool) (width kind size : ℕ) → kind ≡ 18 → (version && serial && next.reply_size_fits width kind size) ≡ true → IsRowsSize width size
rows_size version serial width kind size e t = record { some = grind (arith, nat_tests); whole = grind (arith, nat_tests) }

rows_some : (forms : List Form) (serial : ℕ) (part : List ℕ) → 8 + frames.size_in part ≤ length part → frames.kind_in part ≡ 18
    → reply_header forms serial part ≡ true → 0 < length (reply_rows forms (frames.frame_in part))
rows_some [] serial part whole kind t = absurd (false_is_not t)
rows_some (form ∷ forms) serial part whole kind t =
    let width : ℕ = width_of (form_kinds form) in
    let size : IsRowsSize (width_of (form_kinds form)) (frames.size_in part) =
    rows_size (frames.version_in part == frames.frame_version) (frames.serial_in part == serial) (width_of (form_kinds form)) (frames.kind_in part) (frames.size_in part) kind t in
    let counted : length (rows_with (form_kinds form) (frames.payload_in part)) ≡ length (frames.payload_in part) / width_of (form_kinds form) =
    rows_count (width_of (form_kinds form)) (length (frames.payload_in part) / width_of (form_kinds form)) (frames.payload_in part) in
    let more : 0 < frames.size_in part / width_of (form_kinds form) = quotient_some (frames.size_in part) (width_of (form_kinds form)) size.some size.whole in
    subst (λ (f : channel.Frame). 0 < length (form_rows form f)) (sym (frame_of_kind part 18 kind))
    (subst (λ (n : ℕ). 0 < n) (sym (counted ∙ ap (λ (n : ℕ). n / width_of (form_kinds form)) (payload_length part whole))) more)

fewer_for_reply : (forms : List Form) (last now : ℕ) → last < now → now ≤ table_rows forms → frames_of_reply forms now < frames_of_reply forms last
fewer_for_reply [] last now up low = absurd (omega (arith, up, low))
fewer_for_reply (form ∷ forms) last now up low = omega (arith, up, low)

pub fewer_by_rows : (p q : Pump) (part : List ℕ) (tally : Tally) → p.phase ≡ Reply → q.phase ≡ p.phase → q.rest ≡ p.rest → q.last ≡ tally.last
    → frames.kind_in part ≡ 18 → Stands p part tally → frames_left q < frames_left p
fewer_by_rows p q part tally phase same rest last kind h =
    let header : reply_header p.rest p.serial part ≡ true = subst (λ (x : Phase). header_at x p part ≡ true) phase h.header in
    let counted : tally.rows ≡ length (reply_rows p.rest (frames.frame_in part)) = subst (λ (x : Phase). tally.rows ≡ length (rows_at x p (frames.frame_in part))) phase h.rows.rows in
    let some : 0 < length (reply_rows p.rest (frames.frame_in part)) = rows_some p.rest p.serial part h.whole kind header in
    let rows : 0 < tally.rows = omega (arith, counted, some) in
    let low : tally.last ≤ table_rows p.rest = h.rows.within rows in
    let up : p.last < tally.last = omega (arith, h.rows.above, rows) in
    let fewer : frames_of_reply p.rest tally.last < frames_of_reply p.rest p.last = fewer_for_reply p.rest p.last tally.last up low in
    subst (λ (x : Phase). frames_at x q < frames_left p) (sym (same ∙ phase))
    (subst (λ (x : Phase). frames_of_reply q.rest q.last < frames_at x p) (sym phase)
    (subst (λ (x : List Form). frames_of_reply x q.last < frames_of_reply p.rest p.last) (sym rest)
    (subst (λ (n : ℕ). frames_of_reply p.rest n < frames_of_reply p.rest p.last) (sym last) fewer)))

-- a text that is given up

after_either : (catalog : Catalog) (text : ℕ) (form : Form) (forms : List Form) (asked : NumberedAsk) (asks : List NumberedAsk) (b : Bool)
    → AreAsked catalog (forms_after text forms) (next.of_later_texts text asks) → AreAsked catalog (form ∷ forms) (asked ∷ asks)
    → AreAsked catalog (drop (length (cond b (form ∷ take_while (λ (f : Form). f.text == text) forms) [])) (form ∷ forms))
    (if b then next.of_later_texts text asks else asked ∷ asks)
after_either catalog text form forms asked asks true later all = later
after_either catalog text form forms asked asks false later all = all

pub asked_after : (catalog : Catalog) (text : ℕ) (forms : List Form) (asks : List NumberedAsk) → AreAsked catalog forms asks
    → AreAsked catalog (forms_after text forms) (next.of_later_texts text asks)
asked_after catalog text [] [] h = h
asked_after catalog text [] (asked ∷ asks) h = absurd h
asked_after catalog text (form ∷ forms) [] h = absurd h
asked_after catalog text (form ∷ forms) (asked ∷ asks) h =
    subst (λ (n : ℕ). AreAsked catalog (forms_after text (form ∷ forms)) (if n == text then next.of_later_texts text asks else asked ∷ asks)) h.0.text
    (subst (λ (xs : List Form). AreAsked catalog (drop (length xs) (form ∷ forms)) (if form.text == text then next.of_later_texts text asks else asked ∷ asks))
    (sym (take_while-cons (λ (f : Form). f.text == text) form forms))
    (after_either catalog text form forms asked asks (form.text == text) (asked_after catalog text forms asks h.1) h))

pub frames_dropped : (n : ℕ) (forms : List Form) → frames_for (drop n forms) ≤ frames_for forms
frames_dropped zero forms = omega arith
frames_dropped (suc n) [] = omega arith
frames_dropped (suc n) (form ∷ forms) = let less : frames_for (drop n forms) ≤ frames_for forms = frames_dropped n forms in omega (arith, less)

sorry_kind : (version serial : Bool) (width kind size : ℕ) → kind ≢ 18 → kind ≢ 19 → (version && serial && next.reply_size_fits width kind size) ≡ true → kind ≡ 20
sorry_kind version serial width kind size a b t = grind (arith, nat_tests)

pub sorry_header : (forms : List Form) (serial : ℕ) (part : List ℕ) → frames.kind_in part ≢ 18 → frames.kind_in part ≢ 19
    → reply_header forms serial part ≡ true → frames.kind_in part ≡ 20
sorry_header [] serial part a b t = absurd (false_is_not t)
sorry_header (form ∷ forms) serial part a b t =
    sorry_kind (frames.version_in part == frames.frame_version) (frames.serial_in part == serial) (width_of (form_kinds form)) (frames.kind_in part) (frames.size_in part) a b t

pub refused_turn : (p : Pump) (part : List ℕ) (schema : Schema) (asked : NumberedAsk) (serial : ℕ) (later : List NumberedAsk) (count last : ℕ)
    → p.phase ≡ Reply → frames.kind_in part ≢ 18 → frames.kind_in part ≢ 19 → header_at p.phase p part ≡ true
    → next.turn_of_reply schema asked serial later count last (frames.frame_in part) ≡ next.ask_next schema (serial + 1) (next.of_later_texts asked.text later)
refused_turn p part schema asked serial later count last phase a b t =
    let header : reply_header p.rest p.serial part ≡ true = subst (λ (x : Phase). header_at x p part ≡ true) phase t in
    ap (next.turn_of_reply schema asked serial later count last) (frame_of_kind part 20 (sorry_header p.rest p.serial part a b header))

pub refused_asks : (catalog : Catalog) (form : Form) (forms rest : List Form) (asked : NumberedAsk) (later : List NumberedAsk)
    → AreAsked catalog rest (asked ∷ later) → rest ≡ form ∷ forms → AreAsked catalog (forms_after form.text forms) (next.of_later_texts asked.text later)
refused_asks catalog form forms rest asked later h e =
    let all : AreAsked catalog (form ∷ forms) (asked ∷ later) = subst (λ (x : List Form). AreAsked catalog x (asked ∷ later)) e h in
    subst (λ (n : ℕ). AreAsked catalog (forms_after form.text forms) (next.of_later_texts n later)) all.0.text
    (asked_after catalog form.text forms later all.1)

-- an ask that was ended leaves fewer frames
pub fewer_by_end : (p q : Pump) (form : Form) (forms left : List Form) → p.phase ≡ Reply → p.rest ≡ form ∷ forms
    → frames_for left ≤ frames_for forms → frames_left q ≡ frames_for left → frames_left q < frames_left p
fewer_by_end p q form forms left phase rest less e =
    subst (λ (x : Phase). frames_left q < frames_at x p) (sym phase)
    (subst (λ (x : List Form). frames_left q < frames_of_reply x p.last) (sym rest) (omega (arith, less, e)))

-- the asks that are left where the first was refused
pub asks_given_up : (catalog : Catalog) (rest left later forms : List Form) (form : Form) (text : ℕ) (asked : NumberedAsk) (asks : List NumberedAsk)
    → AreAsked catalog rest (asked ∷ asks) → rest ≡ form ∷ forms → form.text ≡ text → later ≡ drop 1 rest → left ≡ forms_after text later
    → AreAsked catalog left (next.of_later_texts asked.text asks)
asks_given_up catalog rest left later forms form text asked asks h first of_text without given =
    let same : later ≡ forms = without ∙ ap (drop 1) first in
    let its : forms_after form.text forms ≡ left = ap (λ (t : ℕ). forms_after t forms) of_text ∙ (ap (forms_after text) (sym same) ∙ sym given) in
    subst (λ (x : List Form). AreAsked catalog x (next.of_later_texts asked.text asks)) its (refused_asks catalog form forms rest asked asks h first)

pub fewer_given_up : (p q : Pump) (left later forms : List Form) (form : Form) (text : ℕ) → p.phase ≡ Reply → p.rest ≡ form ∷ forms → form.text ≡ text
    → later ≡ drop 1 p.rest → left ≡ forms_after text later → frames_left q ≡ frames_for left → frames_left q < frames_left p
fewer_given_up p q left later forms form text phase first of_text without given e =
    let same : later ≡ forms = without ∙ ap (drop 1) first in
    let its : forms_after text forms ≡ left = ap (forms_after text) (sym same) ∙ sym given in
    fewer_by_end p q form forms left phase first
    (subst (λ (x : List Form). frames_for x ≤ frames_for forms) its (frames_dropped _ forms)) e
