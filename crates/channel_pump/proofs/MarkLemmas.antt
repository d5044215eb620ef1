-- The texts that are marked are those of which an ask was refused, also after one more frame.
use Rattle.std.proofs.Common.{◌≡◌, ◌≢◌, ℕ, ◌+◌, ◌≤◌, Bool, true, false, not, ◌&&◌, ◌||◌, ◌==◌, nat_le, if◌then◌else◌, Some, None, List, [], ◌∷◌, ◌++◌, length, get_or, set, refl, ap, sym, ◌∙◌, subst, arith}
use Rattle.std.specs.List.{list_any}
use Rattle.std.proofs.lemmas.Bool.Decides.{nat_tests}
use Rattle.std.proofs.lemmas.List.{get_or-set_same, get_or-set_other, length-set}
use Rattle.std.proofs.lemmas.List.Folds.{list_any-append}
use Rattle.ghost_model.specs.core.Channel as channel
use Rattle.ghost_model.specs.core.Channel.{Catalog}
use Rattle.ghost_model.specs.forms.Frames as frames
use Rattle.ghost_model.specs.core.Asks.{NumberedAsk}
use Rattle.ghost_model.specs.core.NextMove as next
use Rattle.ghost_model.specs.core.NextMove.{Awaits, AwaitsCatalog, AwaitsNothing, EndedAsk, Refused, Standing}
use Rattle.channel_pump.specs.Forms.{Form}
use Rattle.channel_pump.specs.declared.state.Pump.{Pump}
use Rattle.channel_pump.specs.declared.state.Phase.{Phase}
use Rattle.channel_pump.specs.declared.state.Phase.TheVariants.{Greeting, Reply, Over}
use Rattle.channel_pump.specs.Asked.{AreAsked}
use Rattle.channel_pump.specs.Here.{header_at, awaits_at}
use Rattle.channel_pump.specs.State.{IsLeft, IsAwaiting, IsFresh}
use Rattle.channel_pump.specs.Turning.{event_of}
use Rattle.channel_pump.specs.declared.state.Cause.TheVariants.{Link, Protocol}
use Rattle.channel_pump.specs.declared.state.ReplyState.{ReplyState}
use Rattle.channel_pump.specs.declared.state.ReplyState.TheVariants as state
use Rattle.channel_pump.specs.Progress.{EndsAs}
use Rattle.channel_pump.specs.Marks.{AreMarked, is_refusal, mark_first, marked_on, awaited, state_of}
use Rattle.channel_pump.proofs.TurningLemmas.{frame_of_kind}
use Rattle.channel_pump.proofs.PlaceLemmas.{header_is}
use Rattle.channel_pump.proofs.TookLemmas.{rows, done, sorry, FrameKind, greets, replies, kind_of_header}

or_false : (b : Bool) → (b || false) ≡ b
or_false true = refl
or_false false = refl

or_true : (b : Bool) → (b || true) ≡ true
or_true true = refl
or_true false = refl

-- asks that were ended by DONE, or none, leave the marks
same_marks : (marks : List Bool) (ended more : List EndedAsk) → ((text : ℕ) → list_any (is_refusal text) more ≡ false) → AreMarked marks ended → AreMarked marks (ended ++ more)
same_marks marks ended more none h = record {
  size = h.size;
  each = λ text k. h.each text k
      ∙ sym (list_any-append (is_refusal text) ended more ∙ (ap (λ (b : Bool). list_any (is_refusal text) ended || b) (none text) ∙ or_false _));
}

quiet_greeting : (awaits : Awaits) (bytes : List ℕ) (last : ℕ) (piece : List ℕ) (text : ℕ) → list_any (is_refusal text) (next.ended_by awaits bytes (channel.WelcomeFrame last piece)) ≡ false
quiet_greeting (AwaitsCatalog _) bytes last piece text = refl
quiet_greeting (next.AwaitsReply _ _ _ _ _) bytes last piece text = refl
quiet_greeting AwaitsNothing bytes last piece text = refl

quiet_rows : (awaits : Awaits) (bytes : List ℕ) (serial : ℕ) (payload : List ℕ) (text : ℕ) → list_any (is_refusal text) (next.ended_by awaits bytes (channel.RowsFrame serial payload)) ≡ false
quiet_rows (AwaitsCatalog _) bytes serial payload text = refl
quiet_rows (next.AwaitsReply _ _ _ _ _) bytes serial payload text = refl
quiet_rows AwaitsNothing bytes serial payload text = refl

quiet_done : (awaits : Awaits) (bytes : List ℕ) (serial total : ℕ) (text : ℕ) → list_any (is_refusal text) (next.ended_by awaits bytes (channel.DoneFrame serial total)) ≡ false
quiet_done (AwaitsCatalog _) bytes serial total text = refl
quiet_done (next.AwaitsReply _ _ _ _ _) bytes serial total text = refl
quiet_done AwaitsNothing bytes serial total text = refl

is_same : (a b : ℕ) → (a == b) ≡ true → a ≡ b
is_same a b e = grind (arith, nat_tests)

is_other : (a b : ℕ) → (a == b) ≡ false → b ≢ a
is_other a b e = grind (arith, nat_tests)

mark_at : (marks : List Bool) (ended : List EndedAsk) (at text : ℕ) (b : Bool) → (at == text) ≡ b → length marks ≡ 65 → at ≤ 64
    → get_or marks text false ≡ list_any (is_refusal text) ended → get_or (set marks at true) text false ≡ (list_any (is_refusal text) ended || (b || false))
mark_at marks ended at text true e size fits h =
    subst (λ (k : ℕ). get_or (set marks at true) k false ≡ (list_any (is_refusal text) ended || true)) (is_same at text e)
    (get_or-set_same marks at true false (omega (arith, size, fits)) ∙ sym (or_true _))
mark_at marks ended at text false e size fits h =
    get_or-set_other marks at text true false (is_other at text e) ∙ (h ∙ sym (or_false _))

sorry_marks : (catalog : Catalog) (forms : List Form) (asked : NumberedAsk) (later : List NumberedAsk) (marks : List Bool) (ended : List EndedAsk) (code : ℕ)
    → AreAsked catalog forms (asked ∷ later) → AreMarked marks ended → AreMarked (mark_first forms marks) (ended ++ next.ended asked (Refused code) ∷ [])
sorry_marks catalog [] asked later marks ended code all h = absurd all
sorry_marks catalog (form ∷ forms) asked later marks ended code all h = record {
  size = length-set marks form.text true ∙ h.size;
  each = λ text k. mark_at marks ended form.text text (form.text == text) refl h.size all.0.in_script (h.each text k)
      ∙ (ap (λ (n : ℕ). list_any (is_refusal text) ended || ((n == text) || false)) all.0.text
      ∙ sym (list_any-append (is_refusal text) ended (next.ended asked (Refused code) ∷ [])));
}

no_truth : false ≡ true → ⊥
no_truth e = cc

not_greeting : (version kind serial size missing : ℕ) → kind ≡ 20
    → (version == frames.frame_version && kind == 17 && serial == 0 && nat_le 2 size && nat_le size 2040 && nat_le size (missing + 1)) ≡ true → ⊥
not_greeting version kind serial size missing e t = grind (arith, nat_tests)

refused_marks : (catalog : Catalog) (p : Pump) (phase : Phase) (awaits : Awaits) (ended : List EndedAsk) (bytes : List ℕ) (bytes_in : List ℕ) (serial code : ℕ)
    → IsAwaiting catalog p phase awaits → frames.kind_in bytes_in ≡ 20 → next.header_fits catalog awaits bytes_in ≡ true → AreMarked p.refused ended
    → AreMarked (mark_first p.rest p.refused) (ended ++ next.ended_by awaits bytes (channel.SorryFrame serial code))
refused_marks catalog p phase (AwaitsCatalog missing) ended bytes bytes_in serial code h kind t marks =
    absurd (not_greeting (frames.version_in bytes_in) (frames.kind_in bytes_in) (frames.serial_in bytes_in) (frames.size_in bytes_in) (length missing) kind t)
refused_marks catalog p Greeting (next.AwaitsReply _ _ _ _ _) ended bytes bytes_in serial code h kind t marks = absurd h
refused_marks catalog p Reply (next.AwaitsReply asked _ later _ _) ended bytes bytes_in serial code h kind t marks =
    sorry_marks catalog p.rest asked later p.refused ended code h.asks marks
refused_marks catalog p Over (next.AwaitsReply _ _ _ _ _) ended bytes bytes_in serial code h kind t marks = absurd h
refused_marks catalog p phase AwaitsNothing ended bytes bytes_in serial code h kind t marks = absurd (no_truth t)

module _ (catalog : Catalog) (p : Pump) (awaits : Awaits) (ended : List EndedAsk) (bytes : List ℕ) (n : ℕ) (whole : List ℕ) where
  abbrev Goal : channel.Frame → Type 0
  Goal frame = AreMarked (marked_on (event_of n frame) p.rest p.refused) (ended ++ next.ended_by awaits bytes frame)

  by_kind : FrameKind (frames.kind_in whole) (frames.size_in whole) → IsAwaiting catalog p p.phase awaits → next.header_fits catalog awaits whole ≡ true → AreMarked p.refused ended
      → Goal (frames.frame_in whole)
  by_kind (greets k) h t marks =
      subst Goal (sym (frame_of_kind whole 17 k)) (same_marks p.refused ended _ (λ text. quiet_greeting awaits bytes _ _ text) marks)
  by_kind (replies (rows k)) h t marks =
      subst Goal (sym (frame_of_kind whole 18 k)) (same_marks p.refused ended _ (λ text. quiet_rows awaits bytes _ _ text) marks)
  by_kind (replies (done k z)) h t marks =
      subst Goal (sym (frame_of_kind whole 19 k)) (same_marks p.refused ended _ (λ text. quiet_done awaits bytes _ _ text) marks)
  by_kind (replies (sorry k z)) h t marks =
      subst Goal (sym (frame_of_kind whole 20 k)) (refused_marks catalog p p.phase awaits ended bytes whole _ _ h k t marks)

  pub frame_marks : IsAwaiting catalog p p.phase awaits → header_at p.phase p whole ≡ true → AreMarked p.refused ended → Goal (frames.frame_in whole)
  frame_marks h t marks =
      by_kind (kind_of_header p p.phase whole t) h (sym (header_is catalog p p.phase awaits whole h) ∙ t) marks

-- the asks that are left are those that are awaited
any_asked : (catalog : Catalog) (text : ℕ) (forms : List Form) (asks : List NumberedAsk) → AreAsked catalog forms asks
    → list_any (λ (form : Form). form.text == text) forms ≡ list_any (λ (asked : NumberedAsk). asked.text == text) asks
any_asked catalog text [] [] h = refl
any_asked catalog text [] (asked ∷ asks) h = absurd h
any_asked catalog text (form ∷ forms) [] h = absurd h
any_asked catalog text (form ∷ forms) (asked ∷ asks) h =
    ap (λ (n : ℕ). (n == text) || list_any (λ (f : Form). f.text == text) forms) h.0.text
    ∙ ap (λ (b : Bool). (asked.text == text) || b) (any_asked catalog text forms asks h.1)

pub awaited_is : (catalog : Catalog) (asks : List NumberedAsk) (text : ℕ) (p : Pump) (phase : Phase) (awaits : Awaits) → IsAwaiting catalog p phase awaits → IsFresh catalog asks p phase
    → awaits_at phase p text ≡ list_any (λ (asked : NumberedAsk). asked.text == text) (awaited asks awaits)
awaited_is catalog asks text p Greeting (AwaitsCatalog bytes) h f = any_asked catalog text p.rest asks f.all
awaited_is catalog asks text p Greeting (next.AwaitsReply _ _ _ _ _) h f = absurd h
awaited_is catalog asks text p Greeting AwaitsNothing h f = absurd h
awaited_is catalog asks text p Reply (AwaitsCatalog bytes) h f = absurd h
awaited_is catalog asks text p Reply (next.AwaitsReply asked _ later _ _) h f = any_asked catalog text p.rest (asked ∷ later) h.asks
awaited_is catalog asks text p Reply AwaitsNothing h f = absurd h
awaited_is catalog asks text p Over (AwaitsCatalog bytes) h f = absurd h
awaited_is catalog asks text p Over (next.AwaitsReply _ _ _ _ _) h f = absurd h
awaited_is catalog asks text p Over AwaitsNothing h f = refl

-- the tests of a reply's state, over plain values
abbrev picked : (refused awaited stopped broken : Bool) → ReplyState
picked refused awaited stopped broken =
    if refused then state.Host else if not awaited then state.Done else if stopped then state.Link else if broken then state.Protocol else state.Awaited

pick_done : (r a s b : Bool) → r ≡ false → a ≡ false → state.Done ≡ picked r a s b
pick_done false false s b e f = refl
pick_done true a s b e f = cc
pick_done false true s b e f = cc

pick_link : (r a s b : Bool) → r ≡ false → a ≡ true → s ≡ true → state.Link ≡ picked r a s b
pick_link false true true b e f g = refl
pick_link true a s b e f g = cc
pick_link false false s b e f g = cc
pick_link false true false b e f g = cc

pick_protocol : (r a s b : Bool) → r ≡ false → a ≡ true → s ≡ false → b ≡ true → state.Protocol ≡ picked r a s b
pick_protocol false true false true e f g h = refl
pick_protocol true a s b e f g h = cc
pick_protocol false false s b e f g h = cc
pick_protocol false true true b e f g h = cc
pick_protocol false true false false e f g h = cc

pick_awaited : (r a s b : Bool) → r ≡ false → a ≡ true → s ≡ false → b ≡ false → state.Awaited ≡ picked r a s b
pick_awaited false true false false e f g h = refl
pick_awaited true a s b e f g h = cc
pick_awaited false false s b e f g h = cc
pick_awaited false true true b e f g h = cc
pick_awaited false true false true e f g h = cc

module _ (catalog : Catalog) (asks : List NumberedAsk) (text : ℕ) (p : Pump) (l : Standing) (h : IsLeft catalog asks p l) (fits : text ≤ 64) where
  not_refused : get_or p.refused text false ≡ false → list_any (is_refusal text) l.heard.ended ≡ false
  not_refused e = sym (h.refused.each text fits) ∙ e

  awaited_as : {b : Bool} → awaits_at p.phase p text ≡ b → list_any (λ (asked : NumberedAsk). asked.text == text) (awaited asks l.heard.awaits) ≡ b
  awaited_as e = sym (awaited_is catalog asks text p p.phase l.heard.awaits h.awaits h.fresh) ∙ e

  pub is_done : get_or p.refused text false ≡ false → awaits_at p.phase p text ≡ false → state.Done ≡ state_of asks text l
  is_done r a = pick_done _ _ l.stopped l.heard.broken (not_refused r) (awaited_as a)

  pub is_link : get_or p.refused text false ≡ false → awaits_at p.phase p text ≡ true → EndsAs l (Some Link) → state.Link ≡ state_of asks text l
  is_link r a e = pick_link _ _ l.stopped l.heard.broken (not_refused r) (awaited_as a) e.0

  pub is_protocol : (kind place : ℕ) → get_or p.refused text false ≡ false → awaits_at p.phase p text ≡ true → EndsAs l (Some (Protocol kind place)) → state.Protocol ≡ state_of asks text l
  is_protocol kind place r a e = pick_protocol _ _ l.stopped l.heard.broken (not_refused r) (awaited_as a) e.0 e.1

  pub is_awaited : get_or p.refused text false ≡ false → awaits_at p.phase p text ≡ true → EndsAs l None → state.Awaited ≡ state_of asks text l
  is_awaited r a e = pick_awaited _ _ l.stopped l.heard.broken (not_refused r) (awaited_as a) e.0 e.1
