-- The marks of texts whose replies could not be written: what becomes of them in a move, and once a text was told.
use Rattle.std.proofs.Common.{◌≡◌, ◌≢◌, ◌≤◌, ℕ, suc, ◌+◌, ◌⊎◌, inl, inr, arith, Bool, true, false, List, [], ◌∷◌, ◌++◌, refl, sym, ap, ◌∙◌, subst, Some, slice_get}
use Rattle.std.specs.Prelude.{min, if◌then◌else◌, ◌==◌, filter, map, is_err, Result, Ok, Err}
use Rattle.std.proofs.lemmas.Bool.{eq-eqb, eqb-true}
use Rattle.ghost_model.specs.core.Causes.{Rose, last_count}
use Rattle.ghost_model.specs.core.Schema.{Schema}
use Rattle.ghost_model.specs.core.Channel.{Catalog, Journal}
use Rattle.ghost_model.specs.core.Query.{Query}
use Rattle.ghost_model.specs.refusals.QueryMeaning.{Refusal}
use Rattle.ghost_model.specs.readings.QueryReading.{reading}
use Rattle.ghost_model.specs.core.Asks.{NumberedAsk, asked, asks_of_reading, asked_of}
use Rattle.ghost_model.specs.core.Moves.{taken}
use Rattle.ghost_model.specs.core.NextMove.{Awaits, AwaitsCatalog, AwaitsReply, AwaitsNothing, Heard}
use Rattle.ghost_model.specs.core.Lines.{Reason}
use Rattle.ghost_model.proofs.SessionLemmas.Answered.{of_text}
use Rattle.edge_traits.specs.Devices.{Device}
use Rattle.page_pool.specs.Pools.{Pool}
use Rattle.channel_pump.specs.declared.state.ReplyState.{ReplyState}
use Rattle.channel_pump.specs.Sessions.{asked_in}
use Rattle.session_laws.specs.TextEnds.{heard_in, AsksAreAwaitedInOrder}
use Rattle.key_session.specs.Kept.{IsKept, is_lost}
use Rattle.key_session.specs.Hearing.{MarkTells}
use Rattle.key_session.specs.Laws.{LaterTextsAreUnmarked}
use Rattle.key_session.specs.declared.replies.Replies.{Replies}
use Rattle.key_exec.specs.Texts.{IsToldBy}
use Rattle.key_exec.specs.declared.text.Told.{Told}
use Rattle.key_exec.specs.declared.text.Told.TheVariants as told
use Rattle.key_session.specs.Counting.{one_if}
use Rattle.key_session.specs.Reasons.{AreBlamed, is_refused_text}
use Rattle.key_session.specs.Telling.{AreMarked, marks_behind}
use Rattle.key_session.proofs.Adding.{TellsMark, either_of, rose_before, rose_then}

true_false : true ≡ false → ⊥
true_false e = cc

-- ---- once a text was told

-- no text behind the last one that was awaited is marked
pub marks_next : LaterTextsAreUnmarked → (told : Bool) (device : Device) (pool : Pool) (catalog : Catalog) (heard : Heard) (low top count : ℕ) (replies : Replies)
    → IsKept told device pool catalog heard low top replies → top ≤ count + 2
    → one_if (is_lost replies (count + 2)) ≡ marks_behind replies (count + 1)
marks_next law told device pool catalog heard low top count replies kept near =
    let none : is_lost replies (count + 3) ≡ false = law told device pool catalog heard low top (count + 3) replies kept (omega (arith, near)) in
    let next : count + 2 ≡ count + 1 + 1 = omega arith in
    let behind : count + 3 ≡ count + 1 + 2 = omega arith in
    let zero : 0 ≡ one_if (is_lost replies (count + 1 + 2)) = ap one_if (sym none ∙ ap (λ (n : ℕ). is_lost replies n) behind) in
    let first : one_if (is_lost replies (count + 2)) ≡ one_if (is_lost replies (count + 1 + 1)) = ap (λ (n : ℕ). one_if (is_lost replies n)) next in
    omega (arith, zero, first)

pub marked_next : (catalog : Catalog) (texts : List (List ℕ)) (count since before now : ℕ) (replies : Replies) → min before last_count ≤ now
    → AreMarked catalog texts count since before replies → AreMarked catalog texts (count + 1) since now replies
marked_next catalog texts count since before now replies stays are = record {
  called = λ text from is. rose_before last_count since before now (are.called text (omega (arith, from)) is) stays;
  accepted = λ place written from stands is. are.accepted place written (omega (arith, from)) stands is;
}

-- a refused text is not marked, nor one that was answered
unmarked : (schema : Schema) (text : List ℕ) (marked : Bool) (refusal : Refusal) → reading schema text ≡ Err refusal → (marked ≡ true → is_refused_text schema text ≡ false) → marked ≡ false
unmarked schema text false refusal refused accepted = refl
unmarked schema text true refusal refused accepted = absurd (true_false (sym (ap is_err refused) ∙ accepted refl))

pub mark_told : (schema : Schema) (text : List ℕ) (state : ReplyState) (marked : Bool) (result : Told) → IsToldBy schema text state marked result → (marked ≡ true → is_refused_text schema text ≡ false)
    → TellsMark marked result
mark_told schema text state marked told.Refused by accepted = unmarked schema text marked by.refusal by.refused accepted
mark_told schema text state marked told.Answered by accepted = by.came.1
mark_told schema text state marked told.Host by accepted = tt
mark_told schema text state marked told.Link by accepted = tt
mark_told schema text state marked told.Protocol by accepted = tt
mark_told schema text state marked told.Marked by accepted = by.came.1
mark_told schema text state marked told.Flash by accepted = by.came.1
mark_told schema text state marked (told.Damaged damage) by accepted = by.came.1

-- ---- in a move

blame_rise : (most since before now count marks : ℕ) → min (since + (count + (0 + marks))) most ≤ before → min (before + 1) most ≤ now → min (since + (count + (1 + marks))) most ≤ now
blame_rise most since before now count marks e rose = omega (arith, e, rose)

-- the mark of one of two texts, where so many others are marked
blamed_move : (reasons : List Reason) (since : ℕ) (before now : Device) (marks : ℕ) (was is : Bool) → MarkTells before now was is
    → AreBlamed (one_if was + marks) reasons since before.faults → AreBlamed (one_if is + marks) reasons since now.faults
blamed_move reasons since before now marks true true tells are = subst (λ (n : ℕ). AreBlamed (one_if true + marks) reasons since n) (sym (tells.same refl)) are
blamed_move reasons since before now marks false false tells are = subst (λ (n : ℕ). AreBlamed (one_if false + marks) reasons since n) (sym (tells.same refl)) are
blamed_move reasons since before now marks true false tells are = absurd (true_false (sym (tells.stays refl)))
blamed_move reasons since before now marks false true tells are = record {
  blamed = blame_rise last_count since before.faults now.faults _ marks are.blamed (tells.rose refl refl);
  unblamed = λ flash broken none. (let bad : ⊥ = omega (arith, none) in absurd bad);
}

swapped : (reasons : List Reason) (since now a b : ℕ) → AreBlamed (a + b) reasons since now → AreBlamed (b + a) reasons since now
swapped reasons since now a b are = subst (λ (n : ℕ). AreBlamed n reasons since now) (omega arith) are

-- what a move makes of the count of faults, by the marks
pub record MarksGo (count : ℕ) (before now : ℕ) (old new : Replies) : Type 0 where
  pub blamed : (reasons : List Reason) (since : ℕ) → AreBlamed (marks_behind old count) reasons since before → AreBlamed (marks_behind new count) reasons since now

pub marks_same : (count before now : ℕ) (old new : Replies) → ((text : ℕ) → is_lost new text ≡ is_lost old text) → now ≡ before → MarksGo count before now old new
marks_same count before now old new same faults = record {
  blamed = λ reasons since are.
      subst (λ (n : ℕ). AreBlamed (marks_behind new count) reasons since n) (sym faults)
      (subst (λ (n : ℕ). AreBlamed n reasons since before) (marks new (λ text. sym (same text))) are);
}
  where
    marks : (other : Replies) → ((text : ℕ) → is_lost old text ≡ is_lost other text) → marks_behind old count ≡ marks_behind other count
    marks other is =
        ap (λ (b : Bool). one_if b + one_if (is_lost old (count + 2))) (is (count + 1))
        ∙ ap (λ (b : Bool). one_if (is_lost other (count + 1)) + one_if b) (is (count + 2))

-- the ask at hand is of one of the two texts that come next
pub marks_go : (count text : ℕ) (before now : Device) (old new : Replies) → count + 1 ≤ text → text ≤ count + 2 → MarkTells before now (is_lost old text) (is_lost new text)
    → ((other : ℕ) → count + 1 ≤ other → other ≢ text → is_lost new other ≡ is_lost old other) → MarksGo count before.faults now.faults old new
marks_go count text before now old new from near tells others = record { blamed = λ reasons since are. by reasons since are (which count text from near) }
  where
    which : (count text : ℕ) → count + 1 ≤ text → text ≤ count + 2 → (text ≡ count + 1) ⊎ (text ≡ count + 2)
    which count text from near =
        elim (either_of text (count + 1) (omega (arith, near))) [
          | inl f ↦ inl (omega (arith, f, from))
          | inr f ↦ inr (omega (arith, f))
        ]

    by : (reasons : List Reason) (since : ℕ) → AreBlamed (marks_behind old count) reasons since before.faults → (text ≡ count + 1) ⊎ (text ≡ count + 2) → AreBlamed (marks_behind new count) reasons since now.faults
    by reasons since are (inl first) =
        let other : is_lost new (count + 2) ≡ is_lost old (count + 2) = others (count + 2) (omega arith) (λ (e : count + 2 ≡ text). omega (arith, e, first)) in
        let mine = subst (λ (n : ℕ). MarkTells before now (is_lost old n) (is_lost new n)) first tells in
        subst (λ (b : Bool). AreBlamed (one_if (is_lost new (count + 1)) + one_if b) reasons since now.faults) (sym other)
        (blamed_move reasons since before now (one_if (is_lost old (count + 2))) (is_lost old (count + 1)) (is_lost new (count + 1)) mine are)
    by reasons since are (inr second) =
        let other : is_lost new (count + 1) ≡ is_lost old (count + 1) = others (count + 1) (omega arith) (λ (e : count + 1 ≡ text). omega (arith, e, second)) in
        let mine = subst (λ (n : ℕ). MarkTells before now (is_lost old n) (is_lost new n)) second tells in
        subst (λ (b : Bool). AreBlamed (one_if b + one_if (is_lost new (count + 2))) reasons since now.faults) (sym other)
        (swapped reasons since now.faults (one_if (is_lost new (count + 2))) (one_if (is_lost old (count + 1)))
        (blamed_move reasons since before now (one_if (is_lost old (count + 1))) (is_lost old (count + 2)) (is_lost new (count + 2)) mine
        (swapped reasons since before.faults (one_if (is_lost old (count + 1))) (one_if (is_lost old (count + 2))) are)))

-- a text whose ask is awaited is an accepted one
none_in : (p : NumberedAsk → Bool) (before : List NumberedAsk) (one : NumberedAsk) (later : List NumberedAsk) → p one ≡ true → filter p (before ++ one ∷ later) ≡ [] → ⊥
none_in p [] one later is none =
    (elim (p one) as (λ v. v ≡ true → (if v then one ∷ filter p later else filter p later) ≡ [] → ⊥) [
      | true ↦ λ e f. cc
      | false ↦ λ e f. cc
    ]) is none
none_in p (first ∷ before) one later is none =
    (elim (p first) as (λ v. (if v then first ∷ filter p (before ++ one ∷ later) else filter p (before ++ one ∷ later)) ≡ [] → ⊥) [
      | true ↦ λ f. cc
      | false ↦ λ f. none_in p before one later is f
    ]) none

module _ (in_order : AsksAreAwaitedInOrder) (catalog : Catalog) (texts : List (List ℕ)) (journal : Journal) (one : NumberedAsk) where
  stands_in : (awaits : Awaits) → (heard_in catalog texts journal).awaits ≡ awaits → asked_in awaits ≡ Some one
      → (before : List NumberedAsk) × (later : List NumberedAsk) × (asked_of catalog.schema texts ≡ before ++ one ∷ later)
  stands_in (AwaitsCatalog _) is e = cc
  stands_in AwaitsNothing is e = cc
  stands_in (AwaitsReply first serial later count last) is e =
      let same : first ≡ one = cc in
      let stands = in_order catalog texts (taken journal) first serial later count last is in
      (stands.before, later, subst (λ (x : NumberedAsk). asked_of catalog.schema texts ≡ stands.before ++ x ∷ later) same stands.stands)

  pub awaited_accepted : asked_in (heard_in catalog texts journal).awaits ≡ Some one → (place : ℕ) (written : List ℕ) → one.text ≡ suc place → slice_get texts place ≡ Some written
      → is_refused_text catalog.schema written ≡ false
  awaited_accepted awaited place written is stands = by (reading catalog.schema written) refl
    where
      next : 1 + place ≡ suc place
      next = omega arith

      by : (read : Result Query Refusal) → reading catalog.schema written ≡ read → is_err (reading catalog.schema written) ≡ false
      by (Ok query) e = ap is_err e
      by (Err refusal) e =
          let found = stands_in (heard_in catalog texts journal).awaits refl awaited in
          let none : filter (λ (x : NumberedAsk). x.text == 1 + place) (asked_of catalog.schema texts) ≡ [] =
          of_text catalog.schema 1 place texts written stands ∙ ap (λ (r : Result Query Refusal). map (asked (1 + place)) (asks_of_reading catalog.schema r)) e in
          absurd (none_in (λ (x : NumberedAsk). x.text == 1 + place) found.0 one found.1 (eq-eqb one.text (1 + place) (is ∙ sym next))
          (ap (filter (λ (x : NumberedAsk). x.text == 1 + place)) (sym found.2) ∙ none))

pub marked_same : (catalog : Catalog) (texts : List (List ℕ)) (count since before now : ℕ) (old new : Replies) → ((text : ℕ) → is_lost new text ≡ is_lost old text) → min before last_count ≤ now
    → AreMarked catalog texts count since before old → AreMarked catalog texts count since now new
marked_same catalog texts count since before now old new same stays are = record {
  called = λ text from is. rose_before last_count since before now (are.called text from (sym (same text) ∙ is)) stays;
  accepted = λ place written from stands is. are.accepted place written from stands (sym (same (suc place)) ∙ is);
}

equal_or : (a b : ℕ) → (a ≡ b) ⊎ (a ≢ b)
equal_or a b = by (a == b) refl
  where
    by : (same : Bool) → (a == b) ≡ same → (a ≡ b) ⊎ (a ≢ b)
    by true e = inl (eqb-true a b e)
    by false e = inr (λ (f : a ≡ b). true_false (sym (eq-eqb a b f) ∙ e))

-- a mark that was set in a move is of the text of the ask at hand, for which the flash was called
pub marked_go : (catalog : Catalog) (texts : List (List ℕ)) (count text since before now : ℕ) (old new : Replies) → min since last_count ≤ before → min before last_count ≤ now
    → ((place : ℕ) (written : List ℕ) → text ≡ suc place → slice_get texts place ≡ Some written → is_refused_text catalog.schema written ≡ false)
    → (is_lost old text ≡ false → is_lost new text ≡ true → Rose before now)
    → ((other : ℕ) → count + 1 ≤ other → other ≢ text → is_lost new other ≡ is_lost old other)
    → AreMarked catalog texts count since before old → AreMarked catalog texts count since now new
marked_go catalog texts count text since before now old new stayed stays reads rose others are = record {
  called = λ other from is. call other from is (equal_or other text);
  accepted = λ place written from stands is. accept place written from stands is (equal_or (suc place) text);
}
  where
    mine : (was : Bool) → is_lost old text ≡ was → count + 1 ≤ text → is_lost new text ≡ true → Rose since now
    mine true e from is = rose_before last_count since before now (are.called text from e) stays
    mine false e from is = rose_then last_count since before now stayed (rose e is)

    call : (other : ℕ) → count + 1 ≤ other → is_lost new other ≡ true → (other ≡ text) ⊎ (other ≢ text) → Rose since now
    call other from is (inr apart) = rose_before last_count since before now (are.called other from (sym (others other from apart) ∙ is)) stays
    call other from is (inl same) =
        mine (is_lost old text) refl (subst (λ (n : ℕ). count + 1 ≤ n) same from) (subst (λ (n : ℕ). is_lost new n ≡ true) same is)

    accept : (place : ℕ) (written : List ℕ) → count ≤ place → slice_get texts place ≡ Some written → is_lost new (suc place) ≡ true → (suc place ≡ text) ⊎ (suc place ≢ text)
        → is_refused_text catalog.schema written ≡ false
    accept place written from stands is (inl same) = reads place written (sym same) stands
    accept place written from stands is (inr apart) = are.accepted place written from stands (sym (others (suc place) (omega (arith, from)) apart) ∙ is)
