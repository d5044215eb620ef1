use Rattle.std.proofs.Common.{◌≡◌, ℕ, ◌+◌, ◌-◌, ◌^◌, min, Bool, List, [], ◌∷◌, ◌++◌, length, take, refl, ap, sym, ◌∙◌, subst, arith}
use Rattle.ghost_model.specs.forms.Frames as frames
use Rattle.ghost_model.specs.core.NextMove as next
use Rattle.ghost_model.specs.core.NextMove.{standing_after}
use Rattle.channel_pump.specs.Here.{Stands, verdict_here}
use Rattle.channel_pump.specs.State.{IsTurned, taken_entry}
use Rattle.channel_pump.specs.declared.state.Event.{Event}
use Rattle.channel_pump.specs.Progress.{RowsHere, Tells}
use Rattle.channel_pump.specs.Turning.{event_of}
use Rattle.channel_pump.proofs.ReportLemmas.{same_fields, awaits_on, fresh_on}
use Rattle.channel_pump.proofs.TookLemmas.{At, taking_stage, part_after, part_keeps, part_event, invalid_after, invalid_keeps, invalid_event, frame_after, frame_keeps, frame_event, whole_length, frame_size, part_length, payload_of_front}
use Rattle.channel_pump.specs.Marks.{AreMarked, marked_on}
use Rattle.channel_pump.proofs.MarkLemmas.{frame_marks}
use Rattle.channel_pump.proofs.ProgressLemmas.{rows_here, part_tells, invalid_tells, frame_tells}
use Rattle.channel_pump.proofs.state.Pump.took.Goals as goal

pub returns-in-Short-clause-after : goal.returns-in-Short-clause-after
returns-in-Short-clause-after c catalog asks journal h k =
    part_after catalog asks journal c.args.self.now c.args.page.now c.args.n _ _
    (record { after = h; keeps = k; some = c.requires.some; taken_by = c.requires.taken; room = c.requires.room })
    (same_fields _ _ refl refl refl refl refl refl refl) refl (taking_stage c.args.self.now c.args.n c.args.self.now.stage c.requires.taken) refl refl
    (sym (c.in-Short.ensures.verdict ∙ ap (verdict_here c.args.self.now) c.split_at.ensures.front))

pub returns-in-Short-clause-keeps : goal.returns-in-Short-clause-keeps
returns-in-Short-clause-keeps c catalog asks journal h k =
    part_keeps catalog asks journal c.args.self.now c.args.page.now c.args.n _
    (record { after = h; keeps = k; some = c.requires.some; taken_by = c.requires.taken; room = c.requires.room })
    (sym (c.in-Short.ensures.verdict ∙ ap (verdict_here c.args.self.now) c.split_at.ensures.front))

pub returns-in-Short-clause-event : goal.returns-in-Short-clause-event
returns-in-Short-clause-event c catalog asks journal h k =
    sym (part_event catalog asks journal c.args.self.now c.args.page.now c.args.n _
    (record { after = h; keeps = k; some = c.requires.some; taken_by = c.requires.taken; room = c.requires.room })
    (sym (c.in-Short.ensures.verdict ∙ ap (verdict_here c.args.self.now) c.split_at.ensures.front)))

pub returns-in-Invalid-clause-after : goal.returns-in-Invalid-clause-after
returns-in-Invalid-clause-after c catalog asks journal h k =
    invalid_after catalog asks journal c.args.self.now c.args.page.now c.args.n _ _ _
    (record { after = h; keeps = k; some = c.requires.some; taken_by = c.requires.taken; room = c.requires.room })
    (same_fields _ _ refl refl refl refl refl refl refl) refl refl (ap frames.kind_in c.split_at.ensures.front) refl
    (sym (c.in-Invalid.ensures.verdict ∙ ap (verdict_here c.args.self.now) c.split_at.ensures.front))

pub returns-in-Invalid-clause-keeps : goal.returns-in-Invalid-clause-keeps
returns-in-Invalid-clause-keeps c catalog asks journal h k =
    invalid_keeps catalog asks journal c.args.self.now c.args.page.now c.args.n
    (record { after = h; keeps = k; some = c.requires.some; taken_by = c.requires.taken; room = c.requires.room })
    (sym (c.in-Invalid.ensures.verdict ∙ ap (verdict_here c.args.self.now) c.split_at.ensures.front))

pub returns-in-Invalid-clause-event : goal.returns-in-Invalid-clause-event
returns-in-Invalid-clause-event c catalog asks journal h k =
    sym (invalid_event catalog asks journal c.args.self.now c.args.page.now c.args.n _ _
    (record { after = h; keeps = k; some = c.requires.some; taken_by = c.requires.taken; room = c.requires.room })
    (ap frames.kind_in c.split_at.ensures.front) refl
    (sym (c.in-Invalid.ensures.verdict ∙ ap (verdict_here c.args.self.now) c.split_at.ensures.front)))

pub returns-in-Whole-clause-after : goal.returns-in-Whole-clause-after
returns-in-Whole-clause-after c catalog asks journal h k =
    let at : At catalog asks journal c.args.self.now c.args.page.now c.args.n =
    record { after = h; keeps = k; some = c.requires.some; taken_by = c.requires.taken; room = c.requires.room } in
    let stands : Stands c.args.self.now (take (c.args.self.now.have + c.args.n) c.args.page.now) c.in-Whole.tally =
    subst (λ (x : List ℕ). Stands c.args.self.now x c.in-Whole.tally) c.split_at.ensures.front c.in-Whole.ensures.judged in
    let size : length (take (c.args.self.now.have + c.args.n) c.args.page.now) ≡ 8 + frames.size_in (take (c.args.self.now.have + c.args.n) c.args.page.now) =
    whole_length catalog asks journal c.args.self.now c.args.page.now c.args.n c.in-Whole.tally at stands in
    let turned : IsTurned catalog c.hear.new.self (next.after_frame catalog asks (standing_after catalog asks journal).heard.awaits (frames.frame_in (take (c.args.self.now.have + c.args.n) c.args.page.now))) =
    subst (λ (x : List ℕ). IsTurned catalog c.hear.new.self (next.after_frame catalog asks (standing_after catalog asks journal).heard.awaits (frames.frame_in x))) c.split_at.ensures.front
    (c.hear.ensures.turned catalog asks (standing_after catalog asks journal).heard.awaits
    (awaits_on catalog c.args.self.now _ (standing_after catalog asks journal).heard.awaits (same_fields _ _ refl refl refl refl refl refl refl) h.awaits)
    (fresh_on catalog asks c.args.self.now _ (same_fields _ _ refl refl refl refl refl refl refl) h.fresh)) in
    frame_after catalog asks journal c.args.self.now c.args.page.now c.args.n c.hear.new.self at turned
    (c.hear.ensures.fresh catalog asks (fresh_on catalog asks c.args.self.now _ (same_fields _ _ refl refl refl refl refl refl refl) h.fresh))
    c.hear.ensures.going c.hear.ensures.have c.hear.ensures.lacks
    (c.hear.ensures.before ∙ (c.saturating_add-self.ensures
    ∙ ap (λ (x : List ℕ). min (c.args.self.now.before + length x) (2 ^ 64 - 1)) c.split_at.ensures.front))
    (frame_size c.args.self.now (take (c.args.self.now.have + c.args.n) c.args.page.now) c.in-Whole.tally stands size)
    (subst (λ (marks : List Bool). AreMarked marks ((standing_after catalog asks journal).heard.ended
    ++ next.ended_by (standing_after catalog asks journal).heard.awaits (standing_after catalog asks journal).heard.rows (frames.frame_in (take (c.args.self.now.have + c.args.n) c.args.page.now))))
    (sym (c.hear.ensures.refused ∙ ap (λ (e : Event). marked_on e c.args.self.now.rest c.args.self.now.refused)
    (c.hear.ensures.event ∙ ap (λ (x : List ℕ). event_of c.in-Whole.tally.rows (frames.frame_in x)) c.split_at.ensures.front)))
    (frame_marks catalog c.args.self.now (standing_after catalog asks journal).heard.awaits (standing_after catalog asks journal).heard.ended (standing_after catalog asks journal).heard.rows c.in-Whole.tally.rows
    (take (c.args.self.now.have + c.args.n) c.args.page.now) h.awaits stands.header h.refused))
    (sym (c.in-Whole.ensures.verdict ∙ ap (verdict_here c.args.self.now) c.split_at.ensures.front))

pub returns-in-Whole-clause-keeps : goal.returns-in-Whole-clause-keeps
returns-in-Whole-clause-keeps c catalog asks journal h k =
    frame_keeps catalog asks journal c.args.self.now c.args.page.now c.args.n
    (record { after = h; keeps = k; some = c.requires.some; taken_by = c.requires.taken; room = c.requires.room })
    (sym (c.in-Whole.ensures.verdict ∙ ap (verdict_here c.args.self.now) c.split_at.ensures.front))

pub returns-in-Whole-clause-event : goal.returns-in-Whole-clause-event
returns-in-Whole-clause-event c catalog asks journal h k =
    let stands : Stands c.args.self.now (take (c.args.self.now.have + c.args.n) c.args.page.now) c.in-Whole.tally =
    subst (λ (x : List ℕ). Stands c.args.self.now x c.in-Whole.tally) c.split_at.ensures.front c.in-Whole.ensures.judged in
    sym (frame_event catalog asks journal c.args.self.now c.args.page.now c.args.n c.in-Whole.tally
    (record { after = h; keeps = k; some = c.requires.some; taken_by = c.requires.taken; room = c.requires.room }) stands
    (sym (c.in-Whole.ensures.verdict ∙ ap (verdict_here c.args.self.now) c.split_at.ensures.front))
    ∙ (ap (λ (x : List ℕ). event_of c.in-Whole.tally.rows (frames.frame_in x)) (sym c.split_at.ensures.front) ∙ sym c.hear.ensures.event))

pub returns-in-Short-clause-tells : goal.returns-in-Short-clause-tells
returns-in-Short-clause-tells c catalog asks journal h k =
    part_tells catalog asks journal c.args.self.now c.args.page.now c.args.n _
    (record { after = h; keeps = k; some = c.requires.some; taken_by = c.requires.taken; room = c.requires.room })
    (sym (c.in-Short.ensures.verdict ∙ ap (verdict_here c.args.self.now) c.split_at.ensures.front))

pub returns-in-Invalid-clause-tells : goal.returns-in-Invalid-clause-tells
returns-in-Invalid-clause-tells c catalog asks journal h k =
    invalid_tells catalog asks journal c.args.self.now c.args.page.now c.args.n _ _
    (record { after = h; keeps = k; some = c.requires.some; taken_by = c.requires.taken; room = c.requires.room })
    (sym (c.in-Invalid.ensures.verdict ∙ ap (verdict_here c.args.self.now) c.split_at.ensures.front))

pub returns-in-Whole-clause-tells : goal.returns-in-Whole-clause-tells
returns-in-Whole-clause-tells c catalog asks journal h k =
    let at : At catalog asks journal c.args.self.now c.args.page.now c.args.n =
    record { after = h; keeps = k; some = c.requires.some; taken_by = c.requires.taken; room = c.requires.room } in
    let stands : Stands c.args.self.now (take (c.args.self.now.have + c.args.n) c.args.page.now) c.in-Whole.tally =
    subst (λ (x : List ℕ). Stands c.args.self.now x c.in-Whole.tally) c.split_at.ensures.front c.in-Whole.ensures.judged in
    let size : length (take (c.args.self.now.have + c.args.n) c.args.page.now) ≡ 8 + frames.size_in (take (c.args.self.now.have + c.args.n) c.args.page.now) =
    whole_length catalog asks journal c.args.self.now c.args.page.now c.args.n c.in-Whole.tally at stands in
    let long : length (take (c.args.self.now.have + c.args.n) c.args.page.now) ≡ c.args.self.now.have + c.args.n =
    part_length catalog asks journal c.args.self.now c.args.page.now c.args.n at in
    subst (λ (e : Event). Tells catalog c.args.page.now e (standing_after catalog asks journal).heard (standing_after catalog asks (journal ++ taken_entry c.args.self.now c.args.page.now c.args.n ∷ [])).heard)
    (ap (λ (x : List ℕ). event_of c.in-Whole.tally.rows (frames.frame_in x)) (sym c.split_at.ensures.front) ∙ sym c.hear.ensures.event)
    (frame_tells catalog asks journal c.args.self.now c.args.page.now c.args.n c.in-Whole.tally at stands
    (sym (c.in-Whole.ensures.verdict ∙ ap (verdict_here c.args.self.now) c.split_at.ensures.front))
    (payload_of_front (c.args.self.now.have + c.args.n) c.args.page.now (omega (arith, c.requires.room)) long (sym long ∙ size)))

pub returns-in-Whole-clause-rows : goal.returns-in-Whole-clause-rows
returns-in-Whole-clause-rows c =
    let stands : Stands c.args.self.now (take (c.args.self.now.have + c.args.n) c.args.page.now) c.in-Whole.tally =
    subst (λ (x : List ℕ). Stands c.args.self.now x c.in-Whole.tally) c.split_at.ensures.front c.in-Whole.ensures.judged in
    subst (RowsHere c.args.self.now c.args.page.now)
    (ap (λ (x : List ℕ). event_of c.in-Whole.tally.rows (frames.frame_in x)) (sym c.split_at.ensures.front) ∙ sym c.hear.ensures.event)
    (rows_here c.args.self.now (c.args.self.now.have + c.args.n) c.args.page.now c.in-Whole.tally (omega (arith, c.requires.room)) stands)
