-- What a move of an audit's session leads to.
use Rattle.std.proofs.Common.{◌≡◌, ℕ, zero, suc, ◌<◌, true, false, List, [], ◌∷◌, ◌++◌, length, take, Some, Ok, refl, sym, ap, subst, ◌∙◌, arith, append_assoc, append-nil, length-take, unwrap_or}
use Rattle.ghost_model.specs.core.Channel as channel
use Rattle.ghost_model.specs.core.Channel.{Catalog, Entry, Journal, Move, Piece}
use Rattle.ghost_model.specs.core.Asks.{NumberedAsk}
use Rattle.ghost_model.specs.core.NextMove as next
use Rattle.ghost_model.specs.core.NextMove.{next_with}
use Rattle.edge_traits.specs.Links.{gave, Steps, entry}
use Rattle.channel_pump.specs.State.{want_at, is_closed}
use Rattle.channel_pump.specs.declared.state.Pump.{Pump}
use Rattle.channel_pump.specs.declared.state.Stage.{Stage}
use Rattle.channel_pump.specs.declared.state.Stage.TheVariants.{Dialling, Sending, Taking, Closing, Closed}
use Rattle.channel_pump.specs.declared.state.Want.TheVariants as want
use lib.Seq.{take-append_seam}
use denote.Ref.{Bor}
use Rattle.edge_traits.specs.declared.Failed.{Failed}
use Rattle.ghost_model.specs.core.Recorded.{Tells, number}
use Rattle.channel_audit.specs.Audited.{FitsPage, kind_of_next, move_due}
use Rattle.channel_audit.specs.declared.audit.Due.{Due}
use Rattle.channel_audit.specs.declared.audit.Due.TheVariants as due_is
use Rattle.channel_audit.specs.Lines.{entry_of}
use Rattle.channel_audit.specs.Replays.{Replayed, AnswersAs}
use Rattle.channel_audit.specs.declared.line.Line.{Line}
use Rattle.channel_audit.specs.declared.line.Line.TheVariants as line_is
use Rattle.channel_audit.specs.declared.line.Given.TheVariants as given_is
use Rattle.channel_audit.specs.declared.replay.Replay.{Replay}

pub closed_at : (pump : Pump) (stage : Stage) → want_at pump stage ≡ want.Closed → is_closed stage ≡ true
closed_at pump Dialling e = cc e
closed_at pump (Sending _) e = cc e
closed_at pump Taking e = cc e
closed_at pump (Closing _) e = cc e
closed_at pump (Closed _) e = refl

pub open_at : (pump : Pump) (stage : Stage) → (want_at pump stage ≡ want.Closed → ⊥) → is_closed stage ≡ false
open_at pump Dialling e = refl
open_at pump (Sending _) e = refl
open_at pump Taking e = refl
open_at pump (Closing _) e = refl
open_at pump (Closed _) e = absurd (e refl)

gave_some : (count : ℕ) (buffer : List ℕ) → 0 < count → gave {E = Failed} (Ok count) buffer ≡ Piece (take count buffer)
gave_some zero buffer some = absurd (omega arith)
gave_some (suc more) buffer some = refl

-- the last move of a journal that goes on is the next one of the moves before it
pub last_is_next : (catalog : Catalog) (at : List ℕ) (asks : List NumberedAsk) (before journal : Journal) (made : Entry)
    → next.GoesOn catalog at asks before (journal ++ made ∷ []) → next_with catalog at asks (before ++ journal) ≡ Some made.move
last_is_next catalog at asks before [] made goes = ap (next_with catalog at asks) (append-nil before) ∙ goes.0
last_is_next catalog at asks before (first ∷ journal) made goes =
    ap (next_with catalog at asks) (sym (append_assoc before (first ∷ []) journal))
    ∙ last_is_next catalog at asks (before ++ first ∷ []) journal made goes.1

-- where the pump made the line's move on a link that answers as the line tells, it went on by what the line tells
pub replayed : (text : List ℕ) (line : Line) (before after : Replay) (made : Entry) → before.line ≡ line → Tells text (entry_of line)
    → Steps Replayed before (made ∷ []) after → made.move ≡ (entry_of line).move → made ≡ entry_of line
replayed text line before after made is tells went same =
    subst (λ (l : Line). AnswersAs l made) is went.moved.answered text tells same

-- a piece was taken as a line tells it
pub took_piece : (line : Line) (digits bytes : Bor (List ℕ)) (size : ℕ) (front back : List ℕ) → line ≡ line_is.Take digits (given_is.Piece bytes) → front ≡ bytes.now
    → AnswersAs line (entry (channel.Take size) (gave {E = Failed} (Ok (length bytes.now)) (front ++ back)))
took_piece line digits bytes size front back is same =
    subst (λ (l : Line). AnswersAs l (entry (channel.Take size) (gave {E = Failed} (Ok (length bytes.now)) (front ++ back)))) (sym is)
    (λ text tells move.
    let some = tells.tells.given.some in
    let piece : take (length bytes.now) (front ++ back) ≡ bytes.now =
    ap (λ (xs : List ℕ). take (length bytes.now) (xs ++ back)) same ∙ take-append_seam bytes.now back in
    ap (λ (m : Move). entry m (gave {E = Failed} (Ok (length bytes.now)) (front ++ back))) move
    ∙ ap (λ (a : channel.Answer). entry (channel.Take (number digits.now)) a) (gave_some (length bytes.now) (front ++ back) some ∙ ap Piece piece))

-- the kind of the move that is due
pub kind_due : (due : Due) (page : List ℕ) → FitsPage due → length page ≡ 2048 → due ≡ kind_of_next (move_due due page)
kind_due due_is.Dial page fits long = refl
kind_due (due_is.Send count) page fits long = ap due_is.Send (let e = length-take count page in omega (arith, e, fits, long))
kind_due (due_is.Take most) page fits long = ap due_is.Take (omega (arith, fits))
kind_due due_is.Close page fits long = refl
kind_due due_is.Nothing page fits long = refl

pub some_once : {X : Type 0} (a b : X) → Some a ≡ Some b → a ≡ b
some_once a b e = ap (λ o. unwrap_or o a) e
