-- By which moves a link goes, and what its calls' answers are in a journal. A link in memory tells the journal of all its
-- moves so far; any other link can say what one move does to it.
use Rattle.std.specs.Prelude.{◌≡◌, ℕ, zero, suc, ◌+◌, min, ⊤, refl, List, [], ◌∷◌, ◌++◌, take, Option, None, Some, Result, Ok, Err}
use Rattle.std.proofs.Common.{sym, ◌∙◌, ap, subst, append-nil, append_assoc}
use Rattle.ghost_model.specs.core.Causes.{last_count}
use Rattle.ghost_model.specs.core.Channel.{Move, Answer, Made, Port, Piece, End, Failed, Entry, Journal}

abbrev pub entry : Move → Answer → Entry
entry move answer = record { move = move; answer = answer }

-- the answer of a call that gives nothing
abbrev pub done : {T E : Type 0} → Result T E → Answer
done (Ok _) = Made
done (Err _) = Failed

-- the answer of a call that gives a port
abbrev pub listening : {E : Type 0} → Result ℕ E → Answer
listening (Ok port) = Port port
listening (Err _) = Failed

-- the answer of a call that fills the front of a buffer: so many bytes of it, and none at the end of the stream
abbrev pub gave : {E : Type 0} → Result ℕ E → (buffer : List ℕ) → Answer
gave (Ok zero) buffer = End
gave (Ok (suc more)) buffer = Piece (take (suc more) buffer)
gave (Err _) buffer = Failed

-- a told journal with more moves at its end
abbrev pub appended : Option Journal → Journal → Option Journal
appended None more = None
appended (Some journal) more = Some (journal ++ more)

-- what is told after some moves is what was told before with those moves at its end. A link that no longer tells its
-- journal claims nothing, and one that has stopped does not tell it again
abbrev pub GrewBy : (before : Option Journal) → Journal → (after : Option Journal) → Type 0
GrewBy before more None = ⊤
GrewBy before more (Some journal) = Some journal ≡ appended before more

pub grew_stays : (told : Option Journal) → GrewBy told [] told
grew_stays None = tt
grew_stays (Some journal) = ap Some (sym (append-nil journal))

appended_twice : (told : Option Journal) (first more : Journal) → appended (appended told first) more ≡ appended told (first ++ more)
appended_twice None first more = refl
appended_twice (Some journal) first more = ap Some (append_assoc journal first more)

pub grew_joins : (old between new : Option Journal) (first more : Journal) → GrewBy old first between → GrewBy between more new → GrewBy old (first ++ more) new
grew_joins old between None first more start later = tt
grew_joins old None (Some journal) first more start later = cc
grew_joins old (Some told) (Some journal) first more start later = later ∙ ap (λ t. appended t more) start ∙ appended_twice old first more

-- the count of faults after a move with that answer
abbrev pub faults_after : Answer → (before : ℕ) → ℕ
faults_after Made before = before
faults_after (Port _) before = before
faults_after (Piece _) before = before
faults_after End before = before
faults_after Failed before = min (before + 1) last_count

-- one move leads to some state, and the moves after it lead on from there
pub record LeadsOn {S : Type 0} (one : S → Entry → S → Type 0) (old : S) (first : Entry) (Later : S → Type 0) : Type 0 where
  pub between : S
  pub moved : one old first between
  pub later : Later between

-- a link goes by some moves where it makes one after another, each as said for one move
abbrev pub Steps : {S : Type 0} → (S → Entry → S → Type 0) → (old : S) → Journal → (new : S) → Type 0
Steps one old [] new = old ≡ new
Steps one old (first ∷ more) new = LeadsOn one old first (λ between. Steps one between more new)

pub one_step : {S : Type 0} (one : S → Entry → S → Type 0) (old : S) (made : Entry) (new : S) → one old made new → Steps one old (made ∷ []) new
one_step one old made new moved = record { between = new; moved = moved; later = refl }

pub steps_stay : {S : Type 0} (one : S → Entry → S → Type 0) (link : S) → Steps one link [] link
steps_stay one link = refl

pub steps_join : {S : Type 0} (one : S → Entry → S → Type 0) (old between new : S) (first more : Journal) → Steps one old first between → Steps one between more new → Steps one old (first ++ more) new
steps_join one old between new [] more start later = subst (λ s. Steps one s more new) (sym start) later
steps_join one old between new (move ∷ first) more start later = record {
  between = start.between;
  moved = start.moved;
  later = steps_join one start.between between new first more start.later later;
}
