-- What a host owes, sent frame by frame.
use Rattle.std.proofs.Common.{◌≡◌, ◌⊎◌, inl, inr, ℕ, ◌+◌, ◌≤◌, Bool, true, false, ◌||◌, List, [], ◌∷◌, ◌++◌, take, flat_map, MatchBool, Option, Some, is_some, sym, ◌∙◌, ap, subst, arith, append-nil, append_assoc}
use Rattle.std.specs.List.{concat}
use Rattle.ghost_model.specs.core.Causes.{Rose}
use Rattle.ghost_model.specs.core.Channel.{Frame, Send, Answer, Made, Failed, Journal}
use Rattle.ghost_model.specs.forms.Frames.{frame_bytes}
use Rattle.ghost_model.specs.core.Host.{Stand}
use Rattle.ghost_model.specs.core.Moves.{taken, sent}
use Rattle.edge_traits.specs.Links.{entry}
use Rattle.host_exec.specs.Saying.{owes, rests}
use Rattle.host_exec.specs.Hosts.{IsSameHost, StandsAs, SaysAs, RefusedAs}
use Rattle.host_exec.specs.Sessions.{has_stopped, SaidTo, Says, Speaks, BreaksOff}
use Rattle.host_exec.specs.declared.host.Host.{Host}
use Rattle.host_exec.specs.declared.stage.Stage.{Stage}
use Rattle.host_exec.specs.declared.stage.Stage.TheVariants as stage
use Rattle.host_exec.proofs.Going.{sent_joins, taken_joins, stops_joins}

-- a count that rose by one of two calls rose by both
pub rose_first : (before between now : ℕ) → between ≤ now → Rose before between → Rose before now
rose_first before between now more rose = omega (arith, more, rose)

pub rose_second : (before between now : ℕ) → before ≤ between → Rose between now → Rose before now
rose_second before between now more rose = omega (arith, more, rose)

pub told_more : (refused again : Bool) (before between now : ℕ) → before ≤ between → between ≤ now → MatchBool refused (Rose before between) (between ≡ before)
    → MatchBool again (Rose between now) (now ≡ between) → MatchBool (refused || again) (Rose before now) (now ≡ before)
told_more true again before between now first second told more = rose_first before between now second told
told_more false true before between now first second told more = rose_second before between now first more
told_more false false before between now first second told more = more ∙ told

-- so far these frames were sent, or a refusal was. Where the host owes a frame of a reply, nothing was sent before it
pub record SpeaksSoFar (Went : Journal → Type 0) (before now : ℕ) (Stood : (file : List ℕ) → List Frame → Stand → Type 0) (old at : Host) : Type 0 where
  pub journal : Journal
  pub went : Went journal
  pub takes : taken journal ≡ []
  pub going : has_stopped journal ≡ false
  pub fresh : (serial place count : ℕ) → at.stage ≡ stage.Answering serial place count → (concat (sent journal) ≡ []) × (old.stage ≡ stage.Answering serial place count)
  pub refused : Bool
  pub counted : MatchBool refused (Rose before now) (now ≡ before)
  pub said : MatchBool refused (BreaksOff old at journal) ((file : List ℕ) (owed : List Frame) (stand : Stand) → Stood file owed stand → SaidTo file owed stand journal at)

sent_one : (journal : Journal) (bytes : List ℕ) (answer : Answer) → concat (sent (journal ++ entry (Send bytes) answer ∷ [])) ≡ concat (sent journal) ++ bytes
sent_one journal bytes answer = sent_joins journal (entry (Send bytes) answer ∷ []) ∙ ap (λ (bs : List ℕ). concat (sent journal) ++ bs) (append-nil bytes)

joined_more : (journal : Journal) (bytes owed : List ℕ) (rest : List Frame) (more : List Frame) (frame : Frame) (answer : Answer) → owed ≡ concat (sent journal) ++ flat_map frame_bytes rest
    → rest ≡ frame ∷ more → bytes ≡ frame_bytes frame
    → owed ≡ concat (sent (journal ++ entry (Send bytes) answer ∷ [])) ++ flat_map frame_bytes more
joined_more journal bytes owed rest more frame answer joined is spelled =
    joined ∙ (ap (λ (fs : List Frame). concat (sent journal) ++ flat_map frame_bytes fs) is
    ∙ (ap (λ (bs : List ℕ). concat (sent journal) ++ (bs ++ flat_map frame_bytes more)) (sym spelled)
    ∙ (sym (append_assoc (concat (sent journal)) bytes (flat_map frame_bytes more))
    ∙ ap (λ (bs : List ℕ). bs ++ flat_map frame_bytes more) (sym (sent_one journal bytes answer)))))

-- the next frame was said, or a refusal was
abbrev pub SaysOne : (Sure : Type 0) → (before now : ℕ) → (Stood : (file : List ℕ) → List Frame → Stand → Type 0) → (at next : Host) → (size : ℕ) → (out : List ℕ) → Type 0
SaysOne Sure before now Stood at next size out =
    RefusedAs Sure at before now size out next
    ⊎ ((now ≡ before) × ((file : List ℕ) (owed : List Frame) (stand : Stand) (any : List Frame) → Stood file any stand → StandsAs at file owed stand → SaysAs next file owed stand size out))

-- so one more frame was sent, whatever the send's answer
record SaidMore (before now : ℕ) (Stood : (file : List ℕ) → List Frame → Stand → Type 0) (old next : Host) (journal : Journal) : Type 0 where
  refused : Bool
  counted : MatchBool refused (Rose before now) (now ≡ before)
  said : MatchBool refused (BreaksOff old next journal) ((file : List ℕ) (owed : List Frame) (stand : Stand) → Stood file owed stand → SaidTo file owed stand journal next)

owes_none : (at : Stage) (next : ℕ) → at ≡ stage.Listening next → owes at ≡ true → ⊥
owes_none at next is owing = never (sym (ap owes is) ∙ owing)
  where
    never : false ≡ true → ⊥
    never e = cc

said_more : {Sure : Type 0} (before between now : ℕ) (Stood : (file : List ℕ) → List Frame → Stand → Type 0) (old at next : Host) (size : ℕ) (out bytes : List ℕ) (answer : Answer) (journal : Journal) (refused : Bool)
    → before ≤ between → between ≤ now → bytes ≡ take size out → owes at.stage ≡ true
    → ((serial place count : ℕ) → at.stage ≡ stage.Answering serial place count → (concat (sent journal) ≡ []) × (old.stage ≡ stage.Answering serial place count))
    → MatchBool refused (Rose before between) (between ≡ before)
    → MatchBool refused (BreaksOff old at journal) ((file : List ℕ) (owed : List Frame) (stand : Stand) → Stood file owed stand → SaidTo file owed stand journal at)
    → SaysOne Sure between now Stood at next size out → SaidMore before now Stood old next (journal ++ entry (Send bytes) answer ∷ [])
said_more before between now Stood old at next size out bytes answer journal true first second is owing fresh counted said one = absurd (owes_none at.stage (said.serial + 1) said.ended owing)
said_more before between now Stood old at next size out bytes answer journal false first second is owing fresh counted said (inl refused) =
    let start = fresh refused.serial refused.place refused.sent refused.owed in
    record {
      refused = true;
      counted = rose_second before between now first refused.refuses.rose;
      said = record {
        serial = refused.serial;
        place = refused.place;
        count = refused.sent;
        owed = start.1;
        says = sent_one journal bytes answer ∙ (ap (λ (bs : List ℕ). bs ++ bytes) start.0 ∙ (is ∙ refused.refuses.spelled));
        ended = refused.refuses.ended;
      };
    }
said_more before between now Stood old at next size out bytes answer journal false first second is owing fresh counted said (inr one) = record {
  refused = false;
  counted = one.0 ∙ counted;
  said = λ file owed stand stood.
      let so = said file owed stand stood in
      let says = one.1 file so.rest stand owed stood so.stands in
      record {
        rest = says.rest;
        stands = says.stands;
        joined = joined_more journal bytes (flat_map frame_bytes owed) so.rest says.rest says.frame answer so.joined says.owed_are (is ∙ says.spelled);
      };
}

not_answering : (at : Stage) (serial place count : ℕ) → rests at ≡ true → at ≡ stage.Answering serial place count → ⊥
not_answering at serial place count resting is = never (sym (ap rests is) ∙ resting)
  where
    never : false ≡ true → ⊥
    never e = cc

pub not_over_resting : (at : Stage) → rests at ≡ true → at ≡ stage.Over → ⊥
not_over_resting at resting is = never (sym (ap rests is) ∙ resting)
  where
    never : false ≡ true → ⊥
    never e = cc

-- where something was said, a frame was owed
pub owing_now : {X : Type 0} {one : X} (said : Option X) (at : Stage) → said ≡ Some one → is_some said ≡ owes at → owes at ≡ true
owing_now said at is owed = sym owed ∙ ap is_some is

-- one more frame was sent
pub speaks_on : {Sure : Type 0} (Went Goes : Journal → Type 0) (before between now : ℕ) (Stood : (file : List ℕ) → List Frame → Stand → Type 0) (old at next : Host) (size : ℕ) (out bytes : List ℕ)
    → SpeaksSoFar Went before between Stood old at → ((journal : Journal) → Went journal → Goes (journal ++ entry (Send bytes) Made ∷ []))
    → before ≤ between → between ≤ now → bytes ≡ take size out → owes at.stage ≡ true → rests next.stage ≡ true
    → SaysOne Sure between now Stood at next size out → SpeaksSoFar Goes before now Stood old next
speaks_on Went Goes before between now Stood old at next size out bytes so goes first second is owing resting one =
    let more = said_more before between now Stood old at next size out bytes Made so.journal so.refused first second is owing so.fresh so.counted so.said one in
    record {
      journal = so.journal ++ entry (Send bytes) Made ∷ [];
      went = goes so.journal so.went;
      takes = taken_joins so.journal (entry (Send bytes) Made ∷ []) ∙ (append-nil (taken so.journal) ∙ so.takes);
      going = stops_joins so.journal (entry (Send bytes) Made ∷ []) so.going;
      fresh = λ serial place count answering. absurd (not_answering next.stage serial place count resting answering);
      refused = more.refused;
      counted = more.counted;
      said = more.said;
    }

front_said : (refused : Bool) (Stood : (file : List ℕ) → List Frame → Stand → Type 0) (old next : Host) (journal : Journal)
    → MatchBool refused (BreaksOff old next journal) ((file : List ℕ) (owed : List Frame) (stand : Stand) → Stood file owed stand → SaidTo file owed stand journal next)
    → MatchBool refused (BreaksOff old next journal) ((file : List ℕ) (owed : List Frame) (stand : Stand) → Stood file owed stand → Says false file owed stand journal next)
front_said true Stood old next journal said = said
front_said false Stood old next journal said = λ file owed stand stood. (let so = said file owed stand stood in record { rest = flat_map frame_bytes so.rest; joined = so.joined })

-- the send of one more frame failed
pub speaks_in_vain : {Sure : Type 0} (Went Goes : Journal → Type 0) (before between now : ℕ) (Stood : (file : List ℕ) → List Frame → Stand → Type 0) (old at next : Host) (size : ℕ) (out bytes : List ℕ)
    → SpeaksSoFar Went before between Stood old at → ((journal : Journal) → Went journal → Goes (journal ++ entry (Send bytes) Failed ∷ []))
    → before ≤ between → between ≤ now → bytes ≡ take size out → owes at.stage ≡ true
    → SaysOne Sure between now Stood at next size out → Speaks Goes false before now Stood old next
speaks_in_vain Went Goes before between now Stood old at next size out bytes so goes first second is owing one =
    let more = said_more before between now Stood old at next size out bytes Failed so.journal so.refused first second is owing so.fresh so.counted so.said one in
    record {
      journal = so.journal ++ entry (Send bytes) Failed ∷ [];
      went = goes so.journal so.went;
      takes = taken_joins so.journal (entry (Send bytes) Failed ∷ []) ∙ (append-nil (taken so.journal) ∙ so.takes);
      stops = stops_joins so.journal (entry (Send bytes) Failed ∷ []) so.going;
      refused = more.refused;
      counted = more.counted;
      says = front_said more.refused Stood old next _ more.said;
    }

counted_on : (refused : Bool) (before between now : ℕ) → now ≡ between → MatchBool refused (Rose before between) (between ≡ before) → MatchBool refused (Rose before now) (now ≡ before)
counted_on refused before between now same counted = subst (λ (n : ℕ). MatchBool refused (Rose before n) (n ≡ before)) (sym same) counted

all_said : (refused : Bool) (Stood : (file : List ℕ) → List Frame → Stand → Type 0) (old at next : Host) (journal : Journal) → next ≡ at
    → ((file : List ℕ) (owed : List Frame) (stand : Stand) → StandsAs at file owed stand → owed ≡ [])
    → MatchBool refused (BreaksOff old at journal) ((file : List ℕ) (owed : List Frame) (stand : Stand) → Stood file owed stand → SaidTo file owed stand journal at)
    → MatchBool refused (BreaksOff old next journal) ((file : List ℕ) (owed : List Frame) (stand : Stand) → Stood file owed stand → Says true file owed stand journal next)
all_said true Stood old at next journal same nothing said = subst (λ (h : Host). BreaksOff old h journal) (sym same) said
all_said false Stood old at next journal same nothing said = λ file owed stand stood.
    let so = said file owed stand stood in
    let none : so.rest ≡ [] = nothing file so.rest stand so.stands in (
      subst (λ (h : Host). StandsAs h file [] stand) (sym same) (subst (λ (frames : List Frame). StandsAs at file frames stand) none so.stands),
      so.joined ∙ (ap (λ (frames : List Frame). concat (sent journal) ++ flat_map frame_bytes frames) none ∙ append-nil (concat (sent journal))),
    )

-- all was sent
pub speaks_all : (Went : Journal → Type 0) (before between now : ℕ) (Stood : (file : List ℕ) → List Frame → Stand → Type 0) (old at next : Host)
    → SpeaksSoFar Went before between Stood old at → now ≡ between → next ≡ at
    → ((file : List ℕ) (owed : List Frame) (stand : Stand) → StandsAs at file owed stand → owed ≡ []) → Speaks Went true before now Stood old next
speaks_all Went before between now Stood old at next so quiet same nothing = record {
  journal = so.journal;
  went = so.went;
  takes = so.takes;
  stops = so.going;
  refused = so.refused;
  counted = counted_on so.refused before between now quiet so.counted;
  says = all_said so.refused Stood old at next so.journal same nothing so.said;
}

-- where nothing was refused the count is as before
pub granted_calm : (refused : Bool) (before now : ℕ) → refused ≡ false → MatchBool refused (Rose before now) (now ≡ before) → now ≡ before
granted_calm true before now granted told = never granted
  where
    never : {P : Type 0} → true ≡ false → P
    never e = cc
granted_calm false before now granted told = told

pub neither : (one other value : Bool) → value ≡ (one || other) → one ≡ false → other ≡ false → value ≡ false
neither one other value is first second = is ∙ (ap (λ (b : Bool). b || other) first ∙ second)

pub same_more : (a b c : Host) → IsSameHost a b → IsSameHost b c → IsSameHost a c
same_more a b c one other = record { name = other.name ∙ one.name; catalog = other.catalog ∙ one.catalog; starts = other.starts ∙ one.starts }
