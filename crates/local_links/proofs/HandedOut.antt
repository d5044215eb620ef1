-- A buffer that is filled with what is owed.
use Rattle.std.proofs.Common.{◌≡◌, inl, inr, ℕ, zero, suc, ◌+◌, ◌*◌, ◌<◌, ◌≤◌, min, true, false, List, [], ◌∷◌, ◌++◌, length, take, drop, Option, Ok, refl, sym, ◌∙◌, ap, subst, arith, append-nil, append_assoc}
use Rattle.std.proofs.Math.Seq.{take-add, take-append_seam, drop-append_seam}
use Rattle.std.proofs.lemmas.List.{take_all, drop_all, length-take-le, length-append}
use Rattle.ghost_model.specs.core.Causes.{Rose, last_count}
use Rattle.ghost_model.specs.core.Channel.{Made, Piece, Failed, Dial, Listen, Accept, Take, Close}
use Rattle.ghost_model.specs.core.Host.{Holding, Stand}
use Rattle.edge_traits.specs.Files.{Files}
use Rattle.host_exec.specs.Hosts.{name_of}
use Rattle.edge_traits.specs.Links.{entry, gave, faults_after}
use Rattle.session_laws.specs.Serving.{Desk, handed}
use Rattle.local_links.specs.Desks.{Owes, ReadsWell, Nearer}
use Rattle.local_links.specs.Links.{IsAt, IsSureLink, Handed, Moves}
use Rattle.local_links.specs.declared.host_link.HostLink.{HostLink}

pub came_nearer : (steps size later_steps later_size left count : ℕ) → Nearer steps size later_steps later_size → later_size ≤ 2048 → left + count ≡ later_size
    → (0 < later_size → 0 < count) → later_steps * 4096 + left < steps * 4096 + size
came_nearer steps size later_steps later_size left count (inl fell) small split some = omega (arith, fell, small, split)
came_nearer steps size later_steps later_size left count (inr stays) small split some =
    let more = some stays.2 in
    omega (arith, stays.0, stays.1, more, split)

-- a count rose by two calls where it rose by one of them
pub rose_first : (before between now : ℕ) → between ≤ now → Rose before between → Rose before now
rose_first before between now more rose = omega (arith, more, rose)

pub rose_second : (before between now : ℕ) → before ≤ between → Rose between now → Rose before now
rose_second before between now more rose = trans (min_more before between more) rose
  where
    min_more : (a b : ℕ) → a ≤ b → min (a + 1) last_count ≤ min (b + 1) last_count
    min_more a b h = omega (arith, h)

    trans : {a b c : ℕ} → a ≤ b → b ≤ c → a ≤ c
    trans {a} {b} {c} h k = omega (arith, h, k)

-- no reading fails in either of two calls where none does in both
pub reads_first : {Sure : Type 0} (before between now : ℕ) → between ≤ now → ReadsWell Sure before now → ReadsWell Sure before between
reads_first before between now more (inl sure) = inl sure
reads_first before between now more (inr calm) = inr (λ rose. calm (rose_first before between now more rose))

pub reads_second : {Sure Later : Type 0} (before between now : ℕ) → before ≤ between → (Sure → Later) → ReadsWell Sure before now → ReadsWell Later between now
reads_second before between now more stays (inl sure) = inl (stays sure)
reads_second before between now more stays (inr calm) = inr (λ rose. calm (rose_second before between now more rose))

-- so far `have` bytes were handed out
pub record HandsSoFar {D : Type 0} (contents : D → Option Files) (faults : D → ℕ) (sure : D → List ℕ → Type 0) (start now : HostLink D) (size have : ℕ) (buffer : List ℕ) : Type 0 where
  pub within : have ≤ size
  pub size_is : length buffer ≡ size
  pub never_falls : faults start.depot ≤ faults now.depot
  pub counted : now.faults ≡ start.faults
  pub stays_sure : IsSureLink sure start → IsSureLink sure now
  pub calm : IsSureLink sure start → faults now.depot ≡ faults start.depot
  pub handed_so : ReadsWell (IsSureLink sure start) (faults start.depot) (faults now.depot) → (held : Holding) (desk : Desk) → IsAt contents held start desk
      → Handed desk.owed (take have buffer) (λ rest. Owes held (contents now.depot) now.host now.speech rest desk.stand)

-- what a take of so many bytes gave, and what is then still owed
pub record IsHanded (most have : ℕ) (buffer owed rest : List ℕ) : Type 0 where
  pub given : gave {E = Unit {0}} (Ok have) buffer ≡ handed most owed
  pub left : rest ≡ drop most owed

given_some : (most k : ℕ) (buffer owed : List ℕ) → 0 < length owed → take most owed ≡ take (suc k) buffer → Piece (take (suc k) buffer) ≡ handed most owed
given_some most k buffer [] some same = absurd (omega (arith, some))
given_some most k buffer (byte ∷ owed) some same = ap Piece (sym same)

pub handed_full : (most have : ℕ) (buffer owed rest : List ℕ) → 0 < most → length buffer ≡ most → have ≡ most → owed ≡ take have buffer ++ rest → IsHanded most have buffer owed rest
handed_full most zero buffer owed rest some size is joined = absurd (omega (arith, some, is))
handed_full most (suc k) buffer owed rest some size is joined =
    let long : length (take (suc k) buffer) ≡ most = length-take-le (suc k) buffer (omega (arith, size, is)) ∙ is in
    let front : take most owed ≡ take (suc k) buffer =
    ap (take most) joined ∙ (ap (λ (n : ℕ). take n (take (suc k) buffer ++ rest)) (sym long) ∙ take-append_seam (take (suc k) buffer) rest) in
    let some_owed : 0 < length owed = omega (arith, some, ap length joined, length-append (take (suc k) buffer) rest, long) in
    record {
      given = given_some most k buffer owed some_owed front;
      left = sym (ap (drop most) joined ∙ (ap (λ (n : ℕ). drop n (take (suc k) buffer ++ rest)) (sym long) ∙ drop-append_seam (take (suc k) buffer) rest));
    }

pub handed_short : (most have : ℕ) (buffer owed rest : List ℕ) → length buffer ≡ most → have ≤ most → owed ≡ take have buffer ++ rest → rest ≡ [] → IsHanded most have buffer owed rest
handed_short most zero buffer owed rest size within joined none =
    let empty : owed ≡ [] = joined ∙ none in
    record {
      given = ap (handed most) (sym empty);
      left = none ∙ sym (ap (drop most) empty ∙ drop_all most [] (omega arith));
    }
handed_short most (suc k) buffer owed rest size within joined none =
    let whole : owed ≡ take (suc k) buffer = joined ∙ (ap (λ (xs : List ℕ). take (suc k) buffer ++ xs) none ∙ append-nil (take (suc k) buffer)) in
    let long : length owed ≡ suc k = ap length whole ∙ length-take-le (suc k) buffer (omega (arith, size, within)) in
    record {
      given = given_some most k buffer owed (omega (arith, long)) (take_all most owed (omega (arith, long, within)) ∙ whole);
      left = none ∙ sym (drop_all most owed (omega (arith, long, within)));
    }

-- what was handed out, as a take
pub record Takes {D : Type 0} (contents : D → Option Files) (now : HostLink D) (most have : ℕ) (buffer : List ℕ) (held : Holding) (desk : Desk) : Type 0 where
  pub rest : List ℕ
  pub owes : Owes held (contents now.depot) now.host now.speech rest desk.stand
  pub is_handed : IsHanded most have buffer desk.owed rest

-- a take was answered
took : {D : Type 0} (E : Type 0) (contents : D → Option Files) (faults : D → ℕ) (sure : D → List ℕ → Type 0) (start now : HostLink D) (most have : ℕ) (buffer : List ℕ)
    → faults start.depot ≤ faults now.depot → now.faults ≡ start.faults
    → (IsSureLink sure start → IsSureLink sure now) → (IsSureLink sure start → faults now.depot ≡ faults start.depot)
    → (ReadsWell (IsSureLink sure start) (faults start.depot) (faults now.depot) → (held : Holding) (desk : Desk) → IsAt contents held start desk → Takes contents now most have buffer held desk)
    → Moves contents faults sure start (entry (Take most) (gave {E = E} (Ok have) buffer)) now
took {D} E contents faults sure start now most have buffer falls counted stays quiet takes = record {
  never_falls = falls;
  counted = counted ∙ sym (no_fault E have buffer start.faults);
  quiet = λ key. counted;
  stays_sure = stays;
  calm = quiet;
  served = λ calm held desk at free.
      let part = takes calm held desk at in
      record {
        desk = record { stand = desk.stand; owed = part.rest };
        serves = record {
          given = same E have buffer ∙ part.is_handed.given;
          rest = ap (λ (xs : List ℕ). record { stand = desk.stand; owed = xs }) part.is_handed.left;
        };
        stands = part.owes;
      };
}
  where
    no_fault : (E : Type 0) (have : ℕ) (buffer : List ℕ) (before : ℕ) → faults_after (gave {E = E} (Ok have) buffer) before ≡ before
    no_fault E zero buffer before = refl
    no_fault E (suc k) buffer before = refl

    same : (E : Type 0) (have : ℕ) (buffer : List ℕ) → gave {E = E} (Ok have) buffer ≡ gave {E = Unit {0}} (Ok have) buffer
    same E zero buffer = refl
    same E (suc k) buffer = refl

-- a take was given all that it asked for
pub took_all : {D : Type 0} (E : Type 0) (contents : D → Option Files) (faults : D → ℕ) (sure : D → List ℕ → Type 0) (start now : HostLink D) (most have : ℕ) (buffer : List ℕ) → 0 < most
    → HandsSoFar contents faults sure start now most have buffer → have ≡ most
    → Moves contents faults sure start (entry (Take most) (gave {E = E} (Ok have) buffer)) now
took_all E contents faults sure start now most have buffer some so full =
    took E contents faults sure start now most have buffer so.never_falls so.counted so.stays_sure so.calm (λ calm held desk at.
    let part = so.handed_so calm held desk at in
    record { rest = part.rest; owes = part.owes; is_handed = handed_full most have buffer desk.owed part.rest some so.size_is full part.joined })

-- more bytes were handed out
pub hands_more : {D : Type 0} (contents : D → Option Files) (faults : D → ℕ) (sure : D → List ℕ → Type 0) (start between now : HostLink D) (size have count : ℕ) (old new : List ℕ)
    → HandsSoFar contents faults sure start between size have old → length new ≡ size → have + count ≤ size → take have new ≡ take have old
    → faults between.depot ≤ faults now.depot → now.faults ≡ between.faults
    → (IsSureLink sure between → IsSureLink sure now) → (IsSureLink sure between → faults now.depot ≡ faults between.depot)
    → (ReadsWell (IsSureLink sure between) (faults between.depot) (faults now.depot) → (held : Holding) (bytes : List ℕ) (stand : Stand) → Owes held (contents between.depot) between.host between.speech bytes stand
    → Handed bytes (take count (drop have new)) (λ rest. Owes held (contents now.depot) now.host now.speech rest stand))
    → HandsSoFar contents faults sure start now size (have + count) new
hands_more contents faults sure start between now size have count old new so long within front falls same stays quiet more = record {
  within = within;
  size_is = long;
  never_falls = (let a = so.never_falls in omega (arith, a, falls));
  counted = same ∙ so.counted;
  stays_sure = λ is. stays (so.stays_sure is);
  calm = λ is. quiet (so.stays_sure is) ∙ so.calm is;
  handed_so = λ calm held desk at.
      let first = so.handed_so (reads_first _ _ _ falls calm) held desk at in
      let next = more (reads_second _ _ _ so.never_falls so.stays_sure calm) held first.rest desk.stand first.owes in
      record {
        rest = next.rest;
        joined = first.joined ∙ (ap (λ (xs : List ℕ). take have old ++ xs) next.joined
            ∙ (sym (append_assoc (take have old) (take count (drop have new)) next.rest)
            ∙ ap (λ (xs : List ℕ). xs ++ next.rest) (ap (λ (xs : List ℕ). xs ++ take count (drop have new)) (sym front) ∙ sym (take-add have count new))));
        owes = next.owes;
      };
}

-- a take was given all that was owed
pub took_short : {D : Type 0} (E : Type 0) (contents : D → Option Files) (faults : D → ℕ) (sure : D → List ℕ → Type 0) (start between now : HostLink D) (most have : ℕ) (old new : List ℕ)
    → HandsSoFar contents faults sure start between most have old → length new ≡ most → take have new ≡ take have old
    → faults between.depot ≤ faults now.depot → now.faults ≡ between.faults
    → (IsSureLink sure between → IsSureLink sure now) → (IsSureLink sure between → faults now.depot ≡ faults between.depot)
    → (ReadsWell (IsSureLink sure between) (faults between.depot) (faults now.depot) → (held : Holding) (bytes : List ℕ) (stand : Stand) → Owes held (contents between.depot) between.host between.speech bytes stand
    → Handed bytes [] (λ rest. Owes held (contents now.depot) now.host now.speech rest stand) × (bytes ≡ []))
    → Moves contents faults sure start (entry (Take most) (gave {E = E} (Ok have) new)) now
took_short E contents faults sure start between now most have old new so long front falls same stays quiet more =
    took E contents faults sure start now most have new (let a = so.never_falls in omega (arith, a, falls)) (same ∙ so.counted)
    (λ is. stays (so.stays_sure is)) (λ is. quiet (so.stays_sure is) ∙ so.calm is) (λ calm held desk at.
    let first = so.handed_so (reads_first _ _ _ falls calm) held desk at in
    let next = more (reads_second _ _ _ so.never_falls so.stays_sure calm) held first.rest desk.stand first.owes in
    record {
      rest = next.0.rest;
      owes = next.0.owes;
      is_handed = handed_short most have new desk.owed next.0.rest long so.within
          (first.joined ∙ (ap (λ (xs : List ℕ). take have old ++ xs) next.0.joined ∙ ap (λ (xs : List ℕ). xs ++ next.0.rest) (sym front)))
          (sym next.0.joined ∙ next.1);
    })

-- a link whose host, depot and speech are as they were stands where it stood
pub still_at : {D : Type 0} (contents : D → Option Files) (before after : HostLink D) (held : Holding) (desk : Desk) → after.host ≡ before.host → after.depot ≡ before.depot → after.speech ≡ before.speech
    → IsAt contents held before desk → IsAt contents held after desk
still_at contents before after held desk host depot speech at =
    subst (λ h. Owes held (contents after.depot) h after.speech desk.owed desk.stand) (sym host)
    (subst (λ d. Owes held (contents d) before.host after.speech desk.owed desk.stand) (sym depot)
    (subst (λ s. Owes held (contents before.depot) before.host s desk.owed desk.stand) (sym speech) at))

pub same_faults : {D : Type 0} (faults : D → ℕ) (before after : D) → after ≡ before → faults before ≤ faults after
same_faults faults before after same = subst (λ d. faults before ≤ faults d) (sym same) (omega arith)

-- so is a depot that is sure of the host's file
pub still_sure : {D : Type 0} (sure : D → List ℕ → Type 0) (before after : HostLink D) → name_of after.host ≡ name_of before.host → after.depot ≡ before.depot → IsSureLink sure before → IsSureLink sure after
still_sure sure before after name depot is = subst (λ n. sure after.depot n) (sym name) (subst (λ d. sure d (name_of before.host)) (sym depot) is)

-- the link was dialled
pub dialled : {D : Type 0} (contents : D → Option Files) (faults : D → ℕ) (sure : D → List ℕ → Type 0) (link : HostLink D) (at : List ℕ) → Moves contents faults sure link (entry (Dial at) Made) link
dialled contents faults sure link at = record {
  never_falls = omega arith;
  counted = refl;
  quiet = λ key. refl;
  stays_sure = λ is. is;
  calm = λ is. refl;
  served = λ calm held desk stands free. record { desk = desk; serves = record { made = refl; same = refl }; stands = stands };
}

pub closed : {D : Type 0} (contents : D → Option Files) (faults : D → ℕ) (sure : D → List ℕ → Type 0) (link : HostLink D) → Moves contents faults sure link (entry Close Made) link
closed contents faults sure link = record {
  never_falls = omega arith;
  counted = refl;
  quiet = λ key. refl;
  stays_sure = λ is. is;
  calm = λ is. refl;
  served = λ calm held desk stands free. record { desk = desk; serves = record { made = refl; same = refl }; stands = stands };
}

no_key : {P : Type 0} → true ≡ false → P
no_key e = cc

-- a key neither listens nor accepts
pub listened : {D : Type 0} (contents : D → Option Files) (faults : D → ℕ) (sure : D → List ℕ → Type 0) (before after : HostLink D) (at : List ℕ) → after.faults ≡ min (before.faults + 1) last_count
    → after.host ≡ before.host → after.depot ≡ before.depot → after.speech ≡ before.speech → Moves contents faults sure before (entry (Listen at) Failed) after
listened contents faults sure before after at counted host depot speech = record {
  never_falls = same_faults faults before.depot after.depot depot;
  counted = counted;
  quiet = λ key. no_key key;
  stays_sure = still_sure sure before after (ap name_of host) depot;
  calm = λ is. ap faults depot;
  served = λ calm held desk stands free. record { desk = desk; serves = tt; stands = still_at contents before after held desk host depot speech stands };
}

pub accepted : {D : Type 0} (contents : D → Option Files) (faults : D → ℕ) (sure : D → List ℕ → Type 0) (before after : HostLink D) → after.faults ≡ min (before.faults + 1) last_count
    → after.host ≡ before.host → after.depot ≡ before.depot → after.speech ≡ before.speech → Moves contents faults sure before (entry Accept Failed) after
accepted contents faults sure before after counted host depot speech = record {
  never_falls = same_faults faults before.depot after.depot depot;
  counted = counted;
  quiet = λ key. no_key key;
  stays_sure = still_sure sure before after (ap name_of host) depot;
  calm = λ is. ap faults depot;
  served = λ calm held desk stands free. record { desk = desk; serves = tt; stands = still_at contents before after held desk host depot speech stands };
}
