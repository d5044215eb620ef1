-- One more text was told.
use Rattle.std.proofs.Common.{◌≡◌, ◌≤◌, ◌<◌, ℕ, zero, suc, ◌+◌, ◌⊎◌, inl, inr, arith, Bool, true, false, ◌||◌, List, [], ◌∷◌, ◌++◌, length, map, drop, refl, sym, ap, ◌∙◌, subst, append-nil, length-append, Option, Some, None, slice_get}
use Rattle.std.specs.Prelude.{⊤, if◌then◌else◌, count_by, min, is_some, flat_map}
use Rattle.std.specs.List.{list_any, concat}
use Rattle.std.proofs.lemmas.Grind.{flat_map-append}
use Rattle.std.proofs.lemmas.List.{length-map}
use Rattle.std.proofs.lemmas.List.Folds.{list_any-append}
use Rattle.std.proofs.lemmas.List.Sums.{sum_by-append}
use Rattle.ghost_model.specs.core.Causes.{Rose, last_count}
use Rattle.ghost_model.specs.core.Channel.{Catalog, Journal}
use Rattle.ghost_model.specs.core.Lines.{Reason}
use Rattle.ghost_model.specs.core.Schema.{Schema}
use Rattle.key_lines.specs.Told.{AreTold, IsToldAt}
use Rattle.key_lines.specs.declared.told.ToldText.{ToldText}
use Rattle.key_lines.specs.Handing.{Handed, Hands, PiecesJoin}
use Rattle.leakless_plan.specs.declared.plan.Plan.{Plan}
use Rattle.key_exec.specs.Rows.{PrintsSome}
use Rattle.key_exec.specs.Texts.{ToldTells, ToldCalls, ToldBlames}
use Rattle.key_exec.specs.declared.text.Told.{Told}
use Rattle.key_exec.specs.declared.text.Told.TheVariants as told
use Rattle.key_session.specs.Counting.{damage_in, first_damage, first_of, reason_of, is_refusal, is_fault, is_flash, is_broken, is_damage, one_if, IsCounted, AreCounted}
use Rattle.key_session.specs.Damages.{IsSoOfText, IsSlotOf, IsSlot, MeetsFirst}
use Rattle.key_session.specs.Reasons.{HasReason, HaveSoFar, AreBlamed, HasLines, HaveLinesOf, HaveLines}
use Rattle.std.proofs.lemmas.Option.{slice_get_within}
use Rattle.key_session.specs.Telling.{AreKeptSoFar, AreLeft}
use Rattle.key_session.specs.declared.counts.Counts.{Counts}
use Rattle.key_exec.specs.declared.damage.Damage.{Damage}

pub some_same : {X : Type 0} (x y : X) → Some x ≡ Some y → x ≡ y
some_same x y e = cc

-- an element of a list with one more at its end
pub last_or_before : {X : Type 0} (xs : List X) (x : X) (i : ℕ) (y : X) → slice_get (xs ++ x ∷ []) i ≡ Some y → (slice_get xs i ≡ Some y) ⊎ ((i ≡ length xs) × (x ≡ y))
last_or_before [] x zero y e = inr (refl, some_same x y e)
last_or_before [] x (suc i) y e = cc
last_or_before (z ∷ xs) x zero y e = inl e
last_or_before (z ∷ xs) x (suc i) y e =
    elim (last_or_before xs x i y e) [
      | inl f ↦ inl f
      | inr f ↦ inr (ap suc f.0, f.1)
    ]

count_more : (p : Reason → Bool) (reasons : List Reason) (reason : Reason) → count_by p (reasons ++ reason ∷ []) ≡ count_by p reasons + one_if (p reason)
count_more p reasons reason =
    sum_by-append (λ (r : Reason). if p r then 1 else 0) reasons (reason ∷ []) ∙ ap (λ (n : ℕ). count_by p reasons + n) (only (p reason))
  where
    only : (b : Bool) → 0 + (if b then 1 else 0) ≡ one_if b
    only true = refl
    only false = refl

map_more : {X Y : Type 0} (f : X → Y) (xs : List X) (x : X) → map f (xs ++ x ∷ []) ≡ map f xs ++ f x ∷ []
map_more f [] x = refl
map_more {X} {Y} f (first ∷ xs) x = ap (λ (rest : List Y). f first ∷ rest) (map_more f xs x)

or_none : (b : Bool) → (b || false) ≡ b
or_none true = refl
or_none false = refl

any_more : (p : Reason → Bool) (reasons : List Reason) (reason : Reason) → list_any p (reasons ++ reason ∷ []) ≡ (list_any p reasons || p reason)
any_more p reasons reason = list_any-append p reasons (reason ∷ []) ∙ ap (λ (b : Bool). list_any p reasons || b) (or_none (p reason))

neither : (first second : Bool) → (first || second) ≡ false → (first ≡ false) × (second ≡ false)
neither true second e = cc
neither false second e = (refl, e)

-- the counts of one more text
counted_more : (reasons : List Reason) (reason : Reason) (old new : Counts) → AreCounted reasons old → IsCounted reason old new → AreCounted (reasons ++ reason ∷ []) new
counted_more reasons reason old new are is = record {
  refused = is.refused ∙ ap (λ (n : ℕ). n + one_if (is_refusal reason)) are.refused ∙ sym (count_more is_refusal reasons reason);
  faulted = is.faulted ∙ ap (λ (n : ℕ). n + one_if (is_fault reason)) are.faulted ∙ sym (count_more is_fault reasons reason);
  by_flash = is.by_flash ∙ ap (λ (b : Bool). b || is_flash reason) are.by_flash ∙ sym (any_more is_flash reasons reason);
  found = is.found ∙ ap (λ (b : Bool). b || is_damage reason) are.found ∙ sym (any_more is_damage reasons reason);
}

-- whether a text that was told so is marked
abbrev pub TellsMark : (marked : Bool) → Told → Type 0
TellsMark marked told.Refused = marked ≡ false
TellsMark marked told.Answered = marked ≡ false
TellsMark marked told.Host = ⊤
TellsMark marked told.Link = ⊤
TellsMark marked told.Protocol = ⊤
TellsMark marked told.Marked = marked ≡ true
TellsMark marked told.Flash = marked ≡ false
TellsMark marked (told.Damaged damage) = marked ≡ false

none_marked : (marked : Bool) (marks : ℕ) → marked ≡ false → marks ≡ 0 → one_if marked + marks ≡ 0
none_marked true marks e f = cc
none_marked false marks e f = omega (arith, f)

one_marked : (marked : Bool) → marked ≡ true → 1 ≤ one_if marked
one_marked true e = omega arith
one_marked false e = cc

-- the faults of the flash that are told of are some of those that it counted
blamed_same : (most since before now count marks mark more : ℕ) → more ≤ mark → now ≡ before → min (since + (count + (mark + marks))) most ≤ before → min (since + (count + more + marks)) most ≤ now
blamed_same most since before now count marks mark more few same e = omega (arith, few, same, e)

blamed_rise : (most since before now count marks mark : ℕ) → min (before + 1) most ≤ now → min (since + (count + (mark + marks))) most ≤ before → min (since + (count + 1 + marks)) most ≤ now
blamed_rise most since before now count marks mark rose e = omega (arith, rose, e)

blamed_by : (since before now count marks : ℕ) (marked : Bool) (result : Told) → ToldTells before now result → TellsMark marked result
    → min (since + (count + (one_if marked + marks))) last_count ≤ before → min (since + (count + one_if (is_flash (reason_of result)) + marks)) last_count ≤ now
blamed_by since before now count marks marked told.Refused tells mark e = blamed_same last_count since before now count marks (one_if marked) 0 (omega arith) tells e
blamed_by since before now count marks marked told.Answered tells mark e = blamed_same last_count since before now count marks (one_if marked) 0 (omega arith) tells e
blamed_by since before now count marks marked told.Host tells mark e = blamed_same last_count since before now count marks (one_if marked) 0 (omega arith) tells e
blamed_by since before now count marks marked told.Link tells mark e = blamed_same last_count since before now count marks (one_if marked) 0 (omega arith) tells e
blamed_by since before now count marks marked told.Protocol tells mark e = blamed_same last_count since before now count marks (one_if marked) 0 (omega arith) tells e
blamed_by since before now count marks marked (told.Damaged damage) tells mark e = blamed_same last_count since before now count marks (one_if marked) 0 (omega arith) tells e
blamed_by since before now count marks marked told.Marked tells mark e = blamed_same last_count since before now count marks (one_if marked) 1 (one_marked marked mark) tells e
blamed_by since before now count marks marked told.Flash tells mark e = blamed_rise last_count since before now count marks (one_if marked) tells e

unblamed_by : (since before now marks : ℕ) (marked : Bool) (result : Told) → ToldTells before now result → TellsMark marked result
    → (one_if marked + marks ≡ 0 → before ≡ since) → is_flash (reason_of result) ≡ false → is_broken (reason_of result) ≡ false → marks ≡ 0 → now ≡ since
unblamed_by since before now marks marked told.Refused tells mark same flash broken none = tells ∙ same (none_marked marked marks mark none)
unblamed_by since before now marks marked told.Answered tells mark same flash broken none = tells ∙ same (none_marked marked marks mark none)
unblamed_by since before now marks marked (told.Damaged damage) tells mark same flash broken none = tells ∙ same (none_marked marked marks mark none)
unblamed_by since before now marks marked told.Host tells mark same flash broken none = cc
unblamed_by since before now marks marked told.Link tells mark same flash broken none = cc
unblamed_by since before now marks marked told.Protocol tells mark same flash broken none = cc
unblamed_by since before now marks marked told.Marked tells mark same flash broken none = cc
unblamed_by since before now marks marked told.Flash tells mark same flash broken none = cc

-- the flash's count of faults after one more text
blamed_more : (reasons : List Reason) (since before now marks : ℕ) (marked : Bool) (result : Told) → ToldTells before now result → TellsMark marked result
    → AreBlamed (one_if marked + marks) reasons since before → AreBlamed marks (reasons ++ reason_of result ∷ []) since now
blamed_more reasons since before now marks marked result tells mark are = record {
  blamed = subst (λ (n : ℕ). min (since + (n + marks)) last_count ≤ now) (sym (count_more is_flash reasons (reason_of result)))
      (blamed_by since before now (count_by is_flash reasons) marks marked result tells mark are.blamed);
  unblamed = λ flash broken none.
      let no_flash = neither (list_any is_flash reasons) (is_flash (reason_of result)) (sym (any_more is_flash reasons (reason_of result)) ∙ flash) in
      let no_broken = neither (list_any is_broken reasons) (is_broken (reason_of result)) (sym (any_more is_broken reasons (reason_of result)) ∙ broken) in
      unblamed_by since before now marks marked result tells mark (λ zero. are.unblamed no_flash.0 no_broken.0 zero) no_flash.1 no_broken.1 none;
}

no_fall : (most before now : ℕ) → before ≤ most → min (before + 1) most ≤ now → before ≤ now
no_fall most before now e r = omega (arith, e, r)

-- a rise of the count of calls in either of two parts is one in both
either : (first second : Bool) → (first || second) ≡ true → (first ≡ true) ⊎ (second ≡ true)
either true second e = inl refl
either false second e = inr e

pub still_no_fall : (most since before now : ℕ) → min since most ≤ before → min before most ≤ now → min since most ≤ now
still_no_fall most since before now e f = omega (arith, e, f)

pub rose_before : (most since before now : ℕ) → min (since + 1) most ≤ before → min before most ≤ now → min (since + 1) most ≤ now
rose_before most since before now e f = omega (arith, e, f)

pub rose_then : (most since before now : ℕ) → min since most ≤ before → min (before + 1) most ≤ now → min (since + 1) most ≤ now
rose_then most since before now e f = omega (arith, e, f)

-- a text that was ended by the flash was marked, or the flash was called for it
flash_called : (since start now : ℕ) (marked : Bool) (result : Told) → min since last_count ≤ start → ToldCalls start now result → TellsMark marked result → (marked ≡ true → Rose since now)
    → is_flash (reason_of result) ≡ true → Rose since now
flash_called since start now marked told.Flash stayed called mark rose e = rose_then last_count since start now stayed called
flash_called since start now marked told.Marked stayed called mark rose e = rose mark
flash_called since start now marked told.Refused stayed called mark rose e = cc
flash_called since start now marked told.Answered stayed called mark rose e = cc
flash_called since start now marked told.Host stayed called mark rose e = cc
flash_called since start now marked told.Link stayed called mark rose e = cc
flash_called since start now marked told.Protocol stayed called mark rose e = cc
flash_called since start now marked (told.Damaged damage) stayed called mark rose e = cc

damage_called : (since start now : ℕ) (result : Told) → min since last_count ≤ start → ToldCalls start now result → is_damage (reason_of result) ≡ true → Rose since now
damage_called since start now told.Flash stayed called e = cc
damage_called since start now told.Marked stayed called e = cc
damage_called since start now told.Refused stayed called e = cc
damage_called since start now told.Answered stayed called e = cc
damage_called since start now told.Host stayed called e = cc
damage_called since start now told.Link stayed called e = cc
damage_called since start now told.Protocol stayed called e = cc
damage_called since start now (told.Damaged damage) stayed called e = rose_then last_count since start now stayed called

rose_more : (since now : ℕ) (first second : Bool) → (first ≡ true → Rose since now) → (second ≡ true → Rose since now) → (first || second) ≡ true → Rose since now
rose_more since now first second called calls e =
    elim (either first second e) [
      | inl f ↦ called f
      | inr f ↦ calls f
    ]

-- the flash was called where one of the texts met a fault of it
pub called_more : (since start before now : ℕ) (old new : Counts) (marked : Bool) (result : Told) → IsCounted (reason_of result) old new
    → (old.by_flash ≡ true → Rose since before) → min before last_count ≤ now → min since last_count ≤ start → ToldCalls start now result
    → TellsMark marked result → (marked ≡ true → Rose since before) → new.by_flash ≡ true → Rose since now
called_more since start before now old new marked result counted called stays stayed calls mark rose e =
    rose_more since now old.by_flash (is_flash (reason_of result)) (λ f. rose_before last_count since before now (called f) stays)
    (flash_called since start now marked result stayed calls mark (λ m. rose_before last_count since before now (rose m) stays)) (sym counted.by_flash ∙ e)

-- and where one of them met damage
pub damage_called_more : (since start before now : ℕ) (old new : Counts) (result : Told) → IsCounted (reason_of result) old new
    → (is_some old.damage ≡ true → Rose since before) → min before last_count ≤ now → min since last_count ≤ start → ToldCalls start now result
    → is_some new.damage ≡ true → Rose since now
damage_called_more since start before now old new result counted called stays stayed calls e =
    rose_more since now (is_some old.damage) (is_damage (reason_of result)) (λ f. rose_before last_count since before now (called f) stays)
    (damage_called since start now result stayed calls) (sym counted.found ∙ e)

-- one more text has its lines
pub one_lines : PiecesJoin → (Has : (place : ℕ) → Reason → (lines : List (List ℕ)) → Type 0) (reasons : List Reason) (reason : Reason) (since between now : Handed) (one : List (List ℕ))
    → (are : HaveLinesOf Has reasons since between) → Has (length reasons) reason one → Hands (concat one) between now
    → (more : HaveLinesOf Has (reasons ++ reason ∷ []) since now) × (more.lines ≡ are.lines ++ one ∷ [])
one_lines join Has reasons reason since between now one are is hands =
    let long : length are.lines ≡ length reasons = are.as_many in
    let longer : length (are.lines ++ one ∷ []) ≡ length are.lines + 1 = length-append are.lines (one ∷ []) in
    let more : length (reasons ++ reason ∷ []) ≡ length reasons + 1 = length-append reasons (reason ∷ []) in
    let bytes : flat_map concat (are.lines ++ one ∷ []) ≡ flat_map concat are.lines ++ concat one =
    flat_map-append concat are.lines (one ∷ []) ∙ ap (λ (bs : List ℕ). flat_map concat are.lines ++ bs) (append-nil (concat one)) in (
      record {
        lines = are.lines ++ one ∷ [];
        as_many = omega (arith, long, longer, more);
        each = λ place it mine e f.
            by place it mine (last_or_before reasons reason place it e) (last_or_before are.lines one place mine f);
        handed_on = subst (λ (bs : List ℕ). Hands bs since now) (sym bytes) (join.two (flat_map concat are.lines) (concat one) since between now are.handed_on hands);
      },
      refl,
    )
  where
    by : (place : ℕ) (it : Reason) (mine : List (List ℕ)) → (slice_get reasons place ≡ Some it) ⊎ ((place ≡ length reasons) × (reason ≡ it))
        → (slice_get are.lines place ≡ Some mine) ⊎ ((place ≡ length are.lines) × (one ≡ mine)) → Has place it mine
    by place it mine (inl e) (inl f) = are.each place it mine e f
    by place it mine (inr e) (inr f) =
        subst (λ (r : Reason). Has place r mine) e.1
        (subst (λ (ls : List (List ℕ)). Has place reason ls) f.1
        (subst (λ (n : ℕ). Has n reason one) (sym e.0) is))
    by place it mine (inl e) (inr f) =
        let within : place < length reasons = slice_get_within reasons place it e in
        let at : place ≡ length are.lines = f.0 in
        let many : length are.lines ≡ length reasons = are.as_many in
        absurd (omega (arith, within, at, many))
    by place it mine (inr e) (inl f) =
        let within : place < length are.lines = slice_get_within are.lines place mine f in
        let at : place ≡ length reasons = e.0 in
        let many : length are.lines ≡ length reasons = are.as_many in
        absurd (omega (arith, within, at, many))

-- one more text is told
pub told_more : (schema : Schema) (texts : List (List ℕ)) (lines : List (List (List ℕ))) (told : List ToldText) (own : List (List ℕ)) (one : ToldText)
    → AreTold schema texts lines told → IsToldAt schema texts (length lines) own one → AreTold schema texts (lines ++ own ∷ []) (told ++ one ∷ [])
told_more schema texts lines told own one are is =
    let long : length told ≡ length lines = are.as_many in
    let longer : length (lines ++ own ∷ []) ≡ length lines + 1 = length-append lines (own ∷ []) in
    let more : length (told ++ one ∷ []) ≡ length told + 1 = length-append told (one ∷ []) in
    record {
      as_many = omega (arith, long, longer, more);
      each = λ place mine it e f. by place mine it (last_or_before lines own place mine e) (last_or_before told one place it f);
    }
  where
    by : (place : ℕ) (mine : List (List ℕ)) (it : ToldText) → (slice_get lines place ≡ Some mine) ⊎ ((place ≡ length lines) × (own ≡ mine))
        → (slice_get told place ≡ Some it) ⊎ ((place ≡ length told) × (one ≡ it)) → IsToldAt schema texts place mine it
    by place mine it (inl e) (inl f) = are.each place mine it e f
    by place mine it (inr e) (inr f) =
        subst (λ (t : ToldText). IsToldAt schema texts place mine t) f.1
        (subst (λ (ls : List (List ℕ)). IsToldAt schema texts place ls one) e.1
        (subst (λ (n : ℕ). IsToldAt schema texts n own one) (sym e.0) is))
    by place mine it (inl e) (inr f) =
        let within : place < length lines = slice_get_within lines place mine e in
        let at : place ≡ length told = f.0 in
        let many : length told ≡ length lines = are.as_many in
        absurd (omega (arith, within, at, many))
    by place mine it (inr e) (inl f) =
        let within : place < length told = slice_get_within told place it f in
        let at : place ≡ length lines = e.0 in
        let many : length told ≡ length lines = are.as_many in
        absurd (omega (arith, within, at, many))

-- the damage that is told of a text is that of a slot
damage_told : (result : Told) → is_some (damage_in result) ≡ is_damage (reason_of result)
damage_told told.Refused = refl
damage_told told.Answered = refl
damage_told told.Host = refl
damage_told told.Link = refl
damage_told told.Protocol = refl
damage_told told.Marked = refl
damage_told told.Flash = refl
damage_told (told.Damaged damage) = refl

-- there is one of them for each reason
pub one_each : (damages : List (Option Damage)) (reasons : List Reason) → map is_some damages ≡ map is_damage reasons → length damages ≡ length reasons
one_each damages reasons by_reason = sym (length-map damages is_some) ∙ ap (λ (tests : List Bool). length tests) by_reason ∙ length-map reasons is_damage

module _ (plan : Plan) (pages_told : Bool) (page : ℕ → List ℕ) (catalog : Catalog) (texts : List (List ℕ)) where
  -- a slot that is blamed for the text at a place
  abbrev BlamedAt : (place : ℕ) → Told → Type 0
  BlamedAt place result = IsSoOfText texts place (λ text side half. ToldBlames plan pages_told page catalog text side half result)

  slot_told : (place : ℕ) (result : Told) (damage : Damage) → BlamedAt place result → damage_in result ≡ Some damage → IsSlotOf plan pages_told page catalog texts place damage
  slot_told place told.Refused damage blames e = cc
  slot_told place told.Answered damage blames e = cc
  slot_told place told.Host damage blames e = cc
  slot_told place told.Link damage blames e = cc
  slot_told place told.Protocol damage blames e = cc
  slot_told place told.Marked damage blames e = cc
  slot_told place told.Flash damage blames e = cc
  slot_told place (told.Damaged met) damage blames e =
      subst (λ (d : Damage). IsSlotOf plan pages_told page catalog texts place d) (some_same met damage e)
      (record { text = blames.text; stands = blames.stands; half = blames.half; is = blames.is })

  -- the damage that was met first is that of a slot
  pub one_damage : (place : ℕ) (before after : Option Damage) (result : Told) → after ≡ first_damage before (damage_in result) → BlamedAt place result
      → ((damage : Damage) → before ≡ Some damage → IsSlot plan pages_told page catalog texts damage)
      → (damage : Damage) → after ≡ Some damage → IsSlot plan pages_told page catalog texts damage
  one_damage place (Some first) after result is blames were damage e = were damage (sym is ∙ e)
  one_damage place None after result is blames were damage e = (place, slot_told place result damage blames (sym is ∙ e))

  first_more : (damages : List (Option Damage)) (met : Option Damage) → first_of (damages ++ met ∷ []) ≡ first_damage (first_of damages) met
  first_more [] None = refl
  first_more [] (Some damage) = refl
  first_more (None ∷ damages) met = first_more damages met
  first_more (Some damage ∷ damages) met = refl

  -- the first damage after one more text
  met_more : (count : ℕ) (reasons : List Reason) (before after : Option Damage) (result : Told) → length reasons ≡ count → after ≡ first_damage before (damage_in result)
      → BlamedAt count result → MeetsFirst plan pages_told page catalog texts reasons before → MeetsFirst plan pages_told page catalog texts (reasons ++ reason_of result ∷ []) after
  met_more count reasons before after result long is blames met = record {
    damages = met.damages ++ damage_in result ∷ [];
    by_reason = map_more (λ (one : Option Damage). is_some one) met.damages (damage_in result)
        ∙ ap (λ (tests : List Bool). tests ++ is_some (damage_in result) ∷ []) met.by_reason
        ∙ ap (λ (test : Bool). map is_damage reasons ++ test ∷ []) (damage_told result)
        ∙ sym (map_more is_damage reasons (reason_of result));
    each = λ place damage e.
        elim (last_or_before met.damages (damage_in result) place (Some damage) e) [
          | inl f ↦ met.each place damage f
          | inr f ↦ subst (λ (n : ℕ). IsSlotOf plan pages_told page catalog texts n damage) (sym (f.0 ∙ as_many ∙ long)) (slot_told count result damage blames f.1)
        ];
    first_is = is ∙ ap (λ (first : Option Damage). first_damage first (damage_in result)) met.first_is ∙ sym (first_more met.damages (damage_in result));
  }
    where
      as_many : length met.damages ≡ length reasons
      as_many = one_each met.damages reasons met.by_reason

  -- one more text has a reason, and lines for it
  pub one_reason : PiecesJoin → (journal : Journal) (count : ℕ) (old new : Counts) (since before now marks : ℕ) (marked : Bool) (result : Told)
      (first middle last : Handed) (lines : List (List ℕ))
      → (are : HaveSoFar catalog texts journal count (AreKeptSoFar plan pages_told page catalog texts old (one_if marked + marks) since before)) → HasReason catalog texts journal count (reason_of result)
      → ToldTells before now result → TellsMark marked result → IsCounted (reason_of result) old new
      → new.damage ≡ first_damage old.damage (damage_in result) → BlamedAt count result
      → (have : HaveLines catalog texts journal are.reasons first middle) → HasLines catalog texts journal count (reason_of result) lines → Hands (concat lines) middle last
      → (more : HaveSoFar catalog texts journal (count + 1) (AreKeptSoFar plan pages_told page catalog texts new marks since now)) × (longer : HaveLines catalog texts journal more.reasons first last)
      × (more.reasons ≡ are.reasons ++ reason_of result ∷ []) × (longer.lines ≡ have.lines ++ lines ∷ [])
      × (more.counted.kept.met.damages ≡ are.counted.kept.met.damages ++ damage_in result ∷ [])
  unfolding met_more
  one_reason join journal count old new since before now marks marked result first middle last lines are is tells mark counted met blames have has hands =
      let long : length are.reasons ≡ count = are.as_many in
      let longer : length (are.reasons ++ reason_of result ∷ []) ≡ length are.reasons + 1 = length-append are.reasons (reason_of result ∷ []) in
      let both =
      one_lines join (HasLines catalog texts journal) are.reasons (reason_of result) first middle last lines have
      (subst (λ (n : ℕ). HasLines catalog texts journal n (reason_of result) lines) (sym long) has) hands in (
        record {
          reasons = are.reasons ++ reason_of result ∷ [];
          as_many = omega (arith, long, longer);
          each = λ place it e.
              elim (last_or_before are.reasons (reason_of result) place it e) [
                | inl f ↦ are.each place it f
                | inr f ↦ subst (λ (x : Reason). HasReason catalog texts journal place x) f.1 (subst (λ (n : ℕ). HasReason catalog texts journal n (reason_of result)) (sym (f.0 ∙ long)) is)
              ];
          counted = record {
            kept = record {
              counted = counted_more are.reasons (reason_of result) old new are.counted.kept.counted counted;
              met = met_more count are.reasons old.damage new.damage result long met blames are.counted.kept.met;
            };
            faults = blamed_more are.reasons since before now marks marked result tells mark are.counted.faults;
          };
        },
        both.0,
        refl,
        both.1,
        refl,
      )

-- the first of the texts that are left
pub next_of : (texts : List (List ℕ)) (count : ℕ) (written : List ℕ) (later : List (List ℕ)) → drop count texts ≡ written ∷ later → slice_get texts count ≡ Some written
next_of [] zero written later e = cc
next_of [] (suc count) written later e = cc
next_of (text ∷ texts) zero written later e = cc
next_of (text ∷ texts) (suc count) written later e = next_of texts count written later e

rest_of : (texts : List (List ℕ)) (count : ℕ) (written : List ℕ) (later : List (List ℕ)) → drop count texts ≡ written ∷ later → (later ≡ drop (suc count) texts) × (suc count ≤ length texts)
rest_of [] zero written later e = cc
rest_of [] (suc count) written later e = cc
rest_of (text ∷ texts) zero written later e = ((let f : text ∷ texts ≡ written ∷ later = e in cc), omega arith)
rest_of (text ∷ texts) (suc count) written later e =
    let r = rest_of texts count written later e in
    let within : suc count ≤ length texts = r.1 in
    (r.0, omega (arith, within))

pub next_number : (n : ℕ) → n + 1 ≡ suc n
next_number n = omega arith

pub left_more : (texts : List (List ℕ)) (count : ℕ) (left later : List (List ℕ)) (written : List ℕ) → AreLeft texts left count → left ≡ written ∷ later → AreLeft texts later (count + 1)
left_more texts count left later written are e =
    let r = rest_of texts count written later (sym are.left_are ∙ e) in
    subst (λ (n : ℕ). AreLeft texts later n) (sym (next_number count)) (record { left_are = r.0; within = r.1 })

pub some_more : PiecesJoin → (since between now : Handed) → PrintsSome since between → PrintsSome between now → PrintsSome since now
some_more join since between now first second = record {
  piece = first.piece ++ second.piece;
  handed = join.two first.piece second.piece since between now first.handed second.handed;
}

-- a number up to another or the next one
pub either_of : (a b : ℕ) → a ≤ b + 1 → (a ≤ b) ⊎ (a ≡ b + 1)
either_of zero b e = inl (omega arith)
either_of (suc a) zero e = inr (omega (arith, e))
either_of (suc a) (suc b) e =
    elim (either_of a b (omega (arith, e))) [
      | inl f ↦ inl (omega (arith, f))
      | inr f ↦ inr (omega (arith, f))
    ]
