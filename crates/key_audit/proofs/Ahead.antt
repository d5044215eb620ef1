-- What is ahead in a window behind bytes that were passed.
use Rattle.std.proofs.Common.{◌≡◌, ℕ, ◌+◌, ◌<◌, ◌≤◌, ◌==◌, Bool, true, false, List, [], ◌∷◌, ◌++◌, length, take, Option, refl, sym, ap, subst, ◌∙◌, arith, append_assoc, append-nil, length-append, length-take}
use Rattle.std.specs.Prelude.{nat_lt}
use Rattle.std.proofs.lemmas.Bool.Decides.{nat_tests}
use Rattle.edge_traits.specs.Files.{Files, HasFile, ReadsAt}
use Rattle.key_audit.specs.Windows.{ahead, HasFront, StandsBehind, HasAhead, IsAhead}
use Rattle.key_audit.specs.declared.window.Window.{Window}
use Rattle.key_audit.proofs.Fronts.{reads_on, reads_end}

-- where nothing is ahead, what was passed is what was read
pub read_before : (contents : Option Files) (name passed : List ℕ) (window : Window) → ahead window ≡ [] → StandsBehind contents name passed window
    → 0 < length passed → HasFront contents name passed
read_before contents name passed window none stands some =
    subst (HasFront contents name) (ap (λ (xs : List ℕ). passed ++ xs) none ∙ append-nil passed) (stands.read (omega (arith, some)))

-- a window was filled behind the bytes that were passed
pub fills : (contents : Option Files) (name passed buffer filled : List ℕ) (before after : Window) (count : ℕ) → ahead before ≡ [] → StandsBehind contents name passed before
    → ReadsAt contents name before.passed buffer count filled → after.passed ≡ before.passed → ahead after ≡ take count filled → length (take count filled) ≡ count
    → 0 < count → HasAhead contents name passed after
fills contents name passed buffer filled before after count none stands read same is size some =
    let front = reads_on contents name passed buffer filled count
    (subst (λ (n : ℕ). ReadsAt contents name n buffer count filled) stands.passed_is read) (read_before contents name passed before none stands) in
    record {
      stands = record {
        passed_is = same ∙ stands.passed_is;
        read = λ _. subst (λ (xs : List ℕ). HasFront contents name (passed ++ xs)) (sym is) front;
      };
      some = (let long = ap length is in omega (arith, long, size, some));
    }

pub finds_end : (contents : Option Files) (name passed buffer filled : List ℕ) (before : Window) → ahead before ≡ [] → StandsBehind contents name passed before
    → ReadsAt contents name before.passed buffer 0 filled → 0 < length buffer → HasFile contents name passed
finds_end contents name passed buffer filled before none stands read room =
    reads_end contents name passed buffer filled (subst (λ (n : ℕ). ReadsAt contents name n buffer 0 filled) stands.passed_is read) room
    (read_before contents name passed before none stands)

-- a piece that was ahead was passed
pub passes : (contents : Option Files) (name passed piece : List ℕ) (before after : Window) → ahead before ≡ piece ++ ahead after → StandsBehind contents name passed before
    → after.passed ≡ before.passed + length piece → StandsBehind contents name (passed ++ piece) after
passes contents name passed piece before after is stands counted =
    let long = length-append passed piece in
    let size = ap length is ∙ length-append piece (ahead after) in
    record {
      passed_is = (let at = stands.passed_is in omega (arith, at, counted, long));
      read = λ some.
          subst (HasFront contents name) (ap (λ (xs : List ℕ). passed ++ xs) is ∙ sym (append_assoc passed piece (ahead after)))
          (stands.read (omega (arith, some, long, size)));
    }

some_taken : (count : ℕ) (filled : List ℕ) → count ≤ length filled → 0 < count → 0 < length (take count filled)
some_taken count filled fits some = let size = length-take count filled in omega (arith, size, fits, some)

-- a byte is ahead where some were read
pub some_ahead : (count : ℕ) (filled : List ℕ) → count ≤ length filled → nat_lt 0 count ≡ true → 0 < length (take count filled)
some_ahead count filled fits e = some_taken count filled fits (grind (arith, nat_tests, e))

reads_so : (b : Bool) (count : ℕ) → nat_lt 0 count ≡ b → (contents : Option Files) (name passed buffer filled : List ℕ) (before : Window) → ahead before ≡ []
    → StandsBehind contents name passed before → ReadsAt contents name before.passed buffer count filled → count ≤ length filled → 0 < length buffer
    → IsAhead contents name passed (record { bytes = filled; from = 0; to = count; passed = before.passed }) b
reads_so true count e contents name passed buffer filled before none stands read fits room =
    fills contents name passed buffer filled before (record { bytes = filled; from = 0; to = count; passed = before.passed }) count none stands read refl refl
    (let size = length-take count filled in omega (arith, size, fits)) (grind (arith, nat_tests, e))
reads_so false count e contents name passed buffer filled before none stands read fits room =
    let nothing : count ≡ 0 = grind (arith, nat_tests, e) in
    finds_end contents name passed buffer filled before none stands (subst (λ (n : ℕ). ReadsAt contents name before.passed buffer n filled) nothing read) room

pub reads_more : (count : ℕ) (contents : Option Files) (name passed buffer filled : List ℕ) (before : Window) → ahead before ≡ [] → StandsBehind contents name passed before
    → ReadsAt contents name before.passed buffer count filled → count ≤ length filled → 0 < length buffer
    → IsAhead contents name passed (record { bytes = filled; from = 0; to = count; passed = before.passed }) (nat_lt 0 count)
reads_more count = reads_so (nat_lt 0 count) count refl

no_bytes : (bytes : List ℕ) → length bytes ≡ 0 → bytes ≡ []
no_bytes [] e = refl
no_bytes (x ∷ bytes) e = absurd (omega (arith, e))

-- what is told to be empty is
pub empty_bytes : (bytes : List ℕ) (told : Bool) → told ≡ (length bytes == 0) → told ≡ true → bytes ≡ []
empty_bytes bytes told is e = no_bytes bytes (let same = sym is ∙ e in grind (arith, nat_tests, same))

pub some_bytes : (bytes : List ℕ) (told : Bool) → told ≡ (length bytes == 0) → told ≡ false → 0 < length bytes
some_bytes bytes told is e = let same = sym is ∙ e in grind (arith, nat_tests, same)

-- whether a byte is ahead in a depot whose files are the same
pub still_ahead : (now before : Option Files) (name passed : List ℕ) (old window : Window) (more answer : Bool) → now ≡ before → StandsBehind before name passed old
    → ((bytes : List ℕ) → StandsBehind now name bytes old → IsAhead now name bytes window more) → more ≡ answer → IsAhead before name passed window answer
still_ahead now before name passed old window more answer same stands ahead_now is =
    subst (λ (b : Bool). IsAhead before name passed window b) is
    (subst (λ (k : Option Files). IsAhead k name passed window more) same
    (ahead_now passed (subst (λ (k : Option Files). StandsBehind k name passed old) (sym same) stands)))
