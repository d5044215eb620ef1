-- A file read from its front, piece by piece.
use Rattle.std.proofs.Common.{◌≡◌, ℕ, ◌+◌, ◌-◌, ◌<◌, ◌≤◌, List, ◌++◌, length, take, drop, Option, None, Some, MatchOption, refl, sym, ◌∙◌, ap, subst, arith}
use Rattle.std.proofs.Math.Seq.{take-add}
use Rattle.std.proofs.lemmas.Grind.{common_steps}
use Rattle.std.specs.FinMap as map
use Rattle.edge_traits.specs.Files.{Files, file_of, HasFile, HasLonger, GivesAt, ReadsAt}

-- the bytes are the front of the file, where the file is told
pub record StartsFile (contents : Option Files) (name bytes : List ℕ) : Type 0 where
  pub front : (file : List ℕ) → file_of contents name ≡ Some file → bytes ≡ take (length bytes) file

-- the state of a read of a whole file
pub record ReadSoFar (before now : Option Files) (faults_before faults_now appends_before appends_now : ℕ) (sure_before sure_now : List ℕ → Type 0) (name bytes : List ℕ) (count limit : ℕ) : Type 0 where
  pub same : now ≡ before
  pub faults : faults_now ≡ faults_before
  pub appends : appends_now ≡ appends_before
  pub stays_sure : (other : List ℕ) → sure_before other → sure_now other
  pub within : count ≤ limit
  pub starts : StartsFile before name bytes

gives_of : (found : Option (List ℕ)) (file : List ℕ) (P : List ℕ → Type 0) → found ≡ Some file → MatchOption found ⊥ P → P file
gives_of found file P is h = subst (λ f. MatchOption f ⊥ P) is h

-- what a read of a told file gives
gives : (contents : Option Files) (name : List ℕ) (place : ℕ) (buffer : List ℕ) (count : ℕ) (filled file : List ℕ) → ReadsAt contents name place buffer count filled → file_of contents name ≡ Some file → GivesAt file place buffer count filled
gives None name place buffer count filled file read is = cc
gives (Some files) name place buffer count filled file read is = gives_of (map.get files name) file (λ bytes. GivesAt bytes place buffer count filled) is read

joined : (bytes filled file : List ℕ) (count : ℕ) → count ≤ length filled → bytes ≡ take (length bytes) file → take count filled ≡ take count (drop (length bytes) file) → bytes ++ take count filled ≡ take (length (bytes ++ take count filled)) file
joined bytes filled file count fits start piece =
    let long : length (bytes ++ take count filled) ≡ length bytes + count = grind (arith, common_steps) in
    let whole : take (length bytes + count) file ≡ take (length bytes) file ++ take count (drop (length bytes) file) = take-add (length bytes) count file in
    let left : bytes ++ take count filled ≡ take (length bytes) file ++ take count (drop (length bytes) file) =
    ap (λ p. bytes ++ p) piece ∙ ap (λ b. b ++ take count (drop (length bytes) file)) start in
    left ∙ sym whole ∙ ap (λ n. take n file) (sym long)

pub goes_on : (contents : Option Files) (name bytes buffer filled : List ℕ) (count : ℕ) → StartsFile contents name bytes → ReadsAt contents name (length bytes) buffer count filled → count ≤ length filled → StartsFile contents name (bytes ++ take count filled)
goes_on contents name bytes buffer filled count starts read fits = record {
  front = λ file is. joined bytes filled file count fits (starts.front file is) (gives contents name (length bytes) buffer count filled file read is).same;
}

whole : (bytes file : List ℕ) → bytes ≡ take (length bytes) file → length file ≤ length bytes → file ≡ bytes
whole bytes file start short = let e : take (length bytes) file ≡ file = grind (arith, common_steps) in sym e ∙ sym start

not_before : (place size : ℕ) → (place < size → 0 < 0) → size ≤ place
not_before place size none = grind arith

ends_of : (found : Option (List ℕ)) (bytes buffer filled : List ℕ) → MatchOption found ⊥ (λ file. GivesAt file (length bytes) buffer 0 filled) → 0 < length buffer → ((file : List ℕ) → found ≡ Some file → bytes ≡ take (length bytes) file) → found ≡ Some bytes
ends_of None bytes buffer filled read room starts = absurd read
ends_of (Some file) bytes buffer filled read room starts = let short : length file ≤ length bytes = not_before (length bytes) (length file) (λ early. read.some early room) in ap Some (whole bytes file (starts file refl) short)

pub ends : (contents : Option Files) (name bytes buffer filled : List ℕ) → StartsFile contents name bytes → ReadsAt contents name (length bytes) buffer 0 filled → 0 < length buffer → HasFile contents name bytes
ends None name bytes buffer filled starts read room = tt
ends (Some files) name bytes buffer filled starts read room = ends_of (map.get files name) bytes buffer filled read room starts.front

longer_of : (found : Option (List ℕ)) (place : ℕ) (buffer filled : List ℕ) (count limit : ℕ) → MatchOption found ⊥ (λ file. GivesAt file place buffer count filled) → limit - place < count → MatchOption found ⊥ (λ file. limit < length file)
longer_of None place buffer filled count limit read more = read
longer_of (Some file) place buffer filled count limit read more = omega (arith, read.within)

pub is_longer : (contents : Option Files) (name : List ℕ) (place : ℕ) (buffer filled : List ℕ) (count limit : ℕ) → ReadsAt contents name place buffer count filled → limit - place < count → HasLonger contents name limit
is_longer None name place buffer filled count limit read more = tt
is_longer (Some files) name place buffer filled count limit read more = longer_of (map.get files name) place buffer filled count limit read more

-- the same where the values came by several steps of the code
pub goes_on_along : (before now : Option Files) (name bytes next buffer filled : List ℕ) (place count : ℕ) → now ≡ before → StartsFile before name bytes → ReadsAt now name place buffer count filled → place ≡ length bytes → count ≤ length filled → next ≡ bytes ++ take count filled → StartsFile before name next
goes_on_along before now name bytes next buffer filled place count same starts read at fits grew =
    let kept : ReadsAt before name (length bytes) buffer count filled =
    subst (λ n. ReadsAt before name n buffer count filled) at (subst (λ c. ReadsAt c name place buffer count filled) same read) in
    subst (λ b. StartsFile before name b) (sym grew) (goes_on before name bytes buffer filled count starts kept fits)
