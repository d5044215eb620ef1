-- Bytes of a file from a place on, piece by piece.
use Rattle.std.proofs.Common.{◌≡◌, ℕ, zero, suc, ◌+◌, ◌-◌, ◌*◌, ◌<◌, ◌≤◌, List, [], ◌∷◌, ◌++◌, length, take, drop, slice_index, replicate, Option, None, Some, MatchOption, ap, sym, refl, subst, ◌∙◌, arith, drop-cons}
use Rattle.std.proofs.Math.Seq.{take-add}
use Rattle.std.proofs.lemmas.List.{take_all, length-drop}
use Rattle.std.specs.FinMap as map
use Rattle.edge_traits.specs.Files.{Files, file_of, GivesAt, ReadsAt}
use Rattle.host_exec.specs.RowBytes.{window}

pub window_front : (file : List ℕ) (at size more : ℕ) → take size (window file at (size + more)) ≡ window file at size
unfolding window
window_front file at zero more = refl
window_front file at (suc size) more =
    let e : suc size + more ≡ suc (size + more) = omega arith in
    ap (λ (n : ℕ). take (suc size) (window file at n)) e ∙ ap (λ (xs : List ℕ). slice_index file at ∷ xs) (window_front file (at + 1) size more)

pub window_back : (file : List ℕ) (at size more : ℕ) → drop size (window file at (size + more)) ≡ window file (at + size) more
unfolding window
window_back file at zero more =
    let e : at + 0 ≡ at = omega arith in
    let f : 0 + more ≡ more = omega arith in
    ap (λ (n : ℕ). window file at n) f ∙ ap (λ (n : ℕ). window file n more) (sym e)
window_back file at (suc size) more =
    let e : suc size + more ≡ suc (size + more) = omega arith in
    let f : at + 1 + size ≡ at + suc size = omega arith in
    ap (λ (n : ℕ). drop (suc size) (window file at n)) e ∙ (window_back file (at + 1) size more ∙ ap (λ (n : ℕ). window file n more) f)

pub window_join : (file : List ℕ) (at one other : ℕ) → window file at one ++ window file (at + one) other ≡ window file at (one + other)
unfolding window
window_join file at zero other =
    let e : at + 0 ≡ at = omega arith in
    let f : 0 + other ≡ other = omega arith in
    ap (λ (n : ℕ). window file n other) e ∙ ap (λ (n : ℕ). window file at n) (sym f)
window_join file at (suc one) other =
    let e : suc one + other ≡ suc (one + other) = omega arith in
    let f : at + suc one ≡ at + 1 + one = omega arith in
    ap (λ (n : ℕ). slice_index file at ∷ (window file (at + 1) one ++ window file n other)) f
    ∙ (ap (λ (xs : List ℕ). slice_index file at ∷ xs) (window_join file (at + 1) one other) ∙ ap (λ (n : ℕ). window file at n) (sym e))

pub window_nothing : (file : List ℕ) (at : ℕ) → window file at 0 ≡ []
unfolding window
window_nothing file at = refl

-- what stands in the file
pub window_within : (file : List ℕ) (at size : ℕ) → size ≤ length file - at → window file at size ≡ take size (drop at file)
unfolding window
window_within file at zero h = refl
window_within file at (suc size) h =
    let inside : at < length file = omega (arith, h) in
    let further : at + 1 ≡ suc at = omega arith in
    ap (λ (xs : List ℕ). slice_index file at ∷ xs) (window_within file (at + 1) size (omega (arith, h)))
    ∙ (ap (λ (n : ℕ). slice_index file at ∷ take size (drop n file)) further
    ∙ ap (λ (xs : List ℕ). take (suc size) xs) (sym (drop-cons file at 0 inside)))

zero_behind : (file : List ℕ) (at : ℕ) → length file ≤ at → slice_index file at ≡ 0
zero_behind [] at h = refl
zero_behind (x ∷ xs) zero h = absurd (omega (arith, h))
zero_behind (x ∷ xs) (suc at) h = zero_behind xs at (omega (arith, h))

-- what stands behind the file
pub window_behind : (file : List ℕ) (at size : ℕ) → length file ≤ at → window file at size ≡ replicate size 0
unfolding window
window_behind file at zero h = refl
window_behind file at (suc size) h =
    ap (λ (n : ℕ). n ∷ window file (at + 1) size) (zero_behind file at h)
    ∙ ap (λ (xs : List ℕ). 0 ∷ xs) (window_behind file (at + 1) size (omega (arith, h)))

pub window_length : (file : List ℕ) (at size : ℕ) → length (window file at size) ≡ size
unfolding window
window_length file at zero = refl
window_length file at (suc size) = ap suc (window_length file (at + 1) size)

-- ---- a buffer is filled

gives_of : (found : Option (List ℕ)) (file : List ℕ) (P : List ℕ → Type 0) → found ≡ Some file → MatchOption found ⊥ P → P file
gives_of found file P is h = subst (λ f. MatchOption f ⊥ P) is h

gives : (contents : Option Files) (name : List ℕ) (place : ℕ) (buffer : List ℕ) (count : ℕ) (filled file : List ℕ) → ReadsAt contents name place buffer count filled → file_of contents name ≡ Some file → GivesAt file place buffer count filled
gives None name place buffer count filled file read is = cc
gives (Some files) name place buffer count filled file read is = gives_of (map.get files name) file (λ bytes. GivesAt bytes place buffer count filled) is read

pub more_filled : (before now : Option Files) (name : List ℕ) (at have count : ℕ) (old new file : List ℕ) → now ≡ before
    → ReadsAt now name (at + have) (drop have old) count (drop have new) → take have new ≡ take have old
    → file_of before name ≡ Some file → take have old ≡ window file at have → take (have + count) new ≡ window file at (have + count)
more_filled before now name at have count old new file same read front is so_far =
    let given = gives before name (at + have) (drop have old) count (drop have new) file (subst (λ c. ReadsAt c name (at + have) (drop have old) count (drop have new)) same read) is in
    take-add have count new
    ∙ (ap (λ (xs : List ℕ). xs ++ take count (drop have new)) (front ∙ so_far)
    ∙ (ap (λ (xs : List ℕ). window file at have ++ xs) (given.same ∙ sym (window_within file (at + have) count given.within))
    ∙ window_join file at have count))

not_before : (place size : ℕ) → (place < size → 0 < 0) → size ≤ place
not_before place size none = grind arith

pub all_filled : (before now : Option Files) (name : List ℕ) (at have size : ℕ) (old new last file : List ℕ) → now ≡ before
    → ReadsAt now name (at + have) (drop have old) 0 (drop have new) → take have new ≡ take have old → have < length old
    → last ≡ take have new ++ replicate (size - have) 0 → size ≡ length last → have ≤ size
    → file_of before name ≡ Some file → take have old ≡ window file at have → take size last ≡ window file at size
all_filled before now name at have size old new last file same read front room l s fits is so_far =
    let given = gives before name (at + have) (drop have old) 0 (drop have new) file (subst (λ c. ReadsAt c name (at + have) (drop have old) 0 (drop have new)) same read) is in
    let some : 0 < length (drop have old) = omega (arith, length-drop have old, room) in
    let past : length file ≤ at + have = not_before (at + have) (length file) (λ early. given.some early some) in
    let whole : have + (size - have) ≡ size = omega (arith, fits) in
    take_all size last (omega (arith, s))
    ∙ (l
    ∙ (ap (λ (xs : List ℕ). xs ++ replicate (size - have) 0) (front ∙ so_far)
    ∙ (ap (λ (xs : List ℕ). window file at have ++ xs) (sym (window_behind file (at + have) (size - have) past))
    ∙ (window_join file at have (size - have) ∙ ap (window file at) whole))))

-- a row of a piece of the file
pub row_of_piece : (file : List ℕ) (start next width count row : ℕ) → next ≤ row → row < next + count
    → take width (drop ((row - next) * width) (window file (start + next * width) (count * width))) ≡ window file (start + row * width) width
row_of_piece file start next width count row low high =
    let more : ℕ = count - (row - next) - 1 in
    let parts : count ≡ row - next + (1 + more) = omega (arith, low, high) in
    let size : count * width ≡ (row - next) * width + (width + more * width) = ap (λ (n : ℕ). n * width) parts ∙ (let e : (row - next + (1 + more)) * width ≡ (row - next) * width + (width + more * width) = omega arith in e) in
    let rows : next + (row - next) ≡ row = omega (arith, low) in
    let place : start + next * width + (row - next) * width ≡ start + row * width = (let e : start + next * width + (row - next) * width ≡ start + (next + (row - next)) * width = omega arith in e) ∙ ap (λ (n : ℕ). start + n * width) rows in
    ap (λ (n : ℕ). take width (drop ((row - next) * width) (window file (start + next * width) n))) size
    ∙ (ap (take width) (window_back file (start + next * width) ((row - next) * width) (width + more * width))
    ∙ (window_front file (start + next * width + (row - next) * width) width (more * width) ∙ ap (λ (n : ℕ). window file n width) place))
