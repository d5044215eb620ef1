-- A file that is read on from its front.
use Rattle.std.proofs.Common.{◌≡◌, ℕ, ◌<◌, ◌≤◌, List, [], ◌∷◌, ◌++◌, length, take, drop, Option, None, Some, MatchOption, refl, sym, ap, subst, ◌∙◌, arith, append_assoc, append-nil, length-append, unwrap_or, take-append-drop}
use Rattle.std.specs.FinMap as map
use Rattle.edge_traits.specs.Files.{Files, HasFile, GivesAt, ReadsAt}
use Rattle.edge_traits.specs.Written.{Begins}
use Rattle.key_audit.specs.Windows.{HasFront}

-- bytes that were found begin so
record FrontIn (found : Option (List ℕ)) (front : List ℕ) : Type 0 where
  pub file : List ℕ
  pub is : found ≡ Some file
  pub begins : Begins front file

drop_front : (front rest : List ℕ) → drop (length front) (front ++ rest) ≡ rest
drop_front [] rest = refl
drop_front (x ∷ front) rest = drop_front front rest

some_once : (one other : List ℕ) → Some one ≡ Some other → one ≡ other
some_once one other e = ap (λ (o : Option (List ℕ)). unwrap_or o one) e

none_is_some : (file : List ℕ) → None ≡ Some file → ⊥
none_is_some file e = cc e

-- what was read of a file is a front of it
begins_now : (before file : List ℕ) → (0 < length before → FrontIn (Some file) before) → Begins before file
begins_now [] file so = record { rest = file; joined = refl }
begins_now (x ∷ before) file so =
    let front = so (omega arith) in
    subst (λ (f : List ℕ). Begins (x ∷ before) f) (sym (some_once file front.file front.is)) front.begins

begins_more : (before file filled : List ℕ) (count : ℕ) → (begins : Begins before file) → take count filled ≡ take count (drop (length before) file) → Begins (before ++ take count filled) file
begins_more before file filled count begins same =
    let piece : take count filled ≡ take count begins.rest =
    same ∙ ap (take count) (ap (drop (length before)) begins.joined ∙ drop_front before begins.rest) in
    record {
      rest = drop count begins.rest;
      joined = begins.joined ∙ (ap (λ (xs : List ℕ). before ++ xs) (sym (take-append-drop count begins.rest))
          ∙ (sym (append_assoc before (take count begins.rest) (drop count begins.rest))
          ∙ ap (λ (xs : List ℕ). (before ++ xs) ++ drop count begins.rest) (sym piece)));
    }

front_more : (found : Option (List ℕ)) (before buffer filled : List ℕ) (count : ℕ) → MatchOption found ⊥ (λ file. GivesAt file (length before) buffer count filled)
    → (0 < length before → FrontIn found before) → FrontIn found (before ++ take count filled)
front_more None before buffer filled count given so = absurd given
front_more (Some file) before buffer filled count given so = record {
  file = file;
  is = refl;
  begins = begins_more before file filled count (begins_now before file so) given.same;
}

not_before : (place size : ℕ) → (place < size → 0 < 0) → size ≤ place
not_before place size none = grind arith

nothing_behind : (before rest : List ℕ) → length (before ++ rest) ≤ length before → before ++ rest ≡ before
nothing_behind before [] short = append-nil before
nothing_behind before (x ∷ rest) short = let long = length-append before (x ∷ rest) in absurd (omega (arith, long, short))

found_ends : (found : Option (List ℕ)) (before buffer filled : List ℕ) → MatchOption found ⊥ (λ file. GivesAt file (length before) buffer 0 filled) → 0 < length buffer
    → (0 < length before → FrontIn found before) → found ≡ Some before
found_ends None before buffer filled given room so = absurd given
found_ends (Some file) before buffer filled given room so =
    let begins = begins_now before file so in
    let short : length file ≤ length before = not_before (length before) (length file) (λ early. given.some early room) in
    ap Some (begins.joined ∙ nothing_behind before begins.rest (subst (λ (f : List ℕ). length f ≤ length before) begins.joined short))

-- a read behind a front gives a longer one
pub reads_on : (contents : Option Files) (name before buffer filled : List ℕ) (count : ℕ) → ReadsAt contents name (length before) buffer count filled
    → (0 < length before → HasFront contents name before) → HasFront contents name (before ++ take count filled)
reads_on None name before buffer filled count read so = record {
  file = before ++ take count filled;
  is_file = tt;
  begins = record { rest = []; joined = sym (append-nil (before ++ take count filled)) };
}
reads_on (Some files) name before buffer filled count read so =
    let front = front_more (map.get files name) before buffer filled count read (λ some. let one = so some in record { file = one.file; is = one.is_file; begins = one.begins }) in
    record { file = front.file; is_file = front.is; begins = front.begins }

-- a read that gives nothing stands at the end
pub reads_end : (contents : Option Files) (name before buffer filled : List ℕ) → ReadsAt contents name (length before) buffer 0 filled → 0 < length buffer
    → (0 < length before → HasFront contents name before) → HasFile contents name before
reads_end None name before buffer filled read room so = tt
reads_end (Some files) name before buffer filled read room so =
    found_ends (map.get files name) before buffer filled read room (λ some. let one = so some in record { file = one.file; is = one.is_file; begins = one.begins })
