-- A union more: what is in all unions, and what one of the cursors of the last one has.
use Rattle.std.proofs.Common.{◌≡◌, ◌∙◌, ℕ, ◌+◌, ◌-◌, ◌<◌, ◌≤◌, inl, inr, List, [], ◌∷◌, ◌++◌, length, sum, ap, sym, refl, subst, arith}
use Rattle.std.proofs.lemmas.Bool.{cases_lt}
use Rattle.std.proofs.lemmas.List.{length-append, take-append-le, take_all, get_or_append_left, get_or-append_right, get_or-append-add}
use Rattle.std.proofs.lemmas.List.Sums.{sum_by-append, sum_by-cons}
use Rattle.id_merge.specs.declared.cursor.Cursor.{Cursor}
use Rattle.id_merge.specs.declared.cursor.Cursor.TheVariants.{Range}
use Rattle.id_merge.specs.declared.merge.Merge.{Merge}
use Rattle.id_merge.specs.Cursors.{HasAhead}
use Rattle.id_merge.specs.Merges.{InAll, InUnion, Remains, start_of}
use Rattle.id_merge.proofs.Rounds.{start_within}
use Rattle.candidate_lists.specs.Opens.{AnyAhead}

plain : (n : ℕ) → n + 0 ≡ n
plain n = omega arith

pub sum_more : (unions : List ℕ) (n : ℕ) → sum (unions ++ n ∷ []) ≡ sum unions + n
sum_more unions n = sum_by-append (λ (k : ℕ). k) unions (n ∷ []) ∙ ap (λ k. sum unions + k) (sum_by-cons (λ (k : ℕ). k) n [] ∙ plain n)

-- the unions before the last one begin where they began
start_before : (unions : List ℕ) (n j : ℕ) → j ≤ length unions → start_of (unions ++ n ∷ []) j ≡ start_of unions j
start_before unions n j within = ap (λ us. sum us) (take-append-le j unions (n ∷ []) within)

start_all : (unions : List ℕ) → start_of unions (length unions) ≡ sum unions
start_all unions = ap (λ us. sum us) (take_all (length unions) unions (omega arith))

pub start_end : (unions : List ℕ) (n : ℕ) → start_of (unions ++ n ∷ []) (length unions + 1) ≡ sum unions + n
start_end unions n =
    ap (λ us. sum us) (take_all (length unions + 1) (unions ++ n ∷ []) (omega (arith, length-append unions (n ∷ [])))) ∙ sum_more unions n

in_front :
    (page : ℕ → List ℕ) (cursors more : List Cursor) (unions : List ℕ) (n id : ℕ) → sum unions ≡ length cursors
    → InAll page (cursors ++ more) (unions ++ n ∷ []) id → InAll page cursors unions id
in_front page cursors more unions n id sums all = λ j within.
    let was = all j (omega (arith, within, length-append unions (n ∷ []))) in
    let high : was.at < start_of unions (j + 1) = omega (arith, was.high, start_before unions n (j + 1) (omega (arith, within))) in
    let Q : Cursor → Type 0 = λ cursor. HasAhead page cursor id in
    record {
      at = was.at;
      low = omega (arith, was.low, start_before unions n j (omega (arith, within)));
      high = high;
      has = subst Q (get_or_append_left cursors more (Range 1 0) was.at (omega (arith, high, start_within unions (j + 1), sums))) was.has;
    }

in_last :
    (page : ℕ → List ℕ) (cursors more : List Cursor) (unions : List ℕ) (n id : ℕ) → sum unions ≡ length cursors → length more ≡ n
    → InAll page (cursors ++ more) (unions ++ n ∷ []) id → AnyAhead page more id
in_last page cursors more unions n id sums count all =
    let was = all (length unions) (omega (arith, length-append unions (n ∷ []))) in
    let low : length cursors ≤ was.at = omega (arith, was.low, start_before unions n (length unions) (omega arith), start_all unions, sums) in
    let high : was.at < length cursors + n = omega (arith, was.high, start_end unions n, sums) in
    let Q : Cursor → Type 0 = λ cursor. HasAhead page cursor id in
    record {
      at = was.at - length cursors;
      within = omega (arith, low, high, count);
      has = subst Q (get_or-append_right cursors more (length cursors) was.at (Range 1 0) refl low) was.has;
    }

in_both :
    (page : ℕ → List ℕ) (cursors more : List Cursor) (unions : List ℕ) (n id : ℕ) → sum unions ≡ length cursors → length more ≡ n
    → InAll page cursors unions id → AnyAhead page more id → InAll page (cursors ++ more) (unions ++ n ∷ []) id
in_both page cursors more unions n id sums count all any = λ j within.
    let Q : Cursor → Type 0 = λ cursor. HasAhead page cursor id in
    elim (cases_lt j (length unions)) [
      | inl before ↦
          let was = all j before in
          record {
            at = was.at;
            low = omega (arith, was.low, start_before unions n j (omega (arith, before)));
            high = omega (arith, was.high, start_before unions n (j + 1) (omega (arith, before)));
            has = subst Q (sym (get_or_append_left cursors more (Range 1 0) was.at (omega (arith, was.high, start_within unions (j + 1), sums)))) was.has;
          }
      | inr behind ↦
          let here : length unions ≡ j = omega (arith, behind, within, length-append unions (n ∷ [])) in
          let P : ℕ → Type 0 = λ k. InUnion page (cursors ++ more) (start_of (unions ++ n ∷ []) k) (start_of (unions ++ n ∷ []) (k + 1)) id in
          subst P here (record {
            at = length cursors + any.at;
            low = omega (arith, start_before unions n (length unions) (omega arith), start_all unions, sums);
            high = omega (arith, any.within, count, start_end unions n, sums);
            has = subst Q (sym (get_or-append-add cursors more any.at (Range 1 0))) any.has;
          })
    ]

-- a merge has a union of some cursors more
pub record Joined (old new : Merge) (more : List Cursor) : Type 0 where
  pub cursors : new.cursors.items ≡ old.cursors.items ++ more
  pub unions : new.unions.items ≡ old.unions.items ++ length more ∷ []
  pub begins : old.last ≡ 0
  pub still : new.last ≡ 0
  pub sums : sum old.unions.items ≡ length old.cursors.items

pub joined_from :
    (page : ℕ → List ℕ) (old new : Merge) (more : List Cursor) (id : ℕ) → Joined old new more → Remains page new id
    → Remains page old id × AnyAhead page more id
joined_from page old new more id is remains =
    let P : List Cursor → Type 0 = λ cs. InAll page cs new.unions.items id in
    let Q : List ℕ → Type 0 = λ us. InAll page (old.cursors.items ++ more) us id in
    let all = subst Q is.unions (subst P is.cursors remains.all) in (
      record {
        above = omega (arith, remains.above, is.begins, is.still);
        small = remains.small;
        all = in_front page old.cursors.items more old.unions.items (length more) id is.sums all;
      },
      in_last page old.cursors.items more old.unions.items (length more) id is.sums refl all,
    )

pub joined_to :
    (page : ℕ → List ℕ) (old new : Merge) (more : List Cursor) (id : ℕ) → Joined old new more → Remains page old id
    → AnyAhead page more id → Remains page new id
joined_to page old new more id is remains any =
    let P : List Cursor → Type 0 = λ cs. InAll page cs new.unions.items id in
    let Q : List ℕ → Type 0 = λ us. InAll page (old.cursors.items ++ more) us id in
    record {
      above = omega (arith, remains.above, is.begins, is.still);
      small = remains.small;
      all =
          subst P (sym is.cursors)
          (subst Q (sym is.unions) (in_both page old.cursors.items more old.unions.items (length more) id is.sums refl remains.all any));
    }
