-- An audit finds one thing in a file.
use Rattle.std.proofs.Common.{◌≡◌, ℕ, ◌+◌, ◌≤◌, ◌⊎◌, inl, inr, Bool, List, [], ◌∷◌, ◌++◌, length, Some, refl, sym, ap, subst, ◌∙◌, arith, append_assoc, append-nil, length-append}
use Rattle.ghost_model.specs.core.Channel.{Catalog, Entry, Journal}
use Rattle.ghost_model.specs.core.Asks.{NumberedAsk}
use Rattle.ghost_model.specs.core.NextMove as next
use Rattle.ghost_model.specs.core.NextMove.{next_with, standing_after}
use Rattle.ghost_model.specs.core.Recorded.{Tells, EachTells, ended_line, all_lines, BeginsProperly, GoesOnWith, IsProperFile, IsWrongAt, IsNoLineAt, Finding, Proper, Wrong, NoLine, AuditFinds}
use Rattle.ghost_model.proofs.RecordedLemmas.Texts.{cut_once}
use Rattle.ghost_model.proofs.RecordedLemmas.Ends.{told_lacks, ended_rest}
use Rattle.ghost_model.proofs.RecordedLemmas.Once.{told_once}

-- a move of a journal that goes on is the next one of the moves before it
pub move_is_next : (catalog : Catalog) (at : List ℕ) (asks : List NumberedAsk) (before journal : Journal) (made : Entry) (later : Journal)
    → next.GoesOn catalog at asks before (journal ++ made ∷ later) → next_with catalog at asks (before ++ journal) ≡ Some made.move
move_is_next catalog at asks before [] made later goes = ap (next_with catalog at asks) (append-nil before) ∙ goes.0
move_is_next catalog at asks before (first ∷ journal) made later goes =
    ap (next_with catalog at asks) (sym (append_assoc before (first ∷ []) journal))
    ∙ move_is_next catalog at asks (before ++ first ∷ []) journal made later goes.1

-- two fronts of a file are the same
record Same (journal : Journal) (rest : List ℕ) (other : Journal) (tail : List ℕ) : Type 0 where
  pub journals : journal ≡ other
  pub rests : rest ≡ tail

-- behind a front of so many bytes a longer one, which has so many, goes on by a line
record Further (before : ℕ) (journal : Journal) (rest : List ℕ) (other : Journal) (most : ℕ) : Type 0 where
  pub made : Entry
  pub later : Journal
  pub goes : other ≡ journal ++ made ∷ later
  pub text : List ℕ
  pub behind : List ℕ
  pub tells : Tells text made
  pub begins : rest ≡ ended_line text ++ behind
  pub fits : before + length (ended_line text) ≤ most

abbrev Fronts : (texts : List (List ℕ)) (journal : Journal) (rest : List ℕ) (other : List (List ℕ)) (more : Journal) (tail : List ℕ) → Type 0
Fronts texts journal rest other more tail =
    Same journal rest more tail
    ⊎ (Further (length (all_lines texts)) journal rest more (length (all_lines other))
    ⊎ Further (length (all_lines other)) more tail journal (length (all_lines texts)))

-- bytes whose front is a line
line_first : (text : List ℕ) (texts : List (List ℕ)) (rest : List ℕ) → all_lines (text ∷ texts) ++ rest ≡ ended_line text ++ (all_lines texts ++ rest)
line_first text texts rest = append_assoc (ended_line text) (all_lines texts) rest

line_cut : (text : List ℕ) (texts : List (List ℕ)) (rest : List ℕ) → all_lines (text ∷ texts) ++ rest ≡ text ++ 10 ∷ (all_lines texts ++ rest)
line_cut text texts rest = line_first text texts rest ∙ sym (ended_rest text (all_lines texts ++ rest))

line_fits : (text : List ℕ) (texts : List (List ℕ)) → length (ended_line text) ≤ length (all_lines (text ∷ texts))
line_fits text texts = let long = length-append (ended_line text) (all_lines texts) in omega (arith, long)

-- one line more before both fronts
further_too : (text also : List ℕ) (texts others : List (List ℕ)) (made same : Entry) (journal other : Journal) (rest : List ℕ) → text ≡ also → made ≡ same
    → Further (length (all_lines texts)) journal rest other (length (all_lines others))
    → Further (length (all_lines (text ∷ texts))) (made ∷ journal) rest (same ∷ other) (length (all_lines (also ∷ others)))
further_too text also texts others made same journal other rest e f further = record {
  made = further.made;
  later = further.later;
  goes = ap (λ (xs : Journal). same ∷ xs) further.goes ∙ ap (λ (x : Entry). x ∷ (journal ++ further.made ∷ further.later)) (sym f);
  text = further.text;
  behind = further.behind;
  tells = further.tells;
  begins = further.begins;
  fits = (let one = length-append (ended_line text) (all_lines texts) in
      let two = length-append (ended_line also) (all_lines others) in
      let same_long = ap (λ (xs : List ℕ). length (ended_line xs)) e in
      let less = further.fits in
      omega (arith, one, two, same_long, less));
}

compared : (texts : List (List ℕ)) (journal : Journal) (rest : List ℕ) (other : List (List ℕ)) (more : Journal) (tail : List ℕ) → EachTells texts journal → EachTells other more
    → all_lines texts ++ rest ≡ all_lines other ++ tail → Fronts texts journal rest other more tail
compared [] [] rest [] [] tail each also e = inl (record { journals = refl; rests = e })
compared [] (_ ∷ _) rest other more tail each also e = absurd each
compared (_ ∷ _) [] rest other more tail each also e = absurd each
compared [] [] rest [] (_ ∷ _) tail each also e = absurd also
compared [] [] rest (_ ∷ _) [] tail each also e = absurd also
compared (_ ∷ _) (_ ∷ _) rest [] (_ ∷ _) tail each also e = absurd also
compared (_ ∷ _) (_ ∷ _) rest (_ ∷ _) [] tail each also e = absurd also
compared [] [] rest (text ∷ other) (made ∷ more) tail each also e =
    inr (inl (record {
      made = made;
      later = more;
      goes = refl;
      text = text;
      behind = all_lines other ++ tail;
      tells = also.0;
      begins = e ∙ line_first text other tail;
      fits = (let less = line_fits text other in omega (arith, less));
    }))
compared (text ∷ texts) (made ∷ journal) rest [] [] tail each also e =
    inr (inr (record {
      made = made;
      later = journal;
      goes = refl;
      text = text;
      behind = all_lines texts ++ rest;
      tells = each.0;
      begins = sym e ∙ line_first text texts rest;
      fits = (let less = line_fits text texts in omega (arith, less));
    }))
compared (text ∷ texts) (made ∷ journal) rest (line ∷ other) (entry ∷ more) tail each also e =
    let parts = cut_once 10 text (all_lines texts ++ rest) line (all_lines other ++ tail) (told_lacks text made each.0) (told_lacks line entry also.0)
    (sym (line_cut text texts rest) ∙ (e ∙ line_cut line other tail)) in
    let same : made ≡ entry = told_once line made entry (subst (λ (t : List ℕ). Tells t made) parts.0 each.0) also.0 in
    elim (compared texts journal rest other more tail each.1 also.1 parts.1) [
      | inl both ↦
          inl (record {
            journals = ap (λ (x : Entry). x ∷ journal) same ∙ ap (λ (xs : Journal). entry ∷ xs) both.journals;
            rests = both.rests;
          })
      | inr (inl further) ↦ inr (inl (further_too text line texts other made entry journal more rest parts.0 same further))
      | inr (inr further) ↦ inr (inr (further_too line text other texts entry made more journal tail (sym parts.0) (sym same) further))
    ]

-- behind such a front no line tells the next move
abbrev Stops : (catalog : Catalog) (asks : List NumberedAsk) (before : ℕ) (journal : Journal) (rest : List ℕ) → Type 0
Stops catalog asks before journal rest = (made : Entry) → GoesOnWith before rest made → next_with catalog [] asks journal ≡ Some made.move → ⊥

module _ (catalog : Catalog) (asks : List NumberedAsk) (file : List ℕ) where
  no_further : (journal : Journal) (rest : List ℕ) (one : BeginsProperly catalog asks file journal rest) (other : Journal) (tail : List ℕ) (two : BeginsProperly catalog asks file other tail)
      → Stops catalog asks (length (all_lines one.texts)) journal rest → Further (length (all_lines one.texts)) journal rest other (length (all_lines two.texts)) → ⊥
  no_further journal rest one other tail two stops further =
      stops further.made
      (record {
        text = further.text;
        later = further.behind;
        tells = further.tells;
        begins = further.begins;
        within = (let fits = further.fits in let limit = two.within in omega (arith, fits, limit));
      })
      (move_is_next catalog [] asks [] journal further.made further.later (subst (λ (xs : Journal). next.GoesOn catalog [] asks [] xs) further.goes two.proper))

  same_front : (journal : Journal) (rest : List ℕ) (one : BeginsProperly catalog asks file journal rest) (other : Journal) (tail : List ℕ) (two : BeginsProperly catalog asks file other tail)
      → Stops catalog asks (length (all_lines one.texts)) journal rest → Stops catalog asks (length (all_lines two.texts)) other tail → Same journal rest other tail
  same_front journal rest one other tail two stops also =
      elim (compared one.texts journal rest two.texts other tail one.tell two.tell (sym one.begins ∙ two.begins)) [
        | inl both ↦ both
        | inr (inl further) ↦ absurd (no_further journal rest one other tail two stops further)
        | inr (inr further) ↦ absurd (no_further other tail two journal rest one also further)
      ]

  nothing_goes_on : (before : ℕ) (made : Entry) → GoesOnWith before [] made → ⊥
  nothing_goes_on before made goes =
      let e = ap length goes.begins in
      let one = length-append (ended_line goes.text) goes.later in
      let two = length-append goes.text (10 ∷ []) in
      omega (arith, e, one, two)

  -- the rest of a file goes on by one line
  goes_on_once : (before among : ℕ) (rest : List ℕ) (made other : Entry) → GoesOnWith before rest made → GoesOnWith among rest other → made ≡ other
  goes_on_once before among rest made other one two =
      let parts = cut_once 10 one.text one.later two.text two.later (told_lacks one.text made one.tells) (told_lacks two.text other two.tells)
      (ended_rest one.text one.later ∙ (sym one.begins ∙ (two.begins ∙ sym (ended_rest two.text two.later)))) in
      told_once two.text made other (subst (λ (t : List ℕ). Tells t made) parts.0 one.tells) two.tells

  proper_stops : (moves : ℕ) (closed : Bool) (found : IsProperFile catalog asks file moves closed) → Stops catalog asks (length (all_lines found.whole.texts)) found.journal []
  proper_stops moves closed found made goes is = nothing_goes_on (length (all_lines found.whole.texts)) made goes

  wrong_stops : (at : ℕ) (found : IsWrongAt catalog asks file at) → Stops catalog asks (length (all_lines found.before.texts)) found.journal found.rest
  wrong_stops at found made goes is =
      found.wrong (is ∙ ap (λ (e : Entry). Some e.move) (sym (goes_on_once _ _ found.rest found.made made found.there goes)))

  no_line_stops : (at : ℕ) (found : IsNoLineAt catalog asks file at) → Stops catalog asks (length (all_lines found.before.texts)) found.journal found.rest
  no_line_stops at found made goes is = found.no_line made goes

  -- fronts with the same rest are as long
  as_long : (journal other : Journal) (rest tail : List ℕ) (one : BeginsProperly catalog asks file journal rest) (two : BeginsProperly catalog asks file other tail) → rest ≡ tail
      → length (all_lines one.texts) ≡ length (all_lines two.texts)
  as_long journal other rest tail one two same =
      let e = ap length (sym one.begins ∙ two.begins) in
      let a = length-append (all_lines one.texts) rest in
      let b = length-append (all_lines two.texts) tail in
      let c = ap length same in
      omega (arith, e, a, b, c)

  proper_or_wrong : (moves : ℕ) (closed : Bool) (at : ℕ) → IsProperFile catalog asks file moves closed → IsWrongAt catalog asks file at → ⊥
  proper_or_wrong moves closed at one two =
      let same = same_front one.journal [] one.whole two.journal two.rest two.before (proper_stops moves closed one) (wrong_stops at two) in
      nothing_goes_on (length (all_lines two.before.texts)) two.made
      (subst (λ (xs : List ℕ). GoesOnWith (length (all_lines two.before.texts)) xs two.made) (sym same.rests) two.there)

  proper_or_no_line : (moves : ℕ) (closed : Bool) (at : ℕ) → IsProperFile catalog asks file moves closed → IsNoLineAt catalog asks file at → ⊥
  proper_or_no_line moves closed at one two =
      let same = same_front one.journal [] one.whole two.journal two.rest two.before (proper_stops moves closed one) (no_line_stops at two) in
      let e = ap length same.rests in
      let some = two.some in
      omega (arith, e, some)

  wrong_or_no_line : (at place : ℕ) → IsWrongAt catalog asks file at → IsNoLineAt catalog asks file place → ⊥
  wrong_or_no_line at place one two =
      let same = same_front one.journal one.rest one.before two.journal two.rest two.before (wrong_stops at one) (no_line_stops place two) in
      let long = as_long one.journal two.journal one.rest two.rest one.before two.before same.rests in
      two.no_line one.made
      (subst (λ (n : ℕ). GoesOnWith n two.rest one.made) long
      (subst (λ (xs : List ℕ). GoesOnWith (length (all_lines one.before.texts)) xs one.made) same.rests one.there))

  pub one_finding : (one other : Finding) → AuditFinds catalog asks file one → AuditFinds catalog asks file other → one ≡ other
  one_finding (Proper moves closed) (Proper number ends) a b =
      let same = same_front a.journal [] a.whole b.journal [] b.whole (proper_stops moves closed a) (proper_stops number ends b) in
      let counted : moves ≡ number = a.counted ∙ (ap length same.journals ∙ sym b.counted) in
      let shut : closed ≡ ends = a.ends ∙ (ap (λ (j : Journal). (standing_after catalog asks j).closed) same.journals ∙ sym b.ends) in
      ap (λ (n : ℕ). Proper n closed) counted ∙ ap (Proper number) shut
  one_finding (Proper moves closed) (Wrong at) a b = absurd (proper_or_wrong moves closed at a b)
  one_finding (Proper moves closed) (NoLine at) a b = absurd (proper_or_no_line moves closed at a b)
  one_finding (Wrong at) (Proper moves closed) a b = absurd (proper_or_wrong moves closed at b a)
  one_finding (Wrong at) (Wrong place) a b =
      let same = same_front a.journal a.rest a.before b.journal b.rest b.before (wrong_stops at a) (wrong_stops place b) in
      ap Wrong (a.place ∙ (ap (λ (j : Journal). length j + 1) same.journals ∙ sym b.place))
  one_finding (Wrong at) (NoLine place) a b = absurd (wrong_or_no_line at place a b)
  one_finding (NoLine at) (Proper moves closed) a b = absurd (proper_or_no_line moves closed at b a)
  one_finding (NoLine at) (Wrong place) a b = absurd (wrong_or_no_line place at b a)
  one_finding (NoLine at) (NoLine place) a b =
      let same = same_front a.journal a.rest a.before b.journal b.rest b.before (no_line_stops at a) (no_line_stops place b) in
      ap NoLine (a.place ∙ (ap (λ (j : Journal). length j + 1) same.journals ∙ sym b.place))
