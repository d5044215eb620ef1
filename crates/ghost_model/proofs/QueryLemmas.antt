-- The grammar of query texts by its places: a step tells what was read (`step_before`), and the places lead along the
-- spelling of each tree to its end (`leads`).
use Rattle.std.proofs.Common.{◌≡◌, ℕ, Bool, true, false, List, [], ◌∷◌, ◌++◌, map, length, slice_get, Option, Some, None, Result, Ok, Err, option_map, option_and_then, IfSome, flat_map, ◌⊎◌, inl, inr, refl, sym, ap, ap₂, subst, ◌∙◌, append_assoc, append-nil}
use Rattle.std.proofs.lemmas.List.{map-append}
use Rattle.std.specs.List.{list_all}
use Rattle.ghost_model.specs.core.Query as query
use Rattle.ghost_model.specs.core.Query.{Operator}
use Rattle.ghost_model.specs.refusals.Tokens.{Token, tokens, symbol_of, symbols, offset_of, Symbol, Word, Name, Digits, Quoted, Open, Closing, Comma, Point, Star, PlusSign, MinusSign, EqualSign, UnequalSign, LessSign, AtMostSign, MoreSign, AtLeastSign, EndOfText, SelectWord, FromWord, WhereWord, AndWord, BetweenWord, IsWord, NotWord, NullWord, InWord, OrWord}
use Rattle.ghost_model.specs.refusals.Grammar.{Spells, IsSyntaxFault, separated}
use Rattle.ghost_model.specs.readings.Begun.{begun}
use Rattle.ghost_model.specs.laws.Spelled.{is_spelled, is_name}
use Rattle.ghost_model.specs.refusals.QueryGrammar.{ColumnText, Bare, Qualified, Sign, Positive, Negative, LiteralText, Unsigned, Signed, Written, MemberText, Compares, TestsNull, IsIn, ConditionText, Alone, AnyOf, LiesBetween, Joins, Selection, All, Columns, QueryText, spell_column, spell_sign, spell_operator, spell_literal, spell_not, spell_member, spell_condition, spell_table, spell_selection, spell_where, spelling}
use Rattle.ghost_model.specs.readings.QueryPlaces.{ColumnPart, WantsColumn, HasTablePoint, HasColumn, MemberPart, WantsLeft, HasLeftPoint, HasLeft, HasOperator, HasSign, HasIs, HasIn, WantsListed, HasListedSign, HasListed, MemberStep, GoesOn, IsWhole, ConditionPart, InMember, InGroup, HasGrouped, HasRightPoint, WantsLow, HasLowSign, HasLow, WantsHigh, HasHighSign, HasCondition, QueryPlace, Start, HasStar, InSelect, WantsTable, HasTable, InWhere, Whole, first_item, other_items, selection_of, query_text, in_column, in_member, in_condition, before, alone, grouped, group_text, step_in_column, step_in_member, step_alone, step_in_condition, step_in_select, step_in_where, step, whole_text, read_from, syntax_of}
use Rattle.ghost_model.specs.laws.QueryLaws.{IsStuck}
use Rattle.ghost_model.proofs.TokenLemmas.{before_end}
use Rattle.ghost_model.proofs.GrammarLemmas.{front, final, front_final, begun_before, more_begun, separated_made, spelled_both, spelled_parts, no_end_inside, spelled_front, viable_front, run, run-append, run_on, run_within, dead_after, fault_after, no_fault, one_fault}

-- a step adds its symbol to what was read
column_step : (symbol : Symbol) (part : ColumnPart)
    → IfSome (step_in_column symbol part) (λ next. in_column next ≡ in_column part ++ symbol ∷ [])
column_step (Name name) WantsColumn = refl
column_step (Name name) (HasTablePoint table) = refl
column_step Point (HasColumn (Bare name)) = refl
column_step _ _ = tt

-- where a member goes on or is whole, these symbols stand before
in_step : MemberStep → List Symbol
in_step (GoesOn part) = in_member part
in_step (IsWhole member) = spell_member member

member_step : (symbol : Symbol) (part : MemberPart)
    → IfSome (step_in_member symbol part) (λ next. in_step next ≡ in_member part ++ symbol ∷ [])
unfolding in_step
member_step (Name name) WantsLeft = refl
member_step (Name name) (HasLeftPoint table) = refl
member_step Point (HasLeft (Bare name)) = refl
member_step EqualSign (HasLeft column) = refl
member_step UnequalSign (HasLeft column) = refl
member_step LessSign (HasLeft column) = refl
member_step AtMostSign (HasLeft column) = refl
member_step MoreSign (HasLeft column) = refl
member_step AtLeastSign (HasLeft column) = refl
member_step (Word IsWord) (HasLeft column) = refl
member_step (Word InWord) (HasLeft column) = refl
member_step (Word NotWord) (HasIs column false) = sym (append_assoc (spell_column column) _ _)
member_step (Word NullWord) (HasIs column negated) = sym (append_assoc (spell_column column) _ _)
member_step PlusSign (HasOperator column operator) = sym (append_assoc (spell_column column) _ _)
member_step MinusSign (HasOperator column operator) = sym (append_assoc (spell_column column) _ _)
member_step (Digits digits) (HasOperator column operator) = sym (append_assoc (spell_column column) _ _)
member_step (Quoted text) (HasOperator column operator) = sym (append_assoc (spell_column column) _ _)
member_step (Digits digits) (HasSign column operator sign) = sym (append_assoc (spell_column column) _ _)
member_step Open (HasIn column) = sym (append_assoc (spell_column column) _ _)
member_step PlusSign (WantsListed column earlier) = sym (append_assoc (spell_column column) _ _)
member_step MinusSign (WantsListed column earlier) = sym (append_assoc (spell_column column) _ _)
member_step (Digits digits) (WantsListed column earlier) = sym (append_assoc (spell_column column) _ _)
member_step (Quoted text) (WantsListed column earlier) = sym (append_assoc (spell_column column) _ _)
member_step (Digits digits) (HasListedSign column earlier sign) = simp append_assoc
member_step Comma (HasListed column earlier last) =
    ap (λ rest. spell_column column ++ (Word InWord ∷ Open ∷ rest))
    (sym (more_begun Comma spell_literal earlier last) ∙ sym (append_assoc (begun Comma spell_literal earlier) _ _))
    ∙ sym (append_assoc (spell_column column) _ _)
member_step Closing (HasListed column earlier last) =
    ap (λ rest. spell_column column ++ (Word InWord ∷ Open ∷ (rest ++ Closing ∷ []))) (sym (separated_made Comma spell_literal earlier last))
    ∙ sym (append_assoc (spell_column column) _ _)
member_step _ _ = tt

alone_made : (symbol : Symbol) (part : MemberPart) (o : Option MemberStep)
    → IfSome o (λ next. in_step next ≡ in_member part ++ symbol ∷ [])
    → IfSome (option_map alone o) (λ next. in_condition next ≡ in_member part ++ symbol ∷ [])
unfolding in_step
alone_made symbol part None adds = tt
alone_made symbol part (Some (GoesOn next)) adds = adds
alone_made symbol part (Some (IsWhole member)) adds = adds

alone_step : (symbol : Symbol) (part : MemberPart)
    → IfSome (step_alone symbol part) (λ next. in_condition next ≡ in_member part ++ symbol ∷ [])
alone_step Open WantsLeft = refl
alone_step (Word BetweenWord) (HasLeft column) = refl
alone_step (Name name) (HasOperator column query.Equal) = sym (append_assoc (spell_column column) _ _)
alone_step symbol part = alone_made symbol part (step_in_member symbol part) (member_step symbol part)

-- in a group
in_group : List MemberText → List Symbol → List Symbol
in_group earlier rest = Open ∷ (begun (Word OrWord) spell_member earlier ++ rest)

in_group_more : (earlier : List MemberText) (rest last : List Symbol) → in_group earlier (rest ++ last) ≡ in_group earlier rest ++ last
unfolding in_group
in_group_more earlier rest last = ap (λ all. Open ∷ all) (sym (append_assoc (begun (Word OrWord) spell_member earlier) rest last))

group_step : (symbol : Symbol) (part : MemberPart) (earlier : List MemberText) (o : Option MemberStep)
    → IfSome o (λ next. in_step next ≡ in_member part ++ symbol ∷ [])
    → IfSome (option_map (grouped earlier) o) (λ next. in_condition next ≡ in_condition (InGroup earlier part) ++ symbol ∷ [])
unfolding in_step in_group
group_step symbol part earlier None adds = tt
group_step symbol part earlier (Some (GoesOn next)) adds =
    ap (in_group earlier) adds ∙ in_group_more earlier (in_member part) (symbol ∷ [])
group_step symbol part earlier (Some (IsWhole member)) adds =
    ap (in_group earlier) adds ∙ in_group_more earlier (in_member part) (symbol ∷ [])

group_closes : (earlier : List MemberText) (last : MemberText)
    → IfSome (group_text earlier last) (λ next. in_condition next ≡ in_condition (HasGrouped earlier last) ++ Closing ∷ [])
group_closes [] last = tt
group_closes (first ∷ []) last =
    ap (λ rest. Open ∷ (rest ++ Closing ∷ [])) (sym (separated_made (Word OrWord) spell_member (first ∷ []) last))
group_closes (first ∷ second ∷ earlier) last =
    ap (λ rest. Open ∷ (rest ++ Closing ∷ [])) (sym (separated_made (Word OrWord) spell_member (first ∷ second ∷ earlier) last))

condition_step : (symbol : Symbol) (part : ConditionPart)
    → IfSome (step_in_condition symbol part) (λ next. in_condition next ≡ in_condition part ++ symbol ∷ [])
condition_step symbol (InMember part) = alone_step symbol part
condition_step symbol (InGroup earlier part) = group_step symbol part earlier (step_in_member symbol part) (member_step symbol part)
condition_step (Word OrWord) (HasGrouped earlier member) =
    ap (λ rest. Open ∷ rest)
    (append-nil _ ∙ sym (more_begun (Word OrWord) spell_member earlier member)
    ∙ sym (append_assoc (begun (Word OrWord) spell_member earlier) _ _))
condition_step Closing (HasGrouped earlier member) = group_closes earlier member
condition_step Point (HasCondition (Joins left (Bare table))) = sym (append_assoc (spell_column left) _ _)
condition_step (Name name) (HasRightPoint left table) = sym (append_assoc (spell_column left) _ _)
condition_step PlusSign (WantsLow column) = sym (append_assoc (spell_column column) _ _)
condition_step MinusSign (WantsLow column) = sym (append_assoc (spell_column column) _ _)
condition_step (Digits digits) (WantsLow column) = sym (append_assoc (spell_column column) _ _)
condition_step (Quoted text) (WantsLow column) = sym (append_assoc (spell_column column) _ _)
condition_step (Digits digits) (HasLowSign column sign) = sym (append_assoc (spell_column column) _ _)
condition_step (Word AndWord) (HasLow column low) = sym (append_assoc (spell_column column) _ _)
condition_step PlusSign (WantsHigh column low) = simp append_assoc
condition_step MinusSign (WantsHigh column low) = simp append_assoc
condition_step (Digits digits) (WantsHigh column low) = simp append_assoc
condition_step (Quoted text) (WantsHigh column low) = simp append_assoc
condition_step (Digits digits) (HasHighSign column low sign) = simp append_assoc
condition_step _ _ = tt

from_some : {X : Type 0} (P : X → Type 0) (o : Option X) (x : X) → IfSome o P → o ≡ Some x → P x
from_some P None x holds is = absurd (cc)
from_some P (Some y) x holds is = let same : y ≡ x = cc in subst P same holds

-- inside the select list and after WHERE the symbols before the part at hand stay as they are
in_select : (earlier : List ColumnText) (symbol : Symbol) (part : ColumnPart) (o : Option ColumnPart)
    → IfSome o (λ next. in_column next ≡ in_column part ++ symbol ∷ [])
    → IfSome (option_map (InSelect earlier) o) (λ next. before next ≡ before (InSelect earlier part) ++ symbol ∷ [])
in_select earlier symbol part None adds = tt
in_select earlier symbol part (Some next) adds =
    ap (λ rest. Word SelectWord ∷ (begun Comma spell_column earlier ++ rest)) adds
    ∙ ap (λ rest. Word SelectWord ∷ rest) (sym (append_assoc (begun Comma spell_column earlier) _ _))

select_step : (symbol : Symbol) (part : ColumnPart) (earlier : List ColumnText)
    → IfSome (step_in_select symbol part earlier) (λ next. before next ≡ before (InSelect earlier part) ++ symbol ∷ [])
select_step Star WantsColumn [] = refl
select_step Comma (HasColumn column) earlier =
    ap (λ rest. Word SelectWord ∷ rest)
    (append-nil _ ∙ sym (more_begun Comma spell_column earlier column) ∙ sym (append_assoc (begun Comma spell_column earlier) _ _))
select_step (Word FromWord) (HasColumn column) earlier =
    ap (λ rest. Word SelectWord ∷ (rest ++ Word FromWord ∷ [])) (sym (separated_made Comma spell_column earlier column))
select_step symbol part earlier = in_select earlier symbol part (step_in_column symbol part) (column_step symbol part)

-- what stands before the conditions
with_conditions : Selection → List ℕ → List (List ℕ) → List Symbol → List Symbol
with_conditions selection table more rest =
    Word SelectWord ∷ (spell_selection selection ++ (Word FromWord ∷ (separated Comma spell_table table more ++ rest)))

with_conditions_more : (selection : Selection) (table : List ℕ) (more : List (List ℕ)) (rest last : List Symbol)
    → with_conditions selection table more (rest ++ last) ≡ with_conditions selection table more rest ++ last
unfolding with_conditions
with_conditions_more selection table more rest last = simp append_assoc

in_where : (selection : Selection) (table : List ℕ) (more : List (List ℕ)) (earlier : List ConditionText) (symbol : Symbol)
    (part : ConditionPart) (o : Option ConditionPart)
    → IfSome o (λ next. in_condition next ≡ in_condition part ++ symbol ∷ [])
    → IfSome (option_map (InWhere selection table more earlier) o)
    (λ next. before next ≡ before (InWhere selection table more earlier part) ++ symbol ∷ [])
unfolding with_conditions
in_where selection table more earlier symbol part None adds = tt
in_where selection table more earlier symbol part (Some next) adds =
    ap (λ rest. with_conditions selection table more (Word WhereWord ∷ (begun (Word AndWord) spell_condition earlier ++ rest))) adds
    ∙ ap (λ rest. with_conditions selection table more (Word WhereWord ∷ rest)) (sym (append_assoc (begun (Word AndWord) spell_condition earlier) _ _))
    ∙ with_conditions_more selection table more (Word WhereWord ∷ (begun (Word AndWord) spell_condition earlier ++ in_condition part)) (symbol ∷ [])

where_made : (earlier : List ConditionText) (last : ConditionText)
    → Word WhereWord ∷ (begun (Word AndWord) spell_condition earlier ++ spell_condition last) ≡ spell_where (earlier ++ last ∷ [])
where_made [] last = ap (λ rest. Word WhereWord ∷ rest) (separated_made (Word AndWord) spell_condition [] last)
where_made (first ∷ earlier) last = ap (λ rest. Word WhereWord ∷ rest) (separated_made (Word AndWord) spell_condition (first ∷ earlier) last)

where_step : (symbol : Symbol) (part : ConditionPart) (selection : Selection) (table : List ℕ) (more : List (List ℕ))
    (earlier : List ConditionText)
    → IfSome (step_in_where symbol part selection table more earlier)
    (λ next. before next ≡ before (InWhere selection table more earlier part) ++ symbol ∷ [])
unfolding with_conditions
where_step (Word AndWord) (HasCondition condition) selection table more earlier =
    ap (λ rest. with_conditions selection table more (Word WhereWord ∷ rest))
    (append-nil _ ∙ sym (more_begun (Word AndWord) spell_condition earlier condition)
    ∙ sym (append_assoc (begun (Word AndWord) spell_condition earlier) _ _))
    ∙ with_conditions_more selection table more (Word WhereWord ∷ (begun (Word AndWord) spell_condition earlier ++ spell_condition condition)) (Word AndWord ∷ [])
where_step EndOfText (HasCondition condition) selection table more earlier =
    ap (λ rest. with_conditions selection table more (rest ++ EndOfText ∷ [])) (sym (where_made earlier condition))
    ∙ with_conditions_more selection table more (Word WhereWord ∷ (begun (Word AndWord) spell_condition earlier ++ spell_condition condition)) (EndOfText ∷ [])
where_step symbol part selection table more earlier =
    in_where selection table more earlier symbol part (step_in_condition symbol part) (condition_step symbol part)

-- what stands before the tables
with_tables : Selection → List Symbol → List Symbol
with_tables selection rest = Word SelectWord ∷ (spell_selection selection ++ (Word FromWord ∷ rest))

with_tables_more : (selection : Selection) (rest last : List Symbol)
    → with_tables selection (rest ++ last) ≡ with_tables selection rest ++ last
unfolding with_tables
with_tables_more selection rest last = simp append_assoc

place_step : (place : QueryPlace) (symbol : Symbol) → IfSome (step place symbol) (λ next. before next ≡ before place ++ symbol ∷ [])
unfolding with_tables
place_step Start (Word SelectWord) = refl
place_step HasStar (Word FromWord) = refl
place_step (InSelect earlier part) symbol = select_step symbol part earlier
place_step (WantsTable selection earlier) (Name table) = with_tables_more selection (begun Comma spell_table earlier) (Name table ∷ [])
place_step (HasTable selection earlier table) Comma =
    ap (with_tables selection) (sym (more_begun Comma spell_table earlier table) ∙ sym (append_assoc (begun Comma spell_table earlier) _ _))
    ∙ with_tables_more selection (begun Comma spell_table earlier ++ spell_table table) (Comma ∷ [])
place_step (HasTable selection earlier table) (Word WhereWord) =
    ap (λ rest. with_tables selection (rest ++ Word WhereWord ∷ [])) (sym (separated_made Comma spell_table earlier table))
    ∙ with_tables_more selection (begun Comma spell_table earlier ++ spell_table table) (Word WhereWord ∷ [])
place_step (HasTable selection earlier table) EndOfText =
    ap (λ rest. with_tables selection (rest ++ EndOfText ∷ [])) (sym (separated_made Comma spell_table earlier table))
    ∙ with_tables_more selection (begun Comma spell_table earlier ++ spell_table table) (EndOfText ∷ [])
place_step (InWhere selection table more earlier part) symbol = where_step symbol part selection table more earlier
place_step _ _ = tt

step_before : (place : QueryPlace) (symbol : Symbol) (next : QueryPlace) → step place symbol ≡ Some next → before next ≡ before place ++ symbol ∷ []
step_before place symbol next leads =
    from_some (λ next. before next ≡ before place ++ symbol ∷ []) (step place symbol) next (place_step place symbol) leads

-- following symbols adds them to what was read
pub run_before : (place : QueryPlace) (xs : List Symbol) (last : QueryPlace) → run step place xs ≡ Some last → before last ≡ before place ++ xs
run_before place [] last leads = let same : place ≡ last = cc in sym (ap before same) ∙ sym (append-nil (before place))
run_before place (symbol ∷ xs) last leads = elim (step place symbol) as (λ o. step place symbol ≡ o → option_and_then (λ next. run step next xs) o ≡ Some last → before last ≡ before place ++ (symbol ∷ xs)) [
  | None ↦ (λ is leads. absurd (cc))
  | Some next ↦ (λ is leads.
      run_before next xs last leads ∙ ap (λ read. read ++ xs) (step_before place symbol next is) ∙ append_assoc (before place) (symbol ∷ []) xs)
] refl leads

-- the first of one or more items and the others, from those before the last one and the last one
first_back : {X : Type 0} (x : X) (xs : List X) → first_item (front x xs) (final x xs) ≡ x
first_back x [] = refl
first_back x (y ∷ ys) = refl

others_back : {X : Type 0} (x : X) (xs : List X) → other_items (front x xs) (final x xs) ≡ xs
others_back x [] = refl
others_back x (y ∷ ys) = front_final y ys

-- the places lead along what each part of a tree is spelled by
column_run : (done : List ColumnText) (column : ColumnText) (rest : List Symbol)
    → run step (InSelect done WantsColumn) (spell_column column ++ rest) ≡ run step (InSelect done (HasColumn column)) rest
column_run done (Bare name) rest = refl
column_run done (Qualified table name) rest = refl

columns_run : (done : List ColumnText) (x : ColumnText) (xs : List ColumnText) (rest : List Symbol)
    → run step (InSelect done (HasColumn x)) (flat_map (λ other. Comma ∷ spell_column other) xs ++ rest)
    ≡ run step (InSelect (done ++ front x xs) (HasColumn (final x xs))) rest
columns_run done x [] rest = ap (λ d. run step (InSelect d (HasColumn x)) rest) (sym (append-nil done))
columns_run done x (y ∷ ys) rest =
    ap (run step (InSelect (done ++ x ∷ []) WantsColumn)) (append_assoc (spell_column y) _ rest)
    ∙ column_run (done ++ x ∷ []) y _
    ∙ columns_run (done ++ x ∷ []) y ys rest
    ∙ ap (λ d. run step (InSelect d (HasColumn (final y ys))) rest) (append_assoc done (x ∷ []) _)

selection_run : (selection : Selection) (rest : List Symbol)
    → run step Start (with_tables selection rest) ≡ run step (WantsTable selection []) rest
unfolding with_tables
selection_run All rest = refl
selection_run (Columns x xs) rest =
    ap (run step (InSelect [] WantsColumn)) (append_assoc (spell_column x) _ (Word FromWord ∷ rest))
    ∙ column_run [] x _
    ∙ columns_run [] x xs (Word FromWord ∷ rest)
    ∙ ap₂ (λ first others. run step (WantsTable (Columns first others) []) rest) (first_back x xs) (others_back x xs)

tables_run : (selection : Selection) (done : List (List ℕ)) (x : List ℕ) (xs : List (List ℕ)) (rest : List Symbol)
    → run step (HasTable selection done x) (flat_map (λ other. Comma ∷ spell_table other) xs ++ rest)
    ≡ run step (HasTable selection (done ++ front x xs) (final x xs)) rest
tables_run selection done x [] rest = ap (λ d. run step (HasTable selection d x) rest) (sym (append-nil done))
tables_run selection done x (y ∷ ys) rest =
    tables_run selection (done ++ x ∷ []) y ys rest
    ∙ ap (λ d. run step (HasTable selection d (final y ys)) rest) (append_assoc done (x ∷ []) _)

-- reading inside a member, and inside a condition
read_member : MemberStep → Symbol → Option MemberStep
read_member (GoesOn part) symbol = step_in_member symbol part
read_member (IsWhole member) symbol = None

read_condition : ConditionPart → Symbol → Option ConditionPart
read_condition part symbol = step_in_condition symbol part

left_run : (column : ColumnText) (rest : List Symbol)
    → run read_member (GoesOn WantsLeft) (spell_column column ++ rest) ≡ run read_member (GoesOn (HasLeft column)) rest
unfolding read_member
left_run (Bare name) rest = refl
left_run (Qualified from name) rest = refl

operator_run : (column : ColumnText) (operator : Operator) (rest : List Symbol)
    → run read_member (GoesOn (HasLeft column)) (spell_operator operator ∷ rest) ≡ run read_member (GoesOn (HasOperator column operator)) rest
unfolding read_member
operator_run column query.Equal rest = refl
operator_run column query.Unequal rest = refl
operator_run column query.Less rest = refl
operator_run column query.AtMost rest = refl
operator_run column query.More rest = refl
operator_run column query.AtLeast rest = refl

literal_run : (column : ColumnText) (operator : Operator) (literal : LiteralText)
    → run read_member (GoesOn (HasOperator column operator)) (spell_literal literal) ≡ Some (IsWhole (Compares column operator literal))
unfolding read_member
literal_run column operator (Unsigned digits) = refl
literal_run column operator (Signed Positive digits) = refl
literal_run column operator (Signed Negative digits) = refl
literal_run column operator (Written text) = refl

null_run : (column : ColumnText) (negated : Bool)
    → run read_member (GoesOn (HasIs column false)) (spell_not negated ++ (Word NullWord ∷ [])) ≡ Some (IsWhole (TestsNull column negated))
unfolding read_member
null_run column false = refl
null_run column true = refl

listed_run : (column : ColumnText) (done : List LiteralText) (literal : LiteralText) (rest : List Symbol)
    → run read_member (GoesOn (WantsListed column done)) (spell_literal literal ++ rest) ≡ run read_member (GoesOn (HasListed column done literal)) rest
unfolding read_member
listed_run column done (Unsigned digits) rest = refl
listed_run column done (Signed Positive digits) rest = refl
listed_run column done (Signed Negative digits) rest = refl
listed_run column done (Written text) rest = refl

list_run : (column : ColumnText) (done : List LiteralText) (x : LiteralText) (xs : List LiteralText) (rest : List Symbol)
    → run read_member (GoesOn (HasListed column done x)) (flat_map (λ other. Comma ∷ spell_literal other) xs ++ rest)
    ≡ run read_member (GoesOn (HasListed column (done ++ front x xs) (final x xs))) rest
unfolding read_member
list_run column done x [] rest = ap (λ d. run read_member (GoesOn (HasListed column d x)) rest) (sym (append-nil done))
list_run column done x (y ∷ ys) rest =
    ap (run read_member (GoesOn (WantsListed column (done ++ x ∷ [])))) (append_assoc (spell_literal y) _ rest)
    ∙ listed_run column (done ++ x ∷ []) y _
    ∙ list_run column (done ++ x ∷ []) y ys rest
    ∙ ap (λ d. run read_member (GoesOn (HasListed column d (final y ys))) rest) (append_assoc done (x ∷ []) _)

member_run : (member : MemberText) → run read_member (GoesOn WantsLeft) (spell_member member) ≡ Some (IsWhole member)
unfolding read_member
member_run (Compares column operator literal) =
    left_run column _ ∙ operator_run column operator (spell_literal literal) ∙ literal_run column operator literal
member_run (TestsNull column negated) = left_run column _ ∙ null_run column negated
member_run (IsIn column first others) =
    left_run column _
    ∙ ap (run read_member (GoesOn (WantsListed column []))) (append_assoc (spell_literal first) _ (Closing ∷ []))
    ∙ listed_run column [] first _
    ∙ list_run column [] first others (Closing ∷ [])
    ∙ ap₂ (λ one more. Some (IsWhole (IsIn column one more))) (first_back first others) (others_back first others)

-- a member of a condition: alone, or behind the earlier ones of a group
in_place : Option (List MemberText) → MemberStep → ConditionPart
in_place None step = alone step
in_place (Some earlier) step = grouped earlier step

mapped_some : {X Y : Type 0} (f : X → Y) (o : Option X) (x : X) → o ≡ Some x → option_map f o ≡ Some (f x)
mapped_some f o x is = ap (option_map f) is

alone_leads : (symbol : Symbol) (part : MemberPart) (next : MemberStep)
    → step_in_member symbol part ≡ Some next → step_alone symbol part ≡ Some (alone next)
alone_leads Open WantsLeft next leads = absurd (cc)
alone_leads (Word BetweenWord) (HasLeft column) next leads = absurd (cc)
alone_leads (Name name) (HasOperator column query.Equal) next leads = absurd (cc)
alone_leads symbol part next leads = mapped_some alone (step_in_member symbol part) next leads

member_leads : (earlier : Option (List MemberText)) (place : MemberStep) (symbol : Symbol) (next : MemberStep)
    → read_member place symbol ≡ Some next → read_condition (in_place earlier place) symbol ≡ Some (in_place earlier next)
unfolding read_member read_condition in_place
member_leads None (GoesOn part) symbol next leads = alone_leads symbol part next leads
member_leads (Some earlier) (GoesOn part) symbol next leads = mapped_some (grouped earlier) (step_in_member symbol part) next leads
member_leads earlier (IsWhole member) symbol next leads = absurd (cc)

in_place_run : (earlier : Option (List MemberText)) (place last : MemberStep) (xs : List Symbol)
    → run read_member place xs ≡ Some last → run read_condition (in_place earlier place) xs ≡ Some (in_place earlier last)
in_place_run earlier place last xs leads = run_within read_member read_condition (in_place earlier) (member_leads earlier) place last xs leads

-- the left column of a condition that begins with one
begins_run : (column : ColumnText) (rest : List Symbol)
    → run read_condition (InMember WantsLeft) (spell_column column ++ rest) ≡ run read_condition (InMember (HasLeft column)) rest
unfolding in_place read_member
begins_run column rest =
    run_on read_condition (InMember WantsLeft) (InMember (HasLeft column)) (spell_column column) rest
    (in_place_run None (GoesOn WantsLeft) (GoesOn (HasLeft column)) (spell_column column)
    (ap (run read_member (GoesOn WantsLeft)) (sym (append-nil (spell_column column))) ∙ left_run column []))

grouped_run : (done : List MemberText) (member : MemberText) (rest : List Symbol)
    → run read_condition (InGroup done WantsLeft) (spell_member member ++ rest) ≡ run read_condition (HasGrouped done member) rest
unfolding in_place
grouped_run done member rest =
    run_on read_condition (InGroup done WantsLeft) (HasGrouped done member) (spell_member member) rest
    (in_place_run (Some done) (GoesOn WantsLeft) (IsWhole member) (spell_member member) (member_run member))

group_run : (done : List MemberText) (x : MemberText) (xs : List MemberText) (rest : List Symbol)
    → run read_condition (HasGrouped done x) (flat_map (λ other. Word OrWord ∷ spell_member other) xs ++ rest)
    ≡ run read_condition (HasGrouped (done ++ front x xs) (final x xs)) rest
unfolding read_condition
group_run done x [] rest = ap (λ d. run read_condition (HasGrouped d x) rest) (sym (append-nil done))
group_run done x (y ∷ ys) rest =
    ap (run read_condition (InGroup (done ++ x ∷ []) WantsLeft)) (append_assoc (spell_member y) _ rest)
    ∙ grouped_run (done ++ x ∷ []) y _
    ∙ group_run (done ++ x ∷ []) y ys rest
    ∙ ap (λ d. run read_condition (HasGrouped d (final y ys)) rest) (append_assoc done (x ∷ []) _)

low_run : (column : ColumnText) (low : LiteralText) (rest : List Symbol)
    → run read_condition (WantsLow column) (spell_literal low ++ rest) ≡ run read_condition (HasLow column low) rest
unfolding read_condition
low_run column (Unsigned digits) rest = refl
low_run column (Signed Positive digits) rest = refl
low_run column (Signed Negative digits) rest = refl
low_run column (Written text) rest = refl

high_run : (column : ColumnText) (low high : LiteralText)
    → run read_condition (WantsHigh column low) (spell_literal high) ≡ Some (HasCondition (LiesBetween column low high))
unfolding read_condition
high_run column low (Unsigned digits) = refl
high_run column low (Signed Positive digits) = refl
high_run column low (Signed Negative digits) = refl
high_run column low (Written text) = refl

right_run : (left right : ColumnText)
    → run read_condition (InMember (HasOperator left query.Equal)) (spell_column right) ≡ Some (HasCondition (Joins left right))
unfolding read_condition
right_run left (Bare name) = refl
right_run left (Qualified from name) = refl

condition_run : (condition : ConditionText)
    → run read_condition (InMember WantsLeft) (spell_condition condition) ≡ Some (HasCondition condition)
unfolding read_condition in_place
condition_run (Alone member) = in_place_run None (GoesOn WantsLeft) (IsWhole member) (spell_member member) (member_run member)
condition_run (AnyOf first second others) =
    ap (run read_condition (InGroup [] WantsLeft)) (append_assoc (spell_member first) _ (Closing ∷ []))
    ∙ grouped_run [] first _
    ∙ group_run [] first (second ∷ others) (Closing ∷ [])
    ∙ ap₂ (λ one more. Some (HasCondition (AnyOf first one more))) (first_back second others) (others_back second others)
condition_run (LiesBetween column low high) = begins_run column _ ∙ low_run column low _ ∙ high_run column low high
condition_run (Joins left right) = begins_run left _ ∙ right_run left right

module _ (selection : Selection) (table : List ℕ) (more : List (List ℕ)) where
  where_leads : (done : List ConditionText) (symbol : Symbol) (part : ConditionPart) (next : ConditionPart)
      → read_condition part symbol ≡ Some next → step (InWhere selection table more done part) symbol ≡ Some (InWhere selection table more done next)
  unfolding read_condition
  where_leads done (Word AndWord) (HasCondition condition) next leads = absurd (cc)
  where_leads done EndOfText (HasCondition condition) next leads = absurd (cc)
  where_leads done symbol part next leads = mapped_some (InWhere selection table more done) (step_in_condition symbol part) next leads

  inside_run : (done : List ConditionText) (part last : ConditionPart) (xs : List Symbol) → run read_condition part xs ≡ Some last
      → run step (InWhere selection table more done part) xs ≡ Some (InWhere selection table more done last)
  inside_run done part last xs leads =
      run_within read_condition step (InWhere selection table more done) (λ place symbol. where_leads done symbol place) part last xs leads

  whole_run : (done : List ConditionText) (condition : ConditionText) (rest : List Symbol)
      → run step (InWhere selection table more done (InMember WantsLeft)) (spell_condition condition ++ rest)
      ≡ run step (InWhere selection table more done (HasCondition condition)) rest
  whole_run done condition rest =
      run_on step (InWhere selection table more done (InMember WantsLeft)) (InWhere selection table more done (HasCondition condition))
      (spell_condition condition) rest
      (inside_run done (InMember WantsLeft) (HasCondition condition) (spell_condition condition) (condition_run condition))

  conditions_run : (done : List ConditionText) (x : ConditionText) (xs : List ConditionText)
      → run step (InWhere selection table more done (HasCondition x)) (flat_map (λ other. Word AndWord ∷ spell_condition other) xs ++ EndOfText ∷ [])
      ≡ Some (Whole (query_text selection table more (done ++ x ∷ xs)))
  conditions_run done x [] = refl
  conditions_run done x (y ∷ ys) =
      ap (run step (InWhere selection table more (done ++ x ∷ []) (InMember WantsLeft))) (append_assoc (spell_condition y) _ (EndOfText ∷ []))
      ∙ whole_run (done ++ x ∷ []) y _
      ∙ conditions_run (done ++ x ∷ []) y ys
      ∙ ap (λ all. Some (Whole (query_text selection table more all))) (append_assoc done (x ∷ []) _)

  where_run : (conditions : List ConditionText)
      → run step (HasTable selection (front table more) (final table more)) (spell_where conditions ++ EndOfText ∷ [])
      ≡ Some (Whole (query_text selection table more conditions))
  where_run [] =
      ap₂ (λ first others. Some (Whole (query_text selection first others []))) (first_back table more) (others_back table more)
  where_run (x ∷ xs) =
      ap₂ (λ first others. run step (InWhere selection first others [] (InMember WantsLeft)) (separated (Word AndWord) spell_condition x xs ++ EndOfText ∷ []))
      (first_back table more) (others_back table more)
      ∙ ap (run step (InWhere selection table more [] (InMember WantsLeft))) (append_assoc (spell_condition x) _ (EndOfText ∷ []))
      ∙ whole_run [] x _
      ∙ conditions_run [] x xs

-- the places lead along the spelling of a tree to the end of its text
pub leads : (tree : QueryText) → run step Start (spelling tree) ≡ Some (Whole tree)
unfolding with_tables
leads tree =
    selection_run tree.selection _
    ∙ tables_run tree.selection [] tree.table tree.more_tables (spell_where tree.conditions ++ EndOfText ∷ [])
    ∙ where_run tree.selection tree.table tree.more_tables tree.conditions

-- each place is reached by the symbols before it
begun_columns_run : (done xs : List ColumnText) (rest : List Symbol)
    → run step (InSelect done WantsColumn) (begun Comma spell_column xs ++ rest) ≡ run step (InSelect (done ++ xs) WantsColumn) rest
begun_columns_run done [] rest = ap (λ d. run step (InSelect d WantsColumn) rest) (sym (append-nil done))
begun_columns_run done (x ∷ xs) rest =
    ap (run step (InSelect done WantsColumn)) (begun_before Comma spell_column x xs rest)
    ∙ column_run done x _
    ∙ begun_columns_run (done ++ x ∷ []) xs rest
    ∙ ap (λ d. run step (InSelect d WantsColumn) rest) (append_assoc done (x ∷ []) xs)

begun_tables_run : (selection : Selection) (done xs : List (List ℕ)) (rest : List Symbol)
    → run step (WantsTable selection done) (begun Comma spell_table xs ++ rest) ≡ run step (WantsTable selection (done ++ xs)) rest
begun_tables_run selection done [] rest = ap (λ d. run step (WantsTable selection d) rest) (sym (append-nil done))
begun_tables_run selection done (x ∷ xs) rest =
    begun_tables_run selection (done ++ x ∷ []) xs rest
    ∙ ap (λ d. run step (WantsTable selection d) rest) (append_assoc done (x ∷ []) xs)

begun_conditions_run : (selection : Selection) (table : List ℕ) (more : List (List ℕ)) (done xs : List ConditionText) (rest : List Symbol)
    → run step (InWhere selection table more done (InMember WantsLeft)) (begun (Word AndWord) spell_condition xs ++ rest)
    ≡ run step (InWhere selection table more (done ++ xs) (InMember WantsLeft)) rest
begun_conditions_run selection table more done [] rest =
    ap (λ d. run step (InWhere selection table more d (InMember WantsLeft)) rest) (sym (append-nil done))
begun_conditions_run selection table more done (x ∷ xs) rest =
    ap (run step (InWhere selection table more done (InMember WantsLeft))) (begun_before (Word AndWord) spell_condition x xs rest)
    ∙ whole_run selection table more done x _
    ∙ begun_conditions_run selection table more (done ++ x ∷ []) xs rest
    ∙ ap (λ d. run step (InWhere selection table more d (InMember WantsLeft)) rest) (append_assoc done (x ∷ []) xs)

begun_literals_run : (column : ColumnText) (done xs : List LiteralText) (rest : List Symbol)
    → run read_member (GoesOn (WantsListed column done)) (begun Comma spell_literal xs ++ rest)
    ≡ run read_member (GoesOn (WantsListed column (done ++ xs))) rest
unfolding read_member
begun_literals_run column done [] rest = ap (λ d. run read_member (GoesOn (WantsListed column d)) rest) (sym (append-nil done))
begun_literals_run column done (x ∷ xs) rest =
    ap (run read_member (GoesOn (WantsListed column done))) (begun_before Comma spell_literal x xs rest)
    ∙ listed_run column done x _
    ∙ begun_literals_run column (done ++ x ∷ []) xs rest
    ∙ ap (λ d. run read_member (GoesOn (WantsListed column d)) rest) (append_assoc done (x ∷ []) xs)

begun_members_run : (done xs : List MemberText) (rest : List Symbol)
    → run read_condition (InGroup done WantsLeft) (begun (Word OrWord) spell_member xs ++ rest)
    ≡ run read_condition (InGroup (done ++ xs) WantsLeft) rest
unfolding read_condition
begun_members_run done [] rest = ap (λ d. run read_condition (InGroup d WantsLeft) rest) (sym (append-nil done))
begun_members_run done (x ∷ xs) rest =
    ap (run read_condition (InGroup done WantsLeft)) (begun_before (Word OrWord) spell_member x xs rest)
    ∙ grouped_run done x _
    ∙ begun_members_run (done ++ x ∷ []) xs rest
    ∙ ap (λ d. run read_condition (InGroup d WantsLeft) rest) (append_assoc done (x ∷ []) xs)

column_reached : (earlier : List ColumnText) (part : ColumnPart)
    → run step (InSelect earlier WantsColumn) (in_column part) ≡ Some (InSelect earlier part)
column_reached earlier WantsColumn = refl
column_reached earlier (HasTablePoint table) = refl
column_reached earlier (HasColumn (Bare name)) = refl
column_reached earlier (HasColumn (Qualified table name)) = refl

sign_run : (column : ColumnText) (operator : Operator) (sign : Sign)
    → run read_member (GoesOn (HasOperator column operator)) (spell_sign sign ∷ []) ≡ Some (GoesOn (HasSign column operator sign))
unfolding read_member
sign_run column operator Positive = refl
sign_run column operator Negative = refl

not_run : (column : ColumnText) (negated : Bool)
    → run read_member (GoesOn (HasIs column false)) (spell_not negated) ≡ Some (GoesOn (HasIs column negated))
unfolding read_member
not_run column false = refl
not_run column true = refl

listed_sign_run : (column : ColumnText) (done : List LiteralText) (sign : Sign)
    → run read_member (GoesOn (WantsListed column done)) (spell_sign sign ∷ []) ≡ Some (GoesOn (HasListedSign column done sign))
unfolding read_member
listed_sign_run column done Positive = refl
listed_sign_run column done Negative = refl

member_reached : (part : MemberPart) → run read_member (GoesOn WantsLeft) (in_member part) ≡ Some (GoesOn part)
unfolding read_member
member_reached WantsLeft = refl
member_reached (HasLeftPoint from) = refl
member_reached (HasLeft column) =
    ap (run read_member (GoesOn WantsLeft)) (sym (append-nil (spell_column column))) ∙ left_run column []
member_reached (HasOperator column operator) = left_run column _ ∙ operator_run column operator []
member_reached (HasSign column operator sign) =
    left_run column _ ∙ operator_run column operator (spell_sign sign ∷ []) ∙ sign_run column operator sign
member_reached (HasIs column negated) = left_run column _ ∙ not_run column negated
member_reached (HasIn column) = left_run column _
member_reached (WantsListed column earlier) =
    left_run column _
    ∙ ap (run read_member (GoesOn (WantsListed column []))) (sym (append-nil (begun Comma spell_literal earlier)))
    ∙ begun_literals_run column [] earlier []
member_reached (HasListedSign column earlier sign) =
    left_run column _ ∙ begun_literals_run column [] earlier (spell_sign sign ∷ []) ∙ listed_sign_run column earlier sign
member_reached (HasListed column earlier last) =
    left_run column _ ∙ begun_literals_run column [] earlier (spell_literal last)
    ∙ ap (run read_member (GoesOn (WantsListed column earlier))) (sym (append-nil (spell_literal last)))
    ∙ listed_run column earlier last []

low_sign_run : (column : ColumnText) (sign : Sign)
    → run read_condition (WantsLow column) (spell_sign sign ∷ []) ≡ Some (HasLowSign column sign)
unfolding read_condition
low_sign_run column Positive = refl
low_sign_run column Negative = refl

high_sign_run : (column : ColumnText) (low : LiteralText) (sign : Sign)
    → run read_condition (WantsHigh column low) (spell_sign sign ∷ []) ≡ Some (HasHighSign column low sign)
unfolding read_condition
high_sign_run column low Positive = refl
high_sign_run column low Negative = refl

condition_reached : (part : ConditionPart) → run read_condition (InMember WantsLeft) (in_condition part) ≡ Some part
unfolding read_condition in_place
condition_reached (InMember part) = in_place_run None (GoesOn WantsLeft) (GoesOn part) (in_member part) (member_reached part)
condition_reached (InGroup earlier part) =
    begun_members_run [] earlier (in_member part)
    ∙ in_place_run (Some earlier) (GoesOn WantsLeft) (GoesOn part) (in_member part) (member_reached part)
condition_reached (HasGrouped earlier member) =
    begun_members_run [] earlier (spell_member member)
    ∙ in_place_run (Some earlier) (GoesOn WantsLeft) (IsWhole member) (spell_member member) (member_run member)
condition_reached (HasRightPoint column from) = begins_run column _
condition_reached (WantsLow column) = begins_run column _
condition_reached (HasLowSign column sign) = begins_run column _ ∙ low_sign_run column sign
condition_reached (HasLow column low) =
    begins_run column _
    ∙ ap (run read_condition (WantsLow column)) (sym (append-nil (spell_literal low)))
    ∙ low_run column low []
condition_reached (WantsHigh column low) = begins_run column _ ∙ low_run column low _
condition_reached (HasHighSign column low sign) = begins_run column _ ∙ low_run column low _ ∙ high_sign_run column low sign
condition_reached (HasCondition condition) = condition_run condition

reached : (place : QueryPlace) → run step Start (before place) ≡ Some place
unfolding with_tables
reached Start = refl
reached HasStar = refl
reached (InSelect earlier part) = begun_columns_run [] earlier (in_column part) ∙ column_reached earlier part
reached (WantsTable selection earlier) =
    selection_run selection _
    ∙ ap (run step (WantsTable selection [])) (sym (append-nil (begun Comma spell_table earlier)))
    ∙ begun_tables_run selection [] earlier []
reached (HasTable selection earlier table) = selection_run selection _ ∙ begun_tables_run selection [] earlier (spell_table table)
reached (InWhere selection table more earlier part) =
    selection_run selection _
    ∙ tables_run selection [] table more _
    ∙ ap₂ (λ first others. run step (InWhere selection first others [] (InMember WantsLeft)) (begun (Word AndWord) spell_condition earlier ++ in_condition part))
    (first_back table more) (others_back table more)
    ∙ begun_conditions_run selection table more [] earlier (in_condition part)
    ∙ inside_run selection table more earlier (InMember WantsLeft) part (in_condition part) (condition_reached part)
reached (Whole tree) = leads tree

-- a way to a whole text from a place, by symbols that bytes can spell
record Completes (place : QueryPlace) : Type 0 where
  rest : List Symbol
  spelled : list_all is_spelled rest ≡ true
  tree : QueryText
  ends : run step place (rest ++ EndOfText ∷ []) ≡ Some (Whole tree)

a : List ℕ
a = 97 ∷ []

nought : List ℕ
nought = 48 ∷ []

-- inside a member: the symbols that are left, and the member that they make
member_ending : MemberPart → List Symbol
member_ending WantsLeft = Name a ∷ EqualSign ∷ Digits nought ∷ []
member_ending (HasLeftPoint table) = Name a ∷ EqualSign ∷ Digits nought ∷ []
member_ending (HasLeft column) = EqualSign ∷ Digits nought ∷ []
member_ending (HasOperator column operator) = Digits nought ∷ []
member_ending (HasSign column operator sign) = Digits nought ∷ []
member_ending (HasIs column negated) = Word NullWord ∷ []
member_ending (HasIn column) = Open ∷ Digits nought ∷ Closing ∷ []
member_ending (WantsListed column earlier) = Digits nought ∷ Closing ∷ []
member_ending (HasListedSign column earlier sign) = Digits nought ∷ Closing ∷ []
member_ending (HasListed column earlier last) = Closing ∷ []

member_ended : MemberPart → MemberText
member_ended WantsLeft = Compares (Bare a) query.Equal (Unsigned nought)
member_ended (HasLeftPoint table) = Compares (Qualified table a) query.Equal (Unsigned nought)
member_ended (HasLeft column) = Compares column query.Equal (Unsigned nought)
member_ended (HasOperator column operator) = Compares column operator (Unsigned nought)
member_ended (HasSign column operator sign) = Compares column operator (Signed sign nought)
member_ended (HasIs column negated) = TestsNull column negated
member_ended (HasIn column) = IsIn column (Unsigned nought) []
member_ended (WantsListed column earlier) = IsIn column (first_item earlier (Unsigned nought)) (other_items earlier (Unsigned nought))
member_ended (HasListedSign column earlier sign) = IsIn column (first_item earlier (Signed sign nought)) (other_items earlier (Signed sign nought))
member_ended (HasListed column earlier last) = IsIn column (first_item earlier last) (other_items earlier last)

member_ending_spelled : (part : MemberPart) → list_all is_spelled (member_ending part) ≡ true
unfolding member_ending a nought is_name
member_ending_spelled WantsLeft = refl
member_ending_spelled (HasLeftPoint table) = refl
member_ending_spelled (HasLeft column) = refl
member_ending_spelled (HasOperator column operator) = refl
member_ending_spelled (HasSign column operator sign) = refl
member_ending_spelled (HasIs column negated) = refl
member_ending_spelled (HasIn column) = refl
member_ending_spelled (WantsListed column earlier) = refl
member_ending_spelled (HasListedSign column earlier sign) = refl
member_ending_spelled (HasListed column earlier last) = refl

member_ending_run : (part : MemberPart) → run read_member (GoesOn part) (member_ending part) ≡ Some (IsWhole (member_ended part))
unfolding member_ending member_ended read_member
member_ending_run WantsLeft = refl
member_ending_run (HasLeftPoint table) = refl
member_ending_run (HasLeft column) = refl
member_ending_run (HasOperator column operator) = refl
member_ending_run (HasSign column operator sign) = refl
member_ending_run (HasIs column negated) = refl
member_ending_run (HasIn column) = refl
member_ending_run (WantsListed column earlier) = refl
member_ending_run (HasListedSign column earlier sign) = refl
member_ending_run (HasListed column earlier last) = refl

-- behind a member of a group, of which there may be none before
group_ending : List MemberText → List Symbol
group_ending [] = Word OrWord ∷ Name a ∷ EqualSign ∷ Digits nought ∷ Closing ∷ []
group_ending (first ∷ earlier) = Closing ∷ []

group_ended : List MemberText → MemberText → ConditionText
group_ended [] member = AnyOf member (Compares (Bare a) query.Equal (Unsigned nought)) []
group_ended (first ∷ earlier) member = AnyOf first (first_item earlier member) (other_items earlier member)

group_ending_spelled : (earlier : List MemberText) → list_all is_spelled (group_ending earlier) ≡ true
unfolding group_ending a nought is_name
group_ending_spelled [] = refl
group_ending_spelled (first ∷ earlier) = refl

group_ending_run : (earlier : List MemberText) (member : MemberText)
    → run read_condition (HasGrouped earlier member) (group_ending earlier) ≡ Some (HasCondition (group_ended earlier member))
unfolding group_ending group_ended read_condition
group_ending_run [] member = refl
group_ending_run (first ∷ earlier) member = refl

-- inside a condition: the symbols that are left, and the condition that they make
ending : ConditionPart → List Symbol
ending (InMember part) = member_ending part
ending (InGroup earlier part) = member_ending part ++ group_ending earlier
ending (HasGrouped earlier member) = group_ending earlier
ending (HasRightPoint left table) = Name a ∷ []
ending (WantsLow column) = Digits nought ∷ Word AndWord ∷ Digits nought ∷ []
ending (HasLowSign column sign) = Digits nought ∷ Word AndWord ∷ Digits nought ∷ []
ending (HasLow column low) = Word AndWord ∷ Digits nought ∷ []
ending (WantsHigh column low) = Digits nought ∷ []
ending (HasHighSign column low sign) = Digits nought ∷ []
ending (HasCondition condition) = []

ended : ConditionPart → ConditionText
ended (InMember part) = Alone (member_ended part)
ended (InGroup earlier part) = group_ended earlier (member_ended part)
ended (HasGrouped earlier member) = group_ended earlier member
ended (HasRightPoint left table) = Joins left (Qualified table a)
ended (WantsLow column) = LiesBetween column (Unsigned nought) (Unsigned nought)
ended (HasLowSign column sign) = LiesBetween column (Signed sign nought) (Unsigned nought)
ended (HasLow column low) = LiesBetween column low (Unsigned nought)
ended (WantsHigh column low) = LiesBetween column low (Unsigned nought)
ended (HasHighSign column low sign) = LiesBetween column low (Signed sign nought)
ended (HasCondition condition) = condition

ending_spelled : (part : ConditionPart) → list_all is_spelled (ending part) ≡ true
unfolding ending a nought is_name
ending_spelled (InMember part) = member_ending_spelled part
ending_spelled (InGroup earlier part) =
    spelled_both (member_ending part) (group_ending earlier) (member_ending_spelled part) (group_ending_spelled earlier)
ending_spelled (HasGrouped earlier member) = group_ending_spelled earlier
ending_spelled (HasRightPoint left table) = refl
ending_spelled (WantsLow column) = refl
ending_spelled (HasLowSign column sign) = refl
ending_spelled (HasLow column low) = refl
ending_spelled (WantsHigh column low) = refl
ending_spelled (HasHighSign column low sign) = refl
ending_spelled (HasCondition condition) = refl

ending_run : (part : ConditionPart) → run read_condition part (ending part) ≡ Some (HasCondition (ended part))
unfolding ending ended in_place read_condition
ending_run (InMember part) =
    in_place_run None (GoesOn part) (IsWhole (member_ended part)) (member_ending part) (member_ending_run part)
ending_run (InGroup earlier part) =
    run_on read_condition (InGroup earlier part) (HasGrouped earlier (member_ended part)) (member_ending part) (group_ending earlier)
    (in_place_run (Some earlier) (GoesOn part) (IsWhole (member_ended part)) (member_ending part) (member_ending_run part))
    ∙ group_ending_run earlier (member_ended part)
ending_run (HasGrouped earlier member) = group_ending_run earlier member
ending_run (HasRightPoint left from) = refl
ending_run (WantsLow column) = refl
ending_run (HasLowSign column sign) = refl
ending_run (HasLow column low) = refl
ending_run (WantsHigh column low) = refl
ending_run (HasHighSign column low sign) = refl
ending_run (HasCondition condition) = refl

text_ending_run : (selection : Selection) (table : List ℕ) (more : List (List ℕ)) (earlier : List ConditionText) (part : ConditionPart)
    → run step (InWhere selection table more earlier part) (ending part ++ EndOfText ∷ [])
    ≡ Some (Whole (query_text selection table more (earlier ++ ended part ∷ [])))
text_ending_run selection table more earlier part =
    run_on step (InWhere selection table more earlier part) (InWhere selection table more earlier (HasCondition (ended part)))
    (ending part) (EndOfText ∷ [])
    (inside_run selection table more earlier part (HasCondition (ended part)) (ending part) (ending_run part))

completes : (place : QueryPlace) → ((tree : QueryText) → place ≡ Whole tree → ⊥) → Completes place
unfolding a is_name
completes Start unwhole = record {
  rest = Word SelectWord ∷ Star ∷ Word FromWord ∷ Name a ∷ [];
  spelled = refl;
  tree = query_text All a [] [];
  ends = refl;
}
completes HasStar unwhole = record { rest = Word FromWord ∷ Name a ∷ []; spelled = refl; tree = query_text All a [] []; ends = refl }
completes (InSelect earlier WantsColumn) unwhole = record {
  rest = Name a ∷ Word FromWord ∷ Name a ∷ [];
  spelled = refl;
  tree = query_text (selection_of earlier (Bare a)) a [] [];
  ends = refl;
}
completes (InSelect earlier (HasTablePoint table)) unwhole = record {
  rest = Name a ∷ Word FromWord ∷ Name a ∷ [];
  spelled = refl;
  tree = query_text (selection_of earlier (Qualified table a)) a [] [];
  ends = refl;
}
completes (InSelect earlier (HasColumn column)) unwhole = record {
  rest = Word FromWord ∷ Name a ∷ [];
  spelled = refl;
  tree = query_text (selection_of earlier column) a [] [];
  ends = refl;
}
completes (WantsTable selection earlier) unwhole = record {
  rest = Name a ∷ [];
  spelled = refl;
  tree = query_text selection (first_item earlier a) (other_items earlier a) [];
  ends = refl;
}
completes (HasTable selection earlier table) unwhole = record {
  rest = [];
  spelled = refl;
  tree = query_text selection (first_item earlier table) (other_items earlier table) [];
  ends = refl;
}
completes (InWhere selection table more earlier part) unwhole = record {
  rest = ending part;
  spelled = ending_spelled part;
  tree = query_text selection table more (earlier ++ ended part ∷ []);
  ends = text_ending_run selection table more earlier part;
}
completes (Whole tree) unwhole = absurd (unwhole tree refl)

-- a whole text has its end in it
whole_not_spelled : (tree : QueryText) → list_all is_spelled (spelling tree) ≡ true → ⊥
whole_not_spelled tree h =
    let select = spelled_parts (spell_selection tree.selection) _ h in
    let from = spelled_parts (separated Comma spell_table tree.table tree.more_tables) _ select.1 in
    no_end_inside (spell_where tree.conditions) [] from.1

-- what the computing reading says, by the places
after : List Token → ℕ → Option QueryPlace → Result QueryText ℕ
after later at None = Err at
after later at (Some next) = read_from next later

read_run : (place : QueryPlace) (given : List Token) (last : QueryPlace)
    → run step place (map symbol_of given) ≡ Some last → read_from place given ≡ whole_text last
unfolding read_from after
read_run place [] last leads = let same : place ≡ last = cc in ap whole_text same
read_run place (token ∷ later) last leads =
    elim (step place token.symbol) as (λ o. option_and_then (λ next. run step next (map symbol_of later)) o ≡ Some last → after later token.at o ≡ whole_text last) [
      | None ↦ (λ leads. absurd (cc))
      | Some next ↦ (λ leads. read_run next later last leads)
    ] leads

whole_back : (place : QueryPlace) (tree : QueryText) → whole_text place ≡ Ok tree → place ≡ Whole tree
whole_back (Whole other) tree is = let same : other ≡ tree = cc in ap Whole same
whole_back _ tree is = absurd (cc)

read_ok : (place : QueryPlace) (given : List Token) (tree : QueryText)
    → read_from place given ≡ Ok tree → run step place (map symbol_of given) ≡ Some (Whole tree)
unfolding read_from after
read_ok place [] tree is = ap Some (whole_back place tree is)
read_ok place (token ∷ later) tree is =
    elim (step place token.symbol) as (λ o. after later token.at o ≡ Ok tree → option_and_then (λ next. run step next (map symbol_of later)) o ≡ Some (Whole tree)) [
      | None ↦ (λ is. absurd (cc))
      | Some next ↦ (λ is. read_ok next later tree is)
    ] is

-- a token that leads nowhere from the place that the tokens before it led to
record Stops (start : QueryPlace) (given : List Token) (at : ℕ) : Type 0 where
  read : List Token
  token : Token
  later : List Token
  whole : given ≡ read ++ token ∷ later
  last : QueryPlace
  reaches : run step start (map symbol_of read) ≡ Some last
  nowhere : step last token.symbol ≡ None
  offset : token.at ≡ at

record RunsOut (start : QueryPlace) (given : List Token) (at : ℕ) : Type 0 where
  last : QueryPlace
  reaches : run step start (map symbol_of given) ≡ Some last
  unfinished : whole_text last ≡ Err at

read_stop : (place : QueryPlace) (given : List Token) (at : ℕ) → read_from place given ≡ Err at → Stops place given at ⊎ RunsOut place given at
unfolding read_from after
read_stop place [] at is = inr (record { last = place; reaches = refl; unfinished = is })
read_stop place (token ∷ later) at is =
    elim (step place token.symbol) as (λ o. step place token.symbol ≡ o → after later token.at o ≡ Err at → Stops place (token ∷ later) at ⊎ RunsOut place (token ∷ later) at) [
      | None ↦ (λ goes is. inl (record { read = []; token = token; later = later; whole = refl; last = place; reaches = refl; nowhere = goes; offset = cc }))
      | Some next ↦ (λ goes is. elim (read_stop next later at is) [
        | inl s ↦ inl (record {
          read = token ∷ s.read;
          token = s.token;
          later = s.later;
          whole = ap (λ rest. token ∷ rest) s.whole;
          last = s.last;
          reaches = ap (option_and_then (λ next. run step next (map symbol_of s.read))) goes ∙ s.reaches;
          nowhere = s.nowhere;
          offset = s.offset;
        })
        | inr s ↦ inr (record {
          last = s.last;
          reaches = ap (option_and_then (λ next. run step next (map symbol_of later))) goes ∙ s.reaches;
          unfinished = s.unfinished;
        })
      ])
    ] refl is

-- the end of a text leads to a whole text, or nowhere
end_whole : (place : QueryPlace) → IfSome (step place EndOfText) (λ last. (tree : QueryText) × (last ≡ Whole tree))
end_whole Start = tt
end_whole HasStar = tt
end_whole (InSelect earlier WantsColumn) = tt
end_whole (InSelect earlier (HasTablePoint table)) = tt
end_whole (InSelect earlier (HasColumn column)) = tt
end_whole (WantsTable selection earlier) = tt
end_whole (HasTable selection earlier table) = (query_text selection (first_item earlier table) (other_items earlier table) [], refl)
end_whole (InWhere selection table more earlier (HasCondition condition)) = (query_text selection table more (earlier ++ condition ∷ []), refl)
end_whole (InWhere selection table more earlier _) = tt
end_whole (Whole tree) = tt

ends_whole : (o : Option QueryPlace) (last : QueryPlace) → option_and_then (λ next. run step next (EndOfText ∷ [])) o ≡ Some last → (tree : QueryText) × (last ≡ Whole tree)
ends_whole None last leads = absurd (cc)
ends_whole (Some place) last leads =
    from_some (λ last. (tree : QueryText) × (last ≡ Whole tree)) (step place EndOfText) last (end_whole place) (one_step (step place EndOfText) last leads)
  where
    one_step : (o : Option QueryPlace) (last : QueryPlace) → option_and_then (λ next. run step next []) o ≡ Some last → o ≡ Some last
    one_step None last leads = absurd (cc)
    one_step (Some next) last leads = leads

never_runs_out : (text : List ℕ) (at : ℕ) → RunsOut Start (tokens text) at → ⊥
never_runs_out text at out =
    let found = before_end text in
    let goes = sym (run-append step Start found.0 (EndOfText ∷ [])) ∙ ap (run step Start) (sym found.1.whole) ∙ out.reaches in
    let whole = ends_whole (run step Start found.0) out.last goes in
    let ok : whole_text out.last ≡ Ok whole.0 = ap whole_text whole.1 in
    let no = out.unfinished in cc

slice_at : (xs : List Token) (y : Token) (ys : List Token) → slice_get (xs ++ y ∷ ys) (length (map symbol_of xs)) ≡ Some y
slice_at [] y ys = refl
slice_at (x ∷ xs) y ys = slice_at xs y ys

stop_is_fault : (text : List ℕ) (at : ℕ) → Stops Start (tokens text) at → IsSyntaxFault spelling text at
stop_is_fault text at stop =
    let read = map symbol_of stop.read in
    let given : symbols text ≡ read ++ stop.token.symbol ∷ map symbol_of stop.later =
    ap (map symbol_of) stop.whole ∙ map-append symbol_of stop.read (stop.token ∷ stop.later) in
    let is_read : before stop.last ≡ read = run_before Start read stop.last stop.reaches in
    let unwhole = λ (tree : QueryText) (is : stop.last ≡ Whole tree).
    whole_not_spelled tree (ap (list_all is_spelled) (ap before (sym is) ∙ is_read) ∙ spelled_front text read stop.token.symbol (map symbol_of stop.later) given) in
    let way = completes stop.last unwhole in
    let viable = viable_front spelling way.tree text read stop.token.symbol (map symbol_of stop.later) way.rest given way.spelled
    (append_assoc read way.rest (EndOfText ∷ []) ∙ ap (λ front. front ++ (way.rest ++ EndOfText ∷ [])) (sym is_read)
    ∙ sym (run_before stop.last (way.rest ++ EndOfText ∷ []) (Whole way.tree) way.ends)) in
    record {
      place = length read;
      fault = fault_after spelling text read stop.token.symbol (map symbol_of stop.later) given viable
          (dead_after spelling step Start stop.last read stop.token.symbol (λ tree. (Whole tree, leads tree)) stop.reaches stop.nowhere);
      offset = ap (λ all. option_map (λ token. token.at) (slice_get all (length read))) stop.whole
          ∙ ap (option_map (λ token. token.at)) (slice_at stop.read stop.token stop.later)
          ∙ ap Some stop.offset;
    }

-- the computing reading and the grammar
pub tree_spells : (text : List ℕ) (tree : QueryText) → syntax_of text ≡ Ok tree → Spells spelling text tree
tree_spells text tree is = sym (run_before Start (symbols text) (Whole tree) (read_ok Start (tokens text) tree is))

pub spelled_tree : (text : List ℕ) (tree : QueryText) → Spells spelling text tree → syntax_of text ≡ Ok tree
spelled_tree text tree spells = read_run Start (tokens text) (Whole tree) (ap (run step Start) spells ∙ leads tree)

pub stop_fault : (text : List ℕ) (at : ℕ) → syntax_of text ≡ Err at → IsSyntaxFault spelling text at
stop_fault text at is = elim (read_stop Start (tokens text) at is) [
  | inl stop ↦ stop_is_fault text at stop
  | inr out ↦ absurd (never_runs_out text at out)
]

pub fault_stop : (text : List ℕ) (at : ℕ) → IsSyntaxFault spelling text at → syntax_of text ≡ Err at
fault_stop text at given =
    elim (syntax_of text) as (λ r. syntax_of text ≡ r → r ≡ Err at) [
      | Ok tree ↦ (λ is. absurd (no_fault spelling text tree given.place (tree_spells text tree is) given.fault))
      | Err other ↦ (λ is.
          let found = stop_fault text other is in
          let place : found.place ≡ given.place = one_fault spelling (symbols text) found.place given.place found.fault given.fault in
          let same : Some other ≡ Some at = sym found.offset ∙ ap (offset_of text) place ∙ given.offset in
          let equal : other ≡ at = cc in
          ap Err equal)
    ] refl

-- a text that is stuck at a place, and its fault
pub stuck_fault : (text : List ℕ) (at : ℕ) → IsStuck text at → IsSyntaxFault spelling text at
stuck_fault text at stuck = stop_is_fault text at (record {
  read = stuck.read;
  token = stuck.next;
  later = stuck.later;
  whole = stuck.whole;
  last = stuck.place;
  reaches = ap (run step Start) stuck.before_it ∙ reached stuck.place;
  nowhere = stuck.nowhere;
  offset = stuck.offset;
})

pub fault_stuck : (text : List ℕ) (at : ℕ) → IsSyntaxFault spelling text at → IsStuck text at
fault_stuck text at fault = elim (read_stop Start (tokens text) at (fault_stop text at fault)) [
  | inl stop ↦ record {
    place = stop.last;
    read = stop.read;
    next = stop.token;
    later = stop.later;
    whole = stop.whole;
    before_it = sym (run_before Start (map symbol_of stop.read) stop.last stop.reaches);
    nowhere = stop.nowhere;
    offset = stop.offset;
  }
  | inr out ↦ absurd (never_runs_out text at out)
]
