-- The places between the symbols of a query text, each with what was read so far: the symbols before it, and where
-- each symbol leads from it. A symbol that leads nowhere is the first one that no text has there. So following the
-- places over the tokens of a text tells its tree, or where its fault stands. Nothing in this module need be believed:
-- the law QueryPlacesAreExact (function `query_places_are_exact`) makes `syntax_of` the tree which the text spells and
-- the fault that the grammar gives it.
use Rattle.std.specs.Prelude.{ℕ, Bool, true, false, List, [], ◌∷◌, ◌++◌, Option, Some, None, option_map, Result, Ok, Err}
use Rattle.ghost_model.specs.core.Query as query
use Rattle.ghost_model.specs.core.Query.{Operator}
use Rattle.ghost_model.specs.refusals.Tokens.{Symbol, Token, tokens, Word, Name, Digits, Quoted, Open, Closing, Comma, Point, Star, PlusSign, MinusSign, EqualSign, UnequalSign, LessSign, AtMostSign, MoreSign, AtLeastSign, EndOfText, SelectWord, FromWord, WhereWord, AndWord, BetweenWord, IsWord, NotWord, NullWord, InWord, OrWord}
use Rattle.ghost_model.specs.refusals.Grammar.{separated}
use Rattle.ghost_model.specs.readings.Begun.{begun}
use Rattle.ghost_model.specs.refusals.QueryGrammar.{ColumnText, Bare, Qualified, Sign, Positive, Negative, LiteralText, Unsigned, Signed, Written, MemberText, Compares, TestsNull, IsIn, ConditionText, Alone, AnyOf, LiesBetween, Joins, Selection, All, Columns, QueryText, spell_column, spell_sign, spell_operator, spell_literal, spell_not, spell_member, spell_condition, spell_table, spell_selection, spelling}

-- in a selected column: before it, after its table and the point, and after it
pub data ColumnPart : Type 0 where
  WantsColumn : ColumnPart
  HasTablePoint : List ℕ → ColumnPart
  HasColumn : ColumnText → ColumnPart

-- in a member of a condition that is not whole yet. Of an IN it holds the literals that have a comma after them
pub data MemberPart : Type 0 where
  WantsLeft : MemberPart
  HasLeftPoint : List ℕ → MemberPart
  HasLeft : ColumnText → MemberPart
  HasOperator : ColumnText → Operator → MemberPart
  HasSign : ColumnText → Operator → Sign → MemberPart
  HasIs : ColumnText → (negated : Bool) → MemberPart
  HasIn : ColumnText → MemberPart
  WantsListed : ColumnText → List LiteralText → MemberPart
  HasListedSign : ColumnText → List LiteralText → Sign → MemberPart
  HasListed : ColumnText → List LiteralText → LiteralText → MemberPart

-- where a symbol leads in a member: it goes on, or it is whole
pub data MemberStep : Type 0 where
  GoesOn : MemberPart → MemberStep
  IsWhole : MemberText → MemberStep

-- in a condition: in a member that stands alone, in a member of a group or after one (a list holds the members that have an OR
-- after them), in a join, between two literals, or after what may stand as it is
pub data ConditionPart : Type 0 where
  InMember : MemberPart → ConditionPart
  InGroup : List MemberText → MemberPart → ConditionPart
  HasGrouped : List MemberText → MemberText → ConditionPart
  HasRightPoint : ColumnText → List ℕ → ConditionPart
  WantsLow : ColumnText → ConditionPart
  HasLowSign : ColumnText → Sign → ConditionPart
  HasLow : ColumnText → LiteralText → ConditionPart
  WantsHigh : ColumnText → LiteralText → ConditionPart
  HasHighSign : ColumnText → LiteralText → Sign → ConditionPart
  HasCondition : ConditionText → ConditionPart

-- in a text: lists hold the columns, tables or conditions that stand whole before the one at hand
pub data QueryPlace : Type 0 where
  Start HasStar : QueryPlace
  InSelect : List ColumnText → ColumnPart → QueryPlace
  WantsTable : Selection → List (List ℕ) → QueryPlace
  HasTable : Selection → List (List ℕ) → List ℕ → QueryPlace
  InWhere : Selection → List ℕ → List (List ℕ) → List ConditionText → ConditionPart → QueryPlace
  Whole : QueryText → QueryPlace

-- the first of some items and a last one, and the others
abbrev pub first_item : {X : Type 0} → List X → X → X
first_item [] last = last
first_item (x ∷ xs) last = x

abbrev pub other_items : {X : Type 0} → List X → X → List X
other_items [] last = []
other_items (x ∷ xs) last = xs ++ last ∷ []

abbrev pub selection_of : List ColumnText → ColumnText → Selection
selection_of earlier last = Columns (first_item earlier last) (other_items earlier last)

abbrev pub query_text : Selection → List ℕ → List (List ℕ) → List ConditionText → QueryText
query_text selection table more conditions =
    record { selection = selection; table = table; more_tables = more; conditions = conditions }

-- the symbols before a place
abbrev pub in_column : ColumnPart → List Symbol
in_column WantsColumn = []
in_column (HasTablePoint table) = Name table ∷ Point ∷ []
in_column (HasColumn column) = spell_column column

abbrev pub in_member : MemberPart → List Symbol
in_member WantsLeft = []
in_member (HasLeftPoint table) = Name table ∷ Point ∷ []
in_member (HasLeft column) = spell_column column
in_member (HasOperator column operator) = spell_column column ++ (spell_operator operator ∷ [])
in_member (HasSign column operator sign) = spell_column column ++ (spell_operator operator ∷ spell_sign sign ∷ [])
in_member (HasIs column negated) = spell_column column ++ (Word IsWord ∷ spell_not negated)
in_member (HasIn column) = spell_column column ++ (Word InWord ∷ [])
in_member (WantsListed column earlier) = spell_column column ++ (Word InWord ∷ Open ∷ begun Comma spell_literal earlier)
in_member (HasListedSign column earlier sign) =
    spell_column column ++ (Word InWord ∷ Open ∷ (begun Comma spell_literal earlier ++ (spell_sign sign ∷ [])))
in_member (HasListed column earlier last) =
    spell_column column ++ (Word InWord ∷ Open ∷ (begun Comma spell_literal earlier ++ spell_literal last))

abbrev pub in_condition : ConditionPart → List Symbol
in_condition (InMember part) = in_member part
in_condition (InGroup earlier part) = Open ∷ (begun (Word OrWord) spell_member earlier ++ in_member part)
in_condition (HasGrouped earlier member) = Open ∷ (begun (Word OrWord) spell_member earlier ++ spell_member member)
in_condition (HasRightPoint column table) = spell_column column ++ (EqualSign ∷ Name table ∷ Point ∷ [])
in_condition (WantsLow column) = spell_column column ++ (Word BetweenWord ∷ [])
in_condition (HasLowSign column sign) = spell_column column ++ (Word BetweenWord ∷ spell_sign sign ∷ [])
in_condition (HasLow column low) = spell_column column ++ (Word BetweenWord ∷ spell_literal low)
in_condition (WantsHigh column low) = spell_column column ++ (Word BetweenWord ∷ (spell_literal low ++ (Word AndWord ∷ [])))
in_condition (HasHighSign column low sign) =
    spell_column column ++ (Word BetweenWord ∷ (spell_literal low ++ (Word AndWord ∷ spell_sign sign ∷ [])))
in_condition (HasCondition condition) = spell_condition condition

abbrev pub before : QueryPlace → List Symbol
before Start = []
before HasStar = Word SelectWord ∷ Star ∷ []
before (InSelect earlier part) = Word SelectWord ∷ (begun Comma spell_column earlier ++ in_column part)
before (WantsTable selection earlier) =
    Word SelectWord ∷ (spell_selection selection ++ (Word FromWord ∷ begun Comma spell_table earlier))
before (HasTable selection earlier table) =
    Word SelectWord ∷ (spell_selection selection ++ (Word FromWord ∷ (begun Comma spell_table earlier ++ spell_table table)))
before (InWhere selection table more earlier part) =
    Word SelectWord
    ∷ (spell_selection selection
    ++ (Word FromWord
    ∷ (separated Comma spell_table table more
    ++ (Word WhereWord ∷ (begun (Word AndWord) spell_condition earlier ++ in_condition part)))))
before (Whole tree) = spelling tree

-- where a symbol leads inside a selected column, inside a member and inside a condition
abbrev pub step_in_column : Symbol → ColumnPart → Option ColumnPart
step_in_column (Name name) WantsColumn = Some (HasColumn (Bare name))
step_in_column (Name name) (HasTablePoint table) = Some (HasColumn (Qualified table name))
step_in_column Point (HasColumn (Bare name)) = Some (HasTablePoint name)
step_in_column _ _ = None

abbrev pub step_in_member : Symbol → MemberPart → Option MemberStep
step_in_member (Name name) WantsLeft = Some (GoesOn (HasLeft (Bare name)))
step_in_member (Name name) (HasLeftPoint table) = Some (GoesOn (HasLeft (Qualified table name)))
step_in_member Point (HasLeft (Bare name)) = Some (GoesOn (HasLeftPoint name))
step_in_member EqualSign (HasLeft column) = Some (GoesOn (HasOperator column query.Equal))
step_in_member UnequalSign (HasLeft column) = Some (GoesOn (HasOperator column query.Unequal))
step_in_member LessSign (HasLeft column) = Some (GoesOn (HasOperator column query.Less))
step_in_member AtMostSign (HasLeft column) = Some (GoesOn (HasOperator column query.AtMost))
step_in_member MoreSign (HasLeft column) = Some (GoesOn (HasOperator column query.More))
step_in_member AtLeastSign (HasLeft column) = Some (GoesOn (HasOperator column query.AtLeast))
step_in_member (Word IsWord) (HasLeft column) = Some (GoesOn (HasIs column false))
step_in_member (Word InWord) (HasLeft column) = Some (GoesOn (HasIn column))
step_in_member (Word NotWord) (HasIs column false) = Some (GoesOn (HasIs column true))
step_in_member (Word NullWord) (HasIs column negated) = Some (IsWhole (TestsNull column negated))
step_in_member PlusSign (HasOperator column operator) = Some (GoesOn (HasSign column operator Positive))
step_in_member MinusSign (HasOperator column operator) = Some (GoesOn (HasSign column operator Negative))
step_in_member (Digits digits) (HasOperator column operator) = Some (IsWhole (Compares column operator (Unsigned digits)))
step_in_member (Quoted text) (HasOperator column operator) = Some (IsWhole (Compares column operator (Written text)))
step_in_member (Digits digits) (HasSign column operator sign) = Some (IsWhole (Compares column operator (Signed sign digits)))
step_in_member Open (HasIn column) = Some (GoesOn (WantsListed column []))
step_in_member PlusSign (WantsListed column earlier) = Some (GoesOn (HasListedSign column earlier Positive))
step_in_member MinusSign (WantsListed column earlier) = Some (GoesOn (HasListedSign column earlier Negative))
step_in_member (Digits digits) (WantsListed column earlier) = Some (GoesOn (HasListed column earlier (Unsigned digits)))
step_in_member (Quoted text) (WantsListed column earlier) = Some (GoesOn (HasListed column earlier (Written text)))
step_in_member (Digits digits) (HasListedSign column earlier sign) = Some (GoesOn (HasListed column earlier (Signed sign digits)))
step_in_member Comma (HasListed column earlier last) = Some (GoesOn (WantsListed column (earlier ++ last ∷ [])))
step_in_member Closing (HasListed column earlier last) =
    Some (IsWhole (IsIn column (first_item earlier last) (other_items earlier last)))
step_in_member _ _ = None

-- a member that stands alone is a condition where it is whole
abbrev pub alone : MemberStep → ConditionPart
alone (GoesOn part) = InMember part
alone (IsWhole member) = HasCondition (Alone member)

-- a member of a group, behind the earlier ones
abbrev pub grouped : List MemberText → MemberStep → ConditionPart
grouped earlier (GoesOn part) = InGroup earlier part
grouped earlier (IsWhole member) = HasGrouped earlier member

-- the group of the members before the last one, which are some, and this one
abbrev pub group_text : List MemberText → MemberText → Option ConditionPart
group_text [] last = None
group_text (first ∷ earlier) last = Some (HasCondition (AnyOf first (first_item earlier last) (other_items earlier last)))

-- in a condition that begins with a column
abbrev pub step_alone : Symbol → MemberPart → Option ConditionPart
step_alone Open WantsLeft = Some (InGroup [] WantsLeft)
step_alone (Word BetweenWord) (HasLeft column) = Some (WantsLow column)
step_alone (Name name) (HasOperator column query.Equal) = Some (HasCondition (Joins column (Bare name)))
step_alone symbol part = option_map alone (step_in_member symbol part)

abbrev pub step_in_condition : Symbol → ConditionPart → Option ConditionPart
step_in_condition symbol (InMember part) = step_alone symbol part
step_in_condition symbol (InGroup earlier part) = option_map (grouped earlier) (step_in_member symbol part)
step_in_condition (Word OrWord) (HasGrouped earlier member) = Some (InGroup (earlier ++ member ∷ []) WantsLeft)
step_in_condition Closing (HasGrouped earlier member) = group_text earlier member
step_in_condition Point (HasCondition (Joins left (Bare table))) = Some (HasRightPoint left table)
step_in_condition (Name name) (HasRightPoint left table) = Some (HasCondition (Joins left (Qualified table name)))
step_in_condition PlusSign (WantsLow column) = Some (HasLowSign column Positive)
step_in_condition MinusSign (WantsLow column) = Some (HasLowSign column Negative)
step_in_condition (Digits digits) (WantsLow column) = Some (HasLow column (Unsigned digits))
step_in_condition (Quoted text) (WantsLow column) = Some (HasLow column (Written text))
step_in_condition (Digits digits) (HasLowSign column sign) = Some (HasLow column (Signed sign digits))
step_in_condition (Word AndWord) (HasLow column low) = Some (WantsHigh column low)
step_in_condition PlusSign (WantsHigh column low) = Some (HasHighSign column low Positive)
step_in_condition MinusSign (WantsHigh column low) = Some (HasHighSign column low Negative)
step_in_condition (Digits digits) (WantsHigh column low) =
    Some (HasCondition (LiesBetween column low (Unsigned digits)))
step_in_condition (Quoted text) (WantsHigh column low) = Some (HasCondition (LiesBetween column low (Written text)))
step_in_condition (Digits digits) (HasHighSign column low sign) =
    Some (HasCondition (LiesBetween column low (Signed sign digits)))
step_in_condition _ _ = None

-- where a symbol leads in the select list, and after WHERE
abbrev pub step_in_select : Symbol → ColumnPart → List ColumnText → Option QueryPlace
step_in_select Star WantsColumn [] = Some HasStar
step_in_select Comma (HasColumn column) earlier = Some (InSelect (earlier ++ column ∷ []) WantsColumn)
step_in_select (Word FromWord) (HasColumn column) earlier = Some (WantsTable (selection_of earlier column) [])
step_in_select symbol part earlier = option_map (InSelect earlier) (step_in_column symbol part)

abbrev pub step_in_where : Symbol → ConditionPart → Selection → List ℕ → List (List ℕ) → List ConditionText → Option QueryPlace
step_in_where (Word AndWord) (HasCondition condition) selection table more earlier =
    Some (InWhere selection table more (earlier ++ condition ∷ []) (InMember WantsLeft))
step_in_where EndOfText (HasCondition condition) selection table more earlier =
    Some (Whole (query_text selection table more (earlier ++ condition ∷ [])))
step_in_where symbol part selection table more earlier =
    option_map (InWhere selection table more earlier) (step_in_condition symbol part)

abbrev pub step : QueryPlace → Symbol → Option QueryPlace
step Start (Word SelectWord) = Some (InSelect [] WantsColumn)
step HasStar (Word FromWord) = Some (WantsTable All [])
step (InSelect earlier part) symbol = step_in_select symbol part earlier
step (WantsTable selection earlier) (Name table) = Some (HasTable selection earlier table)
step (HasTable selection earlier table) Comma = Some (WantsTable selection (earlier ++ table ∷ []))
step (HasTable selection earlier table) (Word WhereWord) =
    Some (InWhere selection (first_item earlier table) (other_items earlier table) [] (InMember WantsLeft))
step (HasTable selection earlier table) EndOfText =
    Some (Whole (query_text selection (first_item earlier table) (other_items earlier table) []))
step (InWhere selection table more earlier part) symbol = step_in_where symbol part selection table more earlier
step _ _ = None

-- the tree of a text that was read whole. The tokens of a text end with its end, so no other place is the last one
abbrev pub whole_text : QueryPlace → Result QueryText ℕ
whole_text (Whole tree) = Ok tree
whole_text _ = Err 0

-- the tree that tokens lead to from a place, or the offset of the first one that leads nowhere
unfoldable pub read_from : QueryPlace → List Token → Result QueryText ℕ
read_from place [] = whole_text place
read_from place (token ∷ later) =
    elim (step place token.symbol) [ None ↦ Err token.at | Some next ↦ read_from next later ]

-- the tree of a text, or the offset of its syntax fault
abbrev pub syntax_of : List ℕ → Result QueryText ℕ
syntax_of text = read_from Start (tokens text)
