-- The things that a query text names, in its order: `*` or the selected columns, the tables, the parts of the conditions. They
-- can be read one after another, with no memory of those before: where a text was read to is a spot, and a token leads from
-- there to another spot, perhaps past the end of a thing, or nowhere. Of a group each test is a thing of its own, which says
-- whether another test of the group follows it.
use Rattle.std.specs.Prelude.{ℕ, Bool, true, false, List, [], ◌∷◌, ◌++◌, map, flat_map, Option, Some, None}
use Rattle.ghost_model.specs.core.Query as query
use Rattle.ghost_model.specs.core.Query.{Operator}
use Rattle.ghost_model.specs.refusals.Tokens as tokens
use Rattle.ghost_model.specs.refusals.Tokens.{Symbol, Token, Word, Name, Digits, Quoted, Open, Closing, Comma, Point, Star, PlusSign, MinusSign, EqualSign, UnequalSign, LessSign, AtMostSign, MoreSign, AtLeastSign, EndOfText}
use Rattle.ghost_model.specs.refusals.QueryGrammar as grammar
use Rattle.ghost_model.specs.refusals.QueryGrammar.{ColumnText, Bare, Qualified, Sign, Positive, Negative, LiteralText, Unsigned, Signed, Written, MemberText, ConditionText, Selection, All, Columns, QueryText}
use Rattle.ghost_model.specs.readings.QueryPlaces.{ColumnPart, WantsColumn, HasColumn, step_in_column}

-- a test of a column: by a literal, or that it is NULL or is not
pub data TestText : Type 0 where
  Compares : ColumnText → Operator → LiteralText → TestText
  TestsNull : ColumnText → (negated : Bool) → TestText

-- a test and whether another one of its group follows, a column between two literals, or two columns that are equal
pub data Piece : Type 0 where
  Tests : TestText → (more : Bool) → Piece
  LiesBetween : ColumnText → LiteralText → LiteralText → Piece
  Joins : ColumnText → ColumnText → Piece

pub data Item : Type 0 where
  AllColumns : Item
  Selected : ColumnText → Item
  From : List ℕ → Item
  Where : Piece → Item

-- the things that the tree of a text names

abbrev pub selection_items : Selection → List Item
selection_items All = AllColumns ∷ []
selection_items (Columns column more) = Selected column ∷ map Selected more

-- IN is a test of equality with each of its literals
abbrev pub tests_in : MemberText → List TestText
tests_in (grammar.Compares column operator literal) = Compares column operator literal ∷ []
tests_in (grammar.TestsNull column negated) = TestsNull column negated ∷ []
tests_in (grammar.IsIn column first others) = map (Compares column query.Equal) (first ∷ others)

-- tests that are one group
abbrev pub group_items : List TestText → List Item
group_items [] = []
group_items (last ∷ []) = Where (Tests last false) ∷ []
group_items (test ∷ next ∷ tests) = Where (Tests test true) ∷ group_items (next ∷ tests)

abbrev pub condition_items : ConditionText → List Item
condition_items (grammar.Alone member) = group_items (tests_in member)
condition_items (grammar.AnyOf first second others) = group_items (flat_map tests_in (first ∷ second ∷ others))
condition_items (grammar.LiesBetween column low high) = Where (LiesBetween column low high) ∷ []
condition_items (grammar.Joins left right) = Where (Joins left right) ∷ []

abbrev pub items_of : QueryText → List Item
items_of tree =
    selection_items tree.selection ++ (map From (tree.table ∷ tree.more_tables) ++ flat_map condition_items tree.conditions)

-- where a text was read to

-- in a member that is not whole yet; of an IN the literal at hand alone
pub data MemberSpot : Type 0 where
  WantsLeft : MemberSpot
  HasLeftPoint : List ℕ → MemberSpot
  HasLeft : ColumnText → MemberSpot
  HasOperator : ColumnText → Operator → MemberSpot
  HasSign : ColumnText → Operator → Sign → MemberSpot
  HasIs : ColumnText → (negated : Bool) → MemberSpot
  HasIn : ColumnText → MemberSpot
  WantsListed : ColumnText → MemberSpot
  HasListedSign : ColumnText → Sign → MemberSpot
  HasListed : ColumnText → LiteralText → MemberSpot

-- behind BETWEEN
pub data BoundsSpot : Type 0 where
  WantsLow : ColumnText → BoundsSpot
  HasLowSign : ColumnText → Sign → BoundsSpot
  HasLow : ColumnText → LiteralText → BoundsSpot
  WantsHigh : ColumnText → LiteralText → BoundsSpot
  HasHighSign : ColumnText → LiteralText → Sign → BoundsSpot

-- in a condition: in a member that stands alone, in a member of a group or behind the last test of one, `first` saying whether it is
-- the group's first member, between two literals, in a join, or behind what may stand as it is
pub data ConditionSpot : Type 0 where
  InMember : MemberSpot → ConditionSpot
  InGroup : (first : Bool) → MemberSpot → ConditionSpot
  HasGrouped : (first : Bool) → TestText → ConditionSpot
  InBounds : BoundsSpot → ConditionSpot
  HasRightPoint : ColumnText → List ℕ → ConditionSpot
  HasPiece : Piece → ConditionSpot

-- in a text; `InSelect` says whether the select list has just begun
pub data Spot : Type 0 where
  Start : Spot
  HasStar : Spot
  InSelect : (first : Bool) → ColumnPart → Spot
  WantsTable : Spot
  HasTable : List ℕ → Spot
  InWhere : ConditionSpot → Spot
  Whole : Spot

-- what a token does: it leads to a spot, it leads there past the end of a thing, or it leads nowhere
pub data Turn : Type 0 where
  Goes : Spot → Turn
  Gives : Item → Spot → Turn
  Stops : Turn

-- what a token does in a member: the member goes on, it goes on past a test that has another behind it, it is whole with its last
-- test, or the token leads nowhere
pub data MemberTurn : Type 0 where
  GoesOn : MemberSpot → MemberTurn
  Lists : TestText → MemberSpot → MemberTurn
  IsWhole : TestText → MemberTurn
  Fails : MemberTurn

abbrev pub in_select : (first : Bool) → Option ColumnPart → Turn
in_select first None = Stops
in_select first (Some part) = Goes (InSelect first part)

abbrev pub turn_in_select : Symbol → ColumnPart → (first : Bool) → Turn
turn_in_select Star WantsColumn true = Goes HasStar
turn_in_select Comma (HasColumn column) first = Gives (Selected column) (InSelect false WantsColumn)
turn_in_select (Word tokens.FromWord) (HasColumn column) first = Gives (Selected column) WantsTable
turn_in_select symbol part first = in_select first (step_in_column symbol part)

abbrev pub turn_in_member : Symbol → MemberSpot → MemberTurn
turn_in_member (Name name) WantsLeft = GoesOn (HasLeft (Bare name))
turn_in_member (Name name) (HasLeftPoint table) = GoesOn (HasLeft (Qualified table name))
turn_in_member Point (HasLeft (Bare name)) = GoesOn (HasLeftPoint name)
turn_in_member EqualSign (HasLeft column) = GoesOn (HasOperator column query.Equal)
turn_in_member UnequalSign (HasLeft column) = GoesOn (HasOperator column query.Unequal)
turn_in_member LessSign (HasLeft column) = GoesOn (HasOperator column query.Less)
turn_in_member AtMostSign (HasLeft column) = GoesOn (HasOperator column query.AtMost)
turn_in_member MoreSign (HasLeft column) = GoesOn (HasOperator column query.More)
turn_in_member AtLeastSign (HasLeft column) = GoesOn (HasOperator column query.AtLeast)
turn_in_member (Word tokens.IsWord) (HasLeft column) = GoesOn (HasIs column false)
turn_in_member (Word tokens.InWord) (HasLeft column) = GoesOn (HasIn column)
turn_in_member (Word tokens.NotWord) (HasIs column false) = GoesOn (HasIs column true)
turn_in_member (Word tokens.NullWord) (HasIs column negated) = IsWhole (TestsNull column negated)
turn_in_member PlusSign (HasOperator column operator) = GoesOn (HasSign column operator Positive)
turn_in_member MinusSign (HasOperator column operator) = GoesOn (HasSign column operator Negative)
turn_in_member (Digits digits) (HasOperator column operator) = IsWhole (Compares column operator (Unsigned digits))
turn_in_member (Quoted text) (HasOperator column operator) = IsWhole (Compares column operator (Written text))
turn_in_member (Digits digits) (HasSign column operator sign) = IsWhole (Compares column operator (Signed sign digits))
turn_in_member Open (HasIn column) = GoesOn (WantsListed column)
turn_in_member PlusSign (WantsListed column) = GoesOn (HasListedSign column Positive)
turn_in_member MinusSign (WantsListed column) = GoesOn (HasListedSign column Negative)
turn_in_member (Digits digits) (WantsListed column) = GoesOn (HasListed column (Unsigned digits))
turn_in_member (Quoted text) (WantsListed column) = GoesOn (HasListed column (Written text))
turn_in_member (Digits digits) (HasListedSign column sign) = GoesOn (HasListed column (Signed sign digits))
turn_in_member Comma (HasListed column literal) = Lists (Compares column query.Equal literal) (WantsListed column)
turn_in_member Closing (HasListed column literal) = IsWhole (Compares column query.Equal literal)
turn_in_member _ _ = Fails

-- a member that stands alone, and one of a group
abbrev pub alone : MemberTurn → Turn
alone (GoesOn spot) = Goes (InWhere (InMember spot))
alone (Lists test spot) = Gives (Where (Tests test true)) (InWhere (InMember spot))
alone (IsWhole test) = Goes (InWhere (HasPiece (Tests test false)))
alone Fails = Stops

abbrev pub grouped : (first : Bool) → MemberTurn → Turn
grouped first (GoesOn spot) = Goes (InWhere (InGroup first spot))
grouped first (Lists test spot) = Gives (Where (Tests test true)) (InWhere (InGroup first spot))
grouped first (IsWhole test) = Goes (InWhere (HasGrouped first test))
grouped first Fails = Stops

-- where a condition that begins as a member does is something else
abbrev pub otherwise : Symbol → MemberSpot → Option ConditionSpot
otherwise Open WantsLeft = Some (InGroup true WantsLeft)
otherwise (Word tokens.BetweenWord) (HasLeft column) = Some (InBounds (WantsLow column))
otherwise (Name name) (HasOperator column query.Equal) = Some (HasPiece (Joins column (Bare name)))
otherwise _ _ = None

abbrev pub unless_member : Option ConditionSpot → MemberTurn → Turn
unless_member None turn = alone turn
unless_member (Some spot) turn = Goes (InWhere spot)

abbrev pub turn_in_bounds : Symbol → BoundsSpot → Turn
turn_in_bounds PlusSign (WantsLow column) = Goes (InWhere (InBounds (HasLowSign column Positive)))
turn_in_bounds MinusSign (WantsLow column) = Goes (InWhere (InBounds (HasLowSign column Negative)))
turn_in_bounds (Digits digits) (WantsLow column) = Goes (InWhere (InBounds (HasLow column (Unsigned digits))))
turn_in_bounds (Quoted text) (WantsLow column) = Goes (InWhere (InBounds (HasLow column (Written text))))
turn_in_bounds (Digits digits) (HasLowSign column sign) = Goes (InWhere (InBounds (HasLow column (Signed sign digits))))
turn_in_bounds (Word tokens.AndWord) (HasLow column low) = Goes (InWhere (InBounds (WantsHigh column low)))
turn_in_bounds PlusSign (WantsHigh column low) = Goes (InWhere (InBounds (HasHighSign column low Positive)))
turn_in_bounds MinusSign (WantsHigh column low) = Goes (InWhere (InBounds (HasHighSign column low Negative)))
turn_in_bounds (Digits digits) (WantsHigh column low) = Goes (InWhere (HasPiece (LiesBetween column low (Unsigned digits))))
turn_in_bounds (Quoted text) (WantsHigh column low) = Goes (InWhere (HasPiece (LiesBetween column low (Written text))))
turn_in_bounds (Digits digits) (HasHighSign column low sign) =
    Goes (InWhere (HasPiece (LiesBetween column low (Signed sign digits))))
turn_in_bounds _ _ = Stops

-- behind a member of a group
abbrev pub turn_in_group : Symbol → (first : Bool) → TestText → Turn
turn_in_group (Word tokens.OrWord) first test = Gives (Where (Tests test true)) (InWhere (InGroup false WantsLeft))
turn_in_group Closing false test = Goes (InWhere (HasPiece (Tests test false)))
turn_in_group _ first test = Stops

-- behind what may stand as it is: a table's name in a join may have its column behind it
abbrev pub turn_behind : Symbol → Piece → Turn
turn_behind (Word tokens.AndWord) piece = Gives (Where piece) (InWhere (InMember WantsLeft))
turn_behind EndOfText piece = Gives (Where piece) Whole
turn_behind Point (Joins left (Bare table)) = Goes (InWhere (HasRightPoint left table))
turn_behind _ piece = Stops

abbrev pub turn_at_right : Symbol → ColumnText → (table : List ℕ) → Turn
turn_at_right (Name name) left table = Goes (InWhere (HasPiece (Joins left (Qualified table name))))
turn_at_right _ left table = Stops

abbrev pub turn_in_where : Symbol → ConditionSpot → Turn
turn_in_where symbol (InMember spot) = unless_member (otherwise symbol spot) (turn_in_member symbol spot)
turn_in_where symbol (InGroup first spot) = grouped first (turn_in_member symbol spot)
turn_in_where symbol (HasGrouped first test) = turn_in_group symbol first test
turn_in_where symbol (InBounds spot) = turn_in_bounds symbol spot
turn_in_where symbol (HasRightPoint left table) = turn_at_right symbol left table
turn_in_where symbol (HasPiece piece) = turn_behind symbol piece

abbrev pub turn : Spot → Symbol → Turn
turn Start (Word tokens.SelectWord) = Goes (InSelect true WantsColumn)
turn HasStar (Word tokens.FromWord) = Gives AllColumns WantsTable
turn (InSelect first part) symbol = turn_in_select symbol part first
turn WantsTable (Name table) = Goes (HasTable table)
turn (HasTable table) Comma = Gives (From table) WantsTable
turn (HasTable table) (Word tokens.WhereWord) = Gives (From table) (InWhere (InMember WantsLeft))
turn (HasTable table) EndOfText = Gives (From table) Whole
turn (InWhere spot) symbol = turn_in_where symbol spot
turn _ _ = Stops

-- the things that are named from a spot on, as far as the tokens lead on
unfoldable pub items_from : Spot → List Token → List Item
items_from spot [] = []
items_from spot (token ∷ later) =
    elim (turn spot token.symbol) [
      | Goes next ↦ items_from next later
      | Gives item next ↦ item ∷ items_from next later
      | Stops ↦ []
    ]

abbrev pub items_in : List ℕ → List Item
items_in text = items_from Start (tokens.tokens text)
