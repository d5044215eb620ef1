-- The grammar of a query text: the tree of a text, and the symbols that spell it, with one equation for each
-- alternative. A text selects all columns or names some, names its tables, and may have conditions joined by AND. Members
-- joined by OR stand in parentheses, two or more of them. A sign is a symbol of its own and stands before digits alone.
-- Names stand in lower case, as symbols have them.
use Rattle.std.specs.Prelude.{ℕ, Bool, true, false, List, [], ◌∷◌, ◌++◌}
use Rattle.ghost_model.specs.core.Query as query
use Rattle.ghost_model.specs.core.Query.{Operator}
use Rattle.ghost_model.specs.refusals.Tokens.{Symbol, Word, Name, Digits, Quoted, Open, Closing, Comma, Point, Star, PlusSign, MinusSign, EqualSign, UnequalSign, LessSign, AtMostSign, MoreSign, AtLeastSign, EndOfText, SelectWord, FromWord, WhereWord, AndWord, BetweenWord, IsWord, NotWord, NullWord, InWord, OrWord}
use Rattle.ghost_model.specs.refusals.Grammar.{separated}

-- a column, alone or after its table
pub data ColumnText : Type 0 where
  Bare : List ℕ → ColumnText
  Qualified : List ℕ → List ℕ → ColumnText

pub data Sign : Type 0 where
  Positive Negative : Sign

-- a number by its digits, with or without a sign, or a text by its value
pub data LiteralText : Type 0 where
  Unsigned : List ℕ → LiteralText
  Signed : Sign → List ℕ → LiteralText
  Written : List ℕ → LiteralText

-- a column and a literal, a column that is NULL or is not, or a column that is one of some literals
pub data MemberText : Type 0 where
  Compares : ColumnText → Operator → LiteralText → MemberText
  TestsNull : ColumnText → (negated : Bool) → MemberText
  IsIn : ColumnText → (first : LiteralText) → (others : List LiteralText) → MemberText

-- a member alone, members of which one is to be true, a column between two literals, or two columns that are equal
pub data ConditionText : Type 0 where
  Alone : MemberText → ConditionText
  AnyOf : (first second : MemberText) → (others : List MemberText) → ConditionText
  LiesBetween : ColumnText → LiteralText → LiteralText → ConditionText
  Joins : ColumnText → ColumnText → ConditionText

-- all columns, or one and those after it
pub data Selection : Type 0 where
  All : Selection
  Columns : ColumnText → List ColumnText → Selection

-- the selection, the first table and those after it, and the conditions, none where there is no WHERE
pub record QueryText : Type 0 where
  pub selection : Selection
  pub table : List ℕ
  pub more_tables : List (List ℕ)
  pub conditions : List ConditionText

abbrev pub spell_column : ColumnText → List Symbol
spell_column (Bare name) = Name name ∷ []
spell_column (Qualified table name) = Name table ∷ Point ∷ Name name ∷ []

abbrev pub spell_sign : Sign → Symbol
spell_sign Positive = PlusSign
spell_sign Negative = MinusSign

abbrev pub spell_operator : Operator → Symbol
spell_operator query.Equal = EqualSign
spell_operator query.Unequal = UnequalSign
spell_operator query.Less = LessSign
spell_operator query.AtMost = AtMostSign
spell_operator query.More = MoreSign
spell_operator query.AtLeast = AtLeastSign

abbrev pub spell_literal : LiteralText → List Symbol
spell_literal (Unsigned digits) = Digits digits ∷ []
spell_literal (Signed sign digits) = spell_sign sign ∷ Digits digits ∷ []
spell_literal (Written text) = Quoted text ∷ []

-- NOT, where it is written
abbrev pub spell_not : Bool → List Symbol
spell_not false = []
spell_not true = Word NotWord ∷ []

abbrev pub spell_member : MemberText → List Symbol
spell_member (Compares column operator literal) =
    spell_column column ++ (spell_operator operator ∷ spell_literal literal)
spell_member (TestsNull column negated) =
    spell_column column ++ (Word IsWord ∷ (spell_not negated ++ (Word NullWord ∷ [])))
spell_member (IsIn column first others) =
    spell_column column ++ (Word InWord ∷ Open ∷ (separated Comma spell_literal first others ++ (Closing ∷ [])))

abbrev pub spell_condition : ConditionText → List Symbol
spell_condition (Alone member) = spell_member member
spell_condition (AnyOf first second others) =
    Open ∷ (separated (Word OrWord) spell_member first (second ∷ others) ++ (Closing ∷ []))
spell_condition (LiesBetween column low high) =
    spell_column column ++ (Word BetweenWord ∷ (spell_literal low ++ (Word AndWord ∷ spell_literal high)))
spell_condition (Joins left right) = spell_column left ++ (EqualSign ∷ spell_column right)

abbrev pub spell_table : List ℕ → List Symbol
spell_table name = Name name ∷ []

abbrev pub spell_selection : Selection → List Symbol
spell_selection All = Star ∷ []
spell_selection (Columns column more) = separated Comma spell_column column more

abbrev pub spell_where : List ConditionText → List Symbol
spell_where [] = []
spell_where (condition ∷ more) = Word WhereWord ∷ separated (Word AndWord) spell_condition condition more

abbrev pub spelling : QueryText → List Symbol
spelling tree =
    Word SelectWord
    ∷ (spell_selection tree.selection
    ++ (Word FromWord
    ∷ (separated Comma spell_table tree.table tree.more_tables ++ (spell_where tree.conditions ++ (EndOfText ∷ [])))))
