-- What the parts of a query text that the code keeps stand for, in the words of the definitions.
use Rattle.ghost_model.specs.refusals.Tokens.{in_lower_case}
use Rattle.ghost_model.specs.refusals.QueryGrammar as grammar
use Rattle.ghost_model.specs.readings.QueryPlaces as places
use Rattle.ghost_base.specs.Views.{operator_of}
use Rattle.tree_schema.specs.Marks as marks
use Rattle.spj_parse.specs.declared.drafts.ColumnDraft.{ColumnDraft}
use Rattle.spj_parse.specs.declared.drafts.ColumnDraft.TheVariants as column
use Rattle.spj_parse.specs.declared.drafts.Sign.{Sign}
use Rattle.spj_parse.specs.declared.drafts.Sign.TheVariants as sign
use Rattle.spj_parse.specs.declared.drafts.LiteralDraft.{LiteralDraft}
use Rattle.spj_parse.specs.declared.drafts.LiteralDraft.TheVariants as literal
use Rattle.spj_parse.specs.declared.drafts.TestDraft.{TestDraft}
use Rattle.spj_parse.specs.declared.drafts.TestDraft.TheVariants as test
use Rattle.spj_parse.specs.declared.drafts.PieceDraft.{PieceDraft}
use Rattle.spj_parse.specs.declared.drafts.PieceDraft.TheVariants as piece
use Rattle.spj_parse.specs.declared.drafts.Item.{Item}
use Rattle.spj_parse.specs.declared.drafts.Item.TheVariants as item
use Rattle.spj_parse.specs.declared.spots.ColumnPart.{ColumnPart}
use Rattle.spj_parse.specs.declared.spots.ColumnPart.TheVariants as column_part
use Rattle.spj_parse.specs.declared.spots.MemberPart.{MemberPart}
use Rattle.spj_parse.specs.declared.spots.MemberPart.TheVariants as member_part
use Rattle.spj_parse.specs.declared.spots.BoundsPart.{BoundsPart}
use Rattle.spj_parse.specs.declared.spots.BoundsPart.TheVariants as bounds_part
use Rattle.spj_parse.specs.declared.spots.ConditionPart.{ConditionPart}
use Rattle.spj_parse.specs.declared.spots.ConditionPart.TheVariants as condition_part
use Rattle.spj_parse.specs.declared.spots.MemberTurn.{MemberTurn}
use Rattle.spj_parse.specs.declared.spots.MemberTurn.TheVariants as member_turn
use Rattle.spj_parse.specs.declared.spots.Spot.{Spot}
use Rattle.spj_parse.specs.declared.spots.Spot.TheVariants as spot
use Rattle.spj_parse.specs.declared.spots.Turn.{Turn}
use Rattle.spj_parse.specs.declared.spots.Turn.TheVariants as turn
use Rattle.spj_parse.specs.Items as items

abbrev pub column_of : ColumnDraft → grammar.ColumnText
column_of (column.Bare name) = grammar.Bare (in_lower_case name.now)
column_of (column.Qualified table name) = grammar.Qualified (in_lower_case table.now) (in_lower_case name.now)

abbrev pub sign_of : Sign → grammar.Sign
sign_of sign.Positive = grammar.Positive
sign_of sign.Negative = grammar.Negative

abbrev pub literal_of : LiteralDraft → grammar.LiteralText
literal_of (literal.Unsigned digits) = grammar.Unsigned digits.now
literal_of (literal.Signed s digits) = grammar.Signed (sign_of s) digits.now
literal_of (literal.Written bytes) = grammar.Written (marks.literal_of bytes.now)

abbrev pub test_text_of : TestDraft → items.TestText
test_text_of (test.Compares column operator literal) =
    items.Compares (column_of column) (operator_of operator) (literal_of literal)
test_text_of (test.TestsNull column negated) = items.TestsNull (column_of column) negated

abbrev pub piece_of : PieceDraft → items.Piece
piece_of (piece.Tests test more) = items.Tests (test_text_of test) more
piece_of (piece.LiesBetween column low high) = items.LiesBetween (column_of column) (literal_of low) (literal_of high)
piece_of (piece.Joins left right) = items.Joins (column_of left) (column_of right)

abbrev pub item_of : Item → items.Item
item_of item.Star = items.AllColumns
item_of (item.Selected column) = items.Selected (column_of column)
item_of (item.From table) = items.From (in_lower_case table.now)
item_of (item.Where piece) = items.Where (piece_of piece)

abbrev pub column_part_of : ColumnPart → places.ColumnPart
column_part_of column_part.WantsColumn = places.WantsColumn
column_part_of (column_part.HasTablePoint table) = places.HasTablePoint (in_lower_case table.now)
column_part_of (column_part.HasColumn column) = places.HasColumn (column_of column)

abbrev pub member_part_of : MemberPart → items.MemberSpot
member_part_of member_part.WantsLeft = items.WantsLeft
member_part_of (member_part.HasLeftPoint table) = items.HasLeftPoint (in_lower_case table.now)
member_part_of (member_part.HasLeft column) = items.HasLeft (column_of column)
member_part_of (member_part.HasOperator column operator) = items.HasOperator (column_of column) (operator_of operator)
member_part_of (member_part.HasSign column operator s) =
    items.HasSign (column_of column) (operator_of operator) (sign_of s)
member_part_of (member_part.HasIs column negated) = items.HasIs (column_of column) negated
member_part_of (member_part.HasIn column) = items.HasIn (column_of column)
member_part_of (member_part.WantsListed column) = items.WantsListed (column_of column)
member_part_of (member_part.HasListedSign column s) = items.HasListedSign (column_of column) (sign_of s)
member_part_of (member_part.HasListed column literal) = items.HasListed (column_of column) (literal_of literal)

abbrev pub bounds_part_of : BoundsPart → items.BoundsSpot
bounds_part_of (bounds_part.WantsLow column) = items.WantsLow (column_of column)
bounds_part_of (bounds_part.HasLowSign column s) = items.HasLowSign (column_of column) (sign_of s)
bounds_part_of (bounds_part.HasLow column low) = items.HasLow (column_of column) (literal_of low)
bounds_part_of (bounds_part.WantsHigh column low) = items.WantsHigh (column_of column) (literal_of low)
bounds_part_of (bounds_part.HasHighSign column low s) =
    items.HasHighSign (column_of column) (literal_of low) (sign_of s)

abbrev pub condition_part_of : ConditionPart → items.ConditionSpot
condition_part_of (condition_part.InMember part) = items.InMember (member_part_of part)
condition_part_of (condition_part.InGroup first part) = items.InGroup first (member_part_of part)
condition_part_of (condition_part.HasGrouped first test) = items.HasGrouped first (test_text_of test)
condition_part_of (condition_part.InBounds part) = items.InBounds (bounds_part_of part)
condition_part_of (condition_part.HasRightPoint left table) =
    items.HasRightPoint (column_of left) (in_lower_case table.now)
condition_part_of (condition_part.HasPiece piece) = items.HasPiece (piece_of piece)

abbrev pub member_turn_of : MemberTurn → items.MemberTurn
member_turn_of (member_turn.GoesOn part) = items.GoesOn (member_part_of part)
member_turn_of (member_turn.Lists test part) = items.Lists (test_text_of test) (member_part_of part)
member_turn_of (member_turn.IsWhole test) = items.IsWhole (test_text_of test)
member_turn_of member_turn.Fails = items.Fails

abbrev pub spot_of : Spot → items.Spot
spot_of spot.Start = items.Start
spot_of spot.HasStar = items.HasStar
spot_of (spot.InSelect first part) = items.InSelect first (column_part_of part)
spot_of spot.WantsTable = items.WantsTable
spot_of (spot.HasTable table) = items.HasTable (in_lower_case table.now)
spot_of (spot.InWhere part) = items.InWhere (condition_part_of part)
spot_of spot.Whole = items.Whole

abbrev pub turn_of : Turn → items.Turn
turn_of (turn.Goes next) = items.Goes (spot_of next)
turn_of (turn.Gives given next) = items.Gives (item_of given) (spot_of next)
turn_of turn.Stops = items.Stops
