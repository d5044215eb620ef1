-- The things that a text names are those of its tree: a spot is a place of the grammar without the parts that were read,
-- and each token leads from both alike.
use Rattle.std.proofs.Common.{◌≡◌, ℕ, true, false, List, [], ◌∷◌, ◌++◌, map, flat_map, Option, Some, None, option_map, Result, Ok, Err, append_assoc, append-nil, ◌⊎◌, inl, inr, refl, ap, ap₂, sym, subst, ◌∙◌}
use Rattle.std.proofs.lemmas.List.{map-append}
use Rattle.std.proofs.lemmas.Grind.{flat_map-append}
use Rattle.ghost_model.specs.core.Query as query
use Rattle.ghost_model.specs.core.Schema.{is_empty}
use Rattle.ghost_model.specs.refusals.Tokens as tokens
use Rattle.ghost_model.specs.refusals.Tokens.{Symbol, Token, Word, Name, Digits, Quoted, Open, Closing, Comma, Point, Star, PlusSign, MinusSign, EqualSign, UnequalSign, LessSign, AtMostSign, MoreSign, AtLeastSign, EndOfText}
use Rattle.ghost_model.specs.refusals.QueryGrammar as grammar
use Rattle.ghost_model.specs.refusals.QueryGrammar.{ColumnText, MemberText, ConditionText, Selection, QueryText}
use Rattle.ghost_model.specs.readings.QueryPlaces as places
use Rattle.ghost_model.specs.readings.QueryPlaces.{QueryPlace, ColumnPart, WantsColumn, HasColumn, MemberPart, MemberStep, ConditionPart, HasCondition, first_item, other_items, step, step_in_column, step_in_member, step_in_select, step_in_where, step_alone, group_text, read_from, whole_text, syntax_of}
use Rattle.spj_parse.specs.declared.spots.Spot as drafts_spot
use Rattle.spj_parse.specs.declared.spots.Spot.TheVariants as spot_variant
use Rattle.spj_parse.specs.Drafts.{column_part_of, condition_part_of, spot_of}
use Rattle.spj_parse.specs.Walks.{HasTree}
use Rattle.spj_parse.specs.Items as items
use Rattle.spj_parse.specs.Items.{TestText, Tests, Item, Selected, From, Where, selection_items, tests_in, group_items, condition_items, items_of, MemberSpot, ConditionSpot, Spot, Start, HasStar, InSelect, WantsTable, HasTable, InWhere, Whole, Turn, Goes, Gives, Stops, MemberTurn, GoesOn, Lists, IsWhole, Fails, turn, in_select, turn_in_select, turn_in_member, turn_in_where, unless_member, otherwise, items_from}

-- the first element and those behind it, without the last one; and the last one
abbrev front_of : {X : Type 0} → (first : X) → List X → List X
front_of first [] = []
front_of first (next ∷ others) = first ∷ front_of next others

abbrev last_of : {X : Type 0} → (first : X) → List X → X
last_of first [] = first
last_of first (next ∷ others) = last_of next others

-- the tests of a member without the last one, and the last one
abbrev front_tests : MemberText → List TestText
front_tests (grammar.Compares column operator literal) = []
front_tests (grammar.TestsNull column negated) = []
front_tests (grammar.IsIn column first others) = map (items.Compares column query.Equal) (front_of first others)

abbrev last_test : MemberText → TestText
last_test (grammar.Compares column operator literal) = items.Compares column operator literal
last_test (grammar.TestsNull column negated) = items.TestsNull column negated
last_test (grammar.IsIn column first others) = items.Compares column query.Equal (last_of first others)

-- tests that have another one of their group behind them
abbrev followed : List TestText → List Item
followed tests = map (λ test. Where (Tests test true)) tests

-- the spot of a place in a member, and the tests that end before it
abbrev forget_member : MemberPart → MemberSpot
forget_member places.WantsLeft = items.WantsLeft
forget_member (places.HasLeftPoint table) = items.HasLeftPoint table
forget_member (places.HasLeft column) = items.HasLeft column
forget_member (places.HasOperator column operator) = items.HasOperator column operator
forget_member (places.HasSign column operator sign) = items.HasSign column operator sign
forget_member (places.HasIs column negated) = items.HasIs column negated
forget_member (places.HasIn column) = items.HasIn column
forget_member (places.WantsListed column earlier) = items.WantsListed column
forget_member (places.HasListedSign column earlier sign) = items.HasListedSign column sign
forget_member (places.HasListed column earlier last) = items.HasListed column last

abbrev listed : MemberPart → List TestText
listed (places.WantsListed column earlier) = map (items.Compares column query.Equal) earlier
listed (places.HasListedSign column earlier sign) = map (items.Compares column query.Equal) earlier
listed (places.HasListed column earlier last) = map (items.Compares column query.Equal) earlier
listed _ = []

-- the same of a place in a condition
abbrev forget_whole : ConditionText → items.Piece
forget_whole (grammar.Alone member) = Tests (last_test member) false
forget_whole (grammar.AnyOf first second others) = Tests (last_test (last_of second others)) false
forget_whole (grammar.LiesBetween column low high) = items.LiesBetween column low high
forget_whole (grammar.Joins left right) = items.Joins left right

abbrev front_of_whole : ConditionText → List TestText
front_of_whole (grammar.Alone member) = front_tests member
front_of_whole (grammar.AnyOf first second others) =
    flat_map tests_in (front_of first (second ∷ others)) ++ front_tests (last_of second others)
front_of_whole (grammar.LiesBetween column low high) = []
front_of_whole (grammar.Joins left right) = []

abbrev forget_condition : ConditionPart → ConditionSpot
forget_condition (places.InMember part) = items.InMember (forget_member part)
forget_condition (places.InGroup earlier part) = items.InGroup (is_empty earlier) (forget_member part)
forget_condition (places.HasGrouped earlier member) = items.HasGrouped (is_empty earlier) (last_test member)
forget_condition (places.HasRightPoint left table) = items.HasRightPoint left table
forget_condition (places.WantsLow column) = items.InBounds (items.WantsLow column)
forget_condition (places.HasLowSign column sign) = items.InBounds (items.HasLowSign column sign)
forget_condition (places.HasLow column low) = items.InBounds (items.HasLow column low)
forget_condition (places.WantsHigh column low) = items.InBounds (items.WantsHigh column low)
forget_condition (places.HasHighSign column low sign) = items.InBounds (items.HasHighSign column low sign)
forget_condition (HasCondition condition) = items.HasPiece (forget_whole condition)

abbrev tests_before : ConditionPart → List TestText
tests_before (places.InMember part) = listed part
tests_before (places.InGroup earlier part) = flat_map tests_in earlier ++ listed part
tests_before (places.HasGrouped earlier member) = flat_map tests_in earlier ++ front_tests member
tests_before (HasCondition condition) = front_of_whole condition
tests_before _ = []

-- the spot of a place
abbrev pub forget : QueryPlace → Spot
forget places.Start = Start
forget places.HasStar = HasStar
forget (places.InSelect earlier part) = InSelect (is_empty earlier) part
forget (places.WantsTable selection earlier) = WantsTable
forget (places.HasTable selection earlier table) = HasTable table
forget (places.InWhere selection table more earlier part) = InWhere (forget_condition part)
forget (places.Whole tree) = Whole

-- the things that end before a place
abbrev pub items_before : QueryPlace → List Item
items_before places.Start = []
items_before places.HasStar = []
items_before (places.InSelect earlier part) = map Selected earlier
items_before (places.WantsTable selection earlier) = selection_items selection ++ map From earlier
items_before (places.HasTable selection earlier table) = selection_items selection ++ map From earlier
items_before (places.InWhere selection table more earlier part) =
    selection_items selection
    ++ (map From (table ∷ more) ++ (flat_map condition_items earlier ++ followed (tests_before part)))
items_before (places.Whole tree) = items_of tree

-- a token leads alike from a place and from its spot
abbrev pub Alike : QueryPlace → Option QueryPlace → Turn → Type 0
Alike place None Stops = Unit {0}
Alike place (Some next) (Goes spot) = (forget next ≡ spot) × (items_before next ≡ items_before place)
Alike place (Some next) (Gives item spot) = (forget next ≡ spot) × (items_before next ≡ items_before place ++ item ∷ [])
Alike place _ _ = ⊥

one_more : {X : Type 0} (make : X → Item) (earlier : List X) (last : X) → map make (earlier ++ last ∷ []) ≡ map make earlier ++ make last ∷ []
one_more make earlier last = map-append make earlier (last ∷ [])

not_first : {X : Type 0} (earlier : List X) (last : X) → is_empty (earlier ++ last ∷ []) ≡ false
not_first [] last = refl
not_first (_ ∷ _) last = refl

whole_list : {X : Type 0} (make : X → Item) (earlier : List X) (last : X) → map make (first_item earlier last ∷ other_items earlier last) ≡ map make earlier ++ make last ∷ []
whole_list make [] last = refl
whole_list make (x ∷ xs) last = ap (λ others. make x ∷ others) (one_more make xs last)

on_in_select : (earlier : List ColumnText) (part : ColumnPart) (next : Option ColumnPart)
    → Alike (places.InSelect earlier part) (option_map (places.InSelect earlier) next) (in_select (is_empty earlier) next)
on_in_select earlier part None = tt
on_in_select earlier part (Some next) = (refl, refl)

selects : (symbol : Symbol) (part : ColumnPart) (earlier : List ColumnText)
    → Alike (places.InSelect earlier part) (step_in_select symbol part earlier) (turn_in_select symbol part (is_empty earlier))
selects Star WantsColumn [] = (refl, refl)
selects Star WantsColumn (_ ∷ _) = tt
selects Comma (HasColumn column) earlier = (ap (λ first. InSelect first WantsColumn) (not_first earlier column), one_more Selected earlier column)
selects (Word tokens.FromWord) (HasColumn column) earlier = (refl, append-nil (map Selected (first_item earlier column ∷ other_items earlier column)) ∙ whole_list Selected earlier column)
selects symbol part earlier = on_in_select earlier part (step_in_column symbol part)

-- members

-- the elements before the last one, and the last one, where another comes behind some
front_behind : {X : Type 0} (first : X) (others : List X) (last : X) → front_of first (others ++ last ∷ []) ≡ first ∷ others
front_behind first [] last = refl
front_behind first (next ∷ others) last = ap (λ rest. first ∷ rest) (front_behind next others last)

front_again : {X : Type 0} (earlier : List X) (last : X) → front_of (first_item earlier last) (other_items earlier last) ≡ earlier
front_again [] last = refl
front_again (x ∷ xs) last = front_behind x xs last

last_behind : {X : Type 0} (first : X) (others : List X) (last : X) → last_of first (others ++ last ∷ []) ≡ last
last_behind first [] last = refl
last_behind first (next ∷ others) last = last_behind next others last

last_again : {X : Type 0} (earlier : List X) (last : X) → last_of (first_item earlier last) (other_items earlier last) ≡ last
last_again [] last = refl
last_again (x ∷ xs) last = last_behind x xs last

-- a token leads alike from a place in a member and from its spot
abbrev MemberAlike : MemberPart → Option MemberStep → MemberTurn → Type 0
MemberAlike part None Fails = Unit {0}
MemberAlike part (Some (places.GoesOn next)) (GoesOn spot) = (forget_member next ≡ spot) × (listed next ≡ listed part)
MemberAlike part (Some (places.GoesOn next)) (Lists test spot) =
    (forget_member next ≡ spot) × (listed next ≡ listed part ++ test ∷ [])
MemberAlike part (Some (places.IsWhole member)) (IsWhole test) = (last_test member ≡ test) × (front_tests member ≡ listed part)
MemberAlike part _ _ = ⊥

members : (symbol : Symbol) (part : MemberPart) → MemberAlike part (step_in_member symbol part) (turn_in_member symbol (forget_member part))
members (Name name) places.WantsLeft = (refl, refl)
members (Name name) (places.HasLeftPoint table) = (refl, refl)
members Point (places.HasLeft (grammar.Bare name)) = (refl, refl)
members EqualSign (places.HasLeft column) = (refl, refl)
members UnequalSign (places.HasLeft column) = (refl, refl)
members LessSign (places.HasLeft column) = (refl, refl)
members AtMostSign (places.HasLeft column) = (refl, refl)
members MoreSign (places.HasLeft column) = (refl, refl)
members AtLeastSign (places.HasLeft column) = (refl, refl)
members (Word tokens.IsWord) (places.HasLeft column) = (refl, refl)
members (Word tokens.InWord) (places.HasLeft column) = (refl, refl)
members (Word tokens.NotWord) (places.HasIs column false) = (refl, refl)
members (Word tokens.NullWord) (places.HasIs column negated) = (refl, refl)
members PlusSign (places.HasOperator column operator) = (refl, refl)
members MinusSign (places.HasOperator column operator) = (refl, refl)
members (Digits digits) (places.HasOperator column operator) = (refl, refl)
members (Quoted text) (places.HasOperator column operator) = (refl, refl)
members (Digits digits) (places.HasSign column operator sign) = (refl, refl)
members Open (places.HasIn column) = (refl, refl)
members PlusSign (places.WantsListed column earlier) = (refl, refl)
members MinusSign (places.WantsListed column earlier) = (refl, refl)
members (Digits digits) (places.WantsListed column earlier) = (refl, refl)
members (Quoted text) (places.WantsListed column earlier) = (refl, refl)
members (Digits digits) (places.HasListedSign column earlier sign) = (refl, refl)
members Comma (places.HasListed column earlier last) =
    (refl, map-append (items.Compares column query.Equal) earlier (last ∷ []))
members Closing (places.HasListed column earlier last) =
    (ap (items.Compares column query.Equal) (last_again earlier last), ap (map (items.Compares column query.Equal)) (front_again earlier last))
members _ _ = tt

-- the tests of a member are those before its last one and the last one
lasts : {X : Type 0} (make : X → TestText) (first : X) (others : List X)
    → map make (first ∷ others) ≡ map make (front_of first others) ++ make (last_of first others) ∷ []
lasts make first [] = refl
lasts make first (next ∷ others) = ap (λ rest. make first ∷ rest) (lasts make next others)

tests_again : (member : MemberText) → tests_in member ≡ front_tests member ++ last_test member ∷ []
tests_again (grammar.Compares column operator literal) = refl
tests_again (grammar.TestsNull column negated) = refl
tests_again (grammar.IsIn column first others) = lasts (items.Compares column query.Equal) first others

all_tests : (earlier : List MemberText) (member : MemberText)
    → flat_map tests_in (earlier ++ member ∷ []) ≡ (flat_map tests_in earlier ++ front_tests member) ++ last_test member ∷ []
all_tests earlier member =
    flat_map-append tests_in earlier (member ∷ [])
    ∙ ap (λ rest. flat_map tests_in earlier ++ rest) (append-nil (tests_in member) ∙ tests_again member)
    ∙ sym (append_assoc (flat_map tests_in earlier) (front_tests member) (last_test member ∷ []))

-- the last test of a group ends it
group_again : (tests : List TestText) (last : TestText) → group_items (tests ++ last ∷ []) ≡ followed tests ++ Where (Tests last false) ∷ []
group_again [] last = refl
group_again (test ∷ []) last = refl
group_again (test ∷ next ∷ tests) last = ap (λ rest. Where (Tests test true) ∷ rest) (group_again (next ∷ tests) last)

split_again : (first : MemberText) (others : List MemberText)
    → flat_map tests_in (first ∷ others) ≡ (flat_map tests_in (front_of first others) ++ front_tests (last_of first others)) ++ last_test (last_of first others) ∷ []
split_again first [] = all_tests [] first
split_again first (next ∷ others) =
    ap (λ rest. tests_in first ++ rest) (split_again next others)
    ∙ sym (append_assoc (tests_in first) (flat_map tests_in (front_of next others) ++ front_tests (last_of next others)) (last_test (last_of next others) ∷ []))
    ∙ ap (λ rest. rest ++ last_test (last_of next others) ∷ []) (sym (append_assoc (tests_in first) (flat_map tests_in (front_of next others)) (front_tests (last_of next others))))

whole_condition : (condition : ConditionText) → condition_items condition ≡ followed (front_of_whole condition) ++ Where (forget_whole condition) ∷ []
whole_condition (grammar.Alone member) = ap group_items (tests_again member) ∙ group_again (front_tests member) (last_test member)
whole_condition (grammar.AnyOf first second others) =
    ap group_items (split_again first (second ∷ others))
    ∙ group_again (flat_map tests_in (front_of first (second ∷ others)) ++ front_tests (last_of second others)) (last_test (last_of second others))
whole_condition (grammar.LiesBetween column low high) = refl
whole_condition (grammar.Joins left right) = refl

-- conditions

-- a token leads alike from a place in a condition and from its spot
abbrev ConditionAlike : ConditionPart → Option ConditionPart → Turn → Type 0
ConditionAlike part None Stops = Unit {0}
ConditionAlike part (Some next) (Goes (InWhere spot)) = (forget_condition next ≡ spot) × (tests_before next ≡ tests_before part)
ConditionAlike part (Some next) (Gives (Where (Tests test true)) (InWhere spot)) =
    (forget_condition next ≡ spot) × (tests_before next ≡ tests_before part ++ test ∷ [])
ConditionAlike part _ _ = ⊥

on_alone : (part : MemberPart) (next : Option MemberStep) (turn : MemberTurn) → MemberAlike part next turn
    → ConditionAlike (places.InMember part) (option_map places.alone next) (items.alone turn)
on_alone part None Fails h = tt
on_alone part None (GoesOn _) h = absurd h
on_alone part None (Lists _ _) h = absurd h
on_alone part None (IsWhole _) h = absurd h
on_alone part (Some (places.GoesOn next)) (GoesOn spot) h = (ap items.InMember h.0, h.1)
on_alone part (Some (places.GoesOn next)) (Lists test spot) h = (ap items.InMember h.0, h.1)
on_alone part (Some (places.GoesOn next)) (IsWhole _) h = absurd h
on_alone part (Some (places.GoesOn next)) Fails h = absurd h
on_alone part (Some (places.IsWhole member)) (IsWhole test) h = (ap (λ one. items.HasPiece (Tests one false)) h.0, h.1)
on_alone part (Some (places.IsWhole member)) (GoesOn _) h = absurd h
on_alone part (Some (places.IsWhole member)) (Lists _ _) h = absurd h
on_alone part (Some (places.IsWhole member)) Fails h = absurd h

on_grouped : (earlier : List MemberText) (part : MemberPart) (next : Option MemberStep) (turn : MemberTurn) → MemberAlike part next turn
    → ConditionAlike (places.InGroup earlier part) (option_map (places.grouped earlier) next) (items.grouped (is_empty earlier) turn)
on_grouped earlier part None Fails h = tt
on_grouped earlier part None (GoesOn _) h = absurd h
on_grouped earlier part None (Lists _ _) h = absurd h
on_grouped earlier part None (IsWhole _) h = absurd h
on_grouped earlier part (Some (places.GoesOn next)) (GoesOn spot) h =
    (ap (items.InGroup (is_empty earlier)) h.0, ap (λ rest. flat_map tests_in earlier ++ rest) h.1)
on_grouped earlier part (Some (places.GoesOn next)) (Lists test spot) h = (
  ap (items.InGroup (is_empty earlier)) h.0,
  ap (λ rest. flat_map tests_in earlier ++ rest) h.1 ∙ sym (append_assoc (flat_map tests_in earlier) (listed part) (test ∷ [])),
)
on_grouped earlier part (Some (places.GoesOn next)) (IsWhole _) h = absurd h
on_grouped earlier part (Some (places.GoesOn next)) Fails h = absurd h
on_grouped earlier part (Some (places.IsWhole member)) (IsWhole test) h =
    (ap (items.HasGrouped (is_empty earlier)) h.0, ap (λ rest. flat_map tests_in earlier ++ rest) h.1)
on_grouped earlier part (Some (places.IsWhole member)) (GoesOn _) h = absurd h
on_grouped earlier part (Some (places.IsWhole member)) (Lists _ _) h = absurd h
on_grouped earlier part (Some (places.IsWhole member)) Fails h = absurd h

alones : (symbol : Symbol) (part : MemberPart)
    → ConditionAlike (places.InMember part) (step_alone symbol part) (unless_member (otherwise symbol (forget_member part)) (turn_in_member symbol (forget_member part)))
alones Open places.WantsLeft = (refl, refl)
alones (Word tokens.BetweenWord) (places.HasLeft column) = (refl, refl)
alones (Name name) (places.HasOperator column query.Equal) = (refl, refl)
alones symbol part = on_alone part (step_in_member symbol part) (turn_in_member symbol (forget_member part)) (members symbol part)

closes : (earlier : List MemberText) (member : MemberText)
    → ConditionAlike (places.HasGrouped earlier member) (group_text earlier member) (items.turn_in_group Closing (is_empty earlier) (last_test member))
closes [] member = tt
closes (first ∷ earlier) member = (
  ap (λ one. items.HasPiece (Tests (last_test one) false)) (last_again earlier member),
  ap₂ (λ front last. flat_map tests_in (first ∷ front) ++ front_tests last) (front_again earlier member) (last_again earlier member),
)

or_another : (earlier : List MemberText) (member : MemberText)
    → ConditionAlike (places.HasGrouped earlier member) (Some (places.InGroup (earlier ++ member ∷ []) places.WantsLeft)) (items.turn_in_group (Word tokens.OrWord) (is_empty earlier) (last_test member))
or_another earlier member = (
  ap (λ first. items.InGroup first items.WantsLeft) (not_first earlier member),
  append-nil (flat_map tests_in (earlier ++ member ∷ [])) ∙ all_tests earlier member,
)

behind : (a b c d : List Item) (x : Item) → a ++ (b ++ (c ++ (d ++ x ∷ []))) ≡ (a ++ (b ++ (c ++ d))) ++ x ∷ []
behind a b c d x =
    ap (λ xs. a ++ (b ++ xs)) (sym (append_assoc c d (x ∷ []))) ∙ ap (λ xs. a ++ xs) (sym (append_assoc b (c ++ d) (x ∷ [])))
    ∙ sym (append_assoc a (b ++ (c ++ d)) (x ∷ []))

another_condition : (before tables : List Item) (earlier : List ConditionText) (last : ConditionText)
    → before ++ (tables ++ (flat_map condition_items (earlier ++ last ∷ []) ++ []))
    ≡ (before ++ (tables ++ (flat_map condition_items earlier ++ followed (front_of_whole last)))) ++ Where (forget_whole last) ∷ []
another_condition before tables earlier last =
    ap (λ xs. before ++ (tables ++ xs))
    (append-nil (flat_map condition_items (earlier ++ last ∷ [])) ∙ flat_map-append condition_items earlier (last ∷ [])
    ∙ ap (λ xs. flat_map condition_items earlier ++ xs) (append-nil (condition_items last) ∙ whole_condition last))
    ∙ behind before tables (flat_map condition_items earlier) (followed (front_of_whole last)) (Where (forget_whole last))

on_in_where : (selection : Selection) (table : List ℕ) (more : List (List ℕ)) (earlier : List ConditionText) (part : ConditionPart) (next : Option ConditionPart) (given : Turn)
    → ConditionAlike part next given → Alike (places.InWhere selection table more earlier part) (option_map (places.InWhere selection table more earlier) next) given
on_in_where selection table more earlier part None Stops h = tt
on_in_where selection table more earlier part None (Goes _) h = absurd h
on_in_where selection table more earlier part None (Gives _ _) h = absurd h
on_in_where selection table more earlier part (Some next) (Goes (InWhere spot)) h = (
  ap InWhere h.0,
  ap (λ tests. selection_items selection ++ (map From (table ∷ more) ++ (flat_map condition_items earlier ++ followed tests))) h.1,
)
on_in_where selection table more earlier part (Some next) (Gives (Where (Tests test true)) (InWhere spot)) h = (
  ap InWhere h.0,
  ap (λ tests. selection_items selection ++ (map From (table ∷ more) ++ (flat_map condition_items earlier ++ followed tests))) h.1
      ∙ ap (λ xs. selection_items selection ++ (map From (table ∷ more) ++ (flat_map condition_items earlier ++ xs))) (map-append (λ one. Where (Tests one true)) (tests_before part) (test ∷ []))
      ∙ behind (selection_items selection) (map From (table ∷ more)) (flat_map condition_items earlier) (followed (tests_before part)) (Where (Tests test true)),
)
on_in_where selection table more earlier part _ _ h = absurd h

wheres : (symbol : Symbol) (part : ConditionPart) (selection : Selection) (table : List ℕ) (more : List (List ℕ)) (earlier : List ConditionText)
    → Alike (places.InWhere selection table more earlier part) (step_in_where symbol part selection table more earlier) (turn_in_where symbol (forget_condition part))
wheres (Word tokens.AndWord) (HasCondition condition) selection table more earlier = (refl, another_condition (selection_items selection) (map From (table ∷ more)) earlier condition)
wheres EndOfText (HasCondition condition) selection table more earlier = (
  refl,
  ap (λ xs. selection_items selection ++ (map From (table ∷ more) ++ xs)) (sym (append-nil (flat_map condition_items (earlier ++ condition ∷ []))))
      ∙ another_condition (selection_items selection) (map From (table ∷ more)) earlier condition,
)
wheres Point (HasCondition (grammar.Joins left (grammar.Bare name))) selection table more earlier = (refl, refl)
wheres symbol (HasCondition condition) selection table more earlier = tt
wheres symbol (places.InMember part) selection table more earlier =
    on_in_where selection table more earlier (places.InMember part) (step_alone symbol part) (unless_member (otherwise symbol (forget_member part)) (turn_in_member symbol (forget_member part)))
    (alones symbol part)
wheres symbol (places.InGroup before part) selection table more earlier =
    on_in_where selection table more earlier (places.InGroup before part) (option_map (places.grouped before) (step_in_member symbol part)) (items.grouped (is_empty before) (turn_in_member symbol (forget_member part)))
    (on_grouped before part (step_in_member symbol part) (turn_in_member symbol (forget_member part)) (members symbol part))
wheres (Word tokens.OrWord) (places.HasGrouped before member) selection table more earlier =
    on_in_where selection table more earlier (places.HasGrouped before member) (Some (places.InGroup (before ++ member ∷ []) places.WantsLeft)) (items.turn_in_group (Word tokens.OrWord) (is_empty before) (last_test member))
    (or_another before member)
wheres Closing (places.HasGrouped before member) selection table more earlier =
    on_in_where selection table more earlier (places.HasGrouped before member) (group_text before member) (items.turn_in_group Closing (is_empty before) (last_test member))
    (closes before member)
wheres (Name name) (places.HasRightPoint left other) selection table more earlier = (refl, refl)
wheres PlusSign (places.WantsLow column) selection table more earlier = (refl, refl)
wheres MinusSign (places.WantsLow column) selection table more earlier = (refl, refl)
wheres (Digits digits) (places.WantsLow column) selection table more earlier = (refl, refl)
wheres (Quoted text) (places.WantsLow column) selection table more earlier = (refl, refl)
wheres (Digits digits) (places.HasLowSign column sign) selection table more earlier = (refl, refl)
wheres (Word tokens.AndWord) (places.HasLow column low) selection table more earlier = (refl, refl)
wheres PlusSign (places.WantsHigh column low) selection table more earlier = (refl, refl)
wheres MinusSign (places.WantsHigh column low) selection table more earlier = (refl, refl)
wheres (Digits digits) (places.WantsHigh column low) selection table more earlier = (refl, refl)
wheres (Quoted text) (places.WantsHigh column low) selection table more earlier = (refl, refl)
wheres (Digits digits) (places.HasHighSign column low sign) selection table more earlier = (refl, refl)
wheres _ _ selection table more earlier = tt

another_table : (before : List Item) (earlier : List (List ℕ)) (last : List ℕ) → before ++ map From (earlier ++ last ∷ []) ≡ (before ++ map From earlier) ++ From last ∷ []
another_table before earlier last = ap (λ xs. before ++ xs) (one_more From earlier last) ∙ sym (append_assoc before (map From earlier) (From last ∷ []))

all_tables : (before : List Item) (earlier : List (List ℕ)) (last : List ℕ)
    → before ++ (map From (first_item earlier last ∷ other_items earlier last) ++ []) ≡ (before ++ map From earlier) ++ From last ∷ []
all_tables before earlier last =
    ap (λ xs. before ++ xs) (append-nil (map From (first_item earlier last ∷ other_items earlier last)) ∙ whole_list From earlier last)
    ∙ sym (append_assoc before (map From earlier) (From last ∷ []))

pub alike : (place : QueryPlace) (symbol : Symbol) → Alike place (step place symbol) (turn (forget place) symbol)
alike places.Start (Word tokens.SelectWord) = (refl, refl)
alike places.Start _ = tt
alike places.HasStar (Word tokens.FromWord) = (refl, refl)
alike places.HasStar _ = tt
alike (places.InSelect earlier part) symbol = selects symbol part earlier
alike (places.WantsTable selection earlier) (Name table) = (refl, refl)
alike (places.WantsTable selection earlier) _ = tt
alike (places.HasTable selection earlier table) Comma = (refl, another_table (selection_items selection) earlier table)
alike (places.HasTable selection earlier table) (Word tokens.WhereWord) = (refl, all_tables (selection_items selection) earlier table)
alike (places.HasTable selection earlier table) EndOfText = (refl, all_tables (selection_items selection) earlier table)
alike (places.HasTable selection earlier table) _ = tt
alike (places.InWhere selection table more earlier part) symbol = wheres symbol part selection table more earlier
alike (places.Whole tree) _ = tt

-- a text that has a tree names its things
whole_items : (place : QueryPlace) (tree : QueryText) → whole_text place ≡ Ok tree → items_before place ++ [] ≡ items_of tree
whole_items (places.Whole found) tree h = append-nil (items_of found) ∙ ap items_of (let e : found ≡ tree = cc in e)
whole_items places.Start tree h = absurd (let e : Err 0 ≡ Ok tree = h in cc)
whole_items places.HasStar tree h = absurd (let e : Err 0 ≡ Ok tree = h in cc)
whole_items (places.InSelect _ _) tree h = absurd (let e : Err 0 ≡ Ok tree = h in cc)
whole_items (places.WantsTable _ _) tree h = absurd (let e : Err 0 ≡ Ok tree = h in cc)
whole_items (places.HasTable _ _ _) tree h = absurd (let e : Err 0 ≡ Ok tree = h in cc)
whole_items (places.InWhere _ _ _ _ _) tree h = absurd (let e : Err 0 ≡ Ok tree = h in cc)

abbrev read_on : (at : ℕ) (later : List Token) → Option QueryPlace → Result QueryText ℕ
read_on at later next = elim next [ None ↦ Err at | Some there ↦ read_from there later ]

abbrev items_on : (later : List Token) → Turn → List Item
items_on later given = elim given [ Goes there ↦ items_from there later | Gives item there ↦ item ∷ items_from there later | Stops ↦ [] ]

onward : (at : ℕ) (later : List Token) (place : QueryPlace) (tree : QueryText)
    → ((there : QueryPlace) → read_from there later ≡ Ok tree → items_before there ++ items_from (forget there) later ≡ items_of tree)
    → (next : Option QueryPlace) (given : Turn) → Alike place next given → read_on at later next ≡ Ok tree → items_before place ++ items_on later given ≡ items_of tree
onward at later place tree lead None (Goes _) a e = absurd a
onward at later place tree lead None (Gives _ _) a e = absurd a
onward at later place tree lead None Stops a e = absurd (let no : Err at ≡ Ok tree = e in cc)
onward at later place tree lead (Some there) (Goes spot) a e =
    ap (λ xs. xs ++ items_from spot later) (sym a.1) ∙ ap (λ s. items_before there ++ items_from s later) (sym a.0) ∙ lead there e
onward at later place tree lead (Some there) (Gives item spot) a e =
    sym (append_assoc (items_before place) (item ∷ []) (items_from spot later))
    ∙ ap (λ xs. xs ++ items_from spot later) (sym a.1) ∙ ap (λ s. items_before there ++ items_from s later) (sym a.0) ∙ lead there e
onward at later place tree lead (Some there) Stops a e = absurd a

pub items_lead : (later : List Token) (place : QueryPlace) (tree : QueryText) → read_from place later ≡ Ok tree → items_before place ++ items_from (forget place) later ≡ items_of tree
unfolding read_from items_from
items_lead [] place tree h = whole_items place tree h
items_lead (token ∷ later) place tree h =
    onward token.at later place tree (λ there e. items_lead later there tree e) (step place token.symbol) (turn (forget place) token.symbol) (alike place token.symbol) h

-- the token at a spot, and what is left behind it
pub taken : (spot : Spot) (token : Token) (later : List Token) → items_from spot (token ∷ later) ≡ items_on later (turn spot token.symbol)
unfolding items_from
taken spot token later = refl

pub goes : (spot next : Spot) (token : Token) (now later : List Token) → now ≡ token ∷ later → turn spot token.symbol ≡ Goes next → items_from spot now ≡ items_from next later
goes spot next token now later h e = ap (items_from spot) h ∙ taken spot token later ∙ ap (items_on later) e

pub gives : (spot next : Spot) (item : Item) (token : Token) (now later : List Token) → now ≡ token ∷ later → turn spot token.symbol ≡ Gives item next
    → items_from spot now ≡ item ∷ items_from next later
gives spot next item token now later h e = ap (items_from spot) h ∙ taken spot token later ∙ ap (items_on later) e

pub stops : (spot : Spot) (token : Token) (now later : List Token) → now ≡ token ∷ later → turn spot token.symbol ≡ Stops → items_from spot now ≡ []
stops spot token now later h e = ap (items_from spot) h ∙ taken spot token later ∙ ap (items_on later) e

pub none_left : (spot : Spot) (now : List Token) → now ≡ [] → items_from spot now ≡ []
unfolding items_from
none_left spot now h = ap (items_from spot) h

pub none_behind : (now : List Token) → items_from Whole now ≡ []
unfolding items_from
none_behind [] = refl
none_behind (token ∷ later) = refl

-- how far the grammar was followed
pub record IsAt (text : List ℕ) (spot : Spot) (left : List Token) : Type 0 where
  pub place : QueryPlace
  pub here : forget place ≡ spot
  pub reads : syntax_of text ≡ read_from place left

pub at_start : (text : List ℕ) → IsAt text Start (tokens.tokens text)
at_start text = record { place = places.Start; here = refl; reads = refl }

led : (at : ℕ) (later : List Token) (place : QueryPlace) (token : Token) → read_from place (token ∷ later) ≡ read_on token.at later (step place token.symbol)
unfolding read_from
led at later place token = refl

follow : (text : List ℕ) (at : ℕ) (later : List Token) (place : QueryPlace) (spot : Spot) (next : Option QueryPlace) (given : Turn) → Alike place next given → syntax_of text ≡ read_on at later next
    → (given ≡ Goes spot) ⊎ ((item : Item) × (given ≡ Gives item spot)) → IsAt text spot later
follow text at later place spot None (Goes _) a r e = absurd a
follow text at later place spot None (Gives _ _) a r e = absurd a
follow text at later place spot None Stops a r (inl e) = absurd (let no : Stops ≡ Goes spot = e in cc)
follow text at later place spot None Stops a r (inr e) = absurd (let no : Stops ≡ Gives e.0 spot = e.1 in cc)
follow text at later place spot (Some there) (Goes other) a r (inl e) = record { place = there; here = a.0 ∙ (let same : other ≡ spot = cc in same); reads = r }
follow text at later place spot (Some there) (Goes other) a r (inr e) = absurd (let no : Goes other ≡ Gives e.0 spot = e.1 in cc)
follow text at later place spot (Some there) (Gives item other) a r (inl e) = absurd (let no : Gives item other ≡ Goes spot = e in cc)
follow text at later place spot (Some there) (Gives item other) a r (inr e) = record { place = there; here = a.0 ∙ (let f : Gives item other ≡ Gives e.0 spot = e.1 in let same : other ≡ spot = cc in same); reads = r }
follow text at later place spot (Some there) Stops a r e = absurd a

pub next_place : (text : List ℕ) (spot next : Spot) (token : Token) (now later : List Token) → IsAt text spot now → now ≡ token ∷ later
    → (turn spot token.symbol ≡ Goes next) ⊎ ((item : Item) × (turn spot token.symbol ≡ Gives item next)) → IsAt text next later
next_place text spot next token now later h e given =
    follow text token.at later h.place next (step h.place token.symbol) (turn spot token.symbol)
    (subst (λ s. Alike h.place (step h.place token.symbol) (turn s token.symbol)) h.here (alike h.place token.symbol))
    (h.reads ∙ ap (read_from h.place) e ∙ led token.at later h.place token) given

stuck : (text : List ℕ) (at : ℕ) (later : List Token) (place : QueryPlace) (next : Option QueryPlace) (given : Turn) → Alike place next given → syntax_of text ≡ read_on at later next → given ≡ Stops → syntax_of text ≡ Err at
stuck text at later place None (Goes _) a r e = absurd a
stuck text at later place None (Gives _ _) a r e = absurd a
stuck text at later place None Stops a r e = r
stuck text at later place (Some there) (Goes other) a r e = absurd (let no : Goes other ≡ Stops = e in cc)
stuck text at later place (Some there) (Gives item other) a r e = absurd (let no : Gives item other ≡ Stops = e in cc)
stuck text at later place (Some there) Stops a r e = absurd a

pub fault : (text : List ℕ) (spot : Spot) (token : Token) (now later : List Token) → IsAt text spot now → now ≡ token ∷ later → turn spot token.symbol ≡ Stops → syntax_of text ≡ Err token.at
fault text spot token now later h e s =
    stuck text token.at later h.place (step h.place token.symbol) (turn spot token.symbol)
    (subst (λ s. Alike h.place (step h.place token.symbol) (turn s token.symbol)) h.here (alike h.place token.symbol))
    (h.reads ∙ ap (read_from h.place) e ∙ led token.at later h.place token) s

out : (text : List ℕ) (place : QueryPlace) → syntax_of text ≡ read_from place [] → syntax_of text ≡ whole_text place
unfolding read_from
out text place h = h

whole_tree : (text : List ℕ) (place : QueryPlace) → forget place ≡ Whole → syntax_of text ≡ whole_text place → HasTree text
whole_tree text (places.Whole tree) h e = record { tree = tree; read = e }
whole_tree text places.Start h e = absurd (let no : Start ≡ Whole = h in cc)
whole_tree text places.HasStar h e = absurd (let no : HasStar ≡ Whole = h in cc)
whole_tree text (places.InSelect earlier part) h e = absurd (let no : InSelect (is_empty earlier) part ≡ Whole = h in cc)
whole_tree text (places.WantsTable _ _) h e = absurd (let no : WantsTable ≡ Whole = h in cc)
whole_tree text (places.HasTable _ _ table) h e = absurd (let no : HasTable table ≡ Whole = h in cc)
whole_tree text (places.InWhere _ _ _ _ part) h e = absurd (let no : InWhere (forget_condition part) ≡ Whole = h in cc)

pub ended : (text : List ℕ) (spot : Spot) (now : List Token) → IsAt text spot now → now ≡ [] → spot ≡ Whole → HasTree text
ended text spot now h e w = whole_tree text h.place (h.here ∙ w) (out text h.place (h.reads ∙ ap (read_from h.place) e))

no_tree : (text : List ℕ) (place : QueryPlace) → (forget place ≡ Whole → ⊥) → syntax_of text ≡ whole_text place → syntax_of text ≡ Err 0
no_tree text (places.Whole tree) h e = absurd (h refl)
no_tree text places.Start h e = e
no_tree text places.HasStar h e = e
no_tree text (places.InSelect _ _) h e = e
no_tree text (places.WantsTable _ _) h e = e
no_tree text (places.HasTable _ _ _) h e = e
no_tree text (places.InWhere _ _ _ _ _) h e = e

pub cut_off : (text : List ℕ) (spot : Spot) (now : List Token) → IsAt text spot now → now ≡ [] → (spot ≡ Whole → ⊥) → syntax_of text ≡ Err 0
cut_off text spot now h e w = no_tree text h.place (λ p. w (sym h.here ∙ p)) (out text h.place (h.reads ∙ ap (read_from h.place) e))

-- the spots of the code
pub not_whole : (spot : drafts_spot.Spot) → (spot ≡ spot_variant.Whole → ⊥) → spot_of spot ≡ Whole → ⊥
not_whole spot_variant.Whole h e = h refl
not_whole spot_variant.Start h e = let no : Start ≡ Whole = e in cc
not_whole spot_variant.HasStar h e = let no : HasStar ≡ Whole = e in cc
not_whole (spot_variant.InSelect first part) h e = let no : InSelect first (column_part_of part) ≡ Whole = e in cc
not_whole spot_variant.WantsTable h e = let no : WantsTable ≡ Whole = e in cc
not_whole (spot_variant.HasTable table) h e = let no : HasTable (tokens.in_lower_case table.now) ≡ Whole = e in cc
not_whole (spot_variant.InWhere part) h e = let no : InWhere (condition_part_of part) ≡ Whole = e in cc
