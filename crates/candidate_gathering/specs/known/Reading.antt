-- Which files a plan reads. A plan takes any form, or one that is forced: a cross form exactly where a group whose rows the indexes
-- have lies on the table or below it, and else the plain one.
use Rattle.std.specs.Prelude.{◌≡◌, ℕ, ◌+◌, ◌&&◌, ◌||◌, Bool, true, false, nat_eq, List, get_or, Option, None, Some, slice_get}
use Rattle.std.specs.Option.{option_map_or}
use Rattle.ghost_model.specs.core.Schema.{Schema}
use Rattle.ghost_model.specs.core.Values.{Database}
use Rattle.ghost_model.specs.core.Channel.{Catalog}
use Rattle.ghost_model.specs.core.Query.{Query}
use Rattle.ghost_model.specs.forms.Layout.{is_below, levels_of, File, Cells, Subtrees, IndexHeader, IndexDirectory, IndexLevel, IdDirectory, IdLevel}
use Rattle.leakless_plan.specs.declared.form.Form.{Form}
use Rattle.leakless_plan.specs.Choices.{crosses, is_crossed, may_cross, unites}
use Rattle.candidate_rows.specs.Laws.{wants_below}
use Rattle.condition_lists.specs.Terms.{is_compared}
use Rattle.candidate_gathering.specs.known.Known.{IsBadSlotIn, compares, needs_value}

-- whether a plan may take a form that unites lists, and whether it takes a cross form at a table
abbrev pub may_unite : (forced : Option Form) → Bool
may_unite forced = option_map_or unites forced true

abbrev pub crosses_at : Schema → Query → (forced : Option Form) → (table : ℕ) → Bool
crosses_at schema asked forced table = may_cross forced && is_crossed schema asked table

-- a form is one that a plan may take at a table
pub record MayTake (schema : Schema) (asked : Query) (forced : Option Form) (table : ℕ) (form : Form) : Type 0 where
  pub unites : unites form ≡ true → may_unite forced ≡ true
  pub crosses : crosses form ≡ true → crosses_at schema asked forced table ≡ true

-- the forms of all tables are
abbrev pub AreTaken : Schema → Query → (forced : Option Form) → List (Option Form) → Type 0
AreTaken schema asked forced forms = (table : ℕ) (form : Form) → get_or forms table None ≡ Some form → MayTake schema asked forced table form

-- whether a set is gathered at a table below the top one: it has visible groups, and its form is a cross one
abbrev pub has_set : Schema → Query → (forced : Option Form) → (top table : ℕ) → Bool
has_set schema asked forced top table = is_below schema top table && (is_compared schema asked table && crosses_at schema asked forced table)

-- whether lists of such groups are read at a table: at the top one, or where a set is gathered
abbrev pub has_lists : Schema → Query → (forced : Option Form) → (top table : ℕ) → Bool
has_lists schema asked forced top table = nat_eq table top || has_set schema asked forced top table

-- whether lists of a table's identifiers are read at the top table: those that a condition holds for, or those of a reply or of a set
abbrev pub seeks_by : Schema → Query → (forced : Option Form) → (table : ℕ) → Bool
seeks_by schema asked forced table = compares schema asked table 0 || (is_compared schema asked table && may_unite forced)

-- whether its level file of another table is read: of the top one, or of one where a set is gathered by such groups alone
abbrev pub has_ids : Schema → Query → (forced : Option Form) → (top table other : ℕ) → Bool
has_ids schema asked forced top table other = (nat_eq other top && seeks_by schema asked forced table) || (has_set schema asked forced top other && compares schema asked table 0)

-- Whether a file is read for a query with that top table: that of a column whose value is needed; the top table's subtree key table,
-- where something of a table below is wanted; the header and the directory of the index of a hidden column that the query tests in a
-- group whose rows the indexes have, and of its level files those of the tables at which lists are read; the directory of the
-- identifiers of a table below that the query seeks by these, and of its level files, which are one place lower among the tables
-- above, alike.
abbrev pub is_read_by : Catalog → Query → (forced : Option Form) → (top : ℕ) → File → Bool
is_read_by cat asked forced top (Cells table column) = needs_value cat.schema asked table column
is_read_by cat asked forced top (Subtrees table) = nat_eq table top && wants_below cat.schema asked top
is_read_by cat asked forced top (IndexHeader table column) = compares cat.schema asked table column
is_read_by cat asked forced top (IndexDirectory table column) = compares cat.schema asked table column
is_read_by cat asked forced top (IndexLevel table column level) =
    compares cat.schema asked table column && option_map_or (has_lists cat.schema asked forced top) (slice_get (levels_of cat.schema table) level) false
is_read_by cat asked forced top (IdDirectory table) = is_below cat.schema top table && seeks_by cat.schema asked forced table
is_read_by cat asked forced top (IdLevel table level) =
    option_map_or (has_ids cat.schema asked forced top table) (slice_get (levels_of cat.schema table) (level + 1)) false

abbrev pub IsReadByForms : Catalog → Query → (forced : Option Form) → (top : ℕ) → File → Type 0
IsReadByForms cat asked forced top file = is_read_by cat asked forced top file ≡ true

-- a damaged slot of such a file, and pages that hold all files of the database have no such slot
abbrev pub IsBadSlotBy : (page : ℕ → List ℕ) → Catalog → Query → (forced : Option Form) → (top : ℕ) → Database → (number slot found : ℕ) → Type 0
IsBadSlotBy page cat asked forced top database = IsBadSlotIn page cat database (IsReadByForms cat asked forced top)
