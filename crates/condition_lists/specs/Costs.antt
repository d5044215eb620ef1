-- What the lists of a term cost: how many calls of the flash at most it takes to find them, and to have one list of them.
use Rattle.std.specs.Prelude.{ℕ, ◌+◌, List, length, count_by, sum_by, filter}
use Rattle.std.specs.Option.{option_map_or}
use Rattle.ghost_model.specs.core.Values.{Database}
use Rattle.ghost_model.specs.core.Channel.{Catalog}
use Rattle.ghost_model.specs.core.Query.{Field}
use Rattle.ghost_model.specs.core.Replies as replies
use Rattle.ghost_model.specs.core.Replies.{reply_about}
use Rattle.ghost_model.specs.forms.Layout.{count_of}
use Rattle.ghost_model.specs.forms.Flash.{ids}
use Rattle.ghost_model.specs.refusals.QueryMeaning.{field}
use Rattle.condition_lists.specs.declared.bounds.Bounds.{Bounds}
use Rattle.condition_lists.specs.declared.term.Term.{Term}
use Rattle.condition_lists.specs.declared.term.GroupTerm.{GroupTerm}
use Rattle.condition_lists.specs.declared.term.Term.TheVariants.{Ranges, Entries, Identifiers, TopReply, Reply}
use Rattle.condition_lists.specs.Bounds.{lies_within}
use Rattle.condition_lists.specs.Terms.{meets}
use Rattle.ghost_model.specs.forms.QueryWork.{union_work, values_of, count_values}
use Rattle.ghost_model.specs.laws.ShortWords.{search_work}

-- how many rows of the top table meet a term
abbrev pub rows_meeting : Catalog → Database → List replies.Reply → (top : ℕ) → Term → ℕ
rows_meeting cat database given top term =
    count_by (λ identifier. meets cat.schema database given top identifier term) (ids (count_of cat top))

-- how many values of a column lie between bounds, each counted once
abbrev pub values_within : Database → Field → Bounds → ℕ
values_within database column bounds = count_values (filter (lies_within bounds) (values_of database column))

-- how many rows the reply of a table has
abbrev pub replied_count : List replies.Reply → (table : ℕ) → ℕ
replied_count given table = option_map_or (λ reply. length reply.rows) (reply_about table given) 0

-- Ranges cost nothing. Entries are searched for, and then their lists are united as those of other terms.
abbrev pub term_cost : Catalog → Database → List replies.Reply → (top : ℕ) → Term → ℕ
term_cost cat database given top (Ranges first second) = 0
term_cost cat database given top (Entries table column index level bounds) =
    union_work (values_within database (field table column) bounds)
    (rows_meeting cat database given top (Entries table column index level bounds))
    + search_work (count_values (values_of database (field table column)))
term_cost cat database given top (Identifiers table index level first second) =
    union_work (first.count + second.count) (rows_meeting cat database given top (Identifiers table index level first second))
term_cost cat database given top TopReply = union_work (replied_count given top) (replied_count given top)
term_cost cat database given top (Reply table index level) =
    union_work (replied_count given table) (rows_meeting cat database given top (Reply table index level))

abbrev pub terms_cost : Catalog → Database → List replies.Reply → (top : ℕ) → List GroupTerm → ℕ
terms_cost cat database given top terms = sum_by (λ (one : GroupTerm). term_cost cat database given top one.term) terms
