-- One token further in a text that declares tables: where it leads, or that it is the fault.
use Rattle.std.proofs.Common.{◌≡◌, ◌≢◌, ℕ, ◌+◌, ◌<◌, ◌≤◌, Bool, true, false, ◌||◌, suc, ◌⊎◌, inl, inr, List, [], ◌∷◌, ◌++◌, map, length, length-append, Option, Some, None, Ok, Err, nat_lt, refl, ap, ap₂, sym, subst, ◌∙◌, arith}
use Rattle.std.specs.List.{list_any}
use Rattle.std.proofs.lemmas.Bool.{lt-ltb, ltb-true}
use Rattle.arrayvec.specs.ArrayVec.{ArrayVec}
use Rattle.std.proofs.lemmas.List.{length-map, map-append}
use Rattle.ghost_model.specs.refusals.Tokens as tokens
use Rattle.ghost_model.specs.refusals.Tokens.{in_lower_case}
use Rattle.ghost_model.specs.refusals.SchemaGrammar as grammar
use Rattle.ghost_model.specs.refusals.SchemaFaults.{is_long, is_column_over, is_table_over, is_over}
use Rattle.ghost_model.specs.readings.SchemaPlaces as places
use Rattle.tree_schema.specs.declared.tokens.Mark.{Mark}
use Rattle.tree_schema.specs.declared.tokens.Mark.TheVariants as mark
use Rattle.tree_schema.specs.declared.tokens.Token.{Token}
use Rattle.tree_schema.specs.declared.syntax.ColumnDraft.{ColumnDraft}
use Rattle.tree_schema.specs.declared.syntax.TableDraft.{TableDraft}
use Rattle.tree_schema.specs.declared.syntax.InColumn.{InColumn}
use Rattle.tree_schema.specs.declared.syntax.Reader.{Reader}
use Rattle.tree_schema.specs.Marks.{symbol_of, token_of}
use Rattle.tree_schema.specs.Drafts.{in_column_of, column_of, table_of, after_column, before_last, last_of, behind, named, opened, Leads, Stops, ReadsNext, ReadsEnd, StopsEnd, ReadsOthers, StopsOthers, KeepsOthers, ReadsTable, KeepsTable, read_from, Takes, IsOut}

pub taken : (p : places.SchemaPlace) (next : Option places.SchemaPlace) (before after : Reader) (token : Token) → Takes before token after → places.schema_step p (symbol_of token.mark token.bytes.now) ≡ next
    → read_from p before ≡ places.syntax_from next token.at after.cursor
unfolding places.syntax_from
taken p next before after token h e =
    ap (λ cursor. places.syntax_from (Some p) before.at cursor) h.tokens
    ∙ ap (λ q. places.syntax_from q token.at after.cursor) e

pub leads : (p q : places.SchemaPlace) (before after : Reader) (token : Token) → Takes before token after → places.schema_step p (symbol_of token.mark token.bytes.now) ≡ Some q → read_from p before ≡ read_from q after
leads p q before after token h e = taken p (Some q) before after token h e ∙ ap (λ at. places.syntax_from (Some q) at after.cursor) (sym h.place)

pub stops : (p : places.SchemaPlace) (before after : Reader) (token : Token) → Takes before token after → None ≡ places.schema_step p (symbol_of token.mark token.bytes.now) → read_from p before ≡ Err token.at
unfolding places.syntax_from
stops p before after token h e = taken p None before after token h (sym e)

pub is_out : (p : places.SchemaPlace) (before after : Reader) → IsOut before after → places.tree_at p before.at ≡ Err before.at → read_from p before ≡ Err after.at
unfolding places.syntax_from
is_out p before after h e = ap (λ cursor. places.syntax_from (Some p) before.at cursor) h.none ∙ e ∙ ap (λ at. Err at) (sym h.place)

pub by_mark : (p q : places.SchemaPlace) (before after : Reader) (token : Token) (m : Mark) → Takes before token after → token.mark ≡ m → places.schema_step p (symbol_of m token.bytes.now) ≡ Some q → read_from p before ≡ read_from q after
by_mark p q before after token m h f e = leads p q before after token h (ap (λ n. places.schema_step p (symbol_of n token.bytes.now)) f ∙ e)

pub fewer : (before after : Reader) (token : Token) → Takes before token after → length after.cursor < length before.cursor
fewer before after token h = let count : length before.cursor ≡ length (token_of token ∷ after.cursor) = ap length h.tokens in omega (arith, count)

-- how far a column was read
pub record IsWithin (before : Reader) (named : List ℕ) (now : Reader) (last : InColumn) : Type 0 where
  pub leads :
      (tables : grammar.SchemaText) (name : List ℕ) (columns : List grammar.ColumnDeclaration)
      → read_from (places.Within tables name columns (places.Named named)) before ≡ read_from (places.Within tables name columns (in_column_of last)) now
  pub fewer : length now.cursor ≤ length before.cursor

pub no_table : (tables : grammar.SchemaText) (bytes : List ℕ) (m : Mark) → m ≢ mark.Table → None ≡ places.schema_step (places.AfterCreate tables) (symbol_of m bytes)
no_table tables bytes mark.Table h = absurd (h refl)
no_table tables bytes _ h = refl

pub no_table_name : (tables : grammar.SchemaText) (bytes : List ℕ) (m : Mark) → m ≢ mark.Name → None ≡ places.schema_step (places.AfterTable tables) (symbol_of m bytes)
no_table_name tables bytes mark.Name h = absurd (h refl)
no_table_name tables bytes _ h = refl

pub no_parenthesis : (tables : grammar.SchemaText) (name bytes : List ℕ) (m : Mark) → m ≢ mark.Open → None ≡ places.schema_step (places.AfterName tables name) (symbol_of m bytes)
no_parenthesis tables name bytes mark.Open h = absurd (h refl)
no_parenthesis tables name bytes _ h = refl

pub no_column_name : (tables : grammar.SchemaText) (name : List ℕ) (columns : List grammar.ColumnDeclaration) (bytes : List ℕ) (m : Mark) → m ≢ mark.Name → None ≡ places.schema_step (places.WantsDeclaration tables name columns) (symbol_of m bytes)
no_column_name tables name columns bytes mark.Name h = absurd (h refl)
no_column_name tables name columns bytes _ h = refl

pub no_semicolon : (tables : grammar.SchemaText) (name : List ℕ) (columns : List grammar.ColumnDeclaration) (last : grammar.ColumnDeclaration) (bytes : List ℕ) (m : Mark) → m ≢ mark.Semicolon → None ≡ places.schema_step (places.AfterColumns tables name columns last) (symbol_of m bytes)
no_semicolon tables name columns last bytes mark.Semicolon h = absurd (h refl)
no_semicolon tables name columns last bytes _ h = refl

-- the columns of a table that were read so far
pub record HoldsColumns (before : Reader) (more : Bool) (now : Reader) (kept : List ColumnDraft) (over follows : Bool) : Type 0 where
  pub others : List grammar.ColumnDeclaration
  pub leads :
      (tables : grammar.SchemaText) (name : List ℕ) (first : grammar.ColumnDeclaration)
      → read_from (behind tables name first [] more) before ≡ read_from (behind tables name first others follows) now
  pub whole : over ≡ false → map column_of kept ≡ others
  pub many : over ≡ true → 23 < length others
  pub fewer : length now.cursor ≤ length before.cursor

before_last_more : (first : grammar.ColumnDeclaration) (others : List grammar.ColumnDeclaration) (last : grammar.ColumnDeclaration) → before_last first (others ++ last ∷ []) ≡ first ∷ others
before_last_more first [] last = refl
before_last_more first (second ∷ others) last = ap (λ columns. first ∷ columns) (before_last_more second others last)

last_of_more : (first : grammar.ColumnDeclaration) (others : List grammar.ColumnDeclaration) (last : grammar.ColumnDeclaration) → last_of first (others ++ last ∷ []) ≡ last
last_of_more first [] last = refl
last_of_more first (second ∷ others) last = last_of_more second others last

one_more : (tables : grammar.SchemaText) (name : List ℕ) (first : grammar.ColumnDeclaration) (others : List grammar.ColumnDeclaration) (last : grammar.ColumnDeclaration) (more : Bool)
    → after_column tables name (first ∷ others) last more ≡ behind tables name first (others ++ last ∷ []) more
one_more tables name first others last true = refl
one_more tables name first others last false = ap₂ (places.AfterColumns tables name) (sym (before_last_more first others last)) (sym (last_of_more first others last))

-- and one more
pub another : (before : Reader) (more : Bool) (now next : Reader) (kept new : List ColumnDraft) (over wider follows again : Bool) (column : ColumnDraft) → HoldsColumns before more now kept over follows
    → follows ≡ true → ReadsNext now next column again → length next.cursor < length now.cursor
    → ((wider ≡ true) × (length kept ≡ 23)) ⊎ ((wider ≡ over) × (new ≡ kept ++ column ∷ []))
    → HoldsColumns before more next new wider again
another before more now next kept new over wider follows again column h f reads count grown =
    record {
      others = h.others ++ column_of column ∷ [];
      leads = λ tables name first.
          h.leads tables name first
          ∙ ap (λ t. read_from (behind tables name first h.others t) now) f
          ∙ reads tables name (first ∷ h.others)
          ∙ ap (λ place. read_from place next) (one_more tables name first h.others (column_of column) again);
      whole = λ e. elim grown [
        | inl w ↦ absurd (let no : true ≡ false = sym w.0 ∙ e in cc)
        | inr w ↦ ap (map column_of) w.1 ∙ map-append column_of kept (column ∷ []) ∙ ap (λ columns. columns ++ column_of column ∷ []) (h.whole (sym w.0 ∙ e))
      ];
      many = λ e. elim grown [
        | inl w ↦ longer over refl w.1
        | inr w ↦ let m : 23 < length h.others = h.many (sym w.0 ∙ e) in omega (arith, m, size)
      ];
      fewer = omega (arith, count, h.fewer);
    }
  where
    size : length (h.others ++ column_of column ∷ []) ≡ length h.others + 1
    size = length-append h.others (column_of column ∷ [])

    longer : (t : Bool) → over ≡ t → length kept ≡ 23 → 23 < length (h.others ++ column_of column ∷ [])
    longer true e n = let m : 23 < length h.others = h.many e in omega (arith, m, size)
    longer false e n = let same : length h.others ≡ length kept = ap length (sym (h.whole e)) ∙ length-map kept column_of in omega (arith, same, n, size)

rejoined : (first : grammar.ColumnDeclaration) (others : List grammar.ColumnDeclaration) → before_last first others ++ last_of first others ∷ [] ≡ first ∷ others
rejoined first [] = refl
rejoined first (second ∷ others) = ap (λ columns. first ∷ columns) (rejoined second others)

abbrev pub table_text : List ℕ → grammar.ColumnDeclaration → List grammar.ColumnDeclaration → grammar.TableText
table_text name first others = record { name = name; first = first; others = others }

whole_table : (name : List ℕ) (first : grammar.ColumnDeclaration) (others : List grammar.ColumnDeclaration) → places.table_from name (before_last first others) (last_of first others) ≡ table_text name first others
whole_table name first [] = refl
whole_table name first (second ∷ others) = ap (table_text name first) (rejoined second others)

first_behind : (tables : grammar.SchemaText) (name : List ℕ) (first : grammar.ColumnDeclaration) (more : Bool) (now : Reader) → read_from (after_column tables name [] first more) now ≡ read_from (behind tables name first [] more) now
first_behind tables name first true now = refl
first_behind tables name first false now = refl

or_middle : (a b c : Bool) → b ≡ true → (a || b || c) ≡ true
or_middle true b c e = refl
or_middle false b c e = ap (λ t. t || c) e

too_wide : (name : List ℕ) (first : grammar.ColumnDeclaration) (others : List grammar.ColumnDeclaration) → 23 < length others → is_table_over (table_text name first others) ≡ true
too_wide name first others h = or_middle (is_long name) _ (list_any is_column_over (first ∷ others)) (lt-ltb 24 (length (first ∷ others)) (let count : length (first ∷ others) ≡ suc (length others) = refl in omega (arith, count, h)))

-- the front of a table up to its first column
pub front : (a b c d e : Reader) (name : List ℕ) (first : ColumnDraft) (more : Bool) → Leads places.AfterCreate places.AfterTable a b → Leads places.AfterTable (named name) b c → Leads (named name) (opened name) c d → ReadsNext d e first more
    → (tables : grammar.SchemaText) → read_from (places.AfterCreate tables) a ≡ read_from (behind tables name (column_of first) [] more) e
front a b c d e name first more f g h i tables = f tables ∙ g tables ∙ h tables ∙ i tables name [] ∙ first_behind tables name (column_of first) more e

pub front_stops : (a e : Reader) (name : List ℕ) (first : ColumnDraft) (more : Bool) (at : ℕ) → ((tables : grammar.SchemaText) → read_from (places.AfterCreate tables) a ≡ read_from (behind tables name (column_of first) [] more) e)
    → StopsOthers e more at → Stops places.AfterCreate a at
front_stops a e name first more at f g tables = f tables ∙ g tables name (column_of first)

pub end_stops : (a e z : Reader) (name : List ℕ) (first : ColumnDraft) (more : Bool) (kept : Option (ArrayVec ColumnDraft)) (at : ℕ) → ((tables : grammar.SchemaText) → read_from (places.AfterCreate tables) a ≡ read_from (behind tables name (column_of first) [] more) e)
    → ReadsOthers e more z kept → StopsEnd z at → Stops places.AfterCreate a at
end_stops a e z name first more kept at f r g tables = f tables ∙ r.leads tables name (column_of first) ∙ g tables name (before_last (column_of first) r.others) (last_of (column_of first) r.others)

whole_leads : (a e z y : Reader) (name : List ℕ) (first : ColumnDraft) (more : Bool) (kept : Option (ArrayVec ColumnDraft)) → ((tables : grammar.SchemaText) → read_from (places.AfterCreate tables) a ≡ read_from (behind tables name (column_of first) [] more) e)
    → (r : ReadsOthers e more z kept) → ReadsEnd z y → (tables : grammar.SchemaText) → read_from (places.AfterCreate tables) a ≡ read_from (places.Between (tables ++ table_text name (column_of first) r.others ∷ [])) y
whole_leads a e z y name first more kept f r g tables =
    f tables ∙ r.leads tables name (column_of first) ∙ g tables name (before_last (column_of first) r.others) (last_of (column_of first) r.others)
    ∙ ap (λ table. read_from (places.Between (tables ++ table ∷ [])) y) (whole_table name (column_of first) r.others)

pub wide_table : (a e z y : Reader) (name : List ℕ) (first : ColumnDraft) (more : Bool) → ((tables : grammar.SchemaText) → read_from (places.AfterCreate tables) a ≡ read_from (behind tables name (column_of first) [] more) e)
    → (kept : Option (ArrayVec ColumnDraft)) → kept ≡ None → ReadsOthers e more z kept → ReadsEnd z y → ReadsTable a y None
wide_table a e z y name first more f kept none r g =
    record {
      table = table_text name (column_of first) r.others;
      leads = whole_leads a e z y name first more kept f r g;
      keeps = too_wide name (column_of first) r.others (subst (λ k. KeepsOthers k r.others) none r.keeps);
    }

pub kept_table : (a e z y : Reader) (table : TableDraft) (more : Bool) → ((tables : grammar.SchemaText) → read_from (places.AfterCreate tables) a ≡ read_from (behind tables (in_lower_case table.name.now) (column_of table.first) [] more) e)
    → (kept : Option (ArrayVec ColumnDraft)) → kept ≡ Some table.others → ReadsOthers e more z kept → ReadsEnd z y → ReadsTable a y (Some table)
kept_table a e z y table more f kept some r g =
    record {
      table = table_text (in_lower_case table.name.now) (column_of table.first) r.others;
      leads = whole_leads a e z y (in_lower_case table.name.now) table.first more kept f r g;
      keeps = ap (table_text (in_lower_case table.name.now) (column_of table.first)) (subst (λ k. KeepsOthers k r.others) some r.keeps);
    }

-- the tables of a text that were read so far
pub record HoldsTables (text : List ℕ) (now : Reader) (kept : List TableDraft) (over : Bool) : Type 0 where
  pub tables : grammar.SchemaText
  pub leads : places.schema_syntax_of text ≡ read_from (places.Between tables) now
  pub whole : over ≡ false → map table_of kept ≡ tables
  pub many : over ≡ true → is_over tables ≡ true

or_first : (a b : Bool) → a ≡ true → (a || b) ≡ true
or_first true b e = refl
or_first false b e = absurd (cc)

or_second : (a b : Bool) → b ≡ true → (a || b) ≡ true
or_second true b e = refl
or_second false b e = e

either : (t a b : Bool) → (a ≡ true → b ≡ true) → (t || a) ≡ true → (t || b) ≡ true
either true a b h e = refl
either false a b h e = h e

some_before : (test : grammar.TableText → Bool) (xs ys : List grammar.TableText) → list_any test xs ≡ true → list_any test (xs ++ ys) ≡ true
some_before test [] ys e = absurd (cc)
some_before test (x ∷ xs) ys e = either (test x) _ _ (some_before test xs ys) e

some_last : (test : grammar.TableText → Bool) (xs : List grammar.TableText) (x : grammar.TableText) → test x ≡ true → list_any test (xs ++ x ∷ []) ≡ true
some_last test [] x e = or_first (test x) false e
some_last test (y ∷ ys) x e = or_second (test y) _ (some_last test ys x e)

split_or : (a b : Bool) → (a || b) ≡ true → (a ≡ true) ⊎ (b ≡ true)
split_or true b e = inl refl
split_or false b e = inr e

still_over : (tables : grammar.SchemaText) (table : grammar.TableText) → is_over tables ≡ true → is_over (tables ++ table ∷ []) ≡ true
still_over tables table e = elim (split_or (nat_lt 12 (length tables)) (list_any is_table_over tables) e) [
  | inl w ↦ or_first _ _ (let m : 12 < length tables = ltb-true 12 (length tables) w in lt-ltb 12 (length (tables ++ table ∷ [])) (omega (arith, m, length-append tables (table ∷ []))))
  | inr w ↦ or_second (nat_lt 12 (length (tables ++ table ∷ []))) _ (some_before is_table_over tables (table ∷ []) w)
]

over_full : (tables : grammar.SchemaText) (table : grammar.TableText) → length tables ≡ 12 → is_over (tables ++ table ∷ []) ≡ true
over_full tables table e = or_first _ _ (lt-ltb 12 (length (tables ++ table ∷ [])) (omega (arith, e, length-append tables (table ∷ []))))

over_table : (tables : grammar.SchemaText) (table : grammar.TableText) → is_table_over table ≡ true → is_over (tables ++ table ∷ []) ≡ true
over_table tables table e = or_second (nat_lt 12 (length (tables ++ table ∷ []))) _ (some_last is_table_over tables table e)

pub holds_none : (text : List ℕ) (now : Reader) → now.cursor ≡ tokens.tokens text → now.at ≡ 0 → HoldsTables text now [] false
holds_none text now e f =
    record {
      tables = [];
      leads = sym (ap₂ (λ at cursor. places.syntax_from (Some (places.Between [])) at cursor) f e);
      whole = λ _. refl;
      many = λ h. absurd (cc);
    }

-- CREATE and a table
next_leads : (text : List ℕ) (now mid next : Reader) (token : Token) (kept : List TableDraft) (over : Bool) (table : Option TableDraft) → (h : HoldsTables text now kept over) → Takes now token mid → token.mark ≡ mark.Create
    → (r : ReadsTable mid next table) → places.schema_syntax_of text ≡ read_from (places.Between (h.tables ++ r.table ∷ [])) next
next_leads text now mid next token kept over table h t m r =
    h.leads ∙ by_mark (places.Between h.tables) (places.AfterCreate h.tables) now mid token mark.Create t m refl ∙ r.leads h.tables

pub over_next : (text : List ℕ) (now mid next : Reader) (token : Token) (kept new : List TableDraft) (over : Bool) (table : Option TableDraft) → HoldsTables text now kept over → Takes now token mid → token.mark ≡ mark.Create
    → ReadsTable mid next table → (table ≡ None) ⊎ (length kept ≡ 12) → HoldsTables text next new true
over_next text now mid next token kept new over table h t m r why =
    record {
      tables = h.tables ++ r.table ∷ [];
      leads = next_leads text now mid next token kept over table h t m r;
      whole = λ e. absurd (cc);
      many = λ _. elim why [
        | inl w ↦ over_table h.tables r.table (subst (λ k. KeepsTable k r.table) w r.keeps)
        | inr w ↦ full over refl w
      ];
    }
  where
    full : (b : Bool) → over ≡ b → length kept ≡ 12 → is_over (h.tables ++ r.table ∷ []) ≡ true
    full true e n = still_over h.tables r.table (h.many e)
    full false e n = over_full h.tables r.table (ap length (sym (h.whole e)) ∙ length-map kept table_of ∙ n)

pub kept_next : (text : List ℕ) (now mid next : Reader) (token : Token) (kept new : List TableDraft) (over : Bool) (found : Option TableDraft) (table : TableDraft) → HoldsTables text now kept over → Takes now token mid → token.mark ≡ mark.Create
    → ReadsTable mid next found → found ≡ Some table → new ≡ kept ++ table ∷ [] → HoldsTables text next new over
kept_next text now mid next token kept new over found table h t m r some grown =
    record {
      tables = h.tables ++ r.table ∷ [];
      leads = next_leads text now mid next token kept over found h t m r;
      whole = λ e. ap (map table_of) grown ∙ map-append table_of kept (table ∷ []) ∙ ap₂ (λ front last. front ++ last ∷ []) (h.whole e) (subst (λ k. KeepsTable k r.table) some r.keeps);
      many = λ e. still_over h.tables r.table (h.many e);
    }

no_between : (tables : grammar.SchemaText) (bytes : List ℕ) (m : Mark) → m ≢ mark.End → m ≢ mark.Create → None ≡ places.schema_step (places.Between tables) (symbol_of m bytes)
no_between tables bytes mark.End h g = absurd (h refl)
no_between tables bytes mark.Create h g = absurd (g refl)
no_between tables bytes _ h g = refl

pub text_ends : (text : List ℕ) (now next : Reader) (token : Token) (kept : List TableDraft) (over : Bool) → (h : HoldsTables text now kept over) → Takes now token next → token.mark ≡ mark.End → next.cursor ≡ []
    → places.schema_syntax_of text ≡ Ok h.tables
unfolding places.syntax_from
text_ends text now next token kept over h t m e =
    h.leads ∙ by_mark (places.Between h.tables) (places.Ended h.tables) now next token mark.End t m refl ∙ ap (λ cursor. places.syntax_from (Some (places.Ended h.tables)) next.at cursor) e

pub text_stops : (text : List ℕ) (now next : Reader) (token : Token) (kept : List TableDraft) (over : Bool) → HoldsTables text now kept over → Takes now token next → token.mark ≢ mark.End → token.mark ≢ mark.Create
    → places.schema_syntax_of text ≡ Err token.at
text_stops text now next token kept over h t m n = h.leads ∙ stops (places.Between h.tables) now next token t (no_between h.tables token.bytes.now token.mark m n)

pub text_out : (text : List ℕ) (now next : Reader) (kept : List TableDraft) (over : Bool) → HoldsTables text now kept over → IsOut now next → places.schema_syntax_of text ≡ Err next.at
text_out text now next kept over h e = h.leads ∙ is_out (places.Between h.tables) now next e refl

pub table_stops : (text : List ℕ) (now mid : Reader) (token : Token) (kept : List TableDraft) (over : Bool) (at : ℕ) → HoldsTables text now kept over → Takes now token mid → token.mark ≡ mark.Create
    → Stops places.AfterCreate mid at → places.schema_syntax_of text ≡ Err at
table_stops text now mid token kept over at h t m s =
    h.leads ∙ by_mark (places.Between h.tables) (places.AfterCreate h.tables) now mid token mark.Create t m refl ∙ s h.tables
