-- What the refusals of the code stand for, in the words of the definitions.
use Rattle.std.specs.Prelude.{◌≡◌, ℕ, Bool, List, find, nat_lt, Option, Some, None, Result, Ok, Err, option_map}
use Rattle.ghost_model.specs.core.Query.{Field}
use Rattle.std.specs.Option.{option_or}
use Rattle.ghost_model.specs.core.Schema.{Schema, places_of}
use Rattle.ghost_model.specs.refusals.Rules.{broken_if}
use Rattle.ghost_model.specs.refusals.SchemaGrammar.{SchemaText}
use Rattle.ghost_model.specs.readings.SchemaPlaces.{schema_syntax_of}
use Rattle.ghost_model.specs.laws.ShortWords as short
use Rattle.ghost_model.specs.refusals.SchemaFaults as faults
use Rattle.tree_schema.specs.declared.faults.SchemaFault.{SchemaFault}
use Rattle.tree_schema.specs.declared.faults.SchemaFault.TheVariants as fault

abbrev pub fault_of : SchemaFault → faults.SchemaFault
fault_of (fault.Syntax at) = faults.BadSyntax at
fault_of fault.Limit = faults.OverLimit
fault_of (fault.DuplicateName table column) = faults.DuplicateName table column
fault_of (fault.NoId table) = faults.NoId table
fault_of (fault.UnknownTable table column) = faults.UnknownChild table column
fault_of (fault.TwoParents child) = faults.TwoParents child
fault_of (fault.Cycle table) = faults.Cycle table
fault_of (fault.NotOneRoot roots) = faults.NotOneRoot roots

-- the fault of a test that may refuse, none where it does not
abbrev pub refused : {X : Type 0} → Result X SchemaFault → Option faults.SchemaFault
refused (Ok _) = None
refused (Err fault) = Some (fault_of fault)

-- what a text is read as
abbrev pub reading_of : Result Schema SchemaFault → Result Schema faults.SchemaFault
reading_of (Ok schema) = Ok schema
reading_of (Err fault) = Err (fault_of fault)

-- a table and a column by their places
abbrev pub field_at : ℕ → ℕ → Field
field_at table column = record { table = table; column = column }

abbrev pub field_of : ℕ × ℕ → Field
field_of places = field_at places.0 places.1

-- the first fault by the rules that speak of what is written, and by those that speak of the tables as a tree
abbrev pub fault_of_texts : SchemaText → Option faults.SchemaFault
fault_of_texts tables =
    option_or (broken_if (faults.is_over tables) faults.OverLimit)
    (option_or (option_map short.duplicate_at (find (faults.is_duplicate tables) (faults.fields tables)))
    (option_or (option_map faults.NoId (find (short.lacks_id tables) (places_of tables)))
    (option_map short.unknown_at (find (short.is_unknown tables) (faults.fields tables)))))

abbrev pub is_shared : Schema → ℕ → Bool
is_shared schema child = nat_lt 1 (faults.references_naming schema child)

abbrev pub fault_of_tree : Schema → Option faults.SchemaFault
fault_of_tree schema =
    option_or (option_map faults.TwoParents (find (is_shared schema) (places_of schema)))
    (option_or (option_map faults.Cycle (find (faults.returns schema) (places_of schema)))
    (short.wrong_roots (faults.roots_of schema)))

-- some text spells these tables
pub record IsSpelled (tables : SchemaText) : Type 0 where
  pub text : List ℕ
  pub reads : schema_syntax_of text ≡ Ok tables
