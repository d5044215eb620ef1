-- What the words of the program say: the reading of `clap`, and then the rule of each value. `--plan` takes the name of a
-- plan, and stands for `auto` where it is left out; `--pace` takes 1 to 16 numbers from 0 to 1000 with commas between them,
-- and is 1 where it is left out. `--buffers` takes a number from 8 to 64, which is 32 where it is left out, and `--blocks` one
-- from 1 to 60,000,000, which may be left out. `--seed` takes any number, `--rows` one from 1 to 1,000,000, and `--texts` one from
-- 1 to 40, which is 40 where it is left out. A number is one to nine decimal digits. `--null` takes 1 to 32 items of any text with
-- commas between them, and stands for none where it is left out; `--to-flash` and `--to-visible` take other names than `--flash`
-- and `--visible` have.
use Rattle.std.specs.Prelude.{ℕ, Bool, true, false, ◌&&◌, ◌==◌, nat_le, List, [], ◌∷◌, length, Option, Some, None, codes, bytes_eq, option_map, option_and_then, if◌then◌else◌}
use Rattle.std.specs.List.{list_all, slice_split}
use Rattle.leakless_plan.specs.declared.plan.Plan.{Plan}
use Rattle.leakless_plan.specs.declared.plan.Plan.TheVariants as plan
use Rattle.ghost_model.specs.refusals.Tokens.{is_digit, is_between, number_of}
use Rattle.clap.specs.Walk.{Row, Text, is_empty, first_of}
use Rattle.clap.specs.Simple.{subcommand_of}
use Rattle.clap.specs.Faults.{fault_of}
use Rattle.key_words.specs.KeyApp.{key_app}
use Rattle.key_words.specs.Plans.{plan_named}
use Rattle.key_words.specs.Blocks.{most_blocks, least_buffers, most_buffers, most_numbers, least_slices, most_slices, most_seed, most_rows, most_texts, most_items}

pub record Plain : Type 0 where
  pub schema : List ℕ
  pub tables : List ℕ
  pub script : List ℕ

pub record Local : Type 0 where
  pub schema : List ℕ
  pub tables : List ℕ
  pub flash : List ℕ
  pub script : List ℕ
  pub journal : Option (List ℕ)
  pub plan : Plan
  pub pace : List ℕ
  pub buffers : ℕ

pub record Load : Type 0 where
  pub schema : List ℕ
  pub tables : List ℕ
  pub flash : List ℕ
  pub visible : List ℕ
  pub blocks : Option ℕ

pub record Query : Type 0 where
  pub flash : List ℕ
  pub to : List ℕ
  pub script : List ℕ
  pub plan : Plan
  pub pace : List ℕ
  pub buffers : ℕ

pub record Audit : Type 0 where
  pub visible : List ℕ
  pub script : List ℕ
  pub journal : List ℕ

pub record Gen : Type 0 where
  pub flash : List ℕ
  pub seed : ℕ
  pub rows : ℕ
  pub texts : ℕ
  pub plan : Plan
  pub pace : List ℕ
  pub buffers : ℕ

pub record Migrate : Type 0 where
  pub flash : List ℕ
  pub visible : List ℕ
  pub to_flash : List ℕ
  pub to_visible : List ℕ
  pub null : List (List ℕ)
  pub blocks : Option ℕ

pub data Command : Type 0 where
  LocalCommand : Local → Command
  PlainCommand : Plain → Command
  LoadCommand : Load → Command
  QueryCommand : Query → Command
  AuditCommand : Audit → Command
  GenCommand : Gen → Command
  MigrateCommand : Migrate → Command

-- what `clap` reads; none where it refuses the words
abbrev pub found : List Text → Option (Text × List Row)
found words = if is_empty (fault_of key_app words) then subcommand_of key_app words else None

abbrev pub needs : List Row → Text → (List ℕ → Option Command) → Option Command
needs rows name next = option_and_then next (first_of name rows)

-- the plan that its option says
abbrev pub plan_said : Option Text → Option Plan
plan_said None = Some (plan.Linked None)
plan_said (Some name) = plan_named name

abbrev pub plain_of : List Row → Option Command
plain_of rows =
    needs rows (codes "schema") (λ schema. needs rows (codes "data") (λ tables. needs rows (codes "script") (λ script.
    Some (PlainCommand (record { schema = schema; tables = tables; script = script })))))

-- the number that a value says, from one to another one
abbrev pub is_number : (least most : ℕ) → Text → Bool
is_number least most digits =
    list_all is_digit digits && (is_between 1 9 (length digits) && is_between least most (number_of digits))

abbrev pub number_said : (least most : ℕ) → Text → Option ℕ
number_said least most digits = if is_number least most digits then Some (number_of digits) else None

-- the numbers that values say, none where one of them says none
abbrev pub numbers_said : (least most : ℕ) → List Text → Option (List ℕ)
numbers_said least most [] = Some []
numbers_said least most (digits ∷ others) =
    option_and_then (λ number. option_map (λ numbers. number ∷ numbers) (numbers_said least most others)) (number_said least most digits)

-- the parts of a value between its commas
abbrev pub parts_of : Text → List Text
parts_of = slice_split (λ letter. letter == 44)

-- the numbers of the pace that its option says
abbrev pub pace_said : Option Text → Option (List ℕ)
pace_said None = Some (1 ∷ [])
pace_said (Some text) =
    if nat_le (length (parts_of text)) most_numbers then numbers_said least_slices most_slices (parts_of text) else None

-- the number of page buffers that its option says
abbrev pub buffers_said : Option Text → Option ℕ
buffers_said None = Some 32
buffers_said (Some digits) = number_said least_buffers most_buffers digits

-- the command that is made of the plan, the pace and the number of buffers
abbrev pub with_buffers : Option ℕ → (ℕ → Command) → Option Command
with_buffers said made = option_map made said

abbrev pub with_pace : List Row → Option (List ℕ) → (List ℕ → ℕ → Command) → Option Command
with_pace rows said made = option_and_then (λ pace. with_buffers (buffers_said (first_of (codes "buffers") rows)) (made pace)) said

abbrev pub with_plan : List Row → (Plan → List ℕ → ℕ → Command) → Option Command
with_plan rows made =
    option_and_then (λ way. with_pace rows (pace_said (first_of (codes "pace") rows)) (made way))
    (plan_said (first_of (codes "plan") rows))

abbrev pub local_of : List Row → Option Command
local_of rows =
    needs rows (codes "schema") (λ schema. needs rows (codes "data") (λ tables. needs rows (codes "flash") (λ flash.
    needs rows (codes "script") (λ script. with_plan rows (λ way pace buffers.
    LocalCommand (record {
      schema = schema;
      tables = tables;
      flash = flash;
      script = script;
      journal = first_of (codes "journal") rows;
      plan = way;
      pace = pace;
      buffers = buffers;
    }))))))

-- what the option of the number of blocks says: nothing where it is left out; none where its value breaks the rule
abbrev pub blocks_said : Option Text → Option (Option ℕ)
blocks_said None = Some None
blocks_said (Some digits) = option_map Some (number_said 1 most_blocks digits)

abbrev pub with_blocks : (schema tables flash visible : List ℕ) → Option (Option ℕ) → Option Command
with_blocks schema tables flash visible =
    option_map (λ blocks. LoadCommand (record { schema = schema; tables = tables; flash = flash; visible = visible; blocks = blocks }))

abbrev pub load_of : List Row → Option Command
load_of rows =
    needs rows (codes "schema") (λ schema. needs rows (codes "data") (λ tables. needs rows (codes "flash") (λ flash.
    needs rows (codes "visible") (λ visible. with_blocks schema tables flash visible (blocks_said (first_of (codes "blocks") rows))))))

abbrev pub query_of : List Row → Option Command
query_of rows =
    needs rows (codes "flash") (λ flash. needs rows (codes "to") (λ to. needs rows (codes "script") (λ script.
    with_plan rows (λ way pace buffers.
    QueryCommand (record { flash = flash; to = to; script = script; plan = way; pace = pace; buffers = buffers })))))

abbrev pub audit_of : List Row → Option Command
audit_of rows =
    needs rows (codes "visible") (λ visible. needs rows (codes "script") (λ script. needs rows (codes "journal") (λ journal.
    Some (AuditCommand (record { visible = visible; script = script; journal = journal })))))

-- the seed, the number of visits and that of the texts that their options say
abbrev pub seed_said : Option Text → Option ℕ
seed_said = option_and_then (number_said 0 most_seed)

abbrev pub rows_said : Option Text → Option ℕ
rows_said = option_and_then (number_said 1 most_rows)

abbrev pub texts_said : Option Text → Option ℕ
texts_said None = Some 40
texts_said (Some digits) = number_said 1 most_texts digits

-- the command that is made of them
abbrev pub with_texts : Option ℕ → (ℕ → Option Command) → Option Command
with_texts said next = option_and_then next said

abbrev pub with_visits : List Row → Option ℕ → (ℕ → ℕ → Option Command) → Option Command
with_visits rows said next = option_and_then (λ visits. with_texts (texts_said (first_of (codes "texts") rows)) (next visits)) said

abbrev pub with_seed : List Row → (ℕ → ℕ → ℕ → Option Command) → Option Command
with_seed rows next =
    option_and_then (λ seed. with_visits rows (rows_said (first_of (codes "rows") rows)) (next seed))
    (seed_said (first_of (codes "seed") rows))

abbrev pub gen_of : List Row → Option Command
gen_of rows =
    needs rows (codes "flash") (λ flash. with_seed rows (λ seed visits texts. with_plan rows (λ way pace buffers.
    GenCommand (record {
      flash = flash;
      seed = seed;
      rows = visits;
      texts = texts;
      plan = way;
      pace = pace;
      buffers = buffers;
    }))))

-- both of these values are there, and they are the same text
abbrev pub are_same : Option Text → Option Text → Bool
are_same (Some one) (Some other) = bytes_eq one other
are_same _ _ = false

-- the items that the option `--null` says
abbrev pub items_said : Option Text → Option (List Text)
items_said None = Some []
items_said (Some text) = if nat_le (length (parts_of text)) most_items then Some (parts_of text) else None

-- the command that is made of the items and the number of blocks
abbrev pub with_items : List Row → Option (List Text) → (List Text → Option ℕ → Command) → Option Command
with_items rows said made =
    option_and_then (λ items. option_map (made items) (blocks_said (first_of (codes "blocks") rows))) said

abbrev pub with_names : List Row → (flash visible to_flash to_visible : Text) → Option Command
with_names rows flash visible to_flash to_visible =
    if bytes_eq flash to_flash
    then None
    else if bytes_eq visible to_visible
    then None
    else with_items rows (items_said (first_of (codes "null") rows)) (λ items blocks.
    MigrateCommand (record {
      flash = flash;
      visible = visible;
      to_flash = to_flash;
      to_visible = to_visible;
      null = items;
      blocks = blocks;
    }))

abbrev pub migrate_of : List Row → Option Command
migrate_of rows =
    needs rows (codes "flash") (λ flash. needs rows (codes "visible") (λ visible. needs rows (codes "to-flash") (λ to_flash.
    needs rows (codes "to-visible") (λ to_visible. with_names rows flash visible to_flash to_visible))))

abbrev pub command_of : Text → List Row → Option Command
command_of name rows =
    if bytes_eq name (codes "local")
    then local_of rows
    else if bytes_eq name (codes "plain") then plain_of rows
    else if bytes_eq name (codes "load") then load_of rows
    else if bytes_eq name (codes "query") then query_of rows
    else if bytes_eq name (codes "audit") then audit_of rows
    else if bytes_eq name (codes "gen")
    then gen_of rows
    else if bytes_eq name (codes "migrate") then migrate_of rows else None

-- the command that was found
abbrev pub said : Option (Text × List Row) → Option Command
said = option_and_then (λ (one : Text × List Row). command_of one.0 one.1)

-- the command that the words say, none where they are refused
abbrev pub reading : List Text → Option Command
reading words = said (found words)
