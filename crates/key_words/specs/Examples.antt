-- Word lists, and the commands that they say. The first word is the program's own name.
use Rattle.std.specs.Prelude.{◌≡◌, ℕ, List, [], ◌∷◌, codes, Option, Some, None}
use Rattle.leakless_plan.specs.declared.plan.Plan.TheVariants as plan
use Rattle.key_words.specs.Words.{Command, PlainCommand, LoadCommand, QueryCommand, MigrateCommand, reading}

-- the command that words behind the program's name say
abbrev pub said_by : (words : List (List ℕ)) → Option Command
said_by words = reading (codes "key_program" ∷ words)

-- the words of `query` with these behind them
abbrev pub query_and : (words : List (List ℕ)) → List (List ℕ)
query_and words =
    codes "query" ∷ codes "--flash" ∷ codes "k" ∷ codes "--to" ∷ codes "h:1" ∷ codes "--script" ∷ codes "q" ∷ words

-- a query by any plan, with this pace and so many page buffers
abbrev pub a_query : (pace : List ℕ) (buffers : ℕ) → Option Command
a_query pace buffers =
    Some (QueryCommand (record { flash = codes "k"; to = codes "h:1"; script = codes "q"; plan = plan.Linked None; pace = pace; buffers = buffers }))

-- the words of `migrate` with these new names and with these words behind them
abbrev pub migrate_to : (flash visible : List ℕ) (words : List (List ℕ)) → List (List ℕ)
migrate_to flash visible words =
    codes "migrate" ∷ codes "--flash" ∷ codes "k" ∷ codes "--visible" ∷ codes "v" ∷ codes "--to-flash" ∷ flash ∷ codes "--to-visible" ∷ visible
    ∷ words

-- a migration to the files `l` and `w`
abbrev pub a_migration : (null : List (List ℕ)) (blocks : Option ℕ) → Option Command
a_migration null blocks =
    Some (MigrateCommand (record {
      flash = codes "k";
      visible = codes "v";
      to_flash = codes "l";
      to_visible = codes "w";
      null = null;
      blocks = blocks;
    }))

pub record WordsOfCommands : Type 0 where
  pub plain : said_by (codes "plain" ∷ codes "--data" ∷ codes "t" ∷ codes "--script" ∷ codes "q" ∷ codes "--schema" ∷ codes "s" ∷ [])
      ≡ Some (PlainCommand (record { schema = codes "s"; tables = codes "t"; script = codes "q" }))
  pub left_out : said_by (query_and []) ≡ a_query (1 ∷ []) 32
  pub all_said : said_by (query_and (codes "--pace=0,1000" ∷ codes "--buffers" ∷ codes "08" ∷ codes "--plan" ∷ codes "auto" ∷ []))
      ≡ a_query (0 ∷ 1000 ∷ []) 8
  pub blocks : said_by (codes "load" ∷ codes "--schema" ∷ codes "s" ∷ codes "--data" ∷ codes "t" ∷ codes "--flash" ∷ codes "k"
      ∷ codes "--visible" ∷ codes "v" ∷ codes "--blocks" ∷ codes "60000000" ∷ [])
      ≡ Some (LoadCommand (record { schema = codes "s"; tables = codes "t"; flash = codes "k"; visible = codes "v"; blocks = Some 60000000 }))
  pub no_items : said_by (migrate_to (codes "l") (codes "w") []) ≡ a_migration [] None
  pub items : said_by (migrate_to (codes "l") (codes "w") (codes "--null" ∷ codes "a.b,,c" ∷ codes "--blocks" ∷ codes "21" ∷ []))
      ≡ a_migration (codes "a.b" ∷ [] ∷ codes "c" ∷ []) (Some 21)
  pub crosswise : said_by (migrate_to (codes "v") (codes "k") [])
      ≡ Some (MigrateCommand (record { flash = codes "k"; visible = codes "v"; to_flash = codes "v"; to_visible = codes "k"; null = []; blocks = None }))

-- words that say no command
pub record WordsOfNoCommand : Type 0 where
  pub no_words : said_by [] ≡ None
  pub no_command : said_by (codes "help" ∷ []) ≡ None
  pub a_needed_option_is_left_out : said_by (codes "plain" ∷ codes "--schema" ∷ codes "s" ∷ codes "--script" ∷ codes "q" ∷ []) ≡ None
  pub an_option_stands_twice : said_by (query_and (codes "--to" ∷ codes "h:1" ∷ [])) ≡ None
  pub a_stray_word : said_by (query_and (codes "now" ∷ [])) ≡ None
  pub no_such_option : said_by (query_and (codes "--journal" ∷ codes "j" ∷ [])) ≡ None
  pub no_such_plan : said_by (query_and (codes "--plan" ∷ codes "best" ∷ [])) ≡ None
  pub a_pace_without_a_number : said_by (query_and (codes "--pace" ∷ codes "1," ∷ [])) ≡ None
  pub a_pace_above_the_limit : said_by (query_and (codes "--pace" ∷ codes "1001" ∷ [])) ≡ None
  pub too_few_buffers : said_by (query_and (codes "--buffers" ∷ codes "7" ∷ [])) ≡ None
  pub a_number_of_ten_digits : said_by (query_and (codes "--buffers" ∷ codes "0000000032" ∷ [])) ≡ None
  pub the_flash_would_be_replaced : said_by (migrate_to (codes "k") (codes "w") []) ≡ None
  pub the_visible_file_would_be_replaced : said_by (migrate_to (codes "l") (codes "v") []) ≡ None
  pub thirty_three_items : said_by (migrate_to (codes "l") (codes "w") (codes "--null" ∷ codes ",,,,,,,,,,,,,,,,,,,,,,,,,,,,,,,," ∷ [])) ≡ None
