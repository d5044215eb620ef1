-- The program as `clap` knows it: a command is required, each of its options has one value, and there is no help and no
-- version.
use Rattle.std.specs.Prelude.{◌≡◌, true, false, Some, Result, IfOk, codes}
use Rattle.clap.specs.Words.{App, Rule, Text, app_of, new_app, new_rule, with_rule, with_subcommand}
use Rattle.clap.specs.Simple.{on_top}
use Rattle.clap.specs.declared.builder.command.Command.{Command}
use Rattle.clap.specs.declared.builder.command.Command.TheViews.{out-Command}

-- an option that is to be given, and one that may be left out
abbrev pub needed : Text → Rule
needed name = record (new_rule name) { long = Some name; required = true }

abbrev pub optional : Text → Rule
optional name = record (new_rule name) { long = Some name }

abbrev pub with_inputs : App → App
with_inputs app = with_rule (with_rule app (needed (codes "schema"))) (needed (codes "data"))

abbrev pub plain_app : App
plain_app = with_rule (with_inputs (new_app (codes "plain"))) (needed (codes "script"))

abbrev pub local_app : App
local_app =
    with_rule (with_rule (with_rule (with_rule (with_rule (with_rule (with_inputs (new_app (codes "local"))) (needed (codes "flash")))
    (needed (codes "script"))) (optional (codes "journal"))) (optional (codes "plan"))) (optional (codes "pace")))
    (optional (codes "buffers"))

abbrev pub load_app : App
load_app =
    with_rule (with_rule (with_rule (with_inputs (new_app (codes "load"))) (needed (codes "flash"))) (needed (codes "visible")))
    (optional (codes "blocks"))

abbrev pub query_app : App
query_app =
    with_rule (with_rule (with_rule (with_rule (with_rule (with_rule (new_app (codes "query")) (needed (codes "flash")))
    (needed (codes "to"))) (needed (codes "script"))) (optional (codes "plan"))) (optional (codes "pace"))) (optional (codes "buffers"))

abbrev pub audit_app : App
audit_app =
    with_rule (with_rule (with_rule (new_app (codes "audit")) (needed (codes "visible"))) (needed (codes "script")))
    (needed (codes "journal"))

abbrev pub gen_app : App
gen_app =
    with_rule (with_rule (with_rule (with_rule (with_rule (with_rule (with_rule (new_app (codes "gen")) (needed (codes "seed")))
    (needed (codes "rows"))) (needed (codes "flash"))) (optional (codes "texts"))) (optional (codes "plan"))) (optional (codes "pace")))
    (optional (codes "buffers"))

abbrev pub migrate_app : App
migrate_app =
    with_rule (with_rule (with_rule (with_rule (with_rule (with_rule (new_app (codes "migrate")) (needed (codes "flash")))
    (needed (codes "visible"))) (needed (codes "to-flash"))) (needed (codes "to-visible"))) (optional (codes "null")))
    (optional (codes "blocks"))

abbrev pub bare_app : App
bare_app =
    on_top (λ shape. record shape { disable_help_flag = true; disable_help_subcommand = true; subcommand_required = true })
    (new_app (codes "key_program"))

-- with the commands of one process
abbrev pub app_alone : App
app_alone = with_subcommand (with_subcommand (with_subcommand bare_app local_app.top) plain_app.top) load_app.top

-- and with those of a key that stands
abbrev pub app_of_keys : App
app_of_keys = with_subcommand (with_subcommand app_alone query_app.top) audit_app.top

abbrev pub key_app : App
key_app = with_subcommand (with_subcommand app_of_keys gen_app.top) migrate_app.top

-- where a command was made, it is this one, and none of its options is global
abbrev pub IsMade : {E : Type 0} → App → Result Command E → Type 0
IsMade app made = IfOk made (λ command. (app_of command ≡ app) × ((out-Command command).has_globals ≡ false))
