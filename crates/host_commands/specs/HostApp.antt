-- The program of the host as `clap` knows it: two options of one value each, both to be given, no help and no version.
use Rattle.std.specs.Prelude.{true, Some, codes}
use Rattle.clap.specs.Words.{App, Rule, Text, new_app, new_rule, with_rule}
use Rattle.clap.specs.Simple.{on_top}

-- an option that is to be given
abbrev pub needed : Text → Rule
needed name = record (new_rule name) { long = Some name; required = true }

abbrev pub bare_app : App
bare_app = on_top (λ shape. record shape { disable_help_flag = true }) (new_app (codes "host_program"))

abbrev pub host_app : App
host_app = with_rule (with_rule bare_app (needed (codes "visible"))) (needed (codes "at"))
