-- What a session over a drawn clinic did, whose lines went nowhere, and what was counted of its moves.
use Rattle.std.specs.Prelude.{◌≡◌, ℕ, Bool, List, None}
use Rattle.ghost_model.specs.core.Channel.{Catalog}
use Rattle.ghost_model.specs.core.Values.{Database}
use Rattle.leakless_plan.specs.declared.plan.Plan.{Plan}
use Rattle.local_links.specs.Counting.{moves_in, bytes_sent, bytes_taken}
use Rattle.key_inputs.specs.Outside.{Outside}
use Rattle.key_lines.specs.Told.{told_in}
use Rattle.key_commands.specs.generate.Counting.{counted}
use Rattle.key_commands.specs.local.Running.{RanOver}
use Rattle.key_commands.specs.declared.generate.running.Held.{Held}

-- the session ran over a database, and these are the counts of its journal
pub record RanCounted (by : Plan) (told : Bool) (catalog : Catalog) (database : Database) (texts : List (List ℕ)) (held : Held) (before after : Outside) : Type 0 where
  pub ran : RanOver by told catalog database texts None held.session.end before after (told_in held.session.told)
  pub moves : held.moves ≡ counted (moves_in ran.journal)
  pub sent : held.sent ≡ counted (bytes_sent ran.journal)
  pub taken : held.taken ≡ counted (bytes_taken ran.journal)
