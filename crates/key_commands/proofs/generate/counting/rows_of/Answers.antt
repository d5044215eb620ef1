use Rattle.std.proofs.Common.{sym, ap, ◌∙◌}
use Rattle.key_commands.specs.generate.Counting.{rows_by}
use Rattle.key_commands.proofs.generate.counting.rows_of.Goals as goal

pub returns-in-Ok : goal.returns-in-Ok
returns-in-Ok c =
    let meant = c.in-Ok.ensures.meaning in
    record {
      rows = c.count_plain.ensures.count (record { text = c.args.text.now; meant = meant }) c.requires.database
          ∙ ap (rows_by c.args.schema.now c.args.tables.now) (sym meant.reads);
    }

pub returns-in-Err : goal.returns-in-Err
returns-in-Err c = record { rows = ap (rows_by c.args.schema.now c.args.tables.now) (sym c.in-Err.ensures.refusal) }
