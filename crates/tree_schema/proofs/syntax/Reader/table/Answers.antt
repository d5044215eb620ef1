use Rattle.std.proofs.Common.{rules}
use Rattle.ghost_model.specs.readings.SchemaPlaces as places
use Rattle.tree_schema.specs.Drafts.{Stops}
use Rattle.tree_schema.proofs.ReaderSteps.{front, front_stops, end_stops, kept_table, wide_table}
use Rattle.tree_schema.proofs.syntax.Reader.table.Goals as goal

pub returns-in_err-kept-clause-stops : goal.returns-in_err-kept-clause-stops
returns-in_err-kept-clause-stops c =
    let fault : Stops places.AfterCreate c.args.self.now c.in_err-kept.field-0.0 =
    front_stops _ _ _ _ _ _ (front _ _ _ _ _ _ _ _ c.in_ok-table_word.ensures.read c.in_ok-name.ensures.read (c.in_ok-parenthesis.ensures.read _) c.in_ok-first.ensures.read) c.in_err-kept.ensures.stops in
    search rules

pub returns-in_err-semicolon-clause-stops : goal.returns-in_err-semicolon-clause-stops
returns-in_err-semicolon-clause-stops c =
    let fault : Stops places.AfterCreate c.args.self.now c.in_err-semicolon.field-0.0 =
    end_stops _ _ _ _ _ _ _ _ (front _ _ _ _ _ _ _ _ c.in_ok-table_word.ensures.read c.in_ok-name.ensures.read (c.in_ok-parenthesis.ensures.read _) c.in_ok-first.ensures.read) c.in_ok-kept.ensures.read c.in_err-semicolon.ensures.stops in
    search rules

pub returns-in-Some-clause-read : goal.returns-in-Some-clause-read
returns-in-Some-clause-read c =
    kept_table _ _ _ _ _ _ (front _ _ _ _ _ _ _ _ c.in_ok-table_word.ensures.read c.in_ok-name.ensures.read (c.in_ok-parenthesis.ensures.read _) c.in_ok-first.ensures.read)
    _ c.in-Some.is c.in_ok-kept.ensures.read c.in_ok-semicolon.ensures.read

pub returns-in-None-clause-read : goal.returns-in-None-clause-read
returns-in-None-clause-read c =
    wide_table _ _ _ _ _ _ _ (front _ _ _ _ _ _ _ _ c.in_ok-table_word.ensures.read c.in_ok-name.ensures.read (c.in_ok-parenthesis.ensures.read _) c.in_ok-first.ensures.read)
    _ c.in-None.is c.in_ok-kept.ensures.read c.in_ok-semicolon.ensures.read
