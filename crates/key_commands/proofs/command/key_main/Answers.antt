use Rattle.std.proofs.Common.{refl, rules}
use Rattle.key_words.specs.Views.{plain_view, load_view, local_view, audit_view, gen_view, migrate_view}
use Rattle.key_commands.proofs.command.key_main.Goals as goal

pub returns-in-Ok-Plain-clause-plain : goal.returns-in-Ok-Plain-clause-plain
returns-in-Ok-Plain-clause-plain g c =
    let did = c.plain-outcome.ensures in
    record {
      words = plain_view c.in-Ok-Plain.words;
      said = search rules;
      did = record {
        ends = did.ends;
        names = did.names;
        complete = did.complete;
        prints = did.prints;
        nothing_written = did.nothing_written;
        causes = did.causes (g.F.Flash.state c.args.flash.now);
        files = did.same;
        flash = refl;
      };
    }

pub returns-in-Ok-Load-clause-judged : goal.returns-in-Ok-Load-clause-judged
returns-in-Ok-Load-clause-judged g c files told sure = record {
  plain = tt;
  load = record {
    words = load_view c.in-Ok-Load.words;
    said = search rules;
    did = record { unbroken = c.load.ensures.judged files told sure };
  };
  local = tt;
  query = tt;
  audit = tt;
}

pub returns-in-Ok-Local-clause-judged : goal.returns-in-Ok-Local-clause-judged
returns-in-Ok-Local-clause-judged g c files told sure = record {
  plain = tt;
  load = tt;
  local = record {
    words = local_view c.in-Ok-Local.words;
    said = search rules;
    did = record { unbroken = c.local.ensures.judged files told sure };
  };
  query = tt;
  audit = tt;
}

pub returns-in-Ok-Audit-clause-audit : goal.returns-in-Ok-Audit-clause-audit
returns-in-Ok-Audit-clause-audit g c = record {
  words = audit_view c.in-Ok-Audit.words;
  said = search rules;
  did = c.audit.ensures.did (g.F.Flash.state c.args.flash.now);
}

pub returns-in-Ok-Audit-clause-judged : goal.returns-in-Ok-Audit-clause-judged
returns-in-Ok-Audit-clause-judged g c files told sure = record {
  plain = tt;
  load = tt;
  local = tt;
  query = tt;
  audit = record {
    words = audit_view c.in-Ok-Audit.words;
    said = search rules;
    did = record { undecided = c.audit.ensures.undecided files told sure };
  };
}

pub returns-in-Ok-Gen-clause-generated : goal.returns-in-Ok-Gen-clause-generated
returns-in-Ok-Gen-clause-generated g c =
    let did = c.generate.ensures in
    let files = g.D.Depot.contents c.args.depot.now in
    let faults = g.D.Depot.faults c.args.depot.now in
    let appends = g.D.Depot.append_faults c.args.depot.now in
    record {
      words = gen_view c.in-Ok-Gen.words;
      said = search rules;
      did = record {
        ends = did.ends files faults appends;
        complete = did.complete;
        nothing_written = did.nothing_written;
        never_other = did.never_other;
        other_flashes = did.other_flashes;
        files = refl;
        causes = did.causes files faults appends;
      };
    }

pub returns-in-Ok-Migrate-clause-migrated : goal.returns-in-Ok-Migrate-clause-migrated
returns-in-Ok-Migrate-clause-migrated g c = record { words = migrate_view c.in-Ok-Migrate.words; said = search rules; did = c.migrate.ensures.did }
