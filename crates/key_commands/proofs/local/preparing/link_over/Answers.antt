use Rattle.std.proofs.Common.{ℕ, List, Some, sym, subst}
use Rattle.edge_traits.specs.Scripts.{IsSure}
use Rattle.ghost_model.specs.core.Host.{host_of}
use Rattle.key_commands.proofs.local_lemmas.Hosting.{holds_part, awaits_greeting, finds_file}
use Rattle.key_commands.proofs.local.preparing.link_over.Goals as goal

pub returns-in-Ok : goal.returns-in-Ok
returns-in-Ok c =
    let file = c.args.image.items in
    let host = c.in-Ok.host in
    let depot = c.begin.new.depot in
    record {
      hosted = λ catalog public spells. record {
        at_first = c.new.ensures.stands (host_of catalog public) file
            (finds_file _ _ _ _ file c.in-Ok.ensures.same c.in-Ok.ensures.name c.in_ok-depot.ensures.file)
            (holds_part c.catalogs_have_one_spelling.ensures c.images_are_held.ensures host file catalog public c.in-Ok.ensures.starts (c.in-Ok.ensures.image file c.in_ok-depot.ensures.file) spells)
            (awaits_greeting host file c.in-Ok.ensures.stage);
        is_sure = c.new.ensures.sure (subst (λ (name : List ℕ). IsSure depot.script (Some depot.files.files) name) (sym c.in-Ok.ensures.name) (c.in-Ok.ensures.stays_sure c.in_ok-depot.ensures.is_sure));
      };
    }
