use Rattle.std.proofs.Common.{◌≡◌, ◌∙◌, Some, sym, subst}
use Rattle.edge_traits.specs.Files.{file_of}
use Rattle.host_commands.specs.Words.{Names, names_of}
use Rattle.host_commands.proofs.Courses.{over_file, for_names, one_reading, image_well, completes_plain, blames_nothing, not_read_so, not_begun_so}
use Rattle.host_commands.proofs.hosting.host_main.Goals as goal

pub returns-in-Ok-begin-clause-hosts : goal.returns-in-Ok-begin-clause-hosts
returns-in-Ok-begin-clause-hosts g c names read =
    for_names _ c.host_one.result _ _ _ _ (g.D.Depot.contents c.args.depot.now)
    (names_of c.in-Ok.said) names c.in-Ok.ensures.read read
    (over_file _ c.host_one.result _ _ _ _ _ c.in-Ok-begin.host (names_of c.in-Ok.said) (g.D.Depot.contents c.args.depot.now) _ c.catalogs_have_one_spelling.ensures
    c.images_are_held.ensures c.in-Ok-begin.ensures.same c.in-Ok-begin.ensures.name c.in-Ok-begin.ensures.starts c.in-Ok-begin.ensures.image
    (c.in-Ok-begin.ensures.other (λ e. cc)) c.host_one.ensures.hosts)

pub returns-in-Ok-begin-clause-no_image : goal.returns-in-Ok-begin-clause-no_image
returns-in-Ok-begin-clause-no_image g c names file read is none calm =
    let image = c.in-Ok-begin.ensures.image file
    (subst (λ (one : Names). file_of (g.D.Depot.contents c.args.depot.now) one.visible ≡ Some file) (sym (one_reading (names_of c.in-Ok.said) names c.in-Ok.ensures.read read)) is) in
    absurd (none _ image.public image.current image.spells)

pub returns-in-Ok-begin-clause-complete : goal.returns-in-Ok-begin-clause-complete
returns-in-Ok-begin-clause-complete g c names file catalog public read is current spells calm no_sink =
    completes_plain _ _ _ _ _ (image_well _ (names_of c.in-Ok.said).at c.host_one.result _ _ _ _ (g.D.Depot.contents c.args.depot.now) (names_of c.in-Ok.said).visible file catalog public
    (over_file _ c.host_one.result _ _ _ _ _ c.in-Ok-begin.host (names_of c.in-Ok.said) (g.D.Depot.contents c.args.depot.now) _ c.catalogs_have_one_spelling.ensures
    c.images_are_held.ensures c.in-Ok-begin.ensures.same c.in-Ok-begin.ensures.name c.in-Ok-begin.ensures.starts c.in-Ok-begin.ensures.image
    (c.in-Ok-begin.ensures.other (λ e. cc)) c.host_one.ensures.hosts)
    (subst (λ (one : Names). file_of (g.D.Depot.contents c.args.depot.now) one.visible ≡ Some file) (sym (one_reading (names_of c.in-Ok.said) names c.in-Ok.ensures.read read)) is)
    spells c.host_one.ensures.late calm (λ e. no_sink (c.host_one.ensures.sink e)))

pub returns-in-Err-clause-link : goal.returns-in-Err-clause-link
returns-in-Err-clause-link g c = blames_nothing _ _ _ (g.met.L.Link.stays _) (λ e. not_read_so c.in-Err.fault (sym c.not_read.ensures.status ∙ e))

pub returns-in-Err-begin-clause-link : goal.returns-in-Err-begin-clause-link
returns-in-Err-begin-clause-link g c = blames_nothing _ _ _ (g.met.L.Link.stays _) (λ e. not_begun_so c.in-Err-begin.fault (sym c.not_begun.ensures.status ∙ e))
