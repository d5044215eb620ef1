use Rattle.std.proofs.Common.{Bool, MatchBool, ap, subst, ◌∙◌}
use Rattle.std.proofs.lemmas.Result.{IfOk-weaker}
use Rattle.edge_traits.specs.Files.{file_of}
use Rattle.host_exec.specs.Checked.{IsNoImageOf}
use Rattle.host_exec.specs.Reading.{HasForm}
use Rattle.host_exec.proofs.OneImage.{one_image}
use Rattle.host_exec.proofs.ReadTables.{public_read, image_read, is_some_image, no_bad_table}
use Rattle.host_exec.proofs.reading.read_public.Goals as goal

pub returns-then-not-branch-clause-bad : goal.returns-then-not-branch-clause-bad
returns-then-not-branch-clause-bad g c e file is =
    subst (λ (b : Bool). MatchBool b (HasForm c.args.cat.now file) (IsNoImageOf c.args.cat.now file)) c.if-not-branch.true (c.in_ok-is_image.ensures.image file is)

pub returns-clause-goes_with : goal.returns-clause-goes_with
returns-clause-goes_with g c =
    IfOk-weaker c.read_tables.result _ _ (λ public read. public_read (g.D.Depot.contents c.is_image.new.depot) c.args.name.now c.args.cat.now public c.a_catalog_is_short.ensures.catalog read)
    c.read_tables.ensures.read

pub returns-clause-image : goal.returns-clause-image
returns-clause-image g c =
    IfOk-weaker c.read_tables.result _ _ (λ public read file is.
    (let form = subst (λ (b : Bool). MatchBool b (HasForm c.args.cat.now file) (IsNoImageOf c.args.cat.now file)) c.if-not-branch.false (c.in_ok-is_image.ensures.image file is) in
    image_read (g.D.Depot.contents c.args.depot.now) (g.D.Depot.contents c.is_image.new.depot) c.args.name.now c.args.cat.now public file c.in_ok-is_image.ensures.same
    c.a_catalog_is_short.ensures.catalog read form is))
    c.read_tables.ensures.read

pub returns-clause-one : goal.returns-clause-one
returns-clause-one g c =
    IfOk-weaker c.read_tables.result _ _ (λ public read file other is spells.
    (let form = subst (λ (b : Bool). MatchBool b (HasForm c.args.cat.now file) (IsNoImageOf c.args.cat.now file)) c.if-not-branch.false (c.in_ok-is_image.ensures.image file is) in
    one_image c.args.cat.now public other file
    (image_read (g.D.Depot.contents c.args.depot.now) (g.D.Depot.contents c.is_image.new.depot) c.args.name.now c.args.cat.now public file c.in_ok-is_image.ensures.same
    c.a_catalog_is_short.ensures.catalog read form is) spells))
    c.read_tables.ensures.read

pub returns-clause-bad : goal.returns-clause-bad
returns-clause-bad g c e file is =
    let form = subst (λ (b : Bool). MatchBool b (HasForm c.args.cat.now file) (IsNoImageOf c.args.cat.now file)) c.if-not-branch.false (c.in_ok-is_image.ensures.image file is) in
    let there = ap (λ k. file_of k c.args.name.now) c.in_ok-is_image.ensures.same ∙ is in
    absurd (no_bad_table c.args.cat.now file form (c.read_tables.ensures.bad e file there))

pub returns-clause-memory : goal.returns-clause-memory
returns-clause-memory g c e file is none =
    let form = subst (λ (b : Bool). MatchBool b (HasForm c.args.cat.now file) (IsNoImageOf c.args.cat.now file)) c.if-not-branch.false (c.in_ok-is_image.ensures.image file is) in
    is_some_image c.args.cat.now file c.a_catalog_is_short.ensures.catalog form none
