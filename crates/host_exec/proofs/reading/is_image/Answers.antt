use Rattle.std.proofs.Common.{◌≡◌, Bool, MatchBool, length, ap, subst, ◌∙◌}
use Rattle.std.proofs.lemmas.Result.{IfOk-weaker}
use Rattle.ghost_model.specs.forms.Catalog.{catalog_bytes}
use Rattle.edge_traits.specs.Files.{file_of}
use Rattle.host_exec.specs.RowBytes.{window}
use Rattle.host_exec.proofs.ReadTables.{form_checked, other_front}
use Rattle.host_exec.proofs.reading.is_image.Goals as goal

pub returns-then-not-branch-clause-image : goal.returns-then-not-branch-clause-image
returns-then-not-branch-clause-image g c file is =
    let cat = c.args.cat.now in
    other_front cat file
    (subst (λ (b : Bool). MatchBool b (window file 0 (length (catalog_bytes cat)) ≡ catalog_bytes cat) (window file 0 (length (catalog_bytes cat)) ≡ catalog_bytes cat → ⊥))
    c.if-not-branch.true (c.in_ok-begins_with.ensures.begins file is))

pub returns-clause-image : goal.returns-clause-image
returns-clause-image g c =
    let cat = c.args.cat.now in
    IfOk-weaker c.check_file.result _ _ (λ good h file is.
    (let there = ap (λ k. file_of k c.args.name.now) c.in_ok-begins_with.ensures.same ∙ is in
    let begins = subst (λ (b : Bool). MatchBool b (window file 0 (length (catalog_bytes cat)) ≡ catalog_bytes cat) (window file 0 (length (catalog_bytes cat)) ≡ catalog_bytes cat → ⊥))
    c.if-not-branch.false (c.in_ok-begins_with.ensures.begins file is) in
    form_checked cat file good begins (h file there)))
    c.check_file.ensures.checked
