use Rattle.std.proofs.Common.{Bool, List, ℕ, MatchBool, ap, sym, subst, ◌∙◌}
use Rattle.std.proofs.lemmas.Bool.{eqb-true}
use Rattle.ghost_model.specs.forms.Catalog.{BeginsWithCatalog, current_version}
use Rattle.edge_traits.specs.Files.{file_of}
use Rattle.host_exec.specs.Checked.{IsChecked}
use Rattle.host_exec.proofs.ImageSpelling.{is_image, front_is_enough, other_image, other_version}
use Rattle.host_exec.proofs.begin.open.Goals as goal

pub returns-in-None-clause-opened : goal.returns-in-None-clause-opened
returns-in-None-clause-opened g c file is =
    let head = c.in_ok-fill.ensures.filled file is in
    front_is_enough file (λ cat b. c.in-None.ensures.none cat (subst (λ (bs : List ℕ). BeginsWithCatalog bs cat) (sym head) b)) c.no_catalog_is_long.ensures

pub returns-then-not-is_current-clause-opened : goal.returns-then-not-is_current-clause-opened
returns-then-not-is_current-clause-opened g c file is =
    let head = c.in_ok-fill.ensures.filled file is in
    let begins = subst (λ (bs : List ℕ). BeginsWithCatalog bs c.in-Some.catalog) head c.in-Some.ensures.begins in
    other_version file c.in-Some.catalog begins c.no_catalog_is_long.ensures c.catalogs_have_one_spelling.ensures
    (sym c.is_current.ensures ∙ c.if-not-is_current.true)

pub returns-then-branch-clause-opened : goal.returns-then-branch-clause-opened
returns-then-branch-clause-opened g c file is =
    let head = c.in_ok-fill.ensures.filled file is in
    let there = ap (λ k. file_of k c.args.name.now) c.in_ok-fill.ensures.same ∙ is in
    let begins = subst (λ (bs : List ℕ). BeginsWithCatalog bs c.in-Some.catalog) head c.in-Some.ensures.begins in
    let current = eqb-true c.in-Some.catalog.version current_version (sym c.is_current.ensures ∙ c.if-not-is_current.false) in
    let checked = subst (λ (b : Bool). MatchBool b (IsChecked c.in-Some.catalog file) (IsChecked c.in-Some.catalog file → ⊥)) c.if-branch.true (c.in_ok-check_file-in-Some.ensures.checked file there) in
    is_image c.in-Some.catalog file 16640 current begins (c.no_catalog_is_long.ensures c.in-Some.catalog begins.proper) checked.end checked.good

pub returns-else-branch-clause-opened : goal.returns-else-branch-clause-opened
returns-else-branch-clause-opened g c file is =
    let head = c.in_ok-fill.ensures.filled file is in
    let there = ap (λ k. file_of k c.args.name.now) c.in_ok-fill.ensures.same ∙ is in
    let begins = subst (λ (bs : List ℕ). BeginsWithCatalog bs c.in-Some.catalog) head c.in-Some.ensures.begins in
    let bad = subst (λ (b : Bool). MatchBool b (IsChecked c.in-Some.catalog file) (IsChecked c.in-Some.catalog file → ⊥)) c.if-branch.false (c.in_ok-check_file-in-Some.ensures.checked file there) in
    other_image file c.in-Some.catalog begins c.no_catalog_is_long.ensures c.catalogs_have_one_spelling.ensures bad
