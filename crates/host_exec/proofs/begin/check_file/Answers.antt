use Rattle.std.proofs.Common.{◌≡◌, Bool, length, MatchBool, ap, subst, ◌∙◌}
use Rattle.std.proofs.lemmas.Result.{IfOk-weaker}
use Rattle.edge_traits.specs.Files.{file_of}
use Rattle.host_exec.proofs.ImageSpelling.{some_bytes, file_checked}
use Rattle.host_exec.proofs.begin.check_file.Goals as goal

pub ends_at-requires : goal.ends_at-requires
ends_at-requires g c = some_bytes c.args.catalog.now (length c.args.catalog.now.schema) c.args.places.now.end c.requires.end

pub returns-clause-checked : goal.returns-clause-checked
returns-clause-checked g c =
    IfOk-weaker c.check_tables.result _ _ (λ good h file is.
    (let there = ap (λ k. file_of k c.args.name.now) c.in_ok-ends_at.ensures.same ∙ is in
    let end = subst (λ (b : Bool). MatchBool b (length file ≡ c.args.places.now.end) (length file ≡ c.args.places.now.end → ⊥)) c.if-not-branch.false (c.in_ok-ends_at.ensures.ends file is) in
    file_checked c.args.catalog.now file good (end ∙ c.requires.end) (h file there)))
    c.check_tables.ensures.checked
