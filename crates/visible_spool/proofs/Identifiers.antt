-- The identifiers of all rows.
use Rattle.std.proofs.Common.{◌≡◌, ◌∙◌, ap, ℕ, List, length, map, arith}
use Rattle.std.proofs.lemmas.List.{take_all}
use Rattle.ghost_model.specs.forms.Runs.{ids_from}
use Rattle.ghost_model.specs.laws.RunLaws.{IdentifiersOfRecords}
use Rattle.ghost_base.specs.Runs.{run_of}
use Rattle.visible_spool.specs.declared.reply.Reply.{Reply}
use Rattle.visible_spool.specs.Replies.{HoldsRows, id_of_bytes}

pub all_ids : (pages : ℕ → List ℕ) (reply : Reply) (rows : List (List ℕ)) → HoldsRows pages reply rows → IdentifiersOfRecords
    → (first count : ℕ) → first ≡ 0 → count ≡ reply.run.count → ids_from pages (run_of reply.run) first count ≡ map id_of_bytes rows
all_ids pages reply rows holds law first count start all =
    ap (λ n. ids_from pages (run_of reply.run) n count) start
    ∙ (ap (λ n. ids_from pages (run_of reply.run) 0 n) (all ∙ holds.has.count)
    ∙ (law pages (run_of reply.run) rows holds.has 0 (length rows) (omega arith)
    ∙ ap (λ (r : List (List ℕ)). map id_of_bytes r) (take_all (length rows) rows (omega arith))))
