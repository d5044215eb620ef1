-- A query that a text means has a top table.
use Rattle.std.proofs.Common.{◌≡◌, ℕ, Bool, true, false, ◌||◌, List, is_none, ap, refl, ◌∙◌}
use Rattle.ghost_model.specs.core.Schema.{Schema}
use Rattle.ghost_model.specs.core.Query.{Query, top_of}
use Rattle.ghost_model.specs.refusals.QueryMeaning.{resolved}
use Rattle.ghost_model.specs.laws.QueryLaws.{OneReading}
use Rattle.ghost_model.proofs.QueryReadingLemmas.{kept_rules}
use Rattle.spj_parse.specs.Resolved.{IsMeant, linked}

middle : (a b c : Bool) → (a || b || c) ≡ false → b ≡ false
middle true b c h = absurd (let no : true ≡ false = h in cc)
middle false true c h = absurd (let no : true ≡ false = h in cc)
middle false false c h = refl

pub has_top : OneReading → (schema : Schema) (text : List ℕ) (query : Query) → IsMeant schema text query → is_none (top_of schema query) ≡ false
has_top one schema text query h =
    let meant = (one.meaning schema text h.meant).0 h.reads in
    ap (λ (q : Query). is_none (top_of schema q)) (h.once ∙ ap (linked schema) meant.means)
    ∙ middle _ (is_none (top_of schema (resolved schema meant.tree))) _ (kept_rules schema text meant.tree meant.keeps).linked
