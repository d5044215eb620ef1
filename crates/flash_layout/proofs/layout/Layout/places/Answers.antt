use Rattle.std.proofs.Common.{◌≡◌, ◌∙◌, ap, sym, subst, Some, length, slice_get}
use Rattle.std.proofs.lemmas.Bool.{ltb-true}
use Rattle.std.proofs.lemmas.Option.{slice_get-get_or}
use Rattle.ghost_model.specs.core.Channel.{Catalog}
use Rattle.flash_layout.specs.Places.{ArePlaces}
use Rattle.flash_layout.proofs.layout.Layout.places.Goals as goal

pub returns : goal.returns
returns c =
    let table = c.args.table in
    let found = c.in-Some.places.now in
    let lookup = c.in-Some.ensures.lookup in
    let at : slice_get c.deref.result.now table ≡ Some found = slice_get-get_or c.deref.result.now table _ (ltb-true table (length c.deref.result.now) (sym lookup.0)) ∙ ap Some (sym lookup.1) in
    let here = c.self.invariant.places.each table found (ap (λ tables. slice_get tables table) (sym c.deref.ensures.0) ∙ at) in
    record { places = subst (λ (cat : Catalog). ArePlaces cat table found) c.self.view_is here }
