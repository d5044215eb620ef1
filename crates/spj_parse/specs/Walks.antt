-- What is left of a walk over a text, and that a text has a tree.
use Rattle.std.specs.Prelude.{◌≡◌, ℕ, List, Ok}
use Rattle.ghost_model.specs.refusals.QueryGrammar.{QueryText}
use Rattle.ghost_model.specs.readings.QueryPlaces.{syntax_of}
use Rattle.spj_parse.specs.declared.walk.Walk.{Walk}
use Rattle.spj_parse.specs.Items.{Item, items_from}
use Rattle.spj_parse.specs.Drafts.{spot_of}

abbrev pub items_left : Walk → List Item
items_left walk = items_from (spot_of walk.spot) walk.cursor

-- the text is in the grammar
pub record HasTree (text : List ℕ) : Type 0 where
  pub tree : QueryText
  pub read : syntax_of text ≡ Ok tree
