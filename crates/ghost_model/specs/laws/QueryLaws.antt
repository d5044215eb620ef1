-- Laws of query texts: the functions that read a text say what the relations say of it.
use Rattle.std.specs.Prelude.{◌≡◌, ◌⊎◌, ◌↔◌, ℕ, List, ◌∷◌, ◌++◌, map, None, Ok, Err}
use Rattle.ghost_model.specs.core.Schema.{Schema}
use Rattle.ghost_model.specs.core.Query.{Query}
use Rattle.ghost_model.specs.refusals.Tokens.{Token, tokens, symbol_of}
use Rattle.ghost_model.specs.refusals.Grammar.{Spells, IsSyntaxFault}
use Rattle.ghost_model.specs.refusals.QueryGrammar.{QueryText, spelling}
use Rattle.ghost_model.specs.readings.QueryPlaces.{QueryPlace, before, step, syntax_of}
use Rattle.ghost_model.specs.refusals.QueryMeaning.{Refusal, Means, IsRefused}
use Rattle.ghost_model.specs.readings.QueryReading.{reading}

-- a text was read up to a place and its next token, at this offset, leads nowhere from there
pub record IsStuck (text : List ℕ) (at : ℕ) : Type 0 where
  pub place : QueryPlace
  pub read : List Token
  pub next : Token
  pub later : List Token
  pub whole : tokens text ≡ read ++ next ∷ later
  pub before_it : map symbol_of read ≡ before place
  pub nowhere : step place next.symbol ≡ None
  pub offset : next.at ≡ at

-- following the places tells exactly the trees that the grammar gives to texts, and exactly their faults; and wherever
-- a text is stuck, whatever way it was read so far, there is its fault
pub record QueryPlacesAreExact : Type 0 where
  pub tree : (text : List ℕ) (tree : QueryText) → syntax_of text ≡ Ok tree ↔ Spells spelling text tree
  pub fault : (text : List ℕ) (at : ℕ) → syntax_of text ≡ Err at ↔ IsSyntaxFault spelling text at
  pub stuck : (text : List ℕ) (at : ℕ) → IsStuck text at ↔ IsSyntaxFault spelling text at

-- a text means one query and is not refused
pub record HasOneMeaning (schema : Schema) (text : List ℕ) : Type 0 where
  pub query : Query
  pub means : Means schema text query
  pub no_other : (other : Query) → Means schema text other → other ≡ query
  pub not_refused : (refusal : Refusal) → IsRefused schema text refusal → ⊥

-- a text has one refusal and no meaning
pub record HasOneRefusal (schema : Schema) (text : List ℕ) : Type 0 where
  pub refusal : Refusal
  pub refused : IsRefused schema text refusal
  pub no_other : (other : Refusal) → IsRefused schema text other → other ≡ refusal
  pub no_meaning : (query : Query) → Means schema text query → ⊥

-- each text has one meaning or one refusal, and the reading tells which
pub record OneReading : Type 0 where
  pub one : (schema : Schema) (text : List ℕ) → HasOneMeaning schema text ⊎ HasOneRefusal schema text
  pub meaning : (schema : Schema) (text : List ℕ) (query : Query) → reading schema text ≡ Ok query ↔ Means schema text query
  pub refusal : (schema : Schema) (text : List ℕ) (refusal : Refusal) → reading schema text ≡ Err refusal ↔ IsRefused schema text refusal
