-- What a grammar says of a text, apart from any parser. A grammar is a spelling function: what a text may be is a tree,
-- and each tree has one list of symbols, its end among them. A text is in the grammar where its symbols are those of
-- some tree. It has a fault at the first token that no text of the grammar has after the tokens before it.
use Rattle.std.specs.Prelude.{◌≡◌, ℕ, ◌+◌, ◌<◌, List, ◌∷◌, ◌++◌, length, take, flat_map, Some}
use Rattle.ghost_model.specs.refusals.Tokens.{Symbol, symbols, offset_of}

abbrev pub Spells : {Tree : Type 0} → (Tree → List Symbol) → List ℕ → Tree → Type 0
Spells spelling text tree = symbols text ≡ spelling tree

-- some text of the grammar begins with these symbols
pub record IsViable {Tree : Type 0} (spelling : Tree → List Symbol) (front : List Symbol) : Type 0 where
  pub text : List ℕ
  pub tree : Tree
  pub spells : Spells spelling text tree
  pub rest : List Symbol
  pub begins : front ++ rest ≡ symbols text

-- at this place stands the first symbol that no text of the grammar has after the symbols before it
pub record IsFault {Tree : Type 0} (spelling : Tree → List Symbol) (given : List Symbol) (place : ℕ) : Type 0 where
  pub within : place < length given
  pub viable : IsViable spelling (take place given)
  pub dead : IsViable spelling (take (place + 1) given) → ⊥

-- the fault of a text, by the offset of its token; the end of the text is a token too
pub record IsSyntaxFault {Tree : Type 0} (spelling : Tree → List Symbol) (text : List ℕ) (at : ℕ) : Type 0 where
  pub place : ℕ
  pub fault : IsFault spelling (symbols text) place
  pub offset : offset_of text place ≡ Some at

-- one or more items with a symbol between each two
abbrev pub separated : {X : Type 0} → Symbol → (X → List Symbol) → X → List X → List Symbol
separated by spell x xs = spell x ++ flat_map (λ other. by ∷ spell other) xs
