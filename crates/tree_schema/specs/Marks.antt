-- What the tokens of the code stand for. A token is given by its sort, its offset and its bytes in the text.
use Rattle.std.specs.Prelude.{◌≡◌, ℕ, Bool, true, false, List, [], ◌∷◌, take, drop}
use Rattle.ghost_model.specs.refusals.Tokens as tokens
use Rattle.tree_schema.specs.declared.tokens.Mark.{Mark}
use Rattle.tree_schema.specs.declared.tokens.Mark.TheVariants as mark
use Rattle.tree_schema.specs.declared.tokens.Token.{Token}

abbrev pub value_in : tokens.Symbol → List ℕ
value_in (tokens.Quoted value) = value
value_in _ = []

-- the value of a text literal, from its first `'` to its last
abbrev pub literal_of : List ℕ → List ℕ
literal_of bytes = value_in (tokens.quoted_from false [] 1 (drop 1 bytes)).symbol

abbrev pub symbol_of : Mark → List ℕ → tokens.Symbol
symbol_of mark.And bytes = tokens.Word tokens.AndWord
symbol_of mark.Between bytes = tokens.Word tokens.BetweenWord
symbol_of mark.Char bytes = tokens.Word tokens.CharWord
symbol_of mark.Create bytes = tokens.Word tokens.CreateWord
symbol_of mark.From bytes = tokens.Word tokens.FromWord
symbol_of mark.Hidden bytes = tokens.Word tokens.HiddenWord
symbol_of mark.In bytes = tokens.Word tokens.InWord
symbol_of mark.Integer bytes = tokens.Word tokens.IntegerWord
symbol_of mark.Is bytes = tokens.Word tokens.IsWord
symbol_of mark.Key bytes = tokens.Word tokens.PrimaryKeyWord
symbol_of mark.Not bytes = tokens.Word tokens.NotWord
symbol_of mark.Null bytes = tokens.Word tokens.NullWord
symbol_of mark.Or bytes = tokens.Word tokens.OrWord
symbol_of mark.Primary bytes = tokens.Word tokens.PrimaryWord
symbol_of mark.References bytes = tokens.Word tokens.ReferencesWord
symbol_of mark.Select bytes = tokens.Word tokens.SelectWord
symbol_of mark.Table bytes = tokens.Word tokens.TableWord
symbol_of mark.Where bytes = tokens.Word tokens.WhereWord
symbol_of mark.Reserved bytes = tokens.Reserved
symbol_of mark.Name bytes = tokens.Name (tokens.in_lower_case bytes)
symbol_of mark.Digits bytes = tokens.Digits bytes
symbol_of mark.Quoted bytes = tokens.Quoted (literal_of bytes)
symbol_of mark.Open bytes = tokens.Open
symbol_of mark.Closing bytes = tokens.Closing
symbol_of mark.Comma bytes = tokens.Comma
symbol_of mark.Point bytes = tokens.Point
symbol_of mark.Semicolon bytes = tokens.Semicolon
symbol_of mark.Star bytes = tokens.Star
symbol_of mark.Plus bytes = tokens.PlusSign
symbol_of mark.Minus bytes = tokens.MinusSign
symbol_of mark.Equal bytes = tokens.EqualSign
symbol_of mark.Unequal bytes = tokens.UnequalSign
symbol_of mark.Less bytes = tokens.LessSign
symbol_of mark.AtMost bytes = tokens.AtMostSign
symbol_of mark.More bytes = tokens.MoreSign
symbol_of mark.AtLeast bytes = tokens.AtLeastSign
symbol_of mark.Bad bytes = tokens.NoToken
symbol_of mark.End bytes = tokens.EndOfText

abbrev pub token_of : Token → tokens.Token
token_of token = record { symbol = symbol_of token.mark token.bytes.now; at = token.at }

-- the tokens left behind an offset, none where the end was given
abbrev pub left_from : Bool → ℕ → List ℕ → List tokens.Token
left_from true at rest = []
left_from false at rest = tokens.tokens_from 0 at rest

-- the token that begins a text
abbrev pub read_at : List ℕ → tokens.Read
read_at [] = tokens.read tokens.EndOfText 0
read_at (b ∷ bs) = tokens.token_at b bs

-- a sort and a length, of which the first bytes of a text are the token
pub record Begins (text : List ℕ) (found : Mark) (len : ℕ) : Type 0 where
  pub symbol : symbol_of found (take len text) ≡ (read_at text).symbol
  pub bytes : len ≡ (read_at text).bytes
