-- Whether an integer is outside 64 bits, and what is kept of the value of a text literal.
use Rattle.std.specs.Prelude.{◌≡◌, ℕ, ◌+◌, ℤ, Bool, true, false, not, List, [], ◌∷◌, ◌++◌, length, take}
use Rattle.ghost_model.specs.refusals.Tokens.{Read, read, Quoted, NoToken, quoted_from}
use Rattle.ghost_model.specs.core.Values.{fits_integer}
use Rattle.spj_parse.specs.declared.literals.InText.{InText}
use Rattle.spj_parse.specs.declared.literals.InText.TheVariants as in_text
use Rattle.spj_parse.specs.declared.literals.TextDraft.{TextDraft}

abbrev pub is_out : ℤ → Bool
is_out number = not (fits_integer number)

-- how a literal is read on, by what a byte does
abbrev pub read_on : InText → (byte : ℕ) (value : List ℕ) (count : ℕ) → List ℕ → Read
read_on in_text.Ends byte value count rest = read (Quoted value) count
read_on in_text.Breaks byte value count rest = read NoToken 1
read_on in_text.Closes byte value count rest = quoted_from true value (count + 1) rest
read_on in_text.Gives byte value count rest = quoted_from false (value ++ byte ∷ []) (count + 1) rest

-- the length and the first 64 bytes of a text
pub record Keeps (draft : TextDraft) (text : List ℕ) : Type 0 where
  pub len : draft.len ≡ length text
  pub front : draft.front.items ≡ take 64 text
