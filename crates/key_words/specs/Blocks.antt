-- How many blocks a flash may have: where a number is given, it is not above the most. How many page buffers a key may have,
-- how many numbers of slices a pace, how large the numbers of a generated clinic are, and how many columns a migration may name.
use Rattle.std.specs.Prelude.{ℕ, ◌≢◌, ◌≤◌, List, Option, IfSome}

abbrev pub most_blocks : ℕ
most_blocks = 60000000

abbrev pub IsFew : Option ℕ → Type 0
IsFew given = IfSome given (λ blocks. blocks ≤ most_blocks)

abbrev pub least_buffers : ℕ
least_buffers = 8

abbrev pub most_buffers : ℕ
most_buffers = 64

pub record AreBuffers (buffers : ℕ) : Type 0 where
  pub enough : least_buffers ≤ buffers
  pub few : buffers ≤ most_buffers

abbrev pub most_numbers : ℕ
most_numbers = 16

abbrev pub most_seed : ℕ
most_seed = 999999999

abbrev pub most_rows : ℕ
most_rows = 1000000

abbrev pub most_texts : ℕ
most_texts = 40

-- a clinic that can be drawn: its seed, its visits and its texts
pub record IsDrawn (seed rows texts : ℕ) : Type 0 where
  pub short_seed : seed ≤ most_seed
  pub some_rows : 1 ≤ rows
  pub few_rows : rows ≤ most_rows
  pub some_texts : 1 ≤ texts
  pub few_texts : texts ≤ most_texts

-- the files that a migration makes have other names than those that it reads
pub record AreApart (flash visible to_flash to_visible : List ℕ) : Type 0 where
  pub flashes : flash ≢ to_flash
  pub visibles : visible ≢ to_visible

abbrev pub most_items : ℕ
most_items = 32

abbrev pub least_slices : ℕ
least_slices = 0

abbrev pub most_slices : ℕ
most_slices = 1000
