-- The pages of a device in memory, as a list.
use Rattle.std.specs.Prelude.{ℕ, List, [], slice_index_or}

-- the bytes of a page, and none where there is no such page
abbrev pub page_at : List (List ℕ) → ℕ → List ℕ
page_at pages page = slice_index_or pages page []
