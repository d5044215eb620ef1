-- What a text's job finds, computed: a filter of one page, and the replies to two texts, each on several pages of its half of the spool.
use Rattle.std.specs.Prelude.{◌≡◌, ℕ, ◌+◌, ◌/◌, ◌%◌, ◌^◌, ◌==◌, Bool, true, false, List, [], ◌∷◌, ◌++◌, codes, map, replicate, get_or, slice_set, None, if◌then◌else◌}
use Rattle.std.specs.List.{concat, list_all}
use Rattle.ghost_model.specs.core.Schema.{Chars}
use Rattle.ghost_model.specs.core.Values.{Text}
use Rattle.ghost_model.specs.core.Query.{Query, Equal, compared}
use Rattle.ghost_model.specs.core.Channel.{Catalog}
use Rattle.ghost_model.specs.core.Asks.{ask_for}
use Rattle.ghost_model.specs.core.Replies as replies
use Rattle.ghost_model.specs.core.Split.{RowValues}
use Rattle.ghost_model.specs.forms.Cells.{encode_cell}
use Rattle.ghost_model.specs.forms.Runs.{number_cell}
use Rattle.ghost_model.specs.examples.Clinic.{id_column, text_column}
use Rattle.ghost_model.specs.examples.Channel.{field}
use Rattle.ghost_model.specs.examples.Flash.{filled}
use Rattle.ghost_base.specs.declared.kind.Kind.TheVariants as kinds
use Rattle.page_pool.specs.Pools.{Pool}
use Rattle.bloom_post.specs.Places.{size_of, bits_of}
use Rattle.bloom_post.specs.Filters.{StandsFor, is_set}
use Rattle.visible_spool.specs.declared.area.Area.{Area}
use Rattle.visible_spool.specs.declared.half.Half.{Half}
use Rattle.visible_spool.specs.Areas.{IsAreaOf, first_of}
use Rattle.visible_spool.specs.Halves.{no_reply}
use Rattle.candidate_rows.specs.Rows.{HoldsReply}

-- ---- a filter

-- bytes in which these bits, each once, are set too
unfoldable pub with_bits : (bits bytes : List ℕ) → List ℕ
with_bits [] bytes = bytes
with_bits (bit ∷ bits) bytes = with_bits bits (slice_set bytes (bit / 8) (get_or bytes (bit / 8) 0 + 2 ^ (bit % 8)))

-- a pool of one buffer, which has the bits of three identifiers
abbrev pub pool_of_three : Pool
pool_of_three = record {
  pages = with_bits (concat (map (bits_of (size_of 1)) (1775 ∷ 15737 ∷ 16386 ∷ []))) (replicate 2048 0) ∷ [];
  out = true ∷ [];
  filled = None ∷ [];
}

-- whether the filter that lies there may have an identifier
abbrev pub may_have : (id : ℕ) → Bool
may_have id = list_all (is_set pool_of_three (0 ∷ [])) (bits_of (size_of 1) id)

-- it may have those that were added; it has all three bits of 2 too, which was not, and not all of 1
pub record FilterOfThree : Type 0 where
  pub those_added : map may_have (1775 ∷ 15737 ∷ 16386 ∷ []) ≡ true ∷ true ∷ true ∷ []
  pub another : may_have 2 ≡ true
  pub no_other : may_have 1 ≡ false
  pub not_of_two : StandsFor pool_of_three (0 ∷ []) (1775 ∷ 15737 ∷ []) → ⊥

-- ---- replies

-- sheets with sixteen visible columns, whose rows take 1,028 bytes, so that each page has one
abbrev pub sheet_columns : List ℕ
sheet_columns = 1 ∷ 2 ∷ 3 ∷ 4 ∷ 5 ∷ 6 ∷ 7 ∷ 8 ∷ 9 ∷ 10 ∷ 11 ∷ 12 ∷ 13 ∷ 14 ∷ 15 ∷ 16 ∷ []

abbrev pub sheet_catalog : Catalog
sheet_catalog = record {
  schema = record { name = codes "sheet"; columns = id_column ∷ map (λ number. text_column (99 ∷ (96 + number) ∷ []) 64) sheet_columns } ∷ [];
  counts = 3 ∷ [];
  generation = 1;
  version = 2;
}

-- SELECT ca, cb, .., cp FROM sheet, and with WHERE ca = 'x'
abbrev pub all_sheets : Query
all_sheets = record { from = 0 ∷ []; select = map (field 0) sheet_columns; conditions = [] }

abbrev pub sheets_of_x : Query
sheets_of_x = record all_sheets { conditions = compared (field 0 1) Equal (Text (codes "x")) ∷ [] }

-- a row whose first column has a text, and its others none; as it is replied, and as it is known
abbrev pub sheet_bytes : (identifier : ℕ) → (text : List ℕ) → List ℕ
sheet_bytes identifier text = number_cell identifier ++ encode_cell (Chars 64) (Text text) ++ replicate 960 0

abbrev pub sheet_values : (identifier : ℕ) → (text : List ℕ) → RowValues
sheet_values identifier text = record { identifier = identifier; values = Text text ∷ replicate 15 (Text []) }

-- the first text asks for the sheets of x, which are 1 and 3, and the second for all
abbrev pub first_reply : replies.Reply
first_reply = record { ask = ask_for sheet_catalog.schema sheets_of_x 0; rows = sheet_values 1 (codes "x") ∷ sheet_values 3 (codes "x") ∷ [] }

abbrev pub second_reply : replies.Reply
second_reply = record {
  ask = ask_for sheet_catalog.schema all_sheets 0;
  rows = sheet_values 1 (codes "x") ∷ sheet_values 2 (codes "y") ∷ sheet_values 3 (codes "x") ∷ [];
}

-- where a table's replies lie in each half, and a half with so many rows of a reply from a page on
abbrev pub sheet_area : Area
sheet_area = record { even = 256; odd = 4416; rows = 3; width = 1028 }

abbrev pub half_from : (first count : ℕ) → Half
half_from first count = record {
  replies = record {
    run = record { first = first; count = count; width = 1028 };
    rows = 3;
    cells = 16;
    kinds = replicate 16 (kinds.Chars 64) ++ replicate 8 kinds.Integer;
  } ∷ replicate 11 no_reply;
}

-- what the pages of both halves have
abbrev pub spool_page : (number : ℕ) → List ℕ
spool_page number =
    if number == 256 then filled (sheet_bytes 1 (codes "x"))
    else if number == 257 then filled (sheet_bytes 2 (codes "y"))
    else if number == 258 then filled (sheet_bytes 3 (codes "x"))
    else if number == 4416 then filled (sheet_bytes 1 (codes "x"))
    else if number == 4417 then filled (sheet_bytes 3 (codes "x"))
    else filled []

pub record RepliesToTwoTexts : Type 0 where
  pub area : IsAreaOf sheet_catalog 0 sheet_area
  pub of_the_first : first_of sheet_area 1 ≡ 4416
  pub of_the_second : first_of sheet_area 2 ≡ 256
  pub first : HoldsReply spool_page sheet_catalog.schema sheets_of_x (half_from 4416 2) 0 first_reply
  pub second : HoldsReply spool_page sheet_catalog.schema all_sheets (half_from 256 3) 0 second_reply
  pub a_row_more : HoldsReply spool_page sheet_catalog.schema sheets_of_x (half_from 4416 3) 0 first_reply → ⊥
  pub the_other_half : HoldsReply spool_page sheet_catalog.schema all_sheets (half_from 4416 3) 0 second_reply → ⊥
