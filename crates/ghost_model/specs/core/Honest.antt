-- An honest host: nothing breaks off, and what the key takes begins a stream that the public part decides but for its
-- packing. First come WELCOME frames whose parts, joined, are the catalog's bytes; then, for each ask that the key sent,
-- in order, ROWS frames in any packing whose rows, joined, are the rows that meet the ask, and DONE with their number.
use Rattle.std.specs.Prelude.{◌≡◌, ℕ, ◌+◌, ◌*◌, Bool, true, false, ◌&&◌, nat_le, nat_lt, List, [], ◌∷◌, ◌++◌, length, map, flat_map, ◌≤◌}
use Rattle.std.specs.List.{concat, list_any, list_all}
use Rattle.ghost_model.specs.core.Schema.{Schema}
use Rattle.ghost_model.specs.core.Channel.{Catalog, Ask, Frame, DoneFrame, Journal}
use Rattle.ghost_model.specs.core.Values.{Database}
use Rattle.ghost_model.specs.core.Database.{IsDatabase, row_counts}
use Rattle.ghost_model.specs.forms.Catalog.{catalog_bytes, IsCatalog}
use Rattle.ghost_model.specs.forms.Frames.{Got, Found, got_of, frame_bytes, most_payload}
use Rattle.ghost_model.specs.core.Asks.{RowCells, row_width}
use Rattle.ghost_model.specs.core.Moves.{taken, sent, answers}
use Rattle.ghost_model.specs.core.NextMove.{is_stop}
use Rattle.ghost_model.specs.core.Split.{Public, reply_rows}
use Rattle.ghost_model.specs.core.Host.{welcomes_of, rows_frame, most_part, asks_in_frame}

-- WELCOME frames that spell the catalog, cut anywhere
pub record AreWelcomes (catalog : Catalog) (frames : List Frame) : Type 0 where
  pub parts : List (List ℕ)
  pub cut : list_all (λ part. nat_lt 0 (length part) && nat_le (length part) most_part) parts ≡ true
  pub whole : concat parts ≡ catalog_bytes catalog
  pub frames_are : frames ≡ welcomes_of parts

-- whether a group of rows of this width fits one frame
abbrev pub fits_frame : (width : ℕ) → List RowCells → Bool
fits_frame width rows = nat_lt 0 (length rows) && nat_le (width * length rows) most_payload

-- the frames of a reply with these rows, in any packing
pub record IsReply (schema : Schema) (serial : ℕ) (ask : Ask) (rows : List RowCells) (frames : List Frame) : Type 0 where
  pub packing : List (List RowCells)
  pub fits : list_all (fits_frame (row_width schema ask)) packing ≡ true
  pub whole : flat_map (λ group. group) packing ≡ rows
  pub frames_are : frames ≡ map (rows_frame serial) packing ++ DoneFrame serial (length rows) ∷ []

-- the replies to these asks one after another, the first with this serial
unfoldable pub AreReplies : Schema → Public → (serial : ℕ) → List Ask → List Frame → Type 0
AreReplies schema public serial [] frames = frames ≡ []
AreReplies schema public serial (ask ∷ asks) frames =
    (reply : List Frame) × (later : List Frame) × IsReply schema serial ask (reply_rows schema public ask) reply
    × AreReplies schema public (serial + 1) asks later × (frames ≡ reply ++ later)

abbrev pub asks_in_got : Schema → Got → List Ask
asks_in_got schema (Found frame) = asks_in_frame schema frame
asks_in_got schema _ = []

abbrev pub asks_sent : Schema → Journal → List Ask
asks_sent schema journal = flat_map (λ bytes. asks_in_got schema (got_of bytes)) (sent journal)

pub record IsHonest (catalog : Catalog) (public : Public) (journal : Journal) : Type 0 where
  pub nothing_breaks_off : list_any is_stop (answers journal) ≡ false
  pub greeting : List Frame
  pub greets : AreWelcomes catalog greeting
  pub replies : List Frame
  pub replied : AreReplies catalog.schema public 1 (asks_sent catalog.schema journal) replies
  -- what the key has not taken yet
  pub rest : List ℕ
  pub taken_before : taken journal ++ rest ≡ flat_map frame_bytes (greeting ++ replies)

pub record IsSetting (catalog : Catalog) (texts : List (List ℕ)) : Type 0 where
  pub proper : IsCatalog catalog
  pub few : length texts ≤ 64

pub record IsCatalogOf (catalog : Catalog) (database : Database) : Type 0 where
  pub proper : IsCatalog catalog
  pub is_database : IsDatabase catalog.schema database
  pub counts_are : row_counts database ≡ catalog.counts
