-- Laws of hosts: what a host sends is honest, is cut into its frames again, and is heard whole. Nothing here need be
-- believed: each is proved.
use Rattle.std.specs.Prelude.{◌≡◌, ℕ, ◌+◌, ◌/◌, List, [], ◌∷◌, ◌++◌, length, map, flat_map, All, nat_lt, nat_le, ◌&&◌, true, false, ◌*◌, ◌^◌, ◌≤◌, ◌<◌}
use Rattle.std.specs.List.{list_all}
use Rattle.ghost_model.specs.core.Channel.{Catalog, count_of, Ask, Frame, WelcomeFrame, DoneFrame}
use Rattle.ghost_model.specs.forms.Catalog.{catalog_bytes}
use Rattle.ghost_model.specs.forms.Frames.{IsFrame, AreBytes, frame_bytes, payload_of, most_payload}
use Rattle.ghost_model.specs.core.Asks.{RowCells, row_bytes, row_width, kinds_of, NumberedAsk}
use Rattle.ghost_model.specs.laws.ChannelLaws.{IsReplyRow}
use Rattle.ghost_model.specs.core.Host.{Holding, grouped, welcomes_of, most_part, welcomes, rows_frame, reply_to, frames_of, host_says, asks_in_frame}
use Rattle.ghost_model.specs.core.NextMove as next

-- the whole replies to some asks, the first of them having this serial
abbrev pub replies_to : Holding → (serial : ℕ) → List Ask → List Frame
replies_to held serial [] = []
replies_to held serial (ask ∷ asks) = reply_to held serial ask ++ replies_to held (serial + 1) asks

-- the stream of an honest host for frames of a key: the catalog, and the whole reply to each ask in order
abbrev pub honest_stream : Holding → (key : List Frame) → List Frame
honest_stream held key =
    welcomes held.catalog ++ replies_to held 1 (flat_map (asks_in_frame held.catalog.schema) key)

pub record IsFront (front whole : List Frame) : Type 0 where
  pub rest : List Frame
  pub joined : whole ≡ front ++ rest

-- whatever a key sends, this host says a front of the honest stream
abbrev pub HostIsHonest : Type 0
HostIsHonest = (held : Holding) (key : List ℕ) → IsFront (host_says held key) (honest_stream held (frames_of key))

abbrev pub welcome_part : Frame → List ℕ
welcome_part (WelcomeFrame _ part) = part
welcome_part _ = []

-- the WELCOME frames spell the catalog, and the ROWS frames of a reply the rows
pub record NothingIsLost : Type 0 where
  pub catalog : (catalog : Catalog) → flat_map welcome_part (welcomes catalog) ≡ catalog_bytes catalog
  pub rows :
      (width : ℕ) (serial : ℕ) (rows : List RowCells) → 0 < width → width ≤ most_payload
      → flat_map payload_of (map (rows_frame serial) (grouped (most_payload / width) rows)) ≡ flat_map row_bytes rows

-- frames that are sent one after another are cut into these frames again
abbrev pub FramesAreCut : Type 0
FramesAreCut = (frames : List Frame) → All IsFrame frames → frames_of (flat_map frame_bytes frames) ≡ frames

-- a group of rows may be sent in one ROWS frame after a row with this identifier (0 before the first)
pub record IsGroup (catalog : Catalog) (ask : Ask) (last : ℕ) (rows : List RowCells) : Type 0 where
  pub some : 0 < length rows
  pub fits : length rows * row_width catalog.schema ask ≤ most_payload
  pub ascends : next.rows_fit (count_of catalog ask.table) last (kinds_of catalog.schema ask) rows ≡ true
  pub widths : All (IsReplyRow catalog.schema ask) rows
  pub bytes : AreBytes (flat_map row_bytes rows)

-- groups of rows that may be sent one after another
abbrev pub AreGroups : Catalog → Ask → (last : ℕ) → List (List RowCells) → Type 0
AreGroups catalog ask last [] = Unit {0}
AreGroups catalog ask last (rows ∷ groups) =
    IsGroup catalog ask last rows × AreGroups catalog ask (next.last_identifier last rows) groups

-- the rows of some groups
abbrev pub rows_of_groups : List (List RowCells) → List RowCells
rows_of_groups groups = flat_map (λ group. group) groups

-- the reply of these groups of rows
abbrev pub reply_frames : (serial : ℕ) → (groups : List (List RowCells)) → List Frame
reply_frames serial groups = map (rows_frame serial) groups ++ DoneFrame serial (length (rows_of_groups groups)) ∷ []

-- a reply was heard whole: the ask is ended with all rows, and the next one is awaited
pub record IsHeardWhole (catalog : Catalog) (asked : NumberedAsk) (serial : ℕ) (later : List NumberedAsk) (groups : List (List RowCells)) (before after : next.Heard) : Type 0 where
  pub awaits : after.awaits ≡ (next.ask_next catalog.schema (serial + 1) later).awaits
  pub part : after.part ≡ []
  pub valid : after.broken ≡ false
  pub rows : after.rows ≡ []
  pub ended : after.ended ≡ before.ended ++ record { asked = asked; ending = next.Answered (flat_map row_bytes (rows_of_groups groups)) } ∷ []

-- the whole reply to an ask, in any packing, is heard whole
abbrev pub RepliesAreHeard : Type 0
RepliesAreHeard =
    (catalog : Catalog) (asks : List NumberedAsk) (asked : NumberedAsk) (serial : ℕ) (later : List NumberedAsk) (groups : List (List RowCells)) (before : next.Heard)
    → before.awaits ≡ next.AwaitsReply asked serial later 0 0 → before.part ≡ [] → before.rows ≡ [] → before.broken ≡ false
    → 0 < serial → serial < 2 ^ 32 → length (rows_of_groups groups) < 2 ^ 32 → AreGroups catalog asked.ask 0 groups
    → IsHeardWhole catalog asked serial later groups before (next.hear_all catalog asks before (flat_map frame_bytes (reply_frames serial groups)))

-- the catalog was heard whole, and the first ask is the next thing, or BYE
pub record IsGreeted (catalog : Catalog) (asks : List NumberedAsk) (after : next.Heard) : Type 0 where
  pub awaits : after.awaits ≡ (next.ask_next catalog.schema 1 asks).awaits
  pub part : after.part ≡ []
  pub valid : after.broken ≡ false
  pub rows : after.rows ≡ []
  pub ended : after.ended ≡ []

-- WELCOME frames that spell the catalog, cut anywhere, are heard whole
abbrev pub GreetingsAreHeard : Type 0
GreetingsAreHeard =
    (catalog : Catalog) (asks : List NumberedAsk) (parts : List (List ℕ)) → AreBytes (catalog_bytes catalog)
    → list_all (λ part. nat_lt 0 (length part) && nat_le (length part) most_part) parts ≡ true
    → flat_map (λ part. part) parts ≡ catalog_bytes catalog
    → IsGreeted catalog asks (next.heard catalog asks (flat_map frame_bytes (welcomes_of parts)))

-- an ask, and the groups in which the rows of its reply are sent
pub record Exchange : Type 0 where
  pub asked : NumberedAsk
  pub groups : List (List RowCells)

abbrev pub asked_in : Exchange → NumberedAsk
asked_in exchange = exchange.asked

-- that the ask was ended by DONE, with all these rows
abbrev pub ended_in : Exchange → next.EndedAsk
ended_in exchange =
    record { asked = exchange.asked; ending = next.Answered (flat_map row_bytes (rows_of_groups exchange.groups)) }

-- the frames of the replies, the first of them with this serial
abbrev pub exchange_frames : (serial : ℕ) → List Exchange → List Frame
exchange_frames serial [] = []
exchange_frames serial (exchange ∷ later) = reply_frames serial exchange.groups ++ exchange_frames (serial + 1) later

-- serials and numbers of rows fit their fields, and the rows of each reply may be sent so
abbrev pub AreExchanges : Catalog → (serial : ℕ) → List Exchange → Type 0
AreExchanges catalog serial [] = Unit {0}
AreExchanges catalog serial (exchange ∷ later) =
    (serial < 2 ^ 32) × (length (rows_of_groups exchange.groups) < 2 ^ 32)
    × AreGroups catalog exchange.asked.ask 0 exchange.groups × AreExchanges catalog (serial + 1) later

-- a session was heard to its end: every ask was ended by DONE with all its rows, and nothing more is awaited
pub record IsHeardToTheEnd (exchanges : List Exchange) (after : next.Heard) : Type 0 where
  pub nothing_awaited : after.awaits ≡ next.AwaitsNothing
  pub valid : after.broken ≡ false
  pub ended : after.ended ≡ map ended_in exchanges

-- the stream of an honest host, in any packing, is heard to its end without an invalid frame
abbrev pub HonestStreamsAreHeard : Type 0
HonestStreamsAreHeard =
    (catalog : Catalog) (parts : List (List ℕ)) (exchanges : List Exchange) → AreBytes (catalog_bytes catalog)
    → list_all (λ part. nat_lt 0 (length part) && nat_le (length part) most_part) parts ≡ true
    → flat_map (λ part. part) parts ≡ catalog_bytes catalog → AreExchanges catalog 1 exchanges
    → IsHeardToTheEnd exchanges
    (next.heard catalog (map asked_in exchanges) (flat_map frame_bytes (welcomes_of parts ++ exchange_frames 1 exchanges)))
