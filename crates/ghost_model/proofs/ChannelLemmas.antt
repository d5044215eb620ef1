-- Lemmas on frames and on the next move.
pub mod Tests
pub mod Asks
pub mod Proper
pub mod Hosts
pub mod Hearing
pub mod Rows
pub mod Sending
pub mod Replies
pub mod Greeting
pub mod Streams
use Rattle.std.proofs.Common.{◌≡◌, ℕ, zero, suc, ◌+◌, ◌-◌, ◌*◌, ◌<◌, ◌≤◌, ◌^◌, ◌⊎◌, ◌≢◌, inl, inr, Bool, true, false, ◌&&◌, List, [], ◌∷◌, ◌++◌, length, take, drop, slice_index, get_or, sym, ◌∙◌, ap, subst, refl, arith, length-append, append-nil, append_assoc, lit<, w16, w32}
use Rattle.std.specs.Prelude.{◌==◌, nat_lt, nat_le, not, if◌then◌else◌}
use Rattle.std.specs.Int.{to_be_bytes, from_be_bytes}
use Rattle.std.proofs.lemmas.List.{nil_from_length, length-take-le, length-drop, take-append-drop}
use Rattle.std.proofs.lemmas.Nat.{from_be_bytes-to_be_bytes_2, from_be_bytes-to_be_bytes_4, be_bytes_2, be_bytes_4}
use Rattle.std.proofs.lemmas.Grind.{flat_map-append}
use Rattle.std.specs.List.{flat_map}
use Rattle.std.proofs.lemmas.Bool.Decides.{nat_tests, eqb_tells, leb_tells}
use Rattle.std.proofs.lemmas.Bool.{eqb-true, ltb-false, ltb-true, le-ltb}
use Rattle.std.proofs.Math.Seq.{take-length, take-append_seam, drop-append_seam}
use Rattle.ghost_model.specs.core.NextMove as next
use Rattle.ghost_model.specs.laws.ChannelLaws as laws
use Rattle.ghost_model.specs.core.Asks.{NumberedAsk, row_width}
use Rattle.ghost_model.specs.core.Channel.{Catalog, Frame, HelloFrame, AskFrame, MoreFrame, ByeFrame, WelcomeFrame, RowsFrame, DoneFrame, SorryFrame}
use Rattle.ghost_model.specs.forms.Frames.{Got, Found, Short, Bad, got_of, size_allowed, serial_allowed, payload_allowed, header_allowed, IsFrame, AreBytes, frame_bytes, frame_of_parts, frame_in, size_in, serial_in, kind_in, version_in, payload_in, frame_number, frame_kind, serial_of, payload_of, frame_version}
use Rattle.ghost_model.specs.laws.ShortWords.{payload_number}
use Rattle.ghost_model.specs.laws.ChannelLaws.{BeginsWith}

pub size_bound : (kind size : ℕ) → size_allowed kind size ≡ true → size ≤ 2040
size_bound kind size h = grind (arith, nat_tests)

-- a payload of a frame has at most 2,040 bytes
pub payload_bound : (frame : Frame) → IsFrame frame → length (payload_of frame) ≤ 2040
payload_bound frame h = size_bound (frame_kind frame) (length (payload_of frame)) h.size

-- the header of a frame gives the length of its payload
pub size_is_read : (frame : Frame) (rest : List ℕ) → IsFrame frame → size_in (frame_bytes frame ++ rest) ≡ length (payload_of frame)
size_is_read frame rest h =
    from_be_bytes-to_be_bytes_2 (length (payload_of frame)) (omega (arith, payload_bound frame h))

pub prefix_is_whole : (one other : Frame) (rest : List ℕ) → IsFrame one → IsFrame other → frame_bytes one ++ rest ≡ frame_bytes other → rest ≡ []
prefix_is_whole one other rest first second e =
    let read : size_in (frame_bytes other) ≡ length (payload_of other) = from_be_bytes-to_be_bytes_2 (length (payload_of other)) (omega (arith, payload_bound other second)) in
    let sizes : length (payload_of one) ≡ length (payload_of other) = sym (size_is_read one rest first) ∙ (ap size_in e ∙ read) in
    let lengths : length (frame_bytes one ++ rest) ≡ length (frame_bytes other) = ap length e in
    nil_from_length rest (omega (arith, lengths, length-append (payload_of one) rest))

-- parts of bytes are bytes
pub bytes_drop : (n : ℕ) (xs : List ℕ) → AreBytes xs → AreBytes (drop n xs)
bytes_drop zero xs h i = h i
bytes_drop (suc n) [] h i = lit< tt
bytes_drop (suc n) (x ∷ xs) h i = bytes_drop n xs (λ k. h (suc k)) i

pub bytes_take : (n : ℕ) (xs : List ℕ) → AreBytes xs → AreBytes (take n xs)
bytes_take zero xs h i = lit< tt
bytes_take (suc n) [] h i = lit< tt
bytes_take (suc n) (x ∷ xs) h zero = h 0
bytes_take (suc n) (x ∷ xs) h (suc i) = bytes_take n xs (λ k. h (suc k)) i

pub bytes_snoc : (xs : List ℕ) (y : ℕ) → AreBytes xs → y < 256 → AreBytes (xs ++ y ∷ [])
bytes_snoc [] y h m zero = m
bytes_snoc [] y h m (suc i) = lit< tt
bytes_snoc (x ∷ xs) y h m zero = h 0
bytes_snoc (x ∷ xs) y h m (suc i) = bytes_snoc xs y (λ k. h (suc k)) m i

-- a kind, a serial and a payload that may stand together, as far as the spelling goes
pub data Parts (kind serial : ℕ) (payload : List ℕ) : Type 0 where
  hello : kind ≡ 1 → serial ≡ 0 → length payload ≡ 4 → Parts kind serial payload
  asking : kind ≡ 2 → Parts kind serial payload
  more : kind ≡ 3 → length payload ≡ 0 → Parts kind serial payload
  bye : kind ≡ 4 → serial ≡ 0 → length payload ≡ 0 → Parts kind serial payload
  welcome : kind ≡ 17 → serial ≡ 0 → 0 < length payload → Parts kind serial payload
  replied : kind ≡ 18 → Parts kind serial payload
  done : kind ≡ 19 → length payload ≡ 4 → Parts kind serial payload
  sorry : kind ≡ 20 → length payload ≡ 1 → Parts kind serial payload

-- a frame has these parts
pub record HasParts (kind serial : ℕ) (payload : List ℕ) (frame : Frame) : Type 0 where
  pub kind_is : frame_kind frame ≡ kind
  pub serial_is : serial_of frame ≡ serial
  pub payload_is : payload_of frame ≡ payload
  pub number_fits : frame_number frame < 2 ^ 32

take_all : (n : ℕ) (xs : List ℕ) → length xs ≡ n → take n xs ≡ xs
take_all n xs e = rw (← e) (take-length xs)

four_bytes : (payload : List ℕ) → length payload ≡ 4 → AreBytes payload → to_be_bytes w32 (payload_number payload) ≡ payload
four_bytes payload e h =
    be_bytes_4 payload (payload_number payload) e h (ap (from_be_bytes w32) (take_all 4 payload e))

number_bound : (payload : List ℕ) → length payload ≡ 4 → AreBytes payload → payload_number payload < 2 ^ 32
number_bound (a ∷ b ∷ c ∷ d ∷ []) e h = omega (arith, h 0, h 1, h 2, h 3)
number_bound _ e h = absurd (omega (arith, e))

at_kind : {kind : ℕ} (n : ℕ) (serial : ℕ) (payload : List ℕ) → kind ≡ n → HasParts n serial payload (frame_of_parts n serial payload) → HasParts kind serial payload (frame_of_parts kind serial payload)
at_kind n serial payload e h = subst (λ (k : ℕ). HasParts k serial payload (frame_of_parts k serial payload)) (sym e) h

zero_below : 0 < 2 ^ 32
zero_below = lit< tt

-- parts that may stand together are those of the frame that they make
pub parts_of_frame : (kind serial : ℕ) (payload : List ℕ) → Parts kind serial payload → AreBytes payload → HasParts kind serial payload (frame_of_parts kind serial payload)
parts_of_frame kind serial payload (hello e z n) h =
    at_kind 1 serial payload e (record { kind_is = refl; serial_is = sym z; payload_is = four_bytes payload n h; number_fits = number_bound payload n h })
parts_of_frame kind serial payload (asking e) h =
    at_kind 2 serial payload e (record { kind_is = refl; serial_is = refl; payload_is = refl; number_fits = zero_below })
parts_of_frame kind serial payload (more e n) h =
    at_kind 3 serial payload e (record { kind_is = refl; serial_is = refl; payload_is = sym (nil_from_length payload n); number_fits = zero_below })
parts_of_frame kind serial payload (bye e z n) h =
    at_kind 4 serial payload e (record { kind_is = refl; serial_is = sym z; payload_is = sym (nil_from_length payload n); number_fits = zero_below })
parts_of_frame kind serial [] (welcome e z n) h = absurd (omega (arith, n))
parts_of_frame kind serial (x ∷ xs) (welcome e z n) h =
    at_kind 17 serial (x ∷ xs) e (record { kind_is = refl; serial_is = sym z; payload_is = refl; number_fits = zero_below })
parts_of_frame kind serial payload (replied e) h =
    at_kind 18 serial payload e (record { kind_is = refl; serial_is = refl; payload_is = refl; number_fits = zero_below })
parts_of_frame kind serial payload (done e n) h =
    at_kind 19 serial payload e (record { kind_is = refl; serial_is = refl; payload_is = four_bytes payload n h; number_fits = number_bound payload n h })
parts_of_frame kind serial [] (sorry e n) h = absurd (omega (arith, n))
parts_of_frame kind serial (x ∷ []) (sorry e n) h =
    at_kind 20 serial (x ∷ []) e (record { kind_is = refl; serial_is = refl; payload_is = refl; number_fits = zero_below })
parts_of_frame kind serial (x ∷ y ∷ xs) (sorry e n) h = absurd (omega (arith, n))

-- the header of bytes, by its parts
two_below : (a b : ℕ) → a < 256 → b < 256 → AreBytes (a ∷ b ∷ [])
two_below a b p q zero = p
two_below a b p q (suc zero) = q
two_below a b p q (suc (suc i)) = lit< tt

four_below : (a b c d : ℕ) → a < 256 → b < 256 → c < 256 → d < 256 → AreBytes (a ∷ b ∷ c ∷ d ∷ [])
four_below a b c d p q r s zero = p
four_below a b c d p q r s (suc zero) = q
four_below a b c d p q r s (suc (suc zero)) = r
four_below a b c d p q r s (suc (suc (suc zero))) = s
four_below a b c d p q r s (suc (suc (suc (suc i)))) = lit< tt

pub header_is_spelled :
    (bytes : List ℕ) → 8 ≤ length bytes → AreBytes bytes
    → bytes ≡ kind_in bytes ∷ version_in bytes ∷ (to_be_bytes w16 (size_in bytes) ++ (to_be_bytes w32 (serial_in bytes) ++ drop 8 bytes))
header_is_spelled (a ∷ b ∷ c ∷ d ∷ e ∷ f ∷ g ∷ k ∷ rest) m h =
    let size = be_bytes_2 (c ∷ d ∷ []) (from_be_bytes w16 (c ∷ d ∷ [])) refl (two_below c d (h 2) (h 3)) refl in
    let serial = be_bytes_4 (e ∷ f ∷ g ∷ k ∷ []) (from_be_bytes w32 (e ∷ f ∷ g ∷ k ∷ [])) refl (four_below e f g k (h 4) (h 5) (h 6) (h 7)) refl in
    ap (λ (xs : List ℕ). a ∷ b ∷ (xs ++ (e ∷ f ∷ g ∷ k ∷ rest))) (sym size)
    ∙ ap (λ (xs : List ℕ). a ∷ b ∷ (to_be_bytes w16 (from_be_bytes w16 (c ∷ d ∷ [])) ++ (xs ++ rest))) (sym serial)
header_is_spelled _ m h = absurd (omega (arith, m))

spelled_parts : (kind serial : ℕ) (payload : List ℕ) (frame : Frame) → HasParts kind serial payload frame → frame_bytes frame ≡ kind ∷ frame_version ∷ (to_be_bytes w16 (length payload) ++ (to_be_bytes w32 serial ++ payload))
spelled_parts kind serial payload frame h = rw (h.kind_is, h.serial_is, h.payload_is)

length_taken : (n : ℕ) (xs : List ℕ) → n ≤ length xs → length (take n xs) ≡ n
length_taken n xs h = length-take-le n xs h

rejoined :
    (kind version size serial : ℕ) (payload rest after bytes spelled : List ℕ)
    → bytes ≡ kind ∷ version ∷ (to_be_bytes w16 size ++ (to_be_bytes w32 serial ++ after)) → version ≡ frame_version
    → length payload ≡ size → payload ++ rest ≡ after
    → spelled ≡ kind ∷ frame_version ∷ (to_be_bytes w16 (length payload) ++ (to_be_bytes w32 serial ++ payload))
    → bytes ≡ spelled ++ rest
rejoined kind version size serial payload rest after bytes spelled whole v n r s =
    whole
    ∙ (ap (λ (x : ℕ). kind ∷ x ∷ (to_be_bytes w16 size ++ (to_be_bytes w32 serial ++ after))) v
    ∙ (ap (λ (x : ℕ). kind ∷ frame_version ∷ (to_be_bytes w16 x ++ (to_be_bytes w32 serial ++ after))) (sym n)
    ∙ (ap (λ (x : List ℕ). kind ∷ frame_version ∷ (to_be_bytes w16 (length payload) ++ (to_be_bytes w32 serial ++ x))) (sym r)
    ∙ ap (λ (x : List ℕ). x ++ rest) (sym s))))

-- bytes whose parts may stand together begin with the frame that these make
pub frame_is_spelled :
    (bytes : List ℕ) → AreBytes bytes → 8 + size_in bytes ≤ length bytes → version_in bytes ≡ frame_version
    → Parts (kind_in bytes) (serial_in bytes) (payload_in bytes)
    → bytes ≡ frame_bytes (frame_in bytes) ++ drop (size_in bytes) (drop 8 bytes)
frame_is_spelled bytes h m v parts =
    let payload : AreBytes (payload_in bytes) = bytes_take (size_in bytes) (drop 8 bytes) (bytes_drop 8 bytes h) in
    let has = parts_of_frame (kind_in bytes) (serial_in bytes) (payload_in bytes) parts payload in
    let spelled = spelled_parts (kind_in bytes) (serial_in bytes) (payload_in bytes) (frame_in bytes) has in
    let size : length (payload_in bytes) ≡ size_in bytes = length_taken (size_in bytes) (drop 8 bytes) (omega (arith, length-drop 8 bytes)) in
    rejoined (kind_in bytes) (version_in bytes) (size_in bytes) (serial_in bytes) (payload_in bytes)
    (drop (size_in bytes) (drop 8 bytes)) (drop 8 bytes) bytes (frame_bytes (frame_in bytes))
    (header_is_spelled bytes (omega arith) h) v size (take-append-drop (size_in bytes) (drop 8 bytes)) spelled

-- a test of a number, by its two cases
by_test : {P : Type 0} (k n : ℕ) → (k ≡ n → P) → ((k == n) ≡ false → P) → P
by_test k n same other = elim (eqb_tells k n) [ inl p ↦ same p.1 | inr q ↦ other q.0 ]

no_kind :
    (kind size : ℕ) → (kind == 1) ≡ false → (kind == 2) ≡ false → (kind == 3) ≡ false → (kind == 4) ≡ false
    → (kind == 17) ≡ false → (kind == 18) ≡ false → (kind == 19) ≡ false → (kind == 20) ≡ false
    → size_allowed kind size ≡ true → ⊥
no_kind kind size a b c d e f g h t = grind (arith, nat_tests)

-- the tests of a header say which parts may stand together
pub allowed_parts :
    (kind serial : ℕ) (payload : List ℕ) → size_allowed kind (length payload) ≡ true → serial_allowed kind serial ≡ true
    → Parts kind serial payload
allowed_parts kind serial payload t u =
    by_test kind 1
    (λ e. hello e (grind (arith, nat_tests)) (grind (arith, nat_tests)))
    (λ n1. by_test kind 2 (λ e. asking e)
    (λ n2. by_test kind 3 (λ e. more e (grind (arith, nat_tests)))
    (λ n3. by_test kind 4 (λ e. bye e (grind (arith, nat_tests)) (grind (arith, nat_tests)))
    (λ n4. by_test kind 17 (λ e. welcome e (grind (arith, nat_tests)) (grind (arith, nat_tests)))
    (λ n5. by_test kind 18 (λ e. replied e)
    (λ n6. by_test kind 19 (λ e. done e (grind (arith, nat_tests)))
    (λ n7. by_test kind 20 (λ e. sorry e (grind (arith, nat_tests)))
    (λ n8. absurd (no_kind kind (length payload) n1 n2 n3 n4 n5 n6 n7 n8 t)))))))))

-- the tests of a reading, over plain values
abbrev picked : (short header part payload : Bool) (missing_header missing_payload kind : ℕ) → Frame → Got
picked short header part payload missing_header missing_payload kind frame =
    if short then Short missing_header
    else if not header then Bad kind
    else if part then Short missing_payload
    else if payload then Found frame
    else Bad kind

record IsPicked (short header part payload : Bool) (frame found : Frame) : Type 0 where
  long : short ≡ false
  header_holds : header ≡ true
  whole : part ≡ false
  payload_holds : payload ≡ true
  same : frame ≡ found

not_short : (m : ℕ) (found : Frame) → Short m ≡ Found found → ⊥
not_short m found e = cc

not_bad : (kind : ℕ) (found : Frame) → Bad kind ≡ Found found → ⊥
not_bad kind found e = cc

false_is_not : false ≡ true → ⊥
false_is_not e = cc

same_found : (f g : Frame) → Found f ≡ Found g → f ≡ g
same_found f g e = cc

is_picked : (short header part payload : Bool) (m n kind : ℕ) (frame found : Frame) → picked short header part payload m n kind frame ≡ Found found → IsPicked short header part payload frame found
is_picked true header part payload m n kind frame found e = absurd (not_short m found e)
is_picked false false part payload m n kind frame found e = absurd (not_bad kind found e)
is_picked false true true payload m n kind frame found e = absurd (not_short n found e)
is_picked false true false false m n kind frame found e = absurd (not_bad kind found e)
is_picked false true false true m n kind frame found e =
    record { long = refl; header_holds = refl; whole = refl; payload_holds = refl; same = same_found frame found e }

pub picks : (short header part payload : Bool) (m n kind : ℕ) (frame : Frame) → short ≡ false → header ≡ true → part ≡ false → payload ≡ true → picked short header part payload m n kind frame ≡ Found frame
picks short header part payload m n kind frame a b c d = rw (a, b, c, d)

record AllThree (a b c : Bool) : Type 0 where
  first : a ≡ true
  second : b ≡ true
  third : c ≡ true

all_three : (a b c : Bool) → (a && b && c) ≡ true → AllThree a b c
all_three true true true e = record { first = refl; second = refl; third = refl }
all_three true true false e = absurd (false_is_not e)
all_three true false c e = absurd (false_is_not e)
all_three false b c e = absurd (false_is_not e)

three_hold : (a b c : Bool) → a ≡ true → b ≡ true → c ≡ true → (a && b && c) ≡ true
three_hold a b c p q r = rw (p, q, r)

serial_bound : (bytes : List ℕ) → 8 ≤ length bytes → AreBytes bytes → serial_in bytes < 2 ^ 32
serial_bound (a ∷ b ∷ c ∷ d ∷ e ∷ f ∷ g ∷ k ∷ rest) m h = omega (arith, h 4, h 5, h 6, h 7)
serial_bound _ m h = absurd (omega (arith, m))

frame_fits : (kind serial : ℕ) (payload : List ℕ) (frame : Frame) → HasParts kind serial payload frame → serial_allowed kind serial ≡ true → size_allowed kind (length payload) ≡ true → payload_allowed kind payload ≡ true → AreBytes payload → serial < 2 ^ 32 → IsFrame frame
frame_fits kind serial payload frame h a b c d e = record {
  serial = rw (h.kind_is, h.serial_is) a;
  size = rw (h.kind_is, h.payload_is) b;
  payload = rw (h.kind_is, h.payload_is) c;
  bytes = rw h.payload_is d;
  serial_fits = rw h.serial_is e;
  number_fits = h.number_fits;
}

pub found_begins : (bytes : List ℕ) (frame : Frame) → AreBytes bytes → got_of bytes ≡ Found frame → BeginsWith bytes frame
found_begins bytes frame h e =
    let way : IsPicked (nat_lt (length bytes) 8) (header_allowed bytes) (nat_lt (length bytes) (8 + size_in bytes)) (payload_allowed (kind_in bytes) (payload_in bytes)) (frame_in bytes) frame =
    is_picked _ _ _ _ (8 - length bytes) (8 + size_in bytes - length bytes) (kind_in bytes) (frame_in bytes) frame e in
    let tests : AllThree (version_in bytes == frame_version) (size_allowed (kind_in bytes) (size_in bytes)) (serial_allowed (kind_in bytes) (serial_in bytes)) =
    all_three _ _ _ way.header_holds in
    let long : 8 ≤ length bytes = ltb-false (length bytes) 8 way.long in
    let whole : 8 + size_in bytes ≤ length bytes = ltb-false (length bytes) (8 + size_in bytes) way.whole in
    let size : length (payload_in bytes) ≡ size_in bytes = length_taken (size_in bytes) (drop 8 bytes) (omega (arith, length-drop 8 bytes)) in
    let sized : size_allowed (kind_in bytes) (length (payload_in bytes)) ≡ true = ap (λ (n : ℕ). size_allowed (kind_in bytes) n) size ∙ tests.second in
    let payload : AreBytes (payload_in bytes) = bytes_take (size_in bytes) (drop 8 bytes) (bytes_drop 8 bytes h) in
    let parts : Parts (kind_in bytes) (serial_in bytes) (payload_in bytes) = allowed_parts (kind_in bytes) (serial_in bytes) (payload_in bytes) sized tests.third in
    let has : HasParts (kind_in bytes) (serial_in bytes) (payload_in bytes) (frame_in bytes) = parts_of_frame (kind_in bytes) (serial_in bytes) (payload_in bytes) parts payload in
    let spelled : bytes ≡ frame_bytes (frame_in bytes) ++ drop (size_in bytes) (drop 8 bytes) = frame_is_spelled bytes h whole (eqb-true (version_in bytes) frame_version tests.first) parts in
    let fits : IsFrame (frame_in bytes) = frame_fits (kind_in bytes) (serial_in bytes) (payload_in bytes) (frame_in bytes) has tests.third sized way.payload_holds payload (serial_bound bytes long h) in
    subst (λ (f : Frame). BeginsWith bytes f) way.same
    (record { fits = fits; rest = drop (size_in bytes) (drop 8 bytes); begins = spelled })

remade : (frame : Frame) → IsFrame frame → frame_of_parts (frame_kind frame) (serial_of frame) (payload_of frame) ≡ frame
remade (HelloFrame generation) h = ap (λ (n : ℕ). HelloFrame n) (from_be_bytes-to_be_bytes_4 generation h.number_fits)
remade (AskFrame serial payload) h = refl
remade (MoreFrame serial) h = refl
remade ByeFrame h = refl
remade (WelcomeFrame last part) h = refl
remade (RowsFrame serial payload) h = refl
remade (DoneFrame serial total) h = ap (λ (n : ℕ). DoneFrame serial n) (from_be_bytes-to_be_bytes_4 total h.number_fits)
remade (SorryFrame serial code) h = refl

pub payload_is_read : (frame : Frame) (rest : List ℕ) → IsFrame frame → payload_in (frame_bytes frame ++ rest) ≡ payload_of frame
payload_is_read frame rest h =
    ap (λ (n : ℕ). take n (payload_of frame ++ rest)) (size_is_read frame rest h) ∙ take-append_seam (payload_of frame) rest

pub frame_is_read : (frame : Frame) (rest : List ℕ) → IsFrame frame → frame_in (frame_bytes frame ++ rest) ≡ frame
frame_is_read frame rest h =
    let bytes : List ℕ = frame_bytes frame ++ rest in
    let serial : serial_in bytes ≡ serial_of frame = from_be_bytes-to_be_bytes_4 (serial_of frame) h.serial_fits in
    ap (λ (n : ℕ). frame_of_parts (frame_kind frame) n (payload_in bytes)) serial
    ∙ (ap (λ (p : List ℕ). frame_of_parts (frame_kind frame) (serial_of frame) p) (payload_is_read frame rest h) ∙ remade frame h)

pub spelled_is_found : (frame : Frame) (rest : List ℕ) → IsFrame frame → got_of (frame_bytes frame ++ rest) ≡ Found frame
spelled_is_found frame rest h =
    let bytes : List ℕ = frame_bytes frame ++ rest in
    let size : size_in bytes ≡ length (payload_of frame) = size_is_read frame rest h in
    let serial : serial_in bytes ≡ serial_of frame = from_be_bytes-to_be_bytes_4 (serial_of frame) h.serial_fits in
    let payload : payload_in bytes ≡ payload_of frame = payload_is_read frame rest h in
    let same : frame_in bytes ≡ frame = frame_is_read frame rest h in
    let lengths : length bytes ≡ 8 + (length (payload_of frame) + length rest) = omega (arith, length-append (payload_of frame) rest) in
    let header : header_allowed bytes ≡ true =
    three_hold _ _ _ refl (ap (λ (n : ℕ). size_allowed (frame_kind frame) n) size ∙ h.size) (ap (λ (n : ℕ). serial_allowed (frame_kind frame) n) serial ∙ h.serial) in
    picks _ _ _ _ (8 - length bytes) (8 + size_in bytes - length bytes) (frame_kind frame) (frame_in bytes)
    (le-ltb (length bytes) 8 (omega arith)) header (le-ltb (length bytes) (8 + size_in bytes) (omega arith))
    (ap (λ (p : List ℕ). payload_allowed (frame_kind frame) p) payload ∙ h.payload)
    ∙ ap (λ (f : Frame). Found f) same

-- the tests of a verdict, over plain values
abbrev judged : (short header part payload : Bool) (missing_header missing_payload : ℕ) → next.Verdict
judged short header part payload missing_header missing_payload =
    if short then next.Lacking missing_header
    else if not header then next.Invalid
    else if part then next.Lacking missing_payload
    else if payload then next.Complete
    else next.Invalid

record IsWhole (short header part : Bool) : Type 0 where
  long : short ≡ false
  header_holds : header ≡ true
  whole : part ≡ false

short_is_not : (m : ℕ) → next.Lacking m ≡ next.Complete → ⊥
short_is_not m e = cc

invalid_is_not : next.Invalid ≡ next.Complete → ⊥
invalid_is_not e = cc

is_whole : (short header part payload : Bool) (m n : ℕ) → judged short header part payload m n ≡ next.Complete → IsWhole short header part
is_whole true header part payload m n e = absurd (short_is_not m e)
is_whole false false part payload m n e = absurd (invalid_is_not e)
is_whole false true true payload m n e = absurd (short_is_not n e)
is_whole false true false false m n e = absurd (invalid_is_not e)
is_whole false true false true m n e = record { long = refl; header_holds = refl; whole = refl }

invalid_is_not_short : (m : ℕ) → next.Invalid ≡ next.Lacking m → ⊥
invalid_is_not_short m e = cc

whole_is_not_short : (m : ℕ) → next.Complete ≡ next.Lacking m → ⊥
whole_is_not_short m e = cc

-- where bytes are missing, the header is not whole, or the payload that it names
is_short : (short header part payload : Bool) (m n k : ℕ) → judged short header part payload m n ≡ next.Lacking k → short ≡ false → part ≡ true
is_short true header part payload m n k e s = absurd (false_is_not (sym s))
is_short false false part payload m n k e s = absurd (invalid_is_not_short k e)
is_short false true true payload m n k e s = refl
is_short false true false false m n k e s = absurd (invalid_is_not_short k e)
is_short false true false true m n k e s = absurd (whole_is_not_short k e)

record Greets (version kind serial size : ℕ) : Type 0 where
  version_is : version ≡ frame_version
  kind_is : kind ≡ 17
  serial_is : serial ≡ 0
  some : 2 ≤ size

greets : (version kind serial size missing : ℕ) → (version == frame_version && kind == 17 && serial == 0 && nat_le 2 size && nat_le size 2040 && nat_le size (missing + 1)) ≡ true → Greets version kind serial size
greets version kind serial size missing e = record {
  version_is = grind (arith, nat_tests);
  kind_is = grind (arith, nat_tests);
  serial_is = grind (arith, nat_tests);
  some = grind (arith, nat_tests);
}

no_reply : (width kind size : ℕ) → (kind == 18) ≡ false → (kind == 19) ≡ false → next.reply_size_fits width kind size ≡ true → (kind ≡ 20) × (size ≡ 1)
no_reply width kind size a b t = (grind (arith, nat_tests), grind (arith, nat_tests))

reply_parts : (width kind serial : ℕ) (payload : List ℕ) → next.reply_size_fits width kind (length payload) ≡ true → Parts kind serial payload
reply_parts width kind serial payload t =
    by_test kind 18 (λ e. replied e)
    (λ n. by_test kind 19 (λ e. done e (grind (arith, nat_tests)))
    (λ m. let last : (kind ≡ 20) × (length payload ≡ 1) = no_reply width kind (length payload) n m t in sorry last.0 last.1))

record Fits (bytes : List ℕ) : Type 0 where
  version_is : version_in bytes ≡ frame_version
  parts : Parts (kind_in bytes) (serial_in bytes) (payload_in bytes)

-- a header that fits its place is one of a frame
fitting_parts : (catalog : Catalog) (awaits : next.Awaits) (bytes : List ℕ) → length (payload_in bytes) ≡ size_in bytes → next.header_fits catalog awaits bytes ≡ true → Fits bytes
fitting_parts catalog (next.AwaitsCatalog missing) bytes n t =
    let all : Greets (version_in bytes) (kind_in bytes) (serial_in bytes) (size_in bytes) = greets (version_in bytes) (kind_in bytes) (serial_in bytes) (size_in bytes) (length missing) t in
    record { version_is = all.version_is; parts = welcome all.kind_is all.serial_is (omega (arith, n, all.some)) }
fitting_parts catalog (next.AwaitsReply asked serial later count last) bytes n t =
    let all : AllThree (version_in bytes == frame_version) (serial_in bytes == serial) (next.reply_size_fits (row_width catalog.schema asked.ask) (kind_in bytes) (size_in bytes)) = all_three _ _ _ t in
    record {
      version_is = eqb-true (version_in bytes) frame_version all.first;
      parts = reply_parts (row_width catalog.schema asked.ask) (kind_in bytes) (serial_in bytes) (payload_in bytes)
          (ap (λ (k : ℕ). next.reply_size_fits (row_width catalog.schema asked.ask) (kind_in bytes) k) n ∙ all.third);
    }
fitting_parts catalog next.AwaitsNothing bytes n t = absurd (false_is_not t)

-- one more byte after a header leaves what the header says
size_kept : (part : List ℕ) (byte : ℕ) → 8 ≤ length part → size_in (part ++ byte ∷ []) ≡ size_in part
size_kept (a ∷ b ∷ c ∷ d ∷ part) byte m = refl
size_kept _ byte m = absurd (omega (arith, m))

-- a part of a frame, not all of it
abbrev IsLacking : List ℕ → Type 0
IsLacking part = 8 ≤ length part → length part < 8 + size_in part

one_more : (part : List ℕ) (byte : ℕ) → length (part ++ byte ∷ []) ≡ length part + 1
one_more part byte = omega (arith, length-append part (byte ∷ []))

exact_length : (part : List ℕ) (byte : ℕ) → IsLacking part → 8 + size_in (part ++ byte ∷ []) ≤ length (part ++ byte ∷ []) → length (part ++ byte ∷ []) ≡ 8 + size_in (part ++ byte ∷ [])
exact_length part byte lacking m =
    elim (leb_tells 8 (length part)) [
      | inl p ↦ (let less : length part < 8 + size_in part = lacking p.1 in let kept : size_in (part ++ byte ∷ []) ≡ size_in part = size_kept part byte p.1 in
          omega (arith, less, kept, m, one_more part byte))
      | inr q ↦ omega (arith, q.1, m, one_more part byte)
    ]

-- a frame that is whole and valid is spelled by the bytes at hand
whole_is_spelled : (catalog : Catalog) (awaits : next.Awaits) (part : List ℕ) (byte : ℕ) → IsLacking part → AreBytes (part ++ byte ∷ []) → next.verdict catalog awaits (part ++ byte ∷ []) ≡ next.Complete → frame_bytes (frame_in (part ++ byte ∷ [])) ≡ part ++ byte ∷ []
whole_is_spelled catalog awaits part byte lacking h e =
    let bytes : List ℕ = part ++ byte ∷ [] in
    let way : IsWhole (nat_lt (length bytes) 8) (next.header_fits catalog awaits bytes) (nat_lt (length bytes) (8 + size_in bytes)) =
    is_whole _ _ _ (next.payload_fits catalog awaits (frame_in bytes)) (8 - length bytes) (8 + size_in bytes - length bytes) e in
    let whole : 8 + size_in bytes ≤ length bytes = ltb-false (length bytes) (8 + size_in bytes) way.whole in
    let size : length (payload_in bytes) ≡ size_in bytes = length_taken (size_in bytes) (drop 8 bytes) (omega (arith, length-drop 8 bytes, whole)) in
    let fits : Fits bytes = fitting_parts catalog awaits bytes size way.header_holds in
    let exact : length bytes ≡ 8 + size_in bytes = exact_length part byte lacking whole in
    let none : drop (size_in bytes) (drop 8 bytes) ≡ [] = nil_from_length (drop (size_in bytes) (drop 8 bytes)) (omega (arith, length-drop (size_in bytes) (drop 8 bytes), length-drop 8 bytes, exact)) in
    let spelled : bytes ≡ frame_bytes (frame_in bytes) ++ drop (size_in bytes) (drop 8 bytes) = frame_is_spelled bytes h whole fits.version_is fits.parts in
    sym (spelled ∙ (ap (λ (x : List ℕ). frame_bytes (frame_in bytes) ++ x) none ∙ append-nil (frame_bytes (frame_in bytes))))

-- what holds of received bytes and of what was heard of them, after each byte
record Follows (before : List ℕ) (h : next.Heard) : Type 0 where
  follows : laws.IsSpelled before h
  bytes : AreBytes h.part
  lacking : h.broken ≡ false → IsLacking h.part

true_is_not : {b : Bool} → b ≡ true → b ≡ false → ⊥
true_is_not e f = false_is_not (sym f ∙ e)

regroup : (before front part rest : List ℕ) (byte : ℕ) → before ≡ front ++ (part ++ rest) → before ++ byte ∷ [] ≡ front ++ (part ++ (rest ++ byte ∷ []))
regroup before front part rest byte e = ap (λ (x : List ℕ). x ++ byte ∷ []) e ∙ simp append_assoc

more_part : (before front part rest : List ℕ) (byte : ℕ) → before ≡ front ++ (part ++ rest) → rest ≡ [] → before ++ byte ∷ [] ≡ front ++ ((part ++ byte ∷ []) ++ [])
more_part before front part rest byte e n =
    ap (λ (x : List ℕ). x ++ byte ∷ []) (e ∙ ap (λ (x : List ℕ). front ++ (part ++ x)) n)
    ∙ simp (append_assoc, append-nil)

more_frames : (before part rest : List ℕ) (frames : List Frame) (frame : Frame) (byte : ℕ) → before ≡ flat_map frame_bytes frames ++ (part ++ rest) → rest ≡ [] → frame_bytes frame ≡ part ++ byte ∷ [] → before ++ byte ∷ [] ≡ flat_map frame_bytes (frames ++ frame ∷ []) ++ []
more_frames before part rest frames frame byte e n s =
    more_part before (flat_map frame_bytes frames) part rest byte e n
    ∙ (ap (λ (x : List ℕ). flat_map frame_bytes frames ++ (x ++ [])) (sym s)
    ∙ (sym (append_assoc (flat_map frame_bytes frames) (frame_bytes frame) [])
    ∙ ap (λ (x : List ℕ). x ++ []) (sym (flat_map-append frame_bytes frames (frame ∷ [])
    ∙ ap (λ (x : List ℕ). flat_map frame_bytes frames ++ x) (append-nil (frame_bytes frame))))))

module _ (catalog : Catalog) (asks : List NumberedAsk) where
  step_judged :
      (before : List ℕ) (h : next.Heard) (byte : ℕ) (v : next.Verdict) → Follows before h → byte < 256 → h.broken ≡ false
      → next.verdict catalog h.awaits (h.part ++ byte ∷ []) ≡ v
      → Follows (before ++ byte ∷ []) (next.heard_as catalog asks h (h.part ++ byte ∷ []) v)
  step_judged before h byte (next.Lacking m) f b e j =
      let none : f.follows.rest ≡ [] = f.follows.nothing_more e in
      record {
        follows = record {
          rest = [];
          spelled = more_part before (flat_map frame_bytes h.frames) h.part f.follows.rest byte f.follows.spelled none;
          nothing_more = λ _. refl;
        };
        bytes = bytes_snoc h.part byte f.bytes b;
        lacking = λ _. λ long.
            let bytes : List ℕ = h.part ++ byte ∷ [] in
            ltb-true (length bytes) (8 + size_in bytes)
            (is_short (nat_lt (length bytes) 8) (next.header_fits catalog h.awaits bytes) (nat_lt (length bytes) (8 + size_in bytes))
            (next.payload_fits catalog h.awaits (frame_in bytes)) (8 - length bytes) (8 + size_in bytes - length bytes) m j
            (le-ltb (length bytes) 8 long));
      }
  step_judged before h byte next.Invalid f b e j =
      let none : f.follows.rest ≡ [] = f.follows.nothing_more e in
      record {
        follows = record {
          rest = [];
          spelled = more_part before (flat_map frame_bytes h.frames) h.part f.follows.rest byte f.follows.spelled none;
          nothing_more = λ _. refl;
        };
        bytes = bytes_snoc h.part byte f.bytes b;
        lacking = λ broken. absurd (false_is_not (sym broken));
      }
  step_judged before h byte next.Complete f b e j =
      let none : f.follows.rest ≡ [] = f.follows.nothing_more e in
      record {
        follows = record {
          rest = [];
          spelled = more_frames before h.part f.follows.rest h.frames (frame_in (h.part ++ byte ∷ [])) byte f.follows.spelled none
              (whole_is_spelled catalog h.awaits h.part byte (f.lacking e) (bytes_snoc h.part byte f.bytes b) j);
          nothing_more = λ _. refl;
        };
        bytes = λ i. lit< tt;
        lacking = λ _. λ long. absurd (omega (arith, long));
      }

  step_either :
      (before : List ℕ) (h : next.Heard) (byte : ℕ) (broken : Bool) → Follows before h → byte < 256 → h.broken ≡ broken
      → Follows (before ++ byte ∷ [])
      (if broken then h else next.heard_as catalog asks h (h.part ++ byte ∷ []) (next.verdict catalog h.awaits (h.part ++ byte ∷ [])))
  step_either before h byte true f b e = record {
    follows = record {
      rest = f.follows.rest ++ byte ∷ [];
      spelled = regroup before (flat_map frame_bytes h.frames) h.part f.follows.rest byte f.follows.spelled;
      nothing_more = λ other. absurd (true_is_not e other);
    };
    bytes = f.bytes;
    lacking = λ other. absurd (true_is_not e other);
  }
  step_either before h byte false f b e =
      step_judged before h byte (next.verdict catalog h.awaits (h.part ++ byte ∷ [])) f b e refl

  step_all : (before : List ℕ) (h : next.Heard) (bytes : List ℕ) → Follows before h → AreBytes bytes → Follows (before ++ bytes) (next.hear_all catalog asks h bytes)
  unfolding next.hear_all
  step_all before h [] f b = subst (λ (x : List ℕ). Follows x h) (sym (append-nil before)) f
  step_all before h (byte ∷ bytes) f b =
      subst (λ (x : List ℕ). Follows x (next.hear_all catalog asks (next.hear catalog asks h byte) bytes)) (append_assoc before (byte ∷ []) bytes)
      (step_all (before ++ byte ∷ []) (next.hear catalog asks h byte) bytes (step_either before h byte h.broken f (b 0) refl) (λ i. b (suc i)))

  pub received_is_spelled : (received : List ℕ) → AreBytes received → laws.IsSpelled received (next.heard catalog asks received)
  received_is_spelled received b =
      let start : Follows [] (next.at_first catalog) = record {
        follows = record { rest = []; spelled = refl; nothing_more = λ _. refl };
        bytes = λ i. lit< tt;
        lacking = λ _. λ long. absurd (omega (arith, long));
      } in
      (step_all [] (next.at_first catalog) received start b).follows
