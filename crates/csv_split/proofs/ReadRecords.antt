-- What a read of a record leaves of the records of a text.
use Rattle.std.proofs.Common.{Bor, ◌≡◌, ◌⊎◌, ◌<◌, ◌+◌, ◌∙◌, ℕ, zero, suc, Bool, true, false, List, [], ◌∷◌, length, Option, Some, None, inl, inr, refl, sym, ap, arith}
use Rattle.std.specs.Prelude.{⊤, option_map, if◌then◌else◌, ◌++◌, not, ◌&&◌, ◌==◌, drop, take}
use Rattle.csv.specs.declared.reader.Trim.TheVariants as trim
use Rattle.csv.specs.Machine.{Read, ends_at_end, field_after, fields_after, is_end, next_record, step}
use Rattle.csv.specs.Reading.{ExplainsRead, NextIs, ReadRecord, ReadsNext, ReadsOn, Ready, buffered_of, default_config, has_failed, is_flexible, pending_of, records_from, records_next, source_of, stops_reader, strip_bom}
use Rattle.csv.specs.declared.error.ErrorKind.{ErrorKind}
use Rattle.csv.specs.declared.error.ErrorKind.TheVariants as kind
use Rattle.csv.specs.declared.parser.Config.{Config}
use Rattle.csv.specs.declared.parser.State.{State}
use Rattle.csv.specs.declared.parser.State.TheVariants as st
use Rattle.csv.specs.declared.reader.Reader.{Reader}
use Rattle.csv_split.specs.Records.{IsReading, Reads, left_of, records_left}

-- a record takes a byte, or stands at the end of the text and leaves nothing
abbrev pub Takes : ℕ → Option Read → Type 0
Takes most None = ⊤
Takes most (Some read) = (length read.2 < most) ⊎ ((read.1 ≡ st.StartRecord) × (read.2 ≡ []))

takes_more : (most : ℕ) (o : Option Read) → Takes most o → Takes (suc most) o
takes_more most None h = tt
takes_more most (Some read) (inl less) = inl (omega arith)
takes_more most (Some read) (inr ended) = inr ended

pub takes : (config : Config) (state : State) (fields : List (List ℕ)) (field text : List ℕ) → Takes (length text) (next_record config state fields field text)
unfolding next_record
takes config state fields field [] = by (ends_at_end state)
  where
    by : (b : Bool) → Takes 0 (if b then Some (fields ++ (field ∷ []), st.StartRecord, []) else None)
    by true = inr (refl, refl)
    by false = tt
takes config state fields field (byte ∷ rest) =
    by (is_end (step config state byte).1) (takes config (step config state byte).0 (fields_after (step config state byte).1 fields field) (field_after (step config state byte).1 byte field) rest)
  where
    by : (b : Bool) → Takes (length rest) (next_record config (step config state byte).0 (fields_after (step config state byte).1 fields field) (field_after (step config state byte).1 byte field) rest)
        → Takes (suc (length rest)) (if b then Some (fields_after (step config state byte).1 fields field, (step config state byte).0, rest) else next_record config (step config state byte).0 (fields_after (step config state byte).1 fields field) (field_after (step config state byte).1 byte field) rest)
    by true more = inl (omega arith)
    by false more = takes_more _ _ more

pub none_left : (config : Config) (n : ℕ) → records_from config n st.StartRecord [] ≡ []
unfolding records_from next_record
none_left config zero = refl
none_left config (suc n) = refl

-- more steps than bytes are enough
pub enough : (config : Config) (n m : ℕ) (state : State) (text : List ℕ) → length text < n → length text < m → records_from config n state text ≡ records_from config m state text
unfolding records_from
enough config zero m state text a b = absurd (omega arith)
enough config (suc n) zero state text a b = absurd (omega arith)
enough config (suc n) (suc m) state text a b = by (next_record config state [] [] text) (takes config state [] [] text) (enough config n m)
  where
    by : (o : Option Read) → Takes (length text) o
        → ((s : State) (later : List ℕ) → length later < n → length later < m → records_from config n s later ≡ records_from config m s later)
        → records_next (records_from config n) o ≡ records_next (records_from config m) o
    by None t more = refl
    by (Some read) (inl less) more = ap (λ later. read.0 ∷ later) (more read.1 read.2 (omega arith) (omega arith))
    by (Some read) (inr ended) more =
        ap (λ later. read.0 ∷ later)
        (rw (ended.0, ended.1) (none_left config n ∙ sym (none_left config m)))

-- the first of the records left, where a read found it
pub took : (state after : State) (text later : List ℕ) (found : Bool) (fields : List (List ℕ))
    → NextIs (next_record default_config state [] [] text) found fields after later
    → Reads found (records_left (Some text) state) fields (records_left (Some later) after)
unfolding records_from
took state after text later found fields h = rw (one_more (length text)) (by (next_record default_config state [] [] text) (takes default_config state [] [] text) found h)
  where
    one_more : (n : ℕ) → n + 1 ≡ suc n
    one_more n = omega arith

    by : (o : Option Read) → Takes (length text) o → (b : Bool) → NextIs o b fields after later
        → Reads b (records_next (records_from default_config (length text)) o) fields (records_from default_config (length later + 1) after later)
    by None t true h = cc h
    by None t false h = refl
    by (Some read) t false h = cc h.0
    by (Some read) (inl less) true h = rw (h.1, h.2, h.3) (ap (λ left. read.0 ∷ left) (enough default_config (length text) (length read.2 + 1) read.1 read.2 less (omega arith)))
    by (Some read) (inr ended) true h = rw (h.1, h.2, h.3, ended.0, ended.1) (ap (λ left. read.0 ∷ left) (none_left default_config (length text) ∙ sym (none_left default_config 1)))

-- the bytes that a reader over bytes has left are told, unless it failed
pub told : (reader : Reader (Bor (List ℕ))) → has_failed reader ≡ false → (bytes : List ℕ) × (source_of (λ (s : Bor (List ℕ)). Some s.now) reader ≡ Some bytes)
told reader going = rw going (by (not reader.bom_checked && (reader.at == 0) && (reader.filled == 0)))
  where
    by : (b : Bool) → (bytes : List ℕ) × ((if b then option_map strip_bom (Some reader.rdr.now) else buffered_of (Some reader.rdr.now) reader) ≡ Some bytes)
    by true = (strip_bom reader.rdr.now, refl)
    by false = (drop reader.at (take reader.filled reader.buffer) ++ reader.rdr.now, refl)

-- a reader stays one that reads, or failed, after an error
pub stays : {R : Type 0} (old new : Reader R) (stops : Bool) → IsReading old → (has_failed old ≡ true → ⊥) → has_failed new ≡ stops
    → (stops ≡ false → ReadsOn old new) → IsReading new
stays old new true reading going fails on = inl fails
stays old new false (inl failed) going fails on = absurd (going failed)
stays old new false (inr set) going fails on =
    let r = on refl in
    inr (record { going = fails; plain = r.1 ∙ set.plain; standard = r.0 ∙ set.standard; flexible = r.2 ∙ set.flexible; ready = (r.4 set.ready).0 })

-- and after a read
pub stays_after : {R : Type 0} (rem : R → Option (List ℕ)) (old new : Reader R) (found : Bool) (fields : List (List ℕ)) → IsReading old
    → has_failed new ≡ has_failed old → (old.trim ≡ trim.None → new.first ≡ true)
    → (old.trim ≡ trim.None → Ready old → ReadRecord rem old new found fields) → is_flexible new ≡ is_flexible old → IsReading new
stays_after rem old new found fields (inl failed) goes first reads kept = inl (goes ∙ failed)
stays_after rem old new found fields (inr set) goes first reads kept =
    let r = reads set.plain set.ready in
    inr (record { going = goes ∙ set.going; plain = r.3 ∙ set.plain; standard = r.2 ∙ set.standard; flexible = kept ∙ set.flexible; ready = inl (first set.plain) })

from_bytes : (config : Config) (state after : State) (before later : Option (List ℕ)) (bytes : List ℕ) (found : Bool) (fields : List (List ℕ))
    → config ≡ default_config → before ≡ Some bytes → ReadsNext config state before later found fields after
    → Reads found (records_left before state) fields (records_left later after)
from_bytes config state after before None bytes found fields standard is h = absurd (rw is at h)
from_bytes config state after before (Some later) bytes found fields standard is h = rw is (took state after bytes later found fields (rw (standard, is) at h))

-- a read takes the first of the records left, or there was none
pub reads : (old new : Reader (Bor (List ℕ))) (found : Bool) (fields : List (List ℕ)) → IsReading old
    → (has_failed old ≡ true → found ≡ false)
    → (old.trim ≡ trim.None → Ready old → ReadRecord (λ (s : Bor (List ℕ)). Some s.now) old new found fields)
    → Reads found (left_of (λ (s : Bor (List ℕ)). Some s.now) old) fields (left_of (λ (s : Bor (List ℕ)). Some s.now) new)
reads old new found fields (inl failed) none read = rw (none failed, failed) refl
reads old new found fields (inr set) none read =
    let r = read set.plain set.ready in
    let known = told old set.going in
    rw r.1 (from_bytes old.config old.state new.state (source_of (λ (s : Bor (List ℕ)). Some s.now) old) (pending_of (Some new.rdr.now) new) known.0 found fields set.standard known.1 r.0)

-- an error of such a reader is not of a record's form
pub formless : {R : Type 0} (rem : R → Option (List ℕ)) (old new : Reader R) (of : ErrorKind) → IsReading old → (has_failed old ≡ true → ⊥)
    → (Ready old → ExplainsRead rem old new false of) → stops_reader of ≡ true
formless rem old new (kind.Io cause) reading going why = refl
formless rem old new kind.OutOfMemory reading going why = refl
formless rem old new of (inl failed) going why = absurd (going failed)
formless rem old new (kind.UnequalLengths at expected len) (inr set) going why = cc (sym set.flexible ∙ (why set.ready).0)
formless rem old new (kind.Utf8 at cause) (inr set) going why = cc (why set.ready).0
formless rem old new (kind.Serialize text) (inr set) going why = absurd (why set.ready)
formless rem old new (kind.Deserialize at cause) (inr set) going why = absurd (why set.ready)

-- a reader that failed has no records left
pub none_after : (reader : Reader (Bor (List ℕ))) → has_failed reader ≡ true → left_of (λ (s : Bor (List ℕ)). Some s.now) reader ≡ []
none_after reader failed = rw failed refl
