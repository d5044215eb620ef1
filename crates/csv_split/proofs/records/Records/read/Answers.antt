use Rattle.std.proofs.Common.{Bor, ◌∙◌, sym, ℕ, List, Some}
use Rattle.csv.specs.Records.{fields_of}
use Rattle.csv.specs.Reading.{stops_reader, error_kind}
use Rattle.csv_split.proofs.ReadRecords.{formless, none_after, stays, stays_after, reads}
use Rattle.csv_split.proofs.records.Records.read.Goals as goal

pub wanting-requires : goal.wanting-requires
wanting-requires c =
    formless (λ (s : Bor (List ℕ)). Some s.now) c.self.inside.reader c.read_byte_record.new.self (error_kind c.in-Err.error) c.self.invariant
    (λ failed. cc (sym c.in-Err.is ∙ c.read_byte_record.ensures.failed failed)) c.in-Err.ensures.why

pub invariant_of-self : goal.invariant_of-self
invariant_of-self c =
    stays c.self.inside.reader c.read_byte_record.new.self (stops_reader (error_kind c.in-Err.error)) c.self.invariant
    (λ failed. cc (sym c.in-Err.is ∙ c.read_byte_record.ensures.failed failed)) c.in-Err.ensures.fails c.in-Err.ensures.goes_on

pub invariant_of-self-2 : goal.invariant_of-self-2
invariant_of-self-2 c =
    stays_after (λ (s : Bor (List ℕ)). Some s.now) c.self.inside.reader c.read_byte_record.new.self c.in-Ok.found (fields_of c.read_byte_record.new.row) c.self.invariant
    c.in-Ok.ensures.goes c.in-Ok.ensures.ready c.in-Ok.ensures.reads c.in-Ok.ensures.flexible

pub returns-in-Err-clause-stopped : goal.returns-in-Err-clause-stopped
returns-in-Err-clause-stopped c =
    none_after c.read_byte_record.new.self
    (c.in-Err.ensures.fails
    ∙ formless (λ (s : Bor (List ℕ)). Some s.now) c.self.inside.reader c.read_byte_record.new.self (error_kind c.in-Err.error) c.self.invariant
    (λ failed. cc (sym c.in-Err.is ∙ c.read_byte_record.ensures.failed failed)) c.in-Err.ensures.why)

pub returns-clause-read : goal.returns-clause-read
returns-clause-read c =
    rw (← c.self.view_is)
    (reads c.self.inside.reader c.read_byte_record.new.self c.in-Ok.found (fields_of c.read_byte_record.new.row) c.self.invariant
    (λ failed. cc (sym c.in-Ok.is ∙ c.read_byte_record.ensures.failed failed)) c.in-Ok.ensures.reads)
