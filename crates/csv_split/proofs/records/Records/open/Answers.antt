use Rattle.std.proofs.Common.{◌∙◌, ap₂, inr}
use Rattle.csv_split.specs.Records.{records_left}
use Rattle.csv_split.proofs.records.Records.open.Goals as goal

pub invariant_of-result : goal.invariant_of-result
invariant_of-result c =
    let made = c.from_reader.ensures in
    let flexible = c.flexible.ensures in
    let headers = c.has_headers.ensures in
    inr (record {
      going = made.fresh;
      plain = rw (flexible, headers) at made.trim ∙ c.new.ensures.trim;
      standard = rw (flexible, headers) at made.config ∙ c.new.ensures.config;
      flexible = rw flexible at made.flexible;
      ready = inr (inr (rw (flexible, headers) at made.has_headers, made.headers));
    })

pub returns : goal.returns
returns c = ap₂ records_left c.from_reader.ensures.source c.from_reader.ensures.state
