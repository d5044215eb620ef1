use Rattle.channel_audit.proofs.Deciding.{each_has_one}
use Rattle.channel_audit.proofs.laws.each_file_has_a_finding.Goals as goal

pub returns : goal.returns
returns c = record { each = each_has_one }
