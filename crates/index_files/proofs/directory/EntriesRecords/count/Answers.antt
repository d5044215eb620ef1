use Rattle.std.proofs.Common.{sym, ◌∙◌}
use Rattle.index_files.specs.Files.{ranks_of}
use Rattle.index_files.proofs.DirectoryRecords.{records_count}
use Rattle.index_files.proofs.directory.EntriesRecords.count.Goals as goal

pub returns : goal.returns
returns g c =
    let source = c.args.self.now in
    c.count.ensures ∙ sym (records_count (g.H.Records.records source.heads.now) (ranks_of source.starts.now) (ranks_of source.begins.now))
