use Rattle.std.proofs.Common.{◌∙◌, ◌++◌, [], ap, sym, length, get_or, arith}
use Rattle.std.proofs.lemmas.List.{length-map}
use Rattle.index_files.specs.Files.{items_of, ranks_of}
use Rattle.index_files.specs.Directory.{entry_places}
use Rattle.index_files.proofs.DirectoryRecords.{records_count, records_get}
use Rattle.index_files.proofs.directory.EntriesRecords.record.Goals as goal

pub put_head-head-requires-clause-there : goal.put_head-head-requires-clause-there
put_head-head-requires-clause-there g c =
    let source = c.args.self.now in
    omega (arith, c.requires, records_count (g.H.Records.records source.heads.now) (ranks_of source.starts.now) (ranks_of source.begins.now))

pub put_places-width-requires-clause-long : goal.put_places-width-requires-clause-long
put_places-width-requires-clause-long g c = λ level low.
    let source = c.args.self.now in
    let count = records_count (g.H.Records.records source.heads.now) (ranks_of source.starts.now) (ranks_of source.begins.now) in
    let long = source.readable.long level (omega (arith, low, length-map source.starts.now items_of)) in
    omega (arith, c.requires, count, long)

pub put_places-width-requires-clause-wide : goal.put_places-width-requires-clause-wide
put_places-width-requires-clause-wide g c = λ level low.
    let source = c.args.self.now in
    let count = records_count (g.H.Records.records source.heads.now) (ranks_of source.starts.now) (ranks_of source.begins.now) in
    let wide = source.readable.wide level (omega (arith, low, length-map source.starts.now items_of)) in
    omega (arith, c.requires, count, wide)

pub put_places-width-requires-clause-rise : goal.put_places-width-requires-clause-rise
put_places-width-requires-clause-rise g c = λ level low.
    let source = c.args.self.now in
    let count = records_count (g.H.Records.records source.heads.now) (ranks_of source.starts.now) (ranks_of source.begins.now) in
    source.readable.rise level c.args.i (omega (arith, low, length-map source.starts.now items_of)) (omega (arith, c.requires, count))

pub returns : goal.returns
returns g c =
    let source = c.args.self.now in
    let heads = g.H.Records.records source.heads.now in
    let starts = ranks_of source.starts.now in
    let begins = ranks_of source.begins.now in
    c.put_places-width.ensures.put
    ∙ (ap (λ b. b ++ entry_places starts begins c.args.i (length source.starts.now)) c.put_head-head.ensures.put
    ∙ (ap (λ n. get_or heads c.args.i [] ++ entry_places starts begins c.args.i n) (sym (length-map source.starts.now items_of))
    ∙ sym (records_get heads starts begins c.args.i (omega (arith, c.requires, records_count heads starts begins)))))
