use Rattle.std.proofs.Common.{◌+◌, ◌<◌, length, arith}
use Rattle.index_files.specs.Files.{ranks_of}
use Rattle.index_files.proofs.DirectoryRecords.{column_long, column_at, place_put}
use Rattle.index_files.proofs.directory.put_places.Goals as goal

pub index-requires : goal.index-requires
index-requires c =
    let low = c.loop-level-test.true in
    let level = c.loop-level.level in
    let there : level < length c.args.begins.now = omega (arith, low, c.requires.many) in
    let column = c.index-begins-level.result in
    let long = column_long c.args.begins.now level c.args.entry column c.index-begins-level.is there (c.requires.wide level low) in
    omega (arith, long, column.ok)

pub overflow_add-entry : goal.overflow_add-entry
overflow_add-entry c =
    let low = c.loop-level-test.true in
    let level = c.loop-level.level in
    let column = c.index-starts-level.result in
    let long = column_long c.args.starts.now level (c.args.entry + 1) column c.index-starts-level.is low (c.requires.long level low) in
    omega (arith, long, column.ok, column.small)

pub index-requires-in-loop-level : goal.index-requires-in-loop-level
index-requires-in-loop-level c =
    let low = c.loop-level-test.true in
    let level = c.loop-level.level in
    let column = c.index-starts-level.result in
    let long = column_long c.args.starts.now level (c.args.entry + 1) column c.index-starts-level.is low (c.requires.long level low) in
    omega (arith, long, column.ok)

pub index-requires-in-loop-level-2 : goal.index-requires-in-loop-level-2
index-requires-in-loop-level-2 c =
    let low = c.loop-level-test.true in
    let level = c.loop-level.level in
    let column = c.index-starts-level.result in
    let long = column_long c.args.starts.now level (c.args.entry + 1) column c.index-starts-level.is low (c.requires.long level low) in
    omega (arith, long, column.ok)

pub overflow_sub-index : goal.overflow_sub-index
overflow_sub-index c =
    let low = c.loop-level-test.true in
    let level = c.loop-level.level in
    let column = c.index-starts-level.result in
    let long = c.requires.long level low in
    let starts = c.args.starts.now in
    let start =
    column_at starts level c.args.entry column c.index-starts-level.is low (omega (arith, long))
    c.index-in-loop-level-2.result.now c.index-in-loop-level-2.ensures in
    let end = column_at starts level (c.args.entry + 1) column c.index-starts-level.is low long c.index-in-loop-level.result.now c.index-in-loop-level.ensures in
    omega (arith, start, end, c.requires.rise level low)

pub loop-level-preserved : goal.loop-level-preserved
loop-level-preserved c =
    let low = c.loop-level-test.true in
    let level = c.loop-level.level in
    let starts = c.args.starts.now in
    let begins = c.args.begins.now in
    let there : level < length begins = omega (arith, low, c.requires.many) in
    let long = c.requires.long level low in
    let start =
    column_at starts level c.args.entry c.index-starts-level.result c.index-starts-level.is low (omega (arith, long))
    c.index-in-loop-level-2.result.now c.index-in-loop-level-2.ensures in
    let end =
    column_at starts level (c.args.entry + 1) c.index-starts-level.result c.index-starts-level.is low long c.index-in-loop-level.result.now c.index-in-loop-level.ensures in
    let begin =
    column_at begins level c.args.entry c.index-begins-level.result c.index-begins-level.is there (c.requires.wide level low)
    c.index.result.now c.index.ensures in
    record {
      put = place_put (ranks_of starts) (ranks_of begins) level c.args.entry c.args.at _ _ _ start end begin _ c.loop-level.out c.put_place.new.out
          c.loop-level.invariant.put c.put_place.ensures.put;
    }
