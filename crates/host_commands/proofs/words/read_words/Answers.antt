use Rattle.std.proofs.Common.{map, string_bytes}
use Rattle.clap.specs.Words.{app_of}
use Rattle.host_commands.specs.Words.{names_of}
use Rattle.host_commands.proofs.Reading.{reads_so}
use Rattle.host_commands.proofs.words.read_words.Goals as goal

pub returns-in-Ok-try_get_matches_from-clause-read : goal.returns-in-Ok-try_get_matches_from-clause-read
returns-in-Ok-try_get_matches_from-clause-read c =
    reads_so (map string_bytes c.args.words.now) (app_of c.in-Ok.command) c.in-Ok-try_get_matches_from.matches names_of c.said_by.result c.in-Ok.ensures.app
    c.in-Ok-try_get_matches_from.ensures.matches c.in-Ok-try_get_matches_from.ensures.kinds c.said_by.ensures.read
