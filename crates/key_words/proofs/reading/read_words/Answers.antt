use Rattle.std.proofs.Common.{◌≡◌, ◌∙◌, IfOk, Some, ap, map, rules, string_bytes, subst, sym}
use Rattle.clap.specs.Simple.{subcommand_rows_of}
use Rattle.clap.specs.Values.{kind_of}
use Rattle.key_words.specs.Words.{said}
use Rattle.key_words.specs.Views.{words_view}
use Rattle.key_words.specs.declared.words.WordsFault.TheVariants as outcome
use Rattle.key_words.proofs.Causes.{found_rows, ruled, refusing, none_found, caused}
use Rattle.key_words.proofs.reading.read_words.Goals as goal

pub returns-in-Ok-try_get_matches_from-clause-read : goal.returns-in-Ok-try_get_matches_from-clause-read
returns-in-Ok-try_get_matches_from-clause-read c =
    let read = c.in-Ok-try_get_matches_from in
    let is = found_rows (map string_bytes c.args.words.now) _ read.matches c.in-Ok.ensures.app read.ensures.matches read.ensures.kinds in
    subst (λ one. IfOk c.command_of.result (λ command. one ≡ Some (words_view command))) (ap said (sym is)) c.command_of.ensures.read

pub returns-in-Ok-try_get_matches_from-clause-usage : goal.returns-in-Ok-try_get_matches_from-clause-usage
returns-in-Ok-try_get_matches_from-clause-usage c = λ fault told.
    let read = c.in-Ok-try_get_matches_from in
    let is = found_rows (map string_bytes c.args.words.now) _ read.matches c.in-Ok.ensures.app read.ensures.matches read.ensures.kinds in
    ap said is ∙ c.command_of.ensures.usage fault told

pub returns-in-Ok-try_get_matches_from-clause-cause : goal.returns-in-Ok-try_get_matches_from-clause-cause
returns-in-Ok-try_get_matches_from-clause-cause c = λ fault told.
    let read = c.in-Ok-try_get_matches_from in
    let is = found_rows (map string_bytes c.args.words.now) _ read.matches c.in-Ok.ensures.app read.ensures.matches read.ensures.kinds in
    ruled (map string_bytes c.args.words.now) (subcommand_rows_of read.matches) fault is (c.command_of.ensures.rule fault told) (c.command_of.ensures.value fault told)

pub returns-in-Err-clause-usage : goal.returns-in-Err-clause-usage
returns-in-Err-clause-usage c = λ fault told.
    let told_so : c.told_fault.result ≡ outcome.Usage fault = search (rules, told) in
    let among = refusing (map string_bytes c.args.words.now) _ c.in-Err.error c.in-Ok.ensures.app c.in-Err.ensures.kinds (c.told_fault.ensures.memory fault told_so) in
    ap said (none_found (map string_bytes c.args.words.now) (kind_of c.in-Err.error) among)

pub returns-in-Err-clause-cause : goal.returns-in-Err-clause-cause
returns-in-Err-clause-cause c = λ fault told.
    let told_so : c.told_fault.result ≡ outcome.Usage fault = search (rules, told) in
    let among = refusing (map string_bytes c.args.words.now) _ c.in-Err.error c.in-Ok.ensures.app c.in-Err.ensures.kinds (c.told_fault.ensures.memory fault told_so) in
    caused (map string_bytes c.args.words.now) (kind_of c.in-Err.error) fault among (c.told_fault.ensures.told fault told_so) (c.told_fault.ensures.other fault told_so)
