-- How a call ended whose words were not read.
use Rattle.key_words.specs.declared.words.WordsFault.{WordsFault}
use Rattle.key_words.specs.declared.words.WordsFault.TheVariants as words
use Rattle.key_commands.specs.declared.ending.Ended.{Ended}
use Rattle.key_commands.specs.declared.ending.Ended.TheVariants as ended

abbrev pub ended_by : WordsFault → Ended
ended_by words.NoMemory = ended.NoMemory
ended_by (words.Usage fault) = ended.Usage fault
