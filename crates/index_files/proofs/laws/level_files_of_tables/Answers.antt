use Rattle.index_files.proofs.LevelFiles.{pages_of_tables, file_of_table, written_of_tables}
use Rattle.index_files.proofs.laws.level_files_of_tables.Goals as goal

pub returns : goal.returns
returns c = record { tables = record { pages = pages_of_tables; file = file_of_table; written = written_of_tables } }
