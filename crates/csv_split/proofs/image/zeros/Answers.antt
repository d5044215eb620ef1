use Rattle.csv_split.proofs.ImageCells.{zeros}
use Rattle.csv_split.proofs.image.zeros.Goals as goal

pub returns : goal.returns
returns c = zeros c.args.count 256 c.requires
