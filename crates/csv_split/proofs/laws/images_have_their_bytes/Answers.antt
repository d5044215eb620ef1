use Rattle.csv_split.proofs.ImageBytes.{images_have_their_bytes}
use Rattle.csv_split.proofs.laws.images_have_their_bytes.Goals as goal

pub returns : goal.returns
returns c = images_have_their_bytes
