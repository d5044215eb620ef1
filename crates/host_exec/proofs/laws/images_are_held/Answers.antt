use Rattle.host_exec.proofs.ImageTables.{image_is_held}
use Rattle.host_exec.proofs.laws.images_are_held.Goals as goal

pub returns : goal.returns
returns c catalog public file starts spells at = image_is_held catalog public file starts spells at
