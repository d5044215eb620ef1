use Rattle.std.proofs.Common.{arith}
use Rattle.ghost_model.specs.forms.Runs.{per_page}
use Rattle.ghost_model.proofs.LayoutLemmas.Numbers.{some_per_page, pages_few, place_within, cell_within, remainder}
use Rattle.ghost_model.proofs.layout.records_stand_within.Goals as goal

pub returns : goal.returns
returns c = λ run wide narrow. record {
  some = some_per_page run.width wide narrow;
  page = λ place low. let p = place_within place run.count (per_page run.width) (some_per_page run.width wide narrow) low in omega (arith, p);
  slot = λ place. remainder place (per_page run.width) (some_per_page run.width wide narrow);
  bytes = λ slot low. cell_within slot run.width low;
  few = pages_few run.count run.width wide narrow;
}
