use Rattle.ghost_model.specs.forms.Catalog.{catalog_bytes}
use Rattle.tree_schema.proofs.WindowFills.{is_part}
use Rattle.tree_schema.proofs.catalog_bytes.catalog_part.Goals as goal

pub returns-clause-count : goal.returns-clause-count
returns-clause-count c = (is_part (catalog_bytes c.args.cat.now) c.args.at c.args.out.now _ c.put_catalog.ensures.text).count

pub returns-clause-bytes : goal.returns-clause-bytes
returns-clause-bytes c = (is_part (catalog_bytes c.args.cat.now) c.args.at c.args.out.now _ c.put_catalog.ensures.text).bytes

pub returns-clause-rest : goal.returns-clause-rest
returns-clause-rest c = (is_part (catalog_bytes c.args.cat.now) c.args.at c.args.out.now _ c.put_catalog.ensures.text).rest
