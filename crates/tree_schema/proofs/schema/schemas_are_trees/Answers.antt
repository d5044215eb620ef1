use Rattle.tree_schema.proofs.schema.schemas_are_trees.Goals as goal

pub returns : goal.returns
returns c = λ schema declared.
    c.schemas_are_trees.ensures declared.text schema ((c.one_schema_reading.ensures.read declared.text schema).0 declared.means)
