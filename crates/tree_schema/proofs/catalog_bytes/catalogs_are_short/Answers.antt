use Rattle.tree_schema.proofs.catalog_bytes.catalogs_are_short.Goals as goal

pub returns : goal.returns
returns c = record {
  short = λ cat here fits.
      let means = (c.one_schema_reading.ensures.read here.declared.text cat.schema).0 here.declared.means in
      let proper = c.a_catalog_of_each_text.ensures here.declared.text cat means here.one_each here.within here.used fits here.some_version in
      (proper, c.no_catalog_is_long.ensures cat proper);
}
