use Rattle.std.proofs.Common.{ap, subst}
use Rattle.std.specs.Prelude.{option_to_list}
use Rattle.spj_parse.specs.Adding.{Adds}
use Rattle.spj_parse.specs.Views.{field_of}
use Rattle.spj_parse.proofs.ResolveLemmas.{adds_one}
use Rattle.spj_parse.proofs.resolve.add_column.Goals as goal

pub returns-in-Some : goal.returns-in-Some
returns-in-Some c = record {
  added = subst (Adds field_of 32 c.args.select.now.items c.keep.new.kept.items) (ap option_to_list c.in-Some.ensures.first)
      (adds_one field_of 32 _ _ c.in-Some.field c.keep.ensures.room c.keep.ensures.full);
}
