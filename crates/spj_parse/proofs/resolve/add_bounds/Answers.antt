use Rattle.spj_parse.specs.Views.{member_of}
use Rattle.spj_parse.proofs.ResolveLemmas.{adds_lone, adds_more}
use Rattle.spj_parse.proofs.resolve.add_bounds.Goals as goal

pub returns : goal.returns
returns c = record {
  added = adds_more member_of 16 _ _ _ _ _
      (adds_lone member_of 16 _ _ _ _ c.keep.ensures.room c.keep.ensures.full c.member.ensures.member)
      (adds_lone member_of 16 _ _ _ _ c.keep-2.ensures.room c.keep-2.ensures.full c.member-2.ensures.member);
}
