use Rattle.std.proofs.Common.{[], ◌∷◌, sym, map}
use Rattle.visible_spool.specs.Replies.{id_of_bytes}
use Rattle.candidate_gathering.specs.searching.Sets.{reply_with}
use Rattle.candidate_gathering.proofs.searching_lemmas.SetReplies.{identifiers, known, met_among, readable, replied, rows, sound}
use Rattle.candidate_gathering.proofs.searching.laws.sets_are_replies.Goals as goal

pub returns : goal.returns
returns c = record {
  sound = sound;
  readable = readable;
  rows = rows;
  known = known;
  replied = replied;
  identifiers = identifiers;
  met = met_among;
  lists = λ page right cat database of top table index level at whole but lists begun held holds are.
      let ids = map id_of_bytes held in
      c.lists_have_their_rows.ensures.replies page right cat database of (reply_with table ids ∷ []) top table index level (reply_with table ids) at
      (replied cat table ids are) whole but lists begun held holds (sym (identifiers table ids));
}
