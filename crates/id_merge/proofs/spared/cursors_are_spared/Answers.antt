use Rattle.id_merge.proofs.Sparing.{cursors_stay_ready, merge_stays_ready, cursors_stay_right, cursors_stay_given, unread_stays, outside_stays, merge_is_small}
use Rattle.id_merge.proofs.spared.cursors_are_spared.Goals as goal

pub returns-clause-cursors : goal.returns-clause-cursors
returns-clause-cursors c = cursors_stay_ready

pub returns-clause-merge : goal.returns-clause-merge
returns-clause-merge c = merge_stays_ready

pub returns-clause-right : goal.returns-clause-right
returns-clause-right c = cursors_stay_right

pub returns-clause-given : goal.returns-clause-given
returns-clause-given c = cursors_stay_given

pub returns-clause-unread : goal.returns-clause-unread
returns-clause-unread c = unread_stays

pub returns-clause-outside : goal.returns-clause-outside
returns-clause-outside c = outside_stays

pub returns-clause-small : goal.returns-clause-small
returns-clause-small c = merge_is_small
