use Rattle.tree_schema.proofs.NoStep.{at_place, named, after_char, after_open, after_length, after_primary, after_references, opens_id, after_id}
use Rattle.tree_schema.proofs.syntax.step_in.Goals as goal

pub returns-in_default : goal.returns-in_default
returns-in_default c = at_place _ _ _ _ c.in-Named.is (named _ _ _ c.in_default.not-Char c.in_default.not-Integer)

pub returns-in_default-mark : goal.returns-in_default-mark
returns-in_default-mark c = at_place _ _ _ _ c.in-AfterChar.is (after_char _ _ _ c.in_default-mark.not-Open)

pub returns-in_default-mark-2 : goal.returns-in_default-mark-2
returns-in_default-mark-2 c = at_place _ _ _ _ c.in-AfterOpen.is (after_open _ _ _ c.in_default-mark-2.not-Digits)

pub returns-in_default-mark-3 : goal.returns-in_default-mark-3
returns-in_default-mark-3 c = at_place _ _ _ _ c.in-AfterLength.is (after_length _ _ _ _ c.in_default-mark-3.not-Closing)

pub returns-in_default-mark-4 : goal.returns-in_default-mark-4
returns-in_default-mark-4 c = at_place _ _ _ _ c.in-AfterPrimary.is (after_primary _ _ _ c.in_default-mark-4.not-Key)

pub returns-in_default-mark-5 : goal.returns-in_default-mark-5
returns-in_default-mark-5 c = at_place _ _ _ _ c.in-AfterReferences.is (after_references _ _ _ _ c.in_default-mark-5.not-Name)

pub returns-in_default-mark-6 : goal.returns-in_default-mark-6
returns-in_default-mark-6 c = at_place _ _ _ _ c.in-OpensId.is (opens_id _ _ _ _ _ c.in_default-mark-6.not-Name)

pub returns-in_default-mark-7 : goal.returns-in_default-mark-7
returns-in_default-mark-7 c = at_place _ _ _ _ c.in-AfterId.is (after_id _ _ _ _ _ c.in_default-mark-7.not-Closing)
