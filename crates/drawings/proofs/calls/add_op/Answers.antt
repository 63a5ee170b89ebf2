use Rattle.drawings.proofs.Lists.{two_more}
use Rattle.drawings.proofs.calls.add_op.Goals as goal

pub returns-in-RemoveDir : goal.returns-in-RemoveDir
returns-in-RemoveDir c = rw c.in-RemoveDir.is c.with_text-in-RemoveDir.ensures

pub returns-in-RemoveAll : goal.returns-in-RemoveAll
returns-in-RemoveAll c = rw c.in-RemoveAll.is c.with_text-in-RemoveAll.ensures

pub returns-in_ok-with_text-in-CreateLink : goal.returns-in_ok-with_text-in-CreateLink
returns-in_ok-with_text-in-CreateLink c =
    rw c.in-CreateLink.is (two_more _ _ _ _ _ _ c.in_ok-with_text-in-CreateLink.ensures c.with_text-in-CreateLink-2.ensures)
