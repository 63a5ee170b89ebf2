use Rattle.std.proofs.Common.{◌≡◌, ◌≤◌, ◌++◌, length, take, drop}
use Rattle.report_text.specs.Report.{numbered}
use Rattle.outcome_text.specs.Looks.{AreLeft}
use Rattle.outcome_text.specs.Survey.{new_among, block_text, blocks_text, woven}
use Rattle.outcome_text.proofs.survey.heads.Given as goal

-- the blocks so far and those that are left make the whole, and the table has the looks that are left
abbrev pub invariant-loop-told : goal.invariant-loop-told
invariant-loop-told l = record {
  few : l.number ≤ l.told-index;
  many : length l.heads.items ≡ l.told-index;
  left : AreLeft l.sums (take l.told-index l.all) l.all;
  whole : woven l.heads.items (take l.told-index l.all) ++ numbered (block_text l.all) l.number (new_among (take l.told-index l.all) (drop l.told-index l.all)) ≡ blocks_text l.all;
}
