use Rattle.std.proofs.Common.{◌≡◌, ◌≤◌, ◌+◌, ◌++◌, drop}
use Rattle.outcome_text.specs.Schedule.{onward_words, turns_text}
use Rattle.outcome_text.proofs.schedule.turns.Given as goal

-- what is written and what is left to write make the whole
abbrev pub invariant-loop-next : goal.invariant-loop-next
invariant-loop-next l = record {
  few : l.times ≤ l.next-index + 1;
  whole : l.out ++ onward_words l.actor l.times (drop l.next-index l.rest) ≡ l.fn.out ++ turns_text l.fn.list;
}
