use Rattle.std.proofs.Common.{◌≡◌, length}
use Rattle.dialogue.specs.Dialogue.{asked_of, calling, ran}
use Rattle.dialogue.proofs.asking.ask.Given as goal

-- what was passed over were signals
abbrev pub invariant-loop-answer : goal.invariant-loop-answer
invariant-loop-answer l =
    ran (calling (asked_of l.question)) l.answers.now ≡ ran (calling (asked_of l.question)) l.fn.answers.now

abbrev pub decreases-loop-answer : goal.decreases-loop-answer
decreases-loop-answer l = length l.answers.now
