use Rattle.std.proofs.Common.{◌≡◌, ◌++◌, drop, map}
use Rattle.drawings.specs.Calls.{call_words}
use Rattle.drawings.proofs.calls.words_of.Given as goal

-- the words so far and those that are left make the whole
abbrev pub invariant-loop-call : goal.invariant-loop-call
invariant-loop-call l = l.words.items ++ map call_words (drop l.call-index l.calls) ≡ map call_words l.calls
