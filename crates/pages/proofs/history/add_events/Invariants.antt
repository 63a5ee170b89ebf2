use Rattle.std.proofs.Common.{◌≡◌, ◌++◌, drop}
use Rattle.pages.specs.History.{events_from}
use Rattle.pages.proofs.history.add_events.Given as goal

-- the tree is where the events so far led, and what is written and what is left to write make the whole
abbrev pub invariant-loop-at : goal.invariant-loop-at
invariant-loop-at l = record {
  same : l.before ≡ l.tree;
  told : l.out ++ events_from l.before l.at (drop l.at l.events.events) ≡ l.fn.out ++ events_from l.fn.tree 0 l.events.events;
}
