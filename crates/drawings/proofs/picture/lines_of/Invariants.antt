use Rattle.std.proofs.Common.{◌≡◌, ◌++◌, drop}
use Rattle.drawings.specs.Picture.{lines_from}
use Rattle.drawings.proofs.picture.lines_of.Given as goal

-- the tree is where the events so far led, and the lines so far and those that are left make the whole
abbrev pub invariant-loop-at : goal.invariant-loop-at
invariant-loop-at l = record {
  same : l.before ≡ l.tree;
  lines : l.lines.items ++ lines_from l.closes l.fn.actors l.opening l.before l.at (drop l.at l.events.events) ≡ lines_from l.closes l.fn.actors l.opening l.opening 0 l.events.events;
}
