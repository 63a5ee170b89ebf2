use Rattle.std.proofs.Common.{◌≡◌, drop}
use Rattle.drawings.specs.Notes.{later, newest_in}
use Rattle.drawings.proofs.notes.newest_in.Given as goal

-- the newest of those that are left is the newest of all, or else that of those so far is
abbrev pub invariant-loop-place : goal.invariant-loop-place
invariant-loop-place l = later (newest_in l.actor (drop l.place-index l.handles)) l.newest ≡ newest_in l.actor l.handles
