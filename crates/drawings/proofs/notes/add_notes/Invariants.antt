use Rattle.std.proofs.Common.{◌≡◌, ◌++◌}
use Rattle.drawings.specs.Notes.{notes_below}
use Rattle.drawings.proofs.notes.add_notes.Given as goal

-- the notes of the actors so far are added
abbrev pub invariant-loop-actor : goal.invariant-loop-actor
invariant-loop-actor l = l.lines.items ≡ l.fn.lines.items ++ notes_below l.opening l.before l.after l.fn.by l.actor
