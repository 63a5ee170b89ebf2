use Rattle.std.proofs.Common.{◌≡◌, ℕ, List, drop}
use Rattle.event_log.specs.Handles.{open_after}
use Rattle.event_log.specs.Records.{events_read}
use Rattle.event_log.proofs.log.is_open_after.Given as goal

-- after the events that are left, it is open where it is after all
abbrev pub invariant-loop-record : goal.invariant-loop-record
invariant-loop-record l =
    (bytes : List ℕ) → open_after l.handle l.is_open (events_read bytes (drop l.record-index l.records)) ≡ open_after l.handle l.was (events_read bytes l.records)
