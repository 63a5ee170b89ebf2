use Rattle.std.proofs.Common.{◌≡◌, drop}
use Rattle.serde_json.specs.View.{items_view}
use Rattle.scripts.specs.Strict.{is_used}
use Rattle.scripts.proofs.strict.is_used.Given as goal

-- no call so far uses it
abbrev pub invariant-loop-call : goal.invariant-loop-call
invariant-loop-call l = is_used l.label (items_view (drop l.call-index l.calls)) ≡ is_used l.label (items_view l.calls)
