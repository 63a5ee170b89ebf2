use Rattle.std.proofs.Common.{◌≡◌}
use Rattle.serde_json.specs.View.{view, members_view}
use Rattle.scripts.specs.Keys.{has_other, has_other_key}
use Rattle.scripts.proofs.keys.has_other_key.Given as goal

-- no key so far is another one
abbrev pub invariant-loop-key : goal.invariant-loop-key
invariant-loop-key l = has_other l.keys (members_view l.key-iterator) ≡ has_other_key l.keys (view l.value)
