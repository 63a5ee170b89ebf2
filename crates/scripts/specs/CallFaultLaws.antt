-- What holds of what is told of a refused call.
use Rattle.std.specs.Prelude.{◌≡◌, ℕ, List, is_some, is_none}
use Rattle.serde_json.specs.Data.{Data}
use Rattle.scripts.specs.declared.calls.Version.{Version}
use Rattle.scripts.specs.declared.labels.Label.{Label}
use Rattle.scripts.specs.Calls.{call_of}
use Rattle.scripts.specs.CallFaults.{fault_in_call}

-- a call is refused exactly where something is wrong with it
abbrev pub EachRefusalIsTold : Type 0
EachRefusalIsTold =
    (version : Version) (labels : List Label) (k : ℕ) (d : Data)
    → is_some (fault_in_call version labels k d) ≡ is_none (call_of version labels k d)
