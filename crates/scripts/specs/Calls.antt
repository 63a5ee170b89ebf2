-- The calls of a script's actors, over the data that it is.
use Rattle.std.specs.Prelude.{ℕ, ◌&&◌, ◌||◌, List, Bool, true, false, not, nat_lt, if◌then◌else◌, Option, Some, None, option_map, Result, Ok, Err, codes}
use Rattle.serde_json.specs.Data.{Data, Items}
use Rattle.path_text.specs.Name.{same_bytes}
use Rattle.path_text.specs.declared.flags.Flags.{Flags}
use Rattle.root_ops.specs.declared.op.Op.{Op}
use Rattle.root_ops.specs.declared.op.Op.TheVariants as op
use Rattle.root_ops.specs.declared.op.Request.{Request}
use Rattle.tree_model.specs.Entries.{with_some, refuse_if}
use Rattle.scripts.specs.declared.calls.Purpose.{Purpose}
use Rattle.scripts.specs.declared.calls.Purpose.TheVariants.{Turns, Jobs}
use Rattle.scripts.specs.declared.calls.Version.{Version}
use Rattle.scripts.specs.declared.calls.Version.TheVariants.{One, Two}
use Rattle.scripts.specs.declared.fault.ScriptFault.{ScriptFault}
use Rattle.scripts.specs.declared.labels.Label.{Label}
use Rattle.race_core.specs.declared.plan.Planned.{Planned}
use Rattle.race_core.specs.declared.plan.Planned.TheVariants as planned
use Rattle.scripts.specs.declared.words.OpName.{OpName}
use Rattle.scripts.specs.declared.words.OpName.TheVariants.{Resolve, ResolveNoFollow, MkdirAll, ReadLink, CreateFile, CreateDir, CreateLink, RemoveFile, RemoveDir, RemoveAll, Rename}
use Rattle.scripts.specs.declared.fault.ScriptFault.TheVariants.{Call, NoJob}
use Rattle.scripts.specs.CallFaults.{fault_in_call}
use Rattle.scripts.specs.Checks.{each}
use Rattle.scripts.specs.Fields.{text_in, mode_in, flag_in}
use Rattle.scripts.specs.Labels.{takes_label, labels_from, has_good_label}
use Rattle.scripts.specs.Steps.{released_in, step_of}
use Rattle.scripts.specs.Words.{op_name_of}

-- the restrictions of a call: none in version 1
abbrev pub flags_in : Version → Data → Option Flags
flags_in One d = Some (record { beneath = false; no_links = false })
flags_in Two d =
    with_some (flag_in (codes "beneath") d) None (λ beneath.
    with_some (flag_in (codes "no_links") d) None (λ no_links.
    Some (record { beneath = beneath; no_links = no_links })))

abbrev pub on_path : (List ℕ → Op) → Data → Option Op
on_path make d = option_map make (text_in (codes "path") d)

-- the operation of that name, with its texts
abbrev pub op_of : OpName → Data → Option Op
op_of Resolve d = on_path op.Resolve d
op_of ResolveNoFollow d = on_path op.ResolveNoFollow d
op_of MkdirAll d = on_path op.MkdirAll d
op_of ReadLink d = on_path op.ReadLink d
op_of CreateFile d = on_path op.CreateFile d
op_of CreateDir d = on_path op.CreateDir d
op_of CreateLink d =
    with_some (text_in (codes "path") d) None (λ path.
    with_some (text_in (codes "text") d) None (λ text.
    Some (op.CreateLink path text)))
op_of RemoveFile d = on_path op.RemoveFile d
op_of RemoveDir d = on_path op.RemoveDir d
op_of RemoveAll d = on_path op.RemoveAll d
op_of Rename d =
    with_some (text_in (codes "from") d) None (λ from.
    with_some (text_in (codes "to") d) None (λ to.
    with_some (mode_in d) None (λ mode.
    Some (op.Rename from to mode))))

-- the operation of that name, with its restrictions, where its label is a good one
abbrev pub request_of : Version → List Label → ℕ → OpName → Data → Option Request
request_of version labels k name d =
    with_some (op_of name d) None (λ op.
    with_some (flags_in version d) None (λ flags.
    refuse_if (takes_label name && not (has_good_label labels k d)) None (Some (record { op = op; flags = flags }))))

-- call k of an actor whose calls give these labels
abbrev pub call_of : Version → List Label → ℕ → Data → Option Planned
call_of version labels k d =
    with_some (text_in (codes "op") d) None (λ word.
    if same_bytes word (codes "step") then option_map planned.Single (step_of labels k d)
    else (if same_bytes word (codes "release") then option_map planned.Release (released_in labels k d)
    else with_some (op_name_of word) None (λ name. option_map planned.Call (request_of version labels k name d))))

-- a job is an operation: no step, and no release
abbrev pub is_job : Planned → Bool
is_job (planned.Call request) = true
is_job (planned.Single step) = false
is_job (planned.Release number) = false

-- whether a call may stand there: where the first actor's calls are jobs, any other call of it is refused
abbrev pub is_fit : Purpose → ℕ → Planned → Bool
is_fit Turns actor call = true
is_fit Jobs actor call = nat_lt 0 actor || is_job call

abbrev pub call_at : Purpose → Version → ℕ → List Label → ℕ → Data → Result Planned ScriptFault
call_at purpose version actor labels k d =
    with_some (call_of version labels k d) (Err (Call actor k (fault_in_call version labels k d))) (λ call.
    refuse_if (not (is_fit purpose actor call)) (Err (NoJob k)) (Ok call))

-- the calls of an actor, or the first that is refused
abbrev pub calls_of : Purpose → Version → ℕ → Items → Result (List Planned) ScriptFault
calls_of purpose version actor items = each (call_at purpose version actor (labels_from 0 items)) 0 items
