-- What of a script nobody looks at, over the data that its JSON text is: a strict reader refuses it (inroot-script(5)).
use Rattle.std.specs.Prelude.{ℕ, ◌+◌, ◌&&◌, ◌||◌, List, Bool, false, not, if◌then◌else◌, Option, Some, None, is_some, Result, Ok, Err, codes}
use Rattle.std.specs.Option.{option_or}
use Rattle.serde_json.specs.Data.{Data, Items, no_items, item}
use Rattle.serde_json.specs.Find.{get}
use Rattle.path_text.specs.Name.{same_bytes}
use Rattle.tree_model.specs.Entries.{with_some}
use Rattle.scripts.specs.declared.calls.Version.{Version}
use Rattle.scripts.specs.declared.calls.Version.TheVariants.{One, Two}
use Rattle.scripts.specs.declared.fault.Loose.{Loose}
use Rattle.scripts.specs.declared.fault.Loose.TheVariants.{Key, ActorKey, CallKey, Restriction, Label}
use Rattle.scripts.specs.declared.fault.ScriptFault.{ScriptFault}
use Rattle.scripts.specs.declared.fault.ScriptFault.TheVariants.{Loose as TooLoose}
use Rattle.scripts.specs.declared.keys.Keys.TheVariants.{Script as ScriptKeys, Actor as ActorKeys}
use Rattle.scripts.specs.Checks.{then_with}
use Rattle.scripts.specs.Fields.{text_in, list_in}
use Rattle.scripts.specs.Input.{data_of}
use Rattle.scripts.specs.Keys.{has_other_key, keys_of_call}
use Rattle.scripts.specs.Labels.{label_of}
use Rattle.scripts.specs.Version.{version_in}

-- ---- labels

-- a step or a release takes a label as what it is on, or as where a rename leads
abbrev pub takes_labels : Data → Bool
takes_labels d = with_some (text_in (codes "op") d) false
    (λ word. same_bytes word (codes "step") || same_bytes word (codes "release"))

abbrev pub is_label_in : List ℕ → List ℕ → Data → Bool
is_label_in key label d = with_some (text_in key d) false (λ text. same_bytes text label)

abbrev pub uses_label : List ℕ → Data → Bool
uses_label label d = takes_labels d && (is_label_in (codes "on") label d || is_label_in (codes "to") label d)

-- one of the calls uses the label
abbrev pub is_used : List ℕ → Items → Bool
is_used label no_items = false
is_used label (item d ds) = uses_label label d || is_used label ds

-- ---- what nobody looks at

-- version 1 doesn't look at restrictions
abbrev pub is_early : Version → Data → Bool
is_early One d = is_some (get (codes "beneath") d) || is_some (get (codes "no_links") d)
is_early Two d = false

abbrev pub loose_key : ℕ → ℕ → Data → Option Loose
loose_key actor k d =
    with_some (keys_of_call d) None (λ keys. if has_other_key keys d then Some (CallKey actor k keys) else None)

abbrev pub loose_label : ℕ → ℕ → Data → Items → Option Loose
loose_label actor k d after =
    with_some (label_of d) None (λ label. if not (is_used label after) then Some (Label actor k) else None)

-- of call k, where these come after it
abbrev pub loose_in_call : Version → ℕ → ℕ → Data → Items → Option Loose
loose_in_call version actor k d after =
    option_or (loose_key actor k d)
    (if is_early version d then Some (Restriction actor k) else loose_label actor k d after)

-- of the calls from number k on, the first thing
abbrev pub loose_in_calls : Version → ℕ → ℕ → Items → Option Loose
loose_in_calls version actor k no_items = None
loose_in_calls version actor k (item d ds) =
    option_or (loose_in_call version actor k d ds) (loose_in_calls version actor (k + 1) ds)

abbrev pub loose_in_actor : Version → ℕ → Data → Option Loose
loose_in_actor version k d =
    if has_other_key ActorKeys d then Some (ActorKey k)
    else with_some (list_in (codes "calls") d) None (loose_in_calls version k 0)

abbrev pub loose_in_actors : Version → ℕ → Items → Option Loose
loose_in_actors version k no_items = None
loose_in_actors version k (item d ds) = option_or (loose_in_actor version k d) (loose_in_actors version (k + 1) ds)

-- of a script, the first thing
abbrev pub first_loose : Data → Option Loose
first_loose d =
    with_some (version_in d) None (λ version.
    if has_other_key ScriptKeys d then Some Key
    else with_some (list_in (codes "actors") d) None (loose_in_actors version 0))

-- ---- reading

abbrev pub unless_loose : Data → Result Data ScriptFault
unless_loose d = with_some (first_loose d) (Ok d) (λ loose. Err (TooLoose loose))

-- the data of a script's bytes, unless there is something in it that nobody looks at
abbrev pub strictly : List ℕ → Result Data ScriptFault
strictly input = then_with (data_of input) unless_loose
